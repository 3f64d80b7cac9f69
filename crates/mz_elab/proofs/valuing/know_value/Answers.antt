use Rattle.mz_tree.specs.View.{plain_atoms}
use Rattle.mz_decl.specs.View.{plain_decls}
use Rattle.mz_elab.specs.Standing.{IsKnown}
use Rattle.mz_elab.proofs.Valued.{one_name, no_name}
use Rattle.mz_elab.proofs.valuing.know_value.Goals as goal

pub returns-in_ok-name_value-in-Some : goal.returns-in_ok-name_value-in-Some
returns-in_ok-name_value-in-Some c = λ names R s o. one_name (plain_decls c.args.decls.now) (IsKnown c.args.bound.now c.args.next) names R c.args.to c.args.bound.now c.args.ends.now c.name_value.new.ends (plain_atoms c.args.join.now) (plain_atoms c.name_value.new.join) c.in-Some.name c.in_ok-name.field-0 s c.in-Some.is c.in_ok-name.ensures c.in_ok-name_value-in-Some.ensures

pub returns-in_ok-know_type-in-None : goal.returns-in_ok-know_type-in-None
returns-in_ok-know_type-in-None c = λ names R s o. no_name (plain_decls c.args.decls.now) (IsKnown c.args.bound.now c.args.next) names R c.args.to c.args.bound.now c.args.ends.now c.know_type.new.ends (plain_atoms c.args.join.now) (plain_atoms c.know_type.new.join) c.in_ok-name.field-0 s c.in-None.is c.in_ok-name.ensures (c.in_ok-know_type-in-None.ensures names R o)
