use Rattle.std.proofs.Common.{get_or, arith, subst}
use Rattle.std.proofs.lemmas.Option.{slice_get-get_or}
use Rattle.mz_tree.specs.View.{plain_atoms}
use Rattle.mz_decl.specs.View.{plain_decls}
use Rattle.mz_elab.specs.Standing.{IsKnown}
use Rattle.mz_elab.specs.Joining.{HeldTy}
use Rattle.mz_elab.proofs.Valued.{no_branch, no_type, one_type}
use Rattle.mz_elab.proofs.valuing.know_type.Goals as goal

pub returns-then-ends-eq0 : goal.returns-then-ends-eq0
returns-then-ends-eq0 c = λ names R o. no_branch (plain_decls c.args.decls.now) (IsKnown c.args.bound.now c.args.next) names R c.args.to c.args.ends.now (plain_atoms c.args.join.now) c.if-ends-eq0.true

pub returns-in-None : goal.returns-in-None
returns-in-None c = λ names R o. no_type (plain_decls c.args.decls.now) (IsKnown c.args.bound.now c.args.next) names R c.args.to c.args.ends.now (get_or c.args.ends.now 0 c.index-ends-0.result) (plain_atoms c.args.join.now) (slice_get-get_or c.args.ends.now 0 c.index-ends-0.result (omega (arith, c.if-ends-eq0.false))) (subst (HeldTy names R (get_or c.args.ends.now 0 c.index-ends-0.result).state (get_or c.args.ends.now 0 c.index-ends-0.result).value) c.in-None.is (c.in_ok-first_ty.ensures names R o))

pub returns-in_ok-hold_value-in-Some : goal.returns-in_ok-hold_value-in-Some
returns-in_ok-hold_value-in-Some c = λ names R o. one_type (plain_decls c.args.decls.now) (IsKnown c.args.bound.now c.args.next) names R c.args.to c.args.ends.now c.hold_value.new.ends (get_or c.args.ends.now 0 c.index-ends-0.result) (plain_atoms c.args.join.now) (plain_atoms c.hold_value.new.join) c.in-Some.ty (slice_get-get_or c.args.ends.now 0 c.index-ends-0.result (omega (arith, c.if-ends-eq0.false))) (subst (HeldTy names R (get_or c.args.ends.now 0 c.index-ends-0.result).state (get_or c.args.ends.now 0 c.index-ends-0.result).value) c.in-Some.is (c.in_ok-first_ty.ensures names R o)) c.in_ok-hold_value-in-Some.ensures
