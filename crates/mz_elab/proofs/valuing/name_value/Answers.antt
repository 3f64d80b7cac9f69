use Rattle.std.proofs.Common.{Err, ap, ◌∙◌, ◌∷◌, [], subst}
use Rattle.std.proofs.lemmas.List.{map-append}
use Rattle.mz_tree.specs.Plain.{Same_atom}
use Rattle.mz_tree.specs.View.{plain_atom, plain_atoms}
use Rattle.mz_tree.specs.declared.types.Atom.{Same}
use Rattle.mz_decl.specs.View.{plain_decls}
use Rattle.mz_elab.specs.Standing.{IsKnown}
use Rattle.mz_elab.specs.Joining.{AllGoOn, plain_ends}
use Rattle.mz_elab.proofs.Named.{named_not, named_left}
use Rattle.mz_elab.proofs.valuing.name_value.Goals as goal

pub unreachable-requires : goal.unreachable-requires
unreachable-requires c =
    let D = plain_decls c.args.decls.now in
    named_not D c.args.to c.args.name (plain_ends c.args.ends.now) c.in-Err-NoPermission.field-0-0 (plain_atom c.in-Err-NoPermission.field-0-1) c.requires.each (subst (λ r. AllGoOn D (IsKnown c.args.bound.now c.args.next) c.args.to (Same_atom c.args.to c.args.name) c.args.ends.now c.give.new.ends r) (c.in-Err-NoPermission.is ∙ ap Err c.in-Err-NoPermission.field-0-is) c.give.ensures)

pub returns : goal.returns
returns c =
    let D = plain_decls c.args.decls.now in
    let met = subst (λ r. AllGoOn D (IsKnown c.args.bound.now c.args.next) c.args.to (Same_atom c.args.to c.args.name) c.args.ends.now c.give.new.ends r) c.in-Ok.is c.give.ensures in
    record {
      same = named_left D c.args.to c.args.name (plain_ends c.args.ends.now) (plain_ends c.give.new.ends) met.0;
      is = ap plain_atoms c.in_ok-push.ensures.ok ∙ map-append plain_atom c.args.join.now (Same c.args.to c.args.name ∷ []);
      written = met.1;
    }
