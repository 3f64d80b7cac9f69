use Rattle.std.proofs.Common.{subst, sym, ap, ◌∙◌, ◌++◌, ◌∷◌, []}
use Rattle.mz_tree.specs.Plain.{Has_atom, Same_atom, atoms_of}
use Rattle.mz_tree.specs.View.{plain_atom, plain_atoms}
use Rattle.mz_tree.proofs.Views.{plain_lock}
use Rattle.mz_perm.specs.Lists.{In}
use Rattle.mz_view.proofs.spots.set_lock.Goals as goal

pub returns-in_ok-add-in-At : goal.returns-in_ok-add-in-At
returns-in_ok-add-in-At c = record {
  held = subst (λ a. In a c.args.state.now) c.requires (c.has.ensures.0 c.if-not-has.false);
  name = c.in-At.left;
  is_name = c.in-At.ensures;
  equal = c.has-in-At.ensures.0 c.if-not-has-2.false;
  guarded = atoms_of (plain_atoms c.in_ok-changed-in-At.changed);
  puts = c.in_ok-changed-in-At.ensures;
  new = c.in_ok-add-in-At.ensures.added ∙ ap (λ t. c.args.state.now ++ Has_atom c.args.name t ∷ []) (plain_lock c.in_ok-changed-in-At.changed);
}
