use Rattle.std.proofs.Common.{◌∷◌, ◌++◌, take, drop, ap, ◌∙◌}
use Rattle.mz_tree.specs.View.{plain_atom}
use Rattle.mz_elab.proofs.Inserted.{set_removed}
use Rattle.mz_elab.proofs.changing.put.Goals as goal

pub returns : goal.returns
returns c = c.in_ok-insert.ensures.inserted ∙ ap (λ l. take c.args.at l ++ plain_atom c.args.new ∷ drop c.args.at l) c.take_at.ensures.rest ∙ set_removed c.args.state.now c.args.at (plain_atom c.args.new) c.requires.within
