use Rattle.std.proofs.Common.{ap, ◌∙◌}
use Rattle.std.specs.List.{remove}
use Rattle.mz_tree.specs.View.{plain_atom, plain_atoms}
use Rattle.mz_index.proofs.Edits.{map_remove}
use Rattle.mz_index.proofs.index.Indexed.take_at.Goals as goal

pub returns-clause-rest : goal.returns-clause-rest
returns-clause-rest c = ap plain_atoms c.remove.ensures.items ∙ map_remove plain_atom c.self.inside.atoms.items c.args.place ∙ ap (λ l. remove l c.args.place) c.self.view_is
