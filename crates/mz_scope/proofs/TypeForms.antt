-- The view of a type that holds permissions, by the list that the code reads.
use Rattle.std.proofs.Common.{◌≡◌, ℕ, List, refl, ap, ◌∙◌}
use Rattle.mz_token.specs.declared.token.Token.{Token}
use Rattle.mz_types.specs.declared.tree.SurfaceType.{Lock, Row_of-SurfaceAtom, end_of-SurfaceAtom, more_of-SurfaceAtom, items-the_row-SurfaceAtom, items_hidden-the_row-SurfaceAtom-0}
use Rattle.mz_types.specs.declared.tree.SurfaceAtom.{SurfaceAtom}
use Rattle.mz_types.specs.declared.tree.SurfaceAtom.TheBlock.{hidden-the_row-SurfaceAtom-0}
use Rattle.mz_scope.specs.Syntax.{Lock_tree, More_atom_trees}
use Rattle.mz_scope.specs.Trees.{type_tree, atom_tree, atom_row, atom_trees}

-- a row is seen as the views of its permissions, by going along it
row_is : (bytes : List ℕ) (m : _) (row : Row_of-SurfaceAtom m) → atom_row bytes row ≡ atom_trees bytes (items-the_row-SurfaceAtom m row)
row_is bytes _ end_of-SurfaceAtom = refl
row_is bytes _ (more_of-SurfaceAtom a rest) = ap (More_atom_trees (atom_tree bytes a)) (row_is bytes _ rest)

-- a lock's type is seen by the list of its permissions
pub lock_tree_is : (bytes : List ℕ) (key : Token) (atoms : List SurfaceAtom) → type_tree bytes (Lock key atoms) ≡ Lock_tree (atom_trees bytes atoms)
lock_tree_is bytes key atoms = ap Lock_tree (row_is bytes _ (hidden-the_row-SurfaceAtom-0 atoms)) ∙ ap (λ l. Lock_tree (atom_trees bytes l)) (items_hidden-the_row-SurfaceAtom-0 atoms)
