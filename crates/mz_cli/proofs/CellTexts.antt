-- The program of a text of the first form is one of cells.
use Rattle.std.proofs.Common.{◌≡◌, ℕ, Bool, true, false, not, List, refl, sym, ap, ◌∙◌, subst}
use Rattle.mz_tree.specs.Programs.{Program}
use Rattle.mz_scope.specs.Trees.{tree_of}
use Rattle.mz_scope.specs.Reads.{Reads}
use Rattle.mz_cli.specs.FirstForm.{is_form, names_function, is_first_form}
use Rattle.mz_cli.proofs.Cells.{IsOfCells}
use Rattle.mz_cli.proofs.CellPrograms.{of_cells}
use Rattle.mz_cli.proofs.FirstForms.{both, cell_tree_of}

is_not : (b : Bool) → not b ≡ true → b ≡ false
is_not false is = refl
is_not true is = cc

pub cells_read : (bytes : List ℕ) (program : Program) (reads : Reads bytes program) → is_first_form reads.surface program ≡ true → IsOfCells program
cells_read bytes program reads first =
    let parts = both (is_form reads.surface.declarations) (not (names_function program)) first in
    subst IsOfCells (sym reads.flattens.flat)
    (of_cells (tree_of reads.surface) (cell_tree_of reads.surface parts.0) reads.flattens.clean reads.flattens.begins
    (ap names_function (sym reads.flattens.flat) ∙ is_not (names_function program) parts.1))
