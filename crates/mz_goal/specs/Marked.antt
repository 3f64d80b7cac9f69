-- Marks beside a list of permissions.
use Rattle.std.specs.Prelude.{ℕ, zero, suc, List, [], ◌∷◌}
use Rattle.mz_tree.specs.Plain.{Atom}
use Rattle.mz_goal.specs.Goals.{Mark, Unused, Used, Aside, Entry, unused}
use Rattle.mz_goal.specs.declared.marks.Mark.{Mark as CodeMark}
use Rattle.mz_goal.specs.declared.marks.Mark.TheVariants.{Unused as UnusedCode, Used as UsedCode, Aside as AsideCode}

abbrev pub plain_mark : CodeMark → Mark
plain_mark UnusedCode = Unused
plain_mark UsedCode = Used
plain_mark AsideCode = Aside

-- the mark of a place; behind the end of the marks nothing is used or aside
abbrev pub mark_of : List CodeMark → ℕ → Mark
mark_of [] n = Unused
mark_of (m ∷ marks) zero = plain_mark m
mark_of (m ∷ marks) (suc n) = mark_of marks n

-- the permissions, each with the mark of its place
abbrev pub entries : List (Atom ℕ) → List CodeMark → List Entry
entries [] marks = []
entries (a ∷ R) [] = unused a ∷ entries R []
entries (a ∷ R) (m ∷ marks) = record { atom = a; mark = plain_mark m } ∷ entries R marks
