use Rattle.std.proofs.Common.{◌≡◌, ◌+◌, ◌-◌, ℕ, List, length}
use Rattle.mz_tree.specs.Plain.{Atom}
use Rattle.mz_goal.specs.Marked.{entries}
use Rattle.mz_goal.proofs.marks.set_mark.Given as goal

abbrev pub invariant-loop-marks : goal.invariant-loop-marks
invariant-loop-marks l = (R : List (Atom ℕ)) → entries R l.marks ≡ entries R l.initial.marks

abbrev pub decreases-loop-marks : goal.decreases-loop-marks
decreases-loop-marks l = (l.place + 1) - length l.marks
