use Rattle.std.proofs.Common.{◌≡◌, ◌++◌, drop}
use Rattle.mz_view.specs.Equations.{equations}
use Rattle.mz_view.proofs.meeting.with_equations.Given as goal

abbrev pub invariant-loop-i : goal.invariant-loop-i
invariant-loop-i l = l.next ++ equations (drop l.i l.left) (drop l.i l.right) ≡ l.state ++ equations l.left l.right
