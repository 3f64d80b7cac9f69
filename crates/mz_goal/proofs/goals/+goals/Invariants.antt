use Rattle.std.proofs.Common.{◌+◌, ◌*◌}
use Rattle.mz_decl.specs.View.{plain_decls}
use Rattle.mz_goal.specs.Free.{free}
use Rattle.mz_goal.specs.Marked.{entries}
use Rattle.mz_goal.proofs.Fields.{Left}
use Rattle.mz_goal.proofs.goals.+goals.Given as goal

abbrev pub decreases-fold : goal.decreases-fold
decreases-fold l = 2 * free (entries l.state.now l.marks.now)

abbrev pub decreases-meet : goal.decreases-meet
decreases-meet l = 2 * free (entries l.state.now l.marks.now) + 1

abbrev pub invariant-fold-loop-i : goal.invariant-fold-loop-i
invariant-fold-loop-i l = Left (plain_decls l.decls) l.parts l.i (entries l.initial.state l.initial.marks) (entries l.state l.marks) l.initial.steps l.steps
