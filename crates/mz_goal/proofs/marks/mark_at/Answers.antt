use Rattle.mz_goal.proofs.Marking.{marked_at, unmarked_at}
use Rattle.mz_goal.proofs.marks.mark_at.Goals as goal

pub returns-in-Some : goal.returns-in-Some
returns-in-Some c = marked_at c.args.marks.now c.args.place c.in-Some.mark.now c.in-Some.ensures.value

pub returns-in-None : goal.returns-in-None
returns-in-None c = unmarked_at c.args.marks.now c.args.place c.in-None.ensures.value
