use Rattle.std.proofs.Common.{ap, ◌∙◌, arith, slice_set}
use Rattle.mz_goal.specs.Goals.{Entry}
use Rattle.mz_goal.specs.Marked.{plain_mark, entries}
use Rattle.mz_goal.proofs.Marking.{more_marks, set_entry}
use Rattle.mz_goal.proofs.marks.set_mark.Goals as goal

pub loop-marks-preserved : goal.loop-marks-preserved
loop-marks-preserved c R = ap (entries R) c.in_ok-push.ensures.ok ∙ more_marks R c.loop-marks.marks ∙ c.loop-marks.invariant R

pub returns : goal.returns
returns c R a e =
    let one : Entry = record { atom = a; mark = plain_mark c.args.mark } in
    ap (entries R) c.set.ensures ∙ set_entry R c.loop-marks.marks c.args.place a c.args.mark (omega arith) e ∙ ap (λ l. slice_set l c.args.place one) (c.loop-marks.invariant R)
