use Rattle.std.proofs.Common.{◌≡◌, ap, ◌∙◌, arith}
use Rattle.std.specs.List.{remove}
use Rattle.mz_goal.specs.Marked.{entries}
use Rattle.mz_goal.proofs.Marking.{take_marked, take_unmarked}
use Rattle.mz_goal.proofs.marks.take.Goals as goal
use Rattle.mz_goal.proofs.marks.take.Goals.{then-place-len, else-place-len}

pub returns-clause-rest : goal.returns-clause-rest
returns-clause-rest c =
    let R = c.args.state.now in
    let M = c.args.marks.now in
    let n = c.args.place in
    let rest : entries c.take_at.new.self c.if-place-len.marks ≡ entries (remove R n) c.if-place-len.marks = ap (λ l. entries l c.if-place-len.marks) c.take_at.ensures.rest in
    elim c.if-place-len.branch [
      | then-place-len w ↦ rest ∙ ap (entries (remove R n)) w.marks-is ∙ ap (entries (remove R n)) w.remove.ensures.rest ∙ take_marked R M n (omega arith) c.requires
      | else-place-len w ↦ rest ∙ ap (entries (remove R n)) w.marks-is ∙ take_unmarked R M n (omega arith) c.requires
    ]
