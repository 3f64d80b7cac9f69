use Rattle.std.proofs.Common.{subst}
use Rattle.mz_tree.specs.View.{plain_atom}
use Rattle.mz_decl.specs.View.{plain_decls}
use Rattle.mz_goal.specs.Marked.{entries}
use Rattle.mz_goal.specs.Answers.{Did}
use Rattle.mz_goal.proofs.Commands.{from_met, from_unmet}
use Rattle.mz_goal.proofs.command.meet_from.Goals as goal

pub returns-then-not-branch-clause-met : goal.returns-then-not-branch-clause-met
returns-then-not-branch-clause-met c =
    let D = plain_decls c.args.decls.now in
    let g = plain_atom c.args.goal.now in
    let L = c.in_ok-left.left in
    let M = c.args.marks in
    from_unmet D c.args.state.now L M g c.args.steps.now c.in_ok-left.ensures (subst (λ b. Did b D (entries L M) g (entries c.meet.new.state c.meet.new.marks) c.new-made.result c.meet.new.steps) c.if-not-branch.true c.in_ok-meet.ensures)

pub returns-clause-met : goal.returns-clause-met
returns-clause-met c =
    let D = plain_decls c.args.decls.now in
    let g = plain_atom c.args.goal.now in
    let L = c.in_ok-left.left in
    let M = c.args.marks in
    from_met D c.args.state.now L c.meet.new.state M c.meet.new.marks g c.args.steps.now c.append.new.steps c.new-made.result c.meet.new.steps c.in_ok-left.ensures c.new-made.ensures (subst (λ b. Did b D (entries L M) g (entries c.meet.new.state c.meet.new.marks) c.new-made.result c.meet.new.steps) c.if-not-branch.false c.in_ok-meet.ensures) c.in_ok-append.ensures.added
