use Rattle.std.proofs.Common.{◌≡◌}
use Rattle.mz_tree.specs.View.{plain_program}
use Rattle.mz_named.specs.Answering.{IsOver, Answers}
use Rattle.mz_named.specs.Planning.{Looks}
use Rattle.mz_named.specs.Moving.{Settles}
use Rattle.mz_named.specs.View.{config_of}
use Rattle.mz_named.proofs.Answering.{answers}
use Rattle.mz_named.proofs.OneThread.{if_ok}
use Rattle.mz_named.proofs.Suiting.{found, suits}
use Rattle.mz_named.proofs.step.step.Goals as goal

pub settle-requires-clause-suits : goal.settle-requires-clause-suits
settle-requires-clause-suits c =
    let looks = found c.in_ok-plan.field-0 c.in-Some.plan
    (IsOver (config_of c.args.cells.now.items c.args.threads.now.items c.args.prints.now) c.args.k × (c.look.new.cells.items ≡ c.args.cells.now.items) × (c.look.new.prints ≡ c.args.prints.now))
    (λ plan. Looks (plain_program c.args.program.now) c.args.cells.now.items c.args.prints.now c.args.threads.now.items c.args.k plan c.look.new.cells.items c.look.new.prints)
    c.in_ok-plan.ensures.looks c.in-Some.is in
    (looks.frame, looks.below, looks.here, suits (plain_program c.args.program.now) c.args.cells.now.items c.look.new.cells.items c.args.prints.now c.look.new.prints looks.frame looks.below.items c.in-Some.plan looks.comes)

pub returns-in-Some-clause-answers : goal.returns-in-Some-clause-answers
returns-in-Some-clause-answers c =
    let looks = found c.in_ok-plan.field-0 c.in-Some.plan
    (IsOver (config_of c.args.cells.now.items c.args.threads.now.items c.args.prints.now) c.args.k × (c.look.new.cells.items ≡ c.args.cells.now.items) × (c.look.new.prints ≡ c.args.prints.now))
    (λ plan. Looks (plain_program c.args.program.now) c.args.cells.now.items c.args.prints.now c.args.threads.now.items c.args.k plan c.look.new.cells.items c.look.new.prints)
    c.in_ok-plan.ensures.looks c.in-Some.is in
    if_ok c.settle.result (λ answer. Settles c.args.threads.now.items c.args.k looks.frame looks.below.items c.in-Some.plan answer c.settle.new.threads.items)
    (λ answer. Answers (plain_program c.args.program.now) (config_of c.args.cells.now.items c.args.threads.now.items c.args.prints.now) c.args.k answer (config_of c.look.new.cells.items c.settle.new.threads.items c.look.new.prints))
    (λ answer s. answers (plain_program c.args.program.now) c.args.cells.now.items c.look.new.cells.items c.args.prints.now c.look.new.prints c.args.threads.now.items c.settle.new.threads.items c.args.k looks.frame looks.below looks.here
    c.in-Some.plan answer looks.comes s)
    (c.settle.ensures.settles looks.frame looks.below looks.here)
