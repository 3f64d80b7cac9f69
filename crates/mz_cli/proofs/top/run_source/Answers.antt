use Rattle.std.proofs.Common.{◌≡◌, string_bytes}
use Rattle.mz_tree.specs.View.{plain_program}
use Rattle.mz_cli.specs.Outcome.{line, Answers}
use Rattle.mz_cli.specs.Answered.{RunAnswers}
use Rattle.mz_cli.specs.declared.words.Mode.TheVariants.{Sched}
use Rattle.mz_cli.specs.declared.status.Status.TheVariants as status
use Rattle.mz_cli.specs.Refusals.{refusal_text}
use Rattle.mz_cli.proofs.Outcomes.{run_answers, refusal_answers, if_ok}
use Rattle.mz_cli.proofs.top.run_source.Goals as goal

pub run_main-requires : goal.run_main-requires
run_main-requires c = (c.args.bytes.now, c.in-Ok.ensures)

pub returns-in-Ok : goal.returns-in-Ok
returns-in-Ok c = if_ok (λ answer. RunAnswers (plain_program c.in-Ok.program) answer.status (string_bytes answer.text)) (λ answer. Answers Sched c.args.bytes.now answer.status (string_bytes answer.text))
    (λ answer run. run_answers c.args.bytes.now (plain_program c.in-Ok.program) answer.status (string_bytes answer.text) c.requires c.in-Ok.ensures run)
    c.run_main.result c.run_main.ensures

pub returns-in-Err-Refused : goal.returns-in-Err-Refused
returns-in-Err-Refused c =
    let wrong = rw c.in-Err-Refused.field-0-is at c.in-Err-Refused.ensures in
    if_ok (λ answer. (answer.status ≡ status.Refused) × (string_bytes answer.text ≡ line (refusal_text c.in-Err-Refused.refusal))) (λ answer. Answers Sched c.args.bytes.now answer.status (string_bytes answer.text))
    (λ answer refused. refusal_answers c.args.bytes.now c.in-Err-Refused.refusal answer.status (string_bytes answer.text) c.requires wrong refused)
    c.refuse.result c.refuse.ensures
