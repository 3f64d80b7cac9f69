use Rattle.std.proofs.Common.{◌++◌, ap, ◌∙◌, string_bytes}
use Rattle.mz_tree.specs.View.{plain_program}
use Rattle.mz_named.specs.View.{plain_config}
use Rattle.mz_cli.specs.Outcome.{print_lines, stop_line}
use Rattle.mz_cli.proofs.Outcomes.{ended, halted}
use Rattle.mz_cli.proofs.top.run_main.Goals as goal

pub returns-in-Ended : goal.returns-in-Ended
returns-in-Ended c = ended (plain_program c.args.program.now) (plain_config c.in_ok-run.run'.config).prints (string_bytes c.in_ok-text.text)
    (rw c.in-Ended.is at c.in_ok-run.ensures) (c.in_ok-text.ensures ∙ ap print_lines c.prints.ensures)

pub returns : goal.returns
returns c = halted (plain_program c.args.program.now) c.in-Stopped.place (plain_config c.in_ok-run.run'.config).prints (string_bytes c.push_str.new.self)
    (rw c.in-Stopped.is at c.in_ok-run.ensures)
    (c.in_ok-push_str-in-Stopped.ensures.bytes ∙ ap (λ l. string_bytes c.in_ok-text.text ++ l) (c.deref.ensures ∙ c.in_ok-line-in-Stopped.ensures)
    ∙ ap (λ l. l ++ stop_line c.in-Stopped.place) (c.in_ok-text.ensures ∙ ap print_lines c.prints.ensures))
