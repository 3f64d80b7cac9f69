use Rattle.std.proofs.Common.{◌++◌, ap, ◌∙◌, codes, decimal}
use Rattle.mz_cli.proofs.Lines.{step_line}
use Rattle.mz_cli.proofs.text.at_step.Goals as goal

pub returns : goal.returns
returns c = c.in_ok-text.ensures.ok ∙ ap (λ l. codes "refused: " ++ l) (step_line (decimal c.args.place.line) (decimal c.args.place.col) (decimal c.args.step))
