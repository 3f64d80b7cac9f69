use Rattle.std.proofs.Common.{◌++◌, ap, ◌∙◌, codes, decimal}
use Rattle.mz_cli.proofs.Lines.{one_line}
use Rattle.mz_cli.proofs.text.stopped.Goals as goal

pub returns : goal.returns
returns c = c.in_ok-text.ensures.ok ∙ ap (λ l. codes "stopped: thread 0: arithmetic at " ++ l) (one_line (decimal c.args.place.line) (decimal c.args.place.col))
