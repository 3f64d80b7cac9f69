use Rattle.std.proofs.Common.{◌++◌, ap, ◌∙◌, codes, decimal}
use Rattle.mz_cli.proofs.Lines.{place_line}
use Rattle.mz_cli.proofs.text.at_place.Goals as goal

pub returns : goal.returns
returns c = c.in_ok-text.ensures.ok ∙ ap (λ l. codes "refused: " ++ l) (place_line (decimal c.args.place.line) (decimal c.args.place.col) c.args.what.now)
