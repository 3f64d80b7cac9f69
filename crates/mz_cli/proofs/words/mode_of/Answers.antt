use Rattle.std.proofs.Common.{subst, arith}
use Rattle.mz_cli.specs.Words.{TellsMode}
use Rattle.mz_cli.proofs.Outcomes.{words_told, two_asked}
use Rattle.mz_cli.proofs.words.mode_of.Goals as goal

pub returns-in-len2 : goal.returns-in-len2
returns-in-len2 c = words_told c.args.words.now c.mode-item.result c.named.result c.in-len2.len_at_least c.in-len2.len_below c.mode-item.is
    (subst (λ l. TellsMode l c.named.result) c.as_bytes.ensures.value c.named.ensures)
