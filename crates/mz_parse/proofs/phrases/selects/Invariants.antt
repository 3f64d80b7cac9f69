use Rattle.std.proofs.Common.{◌≡◌, length, ◌-◌}
use Rattle.mz_grammar.specs.Reading.{many_at}
use Rattle.mz_grammar.proofs.Loops.{with_front}
use Rattle.mz_types.specs.Words.{mark}
use Rattle.mz_parse.specs.BodyReading.{select_at}
use Rattle.mz_parse.proofs.phrases.selects.Given as goal

-- the selects so far, before what the reader on lists still reads, are what it reads in all
abbrev pub invariant-loop-i : goal.invariant-loop-i
invariant-loop-i l = with_front l.items (many_at (mark 7) select_at (length l.tokens - l.i) l.rest) ≡ many_at (mark 7) select_at (length l.tokens) l.tokens
