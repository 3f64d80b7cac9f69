use Rattle.std.proofs.Common.{◌≡◌, suc, length, ◌-◌}
use Rattle.mz_grammar.specs.Reading.{many_at}
use Rattle.mz_grammar.proofs.Loops.{with_front}
use Rattle.mz_types.specs.Words.{mark}
use Rattle.mz_parse.specs.BodyReading.{next_at}
use Rattle.mz_parse.specs.DeclarationReading.{need_by}
use Rattle.mz_parse.proofs.declarations.next_needs.Given as goal

-- the needs so far, before what the reader on lists still reads, are what it reads in all
abbrev pub invariant-loop-i : goal.invariant-loop-i
invariant-loop-i l = with_front l.items (many_at (mark 9) (next_at (mark 9) (need_by (suc l.inside))) (length l.tokens - l.i) l.rest) ≡ many_at (mark 9) (next_at (mark 9) (need_by (suc l.inside))) (length l.tokens) l.tokens
