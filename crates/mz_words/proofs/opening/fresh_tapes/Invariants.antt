use Rattle.std.proofs.Common.{◌≡◌, All, vec_len}
use Rattle.mz_words.specs.FirstWords.{IsFreshTape}
use Rattle.mz_words.proofs.opening.fresh_tapes.Given as goal

abbrev pub invariant-loop-i : goal.invariant-loop-i
invariant-loop-i l = record { many : vec_len l.tapes ≡ l._i; fresh : All IsFreshTape l.tapes.items }
