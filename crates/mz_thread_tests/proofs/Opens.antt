-- A thread before its first turn is ready for it.
use Rattle.std.proofs.Common.{◌≡◌, ◌<◌, ◌≤◌, ℕ, List, length, sym, ap, subst, arith, ◌∙◌}
use Rattle.std.specs.Prelude.{All, replicate, slice_index_or, vec_len}
use Rattle.mz_tape.specs.Tapes.{TapeView}
use Rattle.mz_tape.specs.declared.entry.Entry.{Entry}
use Rattle.mz_words.specs.declared.code.Code.{Code}
use Rattle.mz_words.specs.declared.options.Options.{Options}
use Rattle.mz_words.specs.declared.opening.Tries.{Tries}
use Rattle.mz_words.specs.declared.plain.PlainWords.{PlainWords}
use Rattle.mz_words.specs.FirstWords.{IsFreshTape, no_tries}
use Rattle.mz_words.specs.Plain.{no_tape, tape_of, tries_of}
use Rattle.mz_words.specs.Replays.{Follows, Follows_start}
use Rattle.mz_words.specs.Standing.{Standing}
use Rattle.mz_words.specs.Steps.{opening}
use Rattle.mz_thread.specs.declared.thread.Thread.{Thread}
use Rattle.mz_thread.specs.Keeping.{GoesForward, Held, HeldAt}
use Rattle.mz_thread.specs.Noted.{IsNoted, StageIsNoted}
use Rattle.mz_thread_tests.specs.Ready.{IsReady}

fresh_at : (tapes : List TapeView) (turn : ℕ) → turn ≡ 0 → length tapes ≡ 64 → All IsFreshTape tapes → IsFreshTape (slice_index_or tapes turn no_tape)
fresh_at tapes turn e l a = a turn no_tape (omega (arith, e, l))

tries_at : (tries : List Tries) (turn : ℕ) → turn ≡ 0 → tries ≡ replicate 64 no_tries → slice_index_or tries turn no_tries ≡ no_tries
tries_at tries turn e l = ap (λ (x : List Tries). slice_index_or x turn no_tries) l ∙ ap (λ k. slice_index_or (replicate 64 no_tries) k no_tries) e

pub opened : (c : Code) (o : Options) (t : Thread) (w : PlainWords) → GoesForward c → o.steps ≤ 1000000 → 0 < o.tries → o.tries ≤ 4294967295 → 197 ≤ o.heap → t.actor ≡ 0 → t.machine ≡ opening
    → w.turn ≡ 0 → vec_len w.words ≡ o.heap → length w.tapes.items ≡ 64 → All IsFreshTape w.tapes.items → w.tries.items ≡ replicate 64 no_tries → IsReady c o t w
unfolding Held IsNoted
opened c o t w f s r m h a e k n l y z =
    let tape = fresh_at w.tapes.items w.turn k l y in
    let tries = tries_at w.tries.items w.turn k z in
    record {
      zero = a;
      own = a ∙ sym k;
      may = record { forward = f; actor = omega (arith, a); steps = s; tries = r; few_tries = m; size = n; heap = h };
      follows = subst (λ (x : Standing). Follows c o t.actor (tape_of w).list x) (sym e) (subst (λ (p : List Entry). Follows c o t.actor p opening) (sym tape.0) Follows_start);
      held = subst (λ (x : Standing). HeldAt x.stage x.lost (tries_of w).lost (tape_of w).spare) (sym e) (sym (ap (λ (x : Tries). x.lost) tries), tape.1);
      noted = subst (λ (x : Standing). StageIsNoted c x x.stage (tries_of w).note (length (tape_of w).list)) (sym e) tt;
    }
