-- The words at the opening and threads that haven't started are those of the run without events.
use Rattle.std.proofs.Common.{◌≡◌, ◌<◌, ◌≤◌, ◌-◌, inl, inr, ℕ, zero, suc, List, [], ◌∷◌, length, Option, Some, None, refl, sym, ap, ◌∙◌, subst, arith}
use Rattle.std.specs.Prelude.{All, replicate, slice_get, slice_index_or, vec_len}
use Rattle.std.proofs.lemmas.Bool.{cases_lt}
use Rattle.std.proofs.lemmas.Option.{slice_get-get_or}
use Rattle.mz_tape.specs.Tapes.{TapeView}
use Rattle.mz_words.specs.declared.words.Note.{Note}
use Rattle.mz_words.specs.declared.opening.Tries.{Tries}
use Rattle.mz_words.specs.declared.plain.PlainWords.{PlainWords}
use Rattle.mz_words.specs.declared.code.Code.{Code}
use Rattle.mz_words.specs.declared.options.Options.{Options}
use Rattle.mz_words.specs.FirstWords.{AreFirst, IsFreshTape, no_tries}
use Rattle.mz_words.specs.Plain.{no_tape}
use Rattle.mz_words.specs.Steps.{opening}
use Rattle.mz_words.specs.Raw.{No_events}
use Rattle.mz_thread.specs.declared.thread.Thread.{Thread}
use Rattle.mz_thread.specs.Keeping.{Held}
use Rattle.mz_thread.specs.Noted.{IsNoted as HasNoted}
use Rattle.mz_sched.specs.Running.{first_state, StandsAt, AreFresh, IsReady, Running, standing_of, state_of}
use Rattle.mz_sched.specs.Schedules.{Begins}
use Rattle.mz_words.proofs.Opened.{opened}
use Rattle.mz_words.specs.FirstWords.{first_words}
use Rattle.std.proofs.lemmas.List.{ext_get_or, length-replicate, get_or_past}

same_at : (n k : ℕ) → slice_index_or (replicate n no_tries) k no_tries ≡ no_tries
same_at zero k = refl
same_at (suc n) zero = refl
same_at (suc n) (suc k) = same_at n k

no_some : {A : Type 0} {x : A} → None ≡ Some x → ⊥
no_some e = absurd (cc)

held_first : (lost spare : ℕ) → lost ≡ 0 → 4 ≤ spare → Held opening lost spare
unfolding Held
held_first lost spare e h = (sym e, h)

noted_first : (c : Code) (last : Option Note) (n : ℕ) → HasNoted c opening last n
unfolding HasNoted
noted_first c last n = tt

long_words : (size main : ℕ) → 1024 ≤ size → length (first_words size main) ≡ size
long_words size main h = let z = length-replicate {A = ℕ} (size - 7) 0 in omega (arith, z, h)

module _ (c : Code) (o : Options) (w : PlainWords) (ts : List Thread) (words : AreFirst c.main w.words.items) (size : vec_len w.words ≡ o.heap) (long : length w.tapes.items ≡ 64) (tapes : All IsFreshTape w.tapes.items)
    (tries : w.tries.items ≡ replicate 64 no_tries) (fresh : AreFresh ts) where
  tape : (k : ℕ) → k < 64 → IsFreshTape (slice_index_or w.tapes.items k no_tape)
  tape k h = tapes k no_tape (subst (λ n. k < n) (sym long) h)

  no_try : (k : ℕ) → slice_index_or w.tries.items k no_tries ≡ no_tries
  no_try k = ap (λ (l : List Tries). slice_index_or l k no_tries) tries ∙ same_at 64 k

  ready : (k : ℕ) → k < 64 → IsReady c o (first_state c) No_events w ts k
  ready k h = record {
    seen = record {
      actor = refl;
      part = (tape k h).0;
      noted = λ n e. absurd (no_some (sym (ap (λ (x : Tries). x.note) (no_try k)) ∙ e));
      told = record { words = w.words.items; are = refl; same = λ p. sym (words p) };
    };
    stands = stands ts fresh k h;
    held = held_first _ _ (ap (λ (x : Tries). x.lost) (no_try k)) (tape k h).1;
    noted = noted_first c _ _;
  }
    where
      stands : (ts : List Thread) → AreFresh ts → (k : ℕ) → k < 64 → StandsAt ts k opening
      stands [] f k h = absurd (let m = f.many in omega (arith, m))
      stands (t ∷ ts) f k h = let e = slice_get-get_or (t ∷ ts) k t (subst (λ n. k < n) (sym f.many) h) in record { thread = slice_index_or (t ∷ ts) k t; found = e; number = (f.each k (slice_index_or (t ∷ ts) k t) e).0; stands = (f.each k (slice_index_or (t ∷ ts) k t) e).1 }

  pub started : Running c o w ts
  started = record { last = first_state c; events = No_events; size = size; many = fresh.many; each = ready }

  -- the state in which the schedule begins
  pub schedule_begins : 1024 ≤ o.heap → Begins c o (state_of w ts)
  schedule_begins enough = record {
    words = ext_get_or 0 w.words.items (first_words o.heap c.main) (sym w.words.ok.0 ∙ size ∙ sym (long_words o.heap c.main enough)) (λ p _. words p ∙ sym (opened o.heap c.main p));
    thread = λ k. stand k (slice_get ts k) (fresh.each k);
    part = part;
  }
    where
      stand : (k : ℕ) (x : Option Thread) → ((t : Thread) → x ≡ Some t → (t.actor ≡ k) × (t.machine ≡ opening)) → standing_of x ≡ opening
      stand k None f = refl
      stand k (Some t) f = (f t refl).1

      part : (k : ℕ) → (slice_index_or w.tapes.items k no_tape).list ≡ []
      part k = elim (cases_lt k 64) [
        | inl h ↦ (tape k h).0
        | inr h ↦ ap (λ (x : TapeView). x.list) (get_or_past w.tapes.items k no_tape (subst (λ n. n ≤ k) (sym long) h))
      ]
