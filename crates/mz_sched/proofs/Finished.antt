-- Where each thread has its end, what is left is the report of a run.
use Rattle.std.proofs.Common.{◌≡◌, ◌<◌, ◌≤◌, ◌==◌, ◌*◌, ◌^◌, true, inl, inr, ℕ, zero, suc, List, [], ◌∷◌, length, Option, Some, None, false, refl, sym, ap, ◌∙◌, subst, ne_eqb, arith}
use Rattle.std.specs.Prelude.{map, slice_get, slice_index_or}
use Rattle.std.proofs.lemmas.Bool.{cases_lt}
use Rattle.std.proofs.lemmas.List.{length-map, get_or_past}
use Rattle.mz_tape.specs.Tapes.{TapeView}
use Rattle.mz_tape.specs.declared.entry.Entry.{Entry}
use Rattle.mz_words.specs.declared.words.Note.{Note}
use Rattle.mz_words.specs.declared.opening.Tries.{Tries}
use Rattle.mz_words.specs.declared.plain.PlainWords.{PlainWords}
use Rattle.mz_words.specs.declared.code.Code.{Code}
use Rattle.mz_words.specs.declared.options.Options.{Options}
use Rattle.mz_words.specs.declared.ends.End.{End}
use Rattle.mz_words.specs.declared.ends.End.TheVariants.{Memory}
use Rattle.mz_words.specs.declared.stages.Stage.{Stage}
use Rattle.mz_words.specs.declared.stages.Stage.TheVariants.{Over}
use Rattle.mz_words.specs.declared.reports.Report.{Report}
use Rattle.mz_words.specs.FirstWords.{no_tries}
use Rattle.mz_words.specs.Plain.{no_tape}
use Rattle.mz_words.specs.Standing.{Standing}
use Rattle.mz_words.specs.Views.{word_in}
use Rattle.mz_words.specs.Replays.{Follows}
use Rattle.mz_words.specs.Histories.{history}
use Rattle.mz_words.specs.Interleavings.{part_of, FewActors, IsNoted}
use Rattle.mz_words.specs.Ran.{part_in, EndIsNoted, ThreadRan, Ran}
use Rattle.mz_words.proofs.Replaying.{replays}
use Rattle.mz_words.proofs.Joining.{interleaves}
use Rattle.mz_words.proofs.Events.{if_is}
use Rattle.mz_thread.specs.declared.thread.Thread.{Thread}
use Rattle.mz_thread.specs.Noted.{StageIsNoted, IsNoted as HasNoted}
use Rattle.mz_sched.specs.Running.{view_at, first_state, IsRunnable, Running, EndsOf, LostOf, standing_of, state_of, HasRefusal, AfterRounds}
use Rattle.mz_sched.specs.Schedules.{State, Begins, TellsState, MemorySufficed, Sched}
use Rattle.mz_sched.proofs.OneReport.{same_end}
use Rattle.mz_sched.proofs.FewPrints.{few_prints, all_few}
use Rattle.mz_words.specs.Tickets.{prints_among}
use Rattle.mz_print.specs.Prints.{prints_in, TicketsAreInOrder}
use Rattle.mz_print.proofs.Interleaved.{count_parts, count_true, in_order}
use Rattle.mz_words.proofs.Ticketing.{keeps_tickets}
use Rattle.mz_words.specs.Raw.{opening_word}
use Rattle.mz_thread.proofs.Steps.{inside}
use Rattle.mz_sched.proofs.Ready.{opens}

-- ---- lists of ends and of failed tries

record EndAt (ends : List End) (k : ℕ) (t : Thread) : Type 0 where
  end : End
  found : slice_get ends k ≡ Some end
  over : t.machine.stage ≡ Over end

no_cons : {A : Type 0} {x : A} {xs : List A} → [] ≡ x ∷ xs → ⊥
no_cons e = absurd (cc)

no_nil : {A : Type 0} {x : A} {xs : List A} → x ∷ xs ≡ [] → ⊥
no_nil e = absurd (cc)

heads : {A : Type 0} {x y : A} {xs ys : List A} → x ∷ xs ≡ y ∷ ys → (x ≡ y) × (xs ≡ ys)
heads e = (cc, cc)

no_some : {A : Type 0} {x : A} → None ≡ Some x → ⊥
no_some e = absurd (cc)

some_is : {A : Type 0} {x y : A} → Some x ≡ Some y → x ≡ y
some_is e = cc

end_at : (ts : List Thread) (ends : List End) → EndsOf ts ends → (k : ℕ) (t : Thread) → slice_get ts k ≡ Some t → EndAt ends k t
end_at [] ends e k t f = absurd (no_some f)
end_at (u ∷ ts) [] e k t f = absurd (no_cons e)
end_at (u ∷ ts) (x ∷ ends) e zero t f = record { end = x; found = refl; over = ap (λ (y : Thread). y.machine.stage) (sym (some_is f)) ∙ sym (heads e).0 }
end_at (u ∷ ts) (x ∷ ends) e (suc k) t f = let z = end_at ts ends (heads e).1 k t f in record { end = z.end; found = z.found; over = z.over }

abbrev lost_in : Option Thread → Option ℕ
lost_in None = None
lost_in (Some y) = Some y.machine.lost

lost_at : (ts : List Thread) (k : ℕ) (t : Thread) → slice_get ts k ≡ Some t → slice_get (map (λ (t : Thread). t.machine.lost) ts) k ≡ Some t.machine.lost
lost_at [] k t f = absurd (no_some f)
lost_at (u ∷ ts) zero t f = ap (λ (y : Option Thread). lost_in y) f
lost_at (u ∷ ts) (suc k) t f = lost_at ts k t f

-- ---- thread numbers that there aren't

none_of : (k : ℕ) → 64 ≤ k → (h : List Entry) → FewActors h → part_of k h ≡ []
none_of k q [] f = refl
none_of k q (e ∷ es) f = let few = f.0 in if_is (e.actor == k) false (ne_eqb e.actor k (λ z. omega (arith, z, q, few))) (e ∷ part_of k es) (part_of k es) ∙ none_of k q es f.1

-- ---- the report

module _ (c : Code) (o : Options) (w : PlainWords) (ts : List Thread) (running : Running c o w ts) (ends : List End) (lost : List ℕ) (all_ended : EndsOf ts ends) (all_lost : LostOf ts lost)
    (tapes : length w.tapes.items ≡ 64) (tries : length w.tries.items ≡ 64) (size : length w.words.items ≡ o.heap) (r : Report) (parts_are : r.parts ≡ w.tapes.items) (ends_are : r.ends ≡ ends) (lost_are : r.lost ≡ lost) (words_are : r.words ≡ w.words.items) where
  seen_part : (k : ℕ) → k < 64 → part_in r k ≡ part_of k (history running.events)
  seen_part k h = ap (λ (x : List TapeView). (slice_index_or x k no_tape).list) parts_are ∙ (running.each k h).seen.part

  each_part : (k : ℕ) → part_of k (history running.events) ≡ part_in r k
  each_part k = elim (cases_lt k 64) [
    | inl h ↦ sym (seen_part k h)
    | inr h ↦ none_of k h (history running.events) (interleaves c o (first_state c) running.last running.events).actors
        ∙ sym (ap (λ (x : TapeView). x.list) (get_or_past r.parts k no_tape (subst (λ n. n ≤ k) (sym (ap (λ (x : List TapeView). length x) parts_are ∙ tapes)) h)))
  ]

  notes : ℕ → Option Note
  notes k = (slice_index_or w.tries.items k no_tries).note

  noted : (k : ℕ) (note : Note) → notes k ≡ Some note → IsNoted (first_state c).word (history running.events) k note
  unfolding notes
  noted k note e = elim (cases_lt k 64) [
    | inl h ↦ (running.each k h).seen.noted note e
    | inr h ↦ absurd (no_some (sym (ap (λ (x : Tries). x.note) (get_or_past w.tries.items k no_tries (subst (λ n. n ≤ k) (sym tries) h))) ∙ e))
  ]

  last_words : (p : ℕ) → running.last.word p ≡ word_in r.words p
  last_words p = let t = (running.each 0 (omega arith)).seen.told in t.same p ∙ ap (λ (l : List ℕ). word_in l p) (sym (some_is t.are) ∙ sym words_are)

  kept : (k : ℕ) → k < 64 → StageIsNoted c (running.last.thread k) (running.last.thread k).stage (notes k) (length (view_at w k).part)
  unfolding HasNoted notes
  kept k h = (running.each k h).noted

  thread_ran : (k : ℕ) → k < 64 → ThreadRan c o r k (notes k)
  thread_ran k h =
      let s = (running.each k h).stands in
      let e = end_at ts ends all_ended k s.thread s.found in
      let over : (running.last.thread k).stage ≡ Over e.end = ap (λ (x : Standing). x.stage) (sym s.stands) ∙ e.over in
      record {
        standing = running.last.thread k;
        follows = subst (λ (l : List Entry). Follows c o k l (running.last.thread k)) (sym (seen_part k h)) (replays c o (first_state c) running.last (opens c) running.events k);
        end = e.end;
        ended = ap (λ (l : List End). slice_get l k) ends_are ∙ e.found;
        over = over;
        lost = ap (λ (l : List ℕ). slice_get l k) (lost_are ∙ all_lost) ∙ lost_at ts k s.thread s.found ∙ ap (λ (x : Standing). Some x.lost) s.stands;
        noted = subst (λ (l : List Entry). EndIsNoted c (running.last.thread k) e.end (notes k) (length l)) (ap (λ (x : List TapeView). (slice_index_or x k no_tape).list) (sym parts_are))
            (subst (λ (x : Stage). StageIsNoted c (running.last.thread k) x (notes k) (length (view_at w k).part)) over (kept k h));
      }

  pub ran : Ran c o r
  ran = let i = interleaves c o (first_state c) running.last running.events in record {
    parts = ap (λ (x : List TapeView). length x) parts_are ∙ tapes;
    ends = ap (λ (x : List End). length x) ends_are ∙ sym (length-map ends (λ (e : End). Over e)) ∙ ap (λ (x : List Stage). length x) all_ended ∙ length-map ts (λ (t : Thread). t.machine.stage) ∙ running.many;
    lost = ap (λ (x : List ℕ). length x) (lost_are ∙ all_lost) ∙ length-map ts (λ (t : Thread). t.machine.lost) ∙ running.many;
    size = ap (λ (x : List ℕ). length x) words_are ∙ size;
    whole = history running.events;
    notes = notes;
    woven = record { actors = i.actors; each_part = each_part; agree = i.agree; closing = λ p. i.closing p ∙ last_words p; noted = noted };
    threads = thread_ran;
  }

  -- ---- as the report of the schedule

  tells : TellsState (state_of w ts) r
  tells = record {
    parts = ran.parts;
    ends = ran.ends;
    lost = ran.lost;
    words = words_are;
    threads = λ k h. (let s = (running.each k h).stands in
        let e = end_at ts ends all_ended k s.thread s.found in
        record {
          part = ap (λ (x : List TapeView). (slice_index_or x k no_tape).list) parts_are;
          end = e.end;
          ended = ap (λ (l : List End). slice_get l k) ends_are ∙ e.found;
          over = ap (λ (x : Option Thread). (standing_of x).stage) s.found ∙ e.over;
          lost = ap (λ (l : List ℕ). slice_get l k) (lost_are ∙ all_lost) ∙ lost_at ts k s.thread s.found ∙ ap (λ (x : Option Thread). Some (standing_of x).lost) (sym s.found);
        });
  }

  no_refusal : MemorySufficed r → HasRefusal ts → ⊥
  no_refusal m h =
      let e = end_at ts ends all_ended h.number h.thread h.found in
      m h.number (ap (λ (l : List End). slice_get l h.number) ends_are ∙ e.found ∙ ap Some (same_end e.end Memory (sym e.over ∙ h.over)))

  pub scheduled : (first : State) → AfterRounds c o first w ts → MemorySufficed r → Begins c o first → Sched c o r
  scheduled first (inl p) m b = record { first = first; begins = b; rounds = p.0; last = state_of w ts; had = p.1; told = tells }
  scheduled first (inr h) m b = absurd (no_refusal m h)

  -- ---- its tickets

  module _ (runnable : IsRunnable c o) where
    part_few : (k : ℕ) → length (prints_among (slice_index_or r.parts k no_tape).list) ≤ o.steps
    part_few k = elim (cases_lt k 64) [
      | inl h ↦ (let follows : Follows c o k (part_in r k) (running.last.thread k) =
          subst (λ (l : List Entry). Follows c o k l (running.last.thread k)) (sym (seen_part k h)) (replays c o (first_state c) running.last (opens c) running.events k) in
          let few = few_prints c o k (part_in r k) (running.last.thread k) runnable.forward runnable.tries follows in
          let units = (inside c o k (part_in r k) (running.last.thread k) runnable.forward runnable.tries follows).units in
          omega (arith, few, units))
      | inr h ↦ subst (λ (x : TapeView). length (prints_among x.list) ≤ o.steps) (sym (get_or_past r.parts k no_tape (subst (λ n. n ≤ k) (sym ran.parts) h))) (omega arith)
    ]

    few_in_all : length (prints_among (history running.events)) < 2 ^ 64
    few_in_all =
        let i = interleaves c o (first_state c) running.last running.events in
        let same = sym (count_true (prints_among (history running.events))) ∙ sym (count_parts (λ e. true) r.parts (history running.events) ran.parts each_part i.actors) ∙ count_true (prints_in r) in
        let few = subst (λ n. length (prints_in r) ≤ n * o.steps) ran.parts (all_few o.steps r.parts part_few) in
        let steps = runnable.steps in
        omega (arith, same, few, steps)

    pub tickets : TicketsAreInOrder r
    unfolding ran notes
    tickets = (in_order r (history running.events) notes (opening_word c.main) (word_in r.words) ran.parts ran.woven refl
        (keeps_tickets c o (first_state c) running.last (λ s es. runnable.faultless (first_state c) s (opens c) es) running.events) few_in_all).0
