-- A report whose records follow the code and interleave tells of a run: its records are those of 64 threads, and the others
-- never leave the opening.
use Rattle.std.proofs.Common.{◌≡◌, ◌<◌, ◌≤◌, ◌⊎◌, inl, inr, ℕ, List, Some, sym, ap, ◌∙◌, subst, arith}
use Rattle.std.specs.Prelude.{slice_get}
use Rattle.std.proofs.lemmas.Bool.{cases_lt}
use Rattle.std.proofs.lemmas.List.{get_or_past}
use Rattle.std.proofs.lemmas.Option.{slice_get_within}
use Rattle.mz_tape.specs.Tapes.{TapeView}
use Rattle.mz_tape.specs.declared.entry.Entry.{Entry}
use Rattle.mz_words.specs.declared.code.Code.{Code}
use Rattle.mz_words.specs.declared.options.Options.{Options}
use Rattle.mz_words.specs.declared.ends.End.{End}
use Rattle.mz_words.specs.declared.stages.Stage.TheVariants.{Over}
use Rattle.mz_words.specs.declared.reports.Report.{Report}
use Rattle.mz_words.specs.Standing.{Standing}
use Rattle.mz_words.specs.Steps.{opening}
use Rattle.mz_words.specs.Raw.{Raw, Opens, opening_word}
use Rattle.mz_words.specs.Views.{word_in}
use Rattle.mz_words.specs.Plain.{no_tape}
use Rattle.mz_words.specs.Replays.{Follows, Follows_start}
use Rattle.mz_words.specs.Interleavings.{Interleaving, part_of}
use Rattle.mz_words.specs.Ran.{part_in, Ran}
use Rattle.mz_words.specs.Laws.{ReportsAreRuns, IsRunTold}
use Rattle.mz_words.proofs.Weaving.{all_on, after_same, noted_on, woven}

some_same : {A : Type 0} {x y : A} → Some x ≡ Some y → x ≡ y
some_same e = cc

module _ (c : Code) (o : Options) (r : Report) (ran : Ran c o r) where
  -- where thread k stands at its end
  abbrev ended_at : (k : ℕ) → (k < 64) ⊎ (64 ≤ k) → Standing
  ended_at k (inl h) = (ran.threads k h).standing
  ended_at k (inr h) = opening

  follows_to : (k : ℕ) (x : (k < 64) ⊎ (64 ≤ k)) → Follows c o k (part_in r k) (ended_at k x)
  follows_to k (inl h) = (ran.threads k h).follows
  follows_to k (inr h) = subst (λ (l : List Entry). Follows c o k l opening)
      (sym (ap (λ (t : TapeView). t.list) (get_or_past r.parts k no_tape (subst (λ n. n ≤ k) (sym ran.parts) h)))) Follows_start

  over_at : (k : ℕ) (e : End) → slice_get r.ends k ≡ Some e → k < 64 → (x : (k < 64) ⊎ (64 ≤ k)) → (ended_at k x).stage ≡ Over e
  over_at k e q l (inl h) = (ran.threads k h).over ∙ ap Over (some_same (sym (ran.threads k h).ended ∙ q))
  over_at k e q l (inr h) = absurd (omega (arith, l, h))

  lost_at : (k n : ℕ) → slice_get r.lost k ≡ Some n → k < 64 → (x : (k < 64) ⊎ (64 ≤ k)) → (ended_at k x).lost ≡ n
  lost_at k n q l (inl h) = some_same (sym (ran.threads k h).lost ∙ q)
  lost_at k n q l (inr h) = absurd (omega (arith, l, h))

  pub told : (first : Raw) → Opens c first → (last : Raw) × IsRunTold c o first r ran.whole last
  told first opens =
      let h = ran.woven in
      let w : Interleaving ran.whole (part_in r) ran.notes first.word (word_in r.words) = record {
        actors = h.actors;
        each_part = h.each_part;
        agree = all_on c o (opening_word c.main) first.word ran.whole opens.word h.agree;
        closing = λ p. after_same c o (opening_word c.main) first.word ran.whole opens.word p ∙ h.closing p;
        noted = λ k note e. noted_on c o (opening_word c.main) first.word ran.whole k note opens.word (h.noted k note e);
      } in
      let z = woven c o first ran.whole (part_in r) ran.notes (word_in r.words) (λ k. ended_at k (cases_lt k 64)) opens w (λ k. follows_to k (cases_lt k 64)) in
      let run = z.1 in (
        z.0,
        record {
          events = run.events;
          made = run.made;
          parts = λ k. ap (part_of k) run.made ∙ h.each_part k;
          ended = λ k e q.
              let l = subst (λ n. k < n) ran.ends (slice_get_within r.ends k e q) in
              ap (λ (t : Standing). t.stage) (run.ended k l) ∙ over_at k e q l (cases_lt k 64);
          lost = λ k n q.
              let l = subst (λ m. k < m) ran.lost (slice_get_within r.lost k n q) in
              ap (λ (t : Standing). t.lost) (run.ended k l) ∙ lost_at k n q l (cases_lt k 64);
          words = run.words;
        },
      )

pub reported : ReportsAreRuns
reported c o first r ran opens = told c o r ran first opens
