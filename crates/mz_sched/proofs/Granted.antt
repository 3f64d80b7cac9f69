-- A turn in which memory is refused ends its thread for want of memory; and a turn that doesn't end at a pause leaves a thread
-- that is over.
use Rattle.std.proofs.Common.{◌≡◌, ◌⊎◌, inl, inr, ℕ, Option, Some, None, Bool, true, false, refl, sym, ap, ◌∙◌, subst}
use Rattle.std.specs.Prelude.{slice_get}
use Rattle.mz_words.specs.declared.code.Instr.{Instr}
use Rattle.mz_words.specs.declared.code.Code.{Code}
use Rattle.mz_words.specs.declared.options.Options.{Options}
use Rattle.mz_words.specs.declared.ends.End.{End}
use Rattle.mz_words.specs.declared.ends.End.TheVariants as ending
use Rattle.mz_words.specs.declared.asks.Answer.{Answer}
use Rattle.mz_words.specs.declared.asks.Answer.TheVariants.{Saw, Quiet, Missed, Refused}
use Rattle.mz_words.specs.declared.stages.Stage.{Stage}
use Rattle.mz_words.specs.declared.stages.Stage.TheVariants.{Idle, IdleStop, IdleLive, LoadFun, LoadArg, Entering, Border, Ready, Making, Taking, Spawning, Unmatched, Closing, Over}
use Rattle.mz_words.specs.Standing.{Standing}
use Rattle.mz_words.specs.Steps.{ask, ask_at, take_at, take_step}
use Rattle.mz_words.specs.Answers.{May}
use Rattle.mz_words.specs.Views.{WordsView}
use Rattle.mz_words.specs.Turns.{Leads, Leads_nowhere, Leads_on, pauses, pauses_at}
use Rattle.mz_sched.specs.Schedules.{IsGranted}

-- ---- pauses

true_false : true ≡ false → ⊥
true_false e = cc

no_pause : (o : Options) (from : ℕ) (answer : Answer) (t : Standing) (e : End) → t.stage ≡ Over e → pauses o from answer t ≡ true
unfolding pauses
no_pause o from (Saw n) t e s = ap (λ (x : Stage). pauses_at o from (Saw n) t.units x) s
no_pause o from Quiet t e s = ap (λ (x : Stage). pauses_at o from Quiet t.units x) s
no_pause o from Missed t e s = ap (λ (x : Stage). pauses_at o from Missed t.units x) s
no_pause o from Refused t e s = ap (λ (x : Stage). pauses_at o from Refused t.units x) s

closing_goes_on : (o : Options) (from : ℕ) (answer : Answer) (t : Standing) (e : End) → t.stage ≡ Closing e → pauses o from answer t ≡ false
unfolding pauses
closing_goes_on o from (Saw n) t e s = ap (λ (x : Stage). pauses_at o from (Saw n) t.units x) s
closing_goes_on o from Quiet t e s = ap (λ (x : Stage). pauses_at o from Quiet t.units x) s
closing_goes_on o from Missed t e s = ap (λ (x : Stage). pauses_at o from Missed t.units x) s
closing_goes_on o from Refused t e s = ap (λ (x : Stage). pauses_at o from Refused t.units x) s

module _ (c : Code) (o : Options) (k from : ℕ) (first : WordsView) (t : Standing) where
  -- a thread that is over behind events without a pause was over before
  pub was_over : (w : WordsView) (u : Standing) (b : Bool) → Leads c o k from first t w u b → b ≡ false → (e : End) → u.stage ≡ Over e → t.stage ≡ Over e
  was_over _ _ _ Leads_nowhere q e s = s
  was_over _ _ _ (Leads_on w u answer spare l may told) q e s = absurd (true_false (sym (no_pause o from answer (take_step c o k u answer) e s) ∙ q))

  not_closing : (w : WordsView) (u : Standing) (b : Bool) → Leads c o k from first t w u b → b ≡ true → (e : End) → u.stage ≡ Closing e → ⊥
  not_closing _ _ _ Leads_nowhere q e s = true_false (sym q)
  not_closing _ _ _ (Leads_on w u answer spare l may told) q e s = true_false (sym q ∙ closing_goes_on o from answer (take_step c o k u answer) e s)

-- ---- refusals

-- the thread ends, or is about to end, for want of memory
abbrev pub EndsSo : Stage → Type 0
EndsSo s = (s ≡ Closing ending.Memory) ⊎ (s ≡ Over ending.Memory)

refused_at : (c : Code) (o : Options) (k : ℕ) (t : Standing) (s : Stage) (a : Option Instr) → May (ask_at c o k t s a) Refused → (take_at c o k t s a Refused).stage ≡ Closing ending.Memory
refused_at c o k t (Entering f arg) a m = refl
refused_at c o k t Ready (Some i) m = refl
refused_at c o k t (Making base n) (Some i) m = refl
refused_at c o k t Taking (Some i) m = refl
refused_at c o k t (Spawning j n) (Some i) m = refl
refused_at c o k t Ready None m = absurd m
refused_at c o k t (Making base n) None m = absurd m
refused_at c o k t Taking None m = absurd m
refused_at c o k t (Spawning j n) None m = absurd m
refused_at c o k t Idle a m = absurd m
refused_at c o k t IdleStop a m = absurd m
refused_at c o k t IdleLive a m = absurd m
refused_at c o k t LoadFun a m = absurd m
refused_at c o k t (LoadArg f) a m = absurd m
refused_at c o k t Border None m = absurd m
refused_at c o k t Border (Some i) m = absurd m
refused_at c o k t Unmatched a m = absurd m
refused_at c o k t (Over e) a m = absurd m
refused_at c o k t (Closing ending.Done) a m = absurd m
refused_at c o k t (Closing e) a m = absurd m

refused_closes : (c : Code) (o : Options) (k : ℕ) (t : Standing) → May (ask c o k t) Refused → (take_step c o k t Refused).stage ≡ Closing ending.Memory
unfolding ask take_step
refused_closes c o k t m = refused_at c o k t t.stage (slice_get c.instrs t.at) m

closing_at : (c : Code) (o : Options) (k : ℕ) (t : Standing) (a : Option Instr) (answer : Answer) → May (ask_at c o k t (Closing ending.Memory) a) answer → (take_at c o k t (Closing ending.Memory) a answer).stage ≡ Over ending.Memory
closing_at c o k t a (Saw n) m = refl
closing_at c o k t a Quiet m = absurd m
closing_at c o k t a Missed m = absurd m
closing_at c o k t a Refused m = absurd m

closes : (c : Code) (o : Options) (k : ℕ) (t : Standing) (answer : Answer) → t.stage ≡ Closing ending.Memory → May (ask c o k t) answer → (take_step c o k t answer).stage ≡ Over ending.Memory
unfolding ask take_step
closes c o k t answer s m = subst (λ (x : Stage). (take_at c o k t x (slice_get c.instrs t.at) answer).stage ≡ Over ending.Memory) (sym s)
    (closing_at c o k t (slice_get c.instrs t.at) answer (subst (λ (x : Stage). May (ask_at c o k t x (slice_get c.instrs t.at)) answer) s m))

over_at : (c : Code) (o : Options) (k : ℕ) (t : Standing) (a : Option Instr) (e : End) (answer : Answer) → May (ask_at c o k t (Over e) a) answer → ⊥
over_at c o k t a e (Saw n) m = m
over_at c o k t a e Quiet m = m
over_at c o k t a e Missed m = m
over_at c o k t a e Refused m = m

over_asks : (c : Code) (o : Options) (k : ℕ) (t : Standing) (e : End) (answer : Answer) → t.stage ≡ Over e → May (ask c o k t) answer → ⊥
unfolding ask
over_asks c o k t e answer s m = over_at c o k t (slice_get c.instrs t.at) e answer (subst (λ (x : Stage). May (ask_at c o k t x (slice_get c.instrs t.at)) answer) s m)

goes_on : (c : Code) (o : Options) (k : ℕ) (t : Standing) (answer : Answer) → May (ask c o k t) answer → EndsSo t.stage → EndsSo (take_step c o k t answer).stage
goes_on c o k t answer m (inl s) = inr (closes c o k t answer s m)
goes_on c o k t answer m (inr s) = absurd (over_asks c o k t ending.Memory answer s m)

saw_refused : {n : ℕ} → Saw n ≡ Refused → ⊥
saw_refused e = absurd (cc)

quiet_refused : ◌≡◌ {A = Answer} Quiet Refused → ⊥
quiet_refused e = absurd (cc)

missed_refused : ◌≡◌ {A = Answer} Missed Refused → ⊥
missed_refused e = absurd (cc)

module _ (c : Code) (o : Options) (k from : ℕ) (first : WordsView) (t : Standing) where
  granted_or : (w : WordsView) (u : Standing) (b : Bool) (l : Leads c o k from first t w u b) → IsGranted l ⊎ EndsSo u.stage
  granted_or _ _ _ Leads_nowhere = inl tt
  granted_or _ _ _ (Leads_on w u answer spare l may told) = elim (granted_or w u false l) [
    | inl g ↦ by_answer answer may g
    | inr s ↦ inr (goes_on c o k u answer may s)
  ]
    where
      by_answer : (answer : Answer) → May (ask c o k u) answer → IsGranted l → (IsGranted l × (answer ≡ Refused → ⊥)) ⊎ EndsSo (take_step c o k u answer).stage
      by_answer (Saw n) m g = inl (g, saw_refused)
      by_answer Quiet m g = inl (g, quiet_refused)
      by_answer Missed m g = inl (g, missed_refused)
      by_answer Refused m g = inr (inl (refused_closes c o k u m))

  -- a turn to a pause is granted, or ends the thread for want of memory
  pub granted_or_over : (w : WordsView) (u : Standing) (l : Leads c o k from first t w u true) → IsGranted l ⊎ (u.stage ≡ Over ending.Memory)
  granted_or_over w u l = elim (granted_or w u true l) [
    | inl g ↦ inl g
    | inr s ↦ (elim s [
      | inl closing ↦ absurd (not_closing c o k from first t w u true l refl ending.Memory closing)
      | inr over ↦ inr over
    ])
  ]
