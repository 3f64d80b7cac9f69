-- A turn of a thread that isn't over is one of the schedule, or ends the thread for want of memory.
use Rattle.std.proofs.Common.{◌≡◌, ◌<◌, inl, inr, ℕ, suc, List, Option, Some, Bool, true, false, refl, sym, ap, ◌∙◌, subst}
use Rattle.std.proofs.lemmas.Bool.{cases_eq}
use Rattle.std.specs.Prelude.{slice_get, slice_set, slice_index_or}
use Rattle.mz_tape.specs.Tapes.{TapeView}
use Rattle.mz_words.specs.declared.plain.PlainWords.{PlainWords}
use Rattle.mz_words.specs.declared.code.Code.{Code}
use Rattle.mz_words.specs.declared.options.Options.{Options}
use Rattle.mz_words.specs.declared.ends.End.{End}
use Rattle.mz_words.specs.declared.asks.Ask.TheVariants.{Nothing}
use Rattle.mz_words.specs.declared.stages.Stage.{Stage}
use Rattle.mz_words.specs.declared.stages.Stage.TheVariants.{Over}
use Rattle.mz_words.specs.Plain.{no_tape, view_of, others_of}
use Rattle.mz_words.specs.Standing.{Standing}
use Rattle.mz_words.specs.Steps.{ask}
use Rattle.mz_words.specs.Views.{WordsView}
use Rattle.mz_words.specs.Turns.{Leads}
use Rattle.mz_words.proofs.Lists.{set_here, set_other}
use Rattle.mz_thread.specs.declared.thread.Thread.{Thread}
use Rattle.mz_thread.specs.declared.thread.Turn.{Turn as Answer}
use Rattle.mz_thread.specs.Keeping.{IsOver}
use Rattle.mz_thread.specs.Turned.{Turned}
use Rattle.mz_sched.specs.Schedules.{IsGranted, State, Turn, Round, Passed_over, Had_a_turn}
use Rattle.mz_sched.specs.Running.{view_at, first_state, IsRunnable, Running, standing_of, state_of, HasRefusal, InRound}
use Rattle.mz_sched.proofs.Turned.{tape_same}
use Rattle.mz_sched.proofs.Ready.{opens, actor, view}
use Rattle.mz_sched.proofs.Granted.{was_over, granted_or_over}

some_thread : {x y : Thread} → Some x ≡ Some y → x ≡ y
some_thread q = cc

-- a thread that is over has no turn
pub passes : (c : Code) (o : Options) (w : PlainWords) (ts : List Thread) (k : ℕ) (t : Thread) → slice_get ts k ≡ Some t → IsOver t.machine.stage → (first : State) → Round c o first k (state_of w ts) → InRound c o first (suc k) w ts
passes c o w ts k t found over first r = inl (Passed_over k (state_of w ts) r (subst (λ (x : Option Thread). IsOver (standing_of x).stage) (sym found) over))

module _ (c : Code) (o : Options) (w v z : PlainWords) (ts : List Thread) (k : ℕ) (number : k < 64) (t u : Thread) (runnable : IsRunnable c o) (running : Running c o w ts) (found : slice_get ts k ≡ Some t)
    (turn : v.turn ≡ k) (words : v.words ≡ w.words) (tapes : v.tapes ≡ w.tapes) (tries : v.tries ≡ w.tries)
    (turn_z : z.turn ≡ v.turn) (others : others_of z ≡ others_of v) (after : Running c o z (slice_set ts k u)) (going : IsOver t.machine.stage → ⊥) where
  us : List Thread
  us = slice_set ts k u

  found_u : slice_get (slice_set ts k u) k ≡ Some u
  found_u = set_here ts k u t found

  number_t : t.actor ≡ k
  number_t = actor c o w v ts k number t runnable running found turn words tapes tries

  -- a refusal stays
  pub stays : HasRefusal ts → HasRefusal (slice_set ts k u)
  stays h = elim (cases_eq h.number k) [
    | inl e ↦ absurd (going (subst (λ (x : Thread). IsOver x.machine.stage) (some_thread (sym h.found ∙ ap (λ n. slice_get ts n) e ∙ found)) (subst (λ (x : Stage). IsOver x) (sym h.over) tt)))
    | inr d ↦ record { number = h.number; thread = h.thread; found = set_other ts k h.number u d ∙ h.found; over = h.over }
  ]

  -- the thread doesn't go wild
  ends_over : ask c o k u.machine ≡ Nothing → (e : End) × (u.machine.stage ≡ Over e)
  ends_over q =
      let s = (after.each k number).stands in
      let stands : u.machine ≡ after.last.thread k = ap (λ (x : Thread). x.machine) (some_thread (sym found_u ∙ s.found)) ∙ s.stands in
      let f = (runnable.faultless (first_state c) after.last (opens c) after.events).asks k (subst (λ (x : Standing). ask c o k x ≡ Nothing) stands q) in
      (f.0, ap (λ (x : Standing). x.stage) stands ∙ f.1)

  before_is : view_of v ≡ view_at w k
  before_is = view c o w v ts k number t runnable running found turn words tapes tries

  whole : (l : Leads c o t.actor t.machine.units (view_of v) t.machine (view_of z) u.machine true) → IsGranted l → Turn c o k (state_of w ts) (state_of z (slice_set ts k u))
  whole l g =
      let x : (m : Leads c o k t.machine.units (view_of v) t.machine (view_of z) u.machine true) × IsGranted m =
      subst (λ a. (m : Leads c o a t.machine.units (view_of v) t.machine (view_of z) u.machine true) × IsGranted m) number_t (l, g) in
      let y : (m : Leads c o k (standing_of (slice_get ts k)).units (view_of v) (standing_of (slice_get ts k)) (view_of z) u.machine true) × IsGranted m =
      subst (λ (a : Option Thread). (m : Leads c o k (standing_of a).units (view_of v) (standing_of a) (view_of z) u.machine true) × IsGranted m) (sym found) x in
      let r : (m : Leads c o k (standing_of (slice_get ts k)).units (view_of v) (standing_of (slice_get ts k)) (view_of z) (standing_of (slice_get (slice_set ts k u) k)) true) × IsGranted m =
      subst (λ (a : Option Thread). (m : Leads c o k (standing_of (slice_get ts k)).units (view_of v) (standing_of (slice_get ts k)) (view_of z) (standing_of a) true) × IsGranted m) (sym found_u) y in
      record {
        before = view_of v;
        after = view_of z;
        sees = record { actor = turn; part = ap (λ (a : WordsView). a.part) before_is; words = ap (λ (a : WordsView). a.told) before_is };
        saw = record { actor = turn_z ∙ turn; part = ap (λ n. (slice_index_or z.tapes.items n no_tape).list) (turn_z ∙ turn); words = refl };
        leads = r.0;
        granted = r.1;
        others = λ j d. (ap standing_of (set_other ts k j u d), ap (λ (a : TapeView). a.list) (tape_same k v z turn (turn_z ∙ turn) others j d ∙ ap (λ (a : List TapeView). slice_index_or a j no_tape) (ap (λ a. a.items) tapes)));
      }

  pub gone : (paused : Bool) → Leads c o t.actor t.machine.units (view_of v) t.machine (view_of z) u.machine paused → (r : Answer) → Turned c o t.actor u.machine paused r → (first : State) → Round c o first k (state_of w ts)
      → InRound c o first (suc k) z (slice_set ts k u)
  gone true l r turned first p = elim (granted_or_over c o t.actor t.machine.units (view_of v) t.machine (view_of z) u.machine l) [
    | inl g ↦ inl (Had_a_turn k (state_of w ts) (state_of z (slice_set ts k u)) p (λ h. going (subst (λ (x : Option Thread). IsOver (standing_of x).stage) found h)) (whole l g))
    | inr over ↦ inr (record { number = k; thread = u; found = found_u; over = over })
  ]
  gone false l r turned first p =
      let f = ends_over (subst (λ n. ask c o n u.machine ≡ Nothing) number_t (turned.wild refl)) in
      absurd (going (subst (λ (x : Stage). IsOver x) (sym (was_over c o t.actor t.machine.units (view_of v) t.machine (view_of z) u.machine false l refl f.0 f.1)) tt))
