-- The opening stands for the opening, and so each list of events for a named run.
use Rattle.std.proofs.Common.{◌≡◌, ◌≢◌, ◌≤◌, ◌==◌, ℕ, zero, suc, ◌+◌, ◌*◌, List, [], ◌∷◌, length, Option, Some, None, Bool, true, false, refl, sym, ap, ◌∙◌, subst, arith, eq-eqb, ne_eqb}
use Rattle.std.specs.Prelude.{slice_get, if◌then◌else◌}
use Rattle.mz_tree.specs.Programs.{Program, Fun, Sig}
use Rattle.mz_words.specs.declared.code.Code.{Code}
use Rattle.mz_words.specs.declared.options.Options.{Options}
use Rattle.mz_words.specs.declared.code.Instr.{Instr}
use Rattle.mz_words.specs.declared.asks.Answer.{Answer}
use Rattle.mz_words.specs.declared.asks.Answer.TheVariants.{Saw, Quiet, Missed, Refused}
use Rattle.mz_words.specs.declared.stages.Stage.{Stage}
use Rattle.mz_words.specs.declared.stages.Stage.TheVariants.{Making}
use Rattle.mz_words.specs.Standing.{Standing}
use Rattle.mz_words.specs.Steps.{made_words}
use Rattle.mz_words.specs.Raw.{Raw, Event, completed_at, blocks_then, Events, No_events, More_events, Opens}
use Rattle.mz_named.specs.Machine.{Fun_value, Config, Thread, Running, start, NStep, NSteps, No_steps, More_steps, IsOpening, NamedSafe}
use Rattle.mz_lower.specs.NamedRuns.{gives_step, completed, NamedByAddress, NamedRun, At_opening, Without_step, With_step}
use Rattle.mz_lower.specs.StandsFor.{HasNamedThread, ThreadStands}
use Rattle.mz_lower.proofs.Addresses.{some_inj, none_some, if_true, if_false}
use Rattle.mz_lower.proofs.Simulation.{Simulation, Inside, Started, Dormant}
use Rattle.mz_lower.proofs.Making.{Limited}
use Rattle.mz_lower.proofs.Calls.{Coded}
use Rattle.mz_lower.proofs.EachEvent.{keeps}
use Rattle.mz_lower.proofs.LocalActs.{KeptAs}

-- one thread alone is started
one_born : (n j : ℕ) → slice_get (0 ∷ []) n ≡ Some j → (n ≡ 0) × (j ≡ 0)
one_born zero j e = (refl, sym (some_inj e))
one_born (suc n) j e = absurd (no_none e)
  where
    no_none : None ≡ Some j → ⊥
    no_none e = absurd (cc)

-- `main` is where the code begins, and has no parameters
pub record IsFirst (p : Program) (c : Code) (n : ℕ) (main : Fun) : Type 0 where
  pub number : n ≡ c.main
  pub sig : Sig
  pub signed : slice_get p.sigs main.sig ≡ Some sig
  pub none : sig.count ≡ 0

module _ (p : Program) (c : Code) (o : Options) (s : Raw) (w : Config) (q : Opens c s) (r : IsOpening p w) (first : IsFirst p c r.number r.main) where
  born_is : (n j : ℕ) → slice_get s.born n ≡ Some j → (n ≡ 0) × (j ≡ 0)
  born_is n j e = one_born n j (subst (λ (l : List ℕ). slice_get l n ≡ Some j) q.born e)

  born_zero : slice_get s.born 0 ≡ Some 0
  born_zero = ap (λ (l : List ℕ). slice_get l 0) q.born

  top_is : s.word 0 ≡ 197
  top_is = q.word 0

  next_is : s.word 1 ≡ 1
  next_is = q.word 1

  main_word : s.word 6 ≡ c.main
  main_word = q.word 6

  unready : (j : ℕ) → j ≢ 0 → s.word (5 + 3 * j) ≡ 0
  unready j d = q.word (5 + 3 * j)
      ∙ if_false (5 + 3 * j == 0) (ne_eqb _ _ (λ e. omega (arith, e))) _ _
      ∙ if_false (5 + 3 * j == 1) (ne_eqb _ _ (λ e. omega (arith, e))) _ _
      ∙ if_false (5 + 3 * j == 2) (ne_eqb _ _ (λ e. omega (arith, e))) _ _
      ∙ if_false (5 + 3 * j == 5) (ne_eqb _ _ (λ e. d (omega (arith, e)))) _ _
      ∙ if_false (5 + 3 * j == 6) (ne_eqb _ _ (λ e. omega (arith, e))) _ _

  waiting : ThreadStands c.instrs p s.word 0 (s.thread 0) (Running (start r.main []) [])
  waiting = subst (λ (t : Standing). ThreadStands c.instrs p s.word 0 t (Running (start r.main []) [])) (sym (q.thread 0)) (record {
    callee = Fun_value r.number;
    args = [];
    start = record {
      takes = 0;
      function = record { number = r.number; is = refl; fun = r.main; declared = r.declared; sig = first.sig; signed = first.signed; many = first.none };
      fits = refl;
      few = refl;
      is = refl;
    };
    fun_word = main_word ∙ sym first.number;
    arg_word = λ v e. absurd (none_some refl e);
  })

  -- at the opening words nothing is made, drawn or started but thread 0, which stands before `main`
  pub opening_keeps : Simulation p c o s w
  opening_keeps = record {
    stands = record {
      blocks = λ b cell e. absurd (none_some (r.empty b) e);
      complete = λ b m e. absurd (none_some (q.blocks b) e);
      threads = λ n k e. (let z = born_is n k e in
          subst (λ x. HasNamedThread c.instrs p s w x k) (sym z.0) (subst (λ x. HasNamedThread c.instrs p s w 0 x) (sym z.1) (record {
            thread = Running (start r.main []) [];
            here = ap (λ (l : List Thread). slice_get l 0) r.threads;
            stands = waiting;
          })));
      many = ap length r.threads ∙ sym (ap length q.born);
      prints = q.prints ∙ sym r.prints;
    };
    base_of = λ a. None;
    maker = λ b. None;
    in_block = λ b m i e l. absurd (none_some (q.blocks b) e);
    beyond = λ a l. refl;
    low = λ a b e. absurd (none_some refl e);
    within_heap = λ a b e. absurd (none_some refl e);
    top = omega (arith, top_is);
    made = λ b cell e. refl;
    spawner = λ j. None;
    undrawn = λ j l. refl;
    dormant = λ j h. subst (λ (t : Standing). Dormant t.stage) (sym (q.thread j)) tt;
    unready = λ j l h. unready j (λ e. h 0 (born_zero ∙ ap Some (sym e)));
    born_drawn = λ n j e. (omega (arith, (born_is n j e).1, next_is), refl);
    born_few = λ n j e. omega (arith, (born_is n j e).1);
    next = omega (arith, next_is);
    inside = λ k. subst (λ (t : Standing). Inside s.word w (λ a. None) (λ b. None) (λ j. None) k t t.stage (slice_get c.instrs t.at)) (sym (q.thread k)) tt;
    once = λ m n k e f. (born_is m k e).0 ∙ sym (born_is n k f).0;
    started = λ k h. absurd (subst (λ (t : Standing). Started t.stage) (q.thread k) h);
    units = λ k. subst (λ (t : Standing). t.units ≤ o.steps) (sym (q.thread k)) (omega arith);
    top_most = omega (arith, top_is);
    next_most = omega (arith, next_is);
  }

-- a block that is still being made has no name
new_if : (b : Bool) (base many : ℕ) (made : ℕ × ℕ) → (if b then Some (base, many) else None) ≡ Some made → made.0 ≡ base
new_if true base many made e = ap (λ (x : ℕ × ℕ). x.0) (sym (some_inj e))
new_if false base many made e = absurd (none_some refl e)

new_at : (word : ℕ → ℕ) (w : Config) (base_of maker spawner : ℕ → Option ℕ) (k : ℕ) (t : Standing) (stage : Stage) (a : Option Instr) (answer : Answer) (made : ℕ × ℕ) → Inside word w base_of maker spawner k t stage a → completed_at stage a answer ≡ Some made → w.heap.at made.0 ≡ None
new_at word w base_of maker spawner k t (Making b i) (Some a) (Saw n) made h e = ap w.heap.at (new_if (i + 1 == made_words a.act) b (made_words a.act) made e) ∙ h.not_yet
new_at word w base_of maker spawner k t (Making b i) (Some a) Quiet made h e = absurd (none_some refl e)
new_at word w base_of maker spawner k t (Making b i) (Some a) Missed made h e = absurd (none_some refl e)
new_at word w base_of maker spawner k t (Making b i) (Some a) Refused made h e = absurd (none_some refl e)
new_at word w base_of maker spawner k t (Making b i) None answer made h e = absurd (none_some refl e)
new_at word w base_of maker spawner k t stage a answer made h e = absurd (none_some refl e)

-- what an event completes is new by name, and has its address as its name behind the step
named_new : (p : Program) (c : Code) (o : Options) (s s' : Raw) (w w' : Config) (S : Simulation p c o s w) (S' : Simulation p c o s' w') (k : ℕ) (answer : Answer) → Event c o s k answer s' → NamedByAddress (completed c s k answer) w w'
named_new p c o s s' w w' S S' k answer event = by_made (completed c s k answer) refl
  where
    by_made : (x : Option (ℕ × ℕ)) → completed c s k answer ≡ x → NamedByAddress x w w'
    by_made None e = tt
    by_made (Some made) e =
        let cell = S'.stands.complete made.0 made.1 (event.blocks made.0 ∙ ap (λ (x : Option (ℕ × ℕ)). blocks_then x s.blocks made.0) e ∙ if_true (made.0 == made.0) (eq-eqb made.0 made.0 refl) (Some made.1) (s.blocks made.0)) in (
          new_at s.word w S.base_of S.maker S.spawner k (s.thread k) (s.thread k).stage (slice_get c.instrs (s.thread k).at) answer made (S.inside k) e,
          cell.0,
          cell.1,
        )

-- one more step at the end of a list
pub then_step : {p : Program} {a b c : Config} {k : ℕ} → NSteps p a b → NStep p b k c → NSteps p a c
then_step No_steps s = More_steps _ s No_steps
then_step (More_steps k one more) s = More_steps k one (then_step more s)

-- what a run comes to
pub record Comes (p : Program) (c : Code) (o : Options) (opening : Raw) (first : Config) (s : Raw) (events : Events c o opening s) : Type 0 where
  pub named : Config
  pub steps : NSteps p first named
  pub run : NamedRun p c o opening first s events named
  pub sim : Simulation p c o s named

-- by induction over the list of events
pub simulates : (p : Program) (c : Code) (coded : Coded p c) (o : Options) (limited : Limited o) → (first s : Raw) (w : Config) → Opens c first → (r : IsOpening p w) → IsFirst p c r.number r.main → NamedSafe p → (events : Events c o first s) → Comes p c o first w s events
simulates p c coded o limited first s w q r m safe No_events = record { named = w; steps = No_steps; run = At_opening; sim = opening_keeps p c o first w q r m }
simulates p c coded o limited first s w q r m safe (More_events s1 _ k answer es e) =
    let z = simulates p c coded o limited first s1 w q r m safe es in
    one_on z (gives_step c o s1 k answer) refl (keeps p c coded o limited s1 s z.named z.sim (safe w z.named r z.steps) k answer e)
  where
    one_on : (z : Comes p c o first w s1 es) (b : Bool) → gives_step c o s1 k answer ≡ b → KeptAs p c o s1 s z.named k b → Comes p c o first w s (More_events s1 s k answer es e)
    one_on z true given h = record { named = h.2.0; steps = then_step z.steps h.2.1; run = With_step s1 s z.named h.2.0 k h.0 answer es e z.run given h.1 h.2.1 (named_new p c o s1 s z.named h.2.0 z.sim h.2.2 k answer e); sim = h.2.2 }
    one_on z false given h = record { named = z.named; steps = z.steps; run = Without_step s1 s z.named k answer es e z.run given; sim = h }
