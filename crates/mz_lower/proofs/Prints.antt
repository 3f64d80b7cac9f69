-- Prints, failed tries, closing entries and looks: no word is changed of which a part speaks.
use Rattle.std.proofs.Common.{◌≡◌, ◌≢◌, ◌<◌, ◌≤◌, ◌==◌, ◌⊎◌, inl, inr, ℕ, ◌+◌, ◌*◌, ◌%◌, ◌^◌, List, [], ◌∷◌, ◌++◌, Option, Some, refl, sym, ap, ◌∙◌, subst, arith, ne_eqb}
use Rattle.std.specs.Prelude.{slice_get, slice_set, if◌then◌else◌}
use Rattle.mz_tree.specs.declared.types.Place.{Place}
use Rattle.mz_tree.specs.Code.{Print_op, Command}
use Rattle.mz_tree.specs.Programs.{Program}
use Rattle.mz_words.specs.declared.code.Act.TheVariants.{Print}
use Rattle.mz_words.specs.declared.code.Instr.{Instr}
use Rattle.mz_words.specs.declared.code.Code.{Code}
use Rattle.mz_words.specs.declared.options.Options.{Options}
use Rattle.mz_words.specs.declared.ends.End.{End}
use Rattle.mz_words.specs.declared.ends.End.TheVariants as ending
use Rattle.mz_words.specs.declared.asks.Ask.TheVariants.{Prints}
use Rattle.mz_words.specs.declared.asks.Answer.TheVariants.{Saw}
use Rattle.mz_words.specs.declared.stages.Stage.{Stage}
use Rattle.mz_words.specs.declared.stages.Stage.TheVariants.{Border, Ready, Closing, Over}
use Rattle.mz_words.specs.Standing.{Standing}
use Rattle.mz_words.specs.Steps.{reg, counted, missed_one, ask_closing}
use Rattle.mz_words.specs.Answers.{moved, word_then}
use Rattle.mz_words.specs.Raw.{Raw, printed}
use Rattle.mz_named.specs.Machine.{Int_value, Step_acts, Config, Thread, Environment, Level, Suspended}
use Rattle.mz_lower.specs.Layout.{instr}
use Rattle.mz_lower.specs.StandsFor.{raw_value, StandsRunning, ThreadStands, IsCut, EndStands}
use Rattle.mz_lower.proofs.Addresses.{remaining, if_false}
use Rattle.mz_words.proofs.Lists.{set_long}
use Rattle.mz_lower.proofs.Simulation.{Simulation, Inside, EventAt}
use Rattle.mz_lower.proofs.Still.{still_keeps, start_word, waiting_words}
use Rattle.mz_lower.proofs.CanDo.{ThreadIsFine, CanDo, Can_act, Can_stop, Can_wait, Can_choose, Can_call, Can_spawn, fine_can}
use Rattle.mz_lower.proofs.Binding.{nil_right, AtCommand, at_frame, next_of, bind, bind_binds, bound_goes, gave_frames, rests_with}
use Rattle.mz_lower.proofs.LocalActs.{StepOn}
use Rattle.mz_lower.proofs.Asked.{counted_is, EventAs, event_as}
use Rattle.mz_lower.proofs.NewBlocks.{by_bool}

module _ (p : Program) (c : Code) (o : Options) (s s' : Raw) (w : Config) (S : Simulation p c o s w) (k n : ℕ) (values : Environment) (to : ℕ) (place : Place) (rest : List Command) (value : ℕ) (outer : List Level) (below : List Suspended) where
  -- a Print adds the number that its named step adds
  pub print_next : (x m : ℕ) → AtCommand c s w k n values to (Print_op x) place rest value outer below → ThreadIsFine p w n
      → EventAt c o s k (Saw m) s' Ready (Some (instr place (Print to x))) → StepOn p c o s' w n
  print_next x m at fine e = by_can (fine_can p w n (next_of c s w k n values to (Print_op x) place rest value outer below at) fine)
    where
      raw : ℕ
      raw = reg (s.thread k) x

      asked : (counted o (s.thread k) (Prints raw) ≡ Prints raw) × ((s.thread k).units < o.steps)
      asked = counted_is o (s.thread k) (Prints raw) (Saw m) (λ h. h) e.may

      f : EventAs c o s k (Saw m) s' Ready (Some (instr place (Print to x))) (Prints raw)
      f = event_as c o s k (Saw m) s' Ready (Some (instr place (Print to x))) (Prints raw) e asked.0

      u : Thread
      u = at_frame (bind to (Int_value 0) values) (remaining rest value) outer below

      by_can : CanDo p values (Print_op x) w.heap.at → StepOn p c o s' w n
      by_can (Can_act v at' out d) = (
        w',
        Step_acts _ below _ rest (Int_value 0) (bind to (Int_value 0) values) out (next_of c s w k n values to (Print_op x) place rest value outer below at) (d.0, refl, λ b. refl)
            (ap (λ (l : List ℕ). w.prints ++ l) (sym d.0.2)) (bind_binds to (Int_value 0) values) (bound_goes p c o s s' w S k n values to (Print_op x) place rest value outer below at refl (Int_value 0) 0 0 0 0),
        still_keeps p c o s s' w w' S k n (record {
          number = e.number;
          words = λ q h. f.words q ∙ if_false (4 == q) (ne_eqb 4 q (λ z. off q h z)) ((s.word q + 1) % 2 ^ 64) (s.word q);
          blocks = e.blocks;
          born = e.born ∙ nil_right s.born;
          prints = f.prints ∙ ap (λ (l : List ℕ). l ++ raw ∷ []) S.stands.prints ∙ ap (λ z. w.prints ++ z ∷ []) (at.regs.agree x ∙ ap raw_value d.0.1);
          others = e.others;
          cells = λ b. refl;
          is = at.is;
          thread = u;
          goes = bound_goes p c o s s' w S k n values to (Print_op x) place rest value outer below at refl (Int_value 0) 0 0 0 0;
          many = set_long w.threads n u;
          mine = subst (λ (t : Standing). ThreadStands c.instrs p s'.word k t u) (sym e.mine) (gave_frames p c o s s' w S k n values to (Print_op x) place rest value outer below at refl (Int_value 0) 0 ((s.thread k).units + 1) 1 0 refl);
          inside = subst (λ (t : Standing). Inside s'.word w' S.base_of S.maker S.spawner k t t.stage (slice_get c.instrs t.at)) (sym e.mine) tt;
          more = 1;
          counts = ap (λ (t : Standing). t.units) e.mine;
          within = subst (λ (t : Standing). t.units ≤ o.steps) (sym e.mine) (omega (arith, asked.1));
        }),
      )
        where
          w' : Config
          w' = record { heap = w.heap; threads = slice_set w.threads n u; prints = w.prints ++ d.0.0 ∷ [] }

          off : (q : ℕ) → (q < 2) ⊎ (5 ≤ q) → 4 ≡ q → ⊥
          off q (inl l) z = omega (arith, l, z)
          off q (inr l) z = omega (arith, l, z)
      by_can (Can_stop z) = absurd z
      by_can (Can_wait z) = absurd z
      by_can (Can_choose body z) = absurd z
      by_can (Can_call callee2 args2 q2 g2) = absurd (cc)
      by_can (Can_spawn callee2 arg2 q2 g2) = absurd (cc)

-- a closing entry is no print, and changes word 2 or 3 alone
closing_prints : (e : End) (m : ℕ) → printed (ask_closing e) (Saw m) ≡ []
closing_prints ending.Done m = refl
closing_prints e m = refl

off_word : (place q : ℕ) → 2 ≤ place → place < 5 → (q < 2) ⊎ (5 ≤ q) → (x y : ℕ) → (if place == q then x else y) ≡ y
off_word place q l h (inl z) x y = if_false (place == q) (ne_eqb place q (λ e. omega (arith, e, z, l))) x y
off_word place q l h (inr z) x y = if_false (place == q) (ne_eqb place q (λ e. omega (arith, e, z, h))) x y

closing_words : (e : End) (m : ℕ) (word : ℕ → ℕ) (q : ℕ) → (q < 2) ⊎ (5 ≤ q) → word_then (moved (ask_closing e) (Saw m)) word q ≡ word q
closing_words ending.Done m word q h = off_word 2 q (omega arith) (omega arith) h _ _
closing_words e m word q h = off_word 3 q (omega arith) (omega arith) h _ _

runs_over : (code : List Instr) (t : Standing) (stage : Stage) (u : Thread) → StandsRunning code t u → StandsRunning code (record t { stage = stage }) u
runs_over code t stage u r = record { top = r.top; below = r.below; is = r.is; frames = record { regs = r.frames.regs; place = r.frames.place; under = r.frames.under } }

cut_over : (code : List Instr) (p : Program) (f g : ℕ → ℕ) (k : ℕ) (t : Standing) (stage : Stage) (u : Thread) → ((a : ℕ) → (a ≡ 6 + 3 * k) ⊎ (a ≡ 7 + 3 * k) → g a ≡ f a) → IsCut code p f k t u → IsCut code p g k (record t { stage = stage }) u
cut_over code p f g k t stage u h (inl r) = inl (runs_over code t stage u r)
cut_over code p f g k t stage u h (inr q) = inr (waiting_words p f g k u h q)

-- an end says the same from its closing entry on
over_stands : (code : List Instr) (p : Program) (f g : ℕ → ℕ) (k : ℕ) (t : Standing) (e : End) (u : Thread) → ((a : ℕ) → (a ≡ 6 + 3 * k) ⊎ (a ≡ 7 + 3 * k) → g a ≡ f a) → EndStands code p f k t e u → EndStands code p g k (record t { stage = Over e }) e u
over_stands code p f g k t ending.Done u h q = q
over_stands code p f g k t (ending.TakeFailed place) u h q = q
over_stands code p f g k t (ending.Arith place) u h q = q
over_stands code p f g k t ending.NeverStarted u h q = waiting_words p f g k u h q
over_stands code p f g k t ending.Halted u h q = cut_over code p f g k t (Over ending.Halted) u h q
over_stands code p f g k t ending.Memory u h q = cut_over code p f g k t (Over ending.Memory) u h q
over_stands code p f g k t e u h q = runs_over code t (Over e) u q

-- a failed try: the thread looks at STOP again, or ends Blocked
module _ (p : Program) (c : Code) (o : Options) (s s' : Raw) (w : Config) (S : Simulation p c o s w) (k n : ℕ) (u : Thread) (is : slice_get s.born n ≡ Some k) (here : slice_get w.threads n ≡ Some u) where
  -- a failed try leaves the named thread at its Acquire
  pub missed_next : (place : Place) → StandsRunning c.instrs (s.thread k) u → s'.thread k ≡ missed_one o place (s.thread k) → k < 64 → ((q : ℕ) → s'.word q ≡ s.word q) → ((b : ℕ) → s'.blocks b ≡ s.blocks b) → s'.born ≡ s.born → s'.prints ≡ s.prints
      → ((j : ℕ) → j ≢ k → s'.thread j ≡ s.thread j) → Simulation p c o s' w
  missed_next place r mine number words blocks born prints others = by_bool (Simulation p c o s' w) ((s.thread k).lost + 1 == o.tries) _ _ (s'.thread k) mine
      (λ q. rests_with p c o s s' w S k n number (λ x h. words x) blocks born prints others is u u here (record (s.thread k) { lost = (s.thread k).lost + 1; stage = Closing (ending.Blocked place) }) 0 q (omega arith) (S.units k)
      (record { top = r.top; below = r.below; is = r.is; frames = record { regs = r.frames.regs; place = r.frames.place; under = r.frames.under } }) (λ w2 h. tt) refl)
      (λ q. rests_with p c o s s' w S k n number (λ x h. words x) blocks born prints others is u u here (record (s.thread k) { lost = (s.thread k).lost + 1; stage = Border }) 0 q (omega arith) (S.units k)
      (record { top = r.top; below = r.below; is = r.is; frames = record { regs = r.frames.regs; place = r.frames.place; under = r.frames.under } }) (λ w2 h. tt) refl)

  -- the closing entry: the thread has its end from it on
  pub close_next : (e : End) (m : ℕ) (a : Option Instr) → EndStands c.instrs p s.word k (s.thread k) e u → EventAt c o s k (Saw m) s' (Closing e) a → Simulation p c o s' w
  close_next e m a stands v = rests_with p c o s s' w S k n v.number words v.blocks (v.born ∙ nil_right s.born) (v.prints ∙ ap (λ (l : List ℕ). s.prints ++ l) (closing_prints e m) ∙ nil_right s.prints) v.others is u u here
      (record (s.thread k) { stage = Over e }) 0 v.mine (omega arith) (S.units k)
      (over_stands c.instrs p s.word s'.word k (s.thread k) e u (λ x h. words x (inr (start_word x k h))) stands) (λ w2 h. tt) refl
    where
      words : (q : ℕ) → (q < 2) ⊎ (5 ≤ q) → s'.word q ≡ s.word q
      words q h = v.words q ∙ closing_words e m s.word q h
