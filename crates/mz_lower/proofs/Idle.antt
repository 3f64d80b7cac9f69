-- Looks of a thread that hasn't started.
use Rattle.std.proofs.Common.{◌≡◌, ◌≢◌, ◌<◌, ◌≤◌, ◌==◌, ◌⊎◌, inl, inr, ℕ, zero, suc, ◌+◌, ◌*◌, List, [], ◌∷◌, length, Option, Some, None, refl, sym, ap, ◌∙◌, subst, arith}
use Rattle.std.specs.Prelude.{slice_get}
use Rattle.std.proofs.lemmas.Bool.{cases_eq}
use Rattle.mz_tree.specs.Programs.{Program}
use Rattle.mz_words.specs.declared.code.Instr.{Instr}
use Rattle.mz_words.specs.declared.code.Code.{Code}
use Rattle.mz_words.specs.declared.options.Options.{Options}
use Rattle.mz_words.specs.declared.ends.End.TheVariants as ending
use Rattle.mz_words.specs.declared.asks.Answer.{Answer}
use Rattle.mz_words.specs.declared.asks.Answer.TheVariants.{Saw, Quiet, Missed, Refused}
use Rattle.mz_words.specs.declared.stages.Stage.{Stage}
use Rattle.mz_words.specs.declared.stages.Stage.TheVariants.{Idle, IdleStop, IdleLive, LoadFun, LoadArg, Entering, Border, Ready, Making, Taking, Spawning, Unmatched, Closing, Over}
use Rattle.mz_words.specs.Standing.{Standing}
use Rattle.mz_words.specs.Raw.{Raw, Event}
use Rattle.mz_named.specs.Machine.{Config, Thread}
use Rattle.mz_lower.specs.StandsFor.{StageStands, ThreadStands}
use Rattle.mz_lower.proofs.Addresses.{some_inj}
use Rattle.mz_lower.proofs.Simulation.{Simulation, Inside, Started, Dormant, EventAt, event_at}
use Rattle.mz_lower.proofs.Changes.{total}
use Rattle.mz_lower.proofs.Still.{waiting_words, stage_words, inside_still, units_rise}
use Rattle.mz_lower.proofs.Binding.{nil_right, rests_with}
use Rattle.mz_lower.proofs.Loads.{same_either}

-- where a number stands in a list, if it does
pub find_in : (xs : List ℕ) (k : ℕ) → ((n : ℕ) × (slice_get xs n ≡ Some k)) ⊎ ((n : ℕ) → slice_get xs n ≡ Some k → ⊥)
find_in [] k = inr (λ n e. no_none e)
  where
    no_none : None ≡ Some k → ⊥
    no_none e = absurd (cc)
find_in (x ∷ xs) k = elim (cases_eq x k) [
  | inl q ↦ inl (0, ap Some q)
  | inr q ↦ elim (find_in xs k) [
    | inl h ↦ inl (suc h.0, h.1)
    | inr h ↦ inr (λ n e. off n e q h)
  ]
]
  where
    off : (n : ℕ) → slice_get (x ∷ xs) n ≡ Some k → (x ≡ k → ⊥) → ((m : ℕ) → slice_get xs m ≡ Some k → ⊥) → ⊥
    off zero e q h = q (some_inj e)
    off (suc n) e q h = h n e

-- a thread whose READY is stored
module _ (p : Program) (c : Code) (o : Options) (s s' : Raw) (w : Config) (S : Simulation p c o s w) (k n : ℕ) (u : Thread) (is : slice_get s.born n ≡ Some k) (here : slice_get w.threads n ≡ Some u) where
  goes : (stage : Stage) → ThreadStands c.instrs p s'.word k (record (s.thread k) { stage = stage }) u → ((w2 : Config) → Inside s'.word w2 S.base_of S.maker S.spawner k (record (s.thread k) { stage = stage }) stage (slice_get c.instrs (s.thread k).at))
      → s'.thread k ≡ record (s.thread k) { stage = stage } → k < 64 → ((q : ℕ) → s'.word q ≡ s.word q) → ((b : ℕ) → s'.blocks b ≡ s.blocks b) → s'.born ≡ s.born → s'.prints ≡ s.prints → ((j : ℕ) → j ≢ k → s'.thread j ≡ s.thread j) → Simulation p c o s' w
  goes stage stands inside mine number words blocks born prints others = rests_with p c o s s' w S k n number (λ q h. words q) blocks born prints others is u u here (record (s.thread k) { stage = stage }) 0 mine (omega arith) (S.units k) stands (λ w2 h. inside w2) refl

  -- a look of a thread whose start was stored
  pub idle_born : (answer : Answer) (stage : Stage) → (s.thread k).stage ≡ stage → StageStands c.instrs p s.word k (s.thread k) stage u → Event c o s k answer s' → (stage ≡ Idle) ⊎ ((stage ≡ IdleStop) ⊎ (stage ≡ IdleLive)) → Simulation p c o s' w
  idle_born answer stage st q v h = by_stage answer stage st q v h
    where
      at : (answer : Answer) (stage : Stage) → Event c o s k answer s' → (s.thread k).stage ≡ stage → EventAt c o s k answer s' stage (slice_get c.instrs (s.thread k).at)
      at answer stage v st = event_at c o s k answer s' stage (slice_get c.instrs (s.thread k).at) v st refl

      by_stage : (answer : Answer) (stage : Stage) → (s.thread k).stage ≡ stage → StageStands c.instrs p s.word k (s.thread k) stage u → Event c o s k answer s' → (stage ≡ Idle) ⊎ ((stage ≡ IdleStop) ⊎ (stage ≡ IdleLive)) → Simulation p c o s' w
      by_stage (Saw m) Idle st q v h = let e = at (Saw m) Idle v st in
          goes LoadFun (waiting_words p s.word s'.word k u (λ x z. e.words x ∙ same_either (5 + 3 * k == x) (s.word x)) q) (λ w2. tt) e.mine e.number (λ x. e.words x ∙ same_either (5 + 3 * k == x) (s.word x)) e.blocks (e.born ∙ nil_right s.born) (e.prints ∙ nil_right s.prints) e.others
      by_stage Quiet Idle st q v h = let e = at Quiet Idle v st in
          goes IdleStop (waiting_words p s.word s'.word k u (λ x z. e.words x) q) (λ w2. tt) e.mine e.number e.words e.blocks (e.born ∙ nil_right s.born) (e.prints ∙ nil_right s.prints) e.others
      by_stage (Saw m) IdleStop st q v h = let e = at (Saw m) IdleStop v st in
          goes (Over ending.Halted) (inr (waiting_words p s.word s'.word k u (λ x z. e.words x ∙ same_either (3 == x) (s.word x)) q)) (λ w2. tt) e.mine e.number (λ x. e.words x ∙ same_either (3 == x) (s.word x)) e.blocks (e.born ∙ nil_right s.born) (e.prints ∙ nil_right s.prints) e.others
      by_stage Quiet IdleStop st q v h = let e = at Quiet IdleStop v st in
          goes IdleLive (waiting_words p s.word s'.word k u (λ x z. e.words x) q) (λ w2. tt) e.mine e.number e.words e.blocks (e.born ∙ nil_right s.born) (e.prints ∙ nil_right s.prints) e.others
      by_stage (Saw m) IdleLive st q v h = let e = at (Saw m) IdleLive v st in
          goes (Over ending.NeverStarted) (waiting_words p s.word s'.word k u (λ x z. e.words x ∙ same_either (2 == x) (s.word x)) q) (λ w2. tt) e.mine e.number (λ x. e.words x ∙ same_either (2 == x) (s.word x)) e.blocks (e.born ∙ nil_right s.born) (e.prints ∙ nil_right s.prints) e.others
      by_stage Quiet IdleLive st q v h = let e = at Quiet IdleLive v st in
          goes Idle (waiting_words p s.word s'.word k u (λ x z. e.words x) q) (λ w2. tt) e.mine e.number e.words e.blocks (e.born ∙ nil_right s.born) (e.prints ∙ nil_right s.prints) e.others
      by_stage Missed Idle st q v h = absurd (at Missed Idle v st).may
      by_stage Refused Idle st q v h = absurd (at Refused Idle v st).may
      by_stage Missed IdleStop st q v h = absurd (at Missed IdleStop v st).may
      by_stage Refused IdleStop st q v h = absurd (at Refused IdleStop v st).may
      by_stage Missed IdleLive st q v h = absurd (at Missed IdleLive v st).may
      by_stage Refused IdleLive st q v h = absurd (at Refused IdleLive v st).may
      by_stage answer stage st q v (inl e) = absurd (cc)
      by_stage answer stage st q v (inr (inl e)) = absurd (cc)
      by_stage answer stage st q v (inr (inr e)) = absurd (cc)

-- a thread that nobody has started
module _ (p : Program) (c : Code) (o : Options) (s s' : Raw) (w : Config) (S : Simulation p c o s w) (k : ℕ) (unborn : (n : ℕ) → slice_get s.born n ≡ Some k → ⊥) where
  dormant_on : (stage : Stage) → Dormant stage → (Started stage → ⊥) → ((w2 : Config) (a : Option Instr) → Inside s'.word w2 S.base_of S.maker S.spawner k (record (s.thread k) { stage = stage }) stage a)
      → s'.thread k ≡ record (s.thread k) { stage = stage } → k < 64 → ((q : ℕ) → s'.word q ≡ s.word q) → ((b : ℕ) → s'.blocks b ≡ s.blocks b) → s'.born ≡ s.born → s'.prints ≡ s.prints → ((j : ℕ) → j ≢ k → s'.thread j ≡ s.thread j) → Simulation p c o s' w
  dormant_on stage d not_started inside mine number words blocks born prints others = record {
    stands = record {
      blocks = λ b cell e. (let old = S.stands.blocks b cell e in record { complete = blocks b ∙ old.complete; words = λ i l. words (b + i) ∙ old.words i l });
      complete = λ b m e. S.stands.complete b m (sym (blocks b) ∙ e);
      threads = λ m j e. (let old = S.stands.threads m j (back m j e) in record {
        thread = old.thread;
        here = old.here;
        stands = subst (λ (t : Standing). ThreadStands c.instrs p s'.word j t old.thread) (sym (others j (far m j e)))
            (stage_words c.instrs p s.word s'.word j (s.thread j) (s.thread j).stage old.thread (λ a h. words a) old.stands);
      });
      many = S.stands.many ∙ ap length (sym born);
      prints = prints ∙ S.stands.prints;
    };
    base_of = S.base_of;
    maker = S.maker;
    in_block = λ b m i e l. S.in_block b m i (sym (blocks b) ∙ e) l;
    beyond = λ a l. S.beyond a (subst (λ x. x ≤ a) (words 0) l);
    low = S.low;
    within_heap = S.within_heap;
    top = subst (λ x. 197 ≤ x) (sym (words 0)) S.top;
    made = S.made;
    spawner = S.spawner;
    undrawn = λ j l. S.undrawn j (subst (λ x. x ≤ j) (words 1) l);
    dormant = λ j h. elim (cases_eq j k) [
      | inl z ↦ subst (λ x. Dormant (s'.thread x).stage) (sym z) (subst (λ (t : Standing). Dormant t.stage) (sym mine) d)
      | inr z ↦ subst (λ (t : Standing). Dormant t.stage) (sym (others j z)) (S.dormant j (λ m e. h m (on m j e)))
    ];
    unready = λ j l h. words (5 + 3 * j) ∙ S.unready j l (λ m e. h m (on m j e));
    born_drawn = λ m j e. (let old = S.born_drawn m j (back m j e) in (subst (λ x. j < x) (sym (words 1)) old.0, old.1));
    born_few = λ m j e. S.born_few m j (back m j e);
    next = subst (λ x. 1 ≤ x) (sym (words 1)) S.next;
    inside = λ j. elim (cases_eq j k) [
      | inl z ↦ subst (λ x. Inside s'.word w S.base_of S.maker S.spawner x (s'.thread x) (s'.thread x).stage (slice_get c.instrs (s'.thread x).at)) (sym z)
          (subst (λ (t : Standing). Inside s'.word w S.base_of S.maker S.spawner k t t.stage (slice_get c.instrs t.at)) (sym mine) (inside w (slice_get c.instrs (s.thread k).at)))
      | inr z ↦ subst (λ (t : Standing). Inside s'.word w S.base_of S.maker S.spawner j t t.stage (slice_get c.instrs t.at)) (sym (others j z))
          (inside_still s.word s'.word w w S.base_of S.maker S.spawner j (s.thread j) (s.thread j).stage (slice_get c.instrs (s.thread j).at) (λ m x e. words m) (λ m l h. words m) (λ b e. e) (S.inside j))
    ];
    once = λ m x j e f. S.once m x j (back m j e) (back x j f);
    started = λ j h. elim (cases_eq j k) [
      | inl z ↦ absurd (not_started (subst (λ (t : Standing). Started t.stage) mine (subst (λ x. Started (s'.thread x).stage) z h)))
      | inr z ↦ (let old = S.started j (subst (λ (t : Standing). Started t.stage) (others j z) h) in (old.0, on old.0 j old.1))
    ];
    units = λ j. elim (cases_eq j k) [
      | inl z ↦ subst (λ x. (s'.thread x).units ≤ o.steps) (sym z) (subst (λ (t : Standing). t.units ≤ o.steps) (sym mine) (S.units k))
      | inr z ↦ subst (λ (t : Standing). t.units ≤ o.steps) (sym (others j z)) (S.units j)
    ];
    top_most = omega (arith, words 0, same_total, S.top_most);
    next_most = omega (arith, words 1, same_total, S.next_most);
  }
    where
      back : (m j : ℕ) → slice_get s'.born m ≡ Some j → slice_get s.born m ≡ Some j
      back m j e = subst (λ (l : List ℕ). slice_get l m ≡ Some j) born e

      on : (m j : ℕ) → slice_get s.born m ≡ Some j → slice_get s'.born m ≡ Some j
      on m j e = subst (λ (l : List ℕ). slice_get l m ≡ Some j) (sym born) e

      far : (m j : ℕ) → slice_get s'.born m ≡ Some j → j ≢ k
      far m j e z = unborn m (subst (λ x. slice_get s.born m ≡ Some x) z (back m j e))

      same_total : total (λ j. (s'.thread j).units) 64 ≡ total (λ j. (s.thread j).units) 64 + 0
      same_total = units_rise s.thread s'.thread k 0 number (ap (λ (t : Standing). t.units) mine ∙ omega arith) others

  -- a look of one that nobody has started
  pub idle_unborn : (answer : Answer) (stage : Stage) → (s.thread k).stage ≡ stage → Dormant stage → Event c o s k answer s' → Simulation p c o s' w
  idle_unborn answer stage st d v = by_stage answer stage st d v
    where
      at : (answer : Answer) (stage : Stage) → Event c o s k answer s' → (s.thread k).stage ≡ stage → EventAt c o s k answer s' stage (slice_get c.instrs (s.thread k).at)
      at answer stage v st = event_at c o s k answer s' stage (slice_get c.instrs (s.thread k).at) v st refl

      by_stage : (answer : Answer) (stage : Stage) → (s.thread k).stage ≡ stage → Dormant stage → Event c o s k answer s' → Simulation p c o s' w
      by_stage (Saw m) Idle st d v = let e = at (Saw m) Idle v st in absurd (e.may (e.agrees ∙ S.unready k e.number unborn))
      by_stage Quiet Idle st d v = let e = at Quiet Idle v st in dormant_on IdleStop tt (λ h. h) (λ w2 a. tt) e.mine e.number e.words e.blocks (e.born ∙ nil_right s.born) (e.prints ∙ nil_right s.prints) e.others
      by_stage (Saw m) IdleStop st d v = let e = at (Saw m) IdleStop v st in dormant_on (Over ending.Halted) tt (λ h. h) (λ w2 a. tt) e.mine e.number (λ x. e.words x ∙ same_either (3 == x) (s.word x)) e.blocks (e.born ∙ nil_right s.born) (e.prints ∙ nil_right s.prints) e.others
      by_stage Quiet IdleStop st d v = let e = at Quiet IdleStop v st in dormant_on IdleLive tt (λ h. h) (λ w2 a. tt) e.mine e.number e.words e.blocks (e.born ∙ nil_right s.born) (e.prints ∙ nil_right s.prints) e.others
      by_stage (Saw m) IdleLive st d v = let e = at (Saw m) IdleLive v st in dormant_on (Over ending.NeverStarted) tt (λ h. h) (λ w2 a. tt) e.mine e.number (λ x. e.words x ∙ same_either (2 == x) (s.word x)) e.blocks (e.born ∙ nil_right s.born) (e.prints ∙ nil_right s.prints) e.others
      by_stage Quiet IdleLive st d v = let e = at Quiet IdleLive v st in dormant_on Idle tt (λ h. h) (λ w2 a. tt) e.mine e.number e.words e.blocks (e.born ∙ nil_right s.born) (e.prints ∙ nil_right s.prints) e.others
      by_stage Missed Idle st d v = absurd (at Missed Idle v st).may
      by_stage Refused Idle st d v = absurd (at Refused Idle v st).may
      by_stage Missed IdleStop st d v = absurd (at Missed IdleStop v st).may
      by_stage Refused IdleStop st d v = absurd (at Refused IdleStop v st).may
      by_stage Missed IdleLive st d v = absurd (at Missed IdleLive v st).may
      by_stage Refused IdleLive st d v = absurd (at Refused IdleLive v st).may
      by_stage (Saw m) (Over e) st d v = absurd (at (Saw m) (Over e) v st).may
      by_stage Quiet (Over e) st d v = absurd (at Quiet (Over e) v st).may
      by_stage Missed (Over e) st d v = absurd (at Missed (Over e) v st).may
      by_stage Refused (Over e) st d v = absurd (at Refused (Over e) v st).may
      by_stage answer LoadFun st d v = absurd d
      by_stage answer (LoadArg f) st d v = absurd d
      by_stage answer (Entering f arg) st d v = absurd d
      by_stage answer Border st d v = absurd d
      by_stage answer Ready st d v = absurd d
      by_stage answer (Making b i) st d v = absurd d
      by_stage answer Taking st d v = absurd d
      by_stage answer (Spawning j i) st d v = absurd d
      by_stage answer Unmatched st d v = absurd d
      by_stage answer (Closing e) st d v = absurd d
