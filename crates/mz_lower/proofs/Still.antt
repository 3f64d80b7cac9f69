-- An event that changes no word of those that are known, no block and no cell: one thread goes on, and its named thread with it.
use Rattle.std.proofs.Common.{◌≡◌, ◌≢◌, ◌<◌, ◌≤◌, ◌⊎◌, inl, inr, ℕ, ◌+◌, ◌*◌, List, length, Option, Some, None, refl, sym, ap, ◌∙◌, subst, arith}
use Rattle.std.specs.Prelude.{slice_get}
use Rattle.std.proofs.lemmas.Bool.{cases_eq}
use Rattle.mz_tree.specs.Programs.{Program}
use Rattle.mz_words.specs.declared.code.Act.{Act}
use Rattle.mz_words.specs.declared.code.Act.TheVariants.{Take, Spawn}
use Rattle.mz_words.specs.declared.code.Instr.{Instr}
use Rattle.mz_words.specs.declared.code.Code.{Code}
use Rattle.mz_words.specs.declared.options.Options.{Options}
use Rattle.mz_words.specs.declared.ends.End.{End}
use Rattle.mz_words.specs.declared.ends.End.TheVariants as ending
use Rattle.mz_words.specs.declared.stages.Stage.{Stage}
use Rattle.mz_words.specs.declared.stages.Stage.TheVariants.{Idle, IdleStop, IdleLive, LoadFun, LoadArg, Entering, Border, Ready, Making, Taking, Spawning, Unmatched, Closing, Over}
use Rattle.mz_words.specs.Standing.{Standing}
use Rattle.mz_words.specs.Steps.{reg}
use Rattle.mz_words.specs.Raw.{Raw}
use Rattle.mz_named.specs.Machine.{Cell, Config, Thread, Puts}
use Rattle.mz_lower.specs.StandsFor.{WordsAgree, HasNamedThread, ThreadStands, StageStands, StandsBeforeStart, IsCut, EndStands, cell_words}
use Rattle.mz_lower.proofs.Addresses.{some_inj}
use Rattle.mz_lower.proofs.Changes.{total, total_one}
use Rattle.mz_lower.proofs.Simulation.{Simulation, Taken, Spawned, Inside, Started, Dormant}

-- the words of a thread's start are below those of blocks
pub start_word : (a k : ℕ) → (a ≡ 6 + 3 * k) ⊎ (a ≡ 7 + 3 * k) → 5 ≤ a
start_word a k (inl e) = omega (arith, e)
start_word a k (inr e) = omega (arith, e)

-- what a thread stands for looks at two words alone
pub waiting_words : (p : Program) (f g : ℕ → ℕ) (k : ℕ) (u : Thread) → ((a : ℕ) → (a ≡ 6 + 3 * k) ⊎ (a ≡ 7 + 3 * k) → g a ≡ f a) → StandsBeforeStart p f k u → StandsBeforeStart p g k u
waiting_words p f g k u h q = record { callee = q.callee; args = q.args; start = q.start; fun_word = h (6 + 3 * k) (inl refl) ∙ q.fun_word; arg_word = λ v e. h (7 + 3 * k) (inr refl) ∙ q.arg_word v e }

cut_words : (code : List Instr) (p : Program) (f g : ℕ → ℕ) (k : ℕ) (t : Standing) (u : Thread) → ((a : ℕ) → (a ≡ 6 + 3 * k) ⊎ (a ≡ 7 + 3 * k) → g a ≡ f a) → IsCut code p f k t u → IsCut code p g k t u
cut_words code p f g k t u h (inl q) = inl q
cut_words code p f g k t u h (inr q) = inr (waiting_words p f g k u h q)

end_words : (code : List Instr) (p : Program) (f g : ℕ → ℕ) (k : ℕ) (t : Standing) (e : End) (u : Thread) → ((a : ℕ) → (a ≡ 6 + 3 * k) ⊎ (a ≡ 7 + 3 * k) → g a ≡ f a) → EndStands code p f k t e u → EndStands code p g k t e u
end_words code p f g k t ending.Done u h q = q
end_words code p f g k t (ending.TakeFailed place) u h q = q
end_words code p f g k t (ending.Arith place) u h q = q
end_words code p f g k t ending.NeverStarted u h q = waiting_words p f g k u h q
end_words code p f g k t ending.Halted u h q = cut_words code p f g k t u h q
end_words code p f g k t ending.Memory u h q = cut_words code p f g k t u h q
end_words code p f g k t e u h q = q

-- a thread stands for the same where the words of its start are the same
pub stage_words : (code : List Instr) (p : Program) (f g : ℕ → ℕ) (k : ℕ) (t : Standing) (stage : Stage) (u : Thread) → ((a : ℕ) → (a ≡ 6 + 3 * k) ⊎ (a ≡ 7 + 3 * k) → g a ≡ f a) → StageStands code p f k t stage u → StageStands code p g k t stage u
unfolding waiting_words
stage_words code p f g k t Idle u h q = waiting_words p f g k u h q
stage_words code p f g k t IdleStop u h q = waiting_words p f g k u h q
stage_words code p f g k t IdleLive u h q = waiting_words p f g k u h q
stage_words code p f g k t LoadFun u h q = waiting_words p f g k u h q
stage_words code p f g k t (LoadArg n) u h q = (waiting_words p f g k u h q.0, q.1)
stage_words code p f g k t (Entering n arg) u h q = (waiting_words p f g k u h q.0, q.1, q.2)
stage_words code p f g k t Border u h q = q
stage_words code p f g k t Ready u h q = q
stage_words code p f g k t (Making b i) u h q = q
stage_words code p f g k t Taking u h q = q
stage_words code p f g k t (Spawning j i) u h q = q
stage_words code p f g k t Unmatched u h q = q
stage_words code p f g k t (Closing e) u h q = end_words code p f g k t e u h q
stage_words code p f g k t (Over e) u h q = end_words code p f g k t e u h q

-- all words and cells as they were
pub taken_goes : (f g : ℕ → ℕ) (base_of base_of' maker maker' : ℕ → Option ℕ) (t : Standing) (a : Act) → ((n : ℕ) → base_of (n + 1) ≡ Some n → maker n ≡ None → (g (n + 1) ≡ f (n + 1)) × (base_of' (n + 1) ≡ Some n) × (maker' n ≡ None))
    → Taken f base_of maker t a → Taken g base_of' maker' t a
taken_goes f g base_of base_of' maker maker' t (Take to block adopter) h q = let z = h (reg t block) q.1 q.2 in (z.0 ∙ q.0, z.1, z.2)
taken_goes f g base_of base_of' maker maker' t a h q = absurd q

-- what a Take has seen stays where its word does
pub taken_still : (f g : ℕ → ℕ) (base_of maker : ℕ → Option ℕ) (t : Standing) (a : Act) → ((n : ℕ) → base_of (n + 1) ≡ Some n → maker n ≡ None → g (n + 1) ≡ f (n + 1)) → Taken f base_of maker t a → Taken g base_of maker t a
taken_still f g base_of maker t a h q = taken_goes f g base_of base_of maker maker t a (λ n e d. (h n e d, e, d)) q

-- a drawn number stays drawn where its words do
pub spawned_still : (f g : ℕ → ℕ) (spawner : ℕ → Option ℕ) (k : ℕ) (t : Standing) (a : Act) (j i : ℕ) → ((m : ℕ) → 5 ≤ m → m < 197 → g m ≡ f m) → Spawned f spawner k t a j i → Spawned g spawner k t a j i
spawned_still f g spawner k t (Spawn to callee arg) j i h q = record { mine = q.mine; low = q.low; high = q.high; few = q.few; stored_fun = λ l. h (6 + 3 * j) (omega arith) (omega (arith, q.high)) ∙ q.stored_fun l; stored_arg = λ l. h (7 + 3 * j) (omega arith) (omega (arith, q.high)) ∙ q.stored_arg l }
spawned_still f g spawner k t a j i h q = absurd q

-- where words and cells are as they were, so is what is known inside an instruction
pub inside_still : (f g : ℕ → ℕ) (w w' : Config) (base_of maker spawner : ℕ → Option ℕ) (k : ℕ) (t : Standing) (stage : Stage) (a : Option Instr) → ((m n : ℕ) → base_of m ≡ Some n → g m ≡ f m) → ((m : ℕ) → 5 ≤ m → m < 197 → g m ≡ f m) → ((b : ℕ) → w.heap.at b ≡ None → w'.heap.at b ≡ None)
    → Inside f w base_of maker spawner k t stage a → Inside g w' base_of maker spawner k t stage a
inside_still f g w w' base_of maker spawner k t (Making b i) (Some a) h low e q = record { words = q.words; not_yet = e b q.not_yet; mine = q.mine; few = q.few; stored = λ j l. h (b + j) b (q.words j (omega (arith, l, q.few))) ∙ q.stored j l }
inside_still f g w w' base_of maker spawner k t Taking (Some a) h low e q = taken_still f g base_of maker t a.act (λ n e d. h (n + 1) n e) q
inside_still f g w w' base_of maker spawner k t (Spawning j i) (Some a) h low e q = spawned_still f g spawner k t a.act j i low q
inside_still f g w w' base_of maker spawner k t (Making b i) None h low e q = tt
inside_still f g w w' base_of maker spawner k t Taking None h low e q = tt
inside_still f g w w' base_of maker spawner k t (Spawning j i) None h low e q = tt
inside_still f g w w' base_of maker spawner k t Idle a h low e q = tt
inside_still f g w w' base_of maker spawner k t IdleStop a h low e q = tt
inside_still f g w w' base_of maker spawner k t IdleLive a h low e q = tt
inside_still f g w w' base_of maker spawner k t LoadFun a h low e q = tt
inside_still f g w w' base_of maker spawner k t (LoadArg n) a h low e q = tt
inside_still f g w w' base_of maker spawner k t (Entering n arg) a h low e q = tt
inside_still f g w w' base_of maker spawner k t Border a h low e q = tt
inside_still f g w w' base_of maker spawner k t Ready a h low e q = tt
inside_still f g w w' base_of maker spawner k t Unmatched a h low e q = tt
inside_still f g w w' base_of maker spawner k t (Closing n) a h low e q = tt
inside_still f g w w' base_of maker spawner k t (Over n) a h low e q = tt

-- what such an event of thread k, the n-th named one, has to show
pub record Still (p : Program) (c : Code) (o : Options) (s s' : Raw) (w w' : Config) (S : Simulation p c o s w) (k n : ℕ) : Type 0 where
  pub number : k < 64
  -- words 2 to 4 count and say when to stop: no part speaks of them
  pub words : (a : ℕ) → (a < 2) ⊎ (5 ≤ a) → s'.word a ≡ s.word a
  pub blocks : (b : ℕ) → s'.blocks b ≡ s.blocks b
  pub born : s'.born ≡ s.born
  pub prints : s'.prints ≡ w'.prints
  pub others : (j : ℕ) → j ≢ k → s'.thread j ≡ s.thread j
  pub cells : (b : ℕ) → w'.heap.at b ≡ w.heap.at b
  pub is : slice_get s.born n ≡ Some k
  pub thread : Thread
  pub goes : Puts (slice_get w.threads) n thread (slice_get w'.threads)
  pub many : length w'.threads ≡ length w.threads
  pub mine : ThreadStands c.instrs p s'.word k (s'.thread k) thread
  pub inside : Inside s'.word w' S.base_of S.maker S.spawner k (s'.thread k) (s'.thread k).stage (slice_get c.instrs (s'.thread k).at)
  -- so many units more
  pub more : ℕ
  pub counts : (s'.thread k).units ≡ (s.thread k).units + more
  pub within : (s'.thread k).units ≤ o.steps

-- the units of all threads
pub units_rise : (f g : ℕ → Standing) (k more : ℕ) → k < 64 → (g k).units ≡ (f k).units + more → ((j : ℕ) → j ≢ k → g j ≡ f j) → total (λ j. (g j).units) 64 ≡ total (λ j. (f j).units) 64 + more
units_rise f g k more l e h = total_one (λ j. (f j).units) (λ j. (g j).units) k more e (λ m n. ap (λ (t : Standing). t.units) (h m n)) 64 l

module _ (p : Program) (c : Code) (o : Options) (s s' : Raw) (w w' : Config) (S : Simulation p c o s w) (k n : ℕ) (q : Still p c o s s' w w' S k n) where
  born_back : (m j : ℕ) → slice_get s'.born m ≡ Some j → slice_get s.born m ≡ Some j
  born_back m j e = subst (λ (l : List ℕ). slice_get l m ≡ Some j) q.born e

  born_on : (m j : ℕ) → slice_get s.born m ≡ Some j → slice_get s'.born m ≡ Some j
  born_on m j e = subst (λ (l : List ℕ). slice_get l m ≡ Some j) (sym q.born) e

  named : (m j : ℕ) → slice_get s'.born m ≡ Some j → HasNamedThread c.instrs p s' w' m j
  named m j e = elim (cases_eq j k) [
    | inl z ↦ (let same : m ≡ n = S.once m n k (subst (λ x. slice_get s.born m ≡ Some x) z (born_back m j e)) q.is in
        record {
          thread = q.thread;
          here = subst (λ x. slice_get w'.threads x ≡ Some q.thread) (sym same) q.goes.put;
          stands = subst (λ x. ThreadStands c.instrs p s'.word x (s'.thread x) q.thread) (sym z) q.mine;
        })
    | inr z ↦ (let old = S.stands.threads m j (born_back m j e) in
        let far : m ≢ n = λ x. z (some_inj (sym (born_back m j e) ∙ ap (slice_get s.born) x ∙ q.is)) in
        record {
          thread = old.thread;
          here = q.goes.others m far ∙ old.here;
          stands = subst (λ (t : Standing). ThreadStands c.instrs p s'.word j t old.thread) (sym (q.others j z))
              (stage_words c.instrs p s.word s'.word j (s.thread j) (s.thread j).stage old.thread (λ a h. q.words a (inr (start_word a j h))) old.stands);
        })
  ]

  high : (a b : ℕ) → S.base_of a ≡ Some b → 5 ≤ a
  high a b e = omega (arith, S.low a b e)

  agrees : (b : ℕ) (cell : Cell) → w'.heap.at b ≡ Some cell → WordsAgree s' b cell
  agrees b cell e =
      let old = S.stands.blocks b cell (sym (q.cells b) ∙ e) in
      record { complete = q.blocks b ∙ old.complete; words = λ i l. q.words (b + i) (inr (high (b + i) b (S.in_block b (cell_words cell) i old.complete l))) ∙ old.words i l }

  total_up : total (λ j. (s'.thread j).units) 64 ≡ total (λ j. (s.thread j).units) 64 + q.more
  total_up = units_rise s.thread s'.thread k q.more q.number q.counts q.others

  -- each part is as it was
  pub still_keeps : Simulation p c o s' w'
  still_keeps = record {
    stands = record {
      blocks = agrees;
      complete = λ b m e. (let old = S.stands.complete b m (sym (q.blocks b) ∙ e) in (old.0, q.cells b ∙ old.1));
      threads = named;
      many = q.many ∙ S.stands.many ∙ ap length (sym q.born);
      prints = q.prints;
    };
    base_of = S.base_of;
    maker = S.maker;
    in_block = λ b m i e l. S.in_block b m i (sym (q.blocks b) ∙ e) l;
    beyond = λ a l. S.beyond a (subst (λ x. x ≤ a) (q.words 0 (inl (omega arith))) l);
    low = S.low;
    within_heap = S.within_heap;
    top = subst (λ x. 197 ≤ x) (sym (q.words 0 (inl (omega arith)))) S.top;
    made = λ b cell e. S.made b cell (sym (q.cells b) ∙ e);
    spawner = S.spawner;
    undrawn = λ j l. S.undrawn j (subst (λ x. x ≤ j) (q.words 1 (inl (omega arith))) l);
    dormant = λ j h. elim (cases_eq j k) [
      | inl z ↦ absurd (h n (subst (λ x. slice_get s'.born n ≡ Some x) (sym z) (born_on n k q.is)))
      | inr z ↦ subst (λ (t : Standing). Dormant t.stage) (sym (q.others j z)) (S.dormant j (λ m e. h m (born_on m j e)))
    ];
    unready = λ j l h. q.words (5 + 3 * j) (inr (omega arith)) ∙ S.unready j l (λ m e. h m (born_on m j e));
    born_drawn = λ m j e. (let old = S.born_drawn m j (born_back m j e) in (subst (λ x. j < x) (sym (q.words 1 (inl (omega arith)))) old.0, old.1));
    born_few = λ m j e. S.born_few m j (born_back m j e);
    next = subst (λ x. 1 ≤ x) (sym (q.words 1 (inl (omega arith)))) S.next;
    inside = λ j. elim (cases_eq j k) [
      | inl z ↦ subst (λ x. Inside s'.word w' S.base_of S.maker S.spawner x (s'.thread x) (s'.thread x).stage (slice_get c.instrs (s'.thread x).at)) (sym z) q.inside
      | inr z ↦ subst (λ (t : Standing). Inside s'.word w' S.base_of S.maker S.spawner j t t.stage (slice_get c.instrs t.at)) (sym (q.others j z))
          (inside_still s.word s'.word w w' S.base_of S.maker S.spawner j (s.thread j) (s.thread j).stage (slice_get c.instrs (s.thread j).at) (λ m x e. q.words m (inr (high m x e))) (λ m l h. q.words m (inr l)) (λ b e. q.cells b ∙ e) (S.inside j))
    ];
    once = λ m x j e f. S.once m x j (born_back m j e) (born_back x j f);
    started = λ j h. elim (cases_eq j k) [
      | inl z ↦ (n, subst (λ x. slice_get s'.born n ≡ Some x) (sym z) (born_on n k q.is))
      | inr z ↦ (let old = S.started j (subst (λ (t : Standing). Started t.stage) (q.others j z) h) in (old.0, born_on old.0 j old.1))
    ];
    units = λ j. elim (cases_eq j k) [
      | inl z ↦ subst (λ x. (s'.thread x).units ≤ o.steps) (sym z) q.within
      | inr z ↦ subst (λ (t : Standing). t.units ≤ o.steps) (sym (q.others j z)) (S.units j)
    ];
    top_most = omega (arith, q.words 0 (inl (omega arith)), total_up, S.top_most);
    next_most = omega (arith, q.words 1 (inl (omega arith)), total_up, S.next_most);
  }
