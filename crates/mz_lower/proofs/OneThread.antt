-- What an event of one thread has to show, whatever it changes: everything but a new thread.
use Rattle.std.proofs.Common.{◌≡◌, ◌≢◌, ◌<◌, ◌≤◌, ◌⊎◌, inl, inr, ℕ, ◌+◌, ◌*◌, List, length, Option, Some, None, refl, sym, ap, ◌∙◌, subst, arith}
use Rattle.std.specs.Prelude.{slice_get}
use Rattle.std.proofs.lemmas.Bool.{cases_eq}
use Rattle.mz_tree.specs.Programs.{Program}
use Rattle.mz_words.specs.declared.code.Instr.{Instr}
use Rattle.mz_words.specs.declared.code.Code.{Code}
use Rattle.mz_words.specs.declared.options.Options.{Options}
use Rattle.mz_words.specs.declared.stages.Stage.{Stage}
use Rattle.mz_words.specs.declared.stages.Stage.TheVariants.{Idle, IdleStop, IdleLive, LoadFun, LoadArg, Entering, Border, Ready, Making, Taking, Spawning, Unmatched, Closing, Over}
use Rattle.mz_words.specs.Standing.{Standing}
use Rattle.mz_words.specs.Raw.{Raw}
use Rattle.mz_named.specs.Machine.{Cell, Config, Thread}
use Rattle.mz_lower.specs.StandsFor.{WordsAgree, HasNamedThread, ThreadStands}
use Rattle.mz_lower.proofs.Addresses.{some_inj}
use Rattle.mz_lower.proofs.Changes.{total}
use Rattle.mz_lower.proofs.Simulation.{Simulation, HalfMade, Taken, Spawned, Inside, Started, Dormant}
use Rattle.mz_lower.proofs.Still.{stage_words, units_rise}

-- what such an event of thread k, the n-th named one, has to show
pub record Next (p : Program) (c : Code) (o : Options) (s s' : Raw) (w w' : Config) (S : Simulation p c o s w) (k n : ℕ) : Type 0 where
  pub number : k < 64
  pub others : (j : ℕ) → j ≢ k → s'.thread j ≡ s.thread j
  pub born : s'.born ≡ s.born
  -- the named configuration
  pub agrees : (b : ℕ) (cell : Cell) → w'.heap.at b ≡ Some cell → WordsAgree s' b cell
  pub complete : (b m : ℕ) → s'.blocks b ≡ Some m → (cell : Cell) × (w'.heap.at b ≡ Some cell)
  pub prints : s'.prints ≡ w'.prints
  pub many : length w'.threads ≡ length w.threads
  pub is : slice_get s.born n ≡ Some k
  pub thread : Thread
  pub here : slice_get w'.threads n ≡ Some thread
  pub named_others : (m : ℕ) → m ≢ n → slice_get w'.threads m ≡ slice_get w.threads m
  pub mine : ThreadStands c.instrs p s'.word k (s'.thread k) thread
  pub starts : (j m : ℕ) → slice_get s.born m ≡ Some j → (a : ℕ) → (a ≡ 6 + 3 * j) ⊎ (a ≡ 7 + 3 * j) → s'.word a ≡ s.word a
  -- blocks
  pub base_of : ℕ → Option ℕ
  pub maker : ℕ → Option ℕ
  pub in_block : (b m i : ℕ) → s'.blocks b ≡ Some m → i < m → base_of (b + i) ≡ Some b
  pub beyond : (a : ℕ) → s'.word 0 ≤ a → base_of a ≡ None
  pub low : (a b : ℕ) → base_of a ≡ Some b → 197 ≤ a
  pub within_heap : (a b : ℕ) → base_of a ≡ Some b → a < o.heap
  pub top : 197 ≤ s'.word 0
  pub made : (b : ℕ) (cell : Cell) → w'.heap.at b ≡ Some cell → maker b ≡ None
  -- numbers of threads
  pub spawner : ℕ → Option ℕ
  pub undrawn : (j : ℕ) → s'.word 1 ≤ j → spawner j ≡ None
  pub unready : (j : ℕ) → j < 64 → ((m : ℕ) → slice_get s.born m ≡ Some j → ⊥) → s'.word (5 + 3 * j) ≡ 0
  pub born_drawn : (m j : ℕ) → slice_get s.born m ≡ Some j → (j < s'.word 1) × (spawner j ≡ None)
  pub next : 1 ≤ s'.word 1
  -- inside an instruction
  pub inside_mine : Inside s'.word w' base_of maker spawner k (s'.thread k) (s'.thread k).stage (slice_get c.instrs (s'.thread k).at)
  pub inside_other : (j : ℕ) → j ≢ k → Inside s'.word w' base_of maker spawner j (s.thread j) (s.thread j).stage (slice_get c.instrs (s.thread j).at)
  -- counts
  pub more : ℕ
  pub counts : (s'.thread k).units ≡ (s.thread k).units + more
  pub within : (s'.thread k).units ≤ o.steps
  pub top_more : s'.word 0 ≤ s.word 0 + 34 * more
  pub next_more : s'.word 1 ≤ s.word 1 + more

module _ (p : Program) (c : Code) (o : Options) (s s' : Raw) (w w' : Config) (S : Simulation p c o s w) (k n : ℕ) (q : Next p c o s s' w w' S k n) where
  back : (m j : ℕ) → slice_get s'.born m ≡ Some j → slice_get s.born m ≡ Some j
  back m j e = subst (λ (l : List ℕ). slice_get l m ≡ Some j) q.born e

  on : (m j : ℕ) → slice_get s.born m ≡ Some j → slice_get s'.born m ≡ Some j
  on m j e = subst (λ (l : List ℕ). slice_get l m ≡ Some j) (sym q.born) e

  named : (m j : ℕ) → slice_get s'.born m ≡ Some j → HasNamedThread c.instrs p s' w' m j
  named m j e = elim (cases_eq j k) [
    | inl z ↦ (let same : m ≡ n = S.once m n k (subst (λ x. slice_get s.born m ≡ Some x) z (back m j e)) q.is in
        record {
          thread = q.thread;
          here = subst (λ x. slice_get w'.threads x ≡ Some q.thread) (sym same) q.here;
          stands = subst (λ x. ThreadStands c.instrs p s'.word x (s'.thread x) q.thread) (sym z) q.mine;
        })
    | inr z ↦ (let old = S.stands.threads m j (back m j e) in
        let far : m ≢ n = λ x. z (some_inj (sym (back m j e) ∙ ap (slice_get s.born) x ∙ q.is)) in
        record {
          thread = old.thread;
          here = q.named_others m far ∙ old.here;
          stands = subst (λ (t : Standing). ThreadStands c.instrs p s'.word j t old.thread) (sym (q.others j z))
              (stage_words c.instrs p s.word s'.word j (s.thread j) (s.thread j).stage old.thread (q.starts j m (back m j e)) old.stands);
        })
  ]

  up : total (λ j. (s'.thread j).units) 64 ≡ total (λ j. (s.thread j).units) 64 + q.more
  up = units_rise s.thread s'.thread k q.more q.number q.counts q.others

  -- it keeps the simulation: each part by the part of the same name
  pub next_keeps : Simulation p c o s' w'
  next_keeps = record {
    stands = record { blocks = q.agrees; complete = q.complete; threads = named; many = q.many ∙ S.stands.many ∙ ap length (sym q.born); prints = q.prints };
    base_of = q.base_of;
    maker = q.maker;
    in_block = q.in_block;
    beyond = q.beyond;
    low = q.low;
    within_heap = q.within_heap;
    top = q.top;
    made = q.made;
    spawner = q.spawner;
    undrawn = q.undrawn;
    dormant = λ j h. elim (cases_eq j k) [
      | inl z ↦ absurd (h n (subst (λ x. slice_get s'.born n ≡ Some x) (sym z) (on n k q.is)))
      | inr z ↦ subst (λ (t : Standing). Dormant t.stage) (sym (q.others j z)) (S.dormant j (λ m e. h m (on m j e)))
    ];
    unready = λ j l h. q.unready j l (λ m e. h m (on m j e));
    born_drawn = λ m j e. q.born_drawn m j (back m j e);
    born_few = λ m j e. S.born_few m j (back m j e);
    next = q.next;
    inside = λ j. elim (cases_eq j k) [
      | inl z ↦ subst (λ x. Inside s'.word w' q.base_of q.maker q.spawner x (s'.thread x) (s'.thread x).stage (slice_get c.instrs (s'.thread x).at)) (sym z) q.inside_mine
      | inr z ↦ subst (λ (t : Standing). Inside s'.word w' q.base_of q.maker q.spawner j t t.stage (slice_get c.instrs t.at)) (sym (q.others j z)) (q.inside_other j z)
    ];
    once = λ m x j e f. S.once m x j (back m j e) (back x j f);
    started = λ j h. elim (cases_eq j k) [
      | inl z ↦ (n, subst (λ x. slice_get s'.born n ≡ Some x) (sym z) (on n k q.is))
      | inr z ↦ (let old = S.started j (subst (λ (t : Standing). Started t.stage) (q.others j z) h) in (old.0, on old.0 j old.1))
    ];
    units = λ j. elim (cases_eq j k) [
      | inl z ↦ subst (λ x. (s'.thread x).units ≤ o.steps) (sym z) q.within
      | inr z ↦ subst (λ (t : Standing). t.units ≤ o.steps) (sym (q.others j z)) (S.units j)
    ];
    top_most = omega (arith, q.top_more, up, S.top_most);
    next_most = omega (arith, q.next_more, up, S.next_most);
  }

-- what is known inside an instruction goes over to other words, cells and makers
pub inside_goes : (f g : ℕ → ℕ) (w w' : Config) (base_of base_of' maker maker' spawner spawner' : ℕ → Option ℕ) (k : ℕ) (t : Standing) (stage : Stage) (a : Option Instr)
    → ((i : Instr) (b m : ℕ) → HalfMade f w base_of maker k t i.act b m → HalfMade g w' base_of' maker' k t i.act b m)
    → ((i : Instr) → stage ≡ Taking → a ≡ Some i → Taken f base_of maker t i.act → Taken g base_of' maker' t i.act)
    → ((i : Instr) (j m : ℕ) → Spawned f spawner k t i.act j m → Spawned g spawner' k t i.act j m)
    → Inside f w base_of maker spawner k t stage a → Inside g w' base_of' maker' spawner' k t stage a
inside_goes f g w w' base_of base_of' maker maker' spawner spawner' k t (Making b i) (Some a) hs ts ss q = hs a b i q
inside_goes f g w w' base_of base_of' maker maker' spawner spawner' k t Taking (Some a) hs ts ss q = ts a refl refl q
inside_goes f g w w' base_of base_of' maker maker' spawner spawner' k t (Spawning j i) (Some a) hs ts ss q = ss a j i q
inside_goes f g w w' base_of base_of' maker maker' spawner spawner' k t (Making b i) None hs ts ss q = tt
inside_goes f g w w' base_of base_of' maker maker' spawner spawner' k t Taking None hs ts ss q = tt
inside_goes f g w w' base_of base_of' maker maker' spawner spawner' k t (Spawning j i) None hs ts ss q = tt
inside_goes f g w w' base_of base_of' maker maker' spawner spawner' k t Idle a hs ts ss q = tt
inside_goes f g w w' base_of base_of' maker maker' spawner spawner' k t IdleStop a hs ts ss q = tt
inside_goes f g w w' base_of base_of' maker maker' spawner spawner' k t IdleLive a hs ts ss q = tt
inside_goes f g w w' base_of base_of' maker maker' spawner spawner' k t LoadFun a hs ts ss q = tt
inside_goes f g w w' base_of base_of' maker maker' spawner spawner' k t (LoadArg n) a hs ts ss q = tt
inside_goes f g w w' base_of base_of' maker maker' spawner spawner' k t (Entering n arg) a hs ts ss q = tt
inside_goes f g w w' base_of base_of' maker maker' spawner spawner' k t Border a hs ts ss q = tt
inside_goes f g w w' base_of base_of' maker maker' spawner spawner' k t Ready a hs ts ss q = tt
inside_goes f g w w' base_of base_of' maker maker' spawner spawner' k t Unmatched a hs ts ss q = tt
inside_goes f g w w' base_of base_of' maker maker' spawner spawner' k t (Closing n) a hs ts ss q = tt
inside_goes f g w w' base_of base_of' maker maker' spawner spawner' k t (Over n) a hs ts ss q = tt
