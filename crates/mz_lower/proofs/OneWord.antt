-- One word of a complete block or lock changes, as its cell does.
use Rattle.std.proofs.Common.{◌≡◌, ◌≢◌, ◌<◌, ◌≤◌, ◌⊎◌, inl, inr, ℕ, ◌+◌, ◌*◌, length, Option, Some, sym, ap, ◌∙◌, subst, arith}
use Rattle.std.specs.Prelude.{slice_get}
use Rattle.std.proofs.lemmas.Bool.{cases_eq}
use Rattle.mz_tree.specs.Programs.{Program}
use Rattle.mz_words.specs.declared.code.Act.{Act}
use Rattle.mz_words.specs.declared.code.Instr.{Instr}
use Rattle.mz_words.specs.declared.code.Code.{Code}
use Rattle.mz_words.specs.declared.options.Options.{Options}
use Rattle.mz_words.specs.declared.stages.Stage.TheVariants.{Taking}
use Rattle.mz_words.specs.Standing.{Standing}
use Rattle.mz_words.specs.Raw.{Raw}
use Rattle.mz_named.specs.Machine.{Cell, Config, Thread, Puts}
use Rattle.mz_lower.specs.StandsFor.{WordsAgree, ThreadStands, cell_words, cell_word}
use Rattle.mz_lower.proofs.Addresses.{some_inj, none_some}
use Rattle.mz_lower.proofs.Simulation.{Simulation, HalfMade, Taken, Inside}
use Rattle.mz_lower.proofs.Still.{spawned_still, taken_still}
use Rattle.mz_lower.proofs.OneThread.{next_keeps, inside_goes}

-- two words with different bases are different
pub apart : (f : ℕ → Option ℕ) {a c x y : ℕ} → f a ≡ Some x → f c ≡ Some y → (x ≡ y → ⊥) → a ≡ c → ⊥
apart f p q n e = n (some_inj (sym p ∙ ap f e ∙ q))

-- a word that isn't an adopter word: what takes have seen stays
pub no_adopter : (f g : ℕ → ℕ) (base_of maker : ℕ → Option ℕ) (t : Standing) (a : Act) (b spot : ℕ) → base_of (b + spot) ≡ Some b → spot ≢ 1 → ((q : ℕ) → q ≢ b + spot → g q ≡ f q) → Taken f base_of maker t a → Taken g base_of maker t a
no_adopter f g base_of maker t a b spot belongs n words q = taken_still f g base_of maker t a
    (λ m e d. words (m + 1) (λ z. let same : m ≡ b = some_inj (sym e ∙ ap base_of z ∙ belongs) in n (omega (arith, same, z)))) q

-- word i of the cell at b becomes what it is in the new cell
pub record Change (p : Program) (c : Code) (o : Options) (s s' : Raw) (w w' : Config) (S : Simulation p c o s w) (k n : ℕ) : Type 0 where
  pub number : k < 64
  pub others : (j : ℕ) → j ≢ k → s'.thread j ≡ s.thread j
  pub born : s'.born ≡ s.born
  pub blocks : (b : ℕ) → s'.blocks b ≡ s.blocks b
  pub prints : s'.prints ≡ s.prints
  pub base : ℕ
  pub spot : ℕ
  pub cell : Cell
  pub cell' : Cell
  pub was : w.heap.at base ≡ Some cell
  pub within_cell : spot < cell_words cell
  pub alike : cell_words cell' ≡ cell_words cell
  pub puts : Puts w.heap.at base cell' w'.heap.at
  pub stored : s'.word (base + spot) ≡ cell_word cell' spot
  pub words : (a : ℕ) → a ≢ base + spot → s'.word a ≡ s.word a
  pub same_words : (i : ℕ) → i ≢ spot → i < cell_words cell → cell_word cell' i ≡ cell_word cell i
  pub named_prints : w'.prints ≡ w.prints
  pub is : slice_get s.born n ≡ Some k
  pub thread : Thread
  pub goes : Puts (slice_get w.threads) n thread (slice_get w'.threads)
  pub many : length w'.threads ≡ length w.threads
  pub mine : ThreadStands c.instrs p s'.word k (s'.thread k) thread
  pub inside : Inside s'.word w' S.base_of S.maker S.spawner k (s'.thread k) (s'.thread k).stage (slice_get c.instrs (s'.thread k).at)
  pub takes : (j : ℕ) (i : Instr) → j ≢ k → (s.thread j).stage ≡ Taking → slice_get c.instrs (s.thread j).at ≡ Some i → Taken s.word S.base_of S.maker (s.thread j) i.act → Taken s'.word S.base_of S.maker (s.thread j) i.act
  pub more : ℕ
  pub counts : (s'.thread k).units ≡ (s.thread k).units + more
  pub within : (s'.thread k).units ≤ o.steps

module _ (p : Program) (c : Code) (o : Options) (s s' : Raw) (w w' : Config) (S : Simulation p c o s w) (k n : ℕ) (q : Change p c o s s' w w' S k n) where
  belongs : S.base_of (q.base + q.spot) ≡ Some q.base
  belongs = S.in_block q.base (cell_words q.cell) q.spot (S.stands.blocks q.base q.cell q.was).complete q.within_cell

  below_heap : (a : ℕ) → a < 197 → s'.word a ≡ s.word a
  below_heap a l = q.words a (λ e. omega (arith, e, S.low (q.base + q.spot) q.base belongs, l))

  elsewhere : (a b : ℕ) → S.base_of a ≡ Some b → (b ≡ q.base → ⊥) → s'.word a ≡ s.word a
  elsewhere a b e d = q.words a (apart S.base_of e belongs d)

  agrees_at : (d : Cell) → q.cell' ≡ d → WordsAgree s' q.base d
  agrees_at d e = subst (λ (x : Cell). WordsAgree s' q.base x) e (record {
    complete = q.blocks q.base ∙ (S.stands.blocks q.base q.cell q.was).complete ∙ ap Some (sym q.alike);
    words = λ i l. elim (cases_eq i q.spot) [
      | inl z ↦ subst (λ m. s'.word (q.base + m) ≡ cell_word q.cell' m) (sym z) q.stored
      | inr z ↦ q.words (q.base + i) (λ e. z (omega (arith, e))) ∙ (S.stands.blocks q.base q.cell q.was).words i (subst (λ m. i < m) q.alike l) ∙ sym (q.same_words i z (subst (λ m. i < m) q.alike l))
    ];
  })

  -- a word of one cell changes and no other part looks at it: so the simulation is kept
  pub change_keeps : Simulation p c o s' w'
  change_keeps = next_keeps p c o s s' w w' S k n (record {
    number = q.number;
    others = q.others;
    born = q.born;
    agrees = λ b cell e. elim (cases_eq b q.base) [
      | inl z ↦ subst (λ x. WordsAgree s' x cell) (sym z) (agrees_at cell (some_inj (sym q.puts.put ∙ subst (λ x. w'.heap.at x ≡ Some cell) z e)))
      | inr z ↦ (let old = S.stands.blocks b cell (sym (q.puts.others b z) ∙ e) in
          record { complete = q.blocks b ∙ old.complete; words = λ i l. elsewhere (b + i) b (S.in_block b (cell_words cell) i old.complete l) z ∙ old.words i l })
    ];
    complete = λ b m e. elim (cases_eq b q.base) [
      | inl z ↦ (q.cell', subst (λ x. w'.heap.at x ≡ Some q.cell') (sym z) q.puts.put)
      | inr z ↦ (let old = S.stands.complete b m (sym (q.blocks b) ∙ e) in (old.0, q.puts.others b z ∙ old.1))
    ];
    prints = q.prints ∙ S.stands.prints ∙ sym q.named_prints;
    many = q.many;
    is = q.is;
    thread = q.thread;
    here = q.goes.put;
    named_others = q.goes.others;
    mine = q.mine;
    starts = λ j m e a h. below_heap a (start_low j m e a h);
    base_of = S.base_of;
    maker = S.maker;
    in_block = λ b m i e l. S.in_block b m i (sym (q.blocks b) ∙ e) l;
    beyond = λ a l. S.beyond a (subst (λ x. x ≤ a) (below_heap 0 (omega arith)) l);
    low = S.low;
    within_heap = S.within_heap;
    top = subst (λ x. 197 ≤ x) (sym (below_heap 0 (omega arith))) S.top;
    made = λ b cell e. elim (cases_eq b q.base) [
      | inl z ↦ S.made b q.cell (subst (λ x. w.heap.at x ≡ Some q.cell) (sym z) q.was)
      | inr z ↦ S.made b cell (sym (q.puts.others b z) ∙ e)
    ];
    spawner = S.spawner;
    undrawn = λ j l. S.undrawn j (subst (λ x. x ≤ j) (below_heap 1 (omega arith)) l);
    unready = λ j l h. below_heap (5 + 3 * j) (omega arith) ∙ S.unready j l h;
    born_drawn = λ m j e. (let old = S.born_drawn m j e in (subst (λ x. j < x) (sym (below_heap 1 (omega arith))) old.0, old.1));
    next = subst (λ x. 1 ≤ x) (sym (below_heap 1 (omega arith))) S.next;
    inside_mine = q.inside;
    inside_other = λ j d. inside_goes s.word s'.word w w' S.base_of S.base_of S.maker S.maker S.spawner S.spawner j (s.thread j) (s.thread j).stage (slice_get c.instrs (s.thread j).at)
        (λ i b m h. half i b m j h)
        (λ i e f t. q.takes j i d e f t)
        (λ i x m h. spawned_still s.word s'.word S.spawner j (s.thread j) i.act x m (λ a l r. below_heap a r) h)
        (S.inside j);
    more = q.more;
    counts = q.counts;
    within = q.within;
    top_more = omega (arith, below_heap 0 (omega arith));
    next_more = omega (arith, below_heap 1 (omega arith));
  })
    where
      half : (i : Instr) (b m j : ℕ) → HalfMade s.word w S.base_of S.maker j (s.thread j) i.act b m → HalfMade s'.word w' S.base_of S.maker j (s.thread j) i.act b m
      half i b m j h =
          let far : b ≡ q.base → ⊥ = λ e. none_some h.not_yet (subst (λ x. w.heap.at x ≡ Some q.cell) (sym e) q.was) in
          record {
            words = h.words;
            not_yet = q.puts.others b far ∙ h.not_yet;
            mine = h.mine;
            few = h.few;
            stored = λ x l. elsewhere (b + x) b (h.words x (omega (arith, l, h.few))) far ∙ h.stored x l;
          }

      start_low : (j m : ℕ) → slice_get s.born m ≡ Some j → (a : ℕ) → (a ≡ 6 + 3 * j) ⊎ (a ≡ 7 + 3 * j) → a < 197
      start_low j m e a (inl h) = omega (arith, h, S.born_few m j e)
      start_low j m e a (inr h) = omega (arith, h, S.born_few m j e)
