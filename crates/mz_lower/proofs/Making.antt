-- New blocks and locks: the words are drawn, stored one after the other, and the last store completes the block.
use Rattle.std.proofs.Common.{◌≡◌, ◌≢◌, ◌<◌, ◌≤◌, ◌==◌, ◌⊎◌, inl, inr, ℕ, ◌+◌, ◌*◌, ◌%◌, ◌^◌, List, [], Option, Some, None, false, ltb, refl, sym, ap, ◌∙◌, subst, arith, eq-eqb, ne_eqb}
use Rattle.std.specs.Prelude.{slice_get, slice_set, if◌then◌else◌}
use Rattle.std.proofs.Math.Nat.{mod-eq_of_lt}
use Rattle.std.proofs.lemmas.Bool.{cases_eq, cases_lt, lt-ltb, le-ltb}
use Rattle.mz_tree.specs.declared.types.Place.{Place}
use Rattle.mz_tree.specs.Code.{Op, Command}
use Rattle.mz_tree.specs.Programs.{Program}
use Rattle.mz_words.specs.declared.code.Act.{Act}
use Rattle.mz_words.specs.declared.code.Instr.{Instr}
use Rattle.mz_words.specs.declared.code.Code.{Code}
use Rattle.mz_words.specs.declared.options.Options.{Options}
use Rattle.mz_words.specs.declared.ends.End.TheVariants as ending
use Rattle.mz_words.specs.declared.stages.Stage.TheVariants.{Border, Ready, Making}
use Rattle.mz_words.specs.Standing.{Standing}
use Rattle.mz_words.specs.Steps.{made_words, made_word, unit_at, stop}
use Rattle.mz_words.specs.Raw.{Raw}
use Rattle.mz_named.specs.Machine.{Block_value, Cell, Block_cell, Lock_cell, Config, Thread, Environment, Level, Suspended, Puts, Acts}
use Rattle.mz_lower.specs.Layout.{size_op}
use Rattle.mz_lower.specs.StandsFor.{WordsAgree, cell_words, cell_word, StandsRunning, ThreadStands}
use Rattle.mz_lower.proofs.Addresses.{some_inj, none_some, if_true, if_false}
use Rattle.mz_words.proofs.Lists.{set_long}
use Rattle.mz_lower.proofs.Changes.{total_most}
use Rattle.mz_lower.proofs.Simulation.{Simulation, HalfMade, Taken, Inside}
use Rattle.mz_lower.proofs.Still.{spawned_still, taken_goes, inside_still}
use Rattle.mz_lower.proofs.OneThread.{next_keeps, inside_goes}
use Rattle.mz_lower.proofs.OneWord.{apart}
use Rattle.mz_lower.proofs.Binding.{AtCommand, step_acts, bound_thread, bound_goes, gave_frames}
use Rattle.mz_lower.proofs.Writes.{put_heap, put_puts}
use Rattle.mz_lower.proofs.LocalActs.{StepOn}

-- ---- whose words are whose

-- words m to m + size - 1 belong to the block at m
abbrev with_block : ℕ → ℕ → (ℕ → Option ℕ) → ℕ → Option ℕ
with_block m size f a = if ltb a m then f a else (if ltb a (m + size) then Some m else f a)

abbrev with_maker : ℕ → Option ℕ → (ℕ → Option ℕ) → ℕ → Option ℕ
with_maker b x f a = if a == b then x else f a

not_ltb : (a b : ℕ) → b ≤ a → ltb a b ≡ false
not_ltb a b l = le-ltb a b l

block_under : (m size : ℕ) (f : ℕ → Option ℕ) (a : ℕ) → a < m → with_block m size f a ≡ f a
block_under m size f a l = if_true (ltb a m) (lt-ltb a m l) (f a) (if ltb a (m + size) then Some m else f a)

block_in : (m size : ℕ) (f : ℕ → Option ℕ) (a : ℕ) → m ≤ a → a < m + size → with_block m size f a ≡ Some m
block_in m size f a l h = if_false (ltb a m) (not_ltb a m l) (f a) (if ltb a (m + size) then Some m else f a) ∙ if_true (ltb a (m + size)) (lt-ltb a (m + size) h) (Some m) (f a)

block_over : (m size : ℕ) (f : ℕ → Option ℕ) (a : ℕ) → m + size ≤ a → with_block m size f a ≡ f a
block_over m size f a l = if_false (ltb a m) (not_ltb a m (omega (arith, l))) (f a) (if ltb a (m + size) then Some m else f a) ∙ if_false (ltb a (m + size)) (not_ltb a (m + size) l) (Some m) (f a)

some_words : (x : Cell) → 0 < cell_words x
some_words (Block_cell con adopter fields) = omega arith
some_words (Lock_cell held) = omega arith

-- the options and the sizes that rule out a sum that wraps
pub record Limited (o : Options) : Type 0 where
  pub steps : o.steps ≤ 1000000

module _ (p : Program) (c : Code) (o : Options) (s s' : Raw) (w : Config) (S : Simulation p c o s w) (k n : ℕ) (u : Thread) (i : Instr) (m size : ℕ) (number : k < 64) (few : 1 ≤ size) (most : size ≤ 34) (limited : Limited o) (saw : m ≡ s.word 0)
    (words : (q : ℕ) → s'.word q ≡ (if 0 == q then (s.word q + size) % 2 ^ 64 else s.word q)) (blocks : (b : ℕ) → s'.blocks b ≡ s.blocks b) (born : s'.born ≡ s.born) (prints : s'.prints ≡ s.prints) (others : (j : ℕ) → j ≢ k → s'.thread j ≡ s.thread j)
    (units : (s.thread k).units < o.steps) (is : slice_get s.born n ≡ Some k) (here : slice_get w.threads n ≡ Some u) where
  other_words : (q : ℕ) → q ≢ 0 → s'.word q ≡ s.word q
  other_words q d = words q ∙ if_false (0 == q) (ne_eqb 0 q (λ e. d (sym e))) ((s.word q + size) % 2 ^ 64) (s.word q)

  -- the sum doesn't wrap
  top_is : s'.word 0 ≡ m + size
  top_is =
      let small : s.word 0 + size < 2 ^ 64 = omega (arith, S.top_most, total_most (λ j. (s.thread j).units) o.steps S.units 64, limited.steps, most) in
      words 0 ∙ mod-eq_of_lt small ∙ ap (λ x. x + size) (sym saw)

  under_top : (a b : ℕ) → S.base_of a ≡ Some b → a < m
  under_top a b e = elim (cases_lt a m) [
    | inl l ↦ l
    | inr l ↦ absurd (none_some (S.beyond a (subst (λ x. x ≤ a) saw l)) e)
  ]

  agrees : (b : ℕ) (cell : Cell) → w.heap.at b ≡ Some cell → WordsAgree s' b cell
  agrees b cell e =
      let old = S.stands.blocks b cell e in
      record { complete = blocks b ∙ old.complete; words = λ j l. other_words (b + j) (λ z. omega (arith, z, S.low (b + j) b (S.in_block b (cell_words cell) j old.complete l))) ∙ old.words j l }

  abbrev owns : ℕ → Option ℕ
  owns = with_block m size S.base_of

  -- the words are drawn for a block
  pub draws_on : m + size ≤ o.heap → (t' : Standing) → s'.thread k ≡ t' → t' ≡ unit_at (Making m 0) (s.thread k) → made_words i.act ≡ size → slice_get c.instrs (s.thread k).at ≡ Some i → StandsRunning c.instrs (s.thread k) u → Simulation p c o s' w
  draws_on within t' mine t_is long instr_is r = next_keeps p c o s s' w w S k n (record {
    number = number;
    others = others;
    born = born;
    agrees = agrees;
    complete = λ b x e. S.stands.complete b x (sym (blocks b) ∙ e);
    prints = prints ∙ S.stands.prints;
    many = refl;
    is = is;
    thread = u;
    here = here;
    named_others = λ x d. refl;
    mine = subst (λ (t : Standing). ThreadStands c.instrs p s'.word k t u) (sym all) (record { top = r.top; below = r.below; is = r.is; frames = record { regs = r.frames.regs; place = r.frames.place; under = r.frames.under } });
    starts = λ j x e a h. other_words a (high a j h);
    base_of = owns;
    maker = with_maker m (Some k) S.maker;
    in_block = λ b x j e l. (let old = S.in_block b x j (sym (blocks b) ∙ e) l in block_under m size S.base_of (b + j) (under_top (b + j) b old) ∙ old);
    beyond = λ a l. (let over : m + size ≤ a = subst (λ x. x ≤ a) top_is l in block_over m size S.base_of a over ∙ S.beyond a (omega (arith, over, saw)));
    low = λ a b e. elim (cases_lt a m) [
      | inl l ↦ S.low a b (sym (block_under m size S.base_of a l) ∙ e)
      | inr l ↦ omega (arith, l, S.top, saw)
    ];
    within_heap = λ a b e. elim (cases_lt a (m + size)) [
      | inl l ↦ omega (arith, l, within)
      | inr l ↦ S.within_heap a b (sym (block_over m size S.base_of a l) ∙ e)
    ];
    top = omega (arith, top_is, S.top, saw);
    made = λ b cell e. maker_stays b (under b cell e) ∙ S.made b cell e;
    spawner = S.spawner;
    undrawn = λ j l. S.undrawn j (subst (λ x. x ≤ j) (other_words 1 (λ e. omega (arith, e))) l);
    unready = λ j l h. other_words (5 + 3 * j) (λ e. omega (arith, e)) ∙ S.unready j l h;
    born_drawn = λ x j e. (let old = S.born_drawn x j e in (subst (λ y. j < y) (sym (other_words 1 (λ e. omega (arith, e)))) old.0, old.1));
    next = subst (λ x. 1 ≤ x) (sym (other_words 1 (λ e. omega (arith, e)))) S.next;
    inside_mine = subst (λ (t : Standing). Inside s'.word w owns (with_maker m (Some k) S.maker) S.spawner k t t.stage (slice_get c.instrs t.at)) (sym all)
        (subst (λ (x : Option Instr). Inside s'.word w owns (with_maker m (Some k) S.maker) S.spawner k (unit_at (Making m 0) (s.thread k)) (Making m 0) x) (sym instr_is) (record {
          words = λ j l. block_in m size S.base_of (m + j) (omega arith) (omega (arith, l, long));
          not_yet = free (w.heap.at m) refl;
          mine = if_true (m == m) (eq-eqb m m refl) (Some k) (S.maker m);
          few = omega (arith, long, few);
          stored = λ j l. absurd (omega (arith, l));
        }));
    inside_other = λ j d. inside_goes s.word s'.word w w S.base_of owns S.maker (with_maker m (Some k) S.maker) S.spawner S.spawner j (s.thread j) (s.thread j).stage (slice_get c.instrs (s.thread j).at)
        (λ x b y h. half x b y j h)
        (λ x e f t. took j x.act t)
        (λ x a y h. spawned_still s.word s'.word S.spawner j (s.thread j) x.act a y (λ q l z. other_words q (λ e. omega (arith, e, l))) h)
        (S.inside j);
    more = 1;
    counts = ap (λ (t : Standing). t.units) all;
    within = subst (λ (t : Standing). t.units ≤ o.steps) (sym all) (omega (arith, units));
    top_more = omega (arith, top_is, saw, most);
    next_more = omega (arith, other_words 1 (λ e. omega (arith, e)));
  })
    where
      all : s'.thread k ≡ unit_at (Making m 0) (s.thread k)
      all = mine ∙ t_is

      high : (a j : ℕ) → (a ≡ 6 + 3 * j) ⊎ (a ≡ 7 + 3 * j) → a ≢ 0
      high a j (inl h) e = omega (arith, h, e)
      high a j (inr h) e = omega (arith, h, e)

      under : (b : ℕ) (cell : Cell) → w.heap.at b ≡ Some cell → b < m
      under b cell e =
          let old = S.stands.blocks b cell e in
          let in_it = S.in_block b (cell_words cell) 0 old.complete (some_words cell) in
          omega (arith, under_top (b + 0) b in_it)

      maker_stays : (b : ℕ) → b < m → with_maker m (Some k) S.maker b ≡ S.maker b
      maker_stays b l = if_false (b == m) (ne_eqb b m (λ e. omega (arith, e, l))) (Some k) (S.maker b)

      free : (x : Option Cell) → w.heap.at m ≡ x → x ≡ None
      free None e = refl
      free (Some cell) e = absurd (omega (arith, under m cell e))

      half : (x : Instr) (b y j : ℕ) → HalfMade s.word w S.base_of S.maker j (s.thread j) x.act b y → HalfMade s'.word w owns (with_maker m (Some k) S.maker) j (s.thread j) x.act b y
      half x b y j h =
          let first : b + 0 < m = under_top (b + 0) b (h.words 0 (omega (arith, h.few))) in
          record {
            words = λ z l. block_under m size S.base_of (b + z) (under_top (b + z) b (h.words z l)) ∙ h.words z l;
            not_yet = h.not_yet;
            mine = maker_stays b (omega (arith, first)) ∙ h.mine;
            few = h.few;
            stored = λ z l. other_words (b + z) (λ e. omega (arith, e, S.low (b + z) b (h.words z (omega (arith, l, h.few))))) ∙ h.stored z l;
          }

      took : (j : ℕ) (a : Act) → Taken s.word S.base_of S.maker (s.thread j) a → Taken s'.word owns (with_maker m (Some k) S.maker) (s.thread j) a
      took j a h = taken_goes s.word s'.word S.base_of owns S.maker (with_maker m (Some k) S.maker) (s.thread j) a
          (λ x e d. (let l = under_top (x + 1) x e in
          (other_words (x + 1) (λ z. omega (arith, z)), block_under m size S.base_of (x + 1) l ∙ e, maker_stays x (omega (arith, l)) ∙ d))) h

  -- the words are past the heap: the thread ends
  pub full_on : (place : Place) → s'.thread k ≡ stop (ending.HeapFull place) (unit_at Ready (s.thread k)) → StandsRunning c.instrs (s.thread k) u → Simulation p c o s' w
  full_on place mine r = next_keeps p c o s s' w w S k n (record {
    number = number;
    others = others;
    born = born;
    agrees = agrees;
    complete = λ b x e. S.stands.complete b x (sym (blocks b) ∙ e);
    prints = prints ∙ S.stands.prints;
    many = refl;
    is = is;
    thread = u;
    here = here;
    named_others = λ x d. refl;
    mine = subst (λ (t : Standing). ThreadStands c.instrs p s'.word k t u) (sym mine) (record { top = r.top; below = r.below; is = r.is; frames = record { regs = r.frames.regs; place = r.frames.place; under = r.frames.under } });
    starts = λ j x e a h. other_words a (full_high a j h);
    base_of = S.base_of;
    maker = S.maker;
    in_block = λ b x j e l. S.in_block b x j (sym (blocks b) ∙ e) l;
    beyond = λ a l. S.beyond a (omega (arith, l, top_is, saw));
    low = S.low;
    within_heap = S.within_heap;
    top = omega (arith, top_is, S.top, saw);
    made = S.made;
    spawner = S.spawner;
    undrawn = λ j l. S.undrawn j (subst (λ x. x ≤ j) (other_words 1 (λ e. omega (arith, e))) l);
    unready = λ j l h. other_words (5 + 3 * j) (λ e. omega (arith, e)) ∙ S.unready j l h;
    born_drawn = λ x j e. (let old = S.born_drawn x j e in (subst (λ y. j < y) (sym (other_words 1 (λ e. omega (arith, e)))) old.0, old.1));
    next = subst (λ x. 1 ≤ x) (sym (other_words 1 (λ e. omega (arith, e)))) S.next;
    inside_mine = subst (λ (t : Standing). Inside s'.word w S.base_of S.maker S.spawner k t t.stage (slice_get c.instrs t.at)) (sym mine) tt;
    inside_other = λ j d. inside_still s.word s'.word w w S.base_of S.maker S.spawner j (s.thread j) (s.thread j).stage (slice_get c.instrs (s.thread j).at)
        (λ q x e. other_words q (λ z. omega (arith, z, S.low q x e))) (λ q l h. other_words q (λ z. omega (arith, z, l))) (λ b e. e) (S.inside j);
    more = 1;
    counts = ap (λ (t : Standing). t.units) mine;
    within = subst (λ (t : Standing). t.units ≤ o.steps) (sym mine) (omega (arith, units));
    top_more = omega (arith, top_is, saw, most);
    next_more = omega (arith, other_words 1 (λ e. omega (arith, e)));
  })
    where
      full_high : (a j : ℕ) → (a ≡ 6 + 3 * j) ⊎ (a ≡ 7 + 3 * j) → a ≢ 0
      full_high a j (inl h) e = omega (arith, h, e)
      full_high a j (inr h) e = omega (arith, h, e)

-- a store of a block that thread k is making
module _ (p : Program) (c : Code) (o : Options) (s s' : Raw) (w : Config) (S : Simulation p c o s w) (k n : ℕ) (i : Instr) (b y : ℕ) (number : k < 64) (h : HalfMade s.word w S.base_of S.maker k (s.thread k) i.act b y)
    (stored : s'.word (b + y) ≡ made_word (s.thread k) i.act y) (words : (q : ℕ) → q ≢ b + y → s'.word q ≡ s.word q) (born : s'.born ≡ s.born) (prints : s'.prints ≡ s.prints) (others : (j : ℕ) → j ≢ k → s'.thread j ≡ s.thread j)
    (units : (s.thread k).units < o.steps) (is : slice_get s.born n ≡ Some k) where
  belongs : S.base_of (b + y) ≡ Some b
  belongs = h.words y h.few

  header : (q : ℕ) → q < 197 → s'.word q ≡ s.word q
  header q l = words q (λ e. omega (arith, e, S.low (b + y) b belongs, l))

  elsewhere : (q x : ℕ) → S.base_of q ≡ Some x → (x ≡ b → ⊥) → s'.word q ≡ s.word q
  elsewhere q x e d = words q (apart S.base_of e belongs d)

  not_whole : (x : ℕ) (cell : Cell) → w.heap.at x ≡ Some cell → x ≡ b → ⊥
  not_whole x cell e z = none_some h.not_yet (subst (λ q. w.heap.at q ≡ Some cell) z e)

  not_other : (x j : ℕ) → j ≢ k → S.maker x ≡ Some j → x ≡ b → ⊥
  not_other x j d e z = d (some_inj (sym e ∙ ap S.maker z ∙ h.mine))

  not_free : (x : ℕ) → S.maker x ≡ None → x ≡ b → ⊥
  not_free x e z = none_some e (ap S.maker z ∙ h.mine)

  start_low : (j x : ℕ) → slice_get s.born x ≡ Some j → (a : ℕ) → (a ≡ 6 + 3 * j) ⊎ (a ≡ 7 + 3 * j) → a < 197
  start_low j x e a (inl q) = omega (arith, q, S.born_few x j e)
  start_low j x e a (inr q) = omega (arith, q, S.born_few x j e)

  -- the words stored so far, with the one that was stored now
  so_far : (j : ℕ) → j < y + 1 → s'.word (b + j) ≡ made_word (s.thread k) i.act j
  so_far j l = elim (cases_eq j y) [
    | inl z ↦ subst (λ q. s'.word (b + q) ≡ made_word (s.thread k) i.act q) (sym z) stored
    | inr z ↦ words (b + j) (λ e. z (omega (arith, e))) ∙ h.stored j (omega arith)
  ]

  half_of : (w' : Config) (maker' : ℕ → Option ℕ) → ((x : ℕ) → w.heap.at x ≡ None → (x ≡ b → ⊥) → w'.heap.at x ≡ None) → ((x : ℕ) → (x ≡ b → ⊥) → maker' x ≡ S.maker x)
      → (x : Instr) (a z j : ℕ) → j ≢ k → HalfMade s.word w S.base_of S.maker j (s.thread j) x.act a z → HalfMade s'.word w' S.base_of maker' j (s.thread j) x.act a z
  half_of w' maker' fresh makes x a z j d g =
      let far = not_other a j d g.mine in
      record {
        words = g.words;
        not_yet = fresh a g.not_yet far;
        mine = makes a far ∙ g.mine;
        few = g.few;
        stored = λ q l. elsewhere (a + q) a (g.words q (omega (arith, l, g.few))) far ∙ g.stored q l;
      }

  -- not the last one
  pub makes_on : (u : Thread) → slice_get w.threads n ≡ Some u → s'.thread k ≡ unit_at (Making b (y + 1)) (s.thread k) → y + 1 < made_words i.act → slice_get c.instrs (s.thread k).at ≡ Some i → ((x : ℕ) → s'.blocks x ≡ s.blocks x) → StandsRunning c.instrs (s.thread k) u → Simulation p c o s' w
  makes_on u here mine more instr_is blocks r = next_keeps p c o s s' w w S k n (record {
    number = number;
    others = others;
    born = born;
    agrees = λ x cell e. (let old = S.stands.blocks x cell e in record { complete = blocks x ∙ old.complete; words = λ j l. elsewhere (x + j) x (S.in_block x (cell_words cell) j old.complete l) (not_whole x cell e) ∙ old.words j l });
    complete = λ x z e. S.stands.complete x z (sym (blocks x) ∙ e);
    prints = prints ∙ S.stands.prints;
    many = refl;
    is = is;
    thread = u;
    here = here;
    named_others = λ x d. refl;
    mine = subst (λ (t : Standing). ThreadStands c.instrs p s'.word k t u) (sym mine) (record { top = r.top; below = r.below; is = r.is; frames = record { regs = r.frames.regs; place = r.frames.place; under = r.frames.under } });
    starts = λ j x e a q. header a (start_low j x e a q);
    base_of = S.base_of;
    maker = S.maker;
    in_block = λ x z j e l. S.in_block x z j (sym (blocks x) ∙ e) l;
    beyond = λ a l. S.beyond a (subst (λ x. x ≤ a) (header 0 (omega arith)) l);
    low = S.low;
    within_heap = S.within_heap;
    top = subst (λ x. 197 ≤ x) (sym (header 0 (omega arith))) S.top;
    made = S.made;
    spawner = S.spawner;
    undrawn = λ j l. S.undrawn j (subst (λ x. x ≤ j) (header 1 (omega arith)) l);
    unready = λ j l q. header (5 + 3 * j) (omega arith) ∙ S.unready j l q;
    born_drawn = λ x j e. (let old = S.born_drawn x j e in (subst (λ z. j < z) (sym (header 1 (omega arith))) old.0, old.1));
    next = subst (λ x. 1 ≤ x) (sym (header 1 (omega arith))) S.next;
    inside_mine = subst (λ (t : Standing). Inside s'.word w S.base_of S.maker S.spawner k t t.stage (slice_get c.instrs t.at)) (sym mine)
        (subst (λ (x : Option Instr). Inside s'.word w S.base_of S.maker S.spawner k (unit_at (Making b (y + 1)) (s.thread k)) (Making b (y + 1)) x) (sym instr_is)
        (record { words = h.words; not_yet = h.not_yet; mine = h.mine; few = more; stored = so_far }));
    inside_other = λ j d. inside_goes s.word s'.word w w S.base_of S.base_of S.maker S.maker S.spawner S.spawner j (s.thread j) (s.thread j).stage (slice_get c.instrs (s.thread j).at)
        (λ x a z g. half_of w S.maker (λ q e f. e) (λ q f. refl) x a z j d g)
        (λ x e f t. taken_goes s.word s'.word S.base_of S.base_of S.maker S.maker (s.thread j) x.act (λ q e f. (elsewhere (q + 1) q e (not_free q f), e, f)) t)
        (λ x a z g. spawned_still s.word s'.word S.spawner j (s.thread j) x.act a z (λ q l r. header q r) g)
        (S.inside j);
    more = 1;
    counts = ap (λ (t : Standing). t.units) mine;
    within = subst (λ (t : Standing). t.units ≤ o.steps) (sym mine) (omega (arith, units));
    top_more = omega (arith, header 0 (omega arith));
    next_more = omega (arith, header 1 (omega arith));
  })

  -- the last one: the block is complete, and has its name
  module _ (values : Environment) (to : ℕ) (op : Op) (place : Place) (rest : List Command) (value : ℕ) (outer : List Level) (below : List Suspended) (at : AtCommand c s w k n values to op place rest value outer below) (one : size_op op ≡ 1) (cell : Cell) where
    -- the named thread behind the command that makes it
    abbrev pub made_thread : Thread
    made_thread = bound_thread p c o s s' w S k n values to op place rest value outer below at one (Block_value b) 0 0 0 0

    -- and the configuration with the new cell
    abbrev pub made_config : Config
    made_config = record { heap = put_heap b cell w.heap; threads = slice_set w.threads n made_thread; prints = w.prints }

    -- the last store completes the block: its named step, in which the cell is new
    pub completes_on : s'.thread k ≡ record { at = (s.thread k).at + 1; regs = slice_set (s.thread k).regs to b; below = (s.thread k).below; units = (s.thread k).units + 1; lost = 0; stage = Border } → y + 1 ≡ made_words i.act
        → made_words i.act ≡ cell_words cell → ((j : ℕ) → made_word (s.thread k) i.act j ≡ cell_word cell j) → ((x : ℕ) → s'.blocks x ≡ (if b == x then Some (made_words i.act) else s.blocks x))
        → Acts w.heap.at values op (Block_value b) (put_heap b cell w.heap).at [] → StepOn p c o s' w n
    completes_on mine last long same blocks d = (
      made_config,
      step_acts p c s w k n values to op place rest value outer below at (Block_value b) (put_heap b cell w.heap) d,
      next_keeps p c o s s' w made_config S k n (record {
        number = number;
        others = others;
        born = born;
        agrees = agrees;
        complete = λ x z e. elim (cases_eq x b) [
          | inl q ↦ (cell, subst (λ v. made_config.heap.at v ≡ Some cell) (sym q) puts.put)
          | inr q ↦ (let old = S.stands.complete x z (sym (blocks_off x q) ∙ e) in (old.0, puts.others x q ∙ old.1))
        ];
        prints = prints ∙ S.stands.prints;
        many = set_long w.threads n made_thread;
        is = is;
        thread = made_thread;
        here = goes.put;
        named_others = goes.others;
        mine = subst (λ (t : Standing). ThreadStands c.instrs p s'.word k t made_thread) (sym mine) (gave_frames p c o s s' w S k n values to op place rest value outer below at one (Block_value b) b ((s.thread k).units + 1) 1 0 refl);
        starts = λ j x e a q. header a (start_low j x e a q);
        base_of = S.base_of;
        maker = with_maker b None S.maker;
        in_block = λ x z j e l. elim (cases_eq x b) [
          | inl q ↦ (let size : z ≡ made_words i.act = some_inj (sym e ∙ subst (λ v. s'.blocks v ≡ Some (made_words i.act)) (sym q) blocks_on) in
              subst (λ v. S.base_of (v + j) ≡ Some v) (sym q) (h.words j (subst (λ v. j < v) size l)))
          | inr q ↦ S.in_block x z j (sym (blocks_off x q) ∙ e) l
        ];
        beyond = λ a l. S.beyond a (subst (λ x. x ≤ a) (header 0 (omega arith)) l);
        low = S.low;
        within_heap = S.within_heap;
        top = subst (λ x. 197 ≤ x) (sym (header 0 (omega arith))) S.top;
        made = λ x z e. elim (cases_eq x b) [
          | inl q ↦ if_true (x == b) (eq-eqb x b q) None (S.maker x)
          | inr q ↦ makes x q ∙ S.made x z (sym (puts.others x q) ∙ e)
        ];
        spawner = S.spawner;
        undrawn = λ j l. S.undrawn j (subst (λ x. x ≤ j) (header 1 (omega arith)) l);
        unready = λ j l q. header (5 + 3 * j) (omega arith) ∙ S.unready j l q;
        born_drawn = λ x j e. (let old = S.born_drawn x j e in (subst (λ z. j < z) (sym (header 1 (omega arith))) old.0, old.1));
        next = subst (λ x. 1 ≤ x) (sym (header 1 (omega arith))) S.next;
        inside_mine = subst (λ (t : Standing). Inside s'.word made_config S.base_of (with_maker b None S.maker) S.spawner k t t.stage (slice_get c.instrs t.at)) (sym mine) tt;
        inside_other = λ j d. inside_goes s.word s'.word w made_config S.base_of S.base_of S.maker (with_maker b None S.maker) S.spawner S.spawner j (s.thread j) (s.thread j).stage (slice_get c.instrs (s.thread j).at)
            (λ x a z g. half_of made_config (with_maker b None S.maker) (λ q e f. puts.others q f ∙ e) makes x a z j d g)
            (λ x e f t. taken_goes s.word s'.word S.base_of S.base_of S.maker (with_maker b None S.maker) (s.thread j) x.act (λ q e f. (elsewhere (q + 1) q e (not_free q f), e, makes q (not_free q f) ∙ f)) t)
            (λ x a z g. spawned_still s.word s'.word S.spawner j (s.thread j) x.act a z (λ q l r. header q r) g)
            (S.inside j);
        more = 1;
        counts = ap (λ (t : Standing). t.units) mine;
        within = subst (λ (t : Standing). t.units ≤ o.steps) (sym mine) (omega (arith, units));
        top_more = omega (arith, header 0 (omega arith));
        next_more = omega (arith, header 1 (omega arith));
      }),
    )
      where
        puts : Puts w.heap.at b cell (put_heap b cell w.heap).at
        puts = put_puts b cell w.heap

        goes : Puts (slice_get w.threads) n made_thread (slice_get made_config.threads)
        goes = bound_goes p c o s s' w S k n values to op place rest value outer below at one (Block_value b) 0 0 0 0

        blocks_on : s'.blocks b ≡ Some (made_words i.act)
        blocks_on = blocks b ∙ if_true (b == b) (eq-eqb b b refl) (Some (made_words i.act)) (s.blocks b)

        blocks_off : (x : ℕ) → (x ≡ b → ⊥) → s'.blocks x ≡ s.blocks x
        blocks_off x q = blocks x ∙ if_false (b == x) (ne_eqb b x (λ e. q (sym e))) (Some (made_words i.act)) (s.blocks x)

        makes : (x : ℕ) → (x ≡ b → ⊥) → with_maker b None S.maker x ≡ S.maker x
        makes x q = if_false (x == b) (ne_eqb x b q) None (S.maker x)

        new_agrees : (z : Cell) → cell ≡ z → WordsAgree s' b z
        new_agrees z e = subst (λ (v : Cell). WordsAgree s' b v) e (record { complete = blocks_on ∙ ap Some long; words = λ j l. so_far j (omega (arith, l, long, last)) ∙ same j })

        agrees : (x : ℕ) (z : Cell) → made_config.heap.at x ≡ Some z → WordsAgree s' x z
        agrees x z e = elim (cases_eq x b) [
          | inl q ↦ subst (λ v. WordsAgree s' v z) (sym q) (new_agrees z (some_inj (sym puts.put ∙ subst (λ v. made_config.heap.at v ≡ Some z) q e)))
          | inr q ↦ (let old = S.stands.blocks x z (sym (puts.others x q) ∙ e) in
              record { complete = blocks_off x q ∙ old.complete; words = λ j l. elsewhere (x + j) x (S.in_block x (cell_words z) j old.complete l) q ∙ old.words j l })
        ]
