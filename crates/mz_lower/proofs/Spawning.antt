-- Spawn: a number is drawn, its words are stored, and the store of READY starts the named thread.
use Rattle.std.proofs.Common.{◌≡◌, ◌≢◌, ◌<◌, ◌≤◌, ◌==◌, ◌⊎◌, inl, inr, ℕ, zero, suc, ◌+◌, ◌*◌, List, [], ◌∷◌, ◌++◌, length, Option, Some, None, refl, sym, ap, ◌∙◌, subst, arith, eq-eqb, ne_eqb, length-append}
use Rattle.std.specs.Prelude.{slice_get, slice_set, if◌then◌else◌}
use Rattle.std.proofs.lemmas.Bool.{cases_eq, cases_lt}
use Rattle.mz_tree.specs.declared.types.Place.{Place}
use Rattle.mz_tree.specs.Code.{Spawn_op, Command}
use Rattle.mz_tree.specs.Programs.{Program}
use Rattle.mz_words.specs.declared.code.Act.{Act}
use Rattle.mz_words.specs.declared.code.Act.TheVariants.{Spawn}
use Rattle.mz_words.specs.declared.code.Instr.{Instr}
use Rattle.mz_words.specs.declared.code.Code.{Code}
use Rattle.mz_words.specs.declared.options.Options.{Options}
use Rattle.mz_words.specs.declared.ends.End.{End}
use Rattle.mz_words.specs.declared.ends.End.TheVariants as ending
use Rattle.mz_words.specs.declared.stages.Stage.{Stage}
use Rattle.mz_words.specs.declared.stages.Stage.TheVariants.{Idle, IdleStop, IdleLive, Border, Over}
use Rattle.mz_words.specs.Standing.{Standing}
use Rattle.mz_words.specs.Steps.{first_params}
use Rattle.mz_words.specs.Raw.{Raw}
use Rattle.mz_named.specs.Machine.{Int_value, Heap, Config, Thread, Running, Environment, Level, Suspended, IsFunction, Puts, Step_spawns, start}
use Rattle.mz_lower.specs.StandsFor.{raw_value, cell_words, HasNamedThread, StageStands, StandsBeforeStart, ThreadStands, EndStands}
use Rattle.mz_lower.proofs.Addresses.{remaining, some_inj, none_some, if_true, if_false}
use Rattle.mz_words.proofs.Lists.{set_long}
use Rattle.mz_lower.proofs.Changes.{total}
use Rattle.mz_lower.proofs.Simulation.{Simulation, HalfMade, Drawn, Spawned, Inside, Started, Dormant, DormantEnd}
use Rattle.mz_lower.proofs.Still.{taken_goes, stage_words, units_rise}
use Rattle.mz_lower.proofs.OneThread.{next_keeps, inside_goes}
use Rattle.mz_lower.proofs.Binding.{AtCommand, at_frame, next_of, bind, bind_binds, bound_goes, gave_frames}
use Rattle.mz_lower.proofs.LocalActs.{StepOn}

-- the spawner of a number
abbrev pub with_spawner : ℕ → Option ℕ → (ℕ → Option ℕ) → ℕ → Option ℕ
with_spawner j x f a = if a == j then x else f a

-- a drawn number of another spawner
spawned_goes : (f g : ℕ → ℕ) (spawner spawner' : ℕ → Option ℕ) (k : ℕ) (t : Standing) (a : Act) (j i : ℕ) → (spawner j ≡ Some k → (spawner' j ≡ Some k) × (g (6 + 3 * j) ≡ f (6 + 3 * j)) × (g (7 + 3 * j) ≡ f (7 + 3 * j)))
    → Spawned f spawner k t a j i → Spawned g spawner' k t a j i
spawned_goes f g spawner spawner' k t (Spawn to callee arg) j i h q =
    let z = h q.mine in
    record { mine = z.0; low = q.low; high = q.high; few = q.few; stored_fun = λ l. z.1 ∙ q.stored_fun l; stored_arg = λ l. z.2 ∙ q.stored_arg l }
spawned_goes f g spawner spawner' k t a j i h q = absurd q

half_goes : (f g : ℕ → ℕ) (w w' : Config) (base_of maker : ℕ → Option ℕ) (k : ℕ) (t : Standing) (a : Act) (b i : ℕ) → ((q x : ℕ) → base_of q ≡ Some x → g q ≡ f q) → w'.heap ≡ w.heap → HalfMade f w base_of maker k t a b i → HalfMade g w' base_of maker k t a b i
half_goes f g w w' base_of maker k t a b i h e q = record { words = q.words; not_yet = ap (λ (x : Heap). x.at b) e ∙ q.not_yet; mine = q.mine; few = q.few; stored = λ j l. h (b + j) b (q.words j (omega (arith, l, q.few))) ∙ q.stored j l }

-- an event of thread k that changes one header word, or the spawner of one number
module _ (p : Program) (c : Code) (o : Options) (s s' : Raw) (w : Config) (S : Simulation p c o s w) (k n : ℕ) (u : Thread) (number : k < 64) (spot : ℕ) (low_spot : spot < 197) (words : (q : ℕ) → q ≢ spot → s'.word q ≡ s.word q)
    (blocks : (b : ℕ) → s'.blocks b ≡ s.blocks b) (born : s'.born ≡ s.born) (prints : s'.prints ≡ s.prints) (others : (j : ℕ) → j ≢ k → s'.thread j ≡ s.thread j) (units : (s.thread k).units < o.steps)
    (is : slice_get s.born n ≡ Some k) (here : slice_get w.threads n ≡ Some u) (t' : Standing) (mine : s'.thread k ≡ t') (counts : t'.units ≡ (s.thread k).units + 1) (spawner' : ℕ → Option ℕ) where
  heap_word : (q x : ℕ) → S.base_of q ≡ Some x → s'.word q ≡ s.word q
  heap_word q x e = words q (λ z. omega (arith, z, low_spot, S.low q x e))

  -- a Spawn's stores before READY keep the simulation: only its maker looks at them
  pub header_on : spot ≢ 0 → (s.word 1 ≤ s'.word 1) → (s'.word 1 ≤ s.word 1 + 1) → ThreadStands c.instrs p s'.word k t' u
      → ((j m : ℕ) → slice_get s.born m ≡ Some j → (6 + 3 * j ≢ spot) × (7 + 3 * j ≢ spot) × (spawner' j ≡ None))
      → ((j : ℕ) → 5 + 3 * j ≢ spot) → ((j : ℕ) → s'.word 1 ≤ j → spawner' j ≡ None)
      → ((j x : ℕ) → x ≢ k → S.spawner j ≡ Some x → (spawner' j ≡ Some x) × (6 + 3 * j ≢ spot) × (7 + 3 * j ≢ spot))
      → Inside s'.word w S.base_of S.maker spawner' k t' t'.stage (slice_get c.instrs t'.at) → Simulation p c o s' w
  header_on off_top up most stands borns readies undrawn drawn inside = next_keeps p c o s s' w w S k n (record {
    number = number;
    others = others;
    born = born;
    agrees = λ b cell e. (let old = S.stands.blocks b cell e in record { complete = blocks b ∙ old.complete; words = λ i l. heap_word (b + i) b (S.in_block b (cell_words cell) i old.complete l) ∙ old.words i l });
    complete = λ b m e. S.stands.complete b m (sym (blocks b) ∙ e);
    prints = prints ∙ S.stands.prints;
    many = refl;
    is = is;
    thread = u;
    here = here;
    named_others = λ m d. refl;
    mine = subst (λ (t : Standing). ThreadStands c.instrs p s'.word k t u) (sym mine) stands;
    starts = λ j m e a h. words a (start_off j m e a h);
    base_of = S.base_of;
    maker = S.maker;
    in_block = λ b m i e l. S.in_block b m i (sym (blocks b) ∙ e) l;
    beyond = λ a l. S.beyond a (subst (λ x. x ≤ a) (words 0 (λ e. off_top (sym e))) l);
    low = S.low;
    within_heap = S.within_heap;
    top = subst (λ x. 197 ≤ x) (sym (words 0 (λ e. off_top (sym e)))) S.top;
    made = S.made;
    spawner = spawner';
    undrawn = undrawn;
    unready = λ j l h. words (5 + 3 * j) (readies j) ∙ S.unready j l h;
    born_drawn = λ m j e. (omega (arith, (S.born_drawn m j e).0, up), (borns j m e).2);
    next = omega (arith, S.next, up);
    inside_mine = subst (λ (t : Standing). Inside s'.word w S.base_of S.maker spawner' k t t.stage (slice_get c.instrs t.at)) (sym mine) inside;
    inside_other = λ j d. inside_goes s.word s'.word w w S.base_of S.base_of S.maker S.maker S.spawner spawner' j (s.thread j) (s.thread j).stage (slice_get c.instrs (s.thread j).at)
        (λ x b y h. half_goes s.word s'.word w w S.base_of S.maker j (s.thread j) x.act b y heap_word refl h)
        (λ x e f h. taken_goes s.word s'.word S.base_of S.base_of S.maker S.maker (s.thread j) x.act (λ m e f. (heap_word (m + 1) m e, e, f)) h)
        (λ x a y h. spawned_goes s.word s'.word S.spawner spawner' j (s.thread j) x.act a y (λ e. (let z = drawn a j d e in (z.0, words (6 + 3 * a) z.1, words (7 + 3 * a) z.2))) h)
        (S.inside j);
    more = 1;
    counts = ap (λ (t : Standing). t.units) mine ∙ counts;
    within = subst (λ (t : Standing). t.units ≤ o.steps) (sym mine) (omega (arith, counts, units));
    top_more = omega (arith, words 0 (λ e. off_top (sym e)));
    next_more = most;
  })
    where
      start_off : (j m : ℕ) → slice_get s.born m ≡ Some j → (a : ℕ) → (a ≡ 6 + 3 * j) ⊎ (a ≡ 7 + 3 * j) → a ≢ spot
      start_off j m e a (inl h) z = (borns j m e).0 (sym h ∙ z)
      start_off j m e a (inr h) z = (borns j m e).1 (sym h ∙ z)

-- an element at the end
pub at_end_or : {A : Type 0} (xs : List A) (x : A) (n : ℕ) (y : A) → slice_get (xs ++ x ∷ []) n ≡ Some y → (slice_get xs n ≡ Some y) ⊎ ((n ≡ length xs) × (x ≡ y))
at_end_or [] x zero y e = inr (refl, some_inj e)
at_end_or [] x (suc n) y e = absurd (none_some refl e)
at_end_or (z ∷ xs) x zero y e = inl e
at_end_or (z ∷ xs) x (suc n) y e = elim (at_end_or xs x n y e) [
  | inl h ↦ inl h
  | inr h ↦ inr (ap suc h.0, h.1)
]

-- the last element of a list
pub at_last : {A : Type 0} (xs : List A) (x : A) → slice_get (xs ++ x ∷ []) (length xs) ≡ Some x
at_last [] x = refl
at_last (z ∷ xs) x = at_last xs x

-- and those before it
pub at_front : {A : Type 0} (xs : List A) (x : A) (n : ℕ) (y : A) → slice_get xs n ≡ Some y → slice_get (xs ++ x ∷ []) n ≡ Some y
at_front [] x n y e = absurd (none_some refl e)
at_front (z ∷ xs) x zero y e = e
at_front (z ∷ xs) x (suc n) y e = at_front xs x n y e

-- a thread that nobody started is told where it starts
woken : (code : List Instr) (p : Program) (word : ℕ → ℕ) (j : ℕ) (t : Standing) (stage : Stage) (u : Thread) → Dormant stage → StandsBeforeStart p word j u → StageStands code p word j t stage u
woken code p word j t Idle u d q = q
woken code p word j t IdleStop u d q = q
woken code p word j t IdleLive u d q = q
woken code p word j t (Over e) u d q = over_woken e d
  where
    over_woken : (e : End) → DormantEnd e → EndStands code p word j t e u
    over_woken ending.Halted d = inr q
    over_woken ending.NeverStarted d = q
    over_woken ending.Done d = absurd d
    over_woken (ending.TakeFailed place) d = absurd d
    over_woken (ending.Arith place) d = absurd d
    over_woken (ending.HeapFull place) d = absurd d
    over_woken (ending.ThreadsFull place) d = absurd d
    over_woken (ending.StackFull place) d = absurd d
    over_woken ending.Spent d = absurd d
    over_woken (ending.Blocked place) d = absurd d
    over_woken ending.Memory d = absurd d
woken code p word j t stage u d q = absurd d

off_last : {A : Type 0} (xs : List A) (x : A) (m : ℕ) → m ≢ length xs → slice_get (xs ++ x ∷ []) m ≡ slice_get xs m
off_last [] x zero d = absurd (d refl)
off_last [] x (suc m) d = refl
off_last (y ∷ xs) x zero d = refl
off_last (y ∷ xs) x (suc m) d = off_last xs x m (λ e. d (ap suc e))

-- READY is stored: thread j is started, and its named thread stands last
module _ (p : Program) (c : Code) (o : Options) (s s' : Raw) (w : Config) (S : Simulation p c o s w) (k n : ℕ) (values : Environment) (to : ℕ) (place : Place) (rest : List Command) (value : ℕ) (outer : List Level) (below : List Suspended) (callee arg j : ℕ)
    (at : AtCommand c s w k n values to (Spawn_op callee arg) place rest value outer below) (function : IsFunction p (values callee) 1)
    (number : k < 64) (d : Drawn s.word S.spawner k (s.thread k) callee arg j 3) (ready : s'.word (5 + 3 * j) ≡ 1) (words : (q : ℕ) → q ≢ 5 + 3 * j → s'.word q ≡ s.word q) (blocks : (b : ℕ) → s'.blocks b ≡ s.blocks b) (born : s'.born ≡ s.born ++ j ∷ []) (prints : s'.prints ≡ s.prints)
    (others : (j : ℕ) → j ≢ k → s'.thread j ≡ s.thread j) (mine : s'.thread k ≡ record { at = (s.thread k).at + 1; regs = slice_set (s.thread k).regs to 0; below = (s.thread k).below; units = (s.thread k).units + 1; lost = 0; stage = Border }) (units : (s.thread k).units < o.steps) where
  abbrev old_thread : Thread
  old_thread = at_frame (bind to (Int_value 0) values) (remaining rest value) outer below

  abbrev new_thread : Thread
  new_thread = Running (start function.fun (values arg ∷ [])) []

  abbrev spawned_config : Config
  spawned_config = record { heap = w.heap; threads = slice_set w.threads n old_thread ++ new_thread ∷ []; prints = w.prints }

  long : length (slice_set w.threads n old_thread) ≡ length s.born
  long = set_long w.threads n old_thread ∙ S.stands.many

  goes : Puts (slice_get w.threads) n old_thread (slice_get (slice_set w.threads n old_thread))
  goes = bound_goes p c o s s' w S k n values to (Spawn_op callee arg) place rest value outer below at refl (Int_value 0) 0 0 0 0

  last_put : Puts (slice_get (slice_set w.threads n old_thread)) (length w.threads) new_thread (slice_get (slice_set w.threads n old_thread ++ new_thread ∷ []))
  last_put = record {
    put = subst (λ x. slice_get (slice_set w.threads n old_thread ++ new_thread ∷ []) x ≡ Some new_thread) (set_long w.threads n old_thread) (at_last (slice_set w.threads n old_thread) new_thread);
    others = λ m d. off_last (slice_set w.threads n old_thread) new_thread m (λ e. d (e ∙ set_long w.threads n old_thread));
  }

  back : (m x : ℕ) → slice_get s'.born m ≡ Some x → (slice_get s.born m ≡ Some x) ⊎ ((m ≡ length s.born) × (j ≡ x))
  back m x e = at_end_or s.born j m x (subst (λ (l : List ℕ). slice_get l m ≡ Some x) born e)

  on : (m x : ℕ) → slice_get s.born m ≡ Some x → slice_get s'.born m ≡ Some x
  on m x e = subst (λ (l : List ℕ). slice_get l m ≡ Some x) (sym born) (at_front s.born j m x e)

  unborn : (m : ℕ) → slice_get s.born m ≡ Some j → ⊥
  unborn m e = none_some (S.born_drawn m j e).1 d.mine

  not_k : j ≢ k
  not_k e = unborn n (subst (λ x. slice_get s.born n ≡ Some x) (sym e) at.is)

  drawn_low : j < s.word 1
  drawn_low = elim (cases_lt j (s.word 1)) [
    | inl l ↦ l
    | inr l ↦ absurd (none_some (S.undrawn j l) d.mine)
  ]

  heap_stays : (q x : ℕ) → S.base_of q ≡ Some x → s'.word q ≡ s.word q
  heap_stays q x e = words q (λ z. omega (arith, z, d.high, S.low q x e))

  start_words : (m a : ℕ) → (a ≡ 6 + 3 * m) ⊎ (a ≡ 7 + 3 * m) → s'.word a ≡ s.word a
  start_words m a (inl h) = words a (λ z. omega (arith, h, z))
  start_words m a (inr h) = words a (λ z. omega (arith, h, z))

  count_is : first_params j ≡ 1
  count_is = if_false (j == 0) (ne_eqb j 0 (λ e. omega (arith, e, d.low))) 0 1

  waits : StandsBeforeStart p s'.word j new_thread
  waits = record {
    callee = values callee;
    args = values arg ∷ [];
    start = record { takes = 1; function = function; fits = sym count_is; few = sym count_is; is = refl };
    fun_word = start_words j (6 + 3 * j) (inl refl) ∙ d.stored_fun (omega arith) ∙ at.regs.agree callee;
    arg_word = λ x e. start_words j (7 + 3 * j) (inr refl) ∙ d.stored_arg (omega arith) ∙ at.regs.agree arg ∙ ap raw_value (some_inj e);
  }

  named : (m x : ℕ) → slice_get s'.born m ≡ Some x → HasNamedThread c.instrs p s' spawned_config m x
  named m x e = elim (back m x e) [
    | inl h ↦ elim (cases_eq x k) [
      | inl z ↦ (let same : m ≡ n = S.once m n k (subst (λ y. slice_get s.born m ≡ Some y) z h) at.is in record {
        thread = old_thread;
        here = at_front _ new_thread m old_thread (subst (λ y. slice_get (slice_set w.threads n old_thread) y ≡ Some old_thread) (sym same) goes.put);
        stands = subst (λ y. ThreadStands c.instrs p s'.word y (s'.thread y) old_thread) (sym z) (subst (λ (t : Standing). ThreadStands c.instrs p s'.word k t old_thread) (sym mine)
            (gave_frames p c o s s' w S k n values to (Spawn_op callee arg) place rest value outer below at refl (Int_value 0) 0 ((s.thread k).units + 1) 1 0 refl));
      })
      | inr z ↦ (let old = S.stands.threads m x h in record {
        thread = old.thread;
        here = at_front _ new_thread m old.thread (goes.others m (λ y. z (some_inj (sym h ∙ ap (slice_get s.born) y ∙ at.is))) ∙ old.here);
        stands = subst (λ (t : Standing). ThreadStands c.instrs p s'.word x t old.thread) (sym (others x z)) (stage_words c.instrs p s.word s'.word x (s.thread x) (s.thread x).stage old.thread (start_words x) old.stands);
      })
    ]
    | inr h ↦ subst (λ y. HasNamedThread c.instrs p s' spawned_config m y) h.1 (record {
      thread = new_thread;
      here = subst (λ y. slice_get spawned_config.threads y ≡ Some new_thread) (long ∙ sym h.0) (at_last (slice_set w.threads n old_thread) new_thread);
      stands = subst (λ (t : Standing). ThreadStands c.instrs p s'.word j t new_thread) (sym (others j not_k)) (woken c.instrs p s'.word j (s.thread j) (s.thread j).stage new_thread (S.dormant j unborn) waits);
    })
  ]

  up : total (λ x. (s'.thread x).units) 64 ≡ total (λ x. (s.thread x).units) 64 + 1
  up = units_rise s.thread s'.thread k 1 number (ap (λ (t : Standing). t.units) mine) others

  abbrev spawner' : ℕ → Option ℕ
  spawner' = with_spawner j None S.spawner

  other_spawner : (x : ℕ) → x ≢ j → spawner' x ≡ S.spawner x
  other_spawner x e = if_false (x == j) (ne_eqb x j e) None (S.spawner x)

  -- the store of READY starts a named thread: from then on the number stands for it
  pub wakes : StepOn p c o s' w n
  wakes = (
    spawned_config,
    Step_spawns _ below _ rest callee arg (bind to (Int_value 0) values) (slice_get (slice_set w.threads n old_thread)) (next_of c s w k n values to (Spawn_op callee arg) place rest value outer below at) refl function
        (bind_binds to (Int_value 0) values) (λ b. refl) refl goes last_put,
    record {
      stands = record {
        blocks = λ b cell e. (let old = S.stands.blocks b cell e in record { complete = blocks b ∙ old.complete; words = λ i l. heap_stays (b + i) b (S.in_block b (cell_words cell) i old.complete l) ∙ old.words i l });
        complete = λ b m e. S.stands.complete b m (sym (blocks b) ∙ e);
        threads = named;
        many = length-append (slice_set w.threads n old_thread) (new_thread ∷ []) ∙ ap (λ x. x + 1) long ∙ sym (ap length born ∙ length-append s.born (j ∷ []));
        prints = prints ∙ S.stands.prints;
      };
      base_of = S.base_of;
      maker = S.maker;
      in_block = λ b m i e l. S.in_block b m i (sym (blocks b) ∙ e) l;
      beyond = λ a l. S.beyond a (subst (λ x. x ≤ a) (words 0 (λ e. omega (arith, e))) l);
      low = S.low;
      within_heap = S.within_heap;
      top = subst (λ x. 197 ≤ x) (sym (words 0 (λ e. omega (arith, e)))) S.top;
      made = S.made;
      spawner = spawner';
      undrawn = λ x l. (let far : s.word 1 ≤ x = subst (λ y. y ≤ x) (words 1 (λ e. omega (arith, e))) l in other_spawner x (λ e. omega (arith, e, far, drawn_low)) ∙ S.undrawn x far);
      dormant = λ x h. elim (cases_eq x k) [
        | inl z ↦ absurd (h n (subst (λ y. slice_get s'.born n ≡ Some y) (sym z) (on n k at.is)))
        | inr z ↦ subst (λ (t : Standing). Dormant t.stage) (sym (others x z)) (S.dormant x (λ m e. h m (on m x e)))
      ];
      unready = λ x l h. words (5 + 3 * x) (λ e. h (length s.born) (subst (λ (q : List ℕ). slice_get q (length s.born) ≡ Some x) (sym born) (at_last s.born j ∙ ap Some (omega (arith, e))))) ∙ S.unready x l (λ m e. h m (on m x e));
      born_drawn = λ m x e. elim (back m x e) [
        | inl h ↦ (let old = S.born_drawn m x h in (subst (λ y. x < y) (sym (words 1 (λ e. omega (arith, e)))) old.0, other_spawner x (λ z. unborn m (subst (λ y. slice_get s.born m ≡ Some y) z h)) ∙ old.1))
        | inr h ↦ (subst (λ y. y < s'.word 1) h.1 (subst (λ y. j < y) (sym (words 1 (λ e. omega (arith, e)))) drawn_low), if_true (x == j) (eq-eqb x j (sym h.1)) None (S.spawner x))
      ];
      born_few = λ m x e. elim (back m x e) [
        | inl h ↦ S.born_few m x h
        | inr h ↦ subst (λ y. y < 64) h.1 d.high
      ];
      next = subst (λ x. 1 ≤ x) (sym (words 1 (λ e. omega (arith, e)))) S.next;
      inside = λ x. elim (cases_eq x k) [
        | inl z ↦ subst (λ y. Inside s'.word spawned_config S.base_of S.maker spawner' y (s'.thread y) (s'.thread y).stage (slice_get c.instrs (s'.thread y).at)) (sym z)
            (subst (λ (t : Standing). Inside s'.word spawned_config S.base_of S.maker spawner' k t t.stage (slice_get c.instrs t.at)) (sym mine) tt)
        | inr z ↦ subst (λ (t : Standing). Inside s'.word spawned_config S.base_of S.maker spawner' x t t.stage (slice_get c.instrs t.at)) (sym (others x z))
            (inside_goes s.word s'.word w spawned_config S.base_of S.base_of S.maker S.maker S.spawner spawner' x (s.thread x) (s.thread x).stage (slice_get c.instrs (s.thread x).at)
            (λ i b y h. half_goes s.word s'.word w spawned_config S.base_of S.maker x (s.thread x) i.act b y heap_stays refl h)
            (λ i e q h. taken_goes s.word s'.word S.base_of S.base_of S.maker S.maker (s.thread x) i.act (λ m e q. (heap_stays (m + 1) m e, e, q)) h)
            (λ i a y h. spawned_goes s.word s'.word S.spawner spawner' x (s.thread x) i.act a y
            (λ e. (other_spawner a (λ q. z (some_inj (sym e ∙ ap S.spawner q ∙ d.mine))) ∙ e, start_words a (6 + 3 * a) (inl refl), start_words a (7 + 3 * a) (inr refl))) h)
            (S.inside x))
      ];
      once = λ m x y e q. elim (back m y e) [
        | inl g ↦ elim (back x y q) [ inl h ↦ S.once m x y g h | inr h ↦ absurd (unborn m (subst (λ z. slice_get s.born m ≡ Some z) (sym h.1) g)) ]
        | inr g ↦ elim (back x y q) [ inl h ↦ absurd (unborn x (subst (λ z. slice_get s.born x ≡ Some z) (sym g.1) h)) | inr h ↦ g.0 ∙ sym h.0 ]
      ];
      started = λ x h. elim (cases_eq x k) [
        | inl z ↦ (n, subst (λ y. slice_get s'.born n ≡ Some y) (sym z) (on n k at.is))
        | inr z ↦ (let old = S.started x (subst (λ (t : Standing). Started t.stage) (others x z) h) in (old.0, on old.0 x old.1))
      ];
      units = λ x. elim (cases_eq x k) [
        | inl z ↦ subst (λ y. (s'.thread y).units ≤ o.steps) (sym z) (subst (λ (t : Standing). t.units ≤ o.steps) (sym mine) (omega (arith, units)))
        | inr z ↦ subst (λ (t : Standing). t.units ≤ o.steps) (sym (others x z)) (S.units x)
      ];
      top_most = omega (arith, words 0 (λ e. omega (arith, e)), up, S.top_most);
      next_most = omega (arith, words 1 (λ e. omega (arith, e)), up, S.next_most);
    },
  )
