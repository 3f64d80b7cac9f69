-- A thread at a command, and one that goes on behind it with a value.
use Rattle.std.proofs.Common.{◌≡◌, ◌≢◌, ◌<◌, ◌≤◌, ◌==◌, ◌⊎◌, inl, inr, ℕ, ◌+◌, List, [], ◌∷◌, ◌++◌, length, Some, refl, sym, ap, ◌∙◌, subst, eq-eqb, ne_eqb}
use Rattle.std.specs.Prelude.{slice_get, slice_set, slice_index_or, if◌then◌else◌}
use Rattle.std.proofs.lemmas.Bool.{cases_eq}
use Rattle.std.proofs.lemmas.List.{get_or-set_same, get_or-set_other}
use Rattle.mz_tree.specs.declared.types.Place.{Place}
use Rattle.mz_tree.specs.Code.{Op, The_command, Command}
use Rattle.mz_tree.specs.Programs.{Program}
use Rattle.mz_words.specs.declared.code.Code.{Code}
use Rattle.mz_words.specs.declared.options.Options.{Options}
use Rattle.mz_words.specs.declared.stages.Stage.TheVariants.{Border}
use Rattle.mz_words.specs.Standing.{Standing}
use Rattle.mz_words.specs.Raw.{Raw}
use Rattle.mz_named.specs.Machine.{Value, Heap, Environment, Rest, Level, Frame, Suspended, Thread, Running, Config, Puts, Binds, Moves, IsAt, Acts, NStep, Step_acts}
use Rattle.mz_lower.specs.Layout.{size_op}
use Rattle.mz_lower.specs.Addresses.{StandsAt}
use Rattle.mz_lower.specs.StandsFor.{raw_value, RegistersAgree, Comes_here, WaitingStand, StandsRunning, ThreadStands}
use Rattle.mz_lower.proofs.Addresses.{remaining, if_true, if_false, head_of}
use Rattle.mz_words.proofs.Lists.{set_here, set_other, set_long}
use Rattle.mz_lower.proofs.Simulation.{Simulation, Inside}
use Rattle.mz_lower.proofs.Still.{Still, still_keeps}

-- ---- environments and registers

-- the environment with one more value
abbrev pub bind : ℕ → Value → Environment → Environment
bind to v values = λ m. if m == to then v else values m

-- it binds just that
pub bind_binds : (to : ℕ) (v : Value) (values : Environment) → Binds values to v (bind to v values)
bind_binds to v values = record {
  bound = if_true (to == to) (eq-eqb to to refl) v (values to);
  others = λ m n. if_false (m == to) (ne_eqb m to n) v (values m);
}

-- a register that is set agrees with a name that is bound
pub regs_bound : (values : Environment) (regs : List ℕ) (to raw : ℕ) (v : Value) → RegistersAgree values regs → to < length regs → raw ≡ raw_value v → RegistersAgree (bind to v values) (slice_set regs to raw)
regs_bound values regs to raw v r l is = record {
  agree = λ m. elim (cases_eq m to) [
    | inl q ↦ subst (λ x. slice_index_or (slice_set regs to raw) x 0 ≡ raw_value (bind to v values x)) (sym q)
        (get_or-set_same regs to raw 0 l ∙ is ∙ ap raw_value (sym (if_true (to == to) (eq-eqb to to refl) v (values to))))
    | inr q ↦ get_or-set_other regs to m raw 0 q ∙ r.agree m ∙ ap raw_value (sym (if_false (m == to) (ne_eqb m to q) v (values m)))
  ];
}

-- ---- a thread at a command

-- a frame by its parts
abbrev pub frame_at : Environment → Rest → List Level → Frame
frame_at values rest outer = record { env = values; rest = rest; outer = outer }

-- a thread that runs in it
abbrev pub at_frame : Environment → Rest → List Level → List Suspended → Thread
at_frame values rest outer below = Running (frame_at values rest outer) below

-- what is left where this command is next
abbrev pub at_op : ℕ → Op → Place → List Command → ℕ → Rest
at_op to op place rest value = remaining (The_command to op place ∷ rest) value

-- thread k, the n-th named one, stands at this command, and its frames stand for these
pub record AtCommand (c : Code) (s : Raw) (w : Config) (k n : ℕ) (values : Environment) (to : ℕ) (op : Op) (place : Place) (rest : List Command) (value : ℕ) (outer : List Level) (below : List Suspended) : Type 0 where
  pub is : slice_get s.born n ≡ Some k
  pub here : slice_get w.threads n ≡ Some (at_frame values (at_op to op place rest value) outer below)
  pub regs : RegistersAgree values (s.thread k).regs
  pub stands : StandsAt c.instrs (length (s.thread k).regs) (s.thread k).at (at_op to op place rest value) outer
  pub under : WaitingStand c.instrs (s.thread k).below below

-- so it is at that command by name
pub next_of : (c : Code) (s : Raw) (w : Config) (k n : ℕ) (values : Environment) (to : ℕ) (op : Op) (place : Place) (rest : List Command) (value : ℕ) (outer : List Level) (below : List Suspended)
    → AtCommand c s w k n values to op place rest value outer below → IsAt w n (frame_at values (at_op to op place rest value) outer) below (The_command to op place) rest
next_of c s w k n values to op place rest value outer below a = record { here = a.here; first = refl }

-- nothing is printed
pub nil_right : {A : Type 0} (xs : List A) → xs ++ [] ≡ xs
nil_right [] = refl
nil_right (x ∷ xs) = ap (λ l. x ∷ l) (nil_right xs)

-- the named step of a command that gives a value and prints nothing
pub step_acts : (p : Program) (c : Code) (s : Raw) (w : Config) (k n : ℕ) (values : Environment) (to : ℕ) (op : Op) (place : Place) (rest : List Command) (value : ℕ) (outer : List Level) (below : List Suspended) (a : AtCommand c s w k n values to op place rest value outer below)
    (v : Value) (heap : Heap) → Acts w.heap.at values op v heap.at [] → NStep p w n (record { heap = heap; threads = slice_set w.threads n (at_frame (bind to v values) (remaining rest value) outer below); prints = w.prints })
step_acts p c s w k n values to op place rest value outer below a v heap d =
    Step_acts (frame_at values (at_op to op place rest value) outer) below (The_command to op place) rest v (bind to v values) [] (next_of c s w k n values to op place rest value outer below a) d
    (sym (nil_right w.prints)) (bind_binds to v values)
    (record { put = set_here w.threads n _ _ a.here; others = λ m d. set_other w.threads n m _ d })

-- a thread's next configuration where heap and prints stay
pub moves_on : (w : Config) (n : ℕ) (was u : Thread) → slice_get w.threads n ≡ Some was → Moves w n u (record w { threads = slice_set w.threads n u })
moves_on w n was u here = record {
  heap = λ b. refl;
  prints = refl;
  threads = record { put = set_here w.threads n u was here; others = λ m d. set_other w.threads n m u d };
}

-- thread k goes on behind its command with a value; words and cells stay
module _ (p : Program) (c : Code) (o : Options) (s s' : Raw) (w : Config) (S : Simulation p c o s w) (k n : ℕ) (values : Environment) (to : ℕ) (op : Op) (place : Place) (rest : List Command) (value : ℕ) (outer : List Level) (below : List Suspended)
    (a : AtCommand c s w k n values to op place rest value outer below) (one : size_op op ≡ 1) (v : Value) (raw units more lost : ℕ) where
  -- the named thread behind its command
  abbrev pub bound_thread : Thread
  bound_thread = at_frame (bind to v values) (remaining rest value) outer below

  -- and the configuration in which it is
  abbrev pub bound_config : Config
  bound_config = record { heap = w.heap; threads = slice_set w.threads n bound_thread; prints = w.prints }

  -- the standing behind an instruction that gives a value
  abbrev pub gave : Standing
  gave = record { at = (s.thread k).at + 1; regs = slice_set (s.thread k).regs to raw; below = (s.thread k).below; units = units; lost = lost; stage = Border }

  -- its frames stand for those of the named thread behind the command
  pub gave_frames : raw ≡ raw_value v → StandsRunning c.instrs gave bound_thread
  gave_frames is =
      let h = head_of c.instrs (length (s.thread k).regs) (s.thread k).at (The_command to op place) rest value outer a.stands in
      record {
        top = record { env = bind to v values; rest = remaining rest value; outer = outer };
        below = below;
        is = refl;
        frames = record {
          regs = regs_bound values (s.thread k).regs to raw v a.regs h.1.0 is;
          place = Comes_here (subst (λ m. StandsAt c.instrs (length (slice_set (s.thread k).regs to raw)) ((s.thread k).at + m) (remaining rest value) outer) one
              (subst (λ m. StandsAt c.instrs m ((s.thread k).at + size_op op) (remaining rest value) outer) (sym (set_long (s.thread k).regs to raw)) h.2));
          under = a.under;
        };
      }

  -- the named threads are as they were but for that one
  pub bound_goes : Puts (slice_get w.threads) n bound_thread (slice_get bound_config.threads)
  bound_goes = record { put = set_here w.threads n bound_thread _ a.here; others = λ m d. set_other w.threads n m bound_thread d }

  -- an instruction that gives a value and changes no known word keeps the simulation, by the command's step
  pub binds_on : k < 64 → ((q : ℕ) → (q < 2) ⊎ (5 ≤ q) → s'.word q ≡ s.word q) → ((b : ℕ) → s'.blocks b ≡ s.blocks b) → s'.born ≡ s.born → s'.prints ≡ s.prints → ((j : ℕ) → j ≢ k → s'.thread j ≡ s.thread j)
      → s'.thread k ≡ gave → raw ≡ raw_value v → units ≡ (s.thread k).units + more → units ≤ o.steps → Acts w.heap.at values op v w.heap.at []
      → (w' : Config) × NStep p w n w' × Simulation p c o s' w'
  binds_on number words blocks born prints others mine is counts within d = (
    bound_config,
    step_acts p c s w k n values to op place rest value outer below a v w.heap d,
    still_keeps p c o s s' w bound_config S k n (record {
      number = number;
      words = words;
      blocks = blocks;
      born = born;
      prints = prints ∙ S.stands.prints;
      others = others;
      cells = λ b. refl;
      is = a.is;
      thread = bound_thread;
      goes = bound_goes;
      many = set_long w.threads n bound_thread;
      mine = subst (λ (t : Standing). ThreadStands c.instrs p s'.word k t bound_thread) (sym mine) (gave_frames is);
      inside = subst (λ (t : Standing). Inside s'.word bound_config S.base_of S.maker S.spawner k t t.stage (slice_get c.instrs t.at)) (sym mine) tt;
      more = more;
      counts = ap (λ (t : Standing). t.units) mine ∙ counts;
      within = subst (λ (t : Standing). t.units ≤ o.steps) (sym mine) within;
    }),
  )

-- thread k goes on, and its named thread with it, to u; words and cells stay
module _ (p : Program) (c : Code) (o : Options) (s s' : Raw) (w : Config) (S : Simulation p c o s w) (k n : ℕ) (number : k < 64) (words : (q : ℕ) → (q < 2) ⊎ (5 ≤ q) → s'.word q ≡ s.word q) (blocks : (b : ℕ) → s'.blocks b ≡ s.blocks b) (born : s'.born ≡ s.born) (prints : s'.prints ≡ s.prints)
    (others : (j : ℕ) → j ≢ k → s'.thread j ≡ s.thread j) (is : slice_get s.born n ≡ Some k) (was u : Thread) (here : slice_get w.threads n ≡ Some was) (t' : Standing) (more : ℕ) (mine : s'.thread k ≡ t') (counts : t'.units ≡ (s.thread k).units + more) (within : t'.units ≤ o.steps)
    (stands : ThreadStands c.instrs p s'.word k t' u) (inside : (w2 : Config) → w2.heap ≡ w.heap → Inside s'.word w2 S.base_of S.maker S.spawner k t' t'.stage (slice_get c.instrs t'.at)) where
  -- the configuration in which the thread is another
  abbrev pub gone : Config
  gone = record w { threads = slice_set w.threads n u }

  still_of : (w' : Config) → w'.heap ≡ w.heap → w'.prints ≡ w.prints → Puts (slice_get w.threads) n u (slice_get w'.threads) → length w'.threads ≡ length w.threads → Still p c o s s' w w' S k n
  still_of w' heap named_prints goes many = record {
    number = number;
    words = words;
    blocks = blocks;
    born = born;
    prints = prints ∙ S.stands.prints ∙ sym named_prints;
    others = others;
    cells = λ b. ap (λ (h : Heap). h.at b) heap;
    is = is;
    thread = u;
    goes = goes;
    many = many;
    mine = subst (λ (t : Standing). ThreadStands c.instrs p s'.word k t u) (sym mine) stands;
    inside = subst (λ (t : Standing). Inside s'.word w' S.base_of S.maker S.spawner k t t.stage (slice_get c.instrs t.at)) (sym mine) (inside w' heap);
    more = more;
    counts = ap (λ (t : Standing). t.units) mine ∙ counts;
    within = subst (λ (t : Standing). t.units ≤ o.steps) (sym mine) within;
  }

  -- an event without a known word, with a step of the named thread
  pub goes_with : Simulation p c o s' gone
  goes_with = still_keeps p c o s s' w gone S k n (still_of gone refl refl
      (record { put = set_here w.threads n u was here; others = λ m d. set_other w.threads n m u d }) (set_long w.threads n u))

  -- or the named thread stays
  pub rests_with : u ≡ was → Simulation p c o s' w
  rests_with e = still_keeps p c o s s' w w S k n (still_of w refl refl (record { put = here ∙ ap Some (sym e); others = λ m d. refl }) refl)
