-- What is kept while the raw machine runs.
use Rattle.std.proofs.Common.{◌≡◌, ◌≢◌, ◌<◌, ◌≤◌, ℕ, ◌+◌, ◌*◌, ◌++◌, Option, Some, None, refl, subst}
use Rattle.std.specs.Prelude.{slice_get}
use Rattle.mz_tree.specs.Programs.{Program}
use Rattle.mz_words.specs.declared.code.Act.{Act}
use Rattle.mz_words.specs.declared.code.Act.TheVariants.{Take, Spawn}
use Rattle.mz_words.specs.declared.code.Instr.{Instr}
use Rattle.mz_words.specs.declared.code.Code.{Code}
use Rattle.mz_words.specs.declared.options.Options.{Options}
use Rattle.mz_words.specs.declared.ends.End.{End}
use Rattle.mz_words.specs.declared.ends.End.TheVariants as ending
use Rattle.mz_words.specs.declared.asks.Answer.{Answer}
use Rattle.mz_words.specs.declared.stages.Stage.{Stage}
use Rattle.mz_words.specs.declared.stages.Stage.TheVariants.{Idle, IdleStop, IdleLive, LoadFun, LoadArg, Entering, Border, Ready, Making, Taking, Spawning, Over}
use Rattle.mz_words.specs.Standing.{Standing}
use Rattle.mz_words.specs.Steps.{reg, made_words, made_word, ask, ask_at, take_step, take_at}
use Rattle.mz_words.specs.Answers.{May, Agrees as Agrees_with, moved, word_then}
use Rattle.mz_words.specs.Raw.{Raw, Event, completed_at, blocks_then, born_at, printed}
use Rattle.mz_named.specs.Machine.{Cell, Config}
use Rattle.mz_lower.specs.StandsFor.{StandsFor}
use Rattle.mz_lower.proofs.Changes.{total}

-- a block that thread k is making: of act a, from its standing, with i words stored
pub record HalfMade (word : ℕ → ℕ) (w : Config) (base_of maker : ℕ → Option ℕ) (k : ℕ) (t : Standing) (a : Act) (b i : ℕ) : Type 0 where
  pub words : (j : ℕ) → j < made_words a → base_of (b + j) ≡ Some b
  pub not_yet : w.heap.at b ≡ None
  pub mine : maker b ≡ Some k
  pub few : i < made_words a
  pub stored : (j : ℕ) → j < i → word (b + j) ≡ made_word t a j

-- the load saw the adopter, and the word is still that
abbrev pub Taken : (ℕ → ℕ) → (ℕ → Option ℕ) → (ℕ → Option ℕ) → Standing → Act → Type 0
Taken word base_of maker t (Take to block adopter) = (word (reg t block + 1) ≡ reg t adopter) × (base_of (reg t block + 1) ≡ Some (reg t block)) × (maker (reg t block) ≡ None)
Taken word base_of maker t _ = ⊥

-- a number that thread k has drawn
pub record Drawn (word : ℕ → ℕ) (spawner : ℕ → Option ℕ) (k : ℕ) (t : Standing) (callee arg j i : ℕ) : Type 0 where
  pub mine : spawner j ≡ Some k
  pub low : 1 ≤ j
  pub high : j < 64
  pub few : i ≤ 3
  pub stored_fun : 2 ≤ i → word (6 + 3 * j) ≡ reg t callee
  pub stored_arg : 3 ≤ i → word (7 + 3 * j) ≡ reg t arg

-- a number drawn by the Spawn at which the thread stands
abbrev pub Spawned : (ℕ → ℕ) → (ℕ → Option ℕ) → ℕ → Standing → Act → ℕ → ℕ → Type 0
Spawned word spawner k t (Spawn to callee arg) j i = Drawn word spawner k t callee arg j i
Spawned word spawner k t _ j i = ⊥

-- what is known inside an instruction
abbrev pub Inside : (ℕ → ℕ) → Config → (ℕ → Option ℕ) → (ℕ → Option ℕ) → (ℕ → Option ℕ) → ℕ → Standing → Stage → Option Instr → Type 0
Inside word w base_of maker spawner k t (Making b i) (Some a) = HalfMade word w base_of maker k t a.act b i
Inside word w base_of maker spawner k t Taking (Some a) = Taken word base_of maker t a.act
Inside word w base_of maker spawner k t (Spawning j i) (Some a) = Spawned word spawner k t a.act j i
Inside word w base_of maker spawner k t stage a = Unit {0}

-- a thread that has a named one, since it has started and isn't over
abbrev pub Started : Stage → Type 0
Started Border = Unit {0}
Started Ready = Unit {0}
Started (Making b i) = Unit {0}
Started Taking = Unit {0}
Started (Spawning j i) = Unit {0}
Started LoadFun = Unit {0}
Started (LoadArg f) = Unit {0}
Started (Entering f arg) = Unit {0}
Started stage = ⊥

-- a thread that nobody may have started
abbrev pub DormantEnd : End → Type 0
DormantEnd ending.Halted = Unit {0}
DormantEnd ending.NeverStarted = Unit {0}
DormantEnd e = ⊥

-- a stage of a thread that nobody may have started
abbrev pub Dormant : Stage → Type 0
Dormant Idle = Unit {0}
Dormant IdleStop = Unit {0}
Dormant IdleLive = Unit {0}
Dormant (Over e) = DormantEnd e
Dormant stage = ⊥

-- the state stands for the configuration, and what is known besides of blocks, of drawn numbers and of sums
pub record Simulation (p : Program) (c : Code) (o : Options) (s : Raw) (w : Config) : Type 0 where
  pub stands : StandsFor p c s w
  -- the block to which a word belongs, and the thread that makes a block
  pub base_of : ℕ → Option ℕ
  pub maker : ℕ → Option ℕ
  pub in_block : (b n i : ℕ) → s.blocks b ≡ Some n → i < n → base_of (b + i) ≡ Some b
  pub beyond : (a : ℕ) → s.word 0 ≤ a → base_of a ≡ None
  pub low : (a b : ℕ) → base_of a ≡ Some b → 197 ≤ a
  pub within_heap : (a b : ℕ) → base_of a ≡ Some b → a < o.heap
  pub top : 197 ≤ s.word 0
  pub made : (b : ℕ) (cell : Cell) → w.heap.at b ≡ Some cell → maker b ≡ None
  -- the thread whose Spawn drew a number and hasn't stored its READY
  pub spawner : ℕ → Option ℕ
  pub undrawn : (j : ℕ) → s.word 1 ≤ j → spawner j ≡ None
  pub dormant : (j : ℕ) → ((n : ℕ) → slice_get s.born n ≡ Some j → ⊥) → Dormant (s.thread j).stage
  pub unready : (j : ℕ) → j < 64 → ((n : ℕ) → slice_get s.born n ≡ Some j → ⊥) → s.word (5 + 3 * j) ≡ 0
  pub born_drawn : (n j : ℕ) → slice_get s.born n ≡ Some j → (j < s.word 1) × (spawner j ≡ None)
  pub born_few : (n j : ℕ) → slice_get s.born n ≡ Some j → j < 64
  pub next : 1 ≤ s.word 1
  -- inside an instruction
  pub inside : (k : ℕ) → Inside s.word w base_of maker spawner k (s.thread k) (s.thread k).stage (slice_get c.instrs (s.thread k).at)
  -- numbers of threads
  pub once : (m n k : ℕ) → slice_get s.born m ≡ Some k → slice_get s.born n ≡ Some k → m ≡ n
  pub started : (k : ℕ) → Started (s.thread k).stage → (n : ℕ) × (slice_get s.born n ≡ Some k)
  -- no sum wraps
  pub units : (k : ℕ) → (s.thread k).units ≤ o.steps
  pub top_most : s.word 0 ≤ 197 + 34 * total (λ k. (s.thread k).units) 64
  pub next_most : s.word 1 ≤ 1 + total (λ k. (s.thread k).units) 64

-- an event at a known stage and a known instruction
pub record EventAt (c : Code) (o : Options) (s : Raw) (k : ℕ) (answer : Answer) (s' : Raw) (stage : Stage) (a : Option Instr) : Type 0 where
  pub number : k < 64
  pub at_stage : (s.thread k).stage ≡ stage
  pub at_instr : slice_get c.instrs (s.thread k).at ≡ a
  pub may : May (ask_at c o k (s.thread k) stage a) answer
  pub agrees : Agrees_with (ask_at c o k (s.thread k) stage a) answer s.word
  pub words : (q : ℕ) → s'.word q ≡ word_then (moved (ask_at c o k (s.thread k) stage a) answer) s.word q
  pub mine : s'.thread k ≡ take_at c o k (s.thread k) stage a answer
  pub others : (j : ℕ) → j ≢ k → s'.thread j ≡ s.thread j
  pub blocks : (b : ℕ) → s'.blocks b ≡ blocks_then (completed_at stage a answer) s.blocks b
  pub born : s'.born ≡ s.born ++ born_at stage answer
  pub prints : s'.prints ≡ s.prints ++ printed (ask_at c o k (s.thread k) stage a) answer

event_here : (c : Code) (o : Options) (s : Raw) (k : ℕ) (answer : Answer) (s' : Raw) → Event c o s k answer s' → EventAt c o s k answer s' (s.thread k).stage (slice_get c.instrs (s.thread k).at)
unfolding ask take_step
event_here c o s k answer s' e = record {
  number = e.number;
  at_stage = refl;
  at_instr = refl;
  may = e.may;
  agrees = e.agrees;
  words = e.words;
  mine = e.mine;
  others = e.others;
  blocks = e.blocks;
  born = e.born;
  prints = e.prints;
}

-- an event, where stage and instruction are known
pub event_at : (c : Code) (o : Options) (s : Raw) (k : ℕ) (answer : Answer) (s' : Raw) (stage : Stage) (a : Option Instr) → Event c o s k answer s' → (s.thread k).stage ≡ stage → slice_get c.instrs (s.thread k).at ≡ a → EventAt c o s k answer s' stage a
event_at c o s k answer s' stage a e p q =
    subst (λ (x : Stage). EventAt c o s k answer s' x a) p (subst (λ (x : Option Instr). EventAt c o s k answer s' (s.thread k).stage x) q (event_here c o s k answer s' e))
