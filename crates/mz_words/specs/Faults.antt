-- States without a fault and without a race.
--
-- A fault is an act at a word that isn't one of a complete block of the right shape, a switch without a case, or a call of
-- what is no function. A race is two threads at one tag or field, of which one stores. Adopters, locks and the header are
-- shared: there two threads may meet.
use Rattle.std.specs.Prelude.{◌≡◌, ◌≢◌, ◌⊎◌, ℕ, ◌+◌, ◌<◌, ◌≤◌, length, Some, slice_get}
use Rattle.mz_words.specs.declared.code.Act.{Act}
use Rattle.mz_words.specs.declared.code.Act.TheVariants.{Read, Write, Retag, Switch, Call, Give, Take, Acquire, Release, Spawn}
use Rattle.mz_words.specs.declared.code.Instr.{Instr}
use Rattle.mz_words.specs.declared.code.Start.{Start}
use Rattle.mz_words.specs.declared.code.Code.{Code}
use Rattle.mz_words.specs.declared.options.Options.{Options}
use Rattle.mz_words.specs.declared.ends.End.{End}
use Rattle.mz_words.specs.declared.asks.Ask.TheVariants.{Nothing}
use Rattle.mz_words.specs.declared.stages.Stage.{Stage}
use Rattle.mz_words.specs.declared.stages.Stage.TheVariants.{Border, Ready, Making, Taking, Spawning, Over}
use Rattle.mz_words.specs.Standing.{Standing}
use Rattle.mz_words.specs.Steps.{reg, callee_of, case_at, made_words, ask}
use Rattle.mz_tape.specs.declared.entry.Kind.TheVariants.{Store}
use Rattle.mz_words.specs.Answers.{Move, move_of}
use Rattle.mz_words.specs.Raw.{Raw}

-- ---- what the act of a running thread may be

-- a complete block stands there
pub record HasBlock (s : Raw) (b : ℕ) : Type 0 where
  pub fields : ℕ
  pub complete : s.blocks b ≡ Some (fields + 2)

-- a complete block of the constructor, with this field
pub record HasField (s : Raw) (b con field : ℕ) : Type 0 where
  pub block : HasBlock s b
  pub tag : s.word b ≡ con + 1
  pub within : field < block.fields

-- an act finds blocks, locks and functions where it needs them. A thread knows the constructor that it reads, writes or changes
abbrev pub IsSoundAct : Code → Raw → Standing → Act → Type 0
IsSoundAct c s t (Read to block con field) = HasField s (reg t block) con field
IsSoundAct c s t (Write to block con field source) = HasField s (reg t block) con field
IsSoundAct c s t (Retag to block old con) = HasBlock s (reg t block) × (s.word (reg t block) ≡ old + 1)
IsSoundAct c s t (Switch block cons targets) = HasBlock s (reg t block) × (target : ℕ) × (case_at cons targets (s.word (reg t block)) ≡ Some target)
IsSoundAct c s t (Give to block adopter) = HasBlock s (reg t block) × HasBlock s (reg t adopter)
IsSoundAct c s t (Take to block adopter) = HasBlock s (reg t block) × HasBlock s (reg t adopter)
IsSoundAct c s t (Acquire to lock) = s.blocks (reg t lock) ≡ Some 1
IsSoundAct c s t (Release to lock) = s.blocks (reg t lock) ≡ Some 1
IsSoundAct c s t (Call to callee args) = (start : Start) × (callee_of c (reg t callee) (length args) ≡ Some start)
IsSoundAct c s t (Spawn to callee arg) = (start : Start) × (callee_of c (reg t callee) 1 ≡ Some start)
IsSoundAct c s t _ = Unit {0}

-- a thread that stands at an instruction of its top frame
abbrev pub IsAtInstruction : Stage → Type 0
IsAtInstruction Border = Unit {0}
IsAtInstruction Ready = Unit {0}
IsAtInstruction (Making base i) = Unit {0}
IsAtInstruction Taking = Unit {0}
IsAtInstruction (Spawning k i) = Unit {0}
IsAtInstruction _ = ⊥

-- the instruction at which a running thread stands is there, and sound
pub record IsSound (c : Code) (s : Raw) (t : Standing) : Type 0 where
  pub instr : Instr
  pub found : slice_get c.instrs t.at ≡ Some instr
  pub sound : IsSoundAct c s t instr.act

-- no thread is at a fault
pub record NoFault (c : Code) (o : Options) (s : Raw) : Type 0 where
  pub acts : (k : ℕ) → IsAtInstruction (s.thread k).stage → IsSound c s (s.thread k)
  -- whoever asks nothing is over: no place is outside the words, and no step is missing
  pub asks : (k : ℕ) → ask c o k (s.thread k) ≡ Nothing → (e : End) × ((s.thread k).stage ≡ Over e)
  -- each word of a complete block is inside the heap, and behind the header
  pub inside : (b n i : ℕ) → s.blocks b ≡ Some n → i < n → b + i < o.heap
  pub behind : (b n i : ℕ) → s.blocks b ≡ Some n → i < n → 197 ≤ b + i
  -- so is the next word of a block that is being made
  pub making : (k base i : ℕ) → (s.thread k).stage ≡ Making base i → 197 ≤ base + i

-- ---- where the next steps of two threads may meet, one of them a store

-- a word of the header, the adopter word of a complete block, or that of a lock: no tag and no field
abbrev pub MayMeet : Raw → ℕ → Type 0
MayMeet s a = (a < 197) ⊎ (((b : ℕ) × HasBlock s b × (a ≡ b + 1)) ⊎ (s.blocks a ≡ Some 1))

-- no two threads race
pub record NoRace (c : Code) (o : Options) (s : Raw) : Type 0 where
  pub meet : (j k : ℕ) → j < 64 → k < 64 → j ≢ k → (m n : Move) → move_of (ask c o j (s.thread j)) ≡ Some m → move_of (ask c o k (s.thread k)) ≡ Some n → m.place ≡ n.place → m.kind ≡ Store → MayMeet s m.place
  -- so no two meet at the tag word or at a field word of a complete block
  pub apart : (b i : ℕ) (q : HasBlock s b) → i < q.fields + 2 → i ≢ 1 → MayMeet s (b + i) → ⊥
  -- nor at a word of a block that is being made
  pub half_made : (k base i j : ℕ) (instr : Instr) → (s.thread k).stage ≡ Making base i → slice_get c.instrs (s.thread k).at ≡ Some instr → j < made_words instr.act → MayMeet s (base + j) → ⊥
