-- Code whose registers and targets are in range: what whoever runs it may rely on, whatever program it is of.
use Rattle.std.specs.Prelude.{◌≡◌, ◌<◌, ◌≤◌, ℕ, ◌+◌, length, List, [], ◌∷◌, Some, slice_get}
use Rattle.mz_words.specs.declared.code.Act.{Act}
use Rattle.mz_words.specs.declared.code.Act.TheVariants.{Const, Copy, Arith, New, Read, Write, Retag, Switch, Branch, Jump, Call, Return, Give, Take, NewLock, Acquire, Release, Spawn, Print}
use Rattle.mz_tree.specs.declared.types.Place.{Place}
use Rattle.mz_words.specs.declared.code.Instr.{Instr}
use Rattle.mz_words.specs.declared.code.Start.{Start}
use Rattle.mz_words.specs.declared.code.Code.{Code}

-- each of these is one of n registers
abbrev pub RegistersBelow : ℕ → List ℕ → Type 0
RegistersBelow n [] = Unit {0}
RegistersBelow n (x ∷ xs) = (x < n) × RegistersBelow n xs

-- targets behind an instruction, and not behind the last of the function
abbrev pub TargetsAhead : ℕ → ℕ → List ℕ → Type 0
TargetsAhead address last [] = Unit {0}
TargetsAhead address last (t ∷ ts) = (address < t) × (t ≤ last) × TargetsAhead address last ts

-- the instruction at an address in a function of n registers, whose last instruction is at `last`: its registers are among them,
-- its targets are behind it, a switch has one target for each constructor, and a new block has at most 32 fields
abbrev pub ActInRange : ℕ → ℕ → ℕ → Act → Type 0
ActInRange n address last (Const to value) = to < n
ActInRange n address last (Copy to source) = (to < n) × (source < n)
ActInRange n address last (Arith to operator left right) = (to < n) × (left < n) × (right < n)
ActInRange n address last (New to con fields) = (to < n) × RegistersBelow n fields × (length fields ≤ 32)
ActInRange n address last (Read to block con field) = (to < n) × (block < n)
ActInRange n address last (Write to block con field source) = (to < n) × (block < n) × (source < n)
ActInRange n address last (Retag to block old con) = (to < n) × (block < n)
ActInRange n address last (Switch block cons targets) = (block < n) × (length cons ≡ length targets) × TargetsAhead address last targets
ActInRange n address last (Branch test at_zero) = (test < n) × (address < at_zero) × (at_zero ≤ last)
ActInRange n address last (Jump target) = (address < target) × (target ≤ last)
ActInRange n address last (Call to callee args) = (to < n) × (callee < n) × RegistersBelow n args
ActInRange n address last (Return source) = source < n
ActInRange n address last (Give to block adopter) = (to < n) × (block < n) × (adopter < n)
ActInRange n address last (Take to block adopter) = (to < n) × (block < n) × (adopter < n)
ActInRange n address last (NewLock to) = to < n
ActInRange n address last (Acquire to lock) = (to < n) × (lock < n)
ActInRange n address last (Release to lock) = (to < n) × (lock < n)
ActInRange n address last (Spawn to callee arg) = (to < n) × (callee < n) × (arg < n)
ActInRange n address last (Print to source) = (to < n) × (source < n)

-- instructions from an address on
abbrev pub AllInRange : ℕ → ℕ → ℕ → List Instr → Type 0
AllInRange n address last [] = Unit {0}
AllInRange n address last (i ∷ is) = ActInRange n address last i.act × AllInRange n (address + 1) last is

-- function f of the code: its instructions go from its first to a Return before the next function begins, and each is in range
pub record FunctionInRange (c : Code) (f : ℕ) (s : Start) : Type 0 where
  pub last : ℕ
  pub goes : s.first ≤ last
  pub source : ℕ
  pub place : Place
  pub returns : slice_get c.instrs last ≡ Some (record { place = place; act = Return source })
  pub apart : (next : Start) → slice_get c.entries (f + 1) ≡ Some next → last < next.first
  pub each : (address : ℕ) (i : Instr) → s.first ≤ address → address < last → slice_get c.instrs address ≡ Some i → ActInRange s.registers address last i.act
  pub value : source < s.registers
  pub room : s.params ≤ s.registers

-- an address is that of an instruction of a function
pub record IsInFunction (c : Code) (address : ℕ) : Type 0 where
  pub f : ℕ
  pub start : Start
  pub found : slice_get c.entries f ≡ Some start
  pub range : FunctionInRange c f start
  pub behind : start.first ≤ address
  pub within : address ≤ range.last

-- each function is in range, `main` is one without parameters, and there is no instruction but those of functions
pub record CodeInRange (c : Code) : Type 0 where
  pub functions : (f : ℕ) (s : Start) → slice_get c.entries f ≡ Some s → FunctionInRange c f s
  pub main : Start
  pub begins : slice_get c.entries c.main ≡ Some main
  pub no_params : main.params ≡ 0
  pub covered : (address : ℕ) (i : Instr) → slice_get c.instrs address ≡ Some i → IsInFunction c address
