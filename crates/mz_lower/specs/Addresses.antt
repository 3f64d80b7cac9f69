-- Which address in the code stands for what is left of a body of the named machine.
--
-- A frame of the named machine keeps what is left of the body in which it stands and of each body round it. In the code there is
-- one address: what is left of the innermost body stands there, behind it the two instructions that end a branch, and their jump
-- leads to where what is left of the next body stands; behind the outermost body stands the function's return.
use Rattle.std.specs.Prelude.{◌≡◌, ◌<◌, ◌≤◌, ℕ, ◌+◌, length, List, [], ◌∷◌, Some, slice_get}
use Rattle.mz_tree.specs.declared.types.Place.{Place}
use Rattle.mz_tree.specs.Code.{Op, New_op, If_op, Match_op, Command, The_command, Commands, No_commands, More_commands, Case, Cases, No_cases, More_cases, The_case, Body, The_body, commands_of}
use Rattle.mz_words.specs.declared.code.Act.TheVariants.{Copy, Jump, Return}
use Rattle.mz_words.specs.declared.code.Instr.{Instr}
use Rattle.mz_named.specs.Machine.{Rest, Level}
use Rattle.mz_lower.specs.Layout.{instr, size_commands, lay_commands}

-- these instructions stand at the address and behind it
abbrev pub HasAt : List Instr → ℕ → List Instr → Type 0
HasAt code address [] = Unit {0}
HasAt code address (i ∷ is) = (slice_get code address ≡ Some i) × HasAt code (address + 1) is

-- each name that the body binds is one of n registers, and no new block has more than 32 fields
abbrev mutual
  pub BindsBelow : ℕ → Body → Type 0
  BindsBelow n (The_body commands value brace) = CommandsBelow n commands

  pub CommandsBelow : ℕ → Commands → Type 0
  CommandsBelow n No_commands = Unit {0}
  CommandsBelow n (More_commands c rest) = CommandBelow n c × CommandsBelow n rest

  pub CommandBelow : ℕ → Command → Type 0
  CommandBelow n (The_command to op place) = (to < n) × OpBelow n op

  pub OpBelow : ℕ → Op → Type 0
  OpBelow n (If_op test one two giving) = BindsBelow n one × BindsBelow n two
  OpBelow n (Match_op x d cases giving) = CasesBelow n cases
  OpBelow n (New_op con fields) = length fields ≤ 32
  OpBelow n _ = Unit {0}

  pub CasesBelow : ℕ → Cases → Type 0
  CasesBelow n No_cases = Unit {0}
  CasesBelow n (More_cases c rest) = CaseBelow n c × CasesBelow n rest

  pub CaseBelow : ℕ → Case → Type 0
  CaseBelow n (The_case con body) = BindsBelow n body

-- what is left of a body: how many instructions it has, which, and whether its names fit
abbrev pub size_rest : Rest → ℕ
size_rest rest = size_commands (commands_of rest.commands)

abbrev pub lay_rest : ℕ → Rest → List Instr
lay_rest address rest = lay_commands address (commands_of rest.commands)

abbrev pub RestBelow : ℕ → Rest → Type 0
RestBelow n rest = CommandsBelow n (commands_of rest.commands)

-- the address stands for what is left of a body, with what is left of each body round it, in a function of so many registers
pub data StandsAt (code : List Instr) (registers : ℕ) : ℕ → Rest → List Level → Type 0 where
  Before_return : (address : ℕ) (rest : Rest) (place : Place) → HasAt code address (lay_rest address rest) → RestBelow registers rest
      → slice_get code (address + size_rest rest) ≡ Some (instr place (Return rest.value)) → StandsAt code registers address rest []
  Before_join : (address end to : ℕ) (place : Place) (rest after : Rest) (outer : List Level) → HasAt code address (lay_rest address rest) → RestBelow registers rest → to < registers
      → slice_get code (address + size_rest rest) ≡ Some (instr place (Copy to rest.value))
      → slice_get code (address + size_rest rest + 1) ≡ Some (instr place (Jump end))
      → StandsAt code registers end after outer → StandsAt code registers address rest (record { to = to; after = after } ∷ outer)
