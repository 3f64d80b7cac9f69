-- The code of a program: its functions one behind the other, from instruction 0 on.
--
-- A target is the number of an instruction in the whole code. The size of a body is known before the body is laid, so targets
-- are written as they are and nothing is patched later. The branches of a command stand directly behind its first
-- instruction, in their order. Each ends alike, the last one too: its value is copied to the name of the command, and a jump
-- leads behind the command. Registers are core names, from 0; a function's number stands for the function.
use Rattle.std.specs.Prelude.{ℕ, ◌+◌, List, [], ◌∷◌, ◌++◌, length, Option, Some, None, slice_get, codes, if◌then◌else◌}
use Rattle.std.specs.Str.{bytes_eq}
use Rattle.mz_tree.specs.declared.types.Place.{Place}
use Rattle.mz_tree.specs.Code.{Op, Int_op, Unit_op, Fun_op, Copy_op, Arith_op, New_op, Read_op, Write_op, Retag_op, If_op, Match_op, Call_op, Give_op, Take_op, New_lock_op, Acquire_op, Release_op, Spawn_op, Print_op, Command, The_command, Commands, No_commands, More_commands, Case, Cases, No_cases, More_cases, The_case, Body, The_body, result_of, brace_of}
use Rattle.mz_tree.specs.Programs.{Program, Fun, Sig}
use Rattle.mz_words.specs.declared.code.Act.{Act}
use Rattle.mz_words.specs.declared.code.Act.TheVariants.{Const, Copy, Arith, New, Read, Write, Retag, Switch, Branch, Jump, Call, Return, Give, Take, NewLock, Acquire, Release, Spawn, Print}
use Rattle.mz_words.specs.declared.code.Instr.{Instr}
use Rattle.mz_words.specs.declared.code.Start.{Start}
use Rattle.mz_words.specs.declared.code.Code.{Code}

-- ---- how many instructions there are

-- a plain command is one instruction
abbrev mutual
  pub size_body : Body → ℕ
  size_body (The_body commands value brace) = size_commands commands

  pub size_commands : Commands → ℕ
  size_commands No_commands = 0
  size_commands (More_commands c rest) = size_command c + size_commands rest

  pub size_command : Command → ℕ
  size_command (The_command to op place) = size_op op

  pub size_op : Op → ℕ
  size_op (If_op test one two giving) = 1 + (size_body one + 2) + (size_body two + 2)
  size_op (Match_op block d cases giving) = 1 + size_cases cases
  size_op _ = 1

  -- a branch ends with two instructions
  pub size_cases : Cases → ℕ
  size_cases No_cases = 0
  size_cases (More_cases c rest) = size_case c + size_cases rest

  pub size_case : Case → ℕ
  size_case (The_case con body) = size_body body + 2

-- ---- the instructions, laid from an address on

abbrev pub instr : Place → Act → Instr
instr place act = record { place = place; act = act }

-- the constructors of a match, in order, and where their branches begin
abbrev pub cons_in : Cases → List ℕ
cons_in No_cases = []
cons_in (More_cases (The_case con body) rest) = con ∷ cons_in rest

abbrev pub targets_in : ℕ → Cases → List ℕ
targets_in address No_cases = []
targets_in address (More_cases c rest) = address ∷ targets_in (address + size_case c) rest

-- the two instructions that end a branch: the name of the command gets the branch's value, and the next is behind the command
abbrev pub branch_end : Place → ℕ → ℕ → ℕ → List Instr
branch_end place to value end = instr place (Copy to value) ∷ instr place (Jump end) ∷ []

-- all instructions of a command have its place in the source
abbrev mutual
  pub lay_body : ℕ → Body → List Instr
  lay_body address (The_body commands value brace) = lay_commands address commands

  pub lay_commands : ℕ → Commands → List Instr
  lay_commands address No_commands = []
  lay_commands address (More_commands c rest) = lay_command address c ++ lay_commands (address + size_command c) rest

  pub lay_command : ℕ → Command → List Instr
  lay_command address (The_command to op place) = lay_op address to place op

  pub lay_op : ℕ → ℕ → Place → Op → List Instr
  lay_op address to place (Int_op n) = instr place (Const to n) ∷ []
  lay_op address to place Unit_op = instr place (Const to 0) ∷ []
  lay_op address to place (Fun_op f) = instr place (Const to f) ∷ []
  lay_op address to place (Copy_op x) = instr place (Copy to x) ∷ []
  lay_op address to place (Arith_op operator x y) = instr place (Arith to operator x y) ∷ []
  lay_op address to place (New_op con fields) = instr place (New to con fields) ∷ []
  lay_op address to place (Read_op x con i) = instr place (Read to x con i) ∷ []
  lay_op address to place (Write_op x con i y) = instr place (Write to x con i y) ∷ []
  lay_op address to place (Retag_op x old new) = instr place (Retag to x old new) ∷ []
  lay_op address to place (If_op test one two giving) =
      instr place (Branch test (address + 1 + (size_body one + 2)))
      ∷ ((lay_body (address + 1) one ++ branch_end place to (result_of one) (address + size_op (If_op test one two giving)))
      ++ (lay_body (address + 1 + (size_body one + 2)) two ++ branch_end place to (result_of two) (address + size_op (If_op test one two giving))))
  lay_op address to place (Match_op x d cases giving) =
      instr place (Switch x (cons_in cases) (targets_in (address + 1) cases)) ∷ lay_cases (address + 1) to place (address + (1 + size_cases cases)) cases
  lay_op address to place (Call_op callee args) = instr place (Call to callee args) ∷ []
  lay_op address to place (Give_op x y) = instr place (Give to x y) ∷ []
  lay_op address to place (Take_op x y) = instr place (Take to x y) ∷ []
  lay_op address to place (New_lock_op guarded) = instr place (NewLock to) ∷ []
  lay_op address to place (Acquire_op x) = instr place (Acquire to x) ∷ []
  lay_op address to place (Release_op x) = instr place (Release to x) ∷ []
  lay_op address to place (Spawn_op callee arg) = instr place (Spawn to callee arg) ∷ []
  lay_op address to place (Print_op x) = instr place (Print to x) ∷ []

  pub lay_cases : ℕ → ℕ → Place → ℕ → Cases → List Instr
  lay_cases address to place end No_cases = []
  lay_cases address to place end (More_cases c rest) = lay_case address to place end c ++ lay_cases (address + size_case c) to place end rest

  pub lay_case : ℕ → ℕ → Place → ℕ → Case → List Instr
  lay_case address to place end (The_case con body) = lay_body address body ++ branch_end place to (result_of body) end

-- a branch of a command whose end is there
abbrev pub lay_branch : ℕ → ℕ → Place → ℕ → Body → List Instr
lay_branch address to place end body = lay_body address body ++ branch_end place to (result_of body) end

-- a match: a switch by the tag, and a branch for each case
abbrev pub lay_match : ℕ → ℕ → Place → ℕ → Cases → List Instr
lay_match address to place x cases = instr place (Switch x (cons_in cases) (targets_in (address + 1) cases)) ∷ lay_cases (address + 1) to place (address + (1 + size_cases cases)) cases

-- ---- functions and programs

-- a function: its body, and the return of its value, which has the place of the closing brace
abbrev pub size_fun : Fun → ℕ
size_fun f = size_body f.body + 1

abbrev pub lay_fun : ℕ → Fun → List Instr
lay_fun address f = lay_body address f.body ++ instr (brace_of f.body) (Return (result_of f.body)) ∷ []

abbrev pub lay_funs : ℕ → List Fun → List Instr
lay_funs address [] = []
lay_funs address (f ∷ rest) = lay_fun address f ++ lay_funs (address + size_fun f) rest

-- how many parameters a signature has
abbrev pub params_in : Option Sig → ℕ
params_in None = 0
params_in (Some s) = s.count

-- where a function begins; it has a register for each of its core names
abbrev pub start_of : List Sig → ℕ → Fun → Start
start_of sigs address f = record { first = address; params = params_in (slice_get sigs f.sig); registers = length f.spelling }

abbrev pub starts_of : List Sig → ℕ → List Fun → List Start
starts_of sigs address [] = []
starts_of sigs address (f ∷ rest) = start_of sigs address f ∷ starts_of sigs (address + size_fun f) rest

-- the number of the first function of this name
abbrev pub number_of : List ℕ → List Fun → ℕ
number_of name [] = 0
number_of name (f ∷ rest) = if bytes_eq f.name name then 0 else 1 + number_of name rest

-- the code of a program: its functions in their order, and the number of `main`
abbrev pub code_of : Program → Code
code_of p = record { instrs = lay_funs 0 p.funs; entries = starts_of p.sigs 0 p.funs; main = number_of (codes "main") p.funs }
