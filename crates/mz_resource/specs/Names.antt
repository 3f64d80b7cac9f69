-- What is asked of the names that commands use and bind: a command binds a core name that is no parameter of its function, and
-- uses core names other than the one that it binds. And a match has a case for each constructor.
--
-- Why: a command that binds a parameter would change what a call gives back, since that speaks of the parameters; and one
-- that names what it binds (`c = (y.v <- c)`) would speak of the value that the name has only afterwards.
use Rattle.std.specs.Prelude.{◌≡◌, ◌≢◌, ℕ, ◌<◌, ◌≤◌, List, [], ◌∷◌, Some, slice_get}
use Rattle.mz_tree.specs.Code.{Op, Command, Commands, Case, Cases, Body, Copy_op, Arith_op, New_op, Read_op, Write_op, Retag_op, If_op, Match_op, Call_op, Give_op, Take_op, Acquire_op, Release_op, Spawn_op, Print_op, The_command, No_commands, More_commands, The_case, No_cases, More_cases, The_body, case_list}
use Rattle.mz_tree.specs.Programs.{Con}
use Rattle.mz_decl.specs.Declarations.{Decls}
use Rattle.mz_named.specs.Bodies.{body_for}
use Rattle.mz_named.specs.Configurations.{Level, Frame}

-- a core name, and not the command's own
abbrev pub IsArg : ℕ → ℕ → Type 0
IsArg to x = (x < 256) × (x ≢ to)

abbrev pub AreArgs : ℕ → List ℕ → Type 0
AreArgs to [] = Unit {0}
AreArgs to (x ∷ xs) = IsArg to x × AreArgs to xs

-- each constructor of the data type has a case
abbrev pub Covers : Decls → ℕ → List Case → Type 0
Covers D d cases = (k : ℕ) (c : Con) → slice_get D.cons k ≡ Some c → c.variety ≡ d → (body : Body) × (body_for k cases ≡ Some body)

-- a body, its commands and what is inside them; `low` is the number of parameters
abbrev mutual
  pub CoreBody : Decls → ℕ → Body → Type 0
  CoreBody D low (The_body commands value place) = CoreChain D low commands × (value < 256)

  pub CoreChain : Decls → ℕ → Commands → Type 0
  CoreChain D low No_commands = Unit {0}
  CoreChain D low (More_commands c rest) = CoreCommand D low c × CoreChain D low rest

  pub CoreCommand : Decls → ℕ → Command → Type 0
  CoreCommand D low (The_command to op place) = (low ≤ to) × (to < 256) × CoreOp D low to op

  pub CoreOp : Decls → ℕ → ℕ → Op → Type 0
  CoreOp D low to (Copy_op x) = IsArg to x
  CoreOp D low to (Arith_op operator x y) = IsArg to x × IsArg to y
  CoreOp D low to (New_op con ys) = AreArgs to ys
  CoreOp D low to (Read_op y con field) = IsArg to y
  CoreOp D low to (Write_op y con field z) = IsArg to y × IsArg to z
  CoreOp D low to (Retag_op y old new) = IsArg to y
  CoreOp D low to (If_op y one two giving) = IsArg to y × CoreBody D low one × CoreBody D low two
  CoreOp D low to (Match_op y d cases giving) = IsArg to y × Covers D d (case_list cases) × CoreCases D low cases
  CoreOp D low to (Call_op g ys) = IsArg to g × AreArgs to ys
  CoreOp D low to (Give_op x y) = IsArg to x × IsArg to y
  CoreOp D low to (Take_op x y) = IsArg to x × IsArg to y
  CoreOp D low to (Acquire_op l) = IsArg to l
  CoreOp D low to (Release_op l) = IsArg to l
  CoreOp D low to (Spawn_op g y) = IsArg to g × IsArg to y
  CoreOp D low to (Print_op x) = IsArg to x
  CoreOp D low to _ = Unit {0}

  pub CoreCases : Decls → ℕ → Cases → Type 0
  CoreCases D low No_cases = Unit {0}
  CoreCases D low (More_cases (The_case con body) rest) = CoreBody D low body × CoreCases D low rest

abbrev pub CoreCommands : Decls → ℕ → List Command → Type 0
CoreCommands D low [] = Unit {0}
CoreCommands D low (c ∷ rest) = CoreCommand D low c × CoreCommands D low rest

-- what is left of each body round a branch, and of a frame
abbrev pub CoreLevels : Decls → ℕ → List Level → Type 0
CoreLevels D low [] = Unit {0}
CoreLevels D low (l ∷ outer) = (low ≤ l.to) × (l.to < 256) × CoreCommands D low l.after.commands × (l.after.value < 256) × CoreLevels D low outer

abbrev pub CoreFrame : Decls → ℕ → Frame → Type 0
CoreFrame D low f = CoreCommands D low f.rest.commands × (f.rest.value < 256) × CoreLevels D low f.outer
