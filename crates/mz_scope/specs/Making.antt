-- How parts of a source are put together from left to right: what is made so far is handed from each part to the next.
use Rattle.std.specs.Prelude.{ℕ, Bool, true, false, List, [], ◌∷◌, ◌++◌, length, Option, Some, None}
use Rattle.mz_tree.specs.declared.types.Place.{Place}
use Rattle.mz_tree.specs.Code.{Op, Command, The_command}
use Rattle.mz_tree.specs.Programs.{Clause}
use Rattle.mz_scope.specs.declared.fault.Cause.{Cause}
use Rattle.mz_scope.specs.declared.fault.Cause.TheVariants.{Unknown}
use Rattle.mz_scope.specs.declared.fault.Fault.{Fault}

-- a core name: how the source spells it, empty where it has no spelling, and the place of its parameter or command
pub record CoreName : Type 0 where
  pub spelling : List ℕ
  pub place : Place

-- what is made: the commands of a body, the core names of its function, a name's number being its place in this list, the
-- `adopts` of structural types, and what is wrong
pub record Made : Type 0 where
  pub commands : List Command
  pub names : List CoreName
  pub clauses : List Clause
  pub faults : List Fault

abbrev pub nothing_made : Made
nothing_made = record { commands = []; names = []; clauses = []; faults = [] }

-- a part came to this value, and with it this is made
pub data Came (A : Type 0) : Type 0 where
  Came_to : A → Made → Came A

-- a part with such a value
abbrev pub Part : Type 0 → Type 0
Part A = Made → Came A

abbrev pub goes_on : {A B : Type 0} → (A → Part B) → Came A → Came B
goes_on next (Came_to a made) = next a made

-- ---- parts are put together

-- one part, and then the next with its value
infixl 10 ◌>>=◌
abbrev pub ◌>>=◌ : {A B : Type 0} → Part A → (A → Part B) → Part B
part >>= next = λ made. goes_on next (part made)

-- one part, and then the next
infixl 10 ◌>>◌
abbrev pub ◌>>◌ : {A B : Type 0} → Part A → Part B → Part B
part >> next = λ made. goes_on (λ _. next) (part made)

-- a value alone
abbrev pub give : {A : Type 0} → A → Part A
give a = λ made. Came_to a made

-- ---- what parts make

-- a command, which binds the next core name; its value is that name
abbrev pub add_command : Place → Op → Part ℕ
add_command place op = λ made. Came_to (length made.names) (record made {
  commands = made.commands ++ The_command (length made.names) op place ∷ [];
  names = made.names ++ record { spelling = []; place = place } ∷ [];
})

-- the number of the next core name
abbrev pub next_name : Part ℕ
next_name = λ made. Came_to (length made.names) made

-- an `adopts` of a structural type
abbrev pub add_clause : Clause → Part (Unit {0})
add_clause c = λ made. Came_to tt (record made { clauses = made.clauses ++ c ∷ [] })

-- a fault
abbrev pub add_fault : Cause → Place → Part (Unit {0})
add_fault cause place = λ made. Came_to tt (record made { faults = made.faults ++ record { cause = cause; place = place } ∷ [] })

-- a fault where this holds
abbrev pub fault_if : Bool → Cause → Place → Part (Unit {0})
fault_if true cause place = add_fault cause place
fault_if false cause place = give tt

-- what a name stands for; where it is not declared that is a fault, and something else stands for it
abbrev pub declared_or : {A : Type 0} → A → Option A → Place → Part A
declared_or other None place = add_fault Unknown place >> give other
declared_or other (Some a) place = give a
