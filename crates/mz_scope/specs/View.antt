-- What the code holds while it goes over a source, seen without memory, and what its calls come to.
use Rattle.std.specs.Prelude.{◌≡◌, Bool, true, false, List, [], ◌∷◌, map, Option, Some, None, Result, IfOk}
use Rattle.mz_tree.specs.declared.alike.Memory.{Memory}
use Rattle.mz_tree.specs.View.{plain_commands, plain_clause}
use Rattle.mz_scope.specs.declared.making.Making.{Making}
use Rattle.mz_scope.specs.declared.making.CoreName.{CoreName as CodeName}
use Rattle.mz_scope.specs.Making.{CoreName, Made, Came_to, Part}

abbrev pub core_name_of : CodeName → CoreName
core_name_of n = record { spelling = n.spelling; place = n.place }

unfoldable pub made_of : Making → Made
made_of m = record { commands = plain_commands m.commands; names = map core_name_of m.names; clauses = map plain_clause m.clauses; faults = m.faults }

-- where a call ends well, the part comes to its value and to what it leaves
abbrev pub Comes : {V A : Type 0} → (V → A) → Part A → Making → Result V Memory → Making → Type 0
Comes view part old result new = IfOk result (λ x. part (made_of old) ≡ Came_to (view x) (made_of new))

-- a value that is seen as it is
abbrev pub as_is : {A : Type 0} → A → A
as_is a = a

-- the one of a list that has just one
abbrev pub only : {A : Type 0} → List A → Option A
only [] = None
only (a ∷ []) = Some a
only (a ∷ b ∷ rest) = None

-- whether a list has any
abbrev pub any_held : {A : Type 0} → List A → Bool
any_held [] = false
any_held (a ∷ rest) = true
