-- What a lock guards, as the code reads it from a permission.
use Rattle.std.specs.Prelude.{ℕ, List, Option, Some, None}
use Rattle.mz_tree.specs.Plain.{Ty, Atom}
use Rattle.mz_lockrule.specs.Locking.{TypeGuards, IsLock}

-- what a lock of the type guards; none where it is no lock's
abbrev pub TypeGuardsOf : Ty ℕ → Option (List (Atom ℕ)) → Type 0
TypeGuardsOf t None = (guarded : List (Atom ℕ)) → TypeGuards t guarded → ⊥
TypeGuardsOf t (Some guarded) = TypeGuards t guarded

-- what the lock l guards by the permission; none where it says of no such lock
abbrev pub GuardsOf : ℕ → Atom ℕ → Option (List (Atom ℕ)) → Type 0
GuardsOf l a None = (guarded : List (Atom ℕ)) → IsLock l a guarded → ⊥
GuardsOf l a (Some guarded) = IsLock l a guarded
