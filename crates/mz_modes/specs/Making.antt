-- A command is made by its rule.
use Rattle.std.specs.Prelude.{◌≡◌, ℕ, false, List, Option}
use Rattle.mz_tree.specs.Plain.{Atom}
use Rattle.mz_tree.specs.Code.{Op, Command, to_of, op_of}
use Rattle.mz_perm.specs.Occurrence.{occurs}

-- a command, with the permission that it is said to use, leads from R to T by a rule: its name is new, and the rule leads
-- there
pub record Makes (Rule : ℕ → Op → Option (Atom ℕ) → List (Atom ℕ) → Type 0) (R : List (Atom ℕ)) (command : Command) (uses : Option (Atom ℕ)) (T : List (Atom ℕ)) : Type 0 where
  pub new : occurs (to_of command) R ≡ false
  pub rule : Rule (to_of command) (op_of command) uses T
