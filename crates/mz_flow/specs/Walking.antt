-- Which bodies are walked, as the code looks for them.
use Rattle.std.specs.Prelude.{ℕ, List, [], Option, Some, None}
use Rattle.mz_tree.specs.Plain.{Atom, Block_type, Has_atom}
use Rattle.mz_tree.specs.Code.{Case}
use Rattle.mz_flow.specs.Branches.{cases_at}

-- the constructor that is known, where the permission that is used tells it
abbrev pub known_con : Option (Atom ℕ) → Option ℕ
known_con (Some (Has_atom x (Block_type con fields adopts))) = Some con
known_con _ = None

-- the cases of the constructor that is known; none where none is
abbrev pub cases_known : Option ℕ → List Case → List Case
cases_known None cases = []
cases_known (Some con) cases = cases_at con cases
