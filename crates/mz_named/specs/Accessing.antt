-- Which blocks a thread's next command reads and writes.
use Rattle.std.specs.Prelude.{◌≡◌, ℕ, List, [], ◌∷◌, ◌++◌}
use Rattle.mz_tree.specs.Code.{Op, Command, Read_op, Write_op, Retag_op, Match_op, Give_op, Take_op, op_of}
use Rattle.mz_named.specs.Configurations.{Value, Int_value, Block_value, Fun_value, Environment, Frame, Suspended, Config}
use Rattle.mz_named.specs.Steps.{IsAt}

-- the name that a value is, if it is one
abbrev pub name_of : Value → List ℕ
name_of (Int_value n) = []
name_of (Block_value b) = b ∷ []
name_of (Fun_value f) = []

-- the blocks that an operation reads, and those that it writes; a look at an adopter isn't counted
abbrev pub reads_of : Environment → Op → List ℕ
reads_of e (Read_op y con field) = name_of (e y)
reads_of e (Match_op y d cases giving) = name_of (e y)
reads_of e _ = []

abbrev pub writes_of : Environment → Op → List ℕ
writes_of e (Write_op y con field z) = name_of (e y)
writes_of e (Retag_op y old new) = name_of (e y)
writes_of e (Give_op x y) = name_of (e x) ++ name_of (e y)
writes_of e (Take_op x y) = name_of (e y)
writes_of e _ = []

-- the names that the next command of thread k reads and writes; none where it has no next command
pub data Accesses (w : Config) (k : ℕ) (reads writes : List ℕ) : Type 0 where
  At_command : (f : Frame) (below : List Suspended) (c : Command) (rest : List Command) → IsAt w k f below c rest → reads ≡ reads_of f.env (op_of c) → writes ≡ writes_of f.env (op_of c) → Accesses w k reads writes
  No_command : ((f : Frame) (below : List Suspended) (c : Command) (rest : List Command) → IsAt w k f below c rest → ⊥) → reads ≡ [] → writes ≡ [] → Accesses w k reads writes
