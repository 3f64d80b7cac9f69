-- What holds of every program and configuration.
use Rattle.std.specs.Prelude.{◌≡◌, ◌↔◌, ◌++◌, ℕ, List, Some, None, slice_get}
use Rattle.mz_tree.specs.Code.{Op}
use Rattle.mz_tree.specs.Programs.{Program}
use Rattle.mz_named.specs.Configurations.{Environment, Cells, Config}
use Rattle.mz_named.specs.Bodies.{Keeps}
use Rattle.mz_named.specs.Steps.{NStep}
use Rattle.mz_named.specs.Safety.{Touches, WritesTo}
use Rattle.mz_named.specs.Answering.{Answers}
use Rattle.mz_named.specs.Accessing.{reads_of, writes_of}
use Rattle.mz_named.specs.declared.turn.NamedTurn.{NamedTurn}

-- a thread's step has one answer: so each answer comes exactly where what it says holds
abbrev pub AtMostOneAnswer : Type 0
AtMostOneAnswer = (p : Program) (w w1 w2 : Config) (k : ℕ) (one two : NamedTurn) → Answers p w k one w1 → Answers p w k two w2 → one ≡ two

-- a name is among these
abbrev pub IsAmong : List ℕ → ℕ → Type 0
IsAmong names b = (i : ℕ) × (slice_get names i ≡ Some b)

-- the names that are accessed are those that races count
abbrev pub AccessesAreCounted : Type 0
AccessesAreCounted = (e : Environment) (op : Op) (b : ℕ) → (IsAmong (writes_of e op) b ↔ WritesTo e op b) × (IsAmong (reads_of e op ++ writes_of e op) b ↔ Touches e op b)

-- the same names are new in both
abbrev pub SameNew : Cells → Cells → Cells → Type 0
SameNew at at1 at2 = (n : ℕ) → at n ≡ None → (at1 n ≡ None) ↔ (at2 n ≡ None)

-- the same blocks and locks, threads and prints
pub record AreSame (w1 w2 : Config) : Type 0 where
  pub heap : Keeps w1.heap.at w2.heap.at
  pub threads : w1.threads ≡ w2.threads
  pub prints : w1.prints ≡ w2.prints

-- a step of a thread leads to one configuration, but for the name that a new block or lock takes
abbrev pub LeadsToOne : Type 0
LeadsToOne = (p : Program) (w w1 w2 : Config) (k : ℕ) → NStep p w k w1 → NStep p w k w2 → SameNew w.heap.at w1.heap.at w2.heap.at → AreSame w1 w2
