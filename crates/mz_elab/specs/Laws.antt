-- What holds of every program: which answer of the proposer is right doesn't depend on how it looks.
use Rattle.std.specs.Prelude.{◌≡◌, ℕ, List}
use Rattle.mz_tree.specs.Plain.{Atom}
use Rattle.mz_tree.specs.Code.{Command}
use Rattle.mz_tree.specs.Programs.{Program}
use Rattle.mz_tree.specs.declared.types.Place.{Place}
use Rattle.mz_decl.specs.Declarations.{Decls}
use Rattle.mz_elab.specs.Guided.{Guided, GuidedProgram}
use Rattle.mz_elab.specs.Lacking.{LacksProgram}

-- the guided rules lead from a list through commands to one list and one next fresh name
abbrev pub LeadsToOneList : Type 0
LeadsToOneList = (D : Decls) (names : List ℕ) (R : List (Atom ℕ)) (n : ℕ) (commands : List Command) (T U : List (Atom ℕ)) (m k : ℕ) → Guided D names R n commands T m → Guided D names R n commands U k → (T ≡ U) × (m ≡ k)

-- what is guided lacks nothing
abbrev pub NothingGuidedLacks : Type 0
NothingGuidedLacks = (p : Program) (place : Place) (a : Atom ℕ) → GuidedProgram p → LacksProgram p place a → ⊥

-- a program lacks one permission at one place, or none
abbrev pub AtMostOneIsWanting : Type 0
AtMostOneIsWanting = (p : Program) (place other : Place) (a b : Atom ℕ) → LacksProgram p place a → LacksProgram p other b → (place ≡ other) × (a ≡ b)
