-- What holds of each goal of a command, a join or an end: it leads from a state to one state at most, and where it is met
-- view steps lead there.
use Rattle.std.specs.Prelude.{◌≡◌, ℕ, List, [], ◌∷◌, ◌++◌}
use Rattle.mz_tree.specs.Plain.{Atom}
use Rattle.mz_decl.specs.Declarations.{Decls}
use Rattle.mz_modes.specs.Modes.{AreModes}
use Rattle.mz_modes.specs.declared.mode.Modes.{Modes}
use Rattle.mz_view.specs.Steps.{Step}
use Rattle.mz_goal.specs.Leads.{Leads}
use Rattle.mz_goal.specs.Needs.{Need}

-- a goal leads from a state to one state, in its order
abbrev pub LeadsToOne : Type 0
LeadsToOne = (D : Decls) (R : List (Atom ℕ)) (g : Atom ℕ) (T U : List (Atom ℕ)) → Need D R g T → Need D R g U → T ≡ U

-- view steps from the one state to the other with the goal added
pub record Viewed (D : Decls) (R : List (Atom ℕ)) (g : Atom ℕ) (T : List (Atom ℕ)) : Type 0 where
  pub steps : List Step
  pub leads : Leads D R steps (T ++ g ∷ [])

-- a goal that is met may be viewed so, whatever the declarations that have modes
abbrev pub ViewsLead : Type 0
ViewsLead = (D : Decls) (m : Modes) → AreModes D m → (R : List (Atom ℕ)) (g : Atom ℕ) (T : List (Atom ℕ)) → Need D R g T → Viewed D R g T
