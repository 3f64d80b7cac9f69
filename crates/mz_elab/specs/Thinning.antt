-- What the code leaves out of view steps, and what it writes.
use Rattle.std.specs.Prelude.{◌≡◌, ◌⊎◌, ◌++◌, ◌∷◌, [], ℕ, List, map, reverse}
use Rattle.mz_decl.specs.Declarations.{Decls}
use Rattle.mz_view.specs.Steps.{Step, Drop_step, Copy_step, plain_step}
use Rattle.mz_view.specs.declared.step.ViewStep.{ViewStep}
use Rattle.mz_deriv.specs.Scripts.{Item}
use Rattle.mz_deriv.specs.View.{plain_item}
use Rattle.mz_deriv.specs.declared.script.Item.{Item as CodeItem, Step as StepItem}
use Rattle.mz_elab.specs.Standing.{OfAtom}
use Rattle.mz_elab.specs.Scripting.{IsSpare, Thinned, sees}

-- the step says nothing new: it copies a permission, or drops a duplicable one of known names
abbrev pub IsSilent : Decls → (ℕ → Type 0) → Step → Type 0
IsSilent D K (Copy_step a) = Unit {0}
IsSilent D K (Drop_step a) = IsSpare D a × OfAtom K a
IsSilent D K _ = ⊥

-- a step is left, or it says nothing new
abbrev pub KeepsOne : Decls → (ℕ → Type 0) → ViewStep → List CodeItem → List CodeItem → Type 0
KeepsOne D K s before after = (after ≡ before ++ StepItem s ∷ []) ⊎ (IsSilent D K (plain_step s) × (after ≡ before))

-- the steps that are left, the last first
pub record KeepsThin (D : Decls) (K : ℕ → Type 0) (p : List Step) (kept : List CodeItem) : Type 0 where
  pub left : List Step
  pub thin : Thinned D K p left
  pub is : map plain_item (reverse kept) ≡ sees left

-- they were written
pub record WritesThin (D : Decls) (K : ℕ → Type 0) (p : List Step) (before after : List Item) : Type 0 where
  pub left : List Step
  pub thin : Thinned D K p left
  pub is : after ≡ before ++ sees left
