-- Steps that change the permission at the end of a state.
use Rattle.std.specs.Prelude.{◌≡◌, ◌⊎◌, ℕ, List, [], ◌∷◌, ◌++◌}
use Rattle.mz_tree.specs.Plain.{Ty, Atom, Block_type, Lock_type, Has_atom}
use Rattle.mz_decl.specs.Declarations.{Decls}
use Rattle.mz_modes.specs.Affine.{AffineAtom}
use Rattle.mz_view.specs.Steps.{Step, Drop_step, Field_step, Lock_step}

-- a step that uses a permission takes an affine one out; of another a copy stays, which is dropped
abbrev pub DropsKept : Decls → Atom ℕ → List Step → List Step → Type 0
DropsKept D a p q = (AffineAtom D a × (q ≡ p)) ⊎ ((AffineAtom D a → ⊥) × (q ≡ p ++ Drop_step a ∷ []))

-- the step that puts z for the k-th name of the type
abbrev pub put_steps : ℕ → Ty ℕ → ℕ → ℕ → List Step
put_steps x (Block_type con ys clause) k z = Field_step (Has_atom x (Block_type con ys clause)) k z ∷ []
put_steps x (Lock_type p) k z = Lock_step (Has_atom x (Lock_type p)) k z ∷ []
put_steps x t k z = []
