-- What opening a block and folding it again say.
use Rattle.std.specs.Prelude.{◌≡◌, ◌⊎◌, ℕ, List, [], ◌∷◌, ◌++◌, length, Option, Some, None, slice_get}
use Rattle.mz_tree.specs.Plain.{Ty, Atom, Named_type, Block_type, Has_atom}
use Rattle.mz_tree.specs.Programs.{Con}
use Rattle.mz_tree.specs.View.{plain_ty, plain_atoms}
use Rattle.mz_decl.specs.Declarations.{Decls, clause_of}
use Rattle.mz_decl.specs.Contents.{contents}
use Rattle.mz_modes.specs.Affine.{AffineAtom}
use Rattle.mz_view.specs.Steps.{Step, plain_steps}
use Rattle.mz_view.specs.declared.step.ViewStep.{ViewStep}
use Rattle.mz_index.specs.Finding.{IsFirst, NoneFits}
use Rattle.mz_goal.specs.Goals.{Entry, atoms, MayFold, Opened, Closed}
use Rattle.mz_goal.specs.Added.{Added}
use Rattle.mz_goal.specs.Reaching.{drop_steps}
use Rattle.mz_goal.specs.declared.folding.Whole.{Whole}

-- a block of x with the goals of its fields, which may be folded to d
pub record IsWhole (D : Decls) (d : ℕ) (block : Ty ℕ) (goals : List (Atom ℕ)) : Type 0 where
  pub con : ℕ
  pub names : List ℕ
  pub adopts : Option ℕ
  pub made : Con
  pub is : block ≡ Block_type con names adopts
  pub is_con : slice_get D.cons con ≡ Some made
  pub data_type : made.variety ≡ d
  pub long : length names ≡ length made.fields
  pub clause : (adopts ≡ None) ⊎ (adopts ≡ clause_of D d)
  pub fields : goals ≡ contents names made.fields

-- the first block was opened, and steps were added that give it the goal's name
pub record OpensWhole (D : Decls) (R : List Entry) (x d : ℕ) (block : Ty ℕ) (goals : List (Atom ℕ)) (O : List Entry) (p q : List ViewStep) : Type 0 where
  pub place : ℕ
  pub entry : Entry
  pub first : IsFirst (MayFold D R x d) R place entry
  pub opened : Opened D R place entry.atom first.fits.name first.fits.con O
  pub fields : goals ≡ contents first.fits.names first.fits.made.fields
  pub is : block ≡ Block_type first.fits.con first.fits.names first.fits.adopts
  pub steps : Added D (atoms R) (plain_steps p) (plain_steps q) (atoms O ++ Has_atom x block ∷ [])

-- or there is none
abbrev pub Opens : Option Whole → Decls → List Entry → ℕ → ℕ → List Entry → List ViewStep → List ViewStep → Type 0
Opens None D R x d O p q = NoneFits (MayFold D R x d) R
Opens (Some w) D R x d O p q = OpensWhole D R x d (plain_ty w.block) (plain_atoms w.goals) O p q

-- the block was folded with its fields' contents
pub record Ends (D : Decls) (S : List Entry) (x d : ℕ) (block : Ty ℕ) (goals : List (Atom ℕ)) (T : List Entry) (p q : List ViewStep) : Type 0 where
  pub closed : Closed D S x d T
  pub steps : Added D ((atoms S ++ goals) ++ Has_atom x block ∷ []) (plain_steps p) (plain_steps q) (atoms T ++ Has_atom x (Named_type d) ∷ [])

-- of these the duplicable ones, in order
pub data Duplicable (D : Decls) : List (Atom ℕ) → List (Atom ℕ) → Type 0 where
  None_stays : Duplicable D [] []
  One_goes : (a : Atom ℕ) (p kept : List (Atom ℕ)) → AffineAtom D a → Duplicable D p kept → Duplicable D (a ∷ p) kept
  One_stays : (a : Atom ℕ) (p kept : List (Atom ℕ)) → (AffineAtom D a → ⊥) → Duplicable D p kept → Duplicable D (a ∷ p) (a ∷ kept)

-- they are dropped
pub record DropsEach (D : Decls) (p : List (Atom ℕ)) (before after : List Step) : Type 0 where
  pub kept : List (Atom ℕ)
  pub duplicable : Duplicable D p kept
  pub is : after ≡ before ++ drop_steps kept
