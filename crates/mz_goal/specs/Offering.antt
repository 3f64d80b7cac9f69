-- What the goals look for in the permissions, each the first of its sort.
use Rattle.std.specs.Prelude.{◌≡◌, ◌⊎◌, ℕ, List, Option, Some, None, length, slice_get}
use Rattle.mz_tree.specs.Plain.{Ty, Atom, Block_type, Has_atom, Same_atom}
use Rattle.mz_tree.specs.Programs.{Con}
use Rattle.mz_tree.specs.View.{plain_ty}
use Rattle.mz_decl.specs.Declarations.{Decls, clause_of}
use Rattle.mz_modes.specs.Affine.{ExclusiveTy}
use Rattle.mz_index.specs.Finding.{IsFirst, NoneFits}
use Rattle.mz_index.specs.Tests.{Test, Alike_test, Block_test, Any_test}
use Rattle.mz_goal.specs.Goals.{Entry, Offers, Serves, MayFold}
use Rattle.mz_goal.specs.declared.offers.Wanted.{Wanted as CodeWanted}
use Rattle.mz_goal.specs.declared.offers.Wanted.TheVariants.{Alike as AlikeCode, Exclusive as ExclusiveCode, FoldsTo as FoldsToCode}

pub data Wanted : Type 0 where
  -- at a type that is alike
  Alike_wanted : (ty : Ty ℕ) → Wanted
  -- at an exclusive type
  Exclusive_wanted : Wanted
  -- a block that may be folded to that data type
  Folding_wanted : (data_type : ℕ) → Wanted

abbrev pub plain_wanted : CodeWanted → Wanted
plain_wanted (AlikeCode ty) = Alike_wanted (plain_ty ty)
plain_wanted ExclusiveCode = Exclusive_wanted
plain_wanted (FoldsToCode number) = Folding_wanted number

-- what an index is asked for
abbrev pub test_for : Wanted → Test
test_for (Alike_wanted t) = Alike_test t
test_for Exclusive_wanted = Any_test
test_for (Folding_wanted d) = Block_test

-- the entry is of that sort, for a name of x's class
abbrev pub IsOffer : Decls → List Entry → ℕ → Wanted → Entry → Type 0
IsOffer D R x (Alike_wanted t) e = Serves R x t e
IsOffer D R x Exclusive_wanted e = Offers R x (ExclusiveTy D) e
IsOffer D R x (Folding_wanted d) e = MayFold D R x d e

pub record OfferAt (D : Decls) (R : List Entry) (x : ℕ) (w : Wanted) (n : ℕ) : Type 0 where
  pub entry : Entry
  pub first : IsFirst (IsOffer D R x w) R n entry

-- the place of the first, or none
abbrev pub FirstOffer : Decls → List Entry → ℕ → Wanted → Option ℕ → Type 0
FirstOffer D R x w None = NoneFits (IsOffer D R x w) R
FirstOffer D R x w (Some n) = OfferAt D R x w n

-- this holds of the permission's type
abbrev pub OfTy : (Ty ℕ → Type 0) → Atom ℕ → Type 0
OfTy P (Has_atom x t) = P t
OfTy P (Same_atom x y) = ⊥

-- a block of that constructor, with these names, that adopts that may be folded to d
pub record BlockFolds (D : Decls) (d con : ℕ) (names : List ℕ) (adopts : Option ℕ) : Type 0 where
  pub made : Con
  pub is_con : slice_get D.cons con ≡ Some made
  pub data_type : made.variety ≡ d
  pub long : length names ≡ length made.fields
  pub clause : (adopts ≡ None) ⊎ (adopts ≡ clause_of D d)

-- the type is of such a block
abbrev pub TyFolds : Decls → ℕ → Ty ℕ → Type 0
TyFolds D d (Block_type con names adopts) = BlockFolds D d con names adopts
TyFolds D d _ = ⊥
