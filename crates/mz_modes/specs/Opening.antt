-- Opening a data type as a block of one of its constructors.
use Rattle.std.specs.Prelude.{◌≡◌, ℕ, ◌+◌, ◌<◌, ◌≤◌, ◌^◌, false, List, ◌++◌, length, Some, slice_get}
use Rattle.mz_tree.specs.Plain.{Atom, Named_type, Has_atom}
use Rattle.mz_tree.specs.Programs.{Con}
use Rattle.mz_decl.specs.Declarations.{Decls, clause_of}
use Rattle.mz_decl.specs.Contents.{opened, names_from}
use Rattle.mz_perm.specs.Lists.{Which}
use Rattle.mz_perm.specs.Occurrence.{occurs}
use Rattle.mz_perm.specs.Using.{UsesUpBy}
use Rattle.mz_modes.specs.Affine.{AffineAtom}

-- a name that may be made: no core name, a number of 32 bits, and nowhere in the state
pub record IsFresh (R : List (Atom ℕ)) (name : ℕ) : Type 0 where
  pub not_core : 256 ≤ name
  pub fits : name < 2 ^ 32
  pub unused : occurs name R ≡ false

-- so many names from n on are
abbrev pub AreFresh : List (Atom ℕ) → ℕ → ℕ → Type 0
AreFresh R n count = (m : ℕ) → m < count → IsFresh R (n + m)

-- x @ d is opened as a block of a constructor, with the names from n on for its fields: these are fresh, x @ d is used
-- up, and the opened block, which adopts what d does, is added
pub record Opens (which : Which) (D : Decls) (R : List (Atom ℕ)) (x d con n : ℕ) (T : List (Atom ℕ)) : Type 0 where
  pub made : Con
  pub is_con : slice_get D.cons con ≡ Some made
  pub fresh : AreFresh R n (length made.fields)
  pub rest : List (Atom ℕ)
  pub used : UsesUpBy which (AffineAtom D) (Has_atom x (Named_type d)) R rest
  pub new : T ≡ rest ++ opened x con (names_from n (length made.fields)) (clause_of D d) made.fields
