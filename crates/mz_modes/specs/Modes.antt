-- The modes of declarations, which callers carry, and what the answer of `modes` says.
use Rattle.std.specs.Prelude.{◌≡◌, ℕ, true, Some, None, slice_get, Result, Ok, Err}
use Rattle.mz_decl.specs.Places.{IsFirst}
use Rattle.mz_decl.specs.Declarations.{Decls}
use Rattle.mz_modes.specs.Affine.{Affine}
use Rattle.mz_modes.specs.Adopted.{IsNotExclusive}
use Rattle.mz_modes.specs.Marks.{AreMutable, AreMutableCons}
use Rattle.mz_modes.specs.declared.mode.Modes.{Modes as CodeModes}
use Rattle.mz_modes.specs.declared.mode.ModeFault.{ModeFault}
use Rattle.mz_modes.specs.declared.mode.ModeFault.TheVariants.{NotExclusive, Memory}

-- these are the modes of the declarations: just the affine data types are marked as affine, and just the mutable data
-- types and constructors as mutable
pub record AreModes (D : Decls) (m : CodeModes) : Type 0 where
  pub affine_yes : (d : ℕ) → slice_get m.affine d ≡ Some true → Affine D d
  pub affine_all : (d : ℕ) → Affine D d → slice_get m.affine d ≡ Some true
  pub mutable : AreMutable D m.mutable
  pub mutable_cons : AreMutableCons D m.mutable_cons

-- the modes, where each `adopts` names an exclusive data type; else the first place of one that doesn't
abbrev pub HasModes : Decls → Result CodeModes ModeFault → Type 0
HasModes D (Ok it) = AreModes D it × IsFirst (IsNotExclusive D) None
HasModes D (Err (NotExclusive place)) = IsFirst (IsNotExclusive D) (Some place)
HasModes D (Err Memory) = Unit {0}
