-- What declarations show, and what the answers of `declarations` and `well_formed` say.
use Rattle.std.specs.Prelude.{◌≡◌, ℕ, List, map, Option, Some, None, slice_get, Result, Ok, Err}
use Rattle.mz_tree.specs.Programs.{Program}
use Rattle.mz_tree.specs.View.{plain_variety, plain_con, plain_sig, plain_clause}
use Rattle.mz_decl.specs.Places.{IsFirst}
use Rattle.mz_decl.specs.Declarations.{Decls, decls_of, IsNumbered, IsImmutableAdopter}
use Rattle.mz_decl.specs.declared.decls.Decls.{Decls as CodeDecls}
use Rattle.mz_decl.specs.declared.form.DeclFault.{DeclFault}
use Rattle.mz_decl.specs.declared.form.DeclFault.TheVariants.{ImmutableAdopter, Memory}

-- the declarations without memory
abbrev pub plain_decls : CodeDecls → Decls
plain_decls d = record {
  varieties = map plain_variety d.varieties;
  cons = map plain_con d.cons;
  sigs = map plain_sig d.sigs;
  fun_sigs = d.fun_sigs;
  written = map plain_clause d.written;
}

-- what was found under a number: what the list has at that place, seen without memory, or nothing, as it has none there
abbrev pub Found : {A B : Type 0} → (A → B) → List B → ℕ → Option A → Type 0
Found view all number None = slice_get all number ≡ None
Found view all number (Some it) = slice_get all number ≡ Some (view it)

-- the program's declarations; none where its numbers can't be declarations
abbrev pub Declares : Program → Option CodeDecls → Type 0
Declares p (Some it) = plain_decls it ≡ decls_of p
Declares p None = IsNumbered p → ⊥

-- the program's declarations, where no `adopts` stands on what is immutable; else the first place of one
abbrev pub Forms : Program → Result CodeDecls DeclFault → Type 0
Forms p (Ok it) = (plain_decls it ≡ decls_of p) × IsFirst (IsImmutableAdopter p) None
Forms p (Err (ImmutableAdopter place)) = IsFirst (IsImmutableAdopter p) (Some place)
Forms p (Err Memory) = Unit {0}
