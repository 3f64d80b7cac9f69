-- Whether the names of a join are known outside of the branches, as the code tells it.
use Rattle.std.specs.Prelude.{ℕ, Bool, true, ◌||◌, ◌&&◌, ◌==◌, nat_le, List}
use Rattle.std.specs.List.{list_any, list_all}
use Rattle.mz_tree.specs.Plain.{Ty, Atom, Atoms, Block_type, Lock_type, Has_atom, Same_atom, No_atoms, More_atoms}
use Rattle.mz_perm.specs.Occurrence.{occurs}

-- the command's own name, one that is bound, or one that was made and occurs in the state
abbrev pub is_outer : List ℕ → List (Atom ℕ) → ℕ → ℕ → Bool
is_outer bound R to n = (n == to) || list_any (λ m. m == n) bound || (nat_le 256 n && occurs n R)

abbrev mutual
  -- a test holds of each name in a type, in a permission, and in those that a lock guards
  pub all_in_type : (ℕ → Bool) → Ty ℕ → Bool
  all_in_type test (Block_type con fields adopts) = list_all test fields
  all_in_type test (Lock_type guarded) = all_in_guarded test guarded
  all_in_type test _ = true

  pub all_in_atom : (ℕ → Bool) → Atom ℕ → Bool
  all_in_atom test (Has_atom subject ty) = test subject && all_in_type test ty
  all_in_atom test (Same_atom left right) = test left && test right

  pub all_in_guarded : (ℕ → Bool) → Atoms ℕ → Bool
  all_in_guarded test No_atoms = true
  all_in_guarded test (More_atoms a p) = all_in_atom test a && all_in_guarded test p

-- and in each of several permissions
abbrev pub all_in : (ℕ → Bool) → List (Atom ℕ) → Bool
all_in test atoms = list_all (all_in_atom test) atoms
