-- Types that are alike: equal up to the classes of their names.
use Rattle.std.specs.Prelude.{◌≡◌, ℕ, List, [], ◌∷◌}
use Rattle.mz_tree.specs.Plain.{Ty, Atom, Atoms, Int_type, Unknown_type, Dynamic_type, Locked_type, Named_type, Function_type, Block_type, Lock_type, Has_atom, Same_atom, No_atoms, More_atoms}
use Rattle.mz_perm.specs.Joining.{Joined}

-- names are joined place by place, and there are as many
abbrev pub AllJoined : List (Atom ℕ) → List ℕ → List ℕ → Type 0
AllJoined R [] [] = Unit {0}
AllJoined R (y ∷ ys) (z ∷ zs) = Joined R y z × AllJoined R ys zs
AllJoined R _ _ = ⊥

abbrev mutual
  -- types
  pub AreAlike : List (Atom ℕ) → Ty ℕ → Ty ℕ → Type 0
  AreAlike R Int_type Int_type = Unit {0}
  AreAlike R Unknown_type Unknown_type = Unit {0}
  AreAlike R Dynamic_type Dynamic_type = Unit {0}
  AreAlike R Locked_type Locked_type = Unit {0}
  AreAlike R (Named_type d) (Named_type e) = d ≡ e
  AreAlike R (Function_type s) (Function_type u) = s ≡ u
  AreAlike R (Block_type con ys clause) (Block_type other zs another) = (con ≡ other) × AllJoined R ys zs × (clause ≡ another)
  AreAlike R (Lock_type p) (Lock_type q) = AreAlikeGuarded R p q
  AreAlike R _ _ = ⊥

  -- permissions that a lock guards: subjects, types and sides are joined or alike
  pub AreAlikeAtoms : List (Atom ℕ) → Atom ℕ → Atom ℕ → Type 0
  AreAlikeAtoms R (Has_atom x t) (Has_atom y u) = Joined R x y × AreAlike R t u
  AreAlikeAtoms R (Same_atom x y) (Same_atom z w) = Joined R x z × Joined R y w
  AreAlikeAtoms R _ _ = ⊥

  -- all that it guards
  pub AreAlikeGuarded : List (Atom ℕ) → Atoms ℕ → Atoms ℕ → Type 0
  AreAlikeGuarded R No_atoms No_atoms = Unit {0}
  AreAlikeGuarded R (More_atoms a p) (More_atoms b q) = AreAlikeAtoms R a b × AreAlikeGuarded R p q
  AreAlikeGuarded R _ _ = ⊥
