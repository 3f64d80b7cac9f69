-- Permissions but for their names: what fits the declarations fits whatever its names are, and the names are seen apart.
use Rattle.std.proofs.Common.{◌≡◌, ◌≢◌, inl, inr, ℕ, ◌+◌, List, [], ◌∷◌, ◌++◌, map, length, max, refl, sym, ap, ap₂, ◌∙◌, subst}
use Rattle.std.specs.Prelude.{IfSome}
use Rattle.std.proofs.lemmas.List.{length-map}
use Rattle.mz_tree.specs.Plain.{Ty, Atom, Atoms, Int_type, Unknown_type, Dynamic_type, Locked_type, Named_type, Function_type, Block_type, Lock_type, Has_atom, Same_atom, No_atoms, More_atoms, map_ty, map_atom, map_atoms}
use Rattle.mz_tree.specs.Programs.{Program}
use Rattle.mz_tree.specs.Scoped.{HasFields, FitsType, FitsAtom, FitsAtoms, depth_of, atom_depth, depth_in}
use Rattle.mz_perm.specs.Lists.{In}
use Rattle.mz_view.specs.Spots.{names_in_type, names_in_atom, names_in, nameless_type, nameless_atom, nameless}
use Rattle.mz_deriv.proofs.Membership.{in_get, get_in, in_parts, in_left, in_right}

-- brackets that are open at once, whatever the names
abbrev mutual
  pub bare_depth_of : Ty (Unit {0}) → ℕ
  bare_depth_of (Block_type con fields adopts) = 1
  bare_depth_of (Lock_type guarded) = 1 + bare_depth_in guarded
  bare_depth_of _ = 0

  pub bare_depth : Atom (Unit {0}) → ℕ
  bare_depth (Has_atom x t) = bare_depth_of t
  bare_depth (Same_atom x y) = 0

  pub bare_depth_in : Atoms (Unit {0}) → ℕ
  bare_depth_in No_atoms = 0
  bare_depth_in (More_atoms a rest) = max (bare_depth a) (bare_depth_in rest)

mutual
  pub depth_of_type : (t : Ty ℕ) → bare_depth_of (nameless_type t) ≡ depth_of t
  depth_of_type (Block_type con fields adopts) = refl
  depth_of_type (Lock_type guarded) = ap (λ n. 1 + n) (depth_of_atoms guarded)
  depth_of_type Int_type = refl
  depth_of_type Unknown_type = refl
  depth_of_type Dynamic_type = refl
  depth_of_type Locked_type = refl
  depth_of_type (Named_type d) = refl
  depth_of_type (Function_type s) = refl

  pub depth_of_atom : (a : Atom ℕ) → bare_depth (nameless_atom a) ≡ atom_depth a
  depth_of_atom (Has_atom x t) = depth_of_type t
  depth_of_atom (Same_atom x y) = refl

  pub depth_of_atoms : (p : Atoms ℕ) → bare_depth_in (nameless p) ≡ depth_in p
  depth_of_atoms No_atoms = refl
  depth_of_atoms (More_atoms a rest) = ap₂ max (depth_of_atom a) (depth_of_atoms rest)

-- names that are changed leave the rest as it is
unit_map : (f : ℕ → ℕ) (xs : List ℕ) → map (λ _. tt) (map f xs) ≡ map (λ _. tt {0}) xs
unit_map f [] = refl
unit_map f (x ∷ xs) = ap (λ l. tt ∷ l) (unit_map f xs)

mutual
  pub nameless_map_type : (f : ℕ → ℕ) (t : Ty ℕ) → nameless_type (map_ty f t) ≡ nameless_type t
  nameless_map_type f (Block_type con fields adopts) = ap (λ l. Block_type con l adopts) (unit_map f fields)
  nameless_map_type f (Lock_type guarded) = ap Lock_type (nameless_map_atoms f guarded)
  nameless_map_type f Int_type = refl
  nameless_map_type f Unknown_type = refl
  nameless_map_type f Dynamic_type = refl
  nameless_map_type f Locked_type = refl
  nameless_map_type f (Named_type d) = refl
  nameless_map_type f (Function_type s) = refl

  pub nameless_map : (f : ℕ → ℕ) (a : Atom ℕ) → nameless_atom (map_atom f a) ≡ nameless_atom a
  nameless_map f (Has_atom x t) = ap (Has_atom tt) (nameless_map_type f t)
  nameless_map f (Same_atom x y) = refl

  pub nameless_map_atoms : (f : ℕ → ℕ) (p : Atoms ℕ) → nameless (map_atoms f p) ≡ nameless p
  nameless_map_atoms f No_atoms = refl
  nameless_map_atoms f (More_atoms a rest) = ap₂ More_atoms (nameless_map f a) (nameless_map_atoms f rest)

-- and are those that were there, changed
map_parts : (f : ℕ → ℕ) (xs ys : List ℕ) → map f (xs ++ ys) ≡ map f xs ++ map f ys
map_parts f [] ys = refl
map_parts f (x ∷ xs) ys = ap (λ l. f x ∷ l) (map_parts f xs ys)

mutual
  pub names_map_type : (f : ℕ → ℕ) (t : Ty ℕ) → names_in_type (map_ty f t) ≡ map f (names_in_type t)
  names_map_type f (Block_type con fields adopts) = refl
  names_map_type f (Lock_type guarded) = names_map_atoms f guarded
  names_map_type f Int_type = refl
  names_map_type f Unknown_type = refl
  names_map_type f Dynamic_type = refl
  names_map_type f Locked_type = refl
  names_map_type f (Named_type d) = refl
  names_map_type f (Function_type s) = refl

  pub names_map : (f : ℕ → ℕ) (a : Atom ℕ) → names_in_atom (map_atom f a) ≡ map f (names_in_atom a)
  names_map f (Has_atom x t) = ap (λ l. f x ∷ l) (names_map_type f t)
  names_map f (Same_atom x y) = refl

  pub names_map_atoms : (f : ℕ → ℕ) (p : Atoms ℕ) → names_in (map_atoms f p) ≡ map f (names_in p)
  names_map_atoms f No_atoms = refl
  names_map_atoms f (More_atoms a rest) = ap₂ (λ xs ys. xs ++ ys) (names_map f a) (names_map_atoms f rest) ∙ sym (map_parts f (names_in_atom a) (names_in rest))

module _ (p : Program) where
  -- what fits whatever its names are
  abbrev mutual
    pub FitsBareType : Ty (Unit {0}) → Type 0
    FitsBareType (Named_type d) = FitsType p (λ _. Unit {0}) (Named_type d)
    FitsBareType (Function_type s) = FitsType p (λ _. Unit {0}) (Function_type s)
    FitsBareType (Block_type con fields adopts) = HasFields p con (length fields) × IfSome adopts (λ d. FitsType p (λ _. Unit {0}) (Named_type d))
    FitsBareType (Lock_type guarded) = (guarded ≢ No_atoms) × FitsBareAtoms guarded
    FitsBareType _ = Unit {0}

    pub FitsBare : Atom (Unit {0}) → Type 0
    FitsBare (Has_atom x t) = FitsBareType t
    FitsBare (Same_atom x y) = Unit {0}

    pub FitsBareAtoms : Atoms (Unit {0}) → Type 0
    FitsBareAtoms No_atoms = Unit {0}
    FitsBareAtoms (More_atoms a rest) = FitsBare a × FitsBareAtoms rest

  not_empty : (q : Atoms ℕ) → q ≢ No_atoms → nameless q ≢ No_atoms
  not_empty No_atoms n e = n refl
  not_empty (More_atoms a rest) n e = absurd (cc)

  not_empty_back : (q : Atoms ℕ) → nameless q ≢ No_atoms → q ≢ No_atoms
  not_empty_back No_atoms n e = n refl
  not_empty_back (More_atoms a rest) n e = absurd (cc)

  -- what fits does, its names aside
  module _ (Known : ℕ → Type 0) where
    mutual
      pub bare_type : (t : Ty ℕ) → FitsType p Known t → FitsBareType (nameless_type t)
      bare_type (Named_type d) h = h
      bare_type (Function_type s) h = h
      bare_type (Block_type con fields adopts) h = (subst (λ n. HasFields p con n) (sym (length-map fields (λ _. tt))) h.0, h.2)
      bare_type (Lock_type guarded) h = (not_empty guarded h.0, bare_atoms guarded h.1)
      bare_type Int_type h = tt
      bare_type Unknown_type h = tt
      bare_type Dynamic_type h = tt
      bare_type Locked_type h = tt

      pub bare_atom : (a : Atom ℕ) → FitsAtom p Known a → FitsBare (nameless_atom a)
      bare_atom (Has_atom x t) h = bare_type t h.1
      bare_atom (Same_atom x y) h = tt

      pub bare_atoms : (q : Atoms ℕ) → FitsAtoms p Known q → FitsBareAtoms (nameless q)
      bare_atoms No_atoms h = tt
      bare_atoms (More_atoms a rest) h = (bare_atom a h.0, bare_atoms rest h.1)

    -- its names are known
    mutual
      pub known_type : (t : Ty ℕ) → FitsType p Known t → (n : ℕ) → In n (names_in_type t) → Known n
      known_type (Block_type con fields adopts) h n i = let g = in_get n fields i in h.1 g.0 n g.1
      known_type (Lock_type guarded) h n i = known_atoms guarded h.1 n i
      known_type (Named_type d) h n i = absurd i
      known_type (Function_type s) h n i = absurd i
      known_type Int_type h n i = absurd i
      known_type Unknown_type h n i = absurd i
      known_type Dynamic_type h n i = absurd i
      known_type Locked_type h n i = absurd i

      pub known_atom : (a : Atom ℕ) → FitsAtom p Known a → (n : ℕ) → In n (names_in_atom a) → Known n
      known_atom (Has_atom x t) h n (inl e) = subst Known (sym e) h.0
      known_atom (Has_atom x t) h n (inr i) = known_type t h.1 n i
      known_atom (Same_atom x y) h n (inl e) = subst Known (sym e) h.0
      known_atom (Same_atom x y) h n (inr (inl e)) = subst Known (sym e) h.1
      known_atom (Same_atom x y) h n (inr (inr i)) = absurd i

      pub known_atoms : (q : Atoms ℕ) → FitsAtoms p Known q → (n : ℕ) → In n (names_in q) → Known n
      known_atoms No_atoms h n i = absurd i
      known_atoms (More_atoms a rest) h n i = elim (in_parts n (names_in_atom a) (names_in rest) i) [
        | inl j ↦ known_atom a h.0 n j
        | inr j ↦ known_atoms rest h.1 n j
      ]

    -- and what fits but for its names does, where these are known
    mutual
      pub fits_type : (t : Ty ℕ) → FitsBareType (nameless_type t) → ((n : ℕ) → In n (names_in_type t) → Known n) → FitsType p Known t
      fits_type (Block_type con fields adopts) h k = (subst (λ n. HasFields p con n) (length-map fields (λ _. tt)) h.0, (λ m n e. k n (get_in fields m n e)), h.1)
      fits_type (Lock_type guarded) h k = (not_empty_back guarded h.0, fits_atoms guarded h.1 k)
      fits_type (Named_type d) h k = h
      fits_type (Function_type s) h k = h
      fits_type Int_type h k = tt
      fits_type Unknown_type h k = tt
      fits_type Dynamic_type h k = tt
      fits_type Locked_type h k = tt

      pub fits_atom : (a : Atom ℕ) → FitsBare (nameless_atom a) → ((n : ℕ) → In n (names_in_atom a) → Known n) → FitsAtom p Known a
      fits_atom (Has_atom x t) h k = (k x (inl refl), fits_type t h (λ n i. k n (inr i)))
      fits_atom (Same_atom x y) h k = (k x (inl refl), k y (inr (inl refl)))

      pub fits_atoms : (q : Atoms ℕ) → FitsBareAtoms (nameless q) → ((n : ℕ) → In n (names_in q) → Known n) → FitsAtoms p Known q
      fits_atoms No_atoms h k = tt
      fits_atoms (More_atoms a rest) h k = (fits_atom a h.0 (λ n i. k n (in_left n (names_in_atom a) (names_in rest) i)), fits_atoms rest h.1 (λ n i. k n (in_right n (names_in_atom a) (names_in rest) i)))
