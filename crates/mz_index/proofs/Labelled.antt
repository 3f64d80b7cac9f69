-- Types are alike just where they are one once each name has become its label.
use Rattle.std.proofs.Common.{◌≡◌, ◌↔◌, ℕ, List, [], ◌∷◌, map, refl, ap, ◌∙◌}
use Rattle.mz_tree.specs.Plain.{Ty, Atom, Atoms, Int_type, Unknown_type, Dynamic_type, Locked_type, Named_type, Function_type, Block_type, Lock_type, Has_atom, Same_atom, No_atoms, More_atoms, map_ty, map_atom, map_atoms}
use Rattle.mz_perm.specs.Joining.{Joined}
use Rattle.mz_index.specs.Classes.{AllJoined, AreAlike, AreAlikeAtoms, AreAlikeGuarded}

-- names whose labels are one, place by place, are joined, by going along them
names_joined : (R : List (Atom ℕ)) (f : ℕ → ℕ) → ((x y : ℕ) → (f x ≡ f y) ↔ Joined R x y) → (ys zs : List ℕ) → map f ys ≡ map f zs → AllJoined R ys zs
names_joined R f h [] [] e = tt
names_joined R f h [] (z ∷ zs) e = absurd (cc)
names_joined R f h (y ∷ ys) [] e = absurd (cc)
names_joined R f h (y ∷ ys) (z ∷ zs) e = let first : f y ≡ f z = cc in let rest : map f ys ≡ map f zs = cc in ((h y z).0 first, names_joined R f h ys zs rest)

-- and the labels of joined names are one
joined_names : (R : List (Atom ℕ)) (f : ℕ → ℕ) → ((x y : ℕ) → (f x ≡ f y) ↔ Joined R x y) → (ys zs : List ℕ) → AllJoined R ys zs → map f ys ≡ map f zs
joined_names R f h [] [] j = refl
joined_names R f h [] (z ∷ zs) j = absurd j
joined_names R f h (y ∷ ys) [] j = absurd j
joined_names R f h (y ∷ ys) (z ∷ zs) j = ap (λ n. n ∷ map f ys) ((h y z).1 j.0) ∙ ap (λ l. f z ∷ l) (joined_names R f h ys zs j.1)

-- so types of one labelling are alike, by going through both
mutual
  pub labelled_alike : (R : List (Atom ℕ)) (f : ℕ → ℕ) → ((x y : ℕ) → (f x ≡ f y) ↔ Joined R x y) → (t u : Ty ℕ) → map_ty f t ≡ map_ty f u → AreAlike R t u
  labelled_alike R f h Int_type Int_type e = tt
  labelled_alike R f h Unknown_type Unknown_type e = tt
  labelled_alike R f h Dynamic_type Dynamic_type e = tt
  labelled_alike R f h Locked_type Locked_type e = tt
  labelled_alike R f h (Named_type d) (Named_type c) e = cc
  labelled_alike R f h (Function_type s) (Function_type u) e = cc
  labelled_alike R f h (Block_type con ys clause) (Block_type other zs another) e = let names : map f ys ≡ map f zs = cc in (cc, names_joined R f h ys zs names, cc)
  labelled_alike R f h (Lock_type p) (Lock_type q) e = let guarded : map_atoms f p ≡ map_atoms f q = cc in labelled_guarded R f h p q guarded
  labelled_alike R f h _ _ e = absurd (cc)

  labelled_atoms : (R : List (Atom ℕ)) (f : ℕ → ℕ) → ((x y : ℕ) → (f x ≡ f y) ↔ Joined R x y) → (a b : Atom ℕ) → map_atom f a ≡ map_atom f b → AreAlikeAtoms R a b
  labelled_atoms R f h (Has_atom x t) (Has_atom y u) e = let names : f x ≡ f y = cc in let types : map_ty f t ≡ map_ty f u = cc in ((h x y).0 names, labelled_alike R f h t u types)
  labelled_atoms R f h (Same_atom x y) (Same_atom z w) e = let left : f x ≡ f z = cc in let right : f y ≡ f w = cc in ((h x z).0 left, (h y w).0 right)
  labelled_atoms R f h _ _ e = absurd (cc)

  labelled_guarded : (R : List (Atom ℕ)) (f : ℕ → ℕ) → ((x y : ℕ) → (f x ≡ f y) ↔ Joined R x y) → (p q : Atoms ℕ) → map_atoms f p ≡ map_atoms f q → AreAlikeGuarded R p q
  labelled_guarded R f h No_atoms No_atoms e = tt
  labelled_guarded R f h (More_atoms a p) (More_atoms b q) e = let first : map_atom f a ≡ map_atom f b = cc in let rest : map_atoms f p ≡ map_atoms f q = cc in (labelled_atoms R f h a b first, labelled_guarded R f h p q rest)
  labelled_guarded R f h _ _ e = absurd (cc)

-- and types that are alike have one labelling
mutual
  pub alike_labelled : (R : List (Atom ℕ)) (f : ℕ → ℕ) → ((x y : ℕ) → (f x ≡ f y) ↔ Joined R x y) → (t u : Ty ℕ) → AreAlike R t u → map_ty f t ≡ map_ty f u
  alike_labelled R f h Int_type Int_type a = refl
  alike_labelled R f h Unknown_type Unknown_type a = refl
  alike_labelled R f h Dynamic_type Dynamic_type a = refl
  alike_labelled R f h Locked_type Locked_type a = refl
  alike_labelled R f h (Named_type d) (Named_type c) a = ap (λ n. Named_type n) a
  alike_labelled R f h (Function_type s) (Function_type u) a = ap (λ n. Function_type n) a
  alike_labelled R f h (Block_type con ys clause) (Block_type other zs another) a = let con_is : con ≡ other = a.0 in let names : map f ys ≡ map f zs = joined_names R f h ys zs a.1 in let clause_is : clause ≡ another = a.2 in cc
  alike_labelled R f h (Lock_type p) (Lock_type q) a = ap Lock_type (guarded_labelled R f h p q a)
  alike_labelled R f h _ _ a = absurd a

  atoms_labelled : (R : List (Atom ℕ)) (f : ℕ → ℕ) → ((x y : ℕ) → (f x ≡ f y) ↔ Joined R x y) → (a b : Atom ℕ) → AreAlikeAtoms R a b → map_atom f a ≡ map_atom f b
  atoms_labelled R f h (Has_atom x t) (Has_atom y u) a = ap (λ n. Has_atom n (map_ty f t)) ((h x y).1 a.0) ∙ ap (Has_atom (f y)) (alike_labelled R f h t u a.1)
  atoms_labelled R f h (Same_atom x y) (Same_atom z w) a = ap (λ n. Same_atom n (f y)) ((h x z).1 a.0) ∙ ap (Same_atom (f z)) ((h y w).1 a.1)
  atoms_labelled R f h _ _ a = absurd a

  guarded_labelled : (R : List (Atom ℕ)) (f : ℕ → ℕ) → ((x y : ℕ) → (f x ≡ f y) ↔ Joined R x y) → (p q : Atoms ℕ) → AreAlikeGuarded R p q → map_atoms f p ≡ map_atoms f q
  guarded_labelled R f h No_atoms No_atoms a = refl
  guarded_labelled R f h (More_atoms b p) (More_atoms c q) a = ap (λ n. More_atoms n (map_atoms f p)) (atoms_labelled R f h b c a.0) ∙ ap (More_atoms (map_atom f c)) (guarded_labelled R f h p q a.1)
  guarded_labelled R f h _ _ a = absurd a
