-- Names in the type of a lock, whose permissions stand in it as a list of the types' own.
use Rattle.std.proofs.Common.{◌≡◌, ℕ, ◌||◌, List, [], ◌∷◌, map, refl, sym, ap, ◌∙◌}
use Rattle.std.specs.List.{list_any}
use Rattle.mz_perm.specs.Occurrence.{in_type, in_atom, in_guarded}
use Rattle.mz_tree.specs.Plain.{Atom, Lock_type, More_atoms, atoms_of, map_atom, map_atoms, map_ty}
use Rattle.mz_tree.specs.View.{plain_ty, plain_atoms}
use Rattle.mz_tree.specs.declared.types.Ty.{Lock}
use Rattle.mz_tree.specs.declared.types.Atom.{Atom as CodeAtom}
use Rattle.mz_tree.proofs.Views.{plain_lock}

-- names are put for names in each permission of the list
atoms_map : (f : ℕ → ℕ) (p : List (Atom ℕ)) → map_atoms f (atoms_of p) ≡ atoms_of (map (map_atom f) p)
atoms_map f [] = refl
atoms_map f (a ∷ p) = ap (More_atoms (map_atom f a)) (atoms_map f p)

-- a lock of renamed permissions is the renamed lock
pub map_lock : (f : ℕ → ℕ) (it atoms slice : List CodeAtom) → plain_atoms it ≡ map (map_atom f) (plain_atoms slice) → slice ≡ atoms → plain_ty (Lock it) ≡ map_ty f (plain_ty (Lock atoms))
map_lock f it atoms slice e s = plain_lock it ∙ ap (λ l. Lock_type (atoms_of l)) (e ∙ ap (λ l. map (map_atom f) (plain_atoms l)) s) ∙ sym (ap (map_ty f) (plain_lock atoms) ∙ ap Lock_type (atoms_map f (plain_atoms atoms)))

-- a name occurs in the guarded permissions where it occurs in one of the list
any_of : (name : ℕ) (p : List (Atom ℕ)) → in_guarded name (atoms_of p) ≡ list_any (in_atom name) p
any_of name [] = refl
any_of name (a ∷ p) = ap (λ b. in_atom name a || b) (any_of name p)

-- a name occurs in a lock's type where it occurs in one of the permissions that the lock guards
pub in_lock : (name : ℕ) (atoms slice : List CodeAtom) → slice ≡ atoms → list_any (in_atom name) (plain_atoms slice) ≡ in_type name (plain_ty (Lock atoms))
in_lock name atoms slice s = ap (λ l. list_any (in_atom name) (plain_atoms l)) s ∙ sym (ap (in_type name) (plain_lock atoms) ∙ any_of name (plain_atoms atoms))
