-- When a permission is used up: what is affine goes with its first copy, and what is duplicable is there.
use Rattle.std.proofs.Common.{◌≡◌, inl, ℕ, ◌<◌, ◌≤◌, Bool, true, false, List, length, get_or, Some, slice_get, arith}
use Rattle.std.proofs.lemmas.List.{length-map}
use Rattle.mz_tree.specs.View.{plain_atom, plain_atoms}
use Rattle.mz_tree.specs.declared.types.Atom.{Atom as CodeAtom}
use Rattle.mz_decl.proofs.Adopters.{get_map}
use Rattle.mz_decl.proofs.Limits.{item_at}
use Rattle.mz_perm.specs.Lists.{In, Removes}
use Rattle.mz_perm.specs.Using.{UsesUp}
use Rattle.mz_perm.proofs.Orders.{used_in}
use Rattle.mz_modes.specs.Answers.{Used}

-- what isn't there isn't used up
pub not_used : {A : Type 0} (Goes : A → Type 0) (a : A) (xs zs : List A) → (In a xs → ⊥) → UsesUp Goes a xs zs → ⊥
not_used Goes a xs zs n u = n (used_in Goes a xs zs u)

-- what goes is used up where it is taken out
pub used_gone : {A : Type 0} (Goes : A → Type 0) (b : Bool) (a : A) (xs ys : List A) → Goes a → Removes b a xs ys → Used b Goes a xs ys
used_gone Goes true a xs ys g r = inl (g, r)
used_gone Goes false a xs ys g r = (λ zs. not_used Goes a xs zs r.0, r.1)

-- a permission of the list that is indexed stands at its place among the plain ones
pub atom_at : (atoms : List CodeAtom) (i : ℕ) (a : CodeAtom) → i < length atoms → a ≡ get_or atoms i a → slice_get (plain_atoms atoms) i ≡ Some (plain_atom a)
atom_at atoms i a h e = get_map plain_atom atoms i a (item_at atoms i a h e)

-- past the last there is none
pub atoms_past : (atoms : List CodeAtom) (i : ℕ) → length atoms ≤ i → length (plain_atoms atoms) ≤ i
atoms_past atoms i h = omega (arith, length-map atoms plain_atom, h)
