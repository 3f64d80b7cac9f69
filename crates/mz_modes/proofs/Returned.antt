-- The needs that a call gives back, need by need.
use Rattle.std.proofs.Common.{◌≡◌, inl, inr, ℕ, ◌+◌, ◌<◌, List, [], ◌∷◌, ◌++◌, length, map, take, get_or, refl, sym, ap, ◌∙◌, subst}
use Rattle.std.proofs.lemmas.List.{map_push, map_more}
use Rattle.mz_tree.specs.Plain.{Atom}
use Rattle.mz_tree.specs.Programs.{Need}
use Rattle.mz_tree.specs.View.{plain_atom, plain_atoms, plain_need}
use Rattle.mz_tree.specs.declared.program.Need.{Need as CodeNeed}
use Rattle.mz_tree.specs.declared.types.Atom.{Atom as CodeAtom}
use Rattle.mz_decl.specs.Declarations.{Decls}
use Rattle.mz_modes.specs.Calling.{GivesBack, Returns}

-- one more need, which is given back
back_with : (D : Decls) (needs : List Need) (back : List (Atom ℕ)) (n : Need) → Returns D n → GivesBack D needs back → GivesBack D (needs ++ n ∷ []) (back ++ n.atom ∷ [])
back_with D [] back n r e = inl (r, ([], ap (λ l. l ++ n.atom ∷ []) e, refl))
back_with D (m ∷ needs) back n r (inl g) = inl (g.0, (g.1.0 ++ n.atom ∷ [], ap (λ l. l ++ n.atom ∷ []) g.1.1, back_with D needs g.1.0 n r g.1.2))
back_with D (m ∷ needs) back n r (inr g) = inr (g.0, back_with D needs back n r g.1)

-- one more, which isn't
back_without : (D : Decls) (needs : List Need) (back : List (Atom ℕ)) (n : Need) → (Returns D n → ⊥) → GivesBack D needs back → GivesBack D (needs ++ n ∷ []) back
back_without D [] back n no_return e = inr (no_return, e)
back_without D (m ∷ needs) back n no_return (inl g) = inl (g.0, (g.1.0, g.1.1, back_without D needs g.1.0 n no_return g.1.2))
back_without D (m ∷ needs) back n no_return (inr g) = inr (g.0, back_without D needs back n no_return g.1)

next_needs : (all : List CodeNeed) (i : ℕ) (n : CodeNeed) → i < length all → n ≡ get_or all i n → map plain_need (take i all) ++ plain_need n ∷ [] ≡ map plain_need (take (i + 1) all)
next_needs all i n h e = ap (λ x. map plain_need (take i all) ++ plain_need x ∷ []) e ∙ sym (map_more plain_need all i n h)

-- the same in the loop over the needs
pub given_back : (D : Decls) (all : List CodeNeed) (i : ℕ) (n : CodeNeed) (copy : CodeAtom) (back after : List CodeAtom) → i < length all → n ≡ get_or all i n → after ≡ back ++ copy ∷ [] → copy ≡ n.atom → Returns D (plain_need n) → GivesBack D (map plain_need (take i all)) (plain_atoms back) →
    GivesBack D (map plain_need (take (i + 1) all)) (plain_atoms after)
given_back D all i n copy back after h e a same r g =
    let to : plain_atoms back ++ plain_atom n.atom ∷ [] ≡ plain_atoms after = sym (ap plain_atoms (a ∙ ap (λ b. back ++ b ∷ []) same) ∙ map_push plain_atom back n.atom) in
    subst (λ l. GivesBack D l (plain_atoms after)) (next_needs all i n h e) (subst (λ l. GivesBack D (map plain_need (take i all) ++ plain_need n ∷ []) l) to (back_with D (map plain_need (take i all)) (plain_atoms back) (plain_need n) r g))

pub not_given_back : (D : Decls) (all : List CodeNeed) (i : ℕ) (n : CodeNeed) (back after : List CodeAtom) → i < length all → n ≡ get_or all i n → after ≡ back → (Returns D (plain_need n) → ⊥) → GivesBack D (map plain_need (take i all)) (plain_atoms back) →
    GivesBack D (map plain_need (take (i + 1) all)) (plain_atoms after)
not_given_back D all i n back after h e same no_return g = subst (λ l. GivesBack D l (plain_atoms after)) (next_needs all i n h e) (subst (λ l. GivesBack D (map plain_need (take i all) ++ plain_need n ∷ []) (plain_atoms l)) (sym same) (back_without D (map plain_need (take i all)) (plain_atoms back) (plain_need n) no_return g))
