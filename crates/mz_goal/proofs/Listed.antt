-- The names in a type, one permission after the other.
use Rattle.std.proofs.Common.{◌≡◌, ℕ, zero, suc, ◌+◌, ◌<◌, List, [], ◌∷◌, ◌++◌, length, take, get_or, Some, slice_get, append_assoc, append-nil, refl, sym, ap, ◌∙◌, arith}
use Rattle.mz_tree.specs.Plain.{atoms_of}
use Rattle.mz_tree.specs.View.{plain_atom, plain_atoms}
use Rattle.mz_tree.specs.declared.types.Atom.{Atom as CodeAtom}
use Rattle.mz_view.specs.Spots.{names_in, names_in_atom}
use Rattle.mz_view.proofs.Listed.{at_place}

abbrev names_of : List CodeAtom → List ℕ
names_of atoms = names_in (atoms_of (plain_atoms atoms))

some_is : {A : Type 0} (a b : A) → Some a ≡ Some b → a ≡ b
some_is a b e = cc

taken : (atoms : List CodeAtom) (i : ℕ) (a : CodeAtom) → slice_get atoms i ≡ Some a → names_of (take (suc i) atoms) ≡ names_of (take i atoms) ++ names_in_atom (plain_atom a)
taken [] i a e = absurd (cc)
taken (x ∷ atoms) zero a e = append-nil (names_in_atom (plain_atom x)) ∙ ap (λ b. names_in_atom (plain_atom b)) (some_is x a e)
taken (x ∷ atoms) (suc i) a e = ap (λ l. names_in_atom (plain_atom x) ++ l) (taken atoms i a e) ∙ sym (append_assoc (names_in_atom (plain_atom x)) (names_of (take i atoms)) (names_in_atom (plain_atom a)))

pub list_next : (atoms : List CodeAtom) (i : ℕ) (a : CodeAtom) (old names after : List ℕ) → i < length atoms → a ≡ get_or atoms i a → after ≡ names ++ names_in_atom (plain_atom a) → names ≡ old ++ names_of (take i atoms) → after ≡ old ++ names_of (take (i + 1) atoms)
list_next atoms i a old names after h e is inv =
    let n : i + 1 ≡ suc i = omega arith in
    is ∙ ap (λ l. l ++ names_in_atom (plain_atom a)) inv ∙ append_assoc old (names_of (take i atoms)) (names_in_atom (plain_atom a)) ∙ ap (λ l. old ++ l) (sym (taken atoms i a (at_place atoms i a h e))) ∙ ap (λ k. old ++ names_of (take k atoms)) (sym n)

-- a place within has a name
pub got : (xs : List ℕ) (n : ℕ) → n < length xs → (x : ℕ) × (slice_get xs n ≡ Some x)
got [] n h = absurd (omega arith)
got (x ∷ xs) zero h = (x, refl)
got (x ∷ xs) (suc n) h = got xs n (omega (arith, h))
