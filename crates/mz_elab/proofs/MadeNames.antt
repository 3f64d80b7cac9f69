-- Names that were made, collected one after the other.
use Rattle.std.proofs.Common.{◌≡◌, ◌≤◌, ◌||◌, ◌==◌, inl, inr, ℕ, ◌+◌, Bool, true, false, List, [], ◌∷◌, ◌++◌, length, drop, Some, slice_get, sym, ap, ◌∙◌, subst}
use Rattle.std.proofs.lemmas.Bool.{eq-eqb, eqb-true}
use Rattle.std.proofs.lemmas.List.{drop_all}
use Rattle.std.specs.List.{list_any}
use Rattle.mz_tree.specs.Plain.{Atom}
use Rattle.mz_tree.specs.View.{plain_atoms}
use Rattle.mz_tree.specs.declared.types.Atom.{Atom as CodeAtom}
use Rattle.mz_perm.specs.Lists.{In}
use Rattle.mz_perm.specs.Occurrence.{occurs}
use Rattle.mz_perm.proofs.Remaining.{drop_at}
use Rattle.mz_deriv.specs.Parts.{SameNames}
use Rattle.mz_deriv.proofs.WrittenNames.{either, or_first, or_second}
use Rattle.mz_elab.specs.Joining.{AreOuter}
use Rattle.mz_elab.specs.Naming.{AddsNames}
use Rattle.mz_elab.proofs.EachClass.{in_end, in_front, in_either}

pub adds_none : (test : ℕ → Bool) (xs : List ℕ) → ((n : ℕ) → test n ≡ false) → AddsNames test xs xs
adds_none test xs f n = ((λ i. inl i), (λ s. elim s [ inl i ↦ i | inr h ↦ absurd (both (test n) h.1 (f n)) ]))
  where
    both : (b : Bool) → b ≡ true → b ≡ false → ⊥
    both true e f = absurd (cc)
    both false e f = absurd (cc)

pub adds_or : (p q : ℕ → Bool) (xs ys zs : List ℕ) → AddsNames p xs ys → AddsNames q ys zs → AddsNames (λ n. p n || q n) xs zs
adds_or p q xs ys zs a b n = (
  (λ i. elim ((b n).0 i) [
    | inl j ↦ elim ((a n).0 j) [ inl k ↦ inl k | inr h ↦ inr (h.0, or_first (p n) (q n) h.1) ]
    | inr h ↦ inr (h.0, or_second (p n) (q n) h.1)
  ]),
  (λ s. elim s [
    | inl i ↦ (b n).1 (inl ((a n).1 (inl i)))
    | inr h ↦ elim (either (p n) (q n) h.1) [ inl e ↦ (b n).1 (inl ((a n).1 (inr (h.0, e)))) | inr e ↦ (b n).1 (inr (h.0, e)) ]
  ]),
)

-- by another test that says the same
pub adds_by : (p q : ℕ → Bool) (xs ys : List ℕ) → ((n : ℕ) → p n ≡ q n) → AddsNames p xs ys → AddsNames q xs ys
adds_by p q xs ys e a n = (
  (λ i. elim ((a n).0 i) [ inl j ↦ inl j | inr h ↦ inr (h.0, sym (e n) ∙ h.1) ]),
  (λ s. (a n).1 (elim s [ inl j ↦ inl j | inr h ↦ inr (h.0, e n ∙ h.1) ])),
)

pub adds_made : (x : ℕ) (xs ys : List ℕ) → 256 ≤ x → ys ≡ xs ++ x ∷ [] → AddsNames (λ n. x == n) xs ys
adds_made x xs ys h e n = (
  (λ i. elim (in_either n x xs (subst (In n) e i)) [ inl j ↦ inl j | inr f ↦ inr (subst (λ z. 256 ≤ z) (sym f) h, eq-eqb x n (sym f)) ]),
  (λ s. subst (In n) (sym e) (elim s [ inl i ↦ in_front n x xs i | inr f ↦ subst (λ z. In n (xs ++ z ∷ [])) (sym (eqb-true x n f.1)) (in_end n xs) ])),
)

pub adds_core : (x : ℕ) (xs : List ℕ) → (256 ≤ x → ⊥) → AddsNames (λ n. x == n) xs xs
adds_core x xs h n = ((λ i. inl i), (λ s. elim s [ inl i ↦ i | inr f ↦ absurd (h (subst (λ z. 256 ≤ z) (sym (eqb-true x n f.1)) f.0)) ]))

-- ---- loops: what is added from a place on is added to what was before

pub record Adding {A : Type 0} (test : List A → ℕ → Bool) (these : List A) (before : List ℕ) (i : ℕ) (now : List ℕ) : Type 0 where
  pub adds : (after : List ℕ) → AddsNames (test (drop i these)) now after → AddsNames (test these) before after

pub adding_start : {A : Type 0} (test : List A → ℕ → Bool) (these : List A) (before : List ℕ) → Adding test these before 0 before
adding_start test these before = record { adds = λ after a. a }

pub adding_next : {A : Type 0} (test : List A → ℕ → Bool) (one : A → ℕ → Bool) (these : List A) (before : List ℕ) (i : ℕ) (x : A) (now next : List ℕ) → ((y : A) (ys : List A) (n : ℕ) → test (y ∷ ys) n ≡ (one y n || test ys n)) →
    Adding test these before i now → slice_get these i ≡ Some x → AddsNames (one x) now next → Adding test these before (i + 1) next
adding_next test one these before i x now next split v is a = record {
  adds = λ after b. v.adds after (λ n. (
      let r = adds_or (one x) (test (drop (i + 1) these)) now next after a b n in
      let same : (one x n || test (drop (i + 1) these) n) ≡ test (drop i these) n = sym (split x (drop (i + 1) these) n) ∙ ap (λ l. test l n) (sym (drop_at these i x is)) in
      ((λ j. elim (r.0 j) [ inl k ↦ inl k | inr h ↦ inr (h.0, sym same ∙ h.1) ]), (λ s. r.1 (elim s [ inl k ↦ inl k | inr h ↦ inr (h.0, same ∙ h.1) ])))));
}

pub adding_end : {A : Type 0} (test : List A → ℕ → Bool) (these : List A) (before : List ℕ) (i : ℕ) (now : List ℕ) → ((n : ℕ) → test [] n ≡ false) → Adding test these before i now → length these ≤ i → AddsNames (test these) before now
adding_end test these before i now none v h = v.adds now (subst (λ l. AddsNames (test l) now now) (sym (drop_all i these h)) (adds_none (test []) now none))

-- the tests
abbrev pub of_names : List ℕ → ℕ → Bool
of_names xs n = list_any (λ m. m == n) xs

abbrev pub of_atoms : List (Atom ℕ) → ℕ → Bool
of_atoms p n = occurs n p

abbrev pub of_codes : List CodeAtom → ℕ → Bool
of_codes p n = occurs n (plain_atoms p)

pub are_outer : (bound outer names : List ℕ) (R : List (Atom ℕ)) → SameNames bound names → AddsNames (of_atoms R) bound outer → AreOuter outer names R
are_outer bound outer names R s a n = (
  (λ i. elim ((a n).0 i) [ inl j ↦ inl ((s n).0 j) | inr h ↦ inr h ]),
  (λ o. (a n).1 (elim o [ inl j ↦ inl ((s n).1 j) | inr h ↦ inr h ])),
)
