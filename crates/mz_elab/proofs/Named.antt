-- The value of all branches is a bound name.
use Rattle.std.proofs.Common.{◌≡◌, ◌==◌, if◌then◌else◌, inl, inr, ℕ, Bool, true, false, List, [], ◌∷◌, map, refl, sym, ap, ◌∙◌, subst}
use Rattle.std.proofs.lemmas.Bool.{eq-eqb}
use Rattle.mz_tree.specs.Plain.{Atom, Same_atom}
use Rattle.mz_tree.specs.declared.types.Place.{Place}
use Rattle.mz_decl.specs.Declarations.{Decls}
use Rattle.mz_perm.specs.Joining.{Joined, Joined_itself}
use Rattle.mz_deriv.specs.Walks.{in_place_of}
use Rattle.mz_goal.specs.Goals.{Entry, atoms, unused, Meets, Same_met}
use Rattle.mz_goal.specs.Needs.{Need}
use Rattle.mz_goal.proofs.Meeting.{atoms_unused}
use Rattle.mz_elab.specs.Joins.{End, with_state, InEach, AllNeed}
use Rattle.mz_elab.specs.Lacking.{FirstLacks}

-- an equation of joined names is met, and leaves the state as it is
same_need : (D : Decls) (R : List (Atom ℕ)) (x z : ℕ) → Joined R x z → Need D R (Same_atom x z) R
same_need D R x z j = record { left = map unused R; meets = Same_met (map unused R) x z (subst (λ l. Joined l x z) (sym (atoms_unused R)) j); is = sym (atoms_unused R) }

same_left : (D : Decls) (R : List Entry) (x z : ℕ) (T : List Entry) → Meets D R (Same_atom x z) T → T ≡ R
same_left D R x z T (Same_met _ _ _ j) = refl

left_same : (D : Decls) (R : List (Atom ℕ)) (x z : ℕ) (T : List (Atom ℕ)) → Need D R (Same_atom x z) T → T ≡ R
left_same D R x z T n = n.is ∙ ap atoms (same_left D (map unused R) x z n.left n.meets) ∙ atoms_unused R

no_same : (n : ℕ) → (n == n) ≡ false → ⊥
no_same n h = both (n == n) (eq-eqb n n refl) h
  where
    both : (b : Bool) → b ≡ true → b ≡ false → ⊥
    both true e f = absurd (cc)
    both false e f = absurd (cc)

module _ (D : Decls) (c x : ℕ) where
  -- the value for the command's name, and x, which may be the command's name itself
  joined_for : (e : End) → Joined e.state e.value x → Joined e.state (in_place_of c e.value c) (in_place_of c e.value x)
  joined_for e j = by (c == c) (x == c) refl
    where
      by : (b d : Bool) → (c == c) ≡ b → Joined e.state (if b then e.value else c) (if d then e.value else x)
      by true true h = Joined_itself e.value
      by true false h = j
      by false d h = absurd (no_same c h)

  pub named_not : (ends : List End) (place : Place) (a : Atom ℕ) → InEach x ends → FirstLacks D c (Same_atom c x) ends place a → ⊥
  named_not [] place a i l = l
  named_not (e ∷ ends) place a i (inl l) = l.0 e.state (same_need D e.state _ _ (joined_for e i.0))
  named_not (e ∷ ends) place a i (inr l) = named_not ends place a i.1 l.2

  pub named_left : (ends after : List End) → AllNeed D c (Same_atom c x) ends after → after ≡ ends
  named_left [] after n = n
  named_left (e ∷ ends) after n = n.4 ∙ ap (λ T. with_state e T ∷ n.1) (left_same D e.state _ _ n.0 n.2) ∙ ap (λ r. e ∷ r) (named_left ends n.1 n.3)
