-- A goal of one branch after the other.
use Rattle.std.proofs.Common.{◌≡◌, ◌<◌, ◌≤◌, inl, inr, ℕ, ◌+◌, List, [], ◌∷◌, ◌++◌, Bool, true, false, arith, length, take, drop, set, Some, slice_get, Ok, Err, refl, sym, ap, ◌∙◌, subst, append-nil, append_assoc}
use Rattle.std.proofs.lemmas.List.{take_more_set, drop-set-lt, drop-drop, length-set, take_all, drop_all}
use Rattle.mz_tree.specs.Plain.{Atom}
use Rattle.mz_tree.specs.View.{plain_atom}
use Rattle.mz_tree.specs.declared.types.Place.{Place}
use Rattle.mz_decl.specs.Declarations.{Decls}
use Rattle.mz_perm.proofs.Remaining.{drop_at}
use Rattle.mz_elab.specs.Joins.{AllNeed}
use Rattle.mz_elab.specs.Lacking.{FirstLacks}
use Rattle.mz_deriv.specs.Scripts.{Item}
use Rattle.mz_goal.specs.Needs.{Unmet}
use Rattle.mz_elab.specs.Joining.{MeetsGoal, plain_end, plain_ends, EachWrites, GoesOn}
use Rattle.mz_elab.specs.declared.ends.End.{End as CodeEnd}
use Rattle.mz_elab.specs.declared.fault.ElabFault.TheVariants.{NoPermission}

-- a goal that isn't met
pub refused : (b : Bool) (D : Decls) (K : ℕ → Type 0) (R : List (Atom ℕ)) (g h : Atom ℕ) (T : List (Atom ℕ)) (p q : List Item) → b ≡ false → g ≡ h → MeetsGoal b D K R g T p q → Unmet D R h
refused true D K R g h T p q n e m = absurd (cc)
refused false D K R g h T p q n e m = subst (λ x. Unmet D R x) e m.0

next : (k : ℕ) (now old : List CodeEnd) → drop k now ≡ drop k old → drop (k + 1) now ≡ drop (k + 1) old
next k now old e = sym (drop-drop 1 k now) ∙ ap (drop 1) e ∙ drop-drop 1 k old

-- what stands at a place, and the rest
pub whole : (old now : List CodeEnd) (k : ℕ) (e : CodeEnd) → slice_get now k ≡ Some e → drop k now ≡ drop k old → drop k old ≡ e ∷ drop (k + 1) old
whole old now k e is left = sym left ∙ drop_at now k e is ∙ ap (λ l. e ∷ l) (next k now old left)

pub shift : (now old : List CodeEnd) (k : ℕ) (e : CodeEnd) → slice_get now k ≡ Some e → drop k now ≡ drop k old → drop (k + 1) now ≡ drop (k + 1) old
shift now old k e is left = next k now old left

module _ (D : Decls) (K : ℕ → Type 0) (c : ℕ) (g : Atom ℕ) where
  -- what is said of all branches where each meets the goal
  abbrev pub Done : List CodeEnd → List CodeEnd → Type 0
  Done ends after = AllNeed D c g (plain_ends ends) (plain_ends after) × EachWrites D K c (g ∷ []) ends after

  -- the first k branches did: what is said of the others is said of all
  pub record Given (old : List CodeEnd) (k : ℕ) (now : List CodeEnd) : Type 0 where
    pub left : drop k now ≡ drop k old
    pub many : length now ≡ length old
    pub done : (tail : List CodeEnd) → Done (drop k old) tail → Done old (take k now ++ tail)
    pub lacks : (place : Place) (a : Atom ℕ) → FirstLacks D c g (plain_ends (drop k old)) place a → FirstLacks D c g (plain_ends old) place a

  pub given_start : (old : List CodeEnd) → Given old 0 old
  given_start old = record { left = refl; many = refl; done = λ tail d. d; lacks = λ place a l. l }

  -- one branch more
  next_done : (e f : CodeEnd) (rest tail : List CodeEnd) → GoesOn {A = Unit {0}} D K c g e f (Ok tt) → Done rest tail → Done (e ∷ rest) (f ∷ tail)
  next_done e f rest tail o d = ((f.state, plain_ends tail, o.2, d.0, same), (o.0, o.1, o.3, d.1))
    where
      same : plain_end f ∷ plain_ends tail ≡ record { state = f.state; value = e.value; brace = e.brace } ∷ plain_ends tail
      same = ap (λ v. record { state = f.state; value = v; brace = f.brace } ∷ plain_ends tail) o.0 ∙ ap (λ b. record { state = f.state; value = e.value; brace = b } ∷ plain_ends tail) o.1

  pub given_next : (old now : List CodeEnd) (k : ℕ) (e f : CodeEnd) → Given old k now → k < length now → slice_get now k ≡ Some e → GoesOn {A = Unit {0}} D K c g e f (Ok tt) → Given old (k + 1) (set now k f)
  given_next old now k e f v h is o = record {
    left = drop-set-lt (k + 1) now k f (omega arith) ∙ shift now old k e is v.left;
    many = length-set now k f ∙ v.many;
    done = λ tail d. subst (λ l. Done old l) (joined tail) (v.done (f ∷ tail) (subst (λ l. Done l (f ∷ tail)) (sym (whole old now k e is v.left)) (next_done e f (drop (k + 1) old) tail o d)));
    lacks = λ place a l. v.lacks place a (subst (λ x. FirstLacks D c g (plain_ends x) place a) (sym (whole old now k e is v.left)) (inr (f.state, o.2, l)));
  }
    where
      joined : (tail : List CodeEnd) → take k now ++ f ∷ tail ≡ take (k + 1) (set now k f) ++ tail
      joined tail = sym (append_assoc (take k now) (f ∷ []) tail) ∙ ap (λ l. l ++ tail) (sym (take_more_set now k f h))

  pub given_lacks : (old now : List CodeEnd) (k : ℕ) (e f : CodeEnd) (place : Place) (a : _) → Given old k now → slice_get now k ≡ Some e → GoesOn {A = Unit {0}} D K c g e f (Err (NoPermission place a)) → FirstLacks D c g (plain_ends old) place (plain_atom a)
  given_lacks old now k e f place a v is o = v.lacks place (plain_atom a) (subst (λ x. FirstLacks D c g (plain_ends x) place (plain_atom a)) (sym (whole old now k e is v.left)) (inl o))

  pub given_end : (old now : List CodeEnd) (k : ℕ) → Given old k now → length now ≤ k → Done old now
  given_end old now k v h = subst (λ l. Done old l) (append-nil (take k now) ∙ take_all k now h) (v.done [] (subst (λ l. Done l []) (sym (sym v.left ∙ drop_all k now h)) (refl, refl)))
