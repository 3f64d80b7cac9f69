-- What is looked for, and how the index is asked for it.
use Rattle.std.proofs.Common.{◌≡◌, ◌+◌, inl, inr, arith, ℕ, Bool, true, false, List, Option, Some, None, slice_get, refl, sym, ◌∙◌, subst}
use Rattle.mz_tree.specs.Plain.{Ty, Atom, Int_type, Unknown_type, Dynamic_type, Locked_type, Named_type, Function_type, Block_type, Lock_type, Has_atom, Same_atom}
use Rattle.mz_tree.specs.Saying.{Says}
use Rattle.mz_decl.specs.Declarations.{Decls}
use Rattle.mz_perm.specs.Lists.{In}
use Rattle.mz_perm.specs.Joining.{Joined}
use Rattle.mz_deriv.specs.Outer.{all_in_type}
use Rattle.mz_index.specs.Finding.{InClass}
use Rattle.mz_index.specs.Tests.{Test, Passes, Block_test, Function_test}
use Rattle.mz_index.specs.Questions.{IsFrom, FirstFrom}
use Rattle.mz_index.proofs.Asking.{NoneBelow, asks_start, asks_none, asks_again, asks_found}
use Rattle.mz_elab.specs.Acting.{AdoptsSome}
use Rattle.mz_elab.specs.Sought.{Sought, Open_sought, Closed_sought, Known_sought, Signed_sought, Adopter_sought, Lock_sought, Held_sought, IsSought, test_for, OfTy, FirstAt, AdoptedBy, ByDataAt, known}
use Rattle.mz_elab.specs.Standing.{IsKnown}
use Rattle.mz_elab.proofs.NamedAlone.{type_says}

pub none_by_data : (D : Decls) (con : ℕ) (ys : List ℕ) (own r : Option ℕ) → own ≡ None → ByDataAt D con r → AdoptedBy D (Block_type con ys own) r
none_by_data D con ys None None e f = f
none_by_data D con ys None (Some u) e f = f
none_by_data D con ys (Some v) r e f = absurd (cc)

pub no_adopter : (D : Decls) (t : Ty ℕ) (r : Option ℕ) → r ≡ None → AdoptedBy D t r → AdoptsSome D t → ⊥
no_adopter D t None e a h = a h.0 h.1.clause
no_adopter D t (Some u) e a h = absurd (cc)

-- where no made name is known the others are
bound_only : (names : List ℕ) (n : ℕ) → IsKnown names 0 n → In n names
bound_only names n (inl i) = i
bound_only names n (inr b) = absurd (omega (arith, b.1))

pub held_says : (D : Decls) (names : List ℕ) (t : Ty ℕ) (b : Bool) → (t ≡ Unknown_type → ⊥) → b ≡ all_in_type (known names 0) t → Says b (IsSought D (Held_sought names) t)
held_says D names t true n e = (n, λ m i. bound_only names m (type_says names 0 t true e m i))
held_says D names t false n e = λ h. type_says names 0 t false e (λ m i. inl (h.1 m i))

one_is : (a b : Atom ℕ) → Some a ≡ Some b → a ≡ b
one_is a b e = cc

name_is : (y : ℕ) (t : Ty ℕ) (n : ℕ) (u : Ty ℕ) → Has_atom y t ≡ Has_atom n u → n ≡ y
name_is y t n u e = cc

module _ (D : Decls) (s : Sought) (R : List (Atom ℕ)) (x : ℕ) where
  -- what is looked for passes the test
  passes : (s : Sought) (t : Ty ℕ) → IsSought D s t → Passes R (test_for s) t
  passes (Open_sought con) (Block_type k ys clause) p = p.0
  passes (Open_sought con) (Named_type d) p = absurd p
  passes (Open_sought con) (Function_type d) p = absurd p
  passes (Open_sought con) (Lock_type d) p = absurd p
  passes (Open_sought con) Int_type p = absurd p
  passes (Open_sought con) Unknown_type p = absurd p
  passes (Open_sought con) Dynamic_type p = absurd p
  passes (Open_sought con) Locked_type p = absurd p
  passes (Closed_sought d) t p = p
  passes (Known_sought d) t p = subst (λ u. Passes R Block_test u) (sym p.is) tt
  passes (Signed_sought count) t p = subst (λ u. Passes R Function_test u) (sym p.is) tt
  passes Adopter_sought t p = tt
  passes Lock_sought (Lock_type q) p = tt
  passes Lock_sought (Block_type k ys clause) p = absurd p.1
  passes Lock_sought (Named_type d) p = absurd p.1
  passes Lock_sought (Function_type d) p = absurd p.1
  passes Lock_sought Int_type p = absurd p.1
  passes Lock_sought Unknown_type p = absurd p.1
  passes Lock_sought Dynamic_type p = absurd p.1
  passes Lock_sought Locked_type p = absurd p.1
  passes (Held_sought names) t p = tt

  wider : (b : Atom ℕ) → InClass R x (IsSought D s) b → InClass R x (Passes R (test_for s)) b
  wider b c = record { name = c.name; ty = c.ty; is = c.is; joined = c.joined; fits = passes s c.ty c.fits }

  -- a permission that the index finds, and whose type is so
  is_so : (a : Atom ℕ) → InClass R x (Passes R (test_for s)) a → OfTy (IsSought D s) a → InClass R x (IsSought D s) a
  is_so (Has_atom y t) c o = record { name = y; ty = t; is = refl; joined = subst (λ z. Joined R x z) (name_is y t c.name c.ty c.is) c.joined; fits = o }
  is_so (Same_atom y z) c o = absurd o

  of_ty : (a : Atom ℕ) → InClass R x (IsSought D s) a → OfTy (IsSought D s) a
  of_ty a c = subst (OfTy (IsSought D s)) (sym c.is) c.fits

  -- nothing below this place is so
  abbrev pub NoneYet : ℕ → Type 0
  NoneYet n = NoneBelow (InClass R x (IsSought D s)) R n

  pub yet_start : NoneYet 0
  yet_start = asks_start (InClass R x (IsSought D s)) R x (test_for s) wider

  pub yet_none : (from : ℕ) (test : Test) → test ≡ test_for s → NoneYet from → FirstFrom R x from test None → FirstAt R x (IsSought D s) None
  yet_none from test e n f = asks_none (InClass R x (IsSought D s)) R x (test_for s) wider from n (subst (λ t. FirstFrom R x from t None) e f)

  pub yet_again : (from n : ℕ) (test : Test) (a : Atom ℕ) → test ≡ test_for s → NoneYet from → IsFrom R x from test n → slice_get R n ≡ Some a → (OfTy (IsSought D s) a → ⊥) → NoneYet (n + 1)
  yet_again from n test a e y f g other = let h = subst (λ t. IsFrom R x from t n) e f in
      asks_again (InClass R x (IsSought D s)) R x (test_for s) wider from n y h (λ c. other (subst (OfTy (IsSought D s)) (one_is h.one a (sym h.stands ∙ g)) (of_ty h.one c)))

  pub yet_found : (from n : ℕ) (test : Test) (a : Atom ℕ) → test ≡ test_for s → NoneYet from → IsFrom R x from test n → slice_get R n ≡ Some a → OfTy (IsSought D s) a → FirstAt R x (IsSought D s) (Some n)
  yet_found from n test a e y f g o = let h = subst (λ t. IsFrom R x from t n) e f in
      record { one = h.one; first = asks_found (InClass R x (IsSought D s)) R x (test_for s) wider from n y h (is_so h.one h.fits (subst (OfTy (IsSought D s)) (sym (one_is h.one a (sym h.stands ∙ g))) o)) }
