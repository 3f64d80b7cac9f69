-- What is known of the value of all branches.
use Rattle.std.proofs.Common.{◌≡◌, ◌<◌, inl, inr, ℕ, arith, List, [], ◌∷◌, ◌++◌, length, Option, Some, None, slice_get, sym, ap, ◌∙◌, subst, append-nil}
use Rattle.std.proofs.lemmas.Option.{slice_get_within}
use Rattle.mz_tree.specs.Plain.{Ty, Atom, Unknown_type, Has_atom, Same_atom}
use Rattle.mz_tree.specs.View.{plain_ty}
use Rattle.mz_tree.specs.declared.types.Ty.{Ty as CodeTy}
use Rattle.mz_decl.specs.Declarations.{Decls}
use Rattle.mz_deriv.specs.Parts.{SameNames}
use Rattle.mz_index.specs.Finding.{NoneFits, InClass}
use Rattle.mz_elab.specs.Sought.{FirstAt, IsSought, Held_sought}
use Rattle.mz_elab.specs.Joins.{End, OuterType, InEach, IsCommon, IsLeast, HoldsValue, first_state, AllNeed, Values, Value_named, Value_held, Value_left, Value_unknown}
use Rattle.mz_elab.specs.Joining.{plain_ends, EachWrites, CommonOf, AreOuter, HeldIn, HeldTy, HoldsOr, Names, ValuesAll, TypeKnown}
use Rattle.mz_elab.specs.declared.ends.End.{End as CodeEnd}
use Rattle.mz_elab.proofs.EachWritten.{each_none}

-- ---- outer names, as a list

module _ (S : List (Atom ℕ)) (x : ℕ) (P Q : Ty ℕ → Type 0) (onward : (t : Ty ℕ) → P t → Q t) (back : (t : Ty ℕ) → Q t → P t) where
  class_onward : (a : Atom ℕ) → InClass S x P a → InClass S x Q a
  class_onward a c = record { name = c.name; ty = c.ty; is = c.is; joined = c.joined; fits = onward c.ty c.fits }

  class_back : (a : Atom ℕ) → InClass S x Q a → InClass S x P a
  class_back a c = record { name = c.name; ty = c.ty; is = c.is; joined = c.joined; fits = back c.ty c.fits }

  first_onward : (found : Option ℕ) → FirstAt S x P found → FirstAt S x Q found
  first_onward None f = λ k b g c. f k b g (class_back b c)
  first_onward (Some n) f = record { one = f.one; first = record { stands = f.first.stands; fits = class_onward f.one f.first.fits; before = λ k b h g c. f.first.before k b h g (class_back b c) } }

pub held_in : (D : Decls) (outer again names : List ℕ) (R S : List (Atom ℕ)) (x : ℕ) (found : Option ℕ) → again ≡ outer → AreOuter outer names R → FirstAt S x (IsSought D (Held_sought again)) found → HeldIn names R S x found
held_in D outer again names R S x found e o f = first_onward S x (IsSought D (Held_sought outer)) (λ t. (t ≡ Unknown_type → ⊥) × OuterType names R t)
    (λ t p. (p.0, λ n i. (o n).0 (p.1 n i))) (λ t q. (q.0, λ n i. (o n).1 (q.1 n i))) found (subst (λ l. FirstAt S x (IsSought D (Held_sought l)) found) e f)

-- ---- the type of what is held

pub held_within : (P : Ty ℕ → Type 0) (S : List (Atom ℕ)) (x n : ℕ) (found : Option ℕ) → found ≡ Some n → FirstAt S x P found → n < length S
held_within P S x n None e h = absurd (cc)
held_within P S x n (Some m) e h = let is : m ≡ n = some_is m n e in subst (λ k. k < length S) is (slice_get_within S m h.one h.first.stands)
  where
    some_is : (a b : ℕ) → Some a ≡ Some b → a ≡ b
    some_is a b e = cc

pub held_none : (names : List ℕ) (R S : List (Atom ℕ)) (x : ℕ) (found : Option ℕ) → found ≡ None → HeldIn names R S x found → HeldTy names R S x None
held_none names R S x None e h = h
held_none names R S x (Some m) e h = absurd (cc)

pub held_some : (names : List ℕ) (R S : List (Atom ℕ)) (x n : ℕ) (found : Option ℕ) (ty : CodeTy) → found ≡ Some n → ((y : ℕ) (t : Ty ℕ) → slice_get S n ≡ Some (Has_atom y t) → plain_ty ty ≡ t) → HeldIn names R S x found → HeldTy names R S x (Some ty)
held_some names R S x n None ty e t h = absurd (cc)
held_some names R S x n (Some m) ty e t h = record {
  place = m;
  one = h.one;
  first = h.first;
  ty = t h.first.fits.name h.first.fits.ty (subst (λ k. slice_get S k ≡ Some (Has_atom h.first.fits.name h.first.fits.ty)) (some_is m n e) (h.first.stands ∙ ap Some h.first.fits.is));
}
  where
    some_is : (a b : ℕ) → Some a ≡ Some b → a ≡ b
    some_is a b e = cc

-- ---- the value

module _ (D : Decls) (K : ℕ → Type 0) (names : List ℕ) (R : List (Atom ℕ)) (c : ℕ) where
  nothing : (ends : List CodeEnd) (join : List (Atom ℕ)) → ((x : ℕ) → IsCommon names (plain_ends ends) x → ⊥) → NoneFits (HoldsValue names R (plain_ends ends)) (first_state (plain_ends ends)) → ValuesAll D K names R c ends ends join join
  nothing ends join none f = record { value = []; values = Value_unknown none f; is = sym (append-nil join); written = each_none D K c ends }

  pub no_branch : (ends : List CodeEnd) (join : List (Atom ℕ)) → length ends ≡ 0 → TypeKnown D K names R c ends ends join join
  no_branch [] join e = λ none. nothing [] join none (λ k b g p. absurd (none_there k b g))
    where
      none_there : (k : ℕ) (b : Atom ℕ) → slice_get {X = Atom ℕ} [] k ≡ Some b → ⊥
      none_there k b g = cc
  no_branch (x ∷ xs) join e = absurd (omega (arith, e))

  pub no_type : (ends : List CodeEnd) (e : CodeEnd) (join : List (Atom ℕ)) → slice_get ends 0 ≡ Some e → HeldTy names R e.state e.value None → TypeKnown D K names R c ends ends join join
  no_type [] e join is h = absurd (cc)
  no_type (f ∷ rest) e join is h = λ none. nothing (f ∷ rest) join none (subst (λ g. HeldTy names R g.state g.value None) (sym (some_is f e is)) h)
    where
      some_is : (a b : CodeEnd) → Some a ≡ Some b → a ≡ b
      some_is a b e = cc

  pub one_type : (ends after : List CodeEnd) (e : CodeEnd) (join all : List (Atom ℕ)) (ty : CodeTy) → slice_get ends 0 ≡ Some e → HeldTy names R e.state e.value (Some ty) → HoldsOr D K c (plain_ty ty) ends after join all → TypeKnown D K names R c ends after join all
  one_type [] after e join all ty is h o = absurd (cc)
  one_type (f ∷ rest) after e join all ty is h o = λ none. by (subst (λ g. HeldTy names R g.state g.value (Some ty)) (sym (some_is f e is)) h) none o
    where
      some_is : (a b : CodeEnd) → Some a ≡ Some b → a ≡ b
      some_is a b e = cc

      by : HeldTy names R f.state f.value (Some ty) → ((x : ℕ) → IsCommon names (plain_ends (f ∷ rest)) x → ⊥) → HoldsOr D K c (plain_ty ty) (f ∷ rest) after join all → ValuesAll D K names R c (f ∷ rest) after join all
      by h none (inl m) = record {
        value = Has_atom c h.first.fits.ty ∷ [];
        values = Value_held h.place h.one (plain_ends after) none h.first (subst (λ t. AllNeed D c (Has_atom c t) (plain_ends (f ∷ rest)) (plain_ends after)) h.ty m.met);
        is = m.is ∙ ap (λ t. join ++ Has_atom c t ∷ []) h.ty;
        written = subst (λ t. EachWrites D K c (Has_atom c t ∷ []) (f ∷ rest) after) h.ty m.written;
      }
      by h none (inr m) = subst (λ l. ValuesAll D K names R c (f ∷ rest) l join all) (sym m.same) (subst (λ l. ValuesAll D K names R c (f ∷ rest) (f ∷ rest) join l) (sym m.join_same) (record {
        value = [];
        values = Value_left h.place h.one none h.first (subst (λ t. (S : List End) → AllNeed D c (Has_atom c t) (plain_ends (f ∷ rest)) S → ⊥) h.ty m.not);
        is = sym (append-nil join);
        written = each_none D K c (f ∷ rest);
      }))

  pub one_name : (bound : List ℕ) (ends after : List CodeEnd) (join all : List (Atom ℕ)) (x : ℕ) (found : Option ℕ) → SameNames bound names → found ≡ Some x → CommonOf found bound (plain_ends ends) → Names D K c x ends after join all → ValuesAll D K names R c ends after join all
  one_name bound ends after join all x None s e f n = absurd (cc)
  one_name bound ends after join all x (Some y) s e f n = record {
    value = Same_atom c x ∷ [];
    values = subst (λ l. Values D names R c (plain_ends ends) l (Same_atom c x ∷ [])) (sym n.same) (Value_named x (record {
      fits = ((s x).0 least.fits.0, least.fits.1);
      least = λ z i. least.least z ((s z).1 i.0, i.1);
    }));
    is = n.is;
    written = n.written;
  }
    where
      some_is : (a b : ℕ) → Some a ≡ Some b → a ≡ b
      some_is a b e = cc

      least : IsLeast (IsCommon bound (plain_ends ends)) x
      least = subst (IsLeast (IsCommon bound (plain_ends ends))) (some_is y x e) f

  pub no_name : (bound : List ℕ) (ends after : List CodeEnd) (join all : List (Atom ℕ)) (found : Option ℕ) → SameNames bound names → found ≡ None → CommonOf found bound (plain_ends ends) → TypeKnown D K names R c ends after join all → ValuesAll D K names R c ends after join all
  no_name bound ends after join all (Some y) s e f t = absurd (cc)
  no_name bound ends after join all None s e f t = t (λ x i. f x ((s x).1 i.0, i.1))

-- a bound name that is common is of each class
pub each_class : (bound : List ℕ) (ends : List CodeEnd) (x : ℕ) (found : Option ℕ) → found ≡ Some x → CommonOf found bound (plain_ends ends) → InEach x (plain_ends ends)
each_class bound ends x None e f = absurd (cc)
each_class bound ends x (Some y) e f = subst (λ z. InEach z (plain_ends ends)) (some_is y x e) f.fits.1
  where
    some_is : (a b : ℕ) → Some a ≡ Some b → a ≡ b
    some_is a b e = cc
