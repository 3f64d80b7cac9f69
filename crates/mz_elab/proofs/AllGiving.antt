-- What is given, one goal after the other.
use Rattle.std.proofs.Common.{◌≡◌, ◌<◌, ◌≤◌, inl, inr, ℕ, zero, suc, arith, ◌+◌, List, [], ◌∷◌, ◌++◌, length, get_or, take, drop, Some, slice_get, Ok, Err, refl, sym, ap, ◌∙◌, subst}
use Rattle.std.proofs.lemmas.List.{take_all, drop_all, map-append}
use Rattle.std.proofs.lemmas.Option.{slice_get-get_or}
use Rattle.mz_tree.specs.Plain.{Atom}
use Rattle.mz_tree.specs.View.{plain_atom, plain_atoms}
use Rattle.mz_tree.specs.declared.types.Atom.{Atom as CodeAtom}
use Rattle.mz_tree.specs.declared.types.Place.{Place}
use Rattle.mz_decl.specs.Declarations.{Decls}
use Rattle.mz_perm.proofs.Remaining.{drop_at}
use Rattle.mz_elab.specs.Joins.{Gives}
use Rattle.mz_elab.specs.Lacking.{GivesLack}
use Rattle.mz_elab.specs.Joining.{plain_ends, EachWrites, AllGoOn}
use Rattle.mz_elab.specs.declared.ends.End.{End as CodeEnd}
use Rattle.mz_elab.specs.declared.fault.ElabFault.TheVariants.{NoPermission}
use Rattle.mz_elab.proofs.EachWritten.{each_none, each_then}

-- what stands at a place ends the front of a list
some_is : {A : Type 0} (a b : A) → Some a ≡ Some b → a ≡ b
some_is a b e = cc

take_suc : {A : Type 0} (xs : List A) (i : ℕ) (x : A) → slice_get xs i ≡ Some x → take (suc i) xs ≡ take i xs ++ x ∷ []
take_suc [] i x e = absurd (cc)
take_suc (y ∷ ys) zero x e = ap (λ z. z ∷ []) (some_is y x e)
take_suc (y ∷ ys) (suc i) x e = ap (λ l. y ∷ l) (take_suc ys i x e)

pub take_at : {A : Type 0} (xs : List A) (i : ℕ) (x : A) → slice_get xs i ≡ Some x → take (i + 1) xs ≡ take i xs ++ x ∷ []
take_at xs i x e = let n : i + 1 ≡ suc i = omega arith in ap (λ k. take k xs) n ∙ take_suc xs i x e

-- what code reads at a place stands there
pub at_index : {A : Type 0} (xs : List A) (i : ℕ) (x : A) → i < length xs → x ≡ get_or xs i x → slice_get xs i ≡ Some x
at_index xs i x h e = slice_get-get_or xs i x h ∙ ap Some (sym e)

-- of a list of permissions
pub plain_more : (xs : List CodeAtom) (i : ℕ) (a : CodeAtom) → slice_get xs i ≡ Some a → i < length xs → plain_atoms (take (i + 1) xs) ≡ plain_atoms (take i xs) ++ plain_atom a ∷ []
plain_more xs i a is h = ap plain_atoms (take_at xs i a is) ∙ map-append plain_atom (take i xs) (a ∷ [])

pub plain_left : (xs : List CodeAtom) (i : ℕ) (a : CodeAtom) → slice_get xs i ≡ Some a → plain_atoms (drop i xs) ≡ plain_atom a ∷ plain_atoms (drop (i + 1) xs)
plain_left xs i a is = ap plain_atoms (drop_at xs i a is)

module _ (D : Decls) (K : ℕ → Type 0) (c : ℕ) (giving : List CodeAtom) (old : List CodeEnd) where
  -- the first i goals are met: what is said of the others is said of all
  pub record Giving (i : ℕ) (now : List CodeEnd) : Type 0 where
    pub gives : (after : List CodeEnd) → Gives D c (plain_atoms (drop i giving)) (plain_ends now) (plain_ends after) → Gives D c (plain_atoms giving) (plain_ends old) (plain_ends after)
    pub lacks : (place : Place) (a : Atom ℕ) → GivesLack D c (plain_atoms (drop i giving)) (plain_ends now) place a → GivesLack D c (plain_atoms giving) (plain_ends old) place a
    pub written : EachWrites D K c (plain_atoms (take i giving)) old now

  pub giving_start : Giving 0 old
  giving_start = record { gives = λ after g. g; lacks = λ place a l. l; written = each_none D K c old }

  pub giving_next : (i : ℕ) (a : CodeAtom) (now next : List CodeEnd) → Giving i now → slice_get giving i ≡ Some a → i < length giving → AllGoOn {A = Unit {0}} D K c (plain_atom a) now next (Ok tt) → Giving (i + 1) next
  giving_next i a now next v is h o = record {
    gives = λ after g. v.gives after (subst (λ l. Gives D c l (plain_ends now) (plain_ends after)) (sym (plain_left giving i a is)) (plain_ends next, o.0, g));
    lacks = λ place b l. v.lacks place b (subst (λ x. GivesLack D c x (plain_ends now) place b) (sym (plain_left giving i a is)) (inr (plain_ends next, o.0, l)));
    written = subst (λ l. EachWrites D K c l old next) (sym (plain_more giving i a is h)) (each_then D K c (plain_atoms (take i giving)) (plain_atom a ∷ []) old now next v.written o.1);
  }

  pub giving_lacks : (i : ℕ) (a : CodeAtom) (now next : List CodeEnd) (place : Place) (b : CodeAtom) → Giving i now → slice_get giving i ≡ Some a → AllGoOn {A = Unit {0}} D K c (plain_atom a) now next (Err (NoPermission place b)) → GivesLack D c (plain_atoms giving) (plain_ends old) place (plain_atom b)
  giving_lacks i a now next place b v is o = v.lacks place (plain_atom b) (subst (λ x. GivesLack D c x (plain_ends now) place (plain_atom b)) (sym (plain_left giving i a is)) (inl o))

  pub giving_end : (i : ℕ) (now : List CodeEnd) → Giving i now → length giving ≤ i → Gives D c (plain_atoms giving) (plain_ends old) (plain_ends now) × EachWrites D K c (plain_atoms giving) old now
  giving_end i now v h = (v.gives now (subst (λ l. Gives D c (plain_atoms l) (plain_ends now) (plain_ends now)) (sym (drop_all i giving h)) refl), subst (λ l. EachWrites D K c (plain_atoms l) old now) (take_all i giving h) v.written)
