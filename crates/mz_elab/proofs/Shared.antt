-- What stands in every branch, one permission after the other.
use Rattle.std.proofs.Common.{◌≡◌, ◌<◌, ◌≤◌, inl, inr, ℕ, arith, ◌+◌, Bool, true, false, List, [], ◌∷◌, ◌++◌, length, take, drop, set, Some, slice_get, refl, sym, ap, ◌∙◌, subst, append-nil, append_assoc}
use Rattle.std.proofs.lemmas.List.{take_more_set, drop-set-lt, length-set, take_all, drop_all, map-append}
use Rattle.mz_tree.specs.Plain.{Atom}
use Rattle.mz_tree.specs.Saying.{Says, Denies}
use Rattle.mz_tree.specs.View.{plain_atom, plain_atoms}
use Rattle.mz_tree.specs.declared.types.Atom.{Atom as CodeAtom}
use Rattle.mz_decl.specs.Declarations.{Decls}
use Rattle.mz_modes.specs.Affine.{AffineAtom}
use Rattle.mz_perm.specs.Lists.{In, TakesFirst, Removes}
use Rattle.mz_perm.proofs.Remaining.{drop_at}
use Rattle.mz_deriv.specs.Outer.{all_in_atom}
use Rattle.mz_elab.specs.Sought.{known}
use Rattle.mz_elab.specs.Joins.{End, OuterAtom, InAll, Shares}
use Rattle.mz_elab.specs.Joining.{plain_end, plain_ends, EachKeeps, TakesOut, TakesOutAll, AreOuter, SharesOne, SharesAll}
use Rattle.mz_elab.specs.declared.ends.End.{End as CodeEnd}
use Rattle.mz_elab.proofs.NamedAlone.{atom_says}
use Rattle.mz_elab.proofs.EachGiven.{whole, shift}

-- ---- whether it stands in every branch

pub record AllIn (a : Atom ℕ) (ends : List CodeEnd) (k : ℕ) : Type 0 where
  pub onward : InAll a (plain_ends ends) → InAll a (plain_ends (drop k ends))
  pub back : InAll a (plain_ends (drop k ends)) → InAll a (plain_ends ends)

pub all_start : (a : Atom ℕ) (ends : List CodeEnd) → AllIn a ends 0
all_start a ends = record { onward = λ i. i; back = λ i. i }

pub all_next : (a : Atom ℕ) (ends : List CodeEnd) (k : ℕ) (e : CodeEnd) → AllIn a ends k → slice_get ends k ≡ Some e → In a e.state → AllIn a ends (k + 1)
all_next a ends k e v is j = record {
  onward = λ i. (subst (λ l. InAll a (plain_ends l)) (drop_at ends k e is) (v.onward i)).1;
  back = λ i. v.back (subst (λ l. InAll a (plain_ends l)) (sym (drop_at ends k e is)) (j, i));
}

pub all_not : (a : Atom ℕ) (ends : List CodeEnd) (k : ℕ) (e : CodeEnd) → AllIn a ends k → slice_get ends k ≡ Some e → (In a e.state → ⊥) → InAll a (plain_ends ends) → ⊥
all_not a ends k e v is n i = n (subst (λ l. InAll a (plain_ends l)) (drop_at ends k e is) (v.onward i)).0

pub all_end : (a : Atom ℕ) (ends : List CodeEnd) (k : ℕ) → AllIn a ends k → length ends ≤ k → InAll a (plain_ends ends)
all_end a ends k v h = v.back (subst (λ l. InAll a (plain_ends l)) (sym (drop_all k ends h)) tt)

-- ---- it is taken out of each

pub out_by : (b : Bool) (a : Atom ℕ) (R S : List (Atom ℕ)) → Removes b a R S → In a R → TakesFirst a R S
out_by true a R S r i = r
out_by false a R S r i = absurd (r.0 i)

module _ (a : Atom ℕ) where
  pub record Outs (old : List CodeEnd) (k : ℕ) (now : List CodeEnd) : Type 0 where
    pub left : drop k now ≡ drop k old
    pub many : length now ≡ length old
    pub done : (tail : List CodeEnd) → TakesOutAll a (drop k old) tail → TakesOutAll a old (take k now ++ tail)

  pub outs_start : (old : List CodeEnd) → Outs old 0 old
  outs_start old = record { left = refl; many = refl; done = λ tail d. d }

  next_out : (e f : CodeEnd) (rest tail : List CodeEnd) → TakesOut a e f → TakesOutAll a rest tail → TakesOutAll a (e ∷ rest) (f ∷ tail)
  next_out e f rest tail o d i = (let r = d i.1 in ((f.state, plain_ends tail, o.0 i.0, r.0, same), (o.1, r.1)))
    where
      same : plain_end f ∷ plain_ends tail ≡ record { state = f.state; value = e.value; brace = e.brace } ∷ plain_ends tail
      same = ap (λ v. record { state = f.state; value = v; brace = f.brace } ∷ plain_ends tail) o.1.0 ∙ ap (λ b. record { state = f.state; value = e.value; brace = b } ∷ plain_ends tail) o.1.1

  pub outs_next : (old now : List CodeEnd) (k : ℕ) (e f : CodeEnd) → Outs old k now → k < length now → slice_get now k ≡ Some e → TakesOut a e f → Outs old (k + 1) (set now k f)
  outs_next old now k e f v h is o = record {
    left = drop-set-lt (k + 1) now k f (omega arith) ∙ shift now old k e is v.left;
    many = length-set now k f ∙ v.many;
    done = λ tail d. subst (λ l. TakesOutAll a old l) (joined tail) (v.done (f ∷ tail) (subst (λ l. TakesOutAll a l (f ∷ tail)) (sym (whole old now k e is v.left)) (next_out e f (drop (k + 1) old) tail o d)));
  }
    where
      joined : (tail : List CodeEnd) → take k now ++ f ∷ tail ≡ take (k + 1) (set now k f) ++ tail
      joined tail = sym (append_assoc (take k now) (f ∷ []) tail) ∙ ap (λ l. l ++ tail) (sym (take_more_set now k f h))

  pub outs_end : (old now : List CodeEnd) (k : ℕ) → Outs old k now → length now ≤ k → TakesOutAll a old now
  outs_end old now k v h = subst (λ l. TakesOutAll a old l) (append-nil (take k now) ∙ take_all k now h) (v.done [] (subst (λ l. TakesOutAll a l []) (sym (sym v.left ∙ drop_all k now h)) (λ i. (refl, refl))))

-- ---- nothing is taken out

pub each_kept : (ends : List CodeEnd) → EachKeeps ends ends
each_kept [] = refl
each_kept (e ∷ ends) = ((refl, refl, refl), each_kept ends)

pub kept_then : (ends mid after : List CodeEnd) → EachKeeps ends mid → EachKeeps mid after → EachKeeps ends after
kept_then [] mid after v w = by mid v w
  where
    by : (mid : List CodeEnd) → mid ≡ [] → EachKeeps mid after → after ≡ []
    by [] e w = w
    by (x ∷ xs) e w = absurd (cc)
kept_then (e ∷ ends) [] after v w = absurd v
kept_then (e ∷ ends) (f ∷ mid) [] v w = absurd w
kept_then (e ∷ ends) (f ∷ mid) (g ∷ after) v w = ((w.0.0 ∙ v.0.0, w.0.1 ∙ v.0.1, w.0.2 ∙ v.0.2), kept_then ends mid after v.1 w.1)

-- ---- one permission

outer_says : (outer names : List ℕ) (R : List (Atom ℕ)) (a : Atom ℕ) (b : Bool) → AreOuter outer names R → b ≡ all_in_atom (known outer 0) a → Says b (OuterAtom names R a)
outer_says outer names R a true o e = λ n i. elim (atom_says outer 0 a true e n i) [ inl j ↦ (o n).0 j | inr h ↦ absurd (omega (arith, h.1)) ]
outer_says outer names R a false o e = λ f. atom_says outer 0 a false e (λ n i. inl ((o n).1 (f n i)))

pub no_share_outer : (D : Decls) (outer names : List ℕ) (R : List (Atom ℕ)) (a : Atom ℕ) (b : Bool) (ends : List CodeEnd) (join : List (Atom ℕ)) → b ≡ false → AreOuter outer names R → b ≡ all_in_atom (known outer 0) a → SharesOne D names R a ends ends join join
no_share_outer D outer names R a true ends join f o e = absurd (cc)
no_share_outer D outer names R a false ends join f o e = inr (record { not = λ s. outer_says outer names R a false o e s.0; same = refl; join_same = refl })

pub no_share_in : (D : Decls) (names : List ℕ) (R : List (Atom ℕ)) (a : Atom ℕ) (b : Bool) (ends : List CodeEnd) (join : List (Atom ℕ)) → b ≡ false → Says b (InAll a (plain_ends ends)) → SharesOne D names R a ends ends join join
no_share_in D names R a true ends join f s = absurd (cc)
no_share_in D names R a false ends join f s = inr (record { not = λ i. s i.1; same = refl; join_same = refl })

is_so : (b : Bool) (P : Type 0) → b ≡ true → Says b P → P
is_so true P e s = s
is_so false P e s = absurd (cc)

is_affine : (D : Decls) (b : Bool) (a : Atom ℕ) → b ≡ false → Denies b (AffineAtom D a) → AffineAtom D a
is_affine D true a e s = absurd (cc)
is_affine D false a e s = s

is_spare : (D : Decls) (b : Bool) (a : Atom ℕ) → b ≡ true → Denies b (AffineAtom D a) → AffineAtom D a → ⊥
is_spare D true a e s = s
is_spare D false a e s = absurd (cc)

pub share_affine : (D : Decls) (outer names : List ℕ) (R : List (Atom ℕ)) (a : Atom ℕ) (b i f : Bool) (ends after : List CodeEnd) (join all : List (Atom ℕ)) → b ≡ true → i ≡ true → f ≡ false → AreOuter outer names R → b ≡ all_in_atom (known outer 0) a → Says i (InAll a (plain_ends ends)) → Denies f (AffineAtom D a) → TakesOutAll a ends after → all ≡ join ++ a ∷ [] → SharesOne D names R a ends after join all
share_affine D outer names R a b i f ends after join all tb ti ff o e s m t h =
    let stands = is_so i (InAll a (plain_ends ends)) ti s in
    inl (record {
      shared = (is_so b (OuterAtom names R a) tb (outer_says outer names R a b o e), stands);
      leaves = inl (is_affine D f a ff m, (t stands).0);
      keeps = (t stands).1;
      more = h;
    })

pub share_spare : (D : Decls) (outer names : List ℕ) (R : List (Atom ℕ)) (a : Atom ℕ) (b i f : Bool) (ends : List CodeEnd) (join all : List (Atom ℕ)) → b ≡ true → i ≡ true → f ≡ true → AreOuter outer names R → b ≡ all_in_atom (known outer 0) a → Says i (InAll a (plain_ends ends)) → Denies f (AffineAtom D a) → all ≡ join ++ a ∷ [] → SharesOne D names R a ends ends join all
share_spare D outer names R a b i f ends join all tb ti tf o e s m h = inl (record {
  shared = (is_so b (OuterAtom names R a) tb (outer_says outer names R a b o e), is_so i (InAll a (plain_ends ends)) ti s);
  leaves = inr (is_spare D f a tf m, refl);
  keeps = each_kept ends;
  more = h;
})

-- a permission is put at the end
pub put_end : (xs ys : List CodeAtom) (x a : CodeAtom) → ys ≡ xs ++ x ∷ [] → x ≡ a → plain_atoms ys ≡ plain_atoms xs ++ plain_atom a ∷ []
put_end xs ys x a e f = ap plain_atoms (e ∙ ap (λ z. xs ++ z ∷ []) f) ∙ map-append plain_atom xs (a ∷ [])

-- ---- the loop

module _ (D : Decls) (names : List ℕ) (R these start : List (Atom ℕ)) (old : List CodeEnd) where
  pub record Sharing (i : ℕ) (now : List CodeEnd) (join : List (Atom ℕ)) : Type 0 where
    pub share : List (Atom ℕ)
    pub shares : (after : List End) (more : List (Atom ℕ)) → Shares D names R (drop i these) (plain_ends now) after more → Shares D names R these (plain_ends old) after (share ++ more)
    pub is : join ≡ start ++ share
    pub keeps : EachKeeps old now

  pub sharing_start : Sharing 0 old start
  sharing_start = record { share = []; shares = λ after more s. s; is = sym (append-nil start); keeps = each_kept old }

  pub sharing_next : (i : ℕ) (a : Atom ℕ) (now next : List CodeEnd) (join all : List (Atom ℕ)) → Sharing i now join → slice_get these i ≡ Some a → SharesOne D names R a now next join all → Sharing (i + 1) next all
  sharing_next i a now next join all p is (inl o) = record {
    share = p.share ++ a ∷ [];
    shares = λ after more s. subst (λ l. Shares D names R these (plain_ends old) after l) (sym (append_assoc p.share (a ∷ []) more)) (p.shares after (a ∷ more) (subst (λ l. Shares D names R l (plain_ends now) after (a ∷ more)) (sym (drop_at these i a is)) (inl (o.shared, (plain_ends next, more, o.leaves, s, refl)))));
    is = o.more ∙ ap (λ l. l ++ a ∷ []) p.is ∙ append_assoc start p.share (a ∷ []);
    keeps = kept_then old now next p.keeps o.keeps;
  }
  sharing_next i a now next join all p is (inr o) = record {
    share = p.share;
    shares = λ after more s. p.shares after more (subst (λ l. Shares D names R l (plain_ends now) after more) (sym (drop_at these i a is)) (inr (o.not, subst (λ e. Shares D names R (drop (i + 1) these) (plain_ends e) after more) o.same s)));
    is = o.join_same ∙ p.is;
    keeps = subst (EachKeeps old) (sym o.same) p.keeps;
  }

  pub sharing_end : (i : ℕ) (now : List CodeEnd) (join : List (Atom ℕ)) → Sharing i now join → length these ≤ i → SharesAll D names R these old now start join
  sharing_end i now join p h = record {
    share = p.share;
    shares = subst (λ l. Shares D names R these (plain_ends old) (plain_ends now) l) (append-nil p.share) (p.shares (plain_ends now) [] (subst (λ l. Shares D names R l (plain_ends now) (plain_ends now) []) (sym (drop_all i these h)) (refl, refl)));
    is = p.is;
    keeps = p.keeps;
  }
