-- A name that is of the value's class in every branch, and the least of several.
use Rattle.std.proofs.Common.{◌≡◌, ◌⊎◌, ◌≤◌, Result, Ok, Err, IfOk, inl, inr, ℕ, arith, ◌+◌, List, [], ◌∷◌, ◌++◌, length, take, drop, Option, Some, None, slice_get, refl, sym, subst}
use Rattle.std.proofs.lemmas.List.{take_all, drop_all}
use Rattle.mz_perm.specs.Lists.{In}
use Rattle.mz_perm.specs.Joining.{Joined}
use Rattle.mz_perm.proofs.Remaining.{drop_at}
use Rattle.mz_elab.specs.Joins.{End, InEach}
use Rattle.mz_elab.specs.Joining.{plain_ends, CommonOf, IsBelow, Better}
use Rattle.mz_elab.specs.declared.ends.End.{End as CodeEnd}
use Rattle.mz_elab.proofs.AllGiving.{take_at}

-- whether the first k branches say so of the name leaves it to the others
pub record InFront (x : ℕ) (ends : List CodeEnd) (k : ℕ) : Type 0 where
  pub onward : InEach x (plain_ends ends) → InEach x (plain_ends (drop k ends))
  pub back : InEach x (plain_ends (drop k ends)) → InEach x (plain_ends ends)

pub front_start : (x : ℕ) (ends : List CodeEnd) → InFront x ends 0
front_start x ends = record { onward = λ i. i; back = λ i. i }

pub front_next : (x : ℕ) (ends : List CodeEnd) (k : ℕ) (e : CodeEnd) → InFront x ends k → slice_get ends k ≡ Some e → Joined e.state e.value x → InFront x ends (k + 1)
front_next x ends k e v is j = record {
  onward = λ i. (subst (λ l. InEach x (plain_ends l)) (drop_at ends k e is) (v.onward i)).1;
  back = λ i. v.back (subst (λ l. InEach x (plain_ends l)) (sym (drop_at ends k e is)) (j, i));
}

pub front_not : (x : ℕ) (ends : List CodeEnd) (k : ℕ) (e : CodeEnd) → InFront x ends k → slice_get ends k ≡ Some e → (Joined e.state e.value x → ⊥) → InEach x (plain_ends ends) → ⊥
front_not x ends k e v is n i = n (subst (λ l. InEach x (plain_ends l)) (drop_at ends k e is) (v.onward i)).0

pub front_end : (x : ℕ) (ends : List CodeEnd) (k : ℕ) → InFront x ends k → length ends ≤ k → InEach x (plain_ends ends)
front_end x ends k v h = v.back (subst (λ l. InEach x (plain_ends l)) (sym (drop_all k ends h)) tt)

-- a name at the end of others
pub in_end : (a : ℕ) (xs : List ℕ) → In a (xs ++ a ∷ [])
in_end a [] = inl refl
in_end a (x ∷ xs) = inr (in_end a xs)

pub in_front : (a b : ℕ) (xs : List ℕ) → In a xs → In a (xs ++ b ∷ [])
in_front a b [] i = absurd i
in_front a b (x ∷ xs) (inl e) = inl e
in_front a b (x ∷ xs) (inr i) = inr (in_front a b xs i)

pub in_either : (a b : ℕ) (xs : List ℕ) → In a (xs ++ b ∷ []) → In a xs ⊎ (a ≡ b)
in_either a b [] (inl e) = inr e
in_either a b [] (inr i) = absurd i
in_either a b (x ∷ xs) (inl e) = inl (inl e)
in_either a b (x ∷ xs) (inr i) = elim (in_either a b xs i) [ inl j ↦ inl (inr j) | inr e ↦ inr e ]

-- one name more: the best is the least of all so far
best_stays : (names : List ℕ) (ends : List End) (x : ℕ) (best : Option ℕ) → CommonOf best names ends → IsBelow best x ⊎ (InEach x ends → ⊥) → CommonOf best (names ++ x ∷ []) ends
best_stays names ends x None c (inl b) = absurd b
best_stays names ends x None c (inr n) = λ y i. elim (in_either y x names i.0) [ inl j ↦ c y (j, i.1) | inr e ↦ n (subst (λ z. InEach z ends) e i.1) ]
best_stays names ends x (Some b) c o = record {
  fits = (in_front b x names c.fits.0, c.fits.1);
  least = λ y i. elim (in_either y x names i.0) [
    | inl j ↦ c.least y (j, i.1)
    | inr e ↦ elim o [ inl h ↦ subst (λ z. b ≤ z) (sym e) h | inr n ↦ absurd (n (subst (λ z. InEach z ends) e i.1)) ]
  ];
}

best_moves : (names : List ℕ) (ends : List End) (x : ℕ) (best : Option ℕ) → CommonOf best names ends → InEach x ends → (IsBelow best x → ⊥) → CommonOf (Some x) (names ++ x ∷ []) ends
best_moves names ends x None c i n = record {
  fits = (in_end x names, i);
  least = λ y j. elim (in_either y x names j.0) [ inl k ↦ absurd (c y (k, j.1)) | inr e ↦ omega (arith, e) ];
}
best_moves names ends x (Some b) c i n = record {
  fits = (in_end x names, i);
  least = λ y j. elim (in_either y x names j.0) [ inl k ↦ (let h = c.least y (k, j.1) in omega (arith, h, n)) | inr e ↦ omega (arith, e) ];
}

pub best_next : (names : List ℕ) (ends : List End) (i x : ℕ) (best it : Option ℕ) → CommonOf best (take i names) ends → slice_get names i ≡ Some x → Better ends best x it → CommonOf it (take (i + 1) names) ends
best_next names ends i x best it c is (inl b) = subst (λ l. CommonOf it l ends) (sym (take_at names i x is)) (subst (λ o. CommonOf o (take i names ++ x ∷ []) ends) (sym b.0) (best_stays (take i names) ends x best c b.1))
best_next names ends i x best it c is (inr b) = subst (λ l. CommonOf it l ends) (sym (take_at names i x is)) (subst (λ o. CommonOf o (take i names ++ x ∷ []) ends) (sym b.0) (best_moves (take i names) ends x best c b.1 b.2))

pub best_end : (names : List ℕ) (ends : List End) (i : ℕ) (best : Option ℕ) → CommonOf best (take i names) ends → length names ≤ i → CommonOf best names ends
best_end names ends i best c h = subst (λ l. CommonOf best l ends) (take_all i names h) c

pub best_next_ok : {E : Type 0} (o : Result (Option ℕ) E) (names : List ℕ) (ends : List End) (i x : ℕ) (best : Option ℕ) → CommonOf best (take i names) ends → slice_get names i ≡ Some x → IfOk o (λ it. Better ends best x it) → IfOk o (λ it. CommonOf it (take (i + 1) names) ends)
best_next_ok (Err e) names ends i x best c is b = tt
best_next_ok (Ok it) names ends i x best c is b = best_next names ends i x best it c is b
