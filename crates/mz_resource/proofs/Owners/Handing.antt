-- Two owners share anew what they had, or one gets what was nobody's; then still nothing is owned by two.
use Rattle.std.proofs.Common.{◌≡◌, ◌⊎◌, inl, inr, ℕ, zero, suc, ◌+◌, ◌<◌, ◌≤◌, refl, sym, ap, ◌∙◌, subst, arith}
use Rattle.std.proofs.lemmas.Bool.{cases_eq}
use Rattle.mz_resource.specs.Meaning.{Owned}
use Rattle.mz_resource.specs.Owners.{Owner, Of_thread, Of_adopted, Of_lock, IsFair}

pub cases_owner : (o p : Owner) → (o ≡ p) ⊎ (o ≡ p → ⊥)
cases_owner (Of_thread k) (Of_thread j) = elim (cases_eq k j) [ inl e ↦ inl (ap Of_thread e) | inr n ↦ inr (λ e. n (cc)) ]
cases_owner (Of_adopted k) (Of_adopted j) = elim (cases_eq k j) [ inl e ↦ inl (ap Of_adopted e) | inr n ↦ inr (λ e. n (cc)) ]
cases_owner (Of_lock k) (Of_lock j) = elim (cases_eq k j) [ inl e ↦ inl (ap Of_lock e) | inr n ↦ inr (λ e. n (cc)) ]
cases_owner (Of_thread k) (Of_adopted j) = inr (λ e. absurd (cc))
cases_owner (Of_thread k) (Of_lock j) = inr (λ e. absurd (cc))
cases_owner (Of_adopted k) (Of_thread j) = inr (λ e. absurd (cc))
cases_owner (Of_adopted k) (Of_lock j) = inr (λ e. absurd (cc))
cases_owner (Of_lock k) (Of_thread j) = inr (λ e. absurd (cc))
cases_owner (Of_lock k) (Of_adopted j) = inr (λ e. absurd (cc))

-- what the two owners have together afterwards is what they had, or is no one's before
pub record Hands_on (own : Owner → Owned) (a b : Owner) (own' : Owner → Owned) : Type 0 where
  pub differ : a ≡ b → ⊥
  pub others : (o : Owner) → (o ≡ a → ⊥) → (o ≡ b → ⊥) → (t : ℕ) → own' o t ≡ own o t
  pub sum : (t : ℕ) → (own' a t + own' b t ≤ own a t + own b t) ⊎ ((own' a t + own' b t ≤ 1) × ((o : Owner) → own o t ≡ 0))

module _ (own own' : Owner → Owned) (a b : Owner) (fair : IsFair own) (h : Hands_on own a b own') where
  -- the two together own a token once
  pub both_once : (t : ℕ) → own' a t + own' b t ≤ 1
  both_once t = elim (h.sum t) [
    | inl l ↦ once_of (own a t) (own b t) (own' a t + own' b t) (fair.once a t) (fair.once b t) (λ p q. h.differ (fair.apart a b t p q)) l
    | inr l ↦ l.0
  ]
    where
      once_of : (x y z : ℕ) → x ≤ 1 → y ≤ 1 → (0 < x → 0 < y → ⊥) → z ≤ x + y → z ≤ 1
      once_of x y z l m n k = elim (cases_zero x) [ inl e ↦ omega arith | inr p ↦ elim (cases_zero y) [ inl e ↦ omega arith | inr q ↦ absurd (n p q) ] ]
        where
          cases_zero : (x : ℕ) → (x ≡ 0) ⊎ (0 < x)
          cases_zero zero = inl refl
          cases_zero (suc x) = inr (omega arith)

  -- who owns a token afterwards: one of the two, and one of them owned it before or no one did; or the same owner
  pub before : (o : Owner) (t : ℕ) → 0 < own' o t → (0 < own o t) ⊎ ((o ≡ a) ⊎ (o ≡ b))
  before o t l = elim (cases_owner o a) [ inl e ↦ inr (inl e) | inr n ↦ elim (cases_owner o b) [ inl e ↦ inr (inr e) | inr m ↦ inl (subst (λ x. 0 < x) (h.others o n m t) l) ] ]

  pub handed_fair : IsFair own'
  handed_fair = record { once = once; apart = apart }
    where
      once : (o : Owner) (t : ℕ) → own' o t ≤ 1
      once o t = elim (cases_owner o a) [
        | inl e ↦ subst (λ q. own' q t ≤ 1) (sym e) (omega (arith, both_once t))
        | inr n ↦ elim (cases_owner o b) [ inl e ↦ subst (λ q. own' q t ≤ 1) (sym e) (omega (arith, both_once t)) | inr m ↦ subst (λ x. x ≤ 1) (sym (h.others o n m t)) (fair.once o t) ]
      ]

      -- another owner than the two owns nothing that one of the two has afterwards
      alone : (p : Owner) (t : ℕ) → (p ≡ a → ⊥) → (p ≡ b → ⊥) → 0 < own p t → 0 < own' a t + own' b t → ⊥
      alone p t n m l q = elim (h.sum t) [
        | inl s ↦ elim (split (own a t) (own b t) (omega (arith, s, q))) [ inl x ↦ n (fair.apart p a t l x) | inr x ↦ m (fair.apart p b t l x) ]
        | inr s ↦ omega (arith, l, s.1 p)
      ]
        where
          split : (x y : ℕ) → 0 < x + y → (0 < x) ⊎ (0 < y)
          split zero y l = inr (omega (arith, l))
          split (suc x) y l = inl (omega arith)

      two : (p : Owner) (t : ℕ) → (p ≡ a) ⊎ (p ≡ b) → 0 < own' p t → 0 < own' a t + own' b t
      two p t (inl e) l = let q : 0 < own' a t = subst (λ x. 0 < own' x t) e l in omega arith
      two p t (inr e) l = let q : 0 < own' b t = subst (λ x. 0 < own' x t) e l in omega arith

      both : (o p : Owner) (t : ℕ) → (o ≡ a) ⊎ (o ≡ b) → (p ≡ a) ⊎ (p ≡ b) → 0 < own' o t → 0 < own' p t → o ≡ p
      both o p t (inl e) (inl f) x y = e ∙ sym f
      both o p t (inr e) (inr f) x y = e ∙ sym f
      both o p t (inl e) (inr f) x y = let q : 0 < own' a t = subst (λ z. 0 < own' z t) e x in let r : 0 < own' b t = subst (λ z. 0 < own' z t) f y in absurd (omega (arith, both_once t))
      both o p t (inr e) (inl f) x y = let q : 0 < own' b t = subst (λ z. 0 < own' z t) e x in let r : 0 < own' a t = subst (λ z. 0 < own' z t) f y in absurd (omega (arith, both_once t))

      kind : (o : Owner) → ((o ≡ a) ⊎ (o ≡ b)) ⊎ ((o ≡ a → ⊥) × (o ≡ b → ⊥))
      kind o = elim (cases_owner o a) [ inl e ↦ inl (inl e) | inr n ↦ elim (cases_owner o b) [ inl e ↦ inl (inr e) | inr m ↦ inr (n, m) ] ]

      apart : (o p : Owner) (t : ℕ) → 0 < own' o t → 0 < own' p t → o ≡ p
      apart o p t x y = elim (kind o) [
        | inl c ↦ elim (kind p) [ inl d ↦ both o p t c d x y | inr d ↦ absurd (alone p t d.0 d.1 (subst (λ z. 0 < z) (h.others p d.0 d.1 t) y) (two o t c x)) ]
        | inr c ↦ elim (kind p) [
          | inl d ↦ absurd (alone o t c.0 c.1 (subst (λ z. 0 < z) (h.others o c.0 c.1 t) x) (two p t d y))
          | inr d ↦ fair.apart o p t (subst (λ z. 0 < z) (h.others o c.0 c.1 t) x) (subst (λ z. 0 < z) (h.others p d.0 d.1 t) y)
        ]
      ]

-- two owners have other things
abbrev pub with_two : Owner → Owned → Owner → Owned → (Owner → Owned) → Owner → Owned
with_two a f b g own o = elim (cases_owner o a) [ inl e ↦ f | inr n ↦ elim (cases_owner o b) [ inl e ↦ g | inr m ↦ own o ] ]

pub two_first : (a b : Owner) (f g : Owned) (own : Owner → Owned) → with_two a f b g own a ≡ f
two_first a b f g own = by (cases_owner a a)
  where
    by : (c : (a ≡ a) ⊎ (a ≡ a → ⊥)) → elim c as (λ x. Owned) [ inl e ↦ f | inr n ↦ elim (cases_owner a b) as (λ x. Owned) [ inl e ↦ g | inr m ↦ own a ] ] ≡ f
    by (inl e) = refl
    by (inr n) = absurd (n refl)

pub two_second : (a b : Owner) (f g : Owned) (own : Owner → Owned) → (a ≡ b → ⊥) → with_two a f b g own b ≡ g
two_second a b f g own d = by (cases_owner b a) (cases_owner b b)
  where
    by : (c : (b ≡ a) ⊎ (b ≡ a → ⊥)) (k : (b ≡ b) ⊎ (b ≡ b → ⊥)) → elim c as (λ x. Owned) [ inl e ↦ f | inr n ↦ elim k as (λ x. Owned) [ inl e ↦ g | inr m ↦ own b ] ] ≡ g
    by (inl e) k = absurd (d (sym e))
    by (inr n) (inl e) = refl
    by (inr n) (inr m) = absurd (m refl)

pub two_others : (a b : Owner) (f g : Owned) (own : Owner → Owned) (o : Owner) → (o ≡ a → ⊥) → (o ≡ b → ⊥) → with_two a f b g own o ≡ own o
two_others a b f g own o n m = by (cases_owner o a) (cases_owner o b)
  where
    by : (c : (o ≡ a) ⊎ (o ≡ a → ⊥)) (k : (o ≡ b) ⊎ (o ≡ b → ⊥)) → elim c as (λ x. Owned) [ inl e ↦ f | inr n ↦ elim k as (λ x. Owned) [ inl e ↦ g | inr m ↦ own o ] ] ≡ own o
    by (inl e) k = absurd (n e)
    by (inr x) (inl e) = absurd (m e)
    by (inr x) (inr y) = refl

-- two owners share what they had, or a token that was no one's
pub two_fair : (own : Owner → Owned) (a b : Owner) (f g : Owned) → IsFair own → (a ≡ b → ⊥) → ((t : ℕ) → (f t + g t ≤ own a t + own b t) ⊎ ((f t + g t ≤ 1) × ((o : Owner) → own o t ≡ 0))) → IsFair (with_two a f b g own)
two_fair own a b f g fair d sum = handed_fair own (with_two a f b g own) a b fair (record {
  differ = d;
  others = λ o n m t. ap (λ (z : Owned). z t) (two_others a b f g own o n m);
  sum = λ t. subst (λ (z : Owned). (z t + with_two a f b g own b t ≤ own a t + own b t) ⊎ ((z t + with_two a f b g own b t ≤ 1) × ((o : Owner) → own o t ≡ 0))) (sym (two_first a b f g own))
      (subst (λ (z : Owned). (f t + z t ≤ own a t + own b t) ⊎ ((f t + z t ≤ 1) × ((o : Owner) → own o t ≡ 0))) (sym (two_second a b f g own d)) (sum t));
})
