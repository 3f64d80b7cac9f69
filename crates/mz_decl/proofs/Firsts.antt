-- First places, put together from the parts in which they are looked for.
use Rattle.std.proofs.Common.{◌≡◌, ◌⊎◌, inl, inr, ℕ, ◌+◌, Option, Some, None, refl, sym, ◌∙◌, subst, arith}
use Rattle.std.proofs.lemmas.Bool.{cases_eq}
use Rattle.mz_tree.specs.declared.types.Place.{Place}
use Rattle.mz_decl.specs.Places.{IsNotAfter, IsFirst, IsBelow, IsEarlier}

-- lines and columns are numbers, so the order of places goes on
pub not_after_next : (a b c : Place) → IsNotAfter a b → IsNotAfter b c → IsNotAfter a c
not_after_next a b c (inl f) (inl g) = inl (omega arith)
not_after_next a b c (inl f) (inr g) = inl (omega (arith, g.0))
not_after_next a b c (inr f) (inl g) = inl (omega (arith, f.0))
not_after_next a b c (inr f) (inr g) = inr (f.0 ∙ g.0, omega (arith, f.1, g.1))

-- a place isn't after itself
pub not_after_self : (a b : Place) → b ≡ a → IsNotAfter a b
not_after_self a b e = subst (λ x. IsNotAfter a x) (sym e) (inr (refl, omega arith))

-- what stands at the same places has the same first place
pub first_of_same : (P Q : Place → Type 0) (o : Option Place) → ((place : Place) → P place → Q place) → ((place : Place) → Q place → P place) → IsFirst P o → IsFirst Q o
first_of_same P Q None there back n = λ place q. n place (back place q)
first_of_same P Q (Some first) there back f = (there first f.0, λ place q. f.1 place (back place q))

-- the earlier of two first places is the first of all
pub first_of_both : (P Q : Place → Type 0) (a b o : Option Place) → IsFirst P a → IsFirst Q b → IsEarlier a b o → IsFirst (λ place. P place ⊎ Q place) o
first_of_both P Q None b o p q e = subst (λ x. IsFirst (λ place. P place ⊎ Q place) x) (sym e) (only_right b q)
  where
    only_right : (b : Option Place) → IsFirst Q b → IsFirst (λ place. P place ⊎ Q place) b
    only_right None q = λ place s. elim s [ inl s ↦ p place s | inr s ↦ q place s ]
    only_right (Some first) q = (inr q.0, λ place s. elim s [ inl s ↦ absurd (p place s) | inr s ↦ q.1 place s ])
first_of_both P Q (Some a) None o p q e = subst (λ x. IsFirst (λ place. P place ⊎ Q place) x) (sym e) (inl p.0, λ place s. elim s [ inl s ↦ p.1 place s | inr s ↦ absurd (q place s) ])
first_of_both P Q (Some a) (Some b) o p q (inl e) = subst (λ x. IsFirst (λ place. P place ⊎ Q place) x) (sym e.0) (inl p.0, λ place s. elim s [ inl s ↦ p.1 place s | inr s ↦ not_after_next a b place e.1 (q.1 place s) ])
first_of_both P Q (Some a) (Some b) o p q (inr e) = subst (λ x. IsFirst (λ place. P place ⊎ Q place) x) (sym e.0) (inr q.0, λ place s. elim s [ inl s ↦ not_after_next b a place e.1 (p.1 place s) | inr s ↦ q.1 place s ])

-- nothing stands before the first item
pub first_below_none : (At : ℕ → Place → Type 0) → IsFirst (IsBelow At 0) None
first_below_none At = λ place b. absurd (omega (arith, b.below))

-- one more item
pub first_below_next : (At : ℕ → Place → Type 0) (n : ℕ) (a b o : Option Place) → IsFirst (IsBelow At n) a → IsFirst (At n) b → IsEarlier a b o → IsFirst (IsBelow At (n + 1)) o
first_below_next At n a b o p q e = first_of_same _ (IsBelow At (n + 1)) o
    (λ place s. elim s [ inl s ↦ record { k = s.k; below = omega (arith, s.below); stands = s.stands } | inr s ↦ record { k = n; below = omega arith; stands = s } ])
    (λ place s. elim (cases_eq s.k n) [ inl e ↦ inr (subst (λ k. At k place) e s.stands) | inr e ↦ inl (record { k = s.k; below = omega (arith, s.below); stands = s.stands }) ])
    (first_of_both (IsBelow At n) (At n) a b o p q e)

-- where something stands at one place alone
pub first_alone : (P : Place → Type 0) (a : Place) → P a → ((b : Place) → P b → b ≡ a) → IsFirst P (Some a)
first_alone P a p one = (p, λ b q. not_after_self a b (one b q))
