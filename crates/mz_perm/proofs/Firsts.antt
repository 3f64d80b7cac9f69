-- The first of equal copies is one of them: what leads somewhere where the first goes leads there where any may go.
use Rattle.std.proofs.Common.{inl, inr, List, [], ◌∷◌}
use Rattle.mz_perm.specs.Lists.{Any_copy, First_copy, TakesBy}
use Rattle.mz_perm.specs.Using.{UsesUpBy, UsesUpAllBy}

-- the first copy is a copy
pub takes_any : {A : Type 0} (a : A) (xs ys : List A) → TakesBy First_copy a xs ys → TakesBy Any_copy a xs ys
takes_any a [] ys t = absurd t
takes_any a (x ∷ xs) ys (inl t) = inl t
takes_any a (x ∷ xs) ys (inr t) = inr (t.1.0, t.1.1, takes_any a xs t.1.0 t.1.2)

-- one element that is used up where the first copy goes
pub uses_any : {A : Type 0} (Goes : A → Type 0) (a : A) (xs ys : List A) → UsesUpBy First_copy Goes a xs ys → UsesUpBy Any_copy Goes a xs ys
uses_any Goes a xs ys (inl t) = inl (t.0, takes_any a xs ys t.1)
uses_any Goes a xs ys (inr t) = inr t

-- several, one after the other
pub uses_all_any : {A : Type 0} (Goes : A → Type 0) (p xs ys : List A) → UsesUpAllBy First_copy Goes p xs ys → UsesUpAllBy Any_copy Goes p xs ys
uses_all_any Goes [] xs ys u = u
uses_all_any Goes (a ∷ p) xs ys u = (u.0, uses_any Goes a xs u.0 u.1, uses_all_any Goes p u.0 ys u.2)
