-- The `adopts` of structural types that are there after a part, as pairs.
use Rattle.std.proofs.Common.{◌≡◌, ℕ, List, ◌++◌, refl, ap, ◌∙◌}
use Rattle.mz_scope.specs.Making.{Made, Part}
use Rattle.mz_scoped.proofs.Goes.{Goes, value_in, made_in, weakened}
use Rattle.mz_scoped.proofs.Grounds.{Adds, pairs_of}

-- just these are there
abbrev pub HasPairs : List (ℕ × ℕ) → Made → Type 0
HasPairs pairs m = pairs_of m.clauses ≡ pairs

-- these come behind others
pub paired_behind : {A : Type 0} {X : A → Type 0} {more : A → List (ℕ × ℕ)} (part : Part A) (some : List (ℕ × ℕ))
    → ((mid : Made) → Goes (λ m. m ≡ mid) part (λ a m. X a × (pairs_of m.clauses ≡ pairs_of mid.clauses ++ more a)))
    → Goes (HasPairs some) part (λ a m. X a × HasPairs (some ++ more a) m)
paired_behind {X = X} {more = more} part some each = record {
  clean = λ m none. (each m).clean m none;
  leads = λ m none before.
      let after : X (value_in (part m)) × (pairs_of (made_in (part m)).clauses ≡ pairs_of m.clauses ++ more (value_in (part m))) = (each m).leads m none refl in
      (after.0, after.1 ∙ ap (λ pairs. pairs ++ more (value_in (part m))) before);
}

-- a part that adds these
pub paired : {A : Type 0} {X : A → Type 0} {more : A → List (ℕ × ℕ)} (part : Part A) (some : List (ℕ × ℕ))
    → ((mid : Made) → Goes (λ m. m ≡ mid) part (λ a m. X a × Adds (more a) mid m)) → Goes (HasPairs some) part (λ a m. X a × HasPairs (some ++ more a) m)
paired {X = X} {more = more} part some each = paired_behind {X = X} {more = more} part some (λ mid. weakened (λ m same. same) (λ a m q. (q.0, q.1.clauses)) (each mid))
