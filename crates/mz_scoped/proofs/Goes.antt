-- Parts of a source that are put together. Of a part it is said what holds after it, where something held before it and no
-- fault came up to its end; faults are never taken back, so then none had come before it.
use Rattle.std.proofs.Common.{◌≡◌, ℕ, Bool, true, false, List, [], ◌∷◌, ◌++◌, length, Option, Some, None, refl, subst}
use Rattle.mz_tree.specs.declared.types.Place.{Place}
use Rattle.mz_tree.specs.Code.{Op}
use Rattle.mz_scope.specs.Making.{Made, Came, Came_to, Part, ◌>>=◌, ◌>>◌, goes_on, give, add_command, fault_if, declared_or}

abbrev pub value_in : {A : Type 0} → Came A → A
value_in (Came_to a made) = a

abbrev pub made_in : {A : Type 0} → Came A → Made
made_in (Came_to a made) = made

pub record Goes {A : Type 0} (P : Made → Type 0) (part : Part A) (Q : A → Made → Type 0) : Type 0 where
  -- where there is no fault after the part, there was none before it
  pub clean : (m : Made) → (made_in (part m)).faults ≡ [] → m.faults ≡ []
  -- and then from P before it follows Q of its value after it
  pub leads : (m : Made) → (made_in (part m)).faults ≡ [] → P m → Q (value_in (part m)) (made_in (part m))

-- a fault more is a fault
some_fault : {X : Type 0} (faults : List X) (x : X) → faults ++ x ∷ [] ≡ [] → ⊥
some_fault [] x is = cc
some_fault (y ∷ faults) x is = cc

-- one part after the other
module _ {A B : Type 0} {P : Made → Type 0} {R : A → Made → Type 0} {Q : B → Made → Type 0} (part : Part A) (next : A → Part B) (first : Goes P part R) (rest : (a : A) → Goes (R a) (next a) Q) where
  mid : (c : Came A) → (made_in (goes_on next c)).faults ≡ [] → (made_in c).faults ≡ []
  mid (Came_to a made) none = (rest a).clean made none

  on : (c : Came A) → (made_in (goes_on next c)).faults ≡ [] → R (value_in c) (made_in c) → Q (value_in (goes_on next c)) (made_in (goes_on next c))
  on (Came_to a made) none r = (rest a).leads made none r

  pub first_then : Goes P (part >>= next) Q
  first_then = record {
    clean = λ m none. first.clean m (mid (part m) none);
    leads = λ m none p. on (part m) none (first.leads m (mid (part m) none) p);
  }

-- one part after another without a value
pub first_and : {B : Type 0} {P R : Made → Type 0} {Q : B → Made → Type 0} (part : Part (Unit {0})) (next : Part B) → Goes P part (λ _ m. R m) → Goes R next Q → Goes P (part >> next) Q
first_and part next first rest = first_then part (λ _. next) first (λ _. rest)

-- what is asked for may be more, and what is promised less
pub weakened : {A : Type 0} {P R : Made → Type 0} {part : Part A} {Q S : A → Made → Type 0} → ((m : Made) → R m → P m) → ((a : A) (m : Made) → Q a m → S a m) → Goes P part Q → Goes R part S
weakened before after goes = record {
  clean = goes.clean;
  leads = λ m none r. after _ _ (goes.leads m none (before m r));
}

-- a fact that speaks of nothing made holds on
pub framed : {A : Type 0} (X : Type 0) {P : Made → Type 0} {part : Part A} {Q : A → Made → Type 0} → Goes P part Q → Goes (λ m. X × P m) part (λ a m. X × Q a m)
framed X goes = record {
  clean = goes.clean;
  leads = λ m none p. (p.0, goes.leads m none p.1);
}

-- a part that adds no fault
pub added : {A : Type 0} {P : Made → Type 0} {Q : A → Made → Type 0} (part : Part A) → ((m : Made) → (made_in (part m)).faults ≡ m.faults) → ((m : Made) → P m → Q (value_in (part m)) (made_in (part m))) → Goes P part Q
added part same next = record {
  clean = λ m none. subst (λ faults. faults ≡ []) (same m) none;
  leads = λ m none p. next m p;
}

-- a value alone
pub given : {A : Type 0} {P : Made → Type 0} {Q : A → Made → Type 0} (a : A) → ((m : Made) → P m → Q a m) → Goes P (give a) Q
given a next = record {
  clean = λ m none. none;
  leads = λ m none p. next m p;
}

-- a command
pub commanded : {P : Made → Type 0} {Q : ℕ → Made → Type 0} (place : Place) (op : Op) → ((m : Made) → P m → Q (length m.names) (made_in (add_command place op m))) → Goes P (add_command place op) Q
commanded place op next = record {
  clean = λ m none. none;
  leads = λ m none p. next m p;
}

-- what would be a fault doesn't hold
pub not_so : {P : Made → Type 0} (b : Bool) (cause : _) (place : Place) → Goes P (fault_if b cause place) (λ _ m. (b ≡ false) × P m)
not_so false cause place = record {
  clean = λ m none. none;
  leads = λ m none p. (refl, p);
}
not_so true cause place = record {
  clean = λ m none. absurd (some_fault m.faults _ none);
  leads = λ m none p. absurd (some_fault m.faults _ none);
}

-- a name is declared
pub is_declared : {A : Type 0} {P : Made → Type 0} (other : A) (o : Option A) (place : Place) → Goes P (declared_or other o place) (λ a m. (o ≡ Some a) × P m)
is_declared other (Some a) place = record {
  clean = λ m none. none;
  leads = λ m none p. (refl, p);
}
is_declared other None place = record {
  clean = λ m none. absurd (some_fault m.faults _ none);
  leads = λ m none p. absurd (some_fault m.faults _ none);
}
