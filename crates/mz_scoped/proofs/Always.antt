-- What is so of a part's value, whatever was made before it.
use Rattle.mz_scope.specs.Making.{Made, Came, Came_to, Part, ◌>>=◌, ◌>>◌, goes_on, give}
use Rattle.mz_scoped.proofs.Goes.{value_in}

-- Q holds of the part's value
pub record Always {A : Type 0} (part : Part A) (Q : A → Type 0) : Type 0 where
  pub value : (m : Made) → Q (value_in (part m))

module _ {A B : Type 0} {part : Part A} {next : A → Part B} {R : A → Type 0} {Q : B → Type 0} (first : Always part R) (rest : (a : A) → R a → Always (next a) Q) where
  on : (c : Came A) → R (value_in c) → Q (value_in (goes_on next c))
  on (Came_to a made) is = (rest a is).value made

  -- one part, and then the next with its value
  pub always_then : Always (part >>= next) Q
  always_then = record { value = λ m. on (part m) (first.value m) }

-- a part whose value doesn't count, and then the next
pub always_after : {A B : Type 0} {next : A → Part B} {Q : B → Type 0} (part : Part A) → ((a : A) → Always (next a) Q) → Always (part >>= next) Q
always_after {A = A} {next = next} {Q = Q} part rest = record { value = λ m. on (part m) }
  where
    on : (c : Came A) → Q (value_in (goes_on next c))
    on (Came_to a made) = (rest a).value made

-- one part, and then the next
pub always_and : {A B : Type 0} {next : Part B} {Q : B → Type 0} (part : Part A) → Always next Q → Always (part >> next) Q
always_and {A = A} {next = next} {Q = Q} part rest = record { value = λ m. on (part m) }
  where
    on : (c : Came A) → Q (value_in (goes_on (λ _. next) c))
    on (Came_to a made) = rest.value made

-- a value alone
pub always_give : {A : Type 0} {Q : A → Type 0} (a : A) → Q a → Always (give a) Q
always_give a is = record { value = λ m. is }
