-- Steps that stop with an answer or go on to the next step, and that come to one answer.
use Rattle.std.proofs.Common.{◌≡◌, sym, ◌∙◌, subst}

-- at most one is so
abbrev pub IsOne : {B : Type 0} → (B → Type 0) → Type 0
IsOne Has = (one other : _) → Has one → Has other → one ≡ other

-- all faults of a step have one answer, it has at most one value, and not both a fault and a value
pub record IsDecided {F A B : Type 0} (Faults : F → Type 0) (Passes : A → Type 0) (answer_of : F → B) : Type 0 where
  pub one_answer : (f g : F) → Faults f → Faults g → answer_of f ≡ answer_of g
  pub one_value : (a b : A) → Passes a → Passes b → a ≡ b
  pub apart : (f : F) (a : A) → Faults f → Passes a → ⊥

-- a step stops with the answer of its fault, or goes on with its value, for which the next steps have the answer
pub data Settles {F A B : Type 0} (Faults : F → Type 0) (Passes : A → Type 0) (answer_of : F → B) (Next : A → B → Type 0) (answer : B) : Type 0 where
  stops : (f : F) → Faults f → answer ≡ answer_of f → Settles Faults Passes answer_of Next answer
  goes_on : (a : A) → Passes a → Next a answer → Settles Faults Passes answer_of Next answer

-- where the next steps have one answer, so has a step with them
pub settles_one : {F A B : Type 0} (Faults : F → Type 0) (Passes : A → Type 0) (answer_of : F → B) (Next : A → B → Type 0) → IsDecided Faults Passes answer_of → ((a : A) → IsOne (Next a)) → IsOne (Settles Faults Passes answer_of Next)
settles_one Faults Passes answer_of Next decided next one other (stops f fault here) (stops g error there) = here ∙ decided.one_answer f g fault error ∙ sym there
settles_one Faults Passes answer_of Next decided next one other (stops f fault here) (goes_on b passes more) = absurd (decided.apart f b fault passes)
settles_one Faults Passes answer_of Next decided next one other (goes_on a passes more) (stops g error there) = absurd (decided.apart g a error passes)
settles_one Faults Passes answer_of Next decided next one other (goes_on a passes more) (goes_on b goes rest) =
    next a one other more (subst (λ c. Next c other) (decided.one_value b a goes passes) rest)
