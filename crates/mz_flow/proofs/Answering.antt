-- Answers of rules that lead to the same states.
use Rattle.std.proofs.Common.{◌≡◌, ℕ, List, Result, Ok, Err, sym, subst}
use Rattle.std.specs.Result.{IsErrAnd}
use Rattle.mz_tree.specs.Plain.{Atom}
use Rattle.mz_perm.specs.Lists.{Which, Any_copy, First_copy}
use Rattle.mz_modes.specs.Answers.{Answers, Gives}
use Rattle.mz_modes.specs.declared.fault.RuleFault.{RuleFault}
use Rattle.mz_modes.specs.declared.fault.RuleFault.TheVariants.{NoInstance, Memory}

-- what answers for one rule answers for another that leads just where the one does
pub answers_alike : {A : Type 0} (Leads Other : Which → List (Atom ℕ) → Type 0) (R T : List (Atom ℕ)) (result : Result A RuleFault) → ((S : List (Atom ℕ)) → Leads First_copy S → Other First_copy S) → ((S : List (Atom ℕ)) → Other Any_copy S → Leads Any_copy S) → Answers Leads R T result → Answers Other R T result
answers_alike Leads Other R T (Ok done) to from h = to T h
answers_alike Leads Other R T (Err NoInstance) to from h = (λ S o. h.0 S (from S o), h.1)
answers_alike Leads Other R T (Err Memory) to from h = h

-- and what gives a state
pub gives_alike : (Leads Other : Which → List (Atom ℕ) → Type 0) (result : Result (List (Atom ℕ)) RuleFault) → ((S : List (Atom ℕ)) → Leads First_copy S → Other First_copy S) → ((S : List (Atom ℕ)) → Other Any_copy S → Leads Any_copy S) → Gives Leads result → Gives Other result
gives_alike Leads Other (Ok T) to from h = to T h
gives_alike Leads Other (Err NoInstance) to from h = λ S o. h S (from S o)
gives_alike Leads Other (Err Memory) to from h = h

-- where a rule doesn't lead on from a copy, it doesn't from the state
pub refused_alike : (Leads : List (Atom ℕ) → Which → List (Atom ℕ) → Type 0) (R N T : List (Atom ℕ)) (fault : RuleFault) (result : Result (List (Atom ℕ)) RuleFault) → N ≡ R → Answers {A = Unit {0}} (Leads N) N T (Err fault) → IsErrAnd result (λ e. e ≡ fault) → Gives (Leads R) result
refused_alike Leads R N T fault (Ok S) n h e = absurd e
refused_alike Leads R N T NoInstance (Err f) n h e = subst (λ g. Gives (Leads R) (Err g)) (sym e) (λ S l. h.0 S (subst (λ r. Leads r Any_copy S) (sym n) l))
refused_alike Leads R N T Memory (Err f) n h e = subst (λ g. Gives (Leads R) (Err g)) (sym e) tt
