-- A source has at most one refusal, and none where it is a text that runs. So has an input of `verify`, and none where it is accepted.
use Rattle.std.specs.Prelude.{◌≡◌, ℕ, List}
use Rattle.mz_tree.specs.Programs.{Program}
use Rattle.mz_deriv.specs.Scripts.{Item}
use Rattle.mz_cli.specs.declared.refusal.Refusal.{Refusal}
use Rattle.mz_cli.specs.Refusals.{Causes}
use Rattle.mz_cli.specs.Verifying.{IsVerified, VerifyCauses}
use Rattle.mz_cli.specs.Outcome.{IsRunnable}

-- a source has at most one refusal
abbrev pub AtMostOneRefusal : Type 0
AtMostOneRefusal = (bytes : List ℕ) (one other : Refusal) → Causes bytes one → Causes bytes other → one ≡ other

-- and none where it is within the limit and the text of a declared program of the first form
abbrev pub NothingRunsAndIsRefused : Type 0
NothingRunsAndIsRefused = (bytes : List ℕ) (refusal : Refusal) (program : Program) → Causes bytes refusal → IsRunnable bytes program → ⊥

-- an input of `verify` has at most one refusal
abbrev pub AtMostOneVerifyRefusal : Type 0
AtMostOneVerifyRefusal = (bytes : List ℕ) (one other : Refusal) → VerifyCauses bytes one → VerifyCauses bytes other → one ≡ other

-- and none where its script is the text of a derivation of its source's program
abbrev pub NothingVerifiedIsRefused : Type 0
NothingVerifiedIsRefused = (bytes : List ℕ) (refusal : Refusal) (program : Program) (scripts : List (List Item)) → VerifyCauses bytes refusal → IsVerified bytes program scripts → ⊥
