-- A source has at most one refusal, and none where it runs: it is read by steps, each of which refuses it or goes on, and then it is
-- of the first form or it isn't.
use Rattle.std.proofs.Common.{◌≡◌, ℕ, ◌<◌, ◌≤◌, Bool, true, false, List, length, Some, None, refl, sym, ap, ◌∙◌, arith}
use Rattle.mz_tree.specs.Programs.{Program}
use Rattle.mz_parse.specs.declared.tree.Surface.{Surface}
use Rattle.mz_cli.specs.declared.refusal.Refusal.{Refusal}
use Rattle.mz_cli.specs.declared.refusal.Refusal.TheVariants.{TooLong, BadByte, BadNumber, NameTooLong, Unexpected, TooDeep, UnknownName, DeclaredTwice, WrongShape, CasesMissing, TooMany, NoMain, ImmutableAdopter, NotExclusive, Unbuilt, WrongLine, BadStep, BadCommand, BadJoin}
use Rattle.mz_cli.specs.FirstForm.{is_first_form}
use Rattle.mz_cli.specs.Outcome.{IsRunnable}
use Rattle.mz_cli.specs.Refusals.{source_limit, HasFault, Causes}
use Rattle.mz_cli.specs.OneRefusal.{AtMostOneRefusal, NothingRunsAndIsRefused}
use Rattle.mz_cli.proofs.Settling.{IsOne, IsDecided, Settles, stops, goes_on, settles_one}
use Rattle.mz_cli.proofs.ReadingSteps.{Answer, OfText, same_text, by_declared, by_refusal}

-- that of a text that is of the first form, or isn't
abbrev form_answer : Bool → Answer
form_answer true = None
form_answer false = Some Unbuilt

-- whether the text is of the first form
abbrev OfForm : Surface → Program → Answer → Type 0
OfForm surface program answer = answer ≡ form_answer (is_first_form surface program)

-- whether the bytes are few enough
abbrev OfBytes : List ℕ → Answer → Type 0
OfBytes bytes = Settles (λ (none : Unit {0}). source_limit < length bytes) (λ (none : Unit {0}). length bytes ≤ source_limit)
    (λ none. Some TooLong) (λ none. OfText OfForm bytes)

-- ---- it has one answer

-- a text is of the form or it isn't
same_form : (surface : Surface) (program : Program) → IsOne (OfForm surface program)
same_form surface program one other here there = here ∙ sym there

-- bytes are few enough or too many
size_decided : (bytes : List ℕ) → IsDecided (λ (none : Unit {0}). source_limit < length bytes) (λ (none : Unit {0}). length bytes ≤ source_limit) (λ none. Some TooLong)
size_decided bytes = record {
  one_answer = λ f g a b. refl;
  one_value = λ f g a b. refl;
  apart = λ f g long short. absurd (omega (arith, long, short));
}

-- so bytes have one answer
same_bytes : (bytes : List ℕ) → IsOne (OfBytes bytes)
same_bytes bytes = settles_one _ _ _ _ (size_decided bytes) (λ none. same_text OfForm same_form bytes)

-- ---- each cause of a refusal is an answer of the bytes

-- what is wrong with few enough bytes
early : (bytes : List ℕ) (refusal : Refusal) → (length bytes ≤ source_limit) × HasFault bytes refusal → OfBytes bytes (Some refusal)
early bytes refusal (short, fault) = goes_on tt short (by_refusal OfForm bytes refusal fault)

-- whatever the cause is, its refusal is the answer
settled : (bytes : List ℕ) (refusal : Refusal) → Causes bytes refusal → OfBytes bytes (Some refusal)
settled bytes TooLong long = stops tt long refl
settled bytes (BadByte place) cause = early bytes (BadByte place) cause
settled bytes (BadNumber place) cause = early bytes (BadNumber place) cause
settled bytes (NameTooLong place) cause = early bytes (NameTooLong place) cause
settled bytes (Unexpected place) cause = early bytes (Unexpected place) cause
settled bytes (TooDeep place) cause = early bytes (TooDeep place) cause
settled bytes (UnknownName place) cause = early bytes (UnknownName place) cause
settled bytes (DeclaredTwice place) cause = early bytes (DeclaredTwice place) cause
settled bytes (WrongShape place) cause = early bytes (WrongShape place) cause
settled bytes (CasesMissing place) cause = early bytes (CasesMissing place) cause
settled bytes (TooMany place) cause = early bytes (TooMany place) cause
settled bytes NoMain cause = early bytes NoMain cause
settled bytes (ImmutableAdopter place) cause = early bytes (ImmutableAdopter place) cause
settled bytes (NotExclusive place) cause = early bytes (NotExclusive place) cause
settled bytes (WrongLine number) cause = early bytes (WrongLine number) cause
settled bytes (BadStep place step) cause = early bytes (BadStep place step) cause
settled bytes (BadCommand place) cause = early bytes (BadCommand place) cause
settled bytes (BadJoin place) cause = early bytes (BadJoin place) cause
settled bytes Unbuilt (short, (program, reads, declared, other)) = goes_on tt short (by_declared OfForm bytes program _ reads declared (ap form_answer (sym other)))

-- where they are a text that runs, none is the answer
runs_settled : (bytes : List ℕ) (program : Program) → IsRunnable bytes program → OfBytes bytes None
runs_settled bytes program runs = goes_on tt runs.short (by_declared OfForm bytes program None runs.reads runs.declared (ap form_answer (sym runs.first)))

-- ---- the laws

-- two causes have one refusal
pub one_refusal : AtMostOneRefusal
one_refusal bytes one other a b =
    let same : Some one ≡ Some other = same_bytes bytes (Some one) (Some other) (settled bytes one a) (settled bytes other b) in
    cc

-- what runs is not refused
pub run_or_refusal : NothingRunsAndIsRefused
run_or_refusal bytes refusal program cause runs =
    let same : Some refusal ≡ None = same_bytes bytes (Some refusal) None (settled bytes refusal cause) (runs_settled bytes program runs) in
    absurd (cc)
