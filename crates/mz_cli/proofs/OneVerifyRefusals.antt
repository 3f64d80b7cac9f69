-- An input of `verify` has at most one refusal, and none where it is accepted: its source is read by steps, then its script is the text
-- of one derivation or it isn't, and that is a derivation of the program or it isn't.
use Rattle.std.proofs.Common.{◌≡◌, ◌⊎◌, inl, inr, ℕ, ◌+◌, ◌<◌, ◌≤◌, List, length, Some, None, refl, sym, ap, ◌∙◌, arith}
use Rattle.mz_tree.specs.Programs.{Program}
use Rattle.mz_tree.specs.Scoped.{Scoped}
use Rattle.mz_grammar.specs.Brackets.{no_brackets}
use Rattle.mz_grammar.proofs.OneReason.{one_wrong, wrong_unspelled}
use Rattle.mz_parse.specs.declared.tree.Surface.{Surface}
use Rattle.mz_scoped.proofs.ScopedTexts.{read_scoped}
use Rattle.mz_deriv.specs.declared.fault.DerivFault.{DerivFault}
use Rattle.mz_deriv.specs.declared.fault.DerivFault.TheVariants as fault
use Rattle.mz_deriv.specs.Scripts.{Item}
use Rattle.mz_deriv.specs.Derivable.{Derivable}
use Rattle.mz_deriv.specs.Refused.{RefusedAt}
use Rattle.mz_deriv.proofs.Ordered.{orders}
use Rattle.mz_deriv.proofs.OnePoint.{one_point, not_refused}
use Rattle.mz_script.specs.Cutting.{lines}
use Rattle.mz_script.specs.Texts.{IsScript, IsScriptText, IsWrongLine}
use Rattle.mz_script.proofs.Exact.{one_derivation}
use Rattle.mz_script.proofs.NoEnds.{text_lines}
use Rattle.mz_cli.specs.declared.refusal.Refusal.{Refusal}
use Rattle.mz_cli.specs.declared.refusal.Refusal.TheVariants.{TooLong, BadByte, BadNumber, NameTooLong, Unexpected, TooDeep, UnknownName, DeclaredTwice, WrongShape, CasesMissing, TooMany, NoMain, ImmutableAdopter, NotExclusive, Unbuilt, WrongLine, BadStep, BadCommand, BadJoin}
use Rattle.mz_cli.specs.Refusals.{source_limit, HasFault}
use Rattle.mz_cli.specs.Inputs.{input_limit, source_part, script_part}
use Rattle.mz_cli.specs.Verifying.{IsShort, HasScripts, IsVerified, IsNone, VerifyCauses}
use Rattle.mz_cli.specs.OneRefusal.{AtMostOneVerifyRefusal, NothingVerifiedIsRefused}
use Rattle.mz_cli.proofs.Settling.{IsOne, IsDecided, Settles, stops, goes_on, settles_one}
use Rattle.mz_cli.proofs.ReadingSteps.{Answer, OfText, same_text, by_declared, by_refusal}

-- the answer of the point without an instance; want of memory is none
abbrev point_answer : DerivFault → Answer
point_answer (fault.BadStep place step) = Some (BadStep place step)
point_answer (fault.BadCommand place) = Some (BadCommand place)
point_answer (fault.BadJoin place) = Some (BadJoin place)
point_answer fault.Memory = None

-- ---- the steps behind the program, the last one first

-- whether the scripts are a derivation
abbrev OfScripts : Program → List (List Item) → Answer → Type 0
OfScripts program scripts = Settles (RefusedAt program scripts) (λ (done : Unit {0}). Derivable program scripts) point_answer (λ done answer. answer ≡ None)

-- whether the bytes are the text of scripts
abbrev OfScript : List ℕ → Surface → Program → Answer → Type 0
OfScript bytes surface program = Settles (λ number. Scoped program × IsWrongLine program bytes number) (λ scripts. Scoped program × IsScriptText program bytes scripts) (λ number. Some (WrongLine number)) (OfScripts program)

-- whether the input is few enough bytes
abbrev OfInput : List ℕ → Answer → Type 0
OfInput bytes = Settles (λ (none : Unit {0}). (input_limit < length bytes) ⊎ (source_limit < length (source_part bytes))) (λ (none : Unit {0}). IsShort bytes) (λ none. Some TooLong) (λ none. OfText (OfScript (script_part bytes)) (source_part bytes))

-- ---- each has one answer

scripts_decided : (program : Program) (scripts : List (List Item)) → IsDecided (RefusedAt program scripts) (λ (done : Unit {0}). Derivable program scripts) point_answer
scripts_decided program scripts = record {
  one_answer = λ f g a b. ap point_answer (one_point orders program scripts f g a b);
  one_value = λ done other a b. refl;
  apart = λ f done refused derivable. not_refused orders program scripts f derivable refused;
}

same_scripts : (program : Program) (scripts : List (List Item)) → IsOne (OfScripts program scripts)
same_scripts program scripts = settles_one _ _ _ _ (scripts_decided program scripts) (λ done one other here there. here ∙ sym there)

-- the first wrong line is one
one_line : (program : Program) (bytes : List ℕ) (n m : ℕ) → IsWrongLine program bytes n → IsWrongLine program bytes m → n ≡ m
one_line program bytes n m a b =
    let same : a.left ≡ b.left = one_wrong no_brackets 0 (IsScript program) (lines bytes) a.left b.left a.first b.first in
    omega (arith, same, a.number, b.number)

script_decided : (bytes : List ℕ) (program : Program) → IsDecided (λ number. Scoped program × IsWrongLine program bytes number) (λ scripts. Scoped program × IsScriptText program bytes scripts) (λ number. Some (WrongLine number))
script_decided bytes program = record {
  one_answer = λ n m a b. ap (λ (number : ℕ). Some (WrongLine number)) (one_line program bytes n m a.1 b.1);
  one_value = λ s t a b. one_derivation program a.0 (lines bytes) s t (text_lines program a.0 bytes s a.1) (text_lines program b.0 bytes t b.1);
  apart = λ n s wrong is. (let first = wrong.1 in wrong_unspelled no_brackets 0 (IsScript program) (lines bytes) first.left s first.first (text_lines program is.0 bytes s is.1));
}

same_script : (bytes : List ℕ) (surface : Surface) (program : Program) → IsOne (OfScript bytes surface program)
same_script bytes surface program = settles_one _ _ _ _ (script_decided bytes program) (same_scripts program)

short_or_long : (bytes : List ℕ) → IsShort bytes → (input_limit < length bytes) ⊎ (source_limit < length (source_part bytes)) → ⊥
short_or_long bytes short (inl long) = let few = short.whole in absurd (omega (arith, long, few))
short_or_long bytes short (inr long) = let few = short.source in absurd (omega (arith, long, few))

size_decided : (bytes : List ℕ) → IsDecided (λ (none : Unit {0}). (input_limit < length bytes) ⊎ (source_limit < length (source_part bytes))) (λ (none : Unit {0}). IsShort bytes) (λ none. Some TooLong)
size_decided bytes = record {
  one_answer = λ f g a b. refl;
  one_value = λ f g a b. refl;
  apart = λ f g long short. short_or_long bytes short long;
}

same_input : (bytes : List ℕ) → IsOne (OfInput bytes)
same_input bytes = settles_one _ _ _ _ (size_decided bytes) (λ none. same_text (OfScript (script_part bytes)) (same_script (script_part bytes)) (source_part bytes))

-- ---- each cause of a refusal is an answer of the input

-- what is wrong with its source
early : (bytes : List ℕ) (refusal : Refusal) → IsShort bytes × HasFault (source_part bytes) refusal → OfInput bytes (Some refusal)
early bytes refusal (short, fault) = goes_on tt short (by_refusal (OfScript (script_part bytes)) (source_part bytes) refusal fault)

-- what comes of its scripts
scripts_settled : (bytes : List ℕ) (program : Program) (scripts : List (List Item)) (answer : Answer) → IsShort bytes → HasScripts bytes program scripts → OfScripts program scripts answer → OfInput bytes answer
scripts_settled bytes program scripts answer short has of =
    goes_on tt short (by_declared (OfScript (script_part bytes)) (source_part bytes) program answer has.source.reads has.source.declared
    (goes_on scripts (read_scoped (source_part bytes) program has.source.reads, has.script) of))

-- the first point without an instance
point_settled : (bytes : List ℕ) (f : DerivFault) → IsShort bytes × IsNone bytes f → OfInput bytes (point_answer f)
point_settled bytes f (short, (program, scripts, has, refused)) = scripts_settled bytes program scripts (point_answer f) short has (stops f refused refl)

-- whatever the cause is, its refusal is the answer
settled : (bytes : List ℕ) (refusal : Refusal) → VerifyCauses bytes refusal → OfInput bytes (Some refusal)
settled bytes TooLong long = stops tt long refl
settled bytes (BadByte place) cause = early bytes (BadByte place) cause
settled bytes (BadNumber place) cause = early bytes (BadNumber place) cause
settled bytes (NameTooLong place) cause = early bytes (NameTooLong place) cause
settled bytes (Unexpected place) cause = early bytes (Unexpected place) cause
settled bytes (TooDeep place) cause = early bytes (TooDeep place) cause
settled bytes (UnknownName place) cause = early bytes (UnknownName place) cause
settled bytes (DeclaredTwice place) cause = early bytes (DeclaredTwice place) cause
settled bytes (WrongShape place) cause = early bytes (WrongShape place) cause
settled bytes (CasesMissing place) cause = early bytes (CasesMissing place) cause
settled bytes (TooMany place) cause = early bytes (TooMany place) cause
settled bytes NoMain cause = early bytes NoMain cause
settled bytes (ImmutableAdopter place) cause = early bytes (ImmutableAdopter place) cause
settled bytes (NotExclusive place) cause = early bytes (NotExclusive place) cause
settled bytes Unbuilt cause = early bytes Unbuilt cause
settled bytes (WrongLine number) (short, (program, source, wrong)) =
    goes_on tt short (by_declared (OfScript (script_part bytes)) (source_part bytes) program (Some (WrongLine number)) source.reads source.declared
    (stops number (read_scoped (source_part bytes) program source.reads, wrong) refl))
settled bytes (BadStep place step) cause = point_settled bytes (fault.BadStep place step) cause
settled bytes (BadCommand place) cause = point_settled bytes (fault.BadCommand place) cause
settled bytes (BadJoin place) cause = point_settled bytes (fault.BadJoin place) cause

-- where it is accepted, none is the answer
verified_settled : (bytes : List ℕ) (program : Program) (scripts : List (List Item)) → IsVerified bytes program scripts → OfInput bytes None
verified_settled bytes program scripts is = scripts_settled bytes program scripts None is.short is.has (goes_on tt is.derivable refl)

-- ---- the laws

pub one_verify_refusal : AtMostOneVerifyRefusal
one_verify_refusal bytes one other a b =
    let same : Some one ≡ Some other = same_input bytes (Some one) (Some other) (settled bytes one a) (settled bytes other b) in
    cc

pub verified_or_refusal : NothingVerifiedIsRefused
verified_or_refusal bytes refusal program scripts cause is =
    let same : Some refusal ≡ None = same_input bytes (Some refusal) None (settled bytes refusal cause) (verified_settled bytes program scripts is) in
    absurd (cc)
