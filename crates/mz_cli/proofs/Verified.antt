-- From what the parts of `verify` answered to what it answers.
use Rattle.std.proofs.Common.{◌≡◌, ℕ, ◌<◌, ◌≤◌, List, length, inl, inr, refl, sym, ap, subst, ◌∙◌, Result, Ok, Err, IfOk, arith}
use Rattle.mz_tree.specs.Programs.{Program}
use Rattle.mz_parse.specs.declared.tree.Surface.{Surface}
use Rattle.mz_deriv.specs.Scripts.{Item}
use Rattle.mz_deriv.specs.Derivable.{Derivable}
use Rattle.mz_script.specs.Texts.{IsScriptText}
use Rattle.mz_cli.specs.declared.refusal.Refusal.{Refusal}
use Rattle.mz_cli.specs.declared.refusal.Refusal.TheVariants.{TooLong, BadByte, BadNumber, NameTooLong, Unexpected, TooDeep, UnknownName, DeclaredTwice, WrongShape, CasesMissing, TooMany, NoMain, ImmutableAdopter, NotExclusive, Unbuilt, WrongLine, BadStep, BadCommand, BadJoin}
use Rattle.mz_cli.specs.declared.refusal.Stop.{Stop}
use Rattle.mz_cli.specs.declared.refusal.Stop.TheVariants.{Refused, Memory}
use Rattle.mz_cli.specs.declared.status.Status.{Status}
use Rattle.mz_cli.specs.declared.status.Status.TheVariants as status
use Rattle.mz_cli.specs.declared.words.Mode.TheVariants.{Verify}
use Rattle.mz_cli.specs.Refusals.{source_limit, HasFault, refusal_text}
use Rattle.mz_cli.specs.Inputs.{input_limit, source_part, script_part}
use Rattle.mz_cli.specs.Verifying.{IsDeclared, IsShort, Verifies, VerifyCauses}
use Rattle.mz_cli.specs.Answered.{Judges, JudgesText, IsDeclaredTree}
use Rattle.mz_cli.proofs.Reading.{reads_tree}
use Rattle.mz_cli.specs.Outcome.{line, Answers}

-- what the scripts of a text come to, it comes to
pub text_judged : (program : Program) (bytes : List ℕ) (scripts : List (List Item)) (result : Result (Unit {0}) Stop) → IsScriptText program bytes scripts → Judges program scripts result → JudgesText program bytes result
text_judged program bytes scripts (Ok done) is judged = (scripts, is, judged)
text_judged program bytes scripts (Err Memory) is judged = tt
text_judged program bytes scripts (Err (Refused (BadStep place step))) is judged = (scripts, is, judged)
text_judged program bytes scripts (Err (Refused (BadCommand place))) is judged = (scripts, is, judged)
text_judged program bytes scripts (Err (Refused (BadJoin place))) is judged = (scripts, is, judged)
text_judged program bytes scripts (Err (Refused TooLong)) is judged = absurd judged
text_judged program bytes scripts (Err (Refused (BadByte place))) is judged = absurd judged
text_judged program bytes scripts (Err (Refused (BadNumber place))) is judged = absurd judged
text_judged program bytes scripts (Err (Refused (NameTooLong place))) is judged = absurd judged
text_judged program bytes scripts (Err (Refused (Unexpected place))) is judged = absurd judged
text_judged program bytes scripts (Err (Refused (TooDeep place))) is judged = absurd judged
text_judged program bytes scripts (Err (Refused (UnknownName place))) is judged = absurd judged
text_judged program bytes scripts (Err (Refused (DeclaredTwice place))) is judged = absurd judged
text_judged program bytes scripts (Err (Refused (WrongShape place))) is judged = absurd judged
text_judged program bytes scripts (Err (Refused (CasesMissing place))) is judged = absurd judged
text_judged program bytes scripts (Err (Refused (TooMany place))) is judged = absurd judged
text_judged program bytes scripts (Err (Refused NoMain)) is judged = absurd judged
text_judged program bytes scripts (Err (Refused (ImmutableAdopter place))) is judged = absurd judged
text_judged program bytes scripts (Err (Refused (NotExclusive place))) is judged = absurd judged
text_judged program bytes scripts (Err (Refused Unbuilt)) is judged = absurd judged
text_judged program bytes scripts (Err (Refused (WrongLine number))) is judged = absurd judged

-- what the script comes to, the input comes to
pub verified : (bytes : List ℕ) (program : Program) (result : Result (Unit {0}) Stop) → IsShort bytes → IsDeclared (source_part bytes) program → JudgesText program (script_part bytes) result → Verifies bytes result
verified bytes program (Ok done) short source (scripts, is, derivable) = (program, scripts, record { short = short; has = record { source = source; script = is }; derivable = derivable })
verified bytes program (Err Memory) short source judged = tt
verified bytes program (Err (Refused (WrongLine number))) short source wrong = (short, (program, source, wrong))
verified bytes program (Err (Refused (BadStep place step))) short source (scripts, is, refused) = (short, (program, scripts, record { source = source; script = is }, refused))
verified bytes program (Err (Refused (BadCommand place))) short source (scripts, is, refused) = (short, (program, scripts, record { source = source; script = is }, refused))
verified bytes program (Err (Refused (BadJoin place))) short source (scripts, is, refused) = (short, (program, scripts, record { source = source; script = is }, refused))
verified bytes program (Err (Refused TooLong)) short source (scripts, is, never) = absurd never
verified bytes program (Err (Refused (BadByte place))) short source (scripts, is, never) = absurd never
verified bytes program (Err (Refused (BadNumber place))) short source (scripts, is, never) = absurd never
verified bytes program (Err (Refused (NameTooLong place))) short source (scripts, is, never) = absurd never
verified bytes program (Err (Refused (Unexpected place))) short source (scripts, is, never) = absurd never
verified bytes program (Err (Refused (TooDeep place))) short source (scripts, is, never) = absurd never
verified bytes program (Err (Refused (UnknownName place))) short source (scripts, is, never) = absurd never
verified bytes program (Err (Refused (DeclaredTwice place))) short source (scripts, is, never) = absurd never
verified bytes program (Err (Refused (WrongShape place))) short source (scripts, is, never) = absurd never
verified bytes program (Err (Refused (CasesMissing place))) short source (scripts, is, never) = absurd never
verified bytes program (Err (Refused (TooMany place))) short source (scripts, is, never) = absurd never
verified bytes program (Err (Refused NoMain)) short source (scripts, is, never) = absurd never
verified bytes program (Err (Refused (ImmutableAdopter place))) short source (scripts, is, never) = absurd never
verified bytes program (Err (Refused (NotExclusive place))) short source (scripts, is, never) = absurd never
verified bytes program (Err (Refused Unbuilt)) short source (scripts, is, never) = absurd never

-- what is wrong with the source refuses the input
pub source_refused : (bytes : List ℕ) (refusal : Refusal) → IsShort bytes → HasFault (source_part bytes) refusal → VerifyCauses bytes refusal
source_refused bytes TooLong short fault = absurd fault
source_refused bytes (BadByte place) short fault = (short, fault)
source_refused bytes (BadNumber place) short fault = (short, fault)
source_refused bytes (NameTooLong place) short fault = (short, fault)
source_refused bytes (Unexpected place) short fault = (short, fault)
source_refused bytes (TooDeep place) short fault = (short, fault)
source_refused bytes (UnknownName place) short fault = (short, fault)
source_refused bytes (DeclaredTwice place) short fault = (short, fault)
source_refused bytes (WrongShape place) short fault = (short, fault)
source_refused bytes (CasesMissing place) short fault = (short, fault)
source_refused bytes (TooMany place) short fault = (short, fault)
source_refused bytes NoMain short fault = (short, fault)
source_refused bytes (ImmutableAdopter place) short fault = (short, fault)
source_refused bytes (NotExclusive place) short fault = (short, fault)
source_refused bytes Unbuilt short fault = absurd fault
source_refused bytes (WrongLine number) short fault = absurd fault
source_refused bytes (BadStep place step) short fault = absurd fault
source_refused bytes (BadCommand place) short fault = absurd fault
source_refused bytes (BadJoin place) short fault = absurd fault

-- the parts aren't too long
pub few_bytes : (bytes source : List ℕ) → source ≡ source_part bytes → length bytes ≤ input_limit → length source ≤ source_limit → IsShort bytes
few_bytes bytes source same whole few = record { whole = whole; source = subst (λ l. length l ≤ source_limit) same few }

-- the program that was read is that of the source part
pub declared_source : (part source : List ℕ) (surface : Surface) (program : Program) → source ≡ part → IsDeclaredTree source surface program → IsDeclared part program
declared_source part source surface program same tree = subst (λ l. IsDeclared l program) same (record { reads = reads_tree source surface program tree; declared = tree.declared })
