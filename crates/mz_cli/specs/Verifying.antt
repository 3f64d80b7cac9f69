-- What the mode `verify` answers: an input is accepted where its script is the text of a derivation of its source's program, and
-- else it is refused for the first cause that holds.
use Rattle.std.specs.Prelude.{◌≡◌, ◌⊎◌, ℕ, ◌<◌, ◌≤◌, List, length, Result, Ok, Err}
use Rattle.mz_tree.specs.Programs.{Program}
use Rattle.mz_scope.specs.Reads.{Reads}
use Rattle.mz_modes.specs.Adopted.{Declared}
use Rattle.mz_deriv.specs.declared.fault.DerivFault.{DerivFault}
use Rattle.mz_deriv.specs.declared.fault.DerivFault.TheVariants as fault
use Rattle.mz_deriv.specs.Scripts.{Item}
use Rattle.mz_deriv.specs.Derivable.{Derivable}
use Rattle.mz_deriv.specs.Refused.{RefusedAt}
use Rattle.mz_script.specs.Texts.{IsScriptText, IsWrongLine}
use Rattle.mz_cli.specs.declared.refusal.Refusal.{Refusal}
use Rattle.mz_cli.specs.declared.refusal.Refusal.TheVariants.{TooLong, WrongLine, BadStep, BadCommand, BadJoin}
use Rattle.mz_cli.specs.declared.refusal.Stop.{Stop}
use Rattle.mz_cli.specs.declared.refusal.Stop.TheVariants.{Refused, Memory}
use Rattle.mz_cli.specs.Refusals.{source_limit, HasFault}
use Rattle.mz_cli.specs.Inputs.{input_limit, source_part, script_part}

-- the bytes are the text of this program, which is declared
pub record IsDeclared (bytes : List ℕ) (program : Program) : Type 0 where
  pub reads : Reads bytes program
  pub declared : Declared program

-- neither the whole input nor its source has more bytes than it may
pub record IsShort (bytes : List ℕ) : Type 0 where
  pub whole : length bytes ≤ input_limit
  pub source : length (source_part bytes) ≤ source_limit

-- the source of the input is the text of this declared program, and its script the text of these scripts
pub record HasScripts (bytes : List ℕ) (program : Program) (scripts : List (List Item)) : Type 0 where
  pub source : IsDeclared (source_part bytes) program
  pub script : IsScriptText program (script_part bytes) scripts

-- and these are a derivation of it
pub record IsVerified (bytes : List ℕ) (program : Program) (scripts : List (List Item)) : Type 0 where
  pub short : IsShort bytes
  pub has : HasScripts bytes program scripts
  pub derivable : Derivable program scripts

-- the scripts of the input are no derivation: this is the first point without an instance
abbrev pub IsNone : List ℕ → DerivFault → Type 0
IsNone bytes fault = (program : Program) × (scripts : List (List Item)) × HasScripts bytes program scripts × RefusedAt program scripts fault

-- what is wrong with an input whose parts aren't too long
abbrev pub ScriptFault : List ℕ → Refusal → Type 0
-- this line of the script is the first that can't stand there
ScriptFault bytes (WrongLine number) = (program : Program) × IsDeclared (source_part bytes) program × IsWrongLine program (script_part bytes) number
ScriptFault bytes (BadStep place step) = IsNone bytes (fault.BadStep place step)
ScriptFault bytes (BadCommand place) = IsNone bytes (fault.BadCommand place)
ScriptFault bytes (BadJoin place) = IsNone bytes (fault.BadJoin place)
-- the source is no text of a declared program
ScriptFault bytes refusal = HasFault (source_part bytes) refusal

-- the first cause for which an input is refused
abbrev pub VerifyCauses : List ℕ → Refusal → Type 0
VerifyCauses bytes TooLong = (input_limit < length bytes) ⊎ (source_limit < length (source_part bytes))
VerifyCauses bytes refusal = IsShort bytes × ScriptFault bytes refusal

-- the input is accepted, or refused; want of memory says nothing
abbrev pub Verifies : List ℕ → Result (Unit {0}) Stop → Type 0
Verifies bytes (Ok done) = (program : Program) × (scripts : List (List Item)) × IsVerified bytes program scripts
Verifies bytes (Err (Refused refusal)) = VerifyCauses bytes refusal
Verifies bytes (Err Memory) = Unit {0}
