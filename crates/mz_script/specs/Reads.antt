-- What the call that reads a text of a derivation answers, and when.
use Rattle.std.specs.Prelude.{◌≡◌, ◌+◌, ◌-◌, ℕ, List, length, map, Result, Ok, Err}
use Rattle.mz_grammar.specs.Brackets.{no_brackets}
use Rattle.mz_grammar.specs.Wholes.{IsFirstWrong}
use Rattle.mz_tree.specs.Programs.{Program}
use Rattle.mz_deriv.specs.Scripts.{Item}
use Rattle.mz_deriv.specs.View.{plain_derivation, plain_script}
use Rattle.mz_deriv.specs.declared.script.Derivation.{Derivation}
use Rattle.mz_deriv.specs.declared.script.Script.{Script}
use Rattle.mz_script.specs.Cutting.{lines}
use Rattle.mz_script.specs.Texts.{IsScript, IsScriptText, IsWrongLine}
use Rattle.mz_script.specs.declared.fault.ScriptFault.{ScriptFault}
use Rattle.mz_script.specs.declared.fault.ScriptFault.TheVariants.{Line, Memory}
use Rattle.mz_script.specs.declared.read.stop.Stop.{Stop}
use Rattle.mz_script.specs.declared.read.stop.Stop.TheVariants.{Unexpected, Memory as NoMemory}

-- the line that is told is the first that is wrong; memory may run out anywhere
abbrev pub HasCause : Program → List ℕ → ScriptFault → Type 0
HasCause p bytes (Line n) = IsWrongLine p bytes n
HasCause p bytes Memory = Unit {0}

-- it gives this derivation, or memory ran out
abbrev pub GivesScripts : Result Derivation ScriptFault → List (List Item) → Type 0
GivesScripts (Ok d) scripts = plain_derivation d ≡ scripts
GivesScripts (Err (Line n)) scripts = ⊥
GivesScripts (Err Memory) scripts = Unit {0}

-- it tells this line, or memory ran out
abbrev pub TellsLine : Result Derivation ScriptFault → ℕ → Type 0
TellsLine (Ok d) n = ⊥
TellsLine (Err (Line m)) n = m ≡ n
TellsLine (Err Memory) n = Unit {0}

-- the scripts of which all lines are the script, or the first line that is wrong by how many are left from it on
abbrev pub Settles : Program → List ℕ → Result (List Script) Stop → Type 0
Settles p bytes (Ok scripts) = IsScript p (lines bytes) (map plain_script scripts)
Settles p bytes (Err (Unexpected left)) = IsFirstWrong no_brackets 0 (IsScript p) (lines bytes) left
Settles p bytes (Err NoMemory) = Unit {0}

-- the fault of a stop: the number of the line, from 1, from which so many are left
abbrev pub IsFaultOf : List ℕ → Stop → ScriptFault → Type 0
IsFaultOf bytes (Unexpected left) (Line n) = n ≡ (length (lines bytes) - left) + 1
IsFaultOf bytes NoMemory Memory = Unit {0}
IsFaultOf bytes stop fault = ⊥
