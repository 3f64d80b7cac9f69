-- What a call of the whole program answers, for which cause, and what it writes.
use Rattle.std.specs.Prelude.{◌≡◌, ◌⊎◌, ℕ, ◌≤◌, true, List, [], ◌∷◌, ◌++◌, length, Option, IfSome, String, string_bytes, codes, decimal}
use Rattle.std.specs.declared.alloc.Global.{Global}
use Rattle.mz_base.specs.Causes.{Rose}
use Rattle.mz_base.specs.Told.{Gains, GainsFront}
use Rattle.mz_tree.specs.declared.types.Place.{Place}
use Rattle.mz_tree.specs.Programs.{Program}
use Rattle.mz_scope.specs.Reads.{Reads}
use Rattle.mz_modes.specs.Adopted.{Declared}
use Rattle.mz_deriv.specs.Scripts.{Item}
use Rattle.mz_deriv.specs.Derivable.{Derivable}
use Rattle.mz_named.specs.Configurations.{Config}
use Rattle.mz_named.specs.Safety.{NamedSafe}
use Rattle.mz_cli.specs.declared.words.Mode.{Mode}
use Rattle.mz_cli.specs.declared.words.Mode.TheVariants.{Sched, Verify}
use Rattle.mz_cli.specs.declared.status.Status.{Status}
use Rattle.mz_cli.specs.declared.status.Status.TheVariants.{Done, Refused, Usage, Stopped, ReadFault, WriteFault, Memory}
use Rattle.mz_cli.specs.declared.refusal.Refusal.{Refusal}
use Rattle.mz_cli.specs.FirstForm.{is_first_form}
use Rattle.mz_cli.specs.Running.{LeadsTo, HasEnded, StopsAt}
use Rattle.mz_cli.specs.Words.{Asks, AreTaken}
use Rattle.mz_cli.specs.Refusals.{source_limit, Causes, refusal_text}
use Rattle.mz_cli.specs.Verifying.{IsVerified, VerifyCauses}

-- ---- texts

abbrev pub line : List ℕ → List ℕ
line text = text ++ 10 ∷ []

-- each print is its decimal digits and a line end
abbrev pub print_lines : List ℕ → List ℕ
print_lines [] = []
print_lines (n ∷ prints) = line (decimal n) ++ print_lines prints

abbrev pub usage_line : List ℕ
usage_line = line (codes "usage: mezzo MODE [--heap N] [--steps N] [--tries N] [--workers N] [--quantum N] [--size N]")

abbrev pub stop_line : Place → List ℕ
stop_line place = line (codes "stopped: thread 0: arithmetic at " ++ decimal place.line ++ codes ":" ++ decimal place.col)

-- that a derivation is one
abbrev pub accepted_line : List ℕ
accepted_line = line (codes "accepted")

-- ---- runs

-- the program has a derivation: by the permission rules a script leads through each of its functions
abbrev pub IsDerivable : Program → Type 0
IsDerivable program = (scripts : List (List Item)) × Derivable program scripts

-- the bytes are within the limit and the text of this program, which is declared and of the first form
pub record IsRunnable (bytes : List ℕ) (program : Program) : Type 0 where
  pub short : length bytes ≤ source_limit
  pub reads : Reads bytes program
  pub declared : Declared program
  pub first : is_first_form reads.surface program ≡ true

-- so they are, and the program has a derivation, and it is safe: no steps of any threads lead from its opening to anything
-- wrong, or to a race
pub record Runs (bytes : List ℕ) (program : Program) : Type 0 where
  pub runnable : IsRunnable bytes program
  pub derivable : IsDerivable program
  pub safe : NamedSafe program

-- ---- answers

-- the status that the bytes of an input have in a mode, and the text that is written with it
abbrev pub Answers : Mode → List ℕ → Status → List ℕ → Type 0
-- the run ends: its prints
Answers Sched bytes Done text =
    (program : Program) × (w : Config) × Runs bytes program × LeadsTo program w
    × HasEnded w 0 × (text ≡ print_lines w.prints)
-- the run stops at an arithmetic command: its prints, and where it stopped
Answers Sched bytes Stopped text =
    (program : Program) × (w : Config) × (place : Place) × Runs bytes program × LeadsTo program w
    × StopsAt w 0 place × (text ≡ print_lines w.prints ++ stop_line place)
-- the source is refused: for the first cause that holds, whose line is written
Answers Sched bytes Refused text = (refusal : Refusal) × Causes bytes refusal × (text ≡ line (refusal_text refusal))
-- the script is the text of a derivation of the source's program
Answers Verify bytes Done text = (program : Program) × (scripts : List (List Item)) × IsVerified bytes program scripts × (text ≡ accepted_line)
-- the input is refused: for the first cause that holds, whose line is written
Answers Verify bytes Refused text = (refusal : Refusal) × VerifyCauses bytes refusal × (text ≡ line (refusal_text refusal))
Answers mode bytes status text = ⊥

-- the input's bytes, which are those that it tells, if it tells any
abbrev pub AreLeft : Option (List ℕ) → List ℕ → Type 0
AreLeft left bytes = IfSome left (λ told. told ≡ bytes)

-- the status and the text that come of the words and of the input's bytes, where nothing fails
abbrev pub Comes : List (String Global) → Option (List ℕ) → Status → List ℕ → Type 0
Comes words left Usage text = (AreTaken words → ⊥) × (text ≡ usage_line)
Comes words left status text = (mode : Mode) × Asks words mode × ((bytes : List ℕ) × AreLeft left bytes × Answers mode bytes status text)

-- what a call saw of its source and its sink: each count, and what each tells, before and after it
pub record Traffic : Type 0 where
  pub left : Option (List ℕ)
  pub source_faults : ℕ
  pub source_faults_after : ℕ
  pub written : Option (List ℕ)
  pub written_after : Option (List ℕ)
  pub sink_faults : ℕ
  pub sink_faults_after : ℕ
  pub stalls : ℕ
  pub stalls_after : ℕ

-- what comes was written whole
abbrev pub Writes : List (String Global) → Traffic → Status → Type 0
Writes words t status = (text : List ℕ) × Comes words t.left status text × Gains t.written t.written_after text

abbrev pub Outcome : List (String Global) → Traffic → Status → Type 0
Outcome words t Done = Writes words t Done
Outcome words t Stopped = Writes words t Stopped
Outcome words t Refused = Writes words t Refused
Outcome words t Usage = Writes words t Usage
-- a read failed, and nothing was written
Outcome words t ReadFault = AreTaken words × Rose t.source_faults t.source_faults_after × (t.written_after ≡ t.written)
-- a write failed or took nothing, and a front of what would have come was written
Outcome words t WriteFault =
    (Rose t.sink_faults t.sink_faults_after ⊎ Rose t.stalls t.stalls_after)
    × ((status : Status) × (text : List ℕ) × Comes words t.left status text × GainsFront t.written t.written_after text)
-- want of memory, and nothing was written
Outcome words t Memory = AreTaken words × (t.written_after ≡ t.written)
