-- What the parts of a call answer.
use Rattle.std.specs.Prelude.{◌≡◌, ℕ, ◌++◌, true, List, Some, None, Result, Ok, Err}
use Rattle.mz_parse.specs.declared.tree.Surface.{Surface}
use Rattle.mz_scope.specs.Trees.{tree_of}
use Rattle.mz_scope.specs.Flattening.{Flattens}
use Rattle.mz_deriv.specs.declared.fault.DerivFault.TheVariants as fault
use Rattle.mz_deriv.specs.Scripts.{Item}
use Rattle.mz_deriv.specs.Derivable.{Derivable}
use Rattle.mz_deriv.specs.Refused.{RefusedAt}
use Rattle.mz_script.specs.Texts.{IsScriptText, IsWrongLine}
use Rattle.mz_tree.specs.declared.types.Place.{Place}
use Rattle.mz_tree.specs.Programs.{Program}
use Rattle.mz_scope.specs.Reads.{Reads}
use Rattle.mz_decl.specs.Places.{IsFirst}
use Rattle.mz_decl.specs.Declarations.{Decls}
use Rattle.mz_modes.specs.Adopted.{IsNotExclusive, Declared}
use Rattle.mz_named.specs.Configurations.{Config}
use Rattle.mz_cli.specs.declared.refusal.Refusal.{Refusal}
use Rattle.mz_cli.specs.declared.refusal.Refusal.TheVariants.{NotExclusive, WrongLine, BadStep, BadCommand, BadJoin}
use Rattle.mz_cli.specs.declared.refusal.Stop.{Stop}
use Rattle.mz_cli.specs.declared.refusal.Stop.TheVariants.{Refused, Memory}
use Rattle.mz_cli.specs.declared.run.Ending.{Ending}
use Rattle.mz_cli.specs.declared.run.Ending.TheVariants as ending
use Rattle.mz_cli.specs.declared.status.Status.{Status}
use Rattle.mz_cli.specs.declared.status.Status.TheVariants as status
use Rattle.mz_cli.specs.FirstForm.{is_first_form}
use Rattle.mz_cli.specs.declared.words.Mode.{Mode}
use Rattle.mz_cli.specs.declared.words.Mode.TheVariants.{Sched, Verify}
use Rattle.mz_cli.specs.Refusals.{source_limit, HasTree, NotDeclared}
use Rattle.mz_cli.specs.Inputs.{input_limit}
use Rattle.mz_cli.specs.Running.{LeadsTo, HasEnded, StopsAt}
use Rattle.mz_cli.specs.Outcome.{print_lines, stop_line}

-- the most bytes that are read in a mode
abbrev pub limit_of : Mode → ℕ
limit_of Sched = source_limit
limit_of Verify = input_limit

-- what a step of reading gives; or the fault for which it refuses; want of memory says nothing
abbrev pub GivesOr : {A : Type 0} → (Refusal → Type 0) → (A → Type 0) → Result A Stop → Type 0
GivesOr Fault Is (Ok a) = Is a
GivesOr Fault Is (Err (Refused refusal)) = Fault refusal
GivesOr Fault Is (Err Memory) = Unit {0}

-- each `adopts` of the declarations names a mutable data type; or the first place of one that doesn't
abbrev pub AreExclusive : Decls → Result (Unit {0}) Stop → Type 0
AreExclusive decls (Ok done) = IsFirst (IsNotExclusive decls) None
AreExclusive decls (Err (Refused (NotExclusive place))) = IsFirst (IsNotExclusive decls) (Some place)
AreExclusive decls (Err (Refused _)) = ⊥
AreExclusive decls (Err Memory) = Unit {0}

-- the program is declared; or the first place where it isn't
abbrev pub Declares : Program → Result (Unit {0}) Stop → Type 0
Declares program (Ok done) = Declared program
Declares program (Err (Refused refusal)) = NotDeclared program refusal
Declares program (Err Memory) = Unit {0}

-- the tree of the bytes and its program, which is declared
pub record IsDeclaredTree (bytes : List ℕ) (surface : Surface) (program : Program) : Type 0 where
  pub tree : HasTree bytes surface
  pub flattens : Flattens (tree_of surface) program
  pub declared : Declared program

-- the scripts are a derivation of the program; or the first point without an instance
abbrev pub Judges : Program → List (List Item) → Result (Unit {0}) Stop → Type 0
Judges program scripts (Ok done) = Derivable program scripts
Judges program scripts (Err (Refused (BadStep place step))) = RefusedAt program scripts (fault.BadStep place step)
Judges program scripts (Err (Refused (BadCommand place))) = RefusedAt program scripts (fault.BadCommand place)
Judges program scripts (Err (Refused (BadJoin place))) = RefusedAt program scripts (fault.BadJoin place)
Judges program scripts (Err (Refused _)) = ⊥
Judges program scripts (Err Memory) = Unit {0}

-- the bytes are the text of a derivation of the program; or the first line that can't stand where it does, or the first point
-- without an instance
abbrev pub JudgesText : Program → List ℕ → Result (Unit {0}) Stop → Type 0
JudgesText program bytes (Err (Refused (WrongLine number))) = IsWrongLine program bytes number
JudgesText program bytes (Err Memory) = Unit {0}
JudgesText program bytes result = (scripts : List (List Item)) × IsScriptText program bytes scripts × Judges program scripts result

-- the program of a text of the first form
pub record IsRead (bytes : List ℕ) (program : Program) : Type 0 where
  pub reads : Reads bytes program
  pub declared : Declared program
  pub first : is_first_form reads.surface program ≡ true

-- it is the program of some text of the first form: so it has a derivation, it is safe, and its `main` goes straight on
abbrev pub IsReady : Program → Type 0
IsReady program = (bytes : List ℕ) × IsRead bytes program

-- what a run of the program came to: it ended, or stopped at a command, with these prints
abbrev pub RunsTo : Program → Ending → List ℕ → Type 0
RunsTo program ending.Ended prints = (w : Config) × LeadsTo program w × HasEnded w 0 × (prints ≡ w.prints)
RunsTo program (ending.Stopped place) prints = (w : Config) × LeadsTo program w × StopsAt w 0 place × (prints ≡ w.prints)

-- the status and the text of that run
abbrev pub RunAnswers : Program → Status → List ℕ → Type 0
RunAnswers program status.Done text =
    (w : Config) × LeadsTo program w × HasEnded w 0 × (text ≡ print_lines w.prints)
RunAnswers program status.Stopped text =
    (w : Config) × (place : Place) × LeadsTo program w × StopsAt w 0 place × (text ≡ print_lines w.prints ++ stop_line place)
RunAnswers program _ text = ⊥
