-- From what the steps of reading answered to what the whole answers.
use Rattle.std.proofs.Common.{◌≡◌, ℕ, List, None, Result, Ok, Err, subst}
use Rattle.mz_tree.specs.Programs.{Program}
use Rattle.mz_parse.specs.declared.tree.Surface.{Surface}
use Rattle.mz_scope.specs.Trees.{tree_of}
use Rattle.mz_scope.specs.Flattening.{Flattens}
use Rattle.mz_scope.specs.Reads.{Reads}
use Rattle.mz_decl.specs.Places.{IsFirst}
use Rattle.mz_decl.specs.Declarations.{Decls, decls_of, IsImmutableAdopter}
use Rattle.mz_cli.specs.declared.refusal.Refusal.TheVariants.{TooLong, BadByte, BadNumber, NameTooLong, Unexpected, TooDeep, UnknownName, DeclaredTwice, WrongShape, CasesMissing, TooMany, NoMain, ImmutableAdopter, NotExclusive, Unbuilt, WrongLine, BadStep, BadCommand, BadJoin}
use Rattle.mz_cli.specs.declared.refusal.Stop.{Stop}
use Rattle.mz_cli.specs.declared.refusal.Stop.TheVariants.{Refused, Memory}
use Rattle.mz_cli.specs.Refusals.{HasTree, HasFault, RunFault}
use Rattle.mz_cli.specs.Answered.{GivesOr, AreExclusive, Declares, IsDeclaredTree}

-- the tree of the bytes has this program
abbrev pub reads_of : (bytes : List ℕ) (surface : Surface) (program : Program) → HasTree bytes surface → Flattens (tree_of surface) program → Reads bytes program
reads_of bytes surface program tree flattens = record {
  tokens = tree.tokens;
  surface = surface;
  text = tree.has.text;
  lexes = tree.has.lexes;
  parses = tree.parses;
  within = tree.within;
  flattens = flattens;
}

-- where no `adopts` stands on what is immutable, all lies with what they name
pub declared_by : (program : Program) (decls : Decls) (result : Result (Unit {0}) Stop) → decls ≡ decls_of program → IsFirst (IsImmutableAdopter program) None → AreExclusive decls result → Declares program result
declared_by program decls result same none modes = at result (subst (λ d. AreExclusive d result) same modes)
  where
    at : (r : Result (Unit {0}) Stop) → AreExclusive (decls_of program) r → Declares program r
    at (Ok done) first = record { on_mutable = none; exclusive = first }
    at (Err (Refused (NotExclusive place))) first = (none, first)
    at (Err (Refused _)) never = absurd never
    at (Err Memory) any = tt

-- a program that isn't declared refuses its text
pub refused_by : {A : Type 0} (bytes : List ℕ) (Is : A → Type 0) (program : Program) (stop : Stop) → Reads bytes program → Declares program (Err stop) → GivesOr (HasFault bytes) Is (Err stop)
refused_by bytes Is program (Refused (ImmutableAdopter place)) reads first = (program, reads, first)
refused_by bytes Is program (Refused (NotExclusive place)) reads first = (program, reads, first)
refused_by bytes Is program (Refused _) reads never = absurd never
refused_by bytes Is program Memory reads any = tt

-- the tree and the program of a text, with its reading
abbrev pub reads_tree : (bytes : List ℕ) (surface : Surface) (program : Program) → IsDeclaredTree bytes surface program → Reads bytes program
reads_tree bytes surface program is = reads_of bytes surface program is.tree is.flattens

-- what is wrong with a text is wrong with one that is to be run
pub run_refused : {A B : Type 0} (bytes : List ℕ) (Is : A → Type 0) (Are : B → Type 0) (stop : Stop) → GivesOr (HasFault bytes) Is (Err stop) → GivesOr (RunFault bytes) Are (Err stop)
run_refused bytes Is Are (Refused TooLong) fault = fault
run_refused bytes Is Are (Refused (BadByte place)) fault = fault
run_refused bytes Is Are (Refused (BadNumber place)) fault = fault
run_refused bytes Is Are (Refused (NameTooLong place)) fault = fault
run_refused bytes Is Are (Refused (Unexpected place)) fault = fault
run_refused bytes Is Are (Refused (TooDeep place)) fault = fault
run_refused bytes Is Are (Refused (UnknownName place)) fault = fault
run_refused bytes Is Are (Refused (DeclaredTwice place)) fault = fault
run_refused bytes Is Are (Refused (WrongShape place)) fault = fault
run_refused bytes Is Are (Refused (CasesMissing place)) fault = fault
run_refused bytes Is Are (Refused (TooMany place)) fault = fault
run_refused bytes Is Are (Refused NoMain) fault = fault
run_refused bytes Is Are (Refused (ImmutableAdopter place)) fault = fault
run_refused bytes Is Are (Refused (NotExclusive place)) fault = fault
run_refused bytes Is Are (Refused Unbuilt) fault = absurd fault
run_refused bytes Is Are (Refused (WrongLine number)) fault = fault
run_refused bytes Is Are (Refused (BadStep place step)) fault = fault
run_refused bytes Is Are (Refused (BadCommand place)) fault = fault
run_refused bytes Is Are (Refused (BadJoin place)) fault = fault
run_refused bytes Is Are Memory fault = tt
