-- Why a source is refused: the first of these causes that holds, and what is written for it.
use Rattle.std.specs.Prelude.{◌≡◌, ℕ, ◌<◌, ◌≤◌, false, List, ◌++◌, length, Some, None, Err, codes, decimal}
use Rattle.mz_tree.specs.declared.types.Place.{Place}
use Rattle.mz_tree.specs.Programs.{Program}
use Rattle.mz_token.specs.declared.token.Tokens.{Tokens}
use Rattle.mz_token.specs.declared.token.LexFault.TheVariants as lex
use Rattle.mz_token.specs.Lexes.{Lexes, Faults}
use Rattle.mz_parse.specs.declared.tree.Surface.{Surface}
use Rattle.mz_parse.specs.Parses.{Parses, WithinLimit, IsUnexpected, IsTooDeep}
use Rattle.mz_scope.specs.declared.resolution.ScopeFault.{ScopeFault}
use Rattle.mz_scope.specs.declared.resolution.ScopeFault.TheVariants as scope
use Rattle.mz_scope.specs.Trees.{tree_of}
use Rattle.mz_scope.specs.Resolves.{Resolves}
use Rattle.mz_scope.specs.Reads.{Reads}
use Rattle.mz_decl.specs.Places.{IsFirst}
use Rattle.mz_decl.specs.Declarations.{decls_of, IsImmutableAdopter}
use Rattle.mz_modes.specs.Adopted.{IsNotExclusive, Declared}
use Rattle.mz_cli.specs.declared.refusal.Refusal.{Refusal}
use Rattle.mz_cli.specs.declared.refusal.Refusal.TheVariants.{TooLong, BadByte, BadNumber, NameTooLong, Unexpected, TooDeep, UnknownName, DeclaredTwice, WrongShape, CasesMissing, TooMany, NoMain, ImmutableAdopter, NotExclusive, Unbuilt, WrongLine, BadStep, BadCommand, BadJoin}
use Rattle.mz_cli.specs.FirstForm.{is_first_form}

-- the most bytes of a source
abbrev pub source_limit : ℕ
source_limit = 1048576

-- ---- how far a source was read

-- these are the bytes with their tokens
pub record HasTokens (bytes : List ℕ) (tokens : Tokens) : Type 0 where
  pub text : tokens.text ≡ bytes
  pub lexes : Lexes bytes tokens.items

-- this is the tree of the bytes' tokens, and no more brackets are open at once than may be
pub record HasTree (bytes : List ℕ) (surface : Surface) : Type 0 where
  pub tokens : Tokens
  pub has : HasTokens bytes tokens
  pub parses : Parses tokens surface
  pub within : WithinLimit tokens

-- something is wrong with the names and shapes of the bytes' tree, and this is the first
pub record IsScopeFault (bytes : List ℕ) (fault : ScopeFault) : Type 0 where
  pub surface : Surface
  pub tree : HasTree bytes surface
  pub resolves : Resolves (tree_of surface) (Err fault)

-- an `adopts` of the program stands on what is immutable, or else names what is immutable, first at this place
abbrev pub NotDeclared : Program → Refusal → Type 0
NotDeclared program (ImmutableAdopter place) = IsFirst (IsImmutableAdopter program) (Some place)
NotDeclared program (NotExclusive place) = IsFirst (IsImmutableAdopter program) None × IsFirst (IsNotExclusive (decls_of program)) (Some place)
NotDeclared program _ = ⊥

-- ---- causes

-- what is wrong with bytes that aren't too many
abbrev pub HasFault : List ℕ → Refusal → Type 0
HasFault bytes TooLong = ⊥
-- the bytes have no tokens
HasFault bytes (BadByte place) = Faults bytes (lex.Byte place)
HasFault bytes (BadNumber place) = Faults bytes (lex.Number place)
HasFault bytes (NameTooLong place) = Faults bytes (lex.NameTooLong place)
-- the tokens have no tree
HasFault bytes (Unexpected place) = (tokens : Tokens) × HasTokens bytes tokens × IsUnexpected tokens place
HasFault bytes (TooDeep place) = (tokens : Tokens) × HasTokens bytes tokens × IsTooDeep tokens place
-- the tree has no program
HasFault bytes (UnknownName place) = IsScopeFault bytes (scope.Unknown place)
HasFault bytes (DeclaredTwice place) = IsScopeFault bytes (scope.Twice place)
HasFault bytes (WrongShape place) = IsScopeFault bytes (scope.Shape place)
HasFault bytes (CasesMissing place) = IsScopeFault bytes (scope.NotExhaustive place)
HasFault bytes (TooMany place) = IsScopeFault bytes (scope.TooMany place)
HasFault bytes NoMain = IsScopeFault bytes scope.NoMain
-- the program isn't declared
HasFault bytes (ImmutableAdopter place) = (program : Program) × Reads bytes program × NotDeclared program (ImmutableAdopter place)
HasFault bytes (NotExclusive place) = (program : Program) × Reads bytes program × NotDeclared program (NotExclusive place)
-- what comes behind that is no fault of the text
HasFault bytes Unbuilt = ⊥
HasFault bytes (WrongLine number) = ⊥
HasFault bytes (BadStep place step) = ⊥
HasFault bytes (BadCommand place) = ⊥
HasFault bytes (BadJoin place) = ⊥

-- what is wrong with bytes that are to be run and aren't too many
abbrev pub RunFault : List ℕ → Refusal → Type 0
-- they are the text of a declared program, and not of the first form
RunFault bytes Unbuilt = (program : Program) × (reads : Reads bytes program) × Declared program × (is_first_form reads.surface program ≡ false)
RunFault bytes refusal = HasFault bytes refusal

-- the first cause for which the bytes are refused
abbrev pub Causes : List ℕ → Refusal → Type 0
Causes bytes TooLong = source_limit < length bytes
Causes bytes refusal = (length bytes ≤ source_limit) × RunFault bytes refusal

-- ---- texts

-- what is written of a place
abbrev pub at_place : Place → List ℕ → List ℕ
at_place place text = codes "refused: " ++ decimal place.line ++ codes ":" ++ decimal place.col ++ codes ": " ++ text

-- what is written of a line of a script
abbrev pub at_line : ℕ → List ℕ
at_line number = codes "refused: line " ++ decimal number

abbrev pub bad_step : ℕ → List ℕ
bad_step step = codes "bad step " ++ decimal step

abbrev pub refusal_text : Refusal → List ℕ
refusal_text TooLong = codes "refused: too long"
refusal_text (BadByte place) = at_place place (codes "bad byte")
refusal_text (BadNumber place) = at_place place (codes "bad number")
refusal_text (NameTooLong place) = at_place place (codes "name too long")
refusal_text (Unexpected place) = at_place place (codes "unexpected")
refusal_text (TooDeep place) = at_place place (codes "too deep")
refusal_text (UnknownName place) = at_place place (codes "unknown name")
refusal_text (DeclaredTwice place) = at_place place (codes "declared twice")
refusal_text (WrongShape place) = at_place place (codes "wrong shape")
refusal_text (CasesMissing place) = at_place place (codes "cases missing")
refusal_text (TooMany place) = at_place place (codes "too many")
refusal_text NoMain = codes "refused: 1:1: no main"
refusal_text (ImmutableAdopter place) = at_place place (codes "immutable adopter")
refusal_text (NotExclusive place) = at_place place (codes "not exclusive")
refusal_text Unbuilt = codes "refused: not built yet"
refusal_text (WrongLine number) = at_line number
refusal_text (BadStep place step) = at_place place (bad_step step)
refusal_text (BadCommand place) = at_place place (codes "bad command")
refusal_text (BadJoin place) = at_place place (codes "bad join")
