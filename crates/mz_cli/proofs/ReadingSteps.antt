-- How a text is read, step by step, up to a declared program; each step refuses the text or goes on, and what comes behind them
-- is left open. Where that has one answer, so has the text.
use Rattle.std.proofs.Common.{◌≡◌, ℕ, zero, suc, true, false, List, [], Option, Some, None, refl, sym, ap, ap₂, ◌∙◌}
use Rattle.mz_tree.specs.declared.types.Place.{Place}
use Rattle.mz_tree.specs.Programs.{Program}
use Rattle.mz_token.specs.declared.token.Token.{Token}
use Rattle.mz_token.specs.declared.token.Tokens.{Tokens}
use Rattle.mz_token.specs.declared.token.LexFault.{LexFault}
use Rattle.mz_token.specs.declared.token.LexFault.TheVariants as lex
use Rattle.mz_token.specs.Lexes.{Faults}
use Rattle.mz_token.proofs.Unique as texts
use Rattle.mz_parse.specs.declared.tree.Surface.{Surface}
use Rattle.mz_parse.specs.declared.tree.SyntaxFault.{SyntaxFault}
use Rattle.mz_parse.specs.declared.tree.SyntaxFault.TheVariants as syntax_fault
use Rattle.mz_parse.specs.Parses.{Parses, WithinLimit}
use Rattle.mz_parse.specs.Parses as parses
use Rattle.mz_parse.proofs.WholeSources as sources
use Rattle.mz_scope.specs.Trees.{tree_of}
use Rattle.mz_scope.specs.Faults as faults
use Rattle.mz_scope.specs.Flattening.{flat_program, faults_of}
use Rattle.mz_tree.specs.Main.{has_main}
use Rattle.mz_scope.specs.Reads.{Reads}
use Rattle.mz_decl.specs.Places.{IsFirst}
use Rattle.mz_decl.specs.Declarations.{decls_of, IsImmutableAdopter}
use Rattle.mz_modes.specs.Adopted.{IsNotExclusive, Declared}
use Rattle.mz_cli.specs.declared.refusal.Refusal.{Refusal}
use Rattle.mz_cli.specs.declared.refusal.Refusal.TheVariants.{TooLong, BadByte, BadNumber, NameTooLong, Unexpected, TooDeep, UnknownName, DeclaredTwice, WrongShape, CasesMissing, TooMany, NoMain, ImmutableAdopter, NotExclusive, Unbuilt, WrongLine, BadStep, BadCommand, BadJoin}
use Rattle.mz_cli.specs.Refusals.{HasTokens, HasTree, HasFault}
use Rattle.mz_cli.proofs.FirstFaults.{first_place, first_fault}
use Rattle.mz_cli.proofs.Settling.{IsOne, IsDecided, Settles, stops, goes_on, settles_one}

-- the refusal of a source; none means that it runs
abbrev pub Answer : Type 0
Answer = Option Refusal

-- ---- the answers of faults

-- that of a fault of the bytes; want of memory is no fault of theirs
abbrev lex_answer : LexFault → Answer
lex_answer (lex.Byte place) = Some (BadByte place)
lex_answer (lex.Number place) = Some (BadNumber place)
lex_answer (lex.NameTooLong place) = Some (NameTooLong place)
lex_answer lex.Memory = None

-- that of a fault of the tokens
abbrev syntax_answer : SyntaxFault → Answer
syntax_answer (syntax_fault.Unexpected place) = Some (Unexpected place)
syntax_answer (syntax_fault.TooDeep place) = Some (TooDeep place)
syntax_answer syntax_fault.Memory = None

-- that of a fault of a name or a shape, by the rank of its cause
abbrev ranked_answer : ℕ → Place → Answer
ranked_answer zero place = Some (UnknownName place)
ranked_answer (suc zero) place = Some (DeclaredTwice place)
ranked_answer (suc (suc zero)) place = Some (WrongShape place)
ranked_answer (suc (suc (suc zero))) place = Some (CasesMissing place)
ranked_answer (suc (suc (suc (suc more)))) place = Some (TooMany place)

-- ---- what the steps pass on

-- the tree has this program, with a `main`
abbrev HasProgram : Surface → Program → Type 0
HasProgram surface program = (has_main (flat_program (tree_of surface)) ≡ true) × (program ≡ flat_program (tree_of surface))

-- the tokens have this tree, within the limit of brackets
abbrev IsTree : Tokens → Surface → Type 0
IsTree tokens surface = Parses tokens surface × WithinLimit tokens

-- ---- each step is decided

-- a tree has one flat program, in which there is a `main` or not
main_decided : (surface : Surface) → IsDecided (λ (none : Unit {0}). has_main (flat_program (tree_of surface)) ≡ false) (HasProgram surface) (λ none. Some NoMain)
main_decided surface = record {
  one_answer = λ f g a b. refl;
  one_value = λ p q a b. a.1 ∙ sym b.1;
  apart = λ f p none is. let clash : false ≡ true = sym none ∙ is.0 in absurd (cc);
}

-- tokens have one fault or one tree, and not both
tree_decided : (tokens : Tokens) → IsDecided (parses.Faults tokens) (IsTree tokens) syntax_answer
tree_decided tokens = record {
  one_answer = λ f g a b. ap syntax_answer (sources.one_fault tokens f g a b);
  one_value = λ s t a b. sources.one_tree tokens s t a.0 b.0;
  apart = λ f s a is. sources.tree_no_fault tokens s f is.0 is.1 a;
}

-- bytes have one list of tokens
same_tokens : (bytes : List ℕ) (a b : Tokens) → HasTokens bytes a → HasTokens bytes b → a ≡ b
same_tokens bytes a b one other = ap₂ (λ (t : List ℕ) (i : List Token). record { text = t; items = i }) (one.text ∙ sym other.text) (texts.one_list bytes a.items b.items one.lexes other.lexes)

-- bytes have one fault or one list of tokens, and not both
text_decided : (bytes : List ℕ) → IsDecided (Faults bytes) (HasTokens bytes) lex_answer
text_decided bytes = record {
  one_answer = λ f g a b. ap lex_answer (texts.one_fault bytes f g a b);
  one_value = same_tokens bytes;
  apart = λ f tokens a has. texts.list_or_fault bytes tokens.items f has.lexes a;
}

-- ---- the steps, the last one first: each says which answers it comes to, with those after it

module _ (Last : Surface → Program → Answer → Type 0) where
  -- whether each `adopts` names what is mutable
  abbrev pub OfModes : Surface → Program → Answer → Type 0
  OfModes surface program = Settles (λ place. IsFirst (IsNotExclusive (decls_of program)) (Some place)) (λ (none : Unit {0}). IsFirst (IsNotExclusive (decls_of program)) None)
      (λ place. Some (NotExclusive place)) (λ none. Last surface program)

  -- whether each `adopts` stands on what is mutable
  abbrev pub OfProgram : Surface → Program → Answer → Type 0
  OfProgram surface program = Settles (λ place. IsFirst (IsImmutableAdopter program) (Some place)) (λ (none : Unit {0}). IsFirst (IsImmutableAdopter program) None)
      (λ place. Some (ImmutableAdopter place)) (λ none. OfModes surface program)

  -- whether there is a `main`
  abbrev pub OfMain : Surface → Answer → Type 0
  OfMain surface = Settles (λ (none : Unit {0}). has_main (flat_program (tree_of surface)) ≡ false) (HasProgram surface)
      (λ none. Some NoMain) (OfProgram surface)

  -- whether something is wrong with names and shapes
  abbrev pub OfTree : Surface → Answer → Type 0
  OfTree surface = Settles (λ fault. faults.IsFirst (faults_of (tree_of surface)) fault) (λ (none : Unit {0}). faults_of (tree_of surface) ≡ [])
      (λ fault. ranked_answer (faults.rank fault.cause) fault.place) (λ none. OfMain surface)

  -- whether the tokens have a tree
  abbrev pub OfTokens : Tokens → Answer → Type 0
  OfTokens tokens = Settles (parses.Faults tokens) (IsTree tokens) syntax_answer OfTree

  -- whether the bytes have tokens
  abbrev pub OfText : List ℕ → Answer → Type 0
  OfText bytes = Settles (Faults bytes) (HasTokens bytes) lex_answer OfTokens

  -- ---- each step has one answer, where what comes behind them has one

  module _ (same_last : (surface : Surface) (program : Program) → IsOne (Last surface program)) where
    -- one place is the first where an `adopts` names what is immutable
    same_modes : (surface : Surface) (program : Program) → IsOne (OfModes surface program)
    same_modes surface program = settles_one _ _ _ _ (first_place (IsNotExclusive (decls_of program)) (λ place. Some (NotExclusive place))) (λ none. same_last surface program)

    -- one place is the first where an `adopts` stands on what is immutable
    same_program : (surface : Surface) (program : Program) → IsOne (OfProgram surface program)
    same_program surface program = settles_one _ _ _ _ (first_place (IsImmutableAdopter program) (λ place. Some (ImmutableAdopter place))) (λ none. same_modes surface program)

    -- with or without a `main` there is one answer
    same_main : (surface : Surface) → IsOne (OfMain surface)
    same_main surface = settles_one _ _ _ _ (main_decided surface) (same_program surface)

    -- one fault of names and shapes is the first
    same_tree : (surface : Surface) → IsOne (OfTree surface)
    same_tree surface = settles_one _ _ _ _ (first_fault (faults_of (tree_of surface)) ranked_answer) (λ none. same_main surface)

    -- so tokens have one answer
    same_syntax : (tokens : Tokens) → IsOne (OfTokens tokens)
    same_syntax tokens = settles_one _ _ _ _ (tree_decided tokens) same_tree

    -- so a text has one answer
    pub same_text : (bytes : List ℕ) → IsOne (OfText bytes)
    same_text bytes = settles_one _ _ _ _ (text_decided bytes) same_syntax

  -- ---- each fault of a text is its answer

  -- an answer of its tokens
  by_tokens : (bytes : List ℕ) (tokens : Tokens) (answer : Answer) → HasTokens bytes tokens → OfTokens tokens answer → OfText bytes answer
  by_tokens bytes tokens answer has of = goes_on tokens has of

  -- an answer of its tree
  by_tree : (bytes : List ℕ) (surface : Surface) (answer : Answer) → HasTree bytes surface → OfTree surface answer → OfText bytes answer
  by_tree bytes surface answer tree of = by_tokens bytes tree.tokens answer tree.has (goes_on surface (tree.parses, tree.within) of)

  -- that of the first fault of names and shapes
  by_fault : (bytes : List ℕ) (surface : Surface) (fault : _) → HasTree bytes surface → faults.IsFirst (faults_of (tree_of surface)) fault → OfText bytes (ranked_answer (faults.rank fault.cause) fault.place)
  by_fault bytes surface fault tree first = by_tree bytes surface _ tree (stops fault first refl)

  -- an answer of its program
  by_program : (bytes : List ℕ) (program : Program) (answer : Answer) (reads : Reads bytes program) → OfProgram reads.surface program answer → OfText bytes answer
  by_program bytes program answer reads of =
      by_tree bytes reads.surface answer (record { tokens = reads.tokens; has = record { text = reads.text; lexes = reads.lexes }; parses = reads.parses; within = reads.within })
      (goes_on tt reads.flattens.clean (goes_on program (reads.flattens.begins, reads.flattens.flat) of))

  -- an answer of what comes behind, where the program is declared
  pub by_declared : (bytes : List ℕ) (program : Program) (answer : Answer) (reads : Reads bytes program) → Declared program → Last reads.surface program answer → OfText bytes answer
  by_declared bytes program answer reads declared last = by_program bytes program answer reads (goes_on tt declared.on_mutable (goes_on tt declared.exclusive last))

  -- whatever is wrong with the text up to there, its refusal is the answer
  pub by_refusal : (bytes : List ℕ) (refusal : Refusal) → HasFault bytes refusal → OfText bytes (Some refusal)
  by_refusal bytes TooLong fault = absurd fault
  by_refusal bytes (BadByte place) fault = stops (lex.Byte place) fault refl
  by_refusal bytes (BadNumber place) fault = stops (lex.Number place) fault refl
  by_refusal bytes (NameTooLong place) fault = stops (lex.NameTooLong place) fault refl
  by_refusal bytes (Unexpected place) (tokens, has, fault) = by_tokens bytes tokens _ has (stops (syntax_fault.Unexpected place) fault refl)
  by_refusal bytes (TooDeep place) (tokens, has, fault) = by_tokens bytes tokens _ has (stops (syntax_fault.TooDeep place) fault refl)
  by_refusal bytes (UnknownName place) wrong = by_fault bytes wrong.surface _ wrong.tree wrong.resolves
  by_refusal bytes (DeclaredTwice place) wrong = by_fault bytes wrong.surface _ wrong.tree wrong.resolves
  by_refusal bytes (WrongShape place) wrong = by_fault bytes wrong.surface _ wrong.tree wrong.resolves
  by_refusal bytes (CasesMissing place) wrong = by_fault bytes wrong.surface _ wrong.tree wrong.resolves
  by_refusal bytes (TooMany place) wrong = by_fault bytes wrong.surface _ wrong.tree wrong.resolves
  by_refusal bytes NoMain wrong = by_tree bytes wrong.surface _ wrong.tree (goes_on tt wrong.resolves.0 (stops tt wrong.resolves.1 refl))
  by_refusal bytes (ImmutableAdopter place) (program, reads, first) = by_program bytes program _ reads (stops place first refl)
  by_refusal bytes (NotExclusive place) (program, reads, (none, first)) = by_program bytes program _ reads (goes_on tt none (stops place first refl))
  by_refusal bytes Unbuilt fault = absurd fault
  by_refusal bytes (WrongLine number) fault = absurd fault
  by_refusal bytes (BadStep place step) fault = absurd fault
  by_refusal bytes (BadCommand place) fault = absurd fault
  by_refusal bytes (BadJoin place) fault = absurd fault
