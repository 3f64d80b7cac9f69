-- A text has one program: it has one list of tokens, these have one tree, and the tree has one flat program.
use Rattle.std.proofs.Common.{◌≡◌, ℕ, List, sym, ap, ap₂, subst, ◌∙◌}
use Rattle.mz_token.specs.declared.token.Token.{Token}
use Rattle.mz_token.specs.declared.token.Tokens.{Tokens}
use Rattle.mz_token.proofs.Unique.{one_list}
use Rattle.mz_parse.specs.declared.tree.Surface.{Surface}
use Rattle.mz_parse.specs.Parses.{Parses}
use Rattle.mz_parse.proofs.WholeSources.{one_tree}
use Rattle.mz_scope.specs.Trees.{tree_of}
use Rattle.mz_scope.specs.Flattening.{flat_program}
use Rattle.mz_scope.specs.Laws.{AtMostOneProgram}

-- tokens with their text
abbrev with_text : List ℕ → List Token → Tokens
with_text text items = record { text = text; items = items }

pub one_program : AtMostOneProgram
one_program bytes program other p q =
    let tokens_are : q.tokens ≡ p.tokens = ap₂ with_text (q.text ∙ sym p.text) (one_list bytes q.tokens.items p.tokens.items q.lexes p.lexes) in
    let surface_is : p.surface ≡ q.surface = one_tree p.tokens p.surface q.surface p.parses (subst (λ (ts : Tokens). Parses ts q.surface) tokens_are q.parses) in
    p.flattens.flat ∙ ap (λ (s : Surface). flat_program (tree_of s)) surface_is ∙ sym q.flattens.flat
