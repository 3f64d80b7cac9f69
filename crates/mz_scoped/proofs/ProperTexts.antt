-- The tree of a source is proper: its tokens are good, its grammar says so of what they spell, and no more brackets are open at
-- once than may be.
use Rattle.std.proofs.Common.{◌≡◌, ℕ, List, map, sym, subst, ◌∙◌, arith}
use Rattle.mz_token.specs.declared.token.Tokens.{Tokens}
use Rattle.mz_token.specs.Lexes.{Lexes}
use Rattle.mz_parse.specs.declared.tree.Surface.{Surface}
use Rattle.mz_parse.specs.Parses.{Parses, WithinLimit}
use Rattle.mz_scope.specs.Trees.{tree_of, declaration_tree}
use Rattle.mz_scoped.proofs.Proper.{AllOf, IsProper}
use Rattle.mz_scoped.proofs.ProperTokens.{tokens_good}
use Rattle.mz_scoped.proofs.ProperDeclarations.{program_spells}

-- what the grammar says of the tokens, read from the first to the last, where 200 brackets may be opened
pub proper_tree : (bytes : List ℕ) (tokens : Tokens) (surface : Surface) → tokens.text ≡ bytes → Lexes bytes tokens.items → Parses tokens surface → WithinLimit tokens → AllOf IsProper (tree_of surface)
proper_tree bytes tokens surface text lexes parses within =
    let it = (program_spells bytes).read tokens.items surface.declarations 200 within.0 parses.spelled (record { good = tokens_good bytes tokens.items lexes; fits = within.1 }) in
    subst (λ (b : List ℕ). AllOf IsProper (map (declaration_tree b) surface.declarations)) (sym (parses.text ∙ text)) (it.1 (omega arith))
