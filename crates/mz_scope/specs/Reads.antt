-- What it is that bytes are the text of a program.
use Rattle.std.specs.Prelude.{◌≡◌, ℕ, List}
use Rattle.mz_tree.specs.Programs.{Program}
use Rattle.mz_token.specs.declared.token.Tokens.{Tokens}
use Rattle.mz_token.specs.Lexes.{Lexes}
use Rattle.mz_parse.specs.declared.tree.Surface.{Surface}
use Rattle.mz_parse.specs.Parses.{Parses, WithinLimit}
use Rattle.mz_scope.specs.Trees.{tree_of}
use Rattle.mz_scope.specs.Flattening.{Flattens}

-- their tokens spell a tree, with no more brackets open at once than may be, and nothing is wrong with the names and shapes
-- of the tree, whose flat program this is
pub record Reads (bytes : List ℕ) (program : Program) : Type 0 where
  pub tokens : Tokens
  pub surface : Surface
  pub text : tokens.text ≡ bytes
  pub lexes : Lexes bytes tokens.items
  pub parses : Parses tokens surface
  pub within : WithinLimit tokens
  pub flattens : Flattens (tree_of surface) program
