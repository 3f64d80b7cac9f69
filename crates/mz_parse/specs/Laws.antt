-- What holds of all tokens.
use Rattle.std.specs.Prelude.{◌≡◌, ◌⊎◌}
use Rattle.mz_token.specs.declared.token.Tokens.{Tokens}
use Rattle.mz_parse.specs.declared.tree.Surface.{Surface}
use Rattle.mz_parse.specs.declared.tree.SyntaxFault.{SyntaxFault}
use Rattle.mz_parse.specs.Parses.{Parses, WithinLimit, Faults}

-- tokens have at most one tree
abbrev pub AtMostOneTree : Type 0
AtMostOneTree = (tokens : Tokens) (surface other : Surface) → Parses tokens surface → Parses tokens other → surface ≡ other

-- tokens have at most one fault
abbrev pub AtMostOneFault : Type 0
AtMostOneFault = (tokens : Tokens) (fault other : SyntaxFault) → Faults tokens fault → Faults tokens other → fault ≡ other

-- tokens with a fault have no tree within the limit
abbrev pub NoTreeAndFault : Type 0
NoTreeAndFault = (tokens : Tokens) (surface : Surface) (fault : SyntaxFault) → Parses tokens surface → WithinLimit tokens → Faults tokens fault → ⊥

-- tokens have a tree within the limit or a fault
abbrev pub TreeOrFault : Type 0
TreeOrFault = (tokens : Tokens) → ((surface : Surface) × Parses tokens surface × WithinLimit tokens) ⊎ ((fault : SyntaxFault) × Faults tokens fault)
