-- Where reading stops, as a fault with its place.
use Rattle.mz_token.specs.declared.token.Tokens.{Tokens}
use Rattle.mz_types.specs.declared.stop.Stop.{Stop}
use Rattle.mz_types.specs.declared.stop.Stop.TheVariants as stop
use Rattle.mz_parse.specs.declared.tree.SyntaxFault.{SyntaxFault}
use Rattle.mz_parse.specs.declared.tree.SyntaxFault.TheVariants.{Unexpected, TooDeep, Memory}
use Rattle.mz_parse.specs.Parses.{place_left}

abbrev pub fault_at : Tokens → Stop → SyntaxFault
fault_at tokens (stop.Unexpected left) = Unexpected (place_left tokens left)
fault_at tokens (stop.TooDeep left) = TooDeep (place_left tokens left)
fault_at tokens stop.Memory = Memory
