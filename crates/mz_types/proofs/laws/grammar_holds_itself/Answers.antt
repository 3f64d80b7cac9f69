use Rattle.mz_grammar.proofs.Layers.{layer_from, layer_to}
use Rattle.mz_types.specs.Grammar.{TypeOver}
use Rattle.mz_types.proofs.Productions.{type_lifts}
use Rattle.mz_types.proofs.laws.grammar_holds_itself.Goals as goal

pub returns : goal.returns
returns c = λ result tokens type. (layer_from (TypeOver result) (type_lifts result) tokens type, layer_to (TypeOver result) (type_lifts result) tokens type)
