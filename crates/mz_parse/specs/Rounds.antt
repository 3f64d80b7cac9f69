-- A round of the items of a block, as the code tells it.
use Rattle.std.specs.Prelude.{Option}
use Rattle.mz_grammar.specs.Reading.{Round, More, Last}
use Rattle.mz_parse.specs.declared.bodies.BlockItem.{BlockItem}
use Rattle.mz_parse.specs.declared.expressions.ItemRound.{ItemRound}
use Rattle.mz_parse.specs.declared.expressions.ItemRound.TheVariants as round

abbrev pub round_of : ItemRound → Round BlockItem (Option BlockItem)
round_of (round.More item) = More item
round_of (round.Last last) = Last last
