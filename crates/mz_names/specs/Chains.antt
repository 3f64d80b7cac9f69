-- The names of a chain in order.
use Rattle.std.specs.Prelude.{ℕ, [], ◌∷◌, ◌++◌}
use Rattle.mz_names.specs.declared.chain.Chain.{Chain, End, Link'}
use Rattle.mz_names.specs.Names.{Names}

abbrev pub names_of : Chain → Names ℕ
names_of End = []
names_of (Link' p text number before) = names_of before ++ (text, number) ∷ []
