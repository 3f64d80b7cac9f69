use Rattle.std.proofs.Common.{[], ap, ◌∙◌, refl}
use Rattle.mz_token.specs.Places.{place_of}
use Rattle.mz_token.proofs.token.Tokens.end_place.Goals as goal

pub returns : goal.returns
returns c = c.place_after.ensures [] refl ∙ ap place_of c.as_slice.ensures
