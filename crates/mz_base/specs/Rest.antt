-- Bytes of which a front has been given.
use Rattle.std.specs.Prelude.{ℕ, List, drop}
use Rattle.mz_base.specs.declared.rest.Rest.{Rest}

-- the bytes still to come
abbrev pub rest_of : Rest → List ℕ
rest_of r = drop r.at r.bytes.items
