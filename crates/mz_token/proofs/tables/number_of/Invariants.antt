use Rattle.std.proofs.Common.{◌≡◌, drop, map}
use Rattle.std.specs.List.{position_from}
use Rattle.std.specs.Str.{bytes_eq}
use Rattle.mz_tree.specs.Spellings.{number_in}
use Rattle.mz_token.proofs.tables.number_of.Given as goal

abbrev pub invariant-loop-number : goal.invariant-loop-number
invariant-loop-number l = position_from (bytes_eq l.text) l.number (map (λ word. word.now) (drop l.number l.table)) ≡ number_in (map (λ word. word.now) l.table) l.text
