use Rattle.std.proofs.Common.{◌≡◌, drop, map}
use Rattle.std.specs.List.{position_from}
use Rattle.std.specs.Str.{bytes_eq}
use Rattle.mz_tree.specs.Programs.{Con}
use Rattle.mz_tree.specs.View.{plain_con}
use Rattle.mz_script.specs.ReadWords.{con_named}
use Rattle.mz_script.proofs.read.look_ups.constructor_of.Given as goal

-- the name stands first among those that are left
abbrev pub invariant-loop-number : goal.invariant-loop-number
invariant-loop-number l = position_from (bytes_eq l.name) l.number (map (λ (c : Con). c.name) (map plain_con (drop l.number l.cons))) ≡ con_named (map plain_con l.cons) l.name
