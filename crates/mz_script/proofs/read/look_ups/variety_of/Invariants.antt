use Rattle.std.proofs.Common.{◌≡◌, drop, map}
use Rattle.std.specs.List.{position_from}
use Rattle.std.specs.Str.{bytes_eq}
use Rattle.mz_tree.specs.Programs.{Variety}
use Rattle.mz_tree.specs.View.{plain_variety}
use Rattle.mz_script.specs.ReadWords.{variety_named}
use Rattle.mz_script.proofs.read.look_ups.variety_of.Given as goal

-- the name stands first among those that are left
abbrev pub invariant-loop-number : goal.invariant-loop-number
invariant-loop-number l = position_from (bytes_eq l.name) l.number (map (λ (v : Variety). v.name) (map plain_variety (drop l.number l.varieties))) ≡ variety_named (map plain_variety l.varieties) l.name
