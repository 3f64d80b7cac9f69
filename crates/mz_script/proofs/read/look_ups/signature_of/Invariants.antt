use Rattle.std.proofs.Common.{◌≡◌, drop, map}
use Rattle.std.specs.List.{position_from}
use Rattle.std.specs.Str.{bytes_eq}
use Rattle.mz_tree.specs.Programs.{Sig}
use Rattle.mz_tree.specs.View.{plain_sig}
use Rattle.mz_script.specs.ReadWords.{sig_named}
use Rattle.mz_script.proofs.read.look_ups.signature_of.Given as goal

-- the name stands first among those that are left
abbrev pub invariant-loop-number : goal.invariant-loop-number
invariant-loop-number l = position_from (bytes_eq l.name) l.number (map (λ (s : Sig). s.name) (map plain_sig (drop l.number l.sigs))) ≡ sig_named (map plain_sig l.sigs) l.name
