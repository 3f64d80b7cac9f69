use Rattle.std.proofs.Common.{◌≡◌, ◌+◌, codes, drop, map}
use Rattle.mz_tree.specs.View.{plain_fun}
use Rattle.mz_lower.specs.Layout.{number_of}
use Rattle.mz_lower.proofs.lowering.main_of.Given as goal

abbrev pub invariant-loop-i : goal.invariant-loop-i
invariant-loop-i l = l.number + number_of (codes "main") (map plain_fun (drop l.i l.funs)) ≡ number_of (codes "main") (map plain_fun l.funs)
