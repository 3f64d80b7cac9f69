use Rattle.std.proofs.Common.{◌≡◌, drop, map, count_by}
use Rattle.mz_tree.specs.View.{plain_fun}
use Rattle.mz_named.specs.Opening.{is_main}
use Rattle.mz_named.proofs.opening.main_of.Given as goal

abbrev pub invariant-loop-i : goal.invariant-loop-i
invariant-loop-i l = count_by is_main (map plain_fun l.funs) ≡ count_by is_main (map plain_fun (drop l.i l.funs))
