use Rattle.std.proofs.Common.{◌≡◌, ◌++◌, length, drop, map}
use Rattle.mz_tree.specs.View.{plain_fun}
use Rattle.mz_lower.specs.Layout.{lay_funs}
use Rattle.mz_lower.proofs.lowering.emit_funs.Given as goal

abbrev pub invariant-loop-i : goal.invariant-loop-i
invariant-loop-i l =
    l.code ++ lay_funs (length l.code) (map plain_fun (drop l.i l.funs))
    ≡ l.initial.code ++ lay_funs (length l.initial.code) (map plain_fun l.funs)
