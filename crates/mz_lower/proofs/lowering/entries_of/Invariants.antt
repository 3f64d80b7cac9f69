use Rattle.std.proofs.Common.{◌≡◌, ◌++◌, drop, map}
use Rattle.mz_tree.specs.View.{plain_fun, plain_sig}
use Rattle.mz_lower.specs.Layout.{starts_of}
use Rattle.mz_lower.proofs.lowering.entries_of.Given as goal

abbrev pub invariant-loop-i : goal.invariant-loop-i
invariant-loop-i l =
    l.entries ++ starts_of (map plain_sig l.sigs) l.first (map plain_fun (drop l.i l.funs)) ≡ starts_of (map plain_sig l.sigs) 0 (map plain_fun l.funs)
