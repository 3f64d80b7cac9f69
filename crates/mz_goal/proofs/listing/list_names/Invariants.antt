use Rattle.std.proofs.Common.{◌≡◌, ◌++◌, take}
use Rattle.mz_goal.proofs.listing.list_names.Given as goal

abbrev pub invariant-loop-i : goal.invariant-loop-i
invariant-loop-i l = l.names ≡ l.initial.names ++ take l.i l.more
