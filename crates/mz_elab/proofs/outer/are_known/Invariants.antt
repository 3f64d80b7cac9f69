use Rattle.std.proofs.Common.{◌≡◌, drop, map}
use Rattle.std.specs.List.{list_all}
use Rattle.mz_elab.specs.Sought.{known}
use Rattle.mz_elab.proofs.outer.are_known.Given as goal

abbrev pub invariant-loop-i : goal.invariant-loop-i
invariant-loop-i l = list_all (known l.names l.next) (map (λ n. n) l.fields) ≡ list_all (known l.names l.next) (map (λ n. n) (drop l.i l.fields))
