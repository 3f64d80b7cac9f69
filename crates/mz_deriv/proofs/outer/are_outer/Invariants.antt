use Rattle.std.proofs.Common.{◌≡◌, drop, map}
use Rattle.std.specs.List.{list_all}
use Rattle.mz_deriv.specs.Outer.{is_outer}
use Rattle.mz_deriv.proofs.outer.are_outer.Given as goal

abbrev pub invariant-loop-i : goal.invariant-loop-i
invariant-loop-i l = list_all (is_outer l.bound l.state l.to) (map (λ n. n) l.names) ≡ list_all (is_outer l.bound l.state l.to) (map (λ n. n) (drop l.i l.names))
