use Rattle.std.proofs.Common.{◌≡◌, ℕ, List, take, map}
use Rattle.std.specs.Prelude.{unwrap_or}
use Rattle.mz_scope.specs.Names.{find}
use Rattle.mz_scope.specs.Types.{names_in}
use Rattle.mz_scope.proofs.fields.in_order.Given as goal

abbrev pub invariant-loop-i : goal.invariant-loop-i
invariant-loop-i l = l.values ≡ take l.i (map (λ (field : List ℕ). unwrap_or (find l.written field) 0) (names_in l.fields))
