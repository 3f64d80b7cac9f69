use Rattle.std.proofs.Common.{◌≡◌, take, map}
use Rattle.mz_scope.specs.declared.making.CoreName.{CoreName}
use Rattle.mz_scope.proofs.functions.spellings.Given as goal

abbrev pub invariant-loop-i : goal.invariant-loop-i
invariant-loop-i l = l.texts ≡ map (λ (n : CoreName). n.spelling) (take l.i l.names)
