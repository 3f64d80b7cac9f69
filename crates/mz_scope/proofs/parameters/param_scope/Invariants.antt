use Rattle.std.proofs.Common.{◌≡◌, ◌++◌, drop, map}
use Rattle.mz_scope.specs.Names.{numbered}
use Rattle.mz_scope.specs.Tables.{param_word}
use Rattle.mz_scope.proofs.parameters.param_scope.Given as goal

abbrev pub invariant-loop-i : goal.invariant-loop-i
invariant-loop-i l = numbered 0 (map param_word l.params) ≡ l.scope ++ numbered l.i (map param_word (drop l.i l.params))
