use Rattle.mz_decl.proofs.Limits.{AreBelowUntil}
use Rattle.mz_decl.proofs.numbers.is_numbered.Given as goal

abbrev pub invariant-loop-i : goal.invariant-loop-i
invariant-loop-i l = AreBelowUntil l.count l.all l.i
