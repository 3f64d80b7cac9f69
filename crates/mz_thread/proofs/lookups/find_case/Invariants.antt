use Rattle.std.proofs.Common.{◌≡◌, drop}
use Rattle.mz_words.specs.Steps.{case_at}
use Rattle.mz_thread.proofs.lookups.find_case.Given as goal

abbrev pub invariant-loop-i : goal.invariant-loop-i
invariant-loop-i l = record {
  rest : case_at (drop l.i l.fn.cons) (drop l.i l.fn.targets) l.fn.tag ≡ case_at l.fn.cons l.fn.targets l.fn.tag;
}
