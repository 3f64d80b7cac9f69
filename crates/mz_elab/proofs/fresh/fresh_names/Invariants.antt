use Rattle.std.proofs.Common.{◌≡◌, ◌+◌}
use Rattle.mz_decl.specs.Contents.{names_from}
use Rattle.mz_elab.proofs.fresh.fresh_names.Given as goal

abbrev pub invariant-loop : goal.invariant-loop
invariant-loop l = (l.names ≡ names_from l.next l.counter) × (l.last ≡ l.next + l.counter)
