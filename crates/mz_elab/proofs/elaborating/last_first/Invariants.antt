use Rattle.std.proofs.Common.{◌≡◌, ◌-◌, reverse}
use Rattle.mz_decl.specs.Contents.{names_from}
use Rattle.mz_elab.proofs.elaborating.last_first.Given as goal

abbrev pub invariant-loop-i : goal.invariant-loop-i
invariant-loop-i l = reverse l.names ≡ names_from (l.count - l.i) l.i
