use Rattle.std.proofs.Common.{◌≡◌, take}
use Rattle.mz_decl.specs.View.{plain_decls}
use Rattle.mz_modes.specs.Marks.{mutable_in}
use Rattle.mz_modes.proofs.marks.mutable_varieties.Given as goal

abbrev pub invariant-loop-d : goal.invariant-loop-d
invariant-loop-d l = l.marks ≡ mutable_in (take l.d (plain_decls l.decls).varieties)
