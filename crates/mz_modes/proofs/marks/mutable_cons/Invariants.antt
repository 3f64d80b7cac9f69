use Rattle.std.proofs.Common.{◌≡◌, take}
use Rattle.mz_decl.specs.View.{plain_decls}
use Rattle.mz_modes.specs.Marks.{mutable_cons_in}
use Rattle.mz_modes.proofs.marks.mutable_cons.Given as goal

abbrev pub invariant-loop-k : goal.invariant-loop-k
invariant-loop-k l = l.marks ≡ mutable_cons_in l.varieties (take l.k (plain_decls l.decls).cons)
