use Rattle.mz_decl.specs.View.{plain_decls}
use Rattle.mz_modes.specs.Marks.{IsRound, Rounds}
use Rattle.mz_modes.proofs.marks.round.Given as goal

abbrev pub invariant-loop-k : goal.invariant-loop-k
invariant-loop-k l = IsRound (plain_decls l.decls) l.marks × Rounds l.changed l.k (plain_decls l.decls) l.cons l.initial.marks l.marks
