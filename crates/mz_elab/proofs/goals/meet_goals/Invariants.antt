use Rattle.std.proofs.Common.{map}
use Rattle.mz_decl.specs.View.{plain_decls}
use Rattle.mz_deriv.specs.View.{plain_item}
use Rattle.mz_elab.specs.Standing.{IsKnown}
use Rattle.mz_elab.proofs.SeveralGoals.{Several}
use Rattle.mz_elab.proofs.goals.meet_goals.Given as goal

abbrev pub invariant-loop-i : goal.invariant-loop-i
invariant-loop-i l = Several (plain_decls l.decls) (IsKnown l.bound l.next) l.initial.state l.goals (map plain_item l.initial.items) l.i l.state (map plain_item l.items)
