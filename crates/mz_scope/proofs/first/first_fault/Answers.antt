use Rattle.std.proofs.Common.{get_or, arith}
use Rattle.std.proofs.lemmas.Option.{slice_get-get_or}
use Rattle.mz_scope.specs.declared.fault.Cause.TheVariants.{Unknown}
use Rattle.mz_scope.specs.declared.fault.Fault.{Fault}
use Rattle.mz_scope.proofs.FaultOrder.{first_begins, first_goes_on}
use Rattle.mz_scope.proofs.first.first_fault.Goals as goal

-- what the code's list has past its end
abbrev past : Fault
past = record { cause = Unknown; place = record { line = 0; col = 0 } }

pub loop-i-init : goal.loop-i-init
loop-i-init c = first_begins c.args.faults.now (get_or c.args.faults.now 0 past) (slice_get-get_or c.args.faults.now 0 past (omega arith))

pub loop-i-preserved : goal.loop-i-preserved
loop-i-preserved c =
    first_goes_on c.args.faults.now c.loop-i.i c.loop-i.first (get_or c.args.faults.now c.loop-i.i past) c.first_of-first.result c.loop-i.invariant (slice_get-get_or c.args.faults.now c.loop-i.i past (omega arith)) c.first_of-first.ensures
