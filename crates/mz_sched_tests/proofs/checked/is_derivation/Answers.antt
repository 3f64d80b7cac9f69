use Rattle.mz_tree.specs.View.{plain_program}
use Rattle.mz_deriv.specs.View.{plain_derivation}
use Rattle.mz_lowered.proofs.SafeCode.{derivable_is_safe}
use Rattle.mz_sched_tests.proofs.checked.is_derivation.Goals as goal

pub returns-in-Ok : goal.returns-in-Ok
returns-in-Ok c = λ yes. (derivable_is_safe (plain_program c.args.program.now) (plain_derivation c.args.derivation.now) c.requires c.in-Ok.ensures).tame
