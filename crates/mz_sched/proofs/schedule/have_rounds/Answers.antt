use Rattle.mz_sched.specs.Running.{state_of}
use Rattle.mz_sched.proofs.Rounds.{no_rounds}
use Rattle.mz_sched.proofs.schedule.have_rounds.Goals as goal

pub loop-round-init : goal.loop-round-init
loop-round-init c = record { running = c.requires.running; goes = no_rounds c.args.code.now c.args.options.now c.args.words.now c.args.threads.now }

pub returns-then-are_over-clause-goes : goal.returns-then-are_over-clause-goes
returns-then-are_over-clause-goes c = c.have_round.ensures.goes (state_of c.args.words.now c.args.threads.now) c.loop-round.invariant.goes

pub loop-round-preserved : goal.loop-round-preserved
loop-round-preserved c = record { running = c.have_round.ensures.running; goes = c.have_round.ensures.goes (state_of c.args.words.now c.args.threads.now) c.loop-round.invariant.goes }
