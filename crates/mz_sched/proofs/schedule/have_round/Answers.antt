use Rattle.std.proofs.Common.{subst, arith, ◌≤◌, ◌≡◌, ℕ}
use Rattle.mz_sched.specs.Running.{InRound, state_of}
use Rattle.mz_sched.proofs.Rounds.{begins, one_more}
use Rattle.mz_sched.proofs.schedule.have_round.Goals as goal

all : (k : ℕ) → k ≤ 64 → 64 ≤ k → k ≡ 64
all k h i = omega (arith, h, i)

pub loop-k-init : goal.loop-k-init
loop-k-init c = record { running = c.requires.running; goes = begins c.args.code.now c.args.options.now c.args.words.now c.args.threads.now; refusal = λ h. h }

pub returns-clause-goes : goal.returns-clause-goes
returns-clause-goes c = one_more c.args.code.now c.args.options.now c.args.words.now c.loop-k.words c.args.threads.now c.loop-k.threads
    (subst (λ n. InRound c.args.code.now c.args.options.now (state_of c.args.words.now c.args.threads.now) n c.loop-k.words c.loop-k.threads) (all c.loop-k.k c.loop-k.auto.k-end c.loop-k-test.false) c.loop-k.invariant.goes) c.loop-k.invariant.refusal
