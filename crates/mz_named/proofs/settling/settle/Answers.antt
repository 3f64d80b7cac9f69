use Rattle.std.proofs.Common.{◌≡◌, refl, subst, map, slice_set}
use Rattle.mz_named.specs.Moving.{Suits, Turns, Settles}
use Rattle.mz_named.specs.View.{plain_thread}
use Rattle.mz_named.specs.declared.plan.Plan.{Plan}
use Rattle.mz_named.specs.declared.config.Thread.TheVariants as thread
use Rattle.mz_named.proofs.OneThread.{if_ok, on_err, indexed, indexed_on, settles_alone, settles_spawn, same_threads, at_most_one_more}
use Rattle.mz_named.proofs.settling.settle.Goals as goal

pub go_on-requires : goal.go_on-requires
go_on-requires c =
    let s = c.requires.suits in
    let b = c.in_ok-begin-in-Spawns.ensures.begun in (
      s.0,
      s.1,
      indexed_on c.args.threads.now.items c.begin.new.threads.items b.0 c.args.k (thread.Running s.0 s.1) c.index_mut.result.now b.1 c.index_mut.ensures.value s.2,
      subst (λ (p : Plan). Suits s.0 s.1.items p) c.in-Spawns.is s.3,
    )

pub turn-requires : goal.turn-requires
turn-requires c =
    let s = c.requires.suits in
    (s.0, s.1, indexed c.args.threads.now.items c.args.k (thread.Running s.0 s.1) c.index_mut-in_default.result.now c.index_mut-in_default.ensures.value s.2, s.3)

pub returns-in_ok-begin-in-Spawns-clause-settles : goal.returns-in_ok-begin-in-Spawns-clause-settles
returns-in_ok-begin-in-Spawns-clause-settles c frame below here =
    let b = c.in_ok-begin-in-Spawns.ensures.begun in
    settles_spawn c.args.threads.now.items c.args.k frame below.items c.in-Spawns.frame c.in-Spawns.values c.args.plan c.go_on.new.thread b.0 c.begin.new.threads.items c.in-Spawns.is b.1 b.2
    (refl, c.go_on.ensures frame below (indexed_on c.args.threads.now.items c.begin.new.threads.items b.0 c.args.k (thread.Running frame below) c.index_mut.result.now b.1 c.index_mut.ensures.value here))

pub returns-in_default : goal.returns-in_default
returns-in_default c = record {
  settles = λ frame below here. if_ok c.turn.result (λ answer. Turns frame below.items c.args.plan answer (plain_thread c.turn.new.thread))
      (λ answer. Settles c.args.threads.now.items c.args.k frame below.items c.args.plan answer (slice_set c.args.threads.now.items c.args.k c.turn.new.thread))
      (λ answer turns. settles_alone c.args.threads.now.items c.args.k frame below.items c.args.plan c.turn.new.thread answer c.in_default.not-Spawns turns)
      (c.turn.ensures.turns frame below (indexed c.args.threads.now.items c.args.k (thread.Running frame below) c.index_mut-in_default.result.now c.index_mut-in_default.ensures.value here));
  wants = c.turn.ensures.wants;
  kept = on_err c.turn.result (plain_thread c.turn.new.thread ≡ plain_thread c.index_mut-in_default.result.now)
      (map plain_thread (slice_set c.args.threads.now.items c.args.k c.turn.new.thread) ≡ map plain_thread c.args.threads.now.items)
      (λ same. same_threads c.args.threads.now.items c.args.k c.turn.new.thread c.index_mut-in_default.result.now c.index_mut-in_default.ensures.value same)
      c.turn.ensures.kept;
  more = at_most_one_more c.args.threads.now.items c.args.k c.turn.new.thread;
}
