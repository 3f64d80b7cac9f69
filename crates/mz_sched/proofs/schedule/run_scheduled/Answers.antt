use Rattle.std.proofs.Common.{sym, subst, ◌∙◌, List, Ok, Err}
use Rattle.std.specs.Prelude.{Result, IfOk}
use Rattle.mz_thread.specs.declared.thread.Thread.{Thread}
use Rattle.mz_sched.specs.Running.{Running, state_of}
use Rattle.mz_sched.specs.Schedules.{Begins, MemorySufficed, Sched}
use Rattle.mz_sched.proofs.Started.{started, schedule_begins}
use Rattle.mz_sched.proofs.schedule.run_scheduled.Goals as goal

pub run_to_end-requires-clause-running : goal.run_to_end-requires-clause-running
run_to_end-requires-clause-running c = subst (λ (l : List Thread). Running c.args.code.now c.args.options.now c.in_ok-words.words l) (sym c.as_mut_slice.ensures.value)
    (started c.args.code.now c.args.options.now c.in_ok-words.words c.in_ok-threads.threads.items c.in_ok-words.ensures.words c.in_ok-words.ensures.size (sym c.in_ok-words.words.tapes.ok.0 ∙ c.in_ok-words.words.all_tapes) c.in_ok-words.ensures.tapes c.in_ok-words.ensures.tries c.in_ok-threads.ensures)

if_ok : {A E : Type 0} (r : Result A E) (P Q : A → Type 0) → ((x : A) → P x → Q x) → IfOk r P → IfOk r Q
if_ok (Ok x) P Q f p = f x p
if_ok (Err e) P Q f p = tt

pub returns-clause-scheduled : goal.returns-clause-scheduled
returns-clause-scheduled c = if_ok c.run_to_end.result (λ r. MemorySufficed r → Begins c.args.code.now c.args.options.now (state_of c.in_ok-words.words c.as_mut_slice.result.now) → Sched c.args.code.now c.args.options.now r)
    (λ r. MemorySufficed r → Sched c.args.code.now c.args.options.now r)
    (λ r f m. f m (subst (λ (l : List Thread). Begins c.args.code.now c.args.options.now (state_of c.in_ok-words.words l)) (sym c.as_mut_slice.ensures.value)
    (schedule_begins c.args.code.now c.args.options.now c.in_ok-words.words c.in_ok-threads.threads.items c.in_ok-words.ensures.words c.in_ok-words.ensures.size (sym c.in_ok-words.words.tapes.ok.0 ∙ c.in_ok-words.words.all_tapes) c.in_ok-words.ensures.tapes c.in_ok-words.ensures.tries c.in_ok-threads.ensures c.requires.limits.heap)))
    c.run_to_end.ensures.scheduled
