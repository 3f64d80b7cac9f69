use Rattle.std.proofs.Common.{◌≡◌, ◌<◌, ◌+◌, ℕ, suc, List, length, Some, refl, sym, subst, arith}
use Rattle.std.specs.Prelude.{slice_get, slice_set, slice_index_or}
use Rattle.std.proofs.lemmas.Option.{slice_get-get_or}
use Rattle.mz_thread.specs.declared.thread.Thread.{Thread}
use Rattle.mz_sched.specs.Running.{InRound}
use Rattle.mz_sched.proofs.Gone.{passes, gone, stays}
use Rattle.mz_sched.proofs.Ready.{turns_of, own, follows, held, noted, after}
use Rattle.mz_sched.proofs.schedule.have_turn.Goals as goal

there : (ts : List Thread) (k : ℕ) (d : Thread) → length ts ≡ 64 → k < 64 → slice_get ts k ≡ Some (slice_index_or ts k d)
there ts k d e h = slice_get-get_or ts k d (subst (λ n. k < n) (sym e) h)

one_on : (k : ℕ) → suc k ≡ k + 1
one_on k = omega arith

pub turn-requires-clause-turns : goal.turn-requires-clause-turns
turn-requires-clause-turns c = turns_of _ _ c.args.words.now c.turn_of.new.self c.args.threads.now c.args.k c.requires.number _ c.requires.runnable c.requires.running (there _ _ _ c.requires.running.many c.requires.number) c.turn_of.ensures.turn c.turn_of.ensures.words c.turn_of.ensures.tapes c.turn_of.ensures.tries

pub turn-requires-clause-own : goal.turn-requires-clause-own
turn-requires-clause-own c = own _ _ c.args.words.now c.turn_of.new.self c.args.threads.now c.args.k c.requires.number _ c.requires.runnable c.requires.running (there _ _ _ c.requires.running.many c.requires.number) c.turn_of.ensures.turn c.turn_of.ensures.words c.turn_of.ensures.tapes c.turn_of.ensures.tries

pub turn-requires-clause-follows : goal.turn-requires-clause-follows
turn-requires-clause-follows c = follows _ _ c.args.words.now c.turn_of.new.self c.args.threads.now c.args.k c.requires.number _ c.requires.runnable c.requires.running (there _ _ _ c.requires.running.many c.requires.number) c.turn_of.ensures.turn c.turn_of.ensures.words c.turn_of.ensures.tapes c.turn_of.ensures.tries

pub turn-requires-clause-held : goal.turn-requires-clause-held
turn-requires-clause-held c = held _ _ c.args.words.now c.turn_of.new.self c.args.threads.now c.args.k c.requires.number _ c.requires.runnable c.requires.running (there _ _ _ c.requires.running.many c.requires.number) c.turn_of.ensures.turn c.turn_of.ensures.words c.turn_of.ensures.tapes c.turn_of.ensures.tries

pub turn-requires-clause-noted : goal.turn-requires-clause-noted
turn-requires-clause-noted c = noted _ _ c.args.words.now c.turn_of.new.self c.args.threads.now c.args.k c.requires.number _ c.requires.runnable c.requires.running (there _ _ _ c.requires.running.many c.requires.number) c.turn_of.ensures.turn c.turn_of.ensures.words c.turn_of.ensures.tapes c.turn_of.ensures.tries

pub returns-clause-running : goal.returns-clause-running
returns-clause-running c = after _ _ c.args.words.now c.turn_of.new.self c.args.threads.now c.args.k c.requires.number _ c.requires.runnable c.requires.running (there _ _ _ c.requires.running.many c.requires.number) c.turn_of.ensures.turn c.turn_of.ensures.words c.turn_of.ensures.tapes c.turn_of.ensures.tries
    c.turn.new.self c.turn.new.words c.turn.ensures.leads.0 c.turn.ensures.leads.1 c.turn.ensures.actor c.turn.ensures.size c.turn.ensures.number c.turn.ensures.held c.turn.ensures.noted c.turn.ensures.rest

pub returns-clause-goes : goal.returns-clause-goes
returns-clause-goes c = λ first r. subst (λ n. InRound c.args.code.now c.args.options.now first n c.turn.new.words (slice_set c.args.threads.now c.args.k c.turn.new.self)) (one_on c.args.k) (gone _ _ c.args.words.now c.turn_of.new.self c.turn.new.words c.args.threads.now c.args.k c.requires.number _ c.turn.new.self c.requires.runnable c.requires.running (there _ _ c.index-threads-k.result c.requires.running.many c.requires.number) c.turn_of.ensures.turn c.turn_of.ensures.words c.turn_of.ensures.tapes c.turn_of.ensures.tries
    c.turn.ensures.actor c.turn.ensures.rest (returns-clause-running c) (λ h. c.if-is_over.ensures.going refl (record { thread = _; found = there _ _ c.index-threads-k.result c.requires.running.many c.requires.number; over = h }))
    c.turn.ensures.leads.0 c.turn.ensures.leads.1 c.turn.result c.turn.ensures.leads.2 first r)

pub returns-clause-refusal : goal.returns-clause-refusal
returns-clause-refusal c = stays _ _ c.args.words.now c.turn_of.new.self c.turn.new.words c.args.threads.now c.args.k c.requires.number _ c.turn.new.self c.requires.runnable c.requires.running (there _ _ c.index-threads-k.result c.requires.running.many c.requires.number) c.turn_of.ensures.turn c.turn_of.ensures.words c.turn_of.ensures.tapes c.turn_of.ensures.tries
    c.turn.ensures.actor c.turn.ensures.rest (returns-clause-running c) (λ h. c.if-is_over.ensures.going refl (record { thread = _; found = there _ _ c.index-threads-k.result c.requires.running.many c.requires.number; over = h }))

pub returns-then-is_over-clause-goes : goal.returns-then-is_over-clause-goes
returns-then-is_over-clause-goes c = λ first r. let h = c.if-is_over.ensures.over refl in
    subst (λ n. InRound c.args.code.now c.args.options.now first n c.args.words.now c.args.threads.now) (one_on c.args.k) (passes c.args.code.now c.args.options.now c.args.words.now c.args.threads.now c.args.k h.thread h.found h.over first r)
