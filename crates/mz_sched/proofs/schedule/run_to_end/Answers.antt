use Rattle.std.proofs.Common.{◌≡◌, ℕ, length, Global, Vec, refl, sym, ◌∙◌}
use Rattle.std.specs.Prelude.{vec_len}
use Rattle.mz_sched.specs.Running.{state_of}
use Rattle.mz_sched.proofs.Finished.{ran, scheduled, tickets}
use Rattle.mz_sched.proofs.schedule.run_to_end.Goals as goal

-- a vector has as many elements as it says
long : {A : Type 0} (v : Vec A Global) {n : ℕ} → vec_len v ≡ n → length v.items ≡ n
long v e = sym v.ok.0 ∙ e

pub returns-clause-ran : goal.returns-clause-ran
returns-clause-ran c = ran c.args.code.now c.args.options.now c.have_rounds.new.words c.have_rounds.new.threads c.in_ok-have_rounds.ensures.running c.in_ok-ends.ends c.in_ok-lost.lost
    c.in_ok-ends.ensures c.in_ok-lost.ensures (long c.have_rounds.new.words.tapes c.have_rounds.new.words.all_tapes) (long c.have_rounds.new.words.tries c.have_rounds.new.words.all_tries) (long c.have_rounds.new.words.words c.in_ok-have_rounds.ensures.running.size) _ c.close-numbers.ensures.tapes refl refl c.close-numbers.ensures.words

pub returns-clause-scheduled : goal.returns-clause-scheduled
returns-clause-scheduled c = scheduled c.args.code.now c.args.options.now c.have_rounds.new.words c.have_rounds.new.threads c.in_ok-have_rounds.ensures.running c.in_ok-ends.ends c.in_ok-lost.lost
    c.in_ok-ends.ensures c.in_ok-lost.ensures (long c.have_rounds.new.words.tapes c.have_rounds.new.words.all_tapes) (long c.have_rounds.new.words.tries c.have_rounds.new.words.all_tries) (long c.have_rounds.new.words.words c.in_ok-have_rounds.ensures.running.size) _ c.close-numbers.ensures.tapes refl refl c.close-numbers.ensures.words
    (state_of c.args.words c.args.threads.now) c.in_ok-have_rounds.ensures.goes

pub returns-clause-tickets : goal.returns-clause-tickets
returns-clause-tickets c = tickets c.args.code.now c.args.options.now c.have_rounds.new.words c.have_rounds.new.threads c.in_ok-have_rounds.ensures.running c.in_ok-ends.ends c.in_ok-lost.lost
    c.in_ok-ends.ensures c.in_ok-lost.ensures (long c.have_rounds.new.words.tapes c.have_rounds.new.words.all_tapes) (long c.have_rounds.new.words.tries c.have_rounds.new.words.all_tries) (long c.have_rounds.new.words.words c.in_ok-have_rounds.ensures.running.size) _ c.close-numbers.ensures.tapes refl refl c.close-numbers.ensures.words c.requires.runnable
