use Rattle.std.proofs.Common.{◌≡◌, ◌∙◌, arith, length, refl, rules}
use Rattle.std.specs.Prelude.{vec_len}
use Rattle.mz_thread_tests.proofs.Opens.{opened}
use Rattle.mz_thread_tests.proofs.runs.open.Goals as goal

pub returns : goal.returns
returns c =
    let many : length c.in_ok-words.words.tapes.items ≡ vec_len c.in_ok-words.words.tapes = search rules in
    opened c.args.code.now c.args.options.now c.start-thread.result c.in_ok-words.words (c.if-not-goes_forward.ensures refl) (omega arith) (omega arith) (omega arith) (omega arith)
    c.start-thread.ensures.number c.start-thread.ensures.opening c.in_ok-words.ensures.turn c.in_ok-words.ensures.size (many ∙ c.in_ok-words.words.all_tapes) c.in_ok-words.ensures.tapes c.in_ok-words.ensures.tries
