use Rattle.std.proofs.Common.{◌≡◌, ◌+◌, refl, sym, subst, None, string_bytes}
use Rattle.mz_base.specs.Told.{LosesExactly}
use Rattle.mz_cli.specs.Words.{AreTaken, Tells}
use Rattle.mz_cli.specs.Outcome.{usage_line, Answers, Comes}
use Rattle.mz_cli.specs.Answered.{limit_of}
use Rattle.mz_cli.specs.declared.status.Status.TheVariants as status
use Rattle.mz_cli.proofs.Outcomes.{written_out, all_left, too_many, long_answers, comes_of}
use Rattle.mz_cli.proofs.top.mezzo_plain.Goals as goal

pub returns-in_default-clause-outcome : goal.returns-in_default-clause-outcome
returns-in_default-clause-outcome g c =
    let other : AreTaken c.args.words.now → ⊥ = subst (Tells c.args.words.now) c.in_default.is c.mode_of.ensures in
    written_out c.args.words.now _ status.Usage c.write_out.result usage_line (other, refl) c.write_out.ensures.answer

pub returns-in-Ok-answer_to-clause-outcome : goal.returns-in-Ok-answer_to-clause-outcome
returns-in-Ok-answer_to-clause-outcome g c =
    let mode = c.in-Some.mode in
    let answers : Answers mode c.in-Ok.bytes.items c.in-Ok-answer_to.answer.status (string_bytes c.in-Ok-answer_to.answer.text) = subst (λ l. Answers mode l c.in-Ok-answer_to.answer.status (string_bytes c.in-Ok-answer_to.answer.text)) c.deref.ensures.value c.in-Ok-answer_to.ensures in
    let same : c.deref-in-Ok-answer_to.result.now ≡ string_bytes c.in-Ok-answer_to.answer.text = c.deref-in-Ok-answer_to.ensures in
    let comes = comes_of c.args.words.now (g.S.Source.left c.args.source.now) mode c.in-Ok.bytes.items c.in-Ok-answer_to.answer.status (string_bytes c.in-Ok-answer_to.answer.text) c.in-Some.ensures (all_left _ _ _ c.in-Ok.ensures.all) answers in
    written_out c.args.words.now _ c.in-Ok-answer_to.answer.status c.write_out-in-Ok-answer_to.result c.deref-in-Ok-answer_to.result.now
    (subst (λ l. Comes c.args.words.now (g.S.Source.left c.args.source.now) c.in-Ok-answer_to.answer.status l) (sym same) comes) c.write_out-in-Ok-answer_to.ensures.answer

pub returns-in-Ok-refuse-clause-outcome : goal.returns-in-Ok-refuse-clause-outcome
returns-in-Ok-refuse-clause-outcome g c =
    let mode = c.in-Some.mode in
    let long = rw c.in-Err-TooLong.field-0-is at c.in-Err-TooLong.ensures.long in
    let many = too_many (limit_of mode) _ _ (subst (λ n. LosesExactly (g.S.Source.left c.args.source.now) (g.S.Source.left c.read_all.new.source) (n + 1)) c.limit_of.ensures (long refl)) in
    let answers : Answers mode many.0 c.in-Ok-refuse.answer.status (string_bytes c.in-Ok-refuse.answer.text) = long_answers mode many.0 c.in-Ok-refuse.answer.status (string_bytes c.in-Ok-refuse.answer.text) many.2 c.in-Ok-refuse.ensures in
    let same : c.deref-in-Ok-refuse.result.now ≡ string_bytes c.in-Ok-refuse.answer.text = c.deref-in-Ok-refuse.ensures in
    let comes = comes_of c.args.words.now (g.S.Source.left c.args.source.now) mode many.0 c.in-Ok-refuse.answer.status (string_bytes c.in-Ok-refuse.answer.text) c.in-Some.ensures many.1 answers in
    written_out c.args.words.now _ c.in-Ok-refuse.answer.status c.write_out-in-Ok-refuse.result c.deref-in-Ok-refuse.result.now
    (subst (λ l. Comes c.args.words.now (g.S.Source.left c.args.source.now) c.in-Ok-refuse.answer.status l) (sym same) comes) c.write_out-in-Ok-refuse.ensures.answer
