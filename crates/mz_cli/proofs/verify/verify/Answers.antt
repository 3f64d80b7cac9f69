use Rattle.std.proofs.Common.{◌∙◌, take, subst}
use Rattle.mz_tree.specs.View.{plain_program}
use Rattle.mz_scoped.proofs.ScopedTexts.{read_scoped}
use Rattle.mz_cli.specs.Inputs.{source_part}
use Rattle.mz_cli.specs.Verifying.{IsShort, IsDeclared}
use Rattle.mz_cli.specs.Answered.{JudgesText}
use Rattle.mz_cli.proofs.Reading.{reads_tree}
use Rattle.mz_cli.proofs.Parts.{all_behind}
use Rattle.mz_cli.proofs.Verified.{declared_source, few_bytes, verified}
use Rattle.mz_cli.proofs.verify.verify.Goals as goal

pub judge_text-requires-clause-scoped : goal.judge_text-requires-clause-scoped
judge_text-requires-clause-scoped c =
    let source = take c.script_start-start.result c.args.bytes.now in
    let program = plain_program c.in-Ok.program in
    read_scoped source program (reads_tree source c.in-Ok.field-0-0 program c.in-Ok.ensures)

pub returns-in-Ok : goal.returns-in-Ok
returns-in-Ok c =
    let source = take c.script_start-start.result c.args.bytes.now in
    let program = plain_program c.in-Ok.program in
    let short : IsShort c.args.bytes.now = few_bytes c.args.bytes.now source c.script_start-start.ensures.source c.requires c.if-source-gt-SOURCE_LIMIT.false in
    let declared : IsDeclared (source_part c.args.bytes.now) program = declared_source (source_part c.args.bytes.now) source c.in-Ok.field-0-0 program c.script_start-start.ensures.source c.in-Ok.ensures in
    verified c.args.bytes.now program c.judge_text.result short declared
    (subst (λ l. JudgesText program l c.judge_text.result) (all_behind c.script_start-start.result c.args.bytes.now ∙ c.script_start-start.ensures.script) c.judge_text.ensures)
