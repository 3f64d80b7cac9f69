use Rattle.std.proofs.Common.{◌≡◌, true, false, sym, ◌∙◌}
use Rattle.mz_tree.specs.View.{plain_program}
use Rattle.mz_cli.specs.Answered.{IsDeclaredTree}
use Rattle.mz_cli.proofs.Reading.{reads_tree}
use Rattle.mz_cli.proofs.first.read_program.Goals as goal

pub returns-then-is_first_form : goal.returns-then-is_first_form
returns-then-is_first_form c =
    let program = plain_program c.in-Ok.program in
    let tree : IsDeclaredTree c.args.bytes.now c.in-Ok.surface program = c.in-Ok.ensures in
    record {
      reads = reads_tree c.args.bytes.now c.in-Ok.surface program tree;
      declared = tree.declared;
      first = sym c.is_first_form.ensures ∙ c.if-is_first_form.true;
    }

pub returns-in-Ok : goal.returns-in-Ok
returns-in-Ok c =
    let program = plain_program c.in-Ok.program in
    let tree : IsDeclaredTree c.args.bytes.now c.in-Ok.surface program = c.in-Ok.ensures in
    (program, reads_tree c.args.bytes.now c.in-Ok.surface program tree, tree.declared, sym c.is_first_form.ensures ∙ c.if-is_first_form.false)
