use Rattle.mz_parse.specs.declared.tree.Surface.{Surface}
use Rattle.mz_tree.specs.declared.program.Program.{Program}
use Rattle.mz_tree.specs.View.{plain_program}
use Rattle.mz_scoped.proofs.ScopedTexts.{read_scoped}
use Rattle.mz_cli.specs.Answered.{IsDeclaredTree}
use Rattle.mz_cli.proofs.Reading.{reads_of, refused_by}
use Rattle.mz_cli.proofs.first.read_declared.Goals as goal

pub declare-requires : goal.declare-requires
declare-requires c =
    let program = plain_program c.in-Ok-program_of.program in
    read_scoped c.args.bytes.now program (reads_of c.args.bytes.now c.in-Ok.surface program c.in-Ok.ensures c.in-Ok-program_of.ensures)

pub returns-in-Err-declare : goal.returns-in-Err-declare
returns-in-Err-declare c =
    let program = plain_program c.in-Ok-program_of.program in
    refused_by c.args.bytes.now (λ (found : Surface × Program). IsDeclaredTree c.args.bytes.now found.0 (plain_program found.1)) program c.in-Err-declare.stop (reads_of c.args.bytes.now c.in-Ok.surface program c.in-Ok.ensures c.in-Ok-program_of.ensures) c.in-Err-declare.ensures
