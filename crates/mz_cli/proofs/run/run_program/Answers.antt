use Rattle.mz_tree.specs.View.{plain_program}
use Rattle.mz_cli.proofs.Ready.{cells, scoped, main_there}
use Rattle.mz_cli.proofs.run.run_program.Goals as goal

-- it has a `main`
pub unreachable-requires : goal.unreachable-requires
unreachable-requires c =
    let program = plain_program c.args.program.now in
    c.in_default.ensures (cells program c.requires).body (main_there program c.requires)

pub opening-requires : goal.opening-requires
opening-requires c = scoped (plain_program c.args.program.now) c.requires
