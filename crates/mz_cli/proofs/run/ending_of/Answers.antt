use Rattle.std.proofs.Common.{ap, length, arith}
use Rattle.mz_tree.specs.View.{plain_program}
use Rattle.mz_named.specs.Answering.{Answers}
use Rattle.mz_named.specs.View.{plain_config}
use Rattle.mz_cli.proofs.BodyRuns.{no_cells, few, stands_in, next_stands, run_stops, only_these, run_ends, only_end}
use Rattle.mz_cli.proofs.run.ending_of.Goals as goal

pub loop-command-init : goal.loop-command-init
loop-command-init c = record {
  stands = stands_in (plain_program c.args.program.now) c.requires.ready c.args.body.now c.requires.main c.as_slice-command-items.result.now c.as_slice-command-items.ensures (plain_config c.args.config.now) c.requires.opens;
  threads = omega (arith, ap length c.requires.opens.threads);
  blocks = no_cells c.args.config.now.cells.items (c.requires.opens.empty 0);
}

-- there are few commands, and each made at most one thread and one block
pub step_named-requires-clause-threads : goal.step_named-requires-clause-threads
step_named-requires-clause-threads c =
    let most = few (plain_program c.args.program.now) c.requires.ready c.args.body.now c.requires.main c.as_slice-command-items.result.now c.as_slice-command-items.ensures in
    omega (arith, most, c.loop-command-test.true, c.loop-command.invariant.threads)

pub step_named-requires-clause-blocks : goal.step_named-requires-clause-blocks
step_named-requires-clause-blocks c =
    let most = few (plain_program c.args.program.now) c.requires.ready c.args.body.now c.requires.main c.as_slice-command-items.result.now c.as_slice-command-items.ensures in
    omega (arith, most, c.loop-command-test.true, c.loop-command.invariant.blocks)

pub step_named-requires-2-clause-threads : goal.step_named-requires-2-clause-threads
step_named-requires-2-clause-threads c =
    let most = few (plain_program c.args.program.now) c.requires.ready c.args.body.now c.requires.main c.as_slice-command-items.result.now c.as_slice-command-items.ensures in
    omega (arith, most, c.loop-command.auto.command-index-end, c.loop-command.invariant.threads)

pub step_named-requires-2-clause-blocks : goal.step_named-requires-2-clause-blocks
step_named-requires-2-clause-blocks c =
    let most = few (plain_program c.args.program.now) c.requires.ready c.args.body.now c.requires.main c.as_slice-command-items.result.now c.as_slice-command-items.ensures in
    omega (arith, most, c.loop-command.auto.command-index-end, c.loop-command.invariant.blocks)

pub loop-command-preserved : goal.loop-command-preserved
loop-command-preserved c =
    let program = plain_program c.args.program.now in
    let answer : Answers program (plain_config c.loop-command.config) 0 c.in_ok-step_named.field-0 (plain_config c.step_named.new.config) = c.in_ok-step_named.ensures.answers in
    record {
      stands = next_stands program c.requires.ready c.args.body.now c.requires.main c.as_slice-command-items.result.now c.as_slice-command-items.ensures c.loop-command.command-index (plain_config c.loop-command.config) (plain_config c.step_named.new.config)
          c.loop-command.invariant.stands c.command-item.result c.loop-command-test.true c.command-item.is (rw c.in-Stepped.is at answer);
      threads = omega (arith, c.loop-command.invariant.threads, c.step_named.ensures.more_threads);
      blocks = omega (arith, c.loop-command.invariant.blocks, c.step_named.ensures.more_blocks);
    }

pub returns-in-Arith : goal.returns-in-Arith
returns-in-Arith c =
    let program = plain_program c.args.program.now in
    let answer : Answers program (plain_config c.loop-command.config) 0 c.in_ok-step_named.field-0 (plain_config c.step_named.new.config) = c.in_ok-step_named.ensures.answers in
    run_stops program c.requires.ready c.args.body.now c.requires.main c.as_slice-command-items.result.now c.as_slice-command-items.ensures c.loop-command.command-index (plain_config c.loop-command.config) (plain_config c.step_named.new.config)
    c.loop-command.invariant.stands c.command-item.result c.loop-command-test.true c.command-item.is (rw c.in-Arith.is at answer)

pub unreachable-requires : goal.unreachable-requires
unreachable-requires c =
    only_these (plain_program c.args.program.now) c.requires.ready c.args.body.now c.requires.main c.as_slice-command-items.result.now c.as_slice-command-items.ensures c.loop-command.command-index (plain_config c.loop-command.config) (plain_config c.step_named.new.config)
    c.loop-command.invariant.stands c.command-item.result c.loop-command-test.true c.command-item.is c.in_ok-step_named.field-0 c.in_ok-step_named.ensures.answers c.in_default.not-Stepped c.in_default.not-Arith

pub returns : goal.returns
returns c =
    let program = plain_program c.args.program.now in
    let answer : Answers program (plain_config c.loop-command.config) 0 c.in_ok-step_named-2.field-0 (plain_config c.step_named-2.new.config) = c.in_ok-step_named-2.ensures.answers in
    run_ends program c.requires.ready c.args.body.now c.requires.main c.as_slice-command-items.result.now c.as_slice-command-items.ensures c.loop-command.command-index (plain_config c.loop-command.config) (plain_config c.step_named-2.new.config)
    c.loop-command.invariant.stands c.loop-command-test.false (rw c.in-Ended.is at answer)

pub unreachable-requires-in_default-2 : goal.unreachable-requires-in_default-2
unreachable-requires-in_default-2 c =
    only_end (plain_program c.args.program.now) c.requires.ready c.args.body.now c.requires.main c.as_slice-command-items.result.now c.as_slice-command-items.ensures c.loop-command.command-index (plain_config c.loop-command.config) (plain_config c.step_named-2.new.config)
    c.loop-command.invariant.stands c.loop-command-test.false c.in_ok-step_named-2.field-0 c.in_ok-step_named-2.ensures.answers c.in_default-2.not-Ended
