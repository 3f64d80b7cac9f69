use Rattle.std.proofs.Common.{◌+◌, ◌≤◌, length}
use Rattle.mz_tree.specs.View.{plain_program, plain_body}
use Rattle.mz_named.specs.View.{plain_config}
use Rattle.mz_cli.proofs.Standing.{IsStanding}
use Rattle.mz_cli.proofs.run.ending_of.Given as goal

-- the thread stands before the next command, and each step made at most one block and one thread
abbrev pub invariant-loop-command : goal.invariant-loop-command
invariant-loop-command l = record {
  stands : IsStanding (plain_program l.program) (plain_body l.body) l.command-index (plain_config l.config);
  threads : length (plain_config l.config).threads ≤ l.command-index + 1;
  blocks : (plain_config l.config).heap.limit ≤ l.command-index;
}
