use Rattle.std.proofs.Common.{◌≡◌, ◌≤◌, ◌+◌, length, map}
use Rattle.mz_grammar.proofs.Loops.{with_front}
use Rattle.mz_script.specs.Cutting.{lines}
use Rattle.mz_script.specs.ReadLines.{piece_of}
use Rattle.mz_tree.specs.View.{plain_program}
use Rattle.mz_deriv.specs.View.{plain_item}
use Rattle.mz_script.specs.Reading.{seen_at}
use Rattle.mz_script.proofs.read.bodies.steps.Given as goal

-- the steps so far, before those that are still read
abbrev pub invariant-loop : goal.invariant-loop
invariant-loop l = record {
  all : with_front (map plain_item l.items) (seen_at (piece_of (plain_program l.program)) (lines l.rest)) ≡ seen_at (piece_of (plain_program l.program)) (lines l.bytes);
  fewer : l.counter + length l.rest ≤ length l.bytes;
}
