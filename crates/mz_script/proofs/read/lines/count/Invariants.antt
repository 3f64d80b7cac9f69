use Rattle.std.proofs.Common.{◌≡◌, ◌≤◌, ◌+◌, length}
use Rattle.mz_script.specs.Cutting.{lines}
use Rattle.mz_script.proofs.read.lines.count.Given as goal

-- those that were counted and those that are left
abbrev pub invariant-loop-i : goal.invariant-loop-i
invariant-loop-i l = record {
  all : l.lines + length (lines l.rest) ≡ length (lines l.bytes);
  fewer : l.i + length l.rest ≤ length l.bytes;
  few : l.lines ≤ l.i;
}
