use Rattle.std.proofs.Common.{◌↔◌, drop, map}
use Rattle.mz_tree.specs.View.{plain_field}
use Rattle.mz_modes.specs.Marks.{AnyMarked}
use Rattle.mz_modes.proofs.marks.any_affine.Given as goal

abbrev pub invariant-loop-i : goal.invariant-loop-i
invariant-loop-i l = AnyMarked l.cons l.marks (map plain_field l.fields) ↔ AnyMarked l.cons l.marks (map plain_field (drop l.i l.fields))
