use Rattle.std.proofs.Common.{◌≡◌, ◌++◌, drop}
use Rattle.mz_scope.specs.Bodies.{arm_cons}
use Rattle.mz_scope.specs.Lists.{arms_of}
use Rattle.mz_scope.proofs.shapes.arm_cons.Given as goal

abbrev pub invariant-loop-i : goal.invariant-loop-i
invariant-loop-i l = arm_cons l.source.globals.now (arms_of l.source.text.now l.cases) ≡ l.numbers ++ arm_cons l.source.globals.now (arms_of l.source.text.now (drop l.i l.cases))
