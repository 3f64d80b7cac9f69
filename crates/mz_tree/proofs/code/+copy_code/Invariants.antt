use Rattle.std.proofs.Common.{◌≡◌, take}
use Rattle.mz_tree.proofs.code.+copy_code.Given as goal

abbrev pub invariant-copy_commands-loop-i : goal.invariant-copy_commands-loop-i
invariant-copy_commands-loop-i l = l.copies ≡ take l.i l.commands

abbrev pub invariant-copy_cases-loop-i : goal.invariant-copy_cases-loop-i
invariant-copy_cases-loop-i l = l.copies ≡ take l.i l.cases
