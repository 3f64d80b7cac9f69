use Rattle.std.proofs.Common.{◌≡◌, drop}
use Rattle.mz_tree.specs.View.{plain_atoms}
use Rattle.mz_elab.specs.Sought.{known}
use Rattle.mz_deriv.specs.Outer.{all_in}
use Rattle.mz_elab.proofs.outer.+outer.Given as goal

abbrev pub invariant-all_name-loop-i : goal.invariant-all_name-loop-i
invariant-all_name-loop-i l = all_in (known l.names l.next) (plain_atoms l.atoms) ≡ all_in (known l.names l.next) (plain_atoms (drop l.i l.atoms))
