use Rattle.std.proofs.Common.{◌≡◌, drop}
use Rattle.mz_tree.specs.View.{plain_atoms}
use Rattle.mz_deriv.specs.Outer.{is_outer, all_in}
use Rattle.mz_deriv.proofs.outer.+outer.Given as goal

abbrev pub invariant-names_outer-loop-i : goal.invariant-names_outer-loop-i
invariant-names_outer-loop-i l = all_in (is_outer l.bound l.state l.to) (plain_atoms l.atoms) ≡ all_in (is_outer l.bound l.state l.to) (plain_atoms (drop l.i l.atoms))
