use Rattle.std.proofs.Common.{◌≡◌, ◌++◌, take}
use Rattle.mz_tree.specs.View.{plain_atoms}
use Rattle.mz_decl.specs.Signatures.{at_args}
use Rattle.mz_elab.proofs.calling.add_at.Given as goal

abbrev pub invariant-loop-i : goal.invariant-loop-i
invariant-loop-i l = l.state ≡ l.initial.state ++ at_args l.names (plain_atoms (take l.i l.atoms))
