use Rattle.std.proofs.Common.{option_map}
use Rattle.mz_tree.specs.View.{plain_atom, plain_command}
use Rattle.mz_decl.specs.View.{plain_decls}
use Rattle.mz_deriv.proofs.Branching.{BeginsBelow}
use Rattle.mz_deriv.proofs.fork.fork.Given as goal

abbrev pub invariant-loop-k : goal.invariant-loop-k
invariant-loop-k l = BeginsBelow (plain_decls l.decls) l.state (plain_command l.command) (option_map plain_atom l.uses) l.all l.k
