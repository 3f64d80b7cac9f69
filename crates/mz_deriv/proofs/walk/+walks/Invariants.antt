use Rattle.std.proofs.Common.{◌≤◌, ℕ, List, length, option_map}
use Rattle.mz_tree.specs.View.{plain_atom, plain_atoms, plain_body, plain_command}
use Rattle.mz_decl.specs.View.{plain_decls}
use Rattle.mz_deriv.specs.Parts.{SameNames}
use Rattle.mz_deriv.proofs.Loops.{At}
use Rattle.mz_deriv.proofs.Branching.{PassBelow}
use Rattle.mz_deriv.proofs.walk.+walks.Given as goal

abbrev pub invariant-walk-loop-i : goal.invariant-walk-loop-i
invariant-walk-loop-i l = record {
  led : At (plain_decls l.decls) (plain_body l.body) l.fn.bound l.fn.state l.items l.commands l.names l.state l.i l.done l.made;
  within : l.done ≤ length l.commands;
  few : l.made ≤ l.i;
}

abbrev pub invariant-walk_branches-loop-k : goal.invariant-walk_branches-loop-k
invariant-walk_branches-loop-k l = (names : List ℕ) → SameNames l.bound names → PassBelow (plain_decls l.decls) l.state (plain_command l.command) (option_map plain_atom l.uses) names (plain_atoms l.join) l.cases l.k
