use Rattle.std.proofs.Common.{drop}
use Rattle.mz_tree.specs.View.{plain_atoms}
use Rattle.mz_decl.specs.View.{plain_decls}
use Rattle.mz_view.specs.Rules.{HoldsExclusive}
use Rattle.mz_view.proofs.adding.holds_exclusive.Given as goal

abbrev pub invariant-loop-i : goal.invariant-loop-i
invariant-loop-i l = HoldsExclusive (plain_decls l.decls) (plain_atoms l.atoms) l.name → HoldsExclusive (plain_decls l.decls) (plain_atoms (drop l.i l.atoms)) l.name
