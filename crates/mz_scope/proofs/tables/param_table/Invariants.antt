use Rattle.std.proofs.Common.{◌≡◌, ◌++◌, drop, map}
use Rattle.mz_scope.specs.Trees.{declaration_tree}
use Rattle.mz_scope.specs.Names.{param_lists}
use Rattle.mz_scope.specs.Tables.{params_in}
use Rattle.mz_scope.proofs.tables.param_table.Given as goal

-- those so far, and then those of the rest, are all
abbrev pub invariant-loop-i : goal.invariant-loop-i
invariant-loop-i l = params_in l.all ++ param_lists (map (declaration_tree l.text) (drop l.i l.declarations)) ≡ param_lists (map (declaration_tree l.text) l.declarations)
