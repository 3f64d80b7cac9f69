use Rattle.std.proofs.Common.{◌≡◌, ◌++◌, drop, map, length}
use Rattle.mz_scope.specs.Trees.{declaration_tree}
use Rattle.mz_scope.specs.Names.{fun_names}
use Rattle.mz_scope.specs.Tables.{types_in, params_in, funs_in, IsFunTable}
use Rattle.mz_scope.proofs.tables.fun_table.Given as goal

-- those so far, and then those of the rest, are all
abbrev pub invariant-loop-i : goal.invariant-loop-i
invariant-loop-i l = record {
  kept : IsFunTable l.table;
  all : funs_in l.table.list ++ fun_names (types_in l.types.list) (params_in l.params) (length l.table.list) (map (declaration_tree l.text) (drop l.i l.declarations)) ≡ fun_names (types_in l.types.list) (params_in l.params) 0 (map (declaration_tree l.text) l.declarations);
}
