use Rattle.std.proofs.Common.{◌≡◌, ◌+◌, ◌++◌, drop, map, length}
use Rattle.mz_scope.specs.Trees.{con_tree}
use Rattle.mz_scope.specs.Names.{con_names_in}
use Rattle.mz_scope.specs.Tables.{IsConTable, cons_in}
use Rattle.mz_scope.proofs.tables.add_cons_of.Given as goal

-- those so far, and then those of the rest, are all
abbrev pub invariant-loop-i : goal.invariant-loop-i
invariant-loop-i l = record {
  kept : IsConTable l.table;
  size : length l.table.list ≡ length l.fn.table.list + l.i;
  all : cons_in l.table.list ++ con_names_in l.variety (length l.table.list) (map (con_tree l.text) (drop l.i l.cons)) ≡ cons_in l.fn.table.list ++ con_names_in l.variety (length l.fn.table.list) (map (con_tree l.text) l.cons);
}
