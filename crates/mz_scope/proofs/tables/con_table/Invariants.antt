use Rattle.std.proofs.Common.{◌≡◌, ◌++◌, drop, map, length}
use Rattle.mz_scope.specs.Trees.{declaration_tree}
use Rattle.mz_scope.specs.Names.{con_names}
use Rattle.mz_scope.specs.Tables.{IsConTable, cons_in}
use Rattle.mz_scope.proofs.tables.con_table.Given as goal

-- those so far, and then those of the rest, are all
abbrev pub invariant-loop-i : goal.invariant-loop-i
invariant-loop-i l = record {
  kept : IsConTable l.table;
  all : cons_in l.table.list ++ con_names l.datas (length l.table.list) (map (declaration_tree l.text) (drop l.i l.declarations)) ≡ con_names 0 0 (map (declaration_tree l.text) l.declarations);
}
