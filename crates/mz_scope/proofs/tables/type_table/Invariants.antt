use Rattle.std.proofs.Common.{◌≡◌, ◌+◌, ◌++◌, drop, map, length}
use Rattle.mz_scope.specs.Trees.{declaration_tree}
use Rattle.mz_scope.specs.Names.{type_names}
use Rattle.mz_scope.specs.Tables.{IsTypeTable, types_in}
use Rattle.mz_scope.proofs.tables.type_table.Given as goal

-- those so far, and then those of the rest, are all
abbrev pub invariant-loop-i : goal.invariant-loop-i
invariant-loop-i l = record {
  kept : IsTypeTable l.table;
  size : length l.table.list ≡ l.counts.datas + l.counts.sigs;
  all : types_in l.table.list ++ type_names l.counts.datas l.counts.sigs (map (declaration_tree l.text) (drop l.i l.declarations)) ≡ type_names 0 0 (map (declaration_tree l.text) l.declarations);
}
