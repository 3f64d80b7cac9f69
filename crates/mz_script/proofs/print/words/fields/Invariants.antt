use Rattle.std.proofs.Common.{◌≡◌, ◌++◌, codes, map, drop}
use Rattle.mz_tree.specs.View.{plain_field}
use Rattle.mz_script.specs.Words.{fields_text}
use Rattle.mz_script.proofs.print.words.fields.Given as goal

abbrev pub invariant-loop-i : goal.invariant-loop-i
invariant-loop-i l = l.out.items ++ fields_text l.before (map plain_field (drop l.i l.fields)) (drop l.i l.names) ≡ l.fn.out.items ++ fields_text (codes " ") (map plain_field l.fields) l.names
