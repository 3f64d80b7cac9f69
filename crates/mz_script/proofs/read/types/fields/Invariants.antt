use Rattle.std.proofs.Common.{◌≡◌, codes, drop, map}
use Rattle.mz_grammar.proofs.Loops.{with_front}
use Rattle.mz_tree.specs.View.{plain_field}
use Rattle.mz_script.specs.ReadWords.{fields_at}
use Rattle.mz_script.proofs.read.types.fields.Given as goal

-- the names so far, before those of the fields that are left
abbrev pub invariant-loop-i : goal.invariant-loop-i
invariant-loop-i l = with_front l.names (fields_at l.before (map plain_field (drop l.i l.fields)) l.rest) ≡ fields_at (codes " ") (map plain_field l.fields) l.bytes
