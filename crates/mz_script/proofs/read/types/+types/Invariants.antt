use Rattle.std.proofs.Common.{◌≡◌, length, map, suc, ◌-◌, ◌+◌, ◌*◌}
use Rattle.mz_grammar.specs.Reading.{many_at}
use Rattle.mz_grammar.proofs.Loops.{with_front}
use Rattle.mz_tree.specs.View.{plain_atoms, plain_program}
use Rattle.mz_script.specs.ReadWords.{is_space, next_atom_by, below}
use Rattle.mz_script.proofs.read.types.+types.Given as goal

-- each call enters a lock, or goes on to a smaller part
abbrev pub decreases-lock : goal.decreases-lock
decreases-lock l = 8 * l.depth

abbrev pub decreases-any_type : goal.decreases-any_type
decreases-any_type l = 8 * l.depth + 1

abbrev pub decreases-holds : goal.decreases-holds
decreases-holds l = 8 * l.depth + 2

abbrev pub decreases-atom : goal.decreases-atom
decreases-atom l = 8 * l.depth + 3

abbrev pub decreases-next_atom : goal.decreases-next_atom
decreases-next_atom l = 8 * l.depth + 4

abbrev pub decreases-next_atoms : goal.decreases-next_atoms
decreases-next_atoms l = 8 * l.depth + 5

abbrev pub decreases-atoms : goal.decreases-atoms
decreases-atoms l = 8 * l.depth + 6

-- the permissions so far, before what the reader on lists still reads, are what it reads in all
abbrev pub invariant-next_atoms-loop-i : goal.invariant-next_atoms-loop-i
invariant-next_atoms-loop-i l =
    with_front (plain_atoms l.items) (many_at is_space (next_atom_by (plain_program l.program) (below (plain_program l.program) (suc l.depth))) (length l.bytes - l.i) l.rest)
    ≡ many_at is_space (next_atom_by (plain_program l.program) (below (plain_program l.program) (suc l.depth))) (length l.bytes) l.bytes
