use Rattle.mz_tree.specs.View.{plain_atoms}
use Rattle.mz_index.specs.Questions.{plain_test}
use Rattle.mz_index.proofs.Found.{NoneBetween}
use Rattle.mz_index.proofs.test.first_from.Given as goal

abbrev pub invariant-loop-i : goal.invariant-loop-i
invariant-loop-i l = NoneBetween (plain_atoms l.atoms) l.name l.from (plain_test l.test) l.i
