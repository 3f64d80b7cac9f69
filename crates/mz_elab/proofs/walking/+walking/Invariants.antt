use Rattle.std.proofs.Common.{ℕ, List, map, drop, reverse}
use Rattle.mz_tree.specs.Plain.{Atom}
use Rattle.mz_tree.specs.View.{plain_case}
use Rattle.mz_decl.specs.View.{plain_decls}
use Rattle.mz_elab.specs.Opening.{open_case}
use Rattle.mz_elab.specs.Walking.{PutsIn}
use Rattle.mz_elab.proofs.Walked.{Stands}
use Rattle.mz_elab.proofs.Matched.{CasesSo}
use Rattle.mz_elab.proofs.walking.+walking.Given as goal

abbrev pub invariant-walk-loop-i : goal.invariant-walk-loop-i
invariant-walk-loop-i l = Stands (plain_decls l.decls) (reverse l.bound) l.fn.begun l.fn.next l.commands l.i l.names l.state l.next

abbrev pub invariant-each_case-loop-i : goal.invariant-each_case-loop-i
invariant-each_case-loop-i l = (put : List (Atom ℕ) → List (Atom ℕ)) → PutsIn (plain_decls l.decls) l.state l.at l.variety put →
    CasesSo (plain_decls l.decls) (reverse l.bound) l.fn.next (map (λ c. open_case (plain_decls l.decls) l.own l.variety put l.state (plain_case c)) l.cases) l.ends.items l.next (map (λ c. open_case (plain_decls l.decls) l.own l.variety put l.state (plain_case c)) (drop l.i l.cases))
