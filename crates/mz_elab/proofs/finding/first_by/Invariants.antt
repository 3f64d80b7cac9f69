use Rattle.std.proofs.Common.{◌-◌, length}
use Rattle.mz_decl.specs.View.{plain_decls}
use Rattle.mz_elab.specs.Sought.{plain_sought}
use Rattle.mz_elab.proofs.Sorts.{NoneYet}
use Rattle.mz_elab.proofs.finding.first_by.Given as goal

abbrev pub invariant-loop-place : goal.invariant-loop-place
invariant-loop-place l = NoneYet (plain_decls l.decls) (plain_sought l.sought) l.state l.name l.from

abbrev pub decreases-loop-place : goal.decreases-loop-place
decreases-loop-place l = length l.state - l.from
