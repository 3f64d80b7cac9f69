use Rattle.std.proofs.Common.{◌-◌, length}
use Rattle.mz_decl.specs.View.{plain_decls}
use Rattle.mz_goal.specs.Marked.{entries}
use Rattle.mz_goal.specs.Offering.{plain_wanted}
use Rattle.mz_goal.proofs.Offering.{NoOfferBelow}
use Rattle.mz_goal.proofs.offers.first_by.Given as goal

abbrev pub invariant-loop-place : goal.invariant-loop-place
invariant-loop-place l = NoOfferBelow (plain_decls l.decls) (entries l.state l.marks) l.name (plain_wanted l.wanted) l.from

abbrev pub decreases-loop-place : goal.decreases-loop-place
decreases-loop-place l = length l.state - l.from
