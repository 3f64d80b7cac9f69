use Rattle.std.proofs.Common.{refl}
use Rattle.mz_elab.proofs.EachGiven.{refused}
use Rattle.mz_elab.proofs.giving.meet_end.Goals as goal

pub returns : goal.returns
returns c = (refused c.in_ok-meet_goal.field-0 _ _ _ _ _ _ _ _ c.if-branch.false c.in_ok-wanted.ensures c.in_ok-meet_goal.ensures, refl, c.in_ok-wanted.ensures)
