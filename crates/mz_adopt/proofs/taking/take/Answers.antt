use Rattle.std.proofs.Common.{refl}
use Rattle.mz_adopt.proofs.taking.take.Goals as goal

pub returns-in-None : goal.returns-in-None
returns-in-None c = (λ S r. c.in-None.ensures r.adopted r.adopter, refl)
