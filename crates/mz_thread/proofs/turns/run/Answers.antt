use Rattle.std.proofs.Common.{refl}
use Rattle.mz_words.specs.Turns.{Leads_nowhere}
use Rattle.mz_thread.proofs.Steps.{inside}
use Rattle.mz_thread.proofs.turns.run.Goals as goal

pub events-init : goal.events-init
events-init g c = record { follows = c.requires.follows; leads = Leads_nowhere; inside = inside _ _ _ _ _ c.requires.turns.forward c.requires.turns.tries c.requires.follows; held = c.requires.held; noted = c.requires.noted; turns = c.requires.turns; from = c.units-from.ensures; own = c.requires.own; actor = refl; size = refl; rest = refl }
