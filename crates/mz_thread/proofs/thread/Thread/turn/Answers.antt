use Rattle.mz_thread.proofs.Steps.{inside}
use Rattle.mz_thread.proofs.Ending.{over_leads, over_lost}
use Rattle.mz_thread.proofs.thread.Thread.turn.Goals as goal

pub returns-in-Some-clause-leads : goal.returns-in-Some-clause-leads
returns-in-Some-clause-leads g c = over_leads c.args.code.now c.args.options.now c.args.self.now.actor (g.W.Words.sees c.args.words.now) c.args.self.now.machine c.in-Some.end c.in-Some.ensures

pub returns-in-Some-clause-lost : goal.returns-in-Some-clause-lost
returns-in-Some-clause-lost g c = over_lost c.args.options.now c.args.self.now.machine c.in-Some.end (inside c.args.code.now c.args.options.now _ _ _ c.requires.turns.forward c.requires.turns.tries c.requires.follows) c.in-Some.ensures
