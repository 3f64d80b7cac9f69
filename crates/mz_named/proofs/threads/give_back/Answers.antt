use Rattle.std.proofs.Common.{List, [], sym, ap, ◌∙◌}
use Rattle.mz_named.specs.declared.config.Suspended.{Suspended as CodeSuspended}
use Rattle.mz_named.specs.declared.config.Thread.{Thread as CodeThread}
use Rattle.mz_named.specs.declared.config.Thread.TheVariants as thread
use Rattle.mz_named.proofs.threads.give_back.Goals as goal

below_in : CodeThread → List CodeSuspended
below_in (thread.Running top below) = below.items
below_in thread.Ended = []
below_in thread.Stopped = []

pub resume-requires : goal.resume-requires
unfolding below_in
resume-requires c = (c.requires.2, c.requires.3, ap below_in (sym c.in-Running.is ∙ c.requires.4) ∙ c.requires.5)
