use Rattle.std.proofs.Common.{◌≡◌, ◌==◌, ◌<◌, ℕ, length, take, count_by}
use Rattle.std.specs.Prelude.{All}
use Rattle.mz_print_tests.proofs.tests.tickets.each_once.Given as goal

abbrev pub invariant-loop-entry : goal.invariant-loop-entry
invariant-loop-entry l = All (λ e. e.seen < length l.prints) (take l.entry-index l.prints)

abbrev pub invariant-loop-ticket : goal.invariant-loop-ticket
invariant-loop-ticket l = (ticket : ℕ) → ticket < l.ticket → count_by (λ e. e.seen == ticket) l.prints ≡ 1
