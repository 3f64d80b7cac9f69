use Rattle.mz_print.proofs.Interleaved.{in_order}
use Rattle.mz_print.proofs.laws.reports_print_in_order.Goals as goal

pub returns : goal.returns
returns c = in_order
