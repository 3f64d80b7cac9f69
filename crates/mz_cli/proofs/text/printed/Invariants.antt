use Rattle.std.proofs.Common.{◌≡◌, take, string_bytes}
use Rattle.mz_cli.specs.Outcome.{print_lines}
use Rattle.mz_cli.proofs.text.printed.Given as goal

abbrev pub invariant-loop-print : goal.invariant-loop-print
invariant-loop-print l = string_bytes l.text ≡ print_lines (take l.print-index l.prints)
