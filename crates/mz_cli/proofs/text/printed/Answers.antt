use Rattle.std.proofs.Common.{◌++◌, sym, ap, ◌∙◌, arith, take, get_or, string_bytes, decimal}
use Rattle.std.proofs.lemmas.List.{take_more}
use Rattle.mz_cli.specs.Outcome.{line, print_lines}
use Rattle.mz_cli.proofs.Lines.{lines_more}
use Rattle.mz_cli.proofs.text.printed.Goals as goal

pub loop-print-preserved : goal.loop-print-preserved
loop-print-preserved c =
    let print = get_or c.args.prints.now c.loop-print.print-index 0 in
    let done = take c.loop-print.print-index c.args.prints.now in
    c.in_ok-push_str.ensures.bytes ∙ ap (λ l. string_bytes c.loop-print.text ++ l) (c.deref.ensures ∙ c.in_ok-digits.ensures.ok)
    ∙ ap (λ l. l ++ line (decimal print)) c.loop-print.invariant ∙ sym (lines_more done print)
    ∙ ap print_lines (sym (take_more c.args.prints.now c.loop-print.print-index 0 (omega arith)))
