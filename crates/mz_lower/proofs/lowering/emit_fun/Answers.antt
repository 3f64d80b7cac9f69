use Rattle.std.proofs.Common.{sym}
use Rattle.mz_tree.specs.View.{plain_fun}
use Rattle.mz_tree.proofs.CodeViews.{result_of_body, brace_of_body}
use Rattle.mz_lower.proofs.Emitted.{on_ok, body_laid}
use Rattle.mz_lower.proofs.lowering.emit_fun.Goals as goal

pub returns : goal.returns
returns c = on_ok c.put.result _ _
    (λ e. body_laid c.args.code.now c.emit_body.new.code c.put.new.code (plain_fun c.args.fun.now) _ _
    (sym (brace_of_body c.args.fun.now.body)) (sym (result_of_body c.args.fun.now.body)) c.in_ok-emit_body.ensures e)
    c.put.ensures
