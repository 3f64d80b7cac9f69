use Rattle.std.proofs.Common.{◌++◌, length, sym, ap, ◌∙◌}
use Rattle.mz_tree.specs.View.{plain_fun}
use Rattle.mz_lower.specs.Layout.{lay_funs}
use Rattle.mz_lower.proofs.Emitted.{next_of, fun_laid}
use Rattle.mz_lower.proofs.lowering.emit_funs.Goals as goal

pub loop-i-preserved : goal.loop-i-preserved
loop-i-preserved c =
    fun_laid c.loop-i.code _ (plain_fun c.index-funs-i.result) _ c.in_ok-emit_fun.ensures
    ∙ ap (λ fs. c.loop-i.code ++ lay_funs (length c.loop-i.code) fs) (sym (next_of plain_fun c.args.funs.now c.loop-i.i c.index-funs-i.result c.loop-i-test.true c.index-funs-i.is))
    ∙ c.loop-i.invariant
