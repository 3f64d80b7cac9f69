use Rattle.mz_scope.specs.Types.{names_in}
use Rattle.mz_scope.proofs.Filled.{mark_step}
use Rattle.mz_scope.proofs.tables.mark_all.Goals as goal

pub loop-i-preserved : goal.loop-i-preserved
loop-i-preserved c = λ field. mark_step c.args.place (names_in c.args.fields.now) c.loop-i.i c.text_at.result.now c.loop-i.holders.first c.mark.new.holders.first field _
    c.text_at.ensures c.in_ok-mark.ensures (c.loop-i.invariant field)
