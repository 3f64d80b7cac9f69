use Rattle.std.proofs.Common.{◌+◌, subst, sym}
use Rattle.mz_tree.specs.View.{plain_con}
use Rattle.mz_decl.specs.View.{plain_decls}
use Rattle.mz_modes.specs.Marks.{Rounds, IsRound}
use Rattle.mz_modes.proofs.Least.{round_set, rounds_set, rounds_kept}
use Rattle.mz_modes.proofs.marks.round.Goals as goal
use Rattle.mz_modes.proofs.marks.round.Goals.{then-mark, else-mark}

pub loop-k-preserved : goal.loop-k-preserved
loop-k-preserved c =
    let D = plain_decls c.args.decls.now in
    let con = plain_con c.con.result.now in
    elim c.if-mark.branch [
      | then-mark w ↦ (
        round_set D c.args.cons.now c.loop-k.marks c.mark.new.marks c.loop-k.k con c.requires.mutable c.loop-k.invariant.0 c.con.ensures w.if-mark.ensures,
        subst (λ b. Rounds b (c.loop-k.k + 1) D c.args.cons.now c.args.marks.now c.mark.new.marks) (sym w.changed-is) (rounds_set c.loop-k.changed D c.args.cons.now c.args.marks.now c.loop-k.marks c.mark.new.marks c.loop-k.k con c.loop-k.invariant.1 w.if-mark.ensures),
      )
      | else-mark w ↦ (
        subst (λ l. IsRound D l) (sym w.if-mark.ensures.0) c.loop-k.invariant.0,
        subst (λ b. Rounds b (c.loop-k.k + 1) D c.args.cons.now c.args.marks.now c.mark.new.marks) (sym w.changed-is) (rounds_kept c.loop-k.changed D c.args.cons.now c.args.marks.now c.loop-k.marks c.mark.new.marks c.loop-k.k con c.con.ensures c.loop-k.invariant.1 w.if-mark.ensures),
      )
    ]
