use Rattle.std.proofs.Common.{false, length, subst, ◌∙◌}
use Rattle.mz_decl.specs.View.{plain_decls}
use Rattle.mz_modes.specs.Marks.{Rounds}
use Rattle.mz_modes.proofs.Made.{first_round, are_mutable, are_mutable_cons, are_modes}
use Rattle.mz_modes.proofs.form.modes.Goals as goal

pub loop-init : goal.loop-init
loop-init c =
    let D = plain_decls c.args.decls.now in (
      first_round D c.in_ok-affine.affine c.in_ok-affine.ensures,
      are_mutable_cons D c.as_slice.result.now c.in_ok-mutable_cons.mutable_cons (are_mutable D c.as_slice.result.now (c.as_slice.ensures ∙ c.in_ok-mutable.ensures)) c.in_ok-mutable_cons.ensures,
    )

pub returns : goal.returns
returns c =
    let D = plain_decls c.args.decls.now in (
      are_modes D c.in_ok-mutable.mutable c.in_ok-mutable_cons.mutable_cons c.loop.affine c.round.new.marks (are_mutable D c.in_ok-mutable.mutable c.in_ok-mutable.ensures) c.loop.invariant.1 c.loop-test.ensures.round (subst (λ l. Rounds false (length D.cons) D l c.loop.affine c.round.new.marks) c.as_slice-in-loop.ensures c.loop-test.ensures.tells),
      c.in_default.ensures,
    )
