use Rattle.std.proofs.Common.{refl}
use Rattle.mz_tree.specs.View.{plain_atom}
use Rattle.mz_decl.specs.View.{plain_decls}
use Rattle.mz_elab.proofs.Adopters.{beside_met, beside_unmet}
use Rattle.mz_elab.proofs.adopting.meet_beside.Goals as goal

pub returns-then-not-branch : goal.returns-then-not-branch
returns-then-not-branch c = λ a s. (refl, beside_unmet c.in_ok-need_beside.field-0 (plain_decls c.args.decls.now) c.args.state.now c.args.at a (plain_atom c.args.goal) c.need_beside.new.state c.new-steps.result c.need_beside.new.steps c.if-not-branch.true (c.in_ok-need_beside.ensures.met a s), refl)

pub returns : goal.returns
returns c = λ a s. beside_met c.in_ok-need_beside.field-0 (plain_decls c.args.decls.now) c.args.state.now c.args.at a (plain_atom c.args.goal) c.need_beside.new.state c.new-steps.result c.need_beside.new.steps c.if-not-branch.false (c.in_ok-need_beside.ensures.met a s)
