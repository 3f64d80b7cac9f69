use Rattle.std.proofs.Common.{◌≡◌, subst}
use Rattle.mz_tree.specs.Plain.{Unknown_type}
use Rattle.mz_tree.specs.Saying.{Says}
use Rattle.mz_tree.specs.View.{plain_ty}
use Rattle.mz_elab.proofs.Sorts.{held_says}
use Rattle.mz_elab.proofs.finding.is_held.Goals as goal

pub returns : goal.returns
returns c = λ D. held_says D c.args.names.now (plain_ty c.args.ty.now) c.type_names.result (subst (λ b. Says b (plain_ty c.args.ty.now ≡ Unknown_type)) c.if-is_unknown.false c.is_unknown.ensures) c.type_names.ensures
