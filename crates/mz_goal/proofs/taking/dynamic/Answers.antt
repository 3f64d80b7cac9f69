use Rattle.std.proofs.Common.{◌≡◌, subst}
use Rattle.mz_tree.specs.Plain.{Dynamic_type}
use Rattle.mz_tree.specs.Saying.{Says}
use Rattle.mz_tree.specs.View.{plain_ty}
use Rattle.mz_decl.specs.View.{plain_decls}
use Rattle.mz_index.specs.Finding.{NoneFits}
use Rattle.mz_goal.specs.Goals.{Serves}
use Rattle.mz_goal.specs.Marked.{entries}
use Rattle.mz_goal.proofs.Serving.{not_so}
use Rattle.mz_goal.proofs.taking.dynamic.Goals as goal

pub returns-then-not-is_dynamic : goal.returns-then-not-is_dynamic
returns-then-not-is_dynamic c = not_so (plain_decls c.args.decls.now) (entries c.args.state.now c.args.marks.now) c.args.name (plain_ty c.args.ty.now) c.requires.alone c.requires.known c.requires.other (subst (λ b. Says b (plain_ty c.args.ty.now ≡ Dynamic_type)) c.if-not-is_dynamic.true c.is_dynamic.ensures)

pub make_dynamic-requires-clause-alone : goal.make_dynamic-requires-clause-alone
make_dynamic-requires-clause-alone c =
    let E = entries c.args.state.now c.args.marks.now in
    let is = subst (λ b. Says b (plain_ty c.args.ty.now ≡ Dynamic_type)) c.if-not-is_dynamic.false c.is_dynamic.ensures in
    subst (λ u. NoneFits (Serves E c.args.name u) E) is c.requires.alone
