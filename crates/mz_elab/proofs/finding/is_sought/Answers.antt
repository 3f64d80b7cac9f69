use Rattle.std.proofs.Common.{sym, subst}
use Rattle.mz_tree.specs.Saying.{Says}
use Rattle.mz_tree.specs.View.{plain_ty}
use Rattle.mz_decl.specs.View.{plain_decls}
use Rattle.mz_elab.specs.Sought.{IsSought, Held_sought, plain_sought}
use Rattle.mz_elab.proofs.finding.is_sought.Goals as goal

pub returns-in-Held : goal.returns-in-Held
returns-in-Held c =
    let D = plain_decls c.args.decls.now in
    let t = plain_ty c.args.ty.now in
    subst (λ z. Says c.is_held.result (IsSought D (plain_sought z) t)) (sym c.in-Held.is) (subst (λ l. Says c.is_held.result (IsSought D (Held_sought l) t)) c.as_slice.ensures (c.is_held.ensures D))
