use Rattle.std.proofs.Common.{refl, subst}
use Rattle.mz_tree.specs.Plain.{Named_type, Has_atom}
use Rattle.mz_tree.specs.View.{plain_atom}
use Rattle.mz_decl.specs.View.{plain_decls}
use Rattle.mz_perm.specs.Lists.{In, TakesFirst}
use Rattle.mz_adopt.proofs.Adopters.{not_given, not_beside}
use Rattle.mz_adopt.proofs.giving.give.Goals as goal

pub returns-in-None : goal.returns-in-None
returns-in-None c = (λ S r. c.in-None.ensures r.adopted r.adopter, refl)

pub returns-then-not-remove : goal.returns-then-not-remove
returns-then-not-remove c =
    let given = Has_atom c.args.block (Named_type c.in-Some.adopted) in (
      not_given (plain_decls c.args.decls.now) c.args.state.now c.args.to c.args.block c.args.adopter c.in-Some.adopted (plain_atom c.args.atom.now) c.in-Some.ensures
          (subst (λ l. In given l → ⊥) c.in_ok-next.ensures c.if-not-remove.ensures.0),
      refl,
    )

pub returns-then-not-has : goal.returns-then-not-has
returns-then-not-has c =
    let given = Has_atom c.args.block (Named_type c.in-Some.adopted) in (
      not_beside (plain_decls c.args.decls.now) c.args.state.now c.remove.new.self c.args.to c.args.block c.args.adopter c.in-Some.adopted (plain_atom c.args.atom.now) c.in-Some.ensures
          (subst (λ l. TakesFirst given l c.remove.new.self) c.in_ok-next.ensures c.if-not-remove.ensures) c.if-not-has.ensures.1,
      refl,
    )
