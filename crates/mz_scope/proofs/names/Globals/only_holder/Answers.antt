use Rattle.std.proofs.Common.{◌≡◌, Some, None, sym, ap, subst, ◌∙◌}
use Rattle.mz_scope.specs.Names.{Globals, holders}
use Rattle.mz_scope.specs.View.{only}
use Rattle.mz_scope.proofs.Found.{held_by_none, shared_is, one_is}
use Rattle.mz_scope.proofs.names.Globals.only_holder.Goals as goal

pub returns-in-None : goal.returns-in-None
returns-in-None c = subst (λ (g : Globals). None ≡ only (holders g c.args.field.now)) c.self.view_is
    (sym (ap only (held_by_none c.args.field.now c.self.inside.cons.list 0 (sym (c.get.ensures ∙ c.self.inside.cons_kept.holders c.args.field.now) ∙ c.in-None.is))))

pub returns-then-holder : goal.returns-then-holder
returns-then-holder c = subst (λ (g : Globals). None ≡ only (holders g c.args.field.now)) c.self.view_is
    (sym (shared_is c.self.inside.cons.list c.in-Some.holder c.args.field.now (sym (c.get.ensures ∙ c.self.inside.cons_kept.holders c.args.field.now) ∙ c.in-Some.is) c.if-holder.true))

pub returns-in-None-get : goal.returns-in-None-get
returns-in-None-get c = subst (λ (g : Globals). None ≡ only (holders g c.args.field.now)) c.self.view_is
    (one_is c.self.inside.cons.list c.in-Some.holder c.args.field.now None (sym (c.get.ensures ∙ c.self.inside.cons_kept.holders c.args.field.now) ∙ c.in-Some.is) c.if-holder.false c.in-None-get.ensures.value)

pub returns-in-Some-get : goal.returns-in-Some-get
returns-in-Some-get c = subst (λ (g : Globals). Some c.in-Some-get.named.now.con ≡ only (holders g c.args.field.now)) c.self.view_is
    (one_is c.self.inside.cons.list c.in-Some.holder c.args.field.now (Some c.in-Some-get.named.now) (sym (c.get.ensures ∙ c.self.inside.cons_kept.holders c.args.field.now) ∙ c.in-Some.is) c.if-holder.false c.in-Some-get.ensures.value)
