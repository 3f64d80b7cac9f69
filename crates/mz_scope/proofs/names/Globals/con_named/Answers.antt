use Rattle.std.proofs.Common.{◌≡◌, Some, None, sym, subst, ◌∙◌}
use Rattle.mz_scope.specs.Names.{find, Globals}
use Rattle.mz_scope.proofs.Found.{place_of_none, con_found}
use Rattle.mz_scope.proofs.names.Globals.con_named.Goals as goal

pub returns-in-None : goal.returns-in-None
returns-in-None c = subst (λ (g : Globals). None ≡ find g.cons c.args.text.now) c.self.view_is
    (sym (place_of_none c.self.inside.cons.list 0 c.args.text.now (sym (c.get.ensures ∙ c.self.inside.cons_kept.first c.args.text.now) ∙ c.in-None.is)))

pub returns-in-None-get : goal.returns-in-None-get
returns-in-None-get c = subst (λ (g : Globals). None ≡ find g.cons c.args.text.now) c.self.view_is
    (con_found c.self.inside.cons.list c.in-Some.place c.args.text.now None (sym (c.get.ensures ∙ c.self.inside.cons_kept.first c.args.text.now) ∙ c.in-Some.is) c.in-None-get.ensures.value)

pub returns-in-Some-get : goal.returns-in-Some-get
returns-in-Some-get c = subst (λ (g : Globals). Some c.in-Some-get.named.now.con ≡ find g.cons c.args.text.now) c.self.view_is
    (con_found c.self.inside.cons.list c.in-Some.place c.args.text.now (Some c.in-Some-get.named.now) (sym (c.get.ensures ∙ c.self.inside.cons_kept.first c.args.text.now) ∙ c.in-Some.is) c.in-Some-get.ensures.value)
