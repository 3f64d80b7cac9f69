use Rattle.std.proofs.Common.{◌≡◌, sym, subst, ◌∙◌}
use Rattle.mz_scope.specs.Names.{Globals, holders}
use Rattle.mz_scope.specs.View.{any_held}
use Rattle.mz_scope.proofs.Found.{any_found}
use Rattle.mz_scope.proofs.names.Globals.has_holder.Goals as goal

pub returns : goal.returns
returns c = subst (λ (g : Globals). c.is_some.result ≡ any_held (holders g c.args.field.now)) c.self.view_is
    (c.is_some.ensures ∙ any_found c.self.inside.cons.list c.args.field.now c.get.result (sym (c.get.ensures ∙ c.self.inside.cons_kept.holders c.args.field.now)))
