use Rattle.std.proofs.Common.{◌≡◌, ap, subst, ◌∙◌}
use Rattle.std.specs.Option.{option_map}
use Rattle.mz_scope.specs.Names.{find, Globals}
use Rattle.mz_scope.specs.Tables.{fun_entry_of}
use Rattle.mz_scope.specs.declared.entries.NamedFun.{NamedFun}
use Rattle.mz_scope.proofs.Found.{found_through}
use Rattle.mz_scope.proofs.names.Globals.fun_entry.Goals as goal

pub returns : goal.returns
returns c = subst (λ (g : Globals). option_map fun_entry_of c.get.result ≡ find g.funs c.args.text.now) c.self.view_is
    (ap (option_map fun_entry_of) (c.get.ensures ∙ c.self.inside.funs_kept c.args.text.now)
    ∙ found_through (λ (f : NamedFun). f.name) (λ (f : NamedFun). f.entry) fun_entry_of c.self.inside.funs.list c.args.text.now)
