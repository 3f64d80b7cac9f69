use Rattle.std.proofs.Common.{◌≡◌, ap, subst, ◌∙◌}
use Rattle.std.specs.Option.{option_map}
use Rattle.mz_scope.specs.Names.{find, Globals}
use Rattle.mz_scope.specs.Tables.{type_entry_of}
use Rattle.mz_scope.specs.declared.entries.NamedType.{NamedType}
use Rattle.mz_scope.proofs.Found.{found_through}
use Rattle.mz_scope.proofs.names.Globals.type_entry.Goals as goal

pub returns : goal.returns
returns c = subst (λ (g : Globals). option_map type_entry_of c.get.result ≡ find g.types c.args.text.now) c.self.view_is
    (ap (option_map type_entry_of) (c.get.ensures ∙ c.self.inside.types_kept c.args.text.now)
    ∙ found_through (λ (t : NamedType). t.name) (λ (t : NamedType). t.entry) type_entry_of c.self.inside.types.list c.args.text.now)
