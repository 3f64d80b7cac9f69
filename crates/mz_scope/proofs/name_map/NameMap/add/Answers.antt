use Rattle.std.proofs.Common.{◌≡◌, sym, subst, ◌∙◌, Some, is_some, false, rules}
use Rattle.std.specs.Ordering.{nat_cmp}
use Rattle.std.specs.Cmp.Lexicographic.{slice_cmp}
use Rattle.std.specs.BTreeMap.{UpdatesBy}
use Rattle.mz_scope.proofs.NameTables.{adds_new, none_is}
use Rattle.mz_scope.proofs.name_map.NameMap.add.Goals as goal

pub returns : goal.returns
returns g c =
    let none : is_some c.get.result ≡ false = search rules in
    adds_new c.args.self.now.first c.insert.new.self c.args.name.now c.args.value (sym c.get.ensures ∙ none_is _ none)
    (subst (λ name. UpdatesBy (λ x y. slice_cmp nat_cmp x.items y.items) (λ key. slice_cmp nat_cmp name key.items) c.args.self.now.first c.insert.new.self (Some c.args.value)) c.in_ok-key.ensures.items c.in-Ok.ensures.updates)
