use Rattle.std.proofs.Common.{subst, Some}
use Rattle.std.specs.Ordering.{nat_cmp}
use Rattle.std.specs.Cmp.Lexicographic.{slice_cmp}
use Rattle.std.specs.BTreeMap.{UpdatesBy}
use Rattle.mz_scope.proofs.NameTables.{sets}
use Rattle.mz_scope.proofs.name_map.NameMap.set.Goals as goal

pub returns : goal.returns
returns g c = sets c.args.self.now.first c.insert.new.self c.args.name.now c.args.value
    (subst (λ name. UpdatesBy (λ x y. slice_cmp nat_cmp x.items y.items) (λ key. slice_cmp nat_cmp name key.items) c.args.self.now.first c.insert.new.self (Some c.args.value)) c.in_ok-key.ensures.items c.in-Ok.ensures.updates)
