use Rattle.std.proofs.Common.{◌==◌, refl}
use Rattle.std.proofs.lemmas.Option.{slice_get-get_or}
use Rattle.mz_elab.proofs.MadeNames.{adding_next, of_names}
use Rattle.mz_elab.proofs.naming.add_each.Goals as goal

pub loop-i-preserved : goal.loop-i-preserved
loop-i-preserved c = adding_next of_names (λ x n. x == n) c.args.fields.now c.args.names.now c.loop-i.i _ c.loop-i.names c.add_one.new.names (λ y ys n. refl) c.loop-i.invariant (slice_get-get_or c.args.fields.now c.loop-i.i _ c.loop-i-test.true) c.in_ok-add_one.ensures
