use Rattle.std.proofs.Common.{refl}
use Rattle.mz_tree.specs.Programs.{Variety}
use Rattle.mz_tree.specs.View.{plain_variety}
use Rattle.mz_decl.specs.View.{plain_decls}
use Rattle.mz_modes.proofs.Made.{mapped_next}
use Rattle.mz_modes.proofs.marks.mutable_varieties.Goals as goal

pub loop-d-preserved : goal.loop-d-preserved
loop-d-preserved c = mapped_next (λ (v : Variety). v.mutable) (plain_decls c.args.decls.now).varieties c.loop-d.d (plain_variety c.variety.result.now) c.variety.result.now.mutable c.loop-d.marks c.push.new.self c.variety.ensures refl c.loop-d.invariant c.in_ok-push.ensures.ok
