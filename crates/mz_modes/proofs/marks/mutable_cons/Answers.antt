use Rattle.std.proofs.Common.{slice_get}
use Rattle.mz_tree.specs.Programs.{Con}
use Rattle.mz_tree.specs.View.{plain_con}
use Rattle.mz_decl.specs.View.{plain_decls}
use Rattle.mz_modes.specs.Marks.{mark_in}
use Rattle.mz_modes.proofs.Made.{mapped_next}
use Rattle.mz_modes.proofs.marks.mutable_cons.Goals as goal

pub loop-k-preserved : goal.loop-k-preserved
loop-k-preserved c = mapped_next (λ (con : Con). mark_in (slice_get c.args.varieties.now con.variety)) (plain_decls c.args.decls.now).cons c.loop-k.k (plain_con c.con.result.now) c.is_marked.result c.loop-k.marks c.push.new.self c.con.ensures c.is_marked.ensures.mark c.loop-k.invariant c.in_ok-push.ensures.ok
