use Rattle.std.proofs.Common.{refl}
use Rattle.std.proofs.lemmas.Option.{slice_get_past, slice_get_read}
use Rattle.mz_decl.specs.View.{plain_decls}
use Rattle.mz_flow.proofs.Starts.{opened_starts, none_opened}
use Rattle.mz_flow.proofs.branches.start_opened.Goals as goal

pub returns-in-None : goal.returns-in-None
returns-in-None c = none_opened (plain_decls c.args.decls.now) c.args.state.now c.args.block c.args.variety c.args.cases.now c.args.case c.args.fresh (slice_get_past c.args.cases.now c.args.case c.in-None.ensures.lookup.3)

pub returns-in-Some : goal.returns-in-Some
returns-in-Some c = opened_starts (plain_decls c.args.decls.now) c.args.state.now c.args.block c.args.variety c.args.cases.now c.args.case c.args.fresh c.in-Some.one.now c.opened.result (slice_get_read c.args.cases.now _ c.args.case c.in-Some.one.now refl c.in-Some.ensures.lookup.3.0 c.in-Some.ensures.lookup.1) c.opened.ensures
