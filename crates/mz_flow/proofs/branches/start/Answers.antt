use Rattle.std.proofs.Common.{ap, option_map, option_copied}
use Rattle.mz_tree.specs.View.{plain_atom}
use Rattle.mz_decl.specs.View.{plain_decls}
use Rattle.mz_flow.proofs.Starts.{match_starts}
use Rattle.mz_flow.proofs.branches.start.Goals as goal

pub returns-in-Match : goal.returns-in-Match
returns-in-Match c = match_starts (plain_decls c.args.decls.now) c.args.state.now c.args.op.now c.in-Match.block c.in-Match.variety c.in-Match.cases c.as_slice.result.now c.in-Match.giving (plain_atom c.in-Some.atom.now) (option_map plain_atom (option_copied c.args.uses)) c.args.case c.args.fresh c.start_match.result c.in-Match.is c.as_slice.ensures (ap (λ o. option_map plain_atom (option_copied o)) c.in-Some.is) c.start_match.ensures
