use Rattle.std.proofs.Common.{◌∙◌, option_map, option_copied}
use Rattle.mz_tree.specs.View.{plain_atom}
use Rattle.mz_flow.proofs.BodiesWalked.{match_count}
use Rattle.mz_flow.proofs.walking.walked.Goals as goal

pub returns-in-Match : goal.returns-in-Match
returns-in-Match c = c.walked_cases.ensures ∙ match_count c.args.command.now.op c.in-Match.block c.in-Match.variety c.in-Match.cases c.as_slice.result.now c.in-Match.giving (option_map plain_atom (option_copied c.args.uses)) c.known_con.result c.in-Match.is c.as_slice.ensures c.known_con.ensures
