use Rattle.std.proofs.Common.{option_map, option_copied}
use Rattle.mz_tree.specs.View.{plain_atom}
use Rattle.mz_flow.proofs.BodiesWalked.{match_body, match_past}
use Rattle.mz_flow.proofs.walking.walked_body.Goals as goal

pub returns-in-Some : goal.returns-in-Some
returns-in-Some c = match_body c.args.command.now.op c.in-Match.block c.in-Match.variety c.in-Match.cases c.as_slice.result.now c.in-Match.giving (option_map plain_atom (option_copied c.args.uses)) c.known_con.result c.args.number c.in-Some.case.now c.in-Match.is c.as_slice.ensures c.known_con.ensures c.in-Some.ensures

pub returns-in-None : goal.returns-in-None
returns-in-None c = match_past c.args.command.now.op c.in-Match.block c.in-Match.variety c.in-Match.cases c.as_slice.result.now c.in-Match.giving (option_map plain_atom (option_copied c.args.uses)) c.known_con.result c.args.number c.in-Match.is c.as_slice.ensures c.known_con.ensures c.in-None.ensures
