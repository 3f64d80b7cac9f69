use Rattle.std.proofs.Common.{rules}
use Rattle.mz_tree.specs.View.{plain_atom, plain_con, plain_cases}
use Rattle.mz_decl.specs.View.{plain_decls}
use Rattle.mz_flow.proofs.Starts.{known_starts}
use Rattle.mz_flow.proofs.branches.start_known.Goals as goal

pub returns-in_ok-copy-in-Some : goal.returns-in_ok-copy-in-Some
returns-in_ok-copy-in-Some c = known_starts (plain_decls c.args.decls.now) c.args.state.now c.args.variety c.args.con c.count_at.result (plain_atom c.args.atom.now) (plain_cases c.args.cases.now) c.args.fresh (plain_con c.in-Some.made.now) c.in_ok-copy-in-Some.field-0 (search rules) c.in-Some.ensures c.if-made-variety.false c.count_at.ensures c.if-count_at-ne1.false c.if-fresh-ne0.false c.in_ok-copy-in-Some.ensures
