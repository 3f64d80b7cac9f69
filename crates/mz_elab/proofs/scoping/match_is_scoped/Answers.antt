use Rattle.std.proofs.Common.{reverse}
use Rattle.mz_tree.specs.View.{plain_atoms, plain_cases, plain_command}
use Rattle.mz_decl.specs.View.{plain_decls}
use Rattle.mz_elab.proofs.ScopedCases.{match_scoped}
use Rattle.mz_elab.proofs.scoping.match_is_scoped.Goals as goal

pub returns : goal.returns
returns c = match_scoped (plain_decls c.args.decls.now) (reverse c.args.bound.now) (plain_command c.args.command.now) c.args.block c.args.variety (plain_cases c.args.cases.now) (plain_atoms c.args.giving.now) c.requires.scoped c.requires.is
