use Rattle.std.proofs.Common.{reverse}
use Rattle.mz_decl.specs.View.{plain_decls}
use Rattle.mz_elab.proofs.ScopedCases.{case_body, case_own, case_con}
use Rattle.mz_elab.proofs.scoping.case_is_scoped.Goals as goal

pub returns-clause-body : goal.returns-clause-body
returns-clause-body c = case_body (plain_decls c.args.decls.now) (reverse c.args.bound.now) c.args.variety c.args.cases.now c.args.at c.args.case.now c.requires.scoped c.requires.here

pub returns-clause-own : goal.returns-clause-own
returns-clause-own c = case_own (plain_decls c.args.decls.now) (reverse c.args.bound.now) c.args.variety c.args.cases.now c.args.at c.args.case.now c.requires.scoped c.requires.here

pub returns-clause-con : goal.returns-clause-con
returns-clause-con c = case_con (plain_decls c.args.decls.now) (reverse c.args.bound.now) c.args.variety c.args.cases.now c.args.at c.args.case.now c.requires.scoped c.requires.here
