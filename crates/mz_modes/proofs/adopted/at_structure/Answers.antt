use Rattle.std.proofs.Common.{sym}
use Rattle.mz_decl.specs.View.{plain_decls}
use Rattle.mz_modes.proofs.Clauses.{structure_adopts, structure_none, structure_other}
use Rattle.mz_modes.proofs.adopted.at_structure.Goals as goal

pub returns-then-is_immutable : goal.returns-then-is_immutable
returns-then-is_immutable c = structure_adopts (plain_decls c.args.decls.now) c.written.result.now c.args.number c.in-Some.clause.now c.written.ensures (sym c.in-Some.ensures.value) c.if-is_immutable.ensures

pub returns-in-None : goal.returns-in-None
returns-in-None c = structure_none (plain_decls c.args.decls.now) c.written.result.now c.args.number c.written.ensures (sym c.in-None.ensures.value)

pub returns-else-is_immutable : goal.returns-else-is_immutable
returns-else-is_immutable c = structure_other (plain_decls c.args.decls.now) c.written.result.now c.args.number c.in-Some.clause.now c.written.ensures (sym c.in-Some.ensures.value) c.if-is_immutable.ensures
