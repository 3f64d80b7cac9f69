use Rattle.std.proofs.Common.{sym, subst}
use Rattle.mz_tree.specs.View.{plain_atom}
use Rattle.mz_decl.specs.View.{plain_decls}
use Rattle.mz_perm.specs.Lists.{First_copy}
use Rattle.mz_perm.proofs.Orders.{in_of}
use Rattle.mz_view.specs.Steps.{plain_step}
use Rattle.mz_view.specs.Rules.{View, ViewBy}
use Rattle.mz_view.specs.declared.step.ViewStep.{ViewStep}
use Rattle.mz_view.specs.declared.step.ViewStep.TheVariants.{Fold, Rename, Clause, Meet, InField, InLock}
use Rattle.mz_view.proofs.Changes.{at_step}
use Rattle.mz_view.proofs.view.apply.Goals as goal

pub returns-then-remove : goal.returns-then-remove
returns-then-remove c = subst (λ (s : ViewStep). ViewBy First_copy (plain_decls c.args.decls.now) c.args.state.now (plain_step s) c.remove.new.self) (sym c.in-Drop.is) c.if-remove.ensures

pub returns-else-remove : goal.returns-else-remove
returns-else-remove c = (
  λ S v. c.if-remove.ensures.0 (in_of (plain_atom c.in-Drop.atom) c.args.state.now S (subst (λ (s : ViewStep). View (plain_decls c.args.decls.now) c.args.state.now (plain_step s) S) c.in-Drop.is v)),
  c.if-remove.ensures.1,
)

pub returns-in-Fold : goal.returns-in-Fold
returns-in-Fold c = at_step (plain_decls c.args.decls.now) c.args.state.now c.fold.new.state c.args.step.now (Fold c.in-Fold.atom) c.fold.result c.in-Fold.is c.fold.ensures

pub returns-in-Rename : goal.returns-in-Rename
returns-in-Rename c = at_step (plain_decls c.args.decls.now) c.args.state.now c.rename.new.state c.args.step.now (Rename c.in-Rename.atom c.in-Rename.to) c.rename.result c.in-Rename.is c.rename.ensures

pub returns-in-Clause : goal.returns-in-Clause
returns-in-Clause c = at_step (plain_decls c.args.decls.now) c.args.state.now c.set_clause.new.state c.args.step.now (Clause c.in-Clause.atom c.in-Clause.adopts) c.set_clause.result c.in-Clause.is c.set_clause.ensures

pub returns-in-Meet : goal.returns-in-Meet
returns-in-Meet c = at_step (plain_decls c.args.decls.now) c.args.state.now c.meet.new.state c.args.step.now (Meet c.in-Meet.left c.in-Meet.right) c.meet.result c.in-Meet.is c.meet.ensures

pub returns-in-InField : goal.returns-in-InField
returns-in-InField c = at_step (plain_decls c.args.decls.now) c.args.state.now c.set_field.new.state c.args.step.now (InField c.in-InField.atom c.in-InField.field c.in-InField.to) c.set_field.result c.in-InField.is c.set_field.ensures

pub returns-in-InLock : goal.returns-in-InLock
returns-in-InLock c = at_step (plain_decls c.args.decls.now) c.args.state.now c.set_spot.new.state c.args.step.now (InLock c.in-InLock.atom c.in-InLock.spot c.in-InLock.to) c.set_spot.result c.in-InLock.is c.set_spot.ensures
