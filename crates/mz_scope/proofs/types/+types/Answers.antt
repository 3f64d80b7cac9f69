use Rattle.std.proofs.Common.{sym, ap, ◌∙◌, arith}
use Rattle.mz_tree.specs.View.{plain_atom, plain_atoms}
use Rattle.mz_scope.specs.Types.{flat_typed, flat_atoms}
use Rattle.mz_scope.specs.Trees.{type_tree, atom_tree, atom_trees}
use Rattle.mz_scope.specs.View.{made_of}
use Rattle.mz_scope.proofs.Lists.{list_step, list_end, seen_more}
use Rattle.mz_scope.proofs.Steps.{atoms_more, no_atoms_came, lock_came}
use Rattle.mz_scope.proofs.TypeForms.{lock_tree_is}
use Rattle.mz_scope.proofs.types.+types.Goals as goal

pub atoms-loop-i-preserved : goal.atoms-loop-i-preserved
atoms-loop-i-preserved t c =
    let g = c.args.source.now.globals.now in
    let bytes = c.args.source.now.text.now in
    let scope = c.args.scope.now in
    let all = c.args.all.now in
    list_step (λ l. flat_atoms g scope (atom_trees bytes l)) all c.loop-i.i c.index-all-i.result (plain_atoms c.loop-i.atoms) (plain_atoms c.push.new.self) (plain_atom c.in_ok-atom.field-0) _ (made_of c.loop-i.making) (made_of c.atom.new.making)
    c.loop-i.invariant (omega arith) c.index-all-i.is
    (atoms_more g scope (plain_atoms c.loop-i.atoms) (atom_tree bytes c.index-all-i.result) _ (plain_atom c.in_ok-atom.field-0) (made_of c.loop-i.making) (made_of c.atom.new.making) c.in_ok-atom.ensures)
    (seen_more plain_atom c.loop-i.atoms c.push.new.self c.in_ok-atom.field-0 c.in_ok-push.ensures.ok)

pub atoms-returns : goal.atoms-returns
atoms-returns t c =
    let g = c.args.source.now.globals.now in
    let bytes = c.args.source.now.text.now in
    let scope = c.args.scope.now in
    list_end (λ l. flat_atoms g scope (atom_trees bytes l)) c.args.all.now c.loop-i.i (plain_atoms c.loop-i.atoms) _ (made_of c.loop-i.making) (no_atoms_came g scope (made_of c.loop-i.making)) c.loop-i.invariant (omega arith)

pub typed-returns-in_ok-atoms-in-Lock : goal.typed-returns-in_ok-atoms-in-Lock
typed-returns-in_ok-atoms-in-Lock t c =
    let g = c.args.source.now.globals.now in
    let bytes = c.args.source.now.text.now in
    let scope = c.args.scope.now in
    let m = made_of c.args.making.now in
    ap (λ ty. flat_typed g scope c.args.x (type_tree bytes ty) m) c.in-Lock.is
    ∙ ap (λ tree. flat_typed g scope c.args.x tree m) (lock_tree_is bytes c.in-Lock.key c.in-Lock.guarded)
    ∙ lock_came g scope c.args.x (atom_trees bytes c.in-Lock.guarded) c.in_ok-atoms-in-Lock.field-0 m (made_of c.atoms.new.making)
    (ap (λ l. flat_atoms g scope (atom_trees bytes l) m) (sym c.as_slice.ensures) ∙ c.in_ok-atoms-in-Lock.ensures)

pub typed-returns-in-Structure : goal.typed-returns-in-Structure
unfolding flat_typed
typed-returns-in-Structure t c = rw c.in-Structure.is (rw c.as_slice-in-Structure.ensures at c.structure.ensures)
