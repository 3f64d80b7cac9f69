use Rattle.std.proofs.Common.{◌==◌, refl, sym, subst}
use Rattle.mz_tree.specs.View.{plain_atom, plain_ty}
use Rattle.mz_perm.specs.Occurrence.{in_atom, in_type}
use Rattle.mz_perm.proofs.Locks.{in_lock}
use Rattle.mz_elab.specs.Naming.{AddsNames}
use Rattle.mz_elab.proofs.MadeNames.{adding_next, adds_or, adds_by, of_names, of_codes}
use Rattle.mz_elab.proofs.AllGiving.{at_index}
use Rattle.mz_elab.proofs.naming.+naming.Goals as goal

pub add_atom-returns-in_ok-add_type-in-Has : goal.add_atom-returns-in_ok-add_type-in-Has
add_atom-returns-in_ok-add_type-in-Has t c = subst (λ z. AddsNames (λ n. in_atom n (plain_atom z)) c.args.names.now c.add_type.new.names) (sym c.in-Has.is) (adds_or (λ n. c.in-Has.name == n) (λ n. in_type n (plain_ty c.in-Has.ty)) c.args.names.now c.add_one.new.names c.add_type.new.names c.in_ok-add_one-in-Has.ensures c.in_ok-add_type-in-Has.ensures)

pub add_atom-returns-in_ok-add_one-in-Same-2 : goal.add_atom-returns-in_ok-add_one-in-Same-2
add_atom-returns-in_ok-add_one-in-Same-2 t c = subst (λ z. AddsNames (λ n. in_atom n (plain_atom z)) c.args.names.now c.add_one-in-Same-2.new.names) (sym c.in-Same.is) (adds_or (λ n. c.in-Same.left == n) (λ n. c.in-Same.right == n) c.args.names.now c.add_one-in-Same.new.names c.add_one-in-Same-2.new.names c.in_ok-add_one-in-Same.ensures c.in_ok-add_one-in-Same-2.ensures)

pub add_type-returns-in_ok-add_each-in-Block : goal.add_type-returns-in_ok-add_each-in-Block
add_type-returns-in_ok-add_each-in-Block t c = subst (λ z. AddsNames (λ n. in_type n (plain_ty z)) c.args.names.now c.add_each.new.names) (sym c.in-Block.is) (subst (λ l. AddsNames (of_names l) c.args.names.now c.add_each.new.names) c.as_slice.ensures c.in_ok-add_each-in-Block.ensures)

pub add_type-returns-in_ok-add_atoms-in-Lock : goal.add_type-returns-in_ok-add_atoms-in-Lock
add_type-returns-in_ok-add_atoms-in-Lock t c = subst (λ z. AddsNames (λ n. in_type n (plain_ty z)) c.args.names.now c.add_atoms.new.names) (sym c.in-Lock.is) (adds_by (of_codes c.as_slice-in-Lock.result.now) _ c.args.names.now c.add_atoms.new.names (λ n. in_lock n c.in-Lock.atoms c.as_slice-in-Lock.result.now c.as_slice-in-Lock.ensures) c.in_ok-add_atoms-in-Lock.ensures)

pub add_atoms-loop-i-preserved : goal.add_atoms-loop-i-preserved
add_atoms-loop-i-preserved t c = adding_next of_codes (λ x n. in_atom n (plain_atom x)) c.args.atoms.now c.args.names.now c.loop-i.i c.index-atoms-i.result c.loop-i.names c.add_atom.new.names (λ y ys n. refl) c.loop-i.invariant (at_index c.args.atoms.now c.loop-i.i c.index-atoms-i.result c.loop-i-test.true c.index-atoms-i.is) c.in_ok-add_atom.ensures
