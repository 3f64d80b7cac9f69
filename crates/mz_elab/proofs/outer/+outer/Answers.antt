use Rattle.std.proofs.Common.{sym, ap, ◌∙◌, arith}
use Rattle.mz_tree.specs.View.{plain_ty, plain_atom}
use Rattle.mz_elab.specs.Sought.{known}
use Rattle.mz_deriv.specs.Outer.{all_in_type, all_in_atom}
use Rattle.mz_deriv.proofs.Outers.{all_in_lock}
use Rattle.mz_deriv.proofs.Passing.{one_fails, one_passes, all_pass}
use Rattle.mz_elab.proofs.outer.+outer.Goals as goal

pub all_name-returns-then-not-atom_names : goal.all_name-returns-then-not-atom_names
all_name-returns-then-not-atom_names t c =
    let test = known c.args.names.now c.args.next in
    sym (one_fails (all_in_atom test) plain_atom c.args.atoms.now c.loop-i.i c.index-atoms-i.result c.loop-i-test.true c.index-atoms-i.is (sym c.atom_names.ensures ∙ c.if-not-atom_names.true) c.loop-i.invariant)

pub all_name-loop-i-preserved : goal.all_name-loop-i-preserved
all_name-loop-i-preserved t c =
    let test = known c.args.names.now c.args.next in
    one_passes (all_in_atom test) plain_atom c.args.atoms.now c.loop-i.i c.index-atoms-i.result c.loop-i-test.true c.index-atoms-i.is (sym c.atom_names.ensures ∙ c.if-not-atom_names.false) c.loop-i.invariant

pub all_name-returns : goal.all_name-returns
all_name-returns t c =
    let test = known c.args.names.now c.args.next in
    sym (all_pass (all_in_atom test) plain_atom c.args.atoms.now c.loop-i.i (omega arith) c.loop-i.invariant)

pub type_names-returns-in-Lock : goal.type_names-returns-in-Lock
type_names-returns-in-Lock t c =
    let test = known c.args.names.now c.args.next in
    c.all_name.ensures ∙ all_in_lock test c.in-Lock.atoms c.as_slice-in-Lock.result.now c.as_slice-in-Lock.ensures ∙ sym (ap (λ z. all_in_type test (plain_ty z)) c.in-Lock.is)
