use Rattle.std.proofs.Common.{sym, ap, ◌∙◌, arith}
use Rattle.mz_tree.specs.View.{plain_ty, plain_atom}
use Rattle.mz_deriv.specs.Outer.{is_outer, all_in_type, all_in_atom}
use Rattle.mz_deriv.proofs.Outers.{all_in_lock}
use Rattle.mz_deriv.proofs.Passing.{one_fails, one_passes, all_pass}
use Rattle.mz_deriv.proofs.outer.+outer.Goals as goal

pub names_outer-returns-then-not-atom_outer : goal.names_outer-returns-then-not-atom_outer
names_outer-returns-then-not-atom_outer t c =
    let test = is_outer c.args.bound.now c.args.state.now c.args.to in
    sym (one_fails (all_in_atom test) plain_atom c.args.atoms.now c.loop-i.i c.index-atoms-i.result c.loop-i-test.true c.index-atoms-i.is (sym c.atom_outer.ensures ∙ c.if-not-atom_outer.true) c.loop-i.invariant)

pub names_outer-loop-i-preserved : goal.names_outer-loop-i-preserved
names_outer-loop-i-preserved t c =
    let test = is_outer c.args.bound.now c.args.state.now c.args.to in
    one_passes (all_in_atom test) plain_atom c.args.atoms.now c.loop-i.i c.index-atoms-i.result c.loop-i-test.true c.index-atoms-i.is (sym c.atom_outer.ensures ∙ c.if-not-atom_outer.false) c.loop-i.invariant

pub names_outer-returns : goal.names_outer-returns
names_outer-returns t c =
    let test = is_outer c.args.bound.now c.args.state.now c.args.to in
    sym (all_pass (all_in_atom test) plain_atom c.args.atoms.now c.loop-i.i (omega arith) c.loop-i.invariant)

pub type_outer-returns-in-Lock : goal.type_outer-returns-in-Lock
type_outer-returns-in-Lock t c =
    let test = is_outer c.args.bound.now c.args.state.now c.args.to in
    c.names_outer.ensures ∙ all_in_lock test c.in-Lock.atoms c.as_slice-in-Lock.result.now c.as_slice-in-Lock.ensures ∙ sym (ap (λ z. all_in_type test (plain_ty z)) c.in-Lock.is)
