use Rattle.mz_tree.specs.View.{plain_atom, plain_atoms}
use Rattle.mz_modes.specs.Affine.{AffineAtom}
use Rattle.mz_perm.proofs.Remaining.{remains_all, remains_next, remains_refused, remains_done}
use Rattle.mz_modes.proofs.UsedUp.{atom_at, atoms_past}
use Rattle.mz_modes.proofs.using.use_each.Goals as goal

pub loop-i-init : goal.loop-i-init
loop-i-init c = λ D modes. remains_all (AffineAtom D) (plain_atoms c.args.atoms.now) c.args.state.now

pub returns-then-not-use_up : goal.returns-then-not-use_up
returns-then-not-use_up c = λ D modes.
    remains_refused (AffineAtom D) (plain_atoms c.args.atoms.now) c.loop-i.i (plain_atom c.index-atoms-i.result) c.args.state.now c.loop-i.state (atom_at c.args.atoms.now c.loop-i.i c.index-atoms-i.result c.loop-i-test.true c.index-atoms-i.is) (c.if-not-use_up.ensures D modes).0 (c.loop-i.invariant D modes)

pub loop-i-preserved : goal.loop-i-preserved
loop-i-preserved c = λ D modes.
    remains_next (AffineAtom D) (plain_atoms c.args.atoms.now) c.loop-i.i (plain_atom c.index-atoms-i.result) c.args.state.now c.loop-i.state c.use_up.new.state (atom_at c.args.atoms.now c.loop-i.i c.index-atoms-i.result c.loop-i-test.true c.index-atoms-i.is) (c.if-not-use_up.ensures D modes) (c.loop-i.invariant D modes)

pub returns : goal.returns
returns c = λ D modes. remains_done (AffineAtom D) (plain_atoms c.args.atoms.now) c.loop-i.i c.args.state.now c.loop-i.state (atoms_past c.args.atoms.now c.loop-i.i c.loop-i-test.false) (c.loop-i.invariant D modes)
