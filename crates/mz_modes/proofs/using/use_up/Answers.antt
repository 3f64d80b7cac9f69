use Rattle.mz_tree.specs.View.{plain_atom}
use Rattle.mz_modes.specs.Affine.{AffineAtom}
use Rattle.mz_modes.proofs.UsedUp.{used_gone}
use Rattle.mz_modes.proofs.using.use_up.Goals as goal

pub returns : goal.returns
returns c = λ D modes. used_gone (AffineAtom D) c.remove.result (plain_atom c.args.atom.now) c.args.state.now c.remove.new.self (c.if-duplicable.ensures D modes) c.remove.ensures
