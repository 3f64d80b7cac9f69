use Rattle.mz_tree.specs.View.{plain_atom, plain_atoms}
use Rattle.mz_elab.proofs.Shared.{no_share_outer, share_affine, share_spare, put_end}
use Rattle.mz_elab.proofs.sharing.share_one.Goals as goal

pub returns-then-not-atom_names : goal.returns-then-not-atom_names
returns-then-not-atom_names c = λ D names R m o. no_share_outer D c.args.outer.now names R (plain_atom c.args.atom.now) c.atom_names.result c.args.ends.now (plain_atoms c.args.join.now) c.if-not-atom_names.true o c.atom_names.ensures

pub returns-then-duplicable : goal.returns-then-duplicable
returns-then-duplicable c = λ D names R m o. share_spare D c.args.outer.now names R (plain_atom c.args.atom.now) c.atom_names.result c.in_all.result c.duplicable.result c.args.ends.now (plain_atoms c.args.join.now) (plain_atoms c.push.new.self) c.if-not-atom_names.false c.if-not-in_all.false c.if-duplicable.true o c.atom_names.ensures c.in_all.ensures (c.duplicable.ensures D m) (put_end c.args.join.now c.push.new.self c.in_ok-more.more c.args.atom.now c.in_ok-push.ensures.ok c.in_ok-more.ensures)

pub returns : goal.returns
returns c = λ D names R m o. share_affine D c.args.outer.now names R (plain_atom c.args.atom.now) c.atom_names.result c.in_all.result c.duplicable.result c.args.ends.now c.take_out_all.new.ends (plain_atoms c.args.join.now) (plain_atoms c.push-2.new.self) c.if-not-atom_names.false c.if-not-in_all.false c.if-duplicable.false o c.atom_names.ensures c.in_all.ensures (c.duplicable.ensures D m) c.take_out_all.ensures (put_end c.args.join.now c.push-2.new.self c.in_ok-more.more c.args.atom.now c.in_ok-push-2.ensures.ok c.in_ok-more.ensures)
