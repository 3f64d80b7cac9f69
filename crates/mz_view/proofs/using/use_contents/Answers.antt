use Rattle.std.proofs.Common.{map}
use Rattle.mz_tree.specs.View.{plain_atom, plain_field}
use Rattle.mz_decl.specs.View.{plain_decls}
use Rattle.mz_modes.specs.Affine.{AffineAtom}
use Rattle.mz_perm.proofs.Remaining.{remains_all, remains_next, remains_refused, remains_done}
use Rattle.mz_decl.specs.Contents.{contents}
use Rattle.mz_view.proofs.Listed.{content_at, contents_past}
use Rattle.mz_view.proofs.using.use_contents.Goals as goal

pub returns-then-not-use_up : goal.returns-then-not-use_up
returns-then-not-use_up c = remains_refused (AffineAtom (plain_decls c.args.decls.now)) (contents c.args.names.now (map plain_field c.args.fields.now)) c.loop-i.i (plain_atom c.in_ok-part.part) c.args.state.now c.loop-i.state (content_at c.args.names.now c.args.fields.now c.loop-i.i c.index-fields-i.result (plain_atom c.in_ok-part.part) c.loop-i-test.true c.in_ok-part.ensures) (c.if-not-use_up.ensures (plain_decls c.args.decls.now) c.requires).0 c.loop-i.invariant

pub loop-i-preserved : goal.loop-i-preserved
loop-i-preserved c = remains_next (AffineAtom (plain_decls c.args.decls.now)) (contents c.args.names.now (map plain_field c.args.fields.now)) c.loop-i.i (plain_atom c.in_ok-part.part) c.args.state.now c.loop-i.state c.use_up.new.state (content_at c.args.names.now c.args.fields.now c.loop-i.i c.index-fields-i.result (plain_atom c.in_ok-part.part) c.loop-i-test.true c.in_ok-part.ensures) (c.if-not-use_up.ensures (plain_decls c.args.decls.now) c.requires) c.loop-i.invariant

pub loop-i-init : goal.loop-i-init
loop-i-init c = remains_all (AffineAtom (plain_decls c.args.decls.now)) (contents c.args.names.now (map plain_field c.args.fields.now)) c.args.state.now

pub returns : goal.returns
returns c = remains_done (AffineAtom (plain_decls c.args.decls.now)) (contents c.args.names.now (map plain_field c.args.fields.now)) c.loop-i.i c.args.state.now c.loop-i.state (contents_past c.args.names.now c.args.fields.now c.loop-i.i c.loop-i-test.false) c.loop-i.invariant
