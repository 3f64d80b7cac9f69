use Rattle.std.proofs.Common.{refl}
use Rattle.mz_tree.specs.View.{plain_atom, plain_atoms}
use Rattle.mz_decl.specs.View.{plain_decls}
use Rattle.mz_lockrule.proofs.Answering.{releases_answer}
use Rattle.mz_lockrule.proofs.release.release.Goals as goal

pub returns : goal.returns
returns c = releases_answer (plain_decls c.args.decls.now) c.args.state.now c.spend.new.state (plain_atoms c.in-Some.guarded.now) (plain_atoms c.in_ok-wanted.wanted) c.args.to c.args.lock (plain_atom c.args.atom.now) c.spend.result
    c.in_ok-wanted.ensures c.in-Some.ensures (c.if-not-has.ensures.0 refl) (c.spend.ensures (plain_decls c.args.decls.now) c.requires)
