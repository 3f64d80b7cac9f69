use Rattle.mz_scope.specs.Trees.{sig_tree}
use Rattle.mz_scope.specs.View.{made_of}
use Rattle.mz_scope.proofs.GrowSteps.{sig_grows}
use Rattle.mz_scope.proofs.declarations.add_sig.Goals as goal

pub returns : goal.returns
returns c = λ rest.
    sig_grows c.args.source.now.globals.now c.args.counts.now c.args.program.now rest (sig_tree c.args.source.now.text.now c.args.one.now) c.in_ok-sig.sig c.in_ok-before.before c.in_ok-counts.field-0 c.push.new.self
    (made_of c.args.making.now) (made_of c.signature.new.making) c.in_ok-before.ensures c.in_ok-sig.ensures c.in_ok-counts.ensures c.in_ok-push.ensures.ok
