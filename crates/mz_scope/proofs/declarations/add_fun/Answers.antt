use Rattle.mz_scope.specs.Trees.{fun_tree}
use Rattle.mz_scope.specs.View.{made_of}
use Rattle.mz_scope.proofs.GrowSteps.{fun_grows}
use Rattle.mz_scope.proofs.declarations.add_fun.Goals as goal

pub returns : goal.returns
returns c = λ rest.
    fun_grows c.args.source.now.globals.now c.args.counts.now c.args.program.now rest (fun_tree c.args.source.now.text.now c.args.one.now) c.in_ok-fun.fun c.in_ok-counts.field-0 c.push.new.self
    (made_of c.args.making.now) (made_of c.function.new.making) c.in_ok-fun.ensures c.in_ok-counts.ensures c.in_ok-push.ensures.ok
