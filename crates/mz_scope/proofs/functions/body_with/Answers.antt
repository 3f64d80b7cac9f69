use Rattle.std.proofs.Common.{◌≡◌, map, subst}
use Rattle.mz_tree.specs.View.{plain_body}
use Rattle.mz_scope.specs.Names.{numbered}
use Rattle.mz_scope.specs.Making.{Came_to}
use Rattle.mz_scope.specs.Bodies.{flat_block}
use Rattle.mz_scope.specs.Tables.{param_word}
use Rattle.mz_scope.specs.Trees.{block_tree}
use Rattle.mz_scope.specs.View.{made_of, core_name_of}
use Rattle.mz_scope.proofs.FunSteps.{with_params_came}
use Rattle.mz_scope.proofs.functions.body_with.Goals as goal

pub returns : goal.returns
returns c =
    let g = c.args.source.now.globals.now in
    let params = map param_word c.args.params.now in
    let tree = block_tree c.args.source.now.text.now c.args.written.now in
    let m1 = made_of c.begin.new.making in
    let m2 = made_of c.block.new.making in
    with_params_came params (flat_block g (numbered 0 params) tree) (map core_name_of c.in_ok-names.names) (map core_name_of c.end-names.result) (plain_body c.in_ok-body.body) (made_of c.args.making.now) m1 m2 (made_of c.end-names.new.making)
    c.in_ok-names.ensures c.begin.ensures (subst (λ s. flat_block g s tree m1 ≡ Came_to (plain_body c.in_ok-body.body) m2) c.in_ok-scope.ensures c.in_ok-body.ensures) c.end-names.ensures.0 c.end-names.ensures.1
