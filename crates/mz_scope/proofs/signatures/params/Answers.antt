use Rattle.std.proofs.Common.{◌≡◌, ◌+◌, drop, map, refl, subst, arith}
use Rattle.mz_tree.specs.View.{plain_need}
use Rattle.mz_scope.specs.Making.{Came_to}
use Rattle.mz_scope.specs.Declarations.{params_from}
use Rattle.mz_scope.specs.Members.{one_param}
use Rattle.mz_scope.specs.Trees.{param_tree}
use Rattle.mz_scope.specs.View.{made_of}
use Rattle.mz_scope.proofs.Lists.{list_end, seen_more}
use Rattle.mz_scope.proofs.Walks.{list_walk}
use Rattle.mz_scope.proofs.Members.{params_more}
use Rattle.mz_scope.proofs.signatures.params.Goals as goal

pub loop-i-preserved : goal.loop-i-preserved
loop-i-preserved c =
    let g = c.args.source.now.globals.now in
    let bytes = c.args.source.now.text.now in
    let scope = c.args.scope.now in
    let all = c.args.all.now in
    let i = c.loop-i.i in
    let m = made_of c.loop-i.making in
    let m1 = made_of c.param.new.making in
    let one = c.in_ok-param.field-0 in
    list_walk (λ l. params_from g scope i (map (param_tree bytes) l)) (λ l. params_from g scope (i + 1) (map (param_tree bytes) l)) all i c.index-all-i.result (map plain_need c.loop-i.needs) (map plain_need c.push.new.self) (plain_need one) _ m m1
    c.loop-i.invariant (omega arith) c.index-all-i.is
    (params_more g scope i (param_tree bytes c.index-all-i.result) (map (param_tree bytes) (drop (i + 1) all)) (plain_need one) m m1
    (subst (λ n. one_param g scope n (param_tree bytes c.index-all-i.result) m ≡ Came_to (plain_need one) m1) c.in_ok-number.ensures c.in_ok-param.ensures))
    (seen_more plain_need c.loop-i.needs c.push.new.self one c.in_ok-push.ensures.ok)

pub returns : goal.returns
returns c =
    let g = c.args.source.now.globals.now in
    let bytes = c.args.source.now.text.now in
    let scope = c.args.scope.now in
    list_end (λ l. params_from g scope c.loop-i.i (map (param_tree bytes) l)) c.args.all.now c.loop-i.i (map plain_need c.loop-i.needs) _ (made_of c.loop-i.making) refl c.loop-i.invariant (omega arith)
