use Rattle.std.proofs.Common.{◌+◌, drop, map, refl, arith}
use Rattle.mz_tree.specs.View.{plain_need}
use Rattle.mz_scope.specs.Declarations.{needs_of}
use Rattle.mz_scope.specs.Trees.{need_tree}
use Rattle.mz_scope.specs.View.{made_of}
use Rattle.mz_scope.proofs.Lists.{list_end, seen_more}
use Rattle.mz_scope.proofs.Walks.{list_walk}
use Rattle.mz_scope.proofs.Members.{needs_more}
use Rattle.mz_scope.proofs.signatures.needs.Goals as goal

pub loop-i-preserved : goal.loop-i-preserved
loop-i-preserved c =
    let g = c.args.source.now.globals.now in
    let bytes = c.args.source.now.text.now in
    let scope = c.args.scope.now in
    let all = c.args.all.now in
    let i = c.loop-i.i in
    let m = made_of c.loop-i.making in
    let m1 = made_of c.need.new.making in
    let one = c.in_ok-need.field-0 in
    list_walk (λ l. needs_of g scope (map (need_tree bytes) l)) (λ l. needs_of g scope (map (need_tree bytes) l)) all i c.index-all-i.result (map plain_need c.loop-i.needs) (map plain_need c.push.new.self) (plain_need one) _ m m1
    c.loop-i.invariant (omega arith) c.index-all-i.is
    (needs_more g scope (need_tree bytes c.index-all-i.result) (map (need_tree bytes) (drop (i + 1) all)) (plain_need one) m m1 c.in_ok-need.ensures)
    (seen_more plain_need c.loop-i.needs c.push.new.self one c.in_ok-push.ensures.ok)

pub returns : goal.returns
returns c =
    let g = c.args.source.now.globals.now in
    let bytes = c.args.source.now.text.now in
    let scope = c.args.scope.now in
    list_end (λ l. needs_of g scope (map (need_tree bytes) l)) c.args.all.now c.loop-i.i (map plain_need c.loop-i.needs) _ (made_of c.loop-i.making) refl c.loop-i.invariant (omega arith)
