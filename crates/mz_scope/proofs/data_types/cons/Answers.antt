use Rattle.std.proofs.Common.{◌≡◌, ◌+◌, drop, map, refl, subst, arith}
use Rattle.mz_tree.specs.View.{plain_con}
use Rattle.mz_scope.specs.Making.{Came_to}
use Rattle.mz_scope.specs.Declarations.{cons_from}
use Rattle.mz_scope.specs.Members.{one_con}
use Rattle.mz_scope.specs.Trees.{con_tree}
use Rattle.mz_scope.specs.View.{made_of}
use Rattle.mz_scope.proofs.Lists.{list_end, seen_more}
use Rattle.mz_scope.proofs.Walks.{list_walk}
use Rattle.mz_scope.proofs.Members.{cons_more}
use Rattle.mz_scope.proofs.data_types.cons.Goals as goal

pub loop-i-preserved : goal.loop-i-preserved
loop-i-preserved c =
    let g = c.args.source.now.globals.now in
    let bytes = c.args.source.now.text.now in
    let d = c.args.variety in
    let first = c.args.first in
    let all = c.args.all.now in
    let i = c.loop-i.i in
    let m = made_of c.loop-i.making in
    let m1 = made_of c.con.new.making in
    let one = c.in_ok-con.field-0 in
    list_walk (λ l. cons_from g d (first + i) (map (con_tree bytes) l)) (λ l. cons_from g d (first + (i + 1)) (map (con_tree bytes) l)) all i c.index-all-i.result (map plain_con c.loop-i.cons) (map plain_con c.push.new.self) (plain_con one) _ m m1
    c.loop-i.invariant (omega arith) c.index-all-i.is
    (cons_more g d (first + i) (first + (i + 1)) (con_tree bytes c.index-all-i.result) (map (con_tree bytes) (drop (i + 1) all)) (plain_con one) m m1 (omega arith)
    (subst (λ n. one_con g d n (con_tree bytes c.index-all-i.result) m ≡ Came_to (plain_con one) m1) c.in_ok-after.ensures c.in_ok-con.ensures))
    (seen_more plain_con c.loop-i.cons c.push.new.self one c.in_ok-push.ensures.ok)

pub returns : goal.returns
returns c =
    let g = c.args.source.now.globals.now in
    let bytes = c.args.source.now.text.now in
    list_end (λ l. cons_from g c.args.variety (c.args.first + c.loop-i.i) (map (con_tree bytes) l)) c.args.all.now c.loop-i.i (map plain_con c.loop-i.cons) _ (made_of c.loop-i.making) refl c.loop-i.invariant (omega arith)
