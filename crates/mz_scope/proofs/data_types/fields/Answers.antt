use Rattle.std.proofs.Common.{◌≡◌, ◌+◌, drop, map, refl, subst, arith}
use Rattle.mz_tree.specs.View.{plain_field}
use Rattle.mz_scope.specs.Making.{Came_to}
use Rattle.mz_scope.specs.Declarations.{fields_from}
use Rattle.mz_scope.specs.Members.{one_field}
use Rattle.mz_scope.specs.Trees.{field_tree}
use Rattle.mz_scope.specs.View.{made_of}
use Rattle.mz_scope.proofs.Lists.{list_end, seen_more}
use Rattle.mz_scope.proofs.Walks.{list_walk}
use Rattle.mz_scope.proofs.Members.{fields_more}
use Rattle.mz_scope.proofs.data_types.fields.Goals as goal

pub loop-i-preserved : goal.loop-i-preserved
loop-i-preserved c =
    let g = c.args.source.now.globals.now in
    let bytes = c.args.source.now.text.now in
    let scope = c.args.scope.now in
    let all = c.args.all.now in
    let i = c.loop-i.i in
    let m = made_of c.loop-i.making in
    let m1 = made_of c.field.new.making in
    let one = c.in_ok-field.field-0 in
    list_walk (λ l. fields_from g scope i (map (field_tree bytes) l)) (λ l. fields_from g scope (i + 1) (map (field_tree bytes) l)) all i c.index-all-i.result (map plain_field c.loop-i.fields) (map plain_field c.push.new.self) (plain_field one) _ m m1
    c.loop-i.invariant (omega arith) c.index-all-i.is
    (fields_more g scope i (field_tree bytes c.index-all-i.result) (map (field_tree bytes) (drop (i + 1) all)) (plain_field one) m m1
    (subst (λ n. one_field g scope n (field_tree bytes c.index-all-i.result) m ≡ Came_to (plain_field one) m1) c.in_ok-number.ensures c.in_ok-field.ensures))
    (seen_more plain_field c.loop-i.fields c.push.new.self one c.in_ok-push.ensures.ok)

pub returns : goal.returns
returns c =
    let g = c.args.source.now.globals.now in
    let bytes = c.args.source.now.text.now in
    let scope = c.args.scope.now in
    list_end (λ l. fields_from g scope c.loop-i.i (map (field_tree bytes) l)) c.args.all.now c.loop-i.i (map plain_field c.loop-i.fields) _ (made_of c.loop-i.making) refl c.loop-i.invariant (omega arith)
