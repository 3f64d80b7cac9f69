use Rattle.std.proofs.Common.{◌≡◌, ◌+◌, map, sym, ap, ◌∙◌, subst}
use Rattle.std.proofs.lemmas.List.{length-map}
use Rattle.mz_tree.specs.View.{plain_con}
use Rattle.mz_scope.specs.Making.{Came_to}
use Rattle.mz_scope.specs.Declarations.{cons_from}
use Rattle.mz_scope.specs.Trees.{con_tree, data_tree}
use Rattle.mz_scope.specs.View.{made_of}
use Rattle.mz_scope.proofs.GrowSteps.{data_grows}
use Rattle.mz_scope.proofs.declarations.add_data.Goals as goal

pub returns : goal.returns
returns c = λ rest.
    let g = c.args.source.now.globals.now in
    let bytes = c.args.source.now.text.now in
    let one = c.args.one.now in
    let n = c.args.counts.now in
    let m1 = made_of c.data_type.new.making in
    let m2 = made_of c.cons.new.making in
    data_grows g n c.args.program.now rest (data_tree bytes one) c.in_ok-variety.variety c.in_ok-cons.cons c.in_ok-before.before c.in_ok-counts.field-0 c.in_ok-counts-2.field-0 c.push.new.self c.append.new.self (made_of c.args.making.now) m1 m2
    c.in_ok-before.ensures c.in_ok-variety.ensures
    (subst (λ l. cons_from g n.varieties n.cons (map (con_tree bytes) l) m1 ≡ Came_to (map plain_con c.in_ok-cons.cons) m2) c.as_slice.ensures c.in_ok-cons.ensures)
    c.in_ok-counts.ensures
    (c.in_ok-counts-2.ensures ∙ ap (λ k. n.cons + k) (c.len.ensures ∙ sym (length-map one.cons (con_tree bytes))))
    c.in_ok-push.ensures.ok c.in_ok-append.ensures
