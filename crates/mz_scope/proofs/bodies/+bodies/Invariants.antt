use Rattle.std.proofs.Common.{◌≡◌, [], drop, take, map}
use Rattle.std.specs.Prelude.{reverse}
use Rattle.std.specs.Option.{option_copied}
use Rattle.mz_tree.specs.View.{plain_cases}
use Rattle.mz_parse.specs.declared.bodies.Product.{out-Product}
use Rattle.mz_parse.specs.declared.bodies.Sum.{out-Sum}
use Rattle.mz_scope.specs.Syntax.{BlockItems}
use Rattle.mz_scope.specs.Making.{Came_to}
use Rattle.mz_scope.specs.Bodies.{flat_expression, flat_expressions, flat_values, flat_cases, flat_items}
use Rattle.mz_scope.specs.Trees.{selected, primary_tree, product_tree, item_tree, items_of}
use Rattle.mz_scope.specs.Lists.{postfix_tree, factors_on, terms_on, exprs_of, values_of, arms_of}
use Rattle.mz_scope.specs.View.{made_of}
use Rattle.mz_scope.proofs.Lists.{with_front}
use Rattle.mz_scope.proofs.bodies.+bodies.Given as goal

abbrev pub invariant-postfix-loop-i : goal.invariant-postfix-loop-i
invariant-postfix-loop-i l = flat_expression l.source.globals.now l.scope (selected l.source.text.now (primary_tree l.source.text.now l.base) (take l.i l.selects)) (made_of l.fn.making) ≡ Came_to l.value (made_of l.making)

abbrev pub invariant-product-loop-i : goal.invariant-product-loop-i
invariant-product-loop-i l = flat_expression l.source.globals.now l.scope (factors_on l.source.text.now (postfix_tree l.source.text.now (out-Product l.product).first) (take l.i l.factors)) (made_of l.fn.making) ≡ Came_to l.left (made_of l.making)

abbrev pub invariant-sum-loop-i : goal.invariant-sum-loop-i
invariant-sum-loop-i l = flat_expression l.source.globals.now l.scope (terms_on l.source.text.now (product_tree l.source.text.now (out-Sum l.sum).first) (take l.i l.terms)) (made_of l.fn.making) ≡ Came_to l.left (made_of l.making)

abbrev pub invariant-expressions-loop-i : goal.invariant-expressions-loop-i
invariant-expressions-loop-i l = flat_expressions l.source.globals.now l.scope (exprs_of l.source.text.now l.all) (made_of l.fn.making)
    ≡ with_front l.values (flat_expressions l.source.globals.now l.scope (exprs_of l.source.text.now (drop l.i l.all)) (made_of l.making))

abbrev pub invariant-values-loop-i : goal.invariant-values-loop-i
invariant-values-loop-i l = flat_values l.source.globals.now l.scope (option_copied l.con) (values_of l.source.text.now l.fields) (made_of l.fn.making)
    ≡ with_front l.written (flat_values l.source.globals.now l.scope (option_copied l.con) (values_of l.source.text.now (drop l.i l.fields)) (made_of l.making))

abbrev pub invariant-cases-loop-i : goal.invariant-cases-loop-i
invariant-cases-loop-i l = flat_cases l.source.globals.now l.scope l.variety [] (arms_of l.source.text.now l.all) (made_of l.fn.making)
    ≡ with_front (plain_cases l.cases) (flat_cases l.source.globals.now l.scope l.variety (reverse l.earlier) (arms_of l.source.text.now (drop l.i l.all)) (made_of l.making))

abbrev pub invariant-items-loop-i : goal.invariant-items-loop-i
invariant-items-loop-i l = (behind : BlockItems) → flat_items l.source.globals.now l.fn.scope (items_of l.source.text.now (map (item_tree l.source.text.now) l.all) behind) (made_of l.fn.making)
    ≡ flat_items l.source.globals.now l.scope (items_of l.source.text.now (map (item_tree l.source.text.now) (drop l.i l.all)) behind) (made_of l.making)
