use Rattle.std.proofs.Common.{sym, ap, ◌∙◌}
use Rattle.std.proofs.lemmas.Bool.{false≢true}
use Rattle.mz_parse.specs.declared.bodies.Comparison.{out-Comparison}
use Rattle.mz_parse.specs.declared.bodies.Sum.{out-Sum}
use Rattle.mz_parse.specs.declared.bodies.Product.{out-Product}
use Rattle.mz_scope.specs.Trees.{expr_tree, primary_tree, product_tree, sum_tree, selected}
use Rattle.mz_scope.specs.Lists.{postfix_tree, factors_on, terms_on}
use Rattle.mz_scope.specs.Kinds.{name_of}
use Rattle.mz_scope.proofs.TreeForms.{group_tree_is, product_tree_is, sum_tree_is, comparison_tree_is}
use Rattle.mz_scope.proofs.PlainNames.{selected_no_name, factors_no_name, terms_no_name, compared_no_name, compared_alone, other_no_name}
use Rattle.mz_scope.proofs.plain.+plain.Goals as goal

pub name_in_primary-returns-in-Group : goal.name_in_primary-returns-in-Group
name_in_primary-returns-in-Group t c bytes =
    c.name_in_expression.ensures bytes ∙ ap (λ e. name_of (expr_tree bytes e)) c.get.ensures
    ∙ ap name_of (sym (group_tree_is bytes c.in-Group.open c.in-Group.inner)) ∙ ap (λ p. name_of (primary_tree bytes p)) (sym c.in-Group.is)

pub name_in_expression-returns-in_default : goal.name_in_expression-returns-in_default
name_in_expression-returns-in_default t c bytes = other_no_name bytes c.args.expression.now c.in_default.not-Plain

pub name_in_comparison-returns-then-is_some : goal.name_in_comparison-returns-then-is_some
name_in_comparison-returns-then-is_some t c bytes =
    let x = c.args.comparison.now in
    compared_no_name bytes (sum_tree bytes (out-Comparison x).left) (out-Comparison x).right (sym c.is_some.ensures ∙ c.if-is_some.true) ∙ ap name_of (sym (comparison_tree_is bytes x))

pub name_in_comparison-returns : goal.name_in_comparison-returns
name_in_comparison-returns t c bytes =
    let x = c.args.comparison.now in
    c.name_in_sum.ensures bytes ∙ compared_alone bytes (sum_tree bytes (out-Comparison x).left) (out-Comparison x).right (sym c.is_some.ensures ∙ c.if-is_some.false) ∙ ap name_of (sym (comparison_tree_is bytes x))

pub name_in_sum-returns-then-not-is_empty : goal.name_in_sum-returns-then-not-is_empty
name_in_sum-returns-then-not-is_empty t c bytes =
    let x = c.args.sum.now in
    terms_no_name bytes (product_tree bytes (out-Sum x).first) (out-Sum x).terms (λ e. false≢true (sym c.if-not-is_empty.true ∙ c.is_empty.ensures.1 e)) ∙ ap name_of (sym (sum_tree_is bytes x))

pub name_in_sum-returns : goal.name_in_sum-returns
name_in_sum-returns t c bytes =
    let x = c.args.sum.now in
    c.name_in_product.ensures bytes ∙ ap (λ l. name_of (terms_on bytes (product_tree bytes (out-Sum x).first) l)) (sym (c.is_empty.ensures.0 c.if-not-is_empty.false)) ∙ ap name_of (sym (sum_tree_is bytes x))

pub name_in_product-returns-then-not-is_empty : goal.name_in_product-returns-then-not-is_empty
name_in_product-returns-then-not-is_empty t c bytes =
    let x = c.args.product.now in
    factors_no_name bytes (postfix_tree bytes (out-Product x).first) (out-Product x).factors (λ e. false≢true (sym c.if-not-is_empty.true ∙ c.is_empty.ensures.1 e)) ∙ ap name_of (sym (product_tree_is bytes x))

pub name_in_product-returns-then-not-is_empty-2 : goal.name_in_product-returns-then-not-is_empty-2
name_in_product-returns-then-not-is_empty-2 t c bytes =
    let x = c.args.product.now in
    let first = (out-Product x).first in
    selected_no_name bytes (primary_tree bytes first.base) first.selects (λ e. false≢true (sym c.if-not-is_empty-2.true ∙ c.is_empty-2.ensures.1 e))
    ∙ ap (λ l. name_of (factors_on bytes (postfix_tree bytes first) l)) (sym (c.is_empty.ensures.0 c.if-not-is_empty.false)) ∙ ap name_of (sym (product_tree_is bytes x))

pub name_in_product-returns : goal.name_in_product-returns
name_in_product-returns t c bytes =
    let x = c.args.product.now in
    let first = (out-Product x).first in
    c.name_in_primary.ensures bytes ∙ ap (λ l. name_of (selected bytes (primary_tree bytes first.base) l)) (sym (c.is_empty-2.ensures.0 c.if-not-is_empty-2.false))
    ∙ ap (λ l. name_of (factors_on bytes (postfix_tree bytes first) l)) (sym (c.is_empty.ensures.0 c.if-not-is_empty.false)) ∙ ap name_of (sym (product_tree_is bytes x))
