-- The trees of sums, products and comparisons by the parts and lists that the code reads: a row is gone over as its list is.
use Rattle.std.proofs.Common.{◌≡◌, ℕ, List, [], ◌∷◌, Option, Some, None, refl, ap, ◌∙◌}
use Rattle.mz_parse.specs.declared.bodies.BlockItem.TheBlock as rows
use Rattle.mz_parse.specs.declared.bodies.Comparison.{Comparison, out-Comparison, is-Comparison', back-Comparison-right}
use Rattle.mz_parse.specs.declared.bodies.Comparing.{Comparing}
use Rattle.mz_parse.specs.declared.bodies.Product.{Product, out-Product, is-Product', Row_of-Factor, end_of-Factor, more_of-Factor, items-the_row-Factor, items_hidden-the_row-Factor-8}
use Rattle.mz_parse.specs.declared.bodies.Sum.{Sum, out-Sum, is-Sum', Row_of-Term, end_of-Term, more_of-Term, items-the_row-Term, items_hidden-the_row-Term-9}
use Rattle.mz_parse.specs.declared.bodies.Term.{Term, out-Term, is-Term'}
use Rattle.mz_scope.specs.Syntax.{Expr, Arith_expr}
use Rattle.mz_scope.specs.Trees.{selected, primary_tree, comparison_tree, compared, sum_tree, term_row, term_tree, product_tree, factor_row, operator_in}

module _ (bytes : List ℕ) where
  -- a row without a member adds nothing
  no_factors : (left : Expr) (m : _) (row : Row_of-Factor m) → items-the_row-Factor m row ≡ [] → factor_row bytes left row ≡ left
  no_factors left _ end_of-Factor none = refl
  no_factors left _ (more_of-Factor mark base selects rest) none = cc

  abbrev terms_on : Expr → List Term → Expr
  terms_on left [] = left
  terms_on left (t ∷ rest) = terms_on (term_tree bytes left t) rest

  term_row_is : (m : _) (row : Row_of-Term m) (left : Expr) → term_row bytes left row ≡ terms_on left (items-the_row-Term m row)
  term_row_is _ end_of-Term left = refl
  term_row_is _ (more_of-Term t rest) left = term_row_is _ rest (term_tree bytes left t)

  -- a product without factors is its first part
  pub product_is : (p : Product) → (out-Product p).factors ≡ [] → product_tree bytes p ≡ selected bytes (primary_tree bytes (out-Product p).first.base) (out-Product p).first.selects
  product_is p none = ap (product_tree bytes) (is-Product' p) ∙ no_factors _ _ (rows.hidden-the_row-Factor-8 (out-Product p).factors) (items_hidden-the_row-Factor-8 (out-Product p).factors ∙ none)

  sum_tree_is : (s : Sum) → sum_tree bytes s ≡ terms_on (product_tree bytes (out-Sum s).first) (out-Sum s).terms
  sum_tree_is s = ap (sum_tree bytes) (is-Sum' s) ∙ term_row_is _ (rows.hidden-the_row-Term-9 (out-Sum s).terms) (product_tree bytes (out-Sum s).first)
      ∙ ap (terms_on (product_tree bytes (out-Sum s).first)) (items_hidden-the_row-Term-9 (out-Sum s).terms)

  -- a sum of no terms is its first product
  pub sum_is : (s : Sum) → (out-Sum s).terms ≡ [] → sum_tree bytes s ≡ product_tree bytes (out-Sum s).first
  sum_is s none = sum_tree_is s ∙ ap (terms_on (product_tree bytes (out-Sum s).first)) none

  -- a sum of one more is their sum
  pub pair_is : (s : Sum) (t : Term) → (out-Sum s).terms ≡ t ∷ [] → sum_tree bytes s ≡ Arith_expr (product_tree bytes (out-Sum s).first) (operator_in (out-Term t).mark.kind) (out-Term t).mark.place (product_tree bytes (out-Term t).product)
  pair_is s t one = sum_tree_is s ∙ ap (terms_on (product_tree bytes (out-Sum s).first)) one ∙ ap (term_tree bytes (product_tree bytes (out-Sum s).first)) (is-Term' t)

  compared_back : (left : Expr) (right : Option Comparing) → right ≡ None → compared bytes left (back-Comparison-right right) ≡ left
  compared_back left None none = refl
  compared_back left (Some c) none = cc

  -- what is compared with nothing is itself
  pub comparison_is : (c : Comparison) → (out-Comparison c).right ≡ None → comparison_tree bytes c ≡ sum_tree bytes (out-Comparison c).left
  comparison_is c none = ap (comparison_tree bytes) (is-Comparison' c) ∙ compared_back (sum_tree bytes (out-Comparison c).left) (out-Comparison c).right none
