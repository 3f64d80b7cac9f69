-- The views of expressions and blocks, by the parts and lists that the code reads: a row is gone over as its list is.
use Rattle.std.proofs.Common.{◌≡◌, ℕ, List, [], ◌∷◌, map, Option, Some, None, option_map, refl, sym, ap, ap₂, ◌∙◌}
use denote.Hole.Carrier
use denote.Hole.Carrier.{listed}
use Rattle.mz_token.specs.declared.token.Token.{Token}
use Rattle.mz_types.specs.declared.tree.SurfaceAtom.{SurfaceAtom}
use Rattle.mz_parse.specs.declared.bodies.Expression.{Expression, If, Match, Spawn, Row_of-Block, end_of-Block, more_of-Block, Row_of-Case, end_of-Case, more_of-Case, items-the_row-Case, items_hidden-the_row-Case-3, Row_of-Expression, end_of-Expression, more_of-Expression, items-the_row-Expression}
use Rattle.mz_parse.specs.declared.bodies.BlockItem.TheBlock as rows
use Rattle.mz_parse.specs.declared.bodies.Block.{Block as CodeBlock, Row_of-BlockItem, end_of-BlockItem, more_of-BlockItem, items-the_row-BlockItem, items_shown-the_row-BlockItem-0, Held-Block-last, Block-last-None', Block-last-Some', view-Block-last}
use Rattle.mz_parse.specs.declared.bodies.Case.{Case as CodeCase}
use Rattle.mz_parse.specs.declared.bodies.Comparison.{Comparison, out-Comparison, is-Comparison', Row_of-Comparing, end_of-Comparing, more_of-Comparing, items-the_row-Comparing, back-Comparison-right}
use Rattle.mz_parse.specs.declared.bodies.Comparing.{Comparing, out-Comparing, is-Comparing'}
use Rattle.mz_parse.specs.declared.bodies.FieldValue.{FieldValue}
use Rattle.mz_parse.specs.declared.bodies.Primary.{Call, Group, Construct, Row_of-FieldValue, end_of-FieldValue, more_of-FieldValue, items-the_row-FieldValue, items_hidden-the_row-FieldValue-6}
use Rattle.mz_parse.specs.declared.bodies.Primary.{items_hidden-the_row-Expression-5}
use Rattle.mz_parse.specs.declared.bodies.Product.{Product, out-Product, is-Product', Row_of-Factor, end_of-Factor, more_of-Factor, items-the_row-Factor, items_hidden-the_row-Factor-8}
use Rattle.mz_parse.specs.declared.bodies.Sum.{Sum, out-Sum, is-Sum', Row_of-Term, end_of-Term, more_of-Term, items-the_row-Term, items_hidden-the_row-Term-9}
use Rattle.mz_parse.specs.declared.bodies.Term.{Term, out-Term, is-Term'}
use Rattle.mz_scope.specs.Syntax.{Expr, Unit_expr, Block, BlockItems, No_items, No_value, Arith_expr, Call_expr, New_expr, If_expr, Match_expr, Spawn_expr, More_exprs, More_values, More_arms, More_items, The_block}
use Rattle.mz_scope.specs.Trees.{word_of, nowhere, operator_in, let_items, value_of, items_of, atom_trees, item_tree, expr_tree, primary_tree, comparison_tree, compared, comparing_row, comparing_tree, sum_tree, term_row, term_tree, product_tree, factor_row, boxed_expr, expr_row, value_row, block_row, case_row, item_row, last_items, last_value, block_tree}
use Rattle.mz_scope.specs.Lists.{postfix_tree, factors_on, terms_on, compared_with, exprs_of, values_of, arms_of}

-- ---- the row of a box has what is in the box alone

boxed_expr_is : (e : Expression) → items-the_row-Expression _ (rows.hidden-the_row-Expression-4 e) ≡ e ∷ []
unfolding rows.hidden-the_row-Expression-4 Carrier.hidden
boxed_expr_is e = ap (listed {X = Expression} 1) {x = rows.view-the_row-Expression 1 (rows.back-the_row-Expression 1 (e, tt))} {y = (e, tt)} (rows.views-the_row-Expression 1 (e, tt))

boxed_block_is : (b : CodeBlock) → rows.items-the_row-Block _ (rows.hidden-the_row-Block-2 b) ≡ b ∷ []
unfolding rows.hidden-the_row-Block-2 Carrier.hidden
boxed_block_is b = ap (listed {X = CodeBlock} 1) {x = rows.view-the_row-Block 1 (rows.back-the_row-Block 1 (b, tt))} {y = (b, tt)} (rows.views-the_row-Block 1 (b, tt))

boxed_comparing_is : (c : Comparing) → items-the_row-Comparing _ (rows.hidden-the_row-Comparing-7 c) ≡ c ∷ []
unfolding rows.hidden-the_row-Comparing-7 Carrier.hidden
boxed_comparing_is c = ap (listed {X = Comparing} 1) {x = rows.view-the_row-Comparing 1 (rows.back-the_row-Comparing 1 (c, tt))} {y = (c, tt)} (rows.views-the_row-Comparing 1 (c, tt))

module _ (bytes : List ℕ) where
  -- ---- rows are their lists, by going along them

  factor_row_is : (m : _) (row : Row_of-Factor m) (left : Expr) → factor_row bytes left row ≡ factors_on bytes left (items-the_row-Factor m row)
  factor_row_is _ end_of-Factor left = refl
  factor_row_is _ (more_of-Factor mark base selects rest) left = factor_row_is _ rest (Arith_expr left (operator_in mark.kind) mark.place (postfix_tree bytes (record { base = base; selects = selects })))

  term_row_is : (m : _) (row : Row_of-Term m) (left : Expr) → term_row bytes left row ≡ terms_on bytes left (items-the_row-Term m row)
  term_row_is _ end_of-Term left = refl
  term_row_is _ (more_of-Term t rest) left = term_row_is _ rest (term_tree bytes left t)

  expr_row_is : (m : _) (row : Row_of-Expression m) → expr_row bytes row ≡ exprs_of bytes (items-the_row-Expression m row)
  expr_row_is _ end_of-Expression = refl
  expr_row_is _ (more_of-Expression e rest) = ap (More_exprs (expr_tree bytes e)) (expr_row_is _ rest)

  value_row_is : (m : _) (row : Row_of-FieldValue m) → value_row bytes row ≡ values_of bytes (items-the_row-FieldValue m row)
  value_row_is _ end_of-FieldValue = refl
  value_row_is _ (more_of-FieldValue field value rest) = ap (More_values (word_of bytes field) (expr_tree bytes value)) (value_row_is _ rest)

  item_row_is : (behind : BlockItems) (m : _) (row : Row_of-BlockItem m) → item_row bytes behind row ≡ items_of bytes (map (item_tree bytes) (items-the_row-BlockItem m row)) behind
  item_row_is behind _ end_of-BlockItem = refl
  item_row_is behind _ (more_of-BlockItem one rest) = ap (More_items (item_tree bytes one)) (item_row_is behind _ rest)

  -- ---- a row of at most one is that one

  abbrev first_expr : List Expression → Expr
  first_expr [] = Unit_expr nowhere
  first_expr (e ∷ rest) = expr_tree bytes e

  boxed_expr_first : (m : _) (row : Row_of-Expression m) → boxed_expr bytes row ≡ first_expr (items-the_row-Expression m row)
  boxed_expr_first _ end_of-Expression = refl
  boxed_expr_first _ (more_of-Expression e rest) = refl

  abbrev first_comparing : Expr → List Comparing → Expr
  first_comparing left [] = left
  first_comparing left (c ∷ rest) = comparing_tree bytes left c

  comparing_first : (left : Expr) (m : _) (row : Row_of-Comparing m) → comparing_row bytes left row ≡ first_comparing left (items-the_row-Comparing m row)
  comparing_first left _ end_of-Comparing = refl
  comparing_first left _ (more_of-Comparing c rest) = refl

  -- ---- blocks

  last_items_is : (last : Held-Block-last) → last_items bytes last ≡ let_items (option_map (item_tree bytes) (view-Block-last last))
  unfolding rows.shown-the_row-BlockItem-1 Carrier.shown
  last_items_is Block-last-None' = refl
  last_items_is (Block-last-Some' shape (more_of-BlockItem one end_of-BlockItem)) = refl

  last_value_is : (last : Held-Block-last) → last_value bytes last ≡ value_of (option_map (item_tree bytes) (view-Block-last last))
  unfolding rows.shown-the_row-BlockItem-1 Carrier.shown
  last_value_is Block-last-None' = refl
  last_value_is (Block-last-Some' shape (more_of-BlockItem one end_of-BlockItem)) = refl

  -- a block by the parts that a row holds
  block_by_row : (shape : _) (row : Row_of-BlockItem _) (last : Held-Block-last) (ends : Token) →
      The_block (item_row bytes (last_items bytes last) row) (last_value bytes last) ends.place
      ≡ The_block (items_of bytes (map (item_tree bytes) (rows.shown-the_row-BlockItem-0 shape row)) (let_items (option_map (item_tree bytes) (view-Block-last last)))) (value_of (option_map (item_tree bytes) (view-Block-last last))) ends.place
  block_by_row shape row last ends = ap₂ (λ all value. The_block all value ends.place)
      (item_row_is (last_items bytes last) _ row
      ∙ ap (λ l. items_of bytes (map (item_tree bytes) l) (last_items bytes last)) (sym (items_shown-the_row-BlockItem-0 shape row))
      ∙ ap (items_of bytes (map (item_tree bytes) (rows.shown-the_row-BlockItem-0 shape row))) (last_items_is last))
      (last_value_is last)

  abbrev first_block : List CodeBlock → Block
  first_block [] = The_block No_items No_value nowhere
  first_block (b ∷ rest) = block_tree bytes b

  block_first : (m : _) (row : Row_of-Block m) → block_row bytes row ≡ first_block (rows.items-the_row-Block m row)
  block_first _ end_of-Block = refl
  block_first _ (more_of-Block begins shape row last ends rest) = block_by_row shape row last ends

  case_row_is : (m : _) (row : Row_of-Case m) → case_row bytes row ≡ arms_of bytes (items-the_row-Case m row)
  case_row_is _ end_of-Case = refl
  case_row_is _ (more_of-Case con begins shape row last ends rest) = ap₂ (More_arms (word_of bytes con)) (block_by_row shape row last ends) (case_row_is _ rest)

  -- ---- the views of what holds rows

  pub product_tree_is : (p : Product) → product_tree bytes p ≡ factors_on bytes (postfix_tree bytes (out-Product p).first) (out-Product p).factors
  product_tree_is p = ap (product_tree bytes) (is-Product' p) ∙ factor_row_is _ (rows.hidden-the_row-Factor-8 (out-Product p).factors) (postfix_tree bytes (out-Product p).first)
      ∙ ap (factors_on bytes (postfix_tree bytes (out-Product p).first)) (items_hidden-the_row-Factor-8 (out-Product p).factors)

  pub sum_tree_is : (s : Sum) → sum_tree bytes s ≡ terms_on bytes (product_tree bytes (out-Sum s).first) (out-Sum s).terms
  sum_tree_is s = ap (sum_tree bytes) (is-Sum' s) ∙ term_row_is _ (rows.hidden-the_row-Term-9 (out-Sum s).terms) (product_tree bytes (out-Sum s).first)
      ∙ ap (terms_on bytes (product_tree bytes (out-Sum s).first)) (items_hidden-the_row-Term-9 (out-Sum s).terms)

  pub term_tree_is : (left : Expr) (t : Term) → term_tree bytes left t ≡ Arith_expr left (operator_in (out-Term t).mark.kind) (out-Term t).mark.place (product_tree bytes (out-Term t).product)
  term_tree_is left t = ap (term_tree bytes left) (is-Term' t)

  pub comparing_tree_is : (left : Expr) (c : Comparing) → comparing_tree bytes left c ≡ Arith_expr left (operator_in (out-Comparing c).mark.kind) (out-Comparing c).mark.place (sum_tree bytes (out-Comparing c).right)
  comparing_tree_is left c = ap (comparing_tree bytes left) (is-Comparing' c)

  compared_back : (left : Expr) (right : Option Comparing) → compared bytes left (back-Comparison-right right) ≡ compared_with bytes left right
  compared_back left None = refl
  compared_back left (Some c) = comparing_first left _ (rows.hidden-the_row-Comparing-7 c) ∙ ap (first_comparing left) (boxed_comparing_is c)

  pub comparison_tree_is : (c : Comparison) → comparison_tree bytes c ≡ compared_with bytes (sum_tree bytes (out-Comparison c).left) (out-Comparison c).right
  comparison_tree_is c = ap (comparison_tree bytes) (is-Comparison' c) ∙ compared_back (sum_tree bytes (out-Comparison c).left) (out-Comparison c).right

  pub call_tree_is : (callee : Token) (arguments : List Expression) → primary_tree bytes (Call callee arguments) ≡ Call_expr (word_of bytes callee) (exprs_of bytes arguments)
  call_tree_is callee arguments = ap (Call_expr (word_of bytes callee)) (expr_row_is _ (rows.hidden-the_row-Expression-5 arguments) ∙ ap (exprs_of bytes) (items_hidden-the_row-Expression-5 arguments))

  boxed_tree : (e : Expression) → boxed_expr bytes (rows.hidden-the_row-Expression-4 e) ≡ expr_tree bytes e
  boxed_tree e = boxed_expr_first _ (rows.hidden-the_row-Expression-4 e) ∙ ap first_expr (boxed_expr_is e)

  pub group_tree_is : (bracket : Token) (inner : Expression) → primary_tree bytes (Group bracket inner) ≡ expr_tree bytes inner
  group_tree_is bracket inner = boxed_tree inner

  pub construct_tree_is : (con : Token) (fields : List FieldValue) → primary_tree bytes (Construct con fields) ≡ New_expr (word_of bytes con) (values_of bytes fields)
  construct_tree_is con fields = ap (New_expr (word_of bytes con)) (value_row_is _ (rows.hidden-the_row-FieldValue-6 fields) ∙ ap (values_of bytes) (items_hidden-the_row-FieldValue-6 fields))

  boxed_block : (b : CodeBlock) → block_row bytes (rows.hidden-the_row-Block-2 b) ≡ block_tree bytes b
  boxed_block b = block_first _ (rows.hidden-the_row-Block-2 b) ∙ ap first_block (boxed_block_is b)

  pub if_tree_is : (key : Token) (test : Comparison) (one two : CodeBlock) (giving : List SurfaceAtom) → expr_tree bytes (If key test one two giving) ≡ If_expr key.place (comparison_tree bytes test) (block_tree bytes one) (block_tree bytes two) (atom_trees bytes giving)
  if_tree_is key test one two giving = ap₂ (λ a b. If_expr key.place (comparison_tree bytes test) a b (atom_trees bytes giving)) (boxed_block one) (boxed_block two)

  pub match_tree_is : (key name : Token) (cases : List CodeCase) (giving : List SurfaceAtom) → expr_tree bytes (Match key name cases giving) ≡ Match_expr key.place (word_of bytes name) (arms_of bytes cases) (atom_trees bytes giving)
  match_tree_is key name cases giving = ap (λ a. Match_expr key.place (word_of bytes name) a (atom_trees bytes giving)) (case_row_is _ (rows.hidden-the_row-Case-3 cases) ∙ ap (arms_of bytes) (items_hidden-the_row-Case-3 cases))

  pub spawn_tree_is : (key callee : Token) (argument : Expression) → expr_tree bytes (Spawn key callee argument) ≡ Spawn_expr key.place (word_of bytes callee) (expr_tree bytes argument)
  spawn_tree_is key callee argument = ap (Spawn_expr key.place (word_of bytes callee)) (boxed_tree argument)
