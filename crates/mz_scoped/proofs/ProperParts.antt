-- The trees of expressions and blocks are proper where their parts are: part by part, and list by list.
use Rattle.std.proofs.Common.{◌≡◌, ◌≢◌, ℕ, List, [], ◌∷◌, map, Option, Some, None, option_map, IfSome, refl, sym, ap, subst, ◌∙◌}
use Rattle.mz_tree.specs.declared.types.Place.{Place}
use Rattle.mz_token.specs.declared.token.Token.{Token}
use Rattle.mz_parse.specs.declared.bodies.BlockItem.{BlockItem as CodeItem}
use Rattle.mz_parse.specs.declared.bodies.Case.{Case as CodeCase}
use Rattle.mz_parse.specs.declared.bodies.Comparing.{Comparing, out-Comparing, out-roll-Comparing}
use Rattle.mz_parse.specs.declared.bodies.Comparison.{out-roll-Comparison}
use Rattle.mz_parse.specs.declared.bodies.Expression.{Expression}
use Rattle.mz_parse.specs.declared.bodies.Factor.{Factor}
use Rattle.mz_parse.specs.declared.bodies.FieldValue.{FieldValue}
use Rattle.mz_parse.specs.declared.bodies.Postfix.{Postfix}
use Rattle.mz_parse.specs.declared.bodies.Product.{Product, out-roll-Product}
use Rattle.mz_parse.specs.declared.bodies.Select.{Select as CodeSelect}
use Rattle.mz_parse.specs.declared.bodies.Sum.{Sum, out-roll-Sum}
use Rattle.mz_parse.specs.declared.bodies.Term.{Term, out-Term, out-roll-Term}
use Rattle.mz_parse.specs.Trees.{comparison_of, comparing_of, sum_of, term_of, product_of, block_of}
use Rattle.mz_tree.specs.Shapes.{Lower_shape}
use Rattle.mz_scope.specs.Syntax.{Expr, Arith_expr, Read_expr, BlockItem, Let_item, Plain_item, BlockItems, No_arms}
use Rattle.mz_scope.specs.Trees.{operator_in, select_of, selected, write_to, let_item, let_items, item_value, value_of, items_of, item_tree, expr_tree, comparison_tree, sum_tree, term_tree, product_tree, block_tree}
use Rattle.mz_scope.specs.Lists.{postfix_tree, factors_on, terms_on, compared_with, exprs_of, values_of, arms_of}
use Rattle.mz_scope.proofs.TreeForms.{product_tree_is, sum_tree_is, term_tree_is, comparing_tree_is, comparison_tree_is}
use Rattle.mz_tree.specs.Scoped.{IsLowerName}
use Rattle.mz_scoped.proofs.Proper.{AllOf, IsProperExpr, AreProperExprs, AreProperValues, IsProperBlock, IsProperItem, AreProperItems, IsProperValue, AreProperArms}

-- ---- lists

-- what holds of each member within a bound holds of each, where the bound is kept
pub all_within : {A X : Type 0} (P : A → Type 0) → X → (members : List A) → AllOf (λ a. X → P a) members → AllOf P members
all_within P x [] h = tt
all_within P x (a ∷ members) h = (h.0 x, all_within P x members h.1)

-- the same of what is perhaps there
pub if_within : {A X : Type 0} (P : A → Type 0) → X → (o : Option A) → IfSome o (λ a. X → P a) → IfSome o P
if_within P x None h = tt
if_within P x (Some a) h = h x

-- a lower name has a byte
pub not_empty : (text : List ℕ) → IsLowerName text → text ≢ []
not_empty [] low = (let none : None ≡ Some Lower_shape = low.lower in absurd cc)
not_empty (b ∷ text) low = λ e. cc

module _ (bytes : List ℕ) where
  -- ---- selects

  -- selects read from what is proper
  pub selected_proper : (e : Expr) (selects : List CodeSelect) → IsProperExpr e → IsProperExpr (selected bytes e selects)
  selected_proper e [] h = h
  selected_proper e (s ∷ rest) h = selected_proper (Read_expr e (select_of bytes s)) rest h

  -- a write has a proper block and a proper value, by going along the selects
  pub write_proper : (e : Expr) (selects : List CodeSelect) (place : Place) (value : Expr) → IsProperExpr e → IsProperExpr value → IsProperExpr (write_to bytes e selects place value)
  write_proper e [] place value h v = tt
  write_proper e (s ∷ []) place value h v = (h, v)
  write_proper e (s ∷ t ∷ rest) place value h v = write_proper (Read_expr e (select_of bytes s)) (t ∷ rest) place value h v

  -- ---- operators

  -- what stands behind a mark of a factor, a term, a comparison
  abbrev pub IsProperFactor : Factor → Type 0
  IsProperFactor f = IsProperExpr (postfix_tree bytes f.part)

  -- likewise
  abbrev pub IsProperTerm : Term → Type 0
  IsProperTerm t = IsProperExpr (product_tree bytes (out-Term t).product)

  -- likewise
  abbrev pub IsProperComparing : Comparing → Type 0
  IsProperComparing c = IsProperExpr (sum_tree bytes (out-Comparing c).right)

  -- factor by factor
  factors_proper : (left : Expr) (factors : List Factor) → IsProperExpr left → AllOf IsProperFactor factors → IsProperExpr (factors_on bytes left factors)
  factors_proper left [] h all = h
  factors_proper left (f ∷ rest) h all = factors_proper (Arith_expr left (operator_in f.mark.kind) f.mark.place (postfix_tree bytes f.part)) rest (h, all.0) all.1

  -- term by term
  terms_proper : (left : Expr) (terms : List Term) → IsProperExpr left → AllOf IsProperTerm terms → IsProperExpr (terms_on bytes left terms)
  terms_proper left [] h all = h
  terms_proper left (t ∷ rest) h all = terms_proper (term_tree bytes left t) rest (subst IsProperExpr (sym (term_tree_is bytes left t)) (h, all.0)) all.1

  -- by cases
  compared_proper : (left : Expr) (right : Option Comparing) → IsProperExpr left → IfSome right IsProperComparing → IsProperExpr (compared_with bytes left right)
  compared_proper left None h all = h
  compared_proper left (Some c) h all = subst IsProperExpr (sym (comparing_tree_is bytes left c)) (h, all)

  -- a product, by its first part and its factors
  pub product_proper : (first : Postfix) (factors : List Factor) → IsProperExpr (postfix_tree bytes first) → AllOf IsProperFactor factors → IsProperExpr (product_tree bytes (product_of first factors))
  product_proper first factors h all =
      subst IsProperExpr (sym (product_tree_is bytes (product_of first factors) ∙ ap (λ r. factors_on bytes (postfix_tree bytes r.first) r.factors) (out-roll-Product _)))
      (factors_proper (postfix_tree bytes first) factors h all)

  -- a sum, by its first product and its terms
  pub sum_proper : (first : Product) (terms : List Term) → IsProperExpr (product_tree bytes first) → AllOf IsProperTerm terms → IsProperExpr (sum_tree bytes (sum_of first terms))
  sum_proper first terms h all =
      subst IsProperExpr (sym (sum_tree_is bytes (sum_of first terms) ∙ ap (λ r. terms_on bytes (product_tree bytes r.first) r.terms) (out-roll-Sum _)))
      (terms_proper (product_tree bytes first) terms h all)

  -- a comparison, by its two sums
  pub comparison_proper : (left : Sum) (right : Option Comparing) → IsProperExpr (sum_tree bytes left) → IfSome right IsProperComparing → IsProperExpr (comparison_tree bytes (comparison_of left right))
  comparison_proper left right h all =
      subst IsProperExpr (sym (comparison_tree_is bytes (comparison_of left right) ∙ ap (λ r. compared_with bytes (sum_tree bytes r.left) r.right) (out-roll-Comparison _)))
      (compared_proper (sum_tree bytes left) right h all)

  -- a term, by its product
  pub term_proper : (mark : Token) (product : Product) → IsProperExpr (product_tree bytes product) → IsProperTerm (term_of mark product)
  term_proper mark product h = subst (λ r. IsProperExpr (product_tree bytes r.product)) (sym (out-roll-Term _)) h

  -- what is compared, by its sum
  pub comparing_proper : (mark : Token) (right : Sum) → IsProperExpr (sum_tree bytes right) → IsProperComparing (comparing_of mark right)
  comparing_proper mark right h = subst (λ r. IsProperExpr (sum_tree bytes r.right)) (sym (out-roll-Comparing _)) h

  -- ---- arguments and values of fields

  -- argument by argument
  pub exprs_proper : (arguments : List Expression) → AllOf (λ e. IsProperExpr (expr_tree bytes e)) arguments → AreProperExprs (exprs_of bytes arguments)
  exprs_proper [] all = tt
  exprs_proper (e ∷ rest) all = (all.0, exprs_proper rest all.1)

  -- field by field
  pub values_proper : (fields : List FieldValue) → AllOf (λ (v : FieldValue). IsProperExpr (expr_tree bytes v.value)) fields → AreProperValues (values_of bytes fields)
  values_proper [] all = tt
  values_proper (v ∷ rest) all = (all.0, values_proper rest all.1)

  -- ---- blocks

  -- item by item, with those behind
  items_proper : (items : List CodeItem) (behind : BlockItems) → AllOf (λ i. IsProperItem (item_tree bytes i)) items → AreProperItems behind → AreProperItems (items_of bytes (map (item_tree bytes) items) behind)
  items_proper [] behind all h = h
  items_proper (i ∷ rest) behind all h = (all.0, items_proper rest behind all.1 h)

  -- the item that no `;` ends: it is an item, or the value
  let_proper : (i : BlockItem) → IsProperItem i → AreProperItems (let_item i) × IsProperValue (item_value i)
  let_proper (Let_item name value) h = ((h, tt), tt)
  let_proper (Plain_item value) h = (tt, h)

  -- the same of a last item, if there is one
  last_proper : (last : Option CodeItem) → IfSome last (λ i. IsProperItem (item_tree bytes i)) → AreProperItems (let_items (option_map (item_tree bytes) last)) × IsProperValue (value_of (option_map (item_tree bytes) last))
  last_proper None h = (tt, tt)
  last_proper (Some i) h = let_proper (item_tree bytes i) h

  -- a block, by its items and its last one
  pub block_proper : (opening : Token) (items : List CodeItem × Option CodeItem) (closing : Token) → AllOf (λ i. IsProperItem (item_tree bytes i)) items.0 → IfSome items.1 (λ i. IsProperItem (item_tree bytes i)) →
      IsProperBlock (block_tree bytes (block_of opening items closing))
  block_proper opening items closing all h =
      let last = last_proper items.1 h in
      (items_proper items.0 (let_items (option_map (item_tree bytes) items.1)) all last.0, last.1)

  -- case by case
  pub arms_proper : (cases : List CodeCase) → AllOf (λ (c : CodeCase). IsProperBlock (block_tree bytes c.block)) cases → AreProperArms (arms_of bytes cases)
  arms_proper [] all = tt
  arms_proper (c ∷ rest) all = (all.0, arms_proper rest all.1)

  -- a list with a case has one
  pub some_arms : (cases : List CodeCase) → cases ≢ [] → arms_of bytes cases ≢ No_arms
  some_arms [] some = absurd (some refl)
  some_arms (c ∷ rest) some = λ e. cc
