-- The tree of a source by the lists that the code reads.
use Rattle.std.specs.Prelude.{ℕ, List, [], ◌∷◌, Option, Some, None}
use Rattle.mz_parse.specs.declared.bodies.Case.{Case as CodeCase}
use Rattle.mz_parse.specs.declared.bodies.Comparing.{Comparing}
use Rattle.mz_parse.specs.declared.bodies.Expression.{Expression}
use Rattle.mz_parse.specs.declared.bodies.Factor.{Factor}
use Rattle.mz_parse.specs.declared.bodies.FieldValue.{FieldValue}
use Rattle.mz_parse.specs.declared.bodies.Postfix.{Postfix}
use Rattle.mz_parse.specs.declared.bodies.Term.{Term}
use Rattle.mz_scope.specs.Syntax.{Expr, Arith_expr, Exprs, No_exprs, More_exprs, FieldValues, No_values, More_values, Arms, No_arms, More_arms}
use Rattle.mz_scope.specs.Trees.{word_of, operator_in, selected, primary_tree, expr_tree, term_tree, comparing_tree, block_tree}

module _ (bytes : List ℕ) where
  abbrev pub postfix_tree : Postfix → Expr
  postfix_tree p = selected bytes (primary_tree bytes p.base) p.selects

  -- an expression with factors behind it
  abbrev pub factors_on : Expr → List Factor → Expr
  factors_on left [] = left
  factors_on left (f ∷ rest) = factors_on (Arith_expr left (operator_in f.mark.kind) f.mark.place (postfix_tree f.part)) rest

  -- an expression with terms behind it
  abbrev pub terms_on : Expr → List Term → Expr
  terms_on left [] = left
  terms_on left (t ∷ rest) = terms_on (term_tree bytes left t) rest

  -- an expression that is perhaps compared
  abbrev pub compared_with : Expr → Option Comparing → Expr
  compared_with left None = left
  compared_with left (Some right) = comparing_tree bytes left right

  abbrev pub exprs_of : List Expression → Exprs
  exprs_of [] = No_exprs
  exprs_of (e ∷ rest) = More_exprs (expr_tree bytes e) (exprs_of rest)

  abbrev pub values_of : List FieldValue → FieldValues
  values_of [] = No_values
  values_of (v ∷ rest) = More_values (word_of bytes v.field) (expr_tree bytes v.value) (values_of rest)

  abbrev pub arms_of : List CodeCase → Arms
  arms_of [] = No_arms
  arms_of (c ∷ rest) = More_arms (word_of bytes c.con) (block_tree bytes c.block) (arms_of rest)
