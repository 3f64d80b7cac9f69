-- One more select, factor or term behind an expression, by going along those before it.
use Rattle.std.proofs.Common.{◌≡◌, List, [], ◌∷◌, ◌++◌, ℕ, None, refl}
use Rattle.mz_tree.specs.declared.types.Place.{Place}
use Rattle.mz_token.specs.declared.token.Kind.TheVariants.{Lower}
use Rattle.mz_parse.specs.declared.bodies.Select.{Select}
use Rattle.mz_parse.specs.declared.bodies.Factor.{Factor}
use Rattle.mz_parse.specs.declared.bodies.Term.{Term}
use Rattle.mz_scope.specs.Syntax.{Expr, Arith_expr, Read_expr, Write_expr}
use Rattle.mz_scope.specs.Trees.{operator_in, select_of, selected, write_to, term_tree}
use Rattle.mz_scope.specs.Lists.{postfix_tree, factors_on, terms_on}

-- a select to stand where there is none
abbrev pub no_select : Select
no_select = record { con = None; field = record { kind = Lower; start = 0; end = 0; place = record { line = 0; col = 0 } } }

module _ (bytes : List ℕ) where
  pub selected_more : (e : Expr) (front : List Select) (s : Select) → selected bytes e (front ++ s ∷ []) ≡ Read_expr (selected bytes e front) (select_of bytes s)
  selected_more e [] s = refl
  selected_more e (f ∷ front) s = selected_more (Read_expr e (select_of bytes f)) front s

  pub write_to_last : (e : Expr) (front : List Select) (s : Select) (place : Place) (value : Expr) → write_to bytes e (front ++ s ∷ []) place value ≡ Write_expr (selected bytes e front) (select_of bytes s) place value
  write_to_last e [] s place value = refl
  write_to_last e (f ∷ []) s place value = refl
  write_to_last e (f ∷ k ∷ front) s place value = write_to_last (Read_expr e (select_of bytes f)) (k ∷ front) s place value

  pub factors_more : (e : Expr) (front : List Factor) (f : Factor) → factors_on bytes e (front ++ f ∷ []) ≡ Arith_expr (factors_on bytes e front) (operator_in f.mark.kind) f.mark.place (postfix_tree bytes f.part)
  factors_more e [] f = refl
  factors_more e (k ∷ front) f = factors_more (Arith_expr e (operator_in k.mark.kind) k.mark.place (postfix_tree bytes k.part)) front f

  pub terms_more : (e : Expr) (front : List Term) (t : Term) → terms_on bytes e (front ++ t ∷ []) ≡ term_tree bytes (terms_on bytes e front) t
  terms_more e [] t = refl
  terms_more e (k ∷ front) t = terms_more (term_tree bytes e k) front t
