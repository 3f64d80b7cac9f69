-- Which expressions are a name alone: none with an operator, a select or another form.
use Rattle.std.proofs.Common.{◌≡◌, ℕ, List, [], ◌∷◌, true, false, Option, Some, None, option_map, refl, sym, ap}
use Rattle.std.specs.Prelude.{is_some}
use Rattle.std.proofs.lemmas.Bool.{false≢true}
use Rattle.mz_tree.specs.declared.types.Place.{Place}
use Rattle.mz_parse.specs.declared.bodies.Expression.{Expression, Plain, Write', Print, If', Match', Retag, Give, Take, Acquire, Release, Spawn'}
use Rattle.mz_parse.specs.declared.bodies.Comparison.{Comparison}
use Rattle.mz_parse.specs.declared.bodies.Comparing.{Comparing}
use Rattle.mz_parse.specs.declared.bodies.Factor.{Factor}
use Rattle.mz_parse.specs.declared.bodies.Term.{Term}
use Rattle.mz_parse.specs.declared.bodies.Select.{Select}
use Rattle.mz_scope.specs.Syntax.{Word, Expr, Number_expr, Unit_expr, Name_expr, Arith_expr, Call_expr, New_expr, Read_expr, Write_expr, New_lock_expr, Print_expr, If_expr, Match_expr, Retag_expr, Give_expr, Take_expr, Acquire_expr, Release_expr, Spawn_expr}
use Rattle.mz_scope.specs.Names.{Names, find}
use Rattle.mz_scope.specs.Bodies.{local_name}
use Rattle.mz_scope.specs.Trees.{operator_in, select_of, selected, write_to, expr_tree, term_tree}
use Rattle.mz_scope.specs.Lists.{postfix_tree, factors_on, terms_on, compared_with}
use Rattle.mz_scope.specs.Kinds.{name_of}
use Rattle.mz_scope.proofs.TreeForms.{term_tree_is, comparing_tree_is}

module _ (bytes : List ℕ) where
  selected_is_none : (e : Expr) (l : List Select) → None ≡ name_of e → None ≡ name_of (selected bytes e l)
  selected_is_none e [] h = h
  selected_is_none e (s ∷ rest) h = selected_is_none (Read_expr e (select_of bytes s)) rest refl

  pub selected_no_name : (e : Expr) (l : List Select) → (l ≡ [] → ⊥) → None ≡ name_of (selected bytes e l)
  selected_no_name e [] h = absurd (h refl)
  selected_no_name e (s ∷ rest) h = selected_is_none (Read_expr e (select_of bytes s)) rest refl

  factors_are_none : (e : Expr) (l : List Factor) → None ≡ name_of e → None ≡ name_of (factors_on bytes e l)
  factors_are_none e [] h = h
  factors_are_none e (f ∷ rest) h = factors_are_none (Arith_expr e (operator_in f.mark.kind) f.mark.place (postfix_tree bytes f.part)) rest refl

  pub factors_no_name : (e : Expr) (l : List Factor) → (l ≡ [] → ⊥) → None ≡ name_of (factors_on bytes e l)
  factors_no_name e [] h = absurd (h refl)
  factors_no_name e (f ∷ rest) h = factors_are_none (Arith_expr e (operator_in f.mark.kind) f.mark.place (postfix_tree bytes f.part)) rest refl

  term_is_none : (e : Expr) (t : Term) → None ≡ name_of (term_tree bytes e t)
  term_is_none e t = ap name_of (sym (term_tree_is bytes e t))

  terms_are_none : (e : Expr) (l : List Term) → None ≡ name_of e → None ≡ name_of (terms_on bytes e l)
  terms_are_none e [] h = h
  terms_are_none e (t ∷ rest) h = terms_are_none (term_tree bytes e t) rest (term_is_none e t)

  pub terms_no_name : (e : Expr) (l : List Term) → (l ≡ [] → ⊥) → None ≡ name_of (terms_on bytes e l)
  terms_no_name e [] h = absurd (h refl)
  terms_no_name e (t ∷ rest) h = terms_are_none (term_tree bytes e t) rest (term_is_none e t)

  pub compared_no_name : (e : Expr) (right : Option Comparing) → is_some right ≡ true → None ≡ name_of (compared_with bytes e right)
  compared_no_name e None h = absurd (false≢true h)
  compared_no_name e (Some c) h = ap name_of (sym (comparing_tree_is bytes e c))

  pub compared_alone : (e : Expr) (right : Option Comparing) → is_some right ≡ false → name_of e ≡ name_of (compared_with bytes e right)
  compared_alone e None h = refl
  compared_alone e (Some c) h = absurd (false≢true (sym h))

  write_no_name : (e : Expr) (l : List Select) (place : Place) (value : Expr) → None ≡ name_of (write_to bytes e l place value)
  write_no_name e [] place value = refl
  write_no_name e (s ∷ []) place value = refl
  write_no_name e (s ∷ k ∷ rest) place value = write_no_name (Read_expr e (select_of bytes s)) (k ∷ rest) place value

  pub other_no_name : (e : Expression) → ((c : Comparison) → e ≡ Plain c → ⊥) → None ≡ name_of (expr_tree bytes e)
  other_no_name (Plain c) h = absurd (h c refl)
  other_no_name (Write' base selects mark value) h = write_no_name _ selects mark.place _
  other_no_name (Print key value) h = refl
  other_no_name (If' key test shape one shape_two two giving) h = refl
  other_no_name (Match' key name shape cases giving) h = refl
  other_no_name (Retag key name old new) h = refl
  other_no_name (Give key name adopter) h = refl
  other_no_name (Take key name adopter) h = refl
  other_no_name (Acquire key name) h = refl
  other_no_name (Release key name) h = refl
  other_no_name (Spawn' key callee shape argument) h = refl

-- a local name is a name that is in scope
abbrev pub if_local : Names ℕ → Option Word → Option Word
if_local scope None = None
if_local scope (Some name) = option_map (λ _. name) (find scope name.text)

pub local_name_is : (scope : Names ℕ) (e : Expr) → local_name scope e ≡ if_local scope (name_of e)
local_name_is scope (Number_expr n place) = refl
local_name_is scope (Unit_expr place) = refl
local_name_is scope (Name_expr name) = refl
local_name_is scope (Arith_expr left operator place right) = refl
local_name_is scope (Call_expr callee arguments) = refl
local_name_is scope (New_expr con fields) = refl
local_name_is scope (Read_expr block select) = refl
local_name_is scope (Write_expr block select place value) = refl
local_name_is scope (New_lock_expr place guarded) = refl
local_name_is scope (Print_expr place value) = refl
local_name_is scope (If_expr place test one two giving) = refl
local_name_is scope (Match_expr place name arms giving) = refl
local_name_is scope (Retag_expr place name old new) = refl
local_name_is scope (Give_expr place name adopter) = refl
local_name_is scope (Take_expr place name adopter) = refl
local_name_is scope (Acquire_expr place name) = refl
local_name_is scope (Release_expr place name) = refl
local_name_is scope (Spawn_expr place callee argument) = refl
