-- No part of a body takes a fault back.
use Rattle.std.proofs.Common.{◌≡◌, ℕ, List, [], ◌∷◌, ◌++◌, Option, Some, None, codes}
use Rattle.mz_tree.specs.declared.types.Place.{Place}
use Rattle.mz_tree.specs.Code.{Command}
use Rattle.mz_scope.specs.Syntax.{Word, AtomTrees, Expr, Number_expr, Unit_expr, Name_expr, Arith_expr, Call_expr, New_expr, Read_expr, Write_expr, New_lock_expr, Print_expr, If_expr, Match_expr, Retag_expr, Give_expr, Take_expr, Acquire_expr, Release_expr, Spawn_expr, Exprs, No_exprs, More_exprs, FieldValues, No_values, More_values, Block, The_block, BlockItem, Let_item, Plain_item, BlockItems, No_items, More_items, Value, No_value, The_value, Arms, No_arms, More_arms}
use Rattle.mz_scope.specs.Names.{Names, find, Globals, ConEntry, holders}
use Rattle.mz_scope.specs.Making.{Came, Came_to, Part}
use Rattle.mz_scope.specs.Bodies.{spell, own_name, body_came, body, field_in, the_holder, select_con, named, name_value, given, local_name, match_data, with_number, flat_expression, flat_expressions, flat_values, flat_cases, flat_block, flat_value, flat_items, flat_item}
use Rattle.mz_scoped.proofs.Goes.{made_in}
use Rattle.mz_scoped.proofs.KeptFaults.{Keeps, kept_then, kept_and, kept_give, kept_command, kept_next, kept_if, kept_fault, kept_declared, kept_con, kept_field, kept_fields, kept_atoms}

-- the spelling of the last name
kept_spell : (text : List ℕ) → Keeps (spell text)
kept_spell text = record { clean = λ m none. none }

-- a name of its own for a local name's value
kept_own : (name : Option Word) (value : ℕ) → Keeps (own_name name value)
kept_own None value = kept_give value
kept_own (Some name) value = kept_command _ _

-- a body of its own
kept_body : (brace : Place) (part : Part ℕ) → Keeps part → Keeps (body brace part)
kept_body brace part keeps = record { clean = λ m none. keeps.clean (record m { commands = [] }) (inside m.commands (part (record m { commands = [] })) none) }
  where
    inside : (before : List Command) (c : Came ℕ) → (made_in (body_came brace before c)).faults ≡ [] → (made_in c).faults ≡ []
    inside before (Came_to value made) none = none

-- ---- selects

-- a field's number
kept_field_in : (con : Option ConEntry) (field : Word) → Keeps (field_in con field)
kept_field_in None field = kept_give 0
kept_field_in (Some con) field = kept_declared _ _ _

-- the constructor that has a field
kept_holder : (cons : List ConEntry) (field : Word) → Keeps (the_holder cons field)
kept_holder [] field = kept_and (kept_fault _ _) (kept_and (kept_fault _ _) (kept_give None))
kept_holder (con ∷ []) field = kept_give (Some con)
kept_holder (con ∷ other ∷ rest) field = kept_and (kept_fault _ _) (kept_give None)

module _ (g : Globals) where
  -- the constructor of a select
  kept_select : (con : Option Word) (field : Word) → Keeps (select_con g con field)
  kept_select None field = kept_holder (holders g field.text) field
  kept_select (Some con) field = kept_con g con

  -- ---- expressions

  -- a name's value: a local one, or a function
  kept_named : (local : Option ℕ) (name : Word) → Keeps (named g local name)
  kept_named (Some local) name = kept_give local
  kept_named None name = kept_then (kept_declared _ _ _) (λ f. kept_command _ _)

  -- the same of a name in a scope
  kept_name : (scope : Names ℕ) (name : Word) → Keeps (name_value g scope name)
  kept_name scope name = kept_named (find scope name.text) name

  -- the atoms after `giving`
  kept_given : (scope : Names ℕ) (giving : AtomTrees) → Keeps (given g scope giving)
  kept_given scope giving = kept_then kept_next (λ c. kept_atoms g (scope ++ (codes "result", c) ∷ []) giving)

  mutual
    unfolding flat_expression

    -- an expression
    pub kept_expression : (scope : Names ℕ) (e : Expr) → Keeps (flat_expression g scope e)
    kept_expression scope (Number_expr n place) = kept_command _ _
    kept_expression scope (Unit_expr place) = kept_command _ _
    kept_expression scope (Name_expr name) = kept_name scope name
    kept_expression scope (Arith_expr left operator place right) = kept_then (kept_expression scope left) (λ x. kept_then (kept_expression scope right) (λ y. kept_command _ _))
    kept_expression scope (Call_expr callee arguments) = kept_then (kept_name scope callee) (λ f. kept_then (kept_expressions scope arguments) (λ xs. kept_and (kept_if _ _ _) (kept_command _ _)))
    kept_expression scope (New_expr name fields) = kept_then (kept_con g name) (λ con. kept_then (kept_values scope con fields) (λ written. kept_and (kept_fields con written _) (kept_command _ _)))
    kept_expression scope (Read_expr block select) = kept_then (kept_expression scope block) (λ x. kept_then (kept_select select.con select.field) (λ con. kept_then (kept_field_in con select.field) (λ i. kept_command _ _)))
    kept_expression scope (Write_expr block select place value) =
        kept_then (kept_expression scope block)
        (λ x. kept_then (kept_select select.con select.field)
        (λ con. kept_then (kept_field_in con select.field)
        (λ i. kept_then (kept_expression scope value)
        (λ y. kept_command _ _))))
    kept_expression scope (New_lock_expr place guarded) = kept_then (kept_atoms g scope guarded) (λ p. kept_command _ _)
    kept_expression scope (Print_expr place value) = kept_then (kept_expression scope value) (λ x. kept_command _ _)
    kept_expression scope (If_expr place test on_true on_false giving) =
        kept_then (kept_expression scope test)
        (λ x. kept_then (kept_block scope on_true)
        (λ one. kept_then (kept_block scope on_false)
        (λ two. kept_then (kept_given scope giving)
        (λ p. kept_command _ _))))
    kept_expression scope (Match_expr place name arms giving) =
        kept_then (kept_name scope name)
        (λ x. kept_and (kept_if _ _ _)
        (kept_then (kept_cases scope (match_data g arms) [] arms)
        (λ cases. kept_then (kept_given scope giving)
        (λ p. kept_command _ _))))
    kept_expression scope (Retag_expr place name old new) = kept_then (kept_name scope name) (λ x. kept_then (kept_con g old) (λ a. kept_then (kept_con g new) (λ b. kept_and (kept_if _ _ _) (kept_command _ _))))
    kept_expression scope (Give_expr place name adopter) = kept_then (kept_name scope name) (λ x. kept_then (kept_name scope adopter) (λ y. kept_command _ _))
    kept_expression scope (Take_expr place name adopter) = kept_then (kept_name scope name) (λ x. kept_then (kept_name scope adopter) (λ y. kept_command _ _))
    kept_expression scope (Acquire_expr place name) = kept_then (kept_name scope name) (λ x. kept_command _ _)
    kept_expression scope (Release_expr place name) = kept_then (kept_name scope name) (λ x. kept_command _ _)
    kept_expression scope (Spawn_expr place callee argument) = kept_then (kept_name scope callee) (λ f. kept_then (kept_expression scope argument) (λ x. kept_and (kept_if _ _ _) (kept_command _ _)))

    -- expressions, one after the other
    kept_expressions : (scope : Names ℕ) (all : Exprs) → Keeps (flat_expressions g scope all)
    kept_expressions scope No_exprs = kept_give []
    kept_expressions scope (More_exprs one rest) = kept_then (kept_expression scope one) (λ x. kept_then (kept_expressions scope rest) (λ xs. kept_give _))

    -- the fields of a new block
    kept_values : (scope : Names ℕ) (con : Option ConEntry) (all : FieldValues) → Keeps (flat_values g scope con all)
    kept_values scope con No_values = kept_give []
    kept_values scope con (More_values field value rest) = kept_and (kept_field con field) (kept_then (kept_expression scope value) (λ x. kept_then (kept_values scope con rest) (λ others. kept_give _)))

    -- the cases of a match
    kept_cases : (scope : Names ℕ) (d : Option ℕ) (earlier : List ℕ) (all : Arms) → Keeps (flat_cases g scope d earlier all)
    kept_cases scope d earlier No_arms = kept_give []
    kept_cases scope d earlier (More_arms name one rest) =
        kept_then (kept_con g name)
        (λ con. kept_and (kept_if _ _ _)
        (kept_then (kept_block scope one)
        (λ b. kept_then (kept_cases scope d (with_number earlier con) rest)
        (λ others. kept_give _))))

    -- a block, and its value, items and each of them
    pub kept_block : (scope : Names ℕ) (block : Block) → Keeps (flat_block g scope block)
    kept_block scope (The_block all value brace) = kept_body brace _ (kept_then (kept_items scope all) (λ inner. kept_value inner brace value))

    kept_value : (scope : Names ℕ) (brace : Place) (value : Value) → Keeps (flat_value g scope brace value)
    kept_value scope brace No_value = kept_command _ _
    kept_value scope brace (The_value value) = kept_expression scope value

    kept_items : (scope : Names ℕ) (all : BlockItems) → Keeps (flat_items g scope all)
    kept_items scope No_items = kept_give scope
    kept_items scope (More_items one rest) = kept_then (kept_item scope one) (λ inner. kept_items inner rest)

    kept_item : (scope : Names ℕ) (one : BlockItem) → Keeps (flat_item g scope one)
    kept_item scope (Plain_item value) = kept_and (kept_expression scope value) (kept_give scope)
    kept_item scope (Let_item name value) =
        kept_and (kept_if _ _ _)
        (kept_then (kept_expression scope value)
        (λ x. kept_then (kept_own (local_name scope value) x)
        (λ n. kept_and (kept_spell name.text)
        (kept_give _))))
