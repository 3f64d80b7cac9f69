-- Expressions and blocks, and what they come to: an expression becomes commands, those of its parts from left to right and
-- then its own, and its value is a core name.
use Rattle.std.specs.Prelude.{ℕ, ◌==◌, ◌&&◌, ◌||◌, Bool, false, not, List, [], ◌∷◌, ◌++◌, length, Option, Some, None, is_some, unwrap_or, codes, option_map, option_and_then}
use Rattle.std.specs.List.{list_any}
use Rattle.mz_tree.specs.declared.types.Place.{Place}
use Rattle.mz_tree.specs.Plain.{Atom}
use Rattle.mz_tree.specs.Code.{Int_op, Unit_op, Fun_op, Copy_op, Arith_op, New_op, Read_op, Write_op, Retag_op, If_op, Match_op, Call_op, Give_op, Take_op, New_lock_op, Acquire_op, Release_op, Spawn_op, Print_op, Command, Case, The_case, Body, The_body, commands_of, cases_of}
use Rattle.mz_scope.specs.declared.fault.Cause.TheVariants.{Unknown, Twice, Shape, NotExhaustive}
use Rattle.mz_scope.specs.Syntax.{Word, AtomTrees, Expr, Number_expr, Unit_expr, Name_expr, Arith_expr, Call_expr, New_expr, Read_expr, Write_expr, New_lock_expr, Print_expr, If_expr, Match_expr, Retag_expr, Give_expr, Take_expr, Acquire_expr, Release_expr, Spawn_expr, Exprs, No_exprs, More_exprs, FieldValues, No_values, More_values, Block, The_block, BlockItem, Let_item, Plain_item, BlockItems, No_items, More_items, Value, No_value, The_value, Arms, No_arms, More_arms}
use Rattle.mz_scope.specs.Names.{Names, find, Globals, ConEntry, FunEntry, holders}
use Rattle.mz_scope.specs.Making.{CoreName, Came, Came_to, Part, ◌>>=◌, ◌>>◌, give, add_command, next_name, add_fault, fault_if, declared_or}
use Rattle.mz_scope.specs.Types.{number_of, in_order, is_field, are_fields, con_by_name, flat_atoms}

-- ---- what a `let` does

-- the last core name gets a spelling
abbrev pub with_last_spelled : List ℕ → List CoreName → List CoreName
with_last_spelled text [] = []
with_last_spelled text (n ∷ []) = record n { spelling = text } ∷ []
with_last_spelled text (n ∷ m ∷ rest) = n ∷ with_last_spelled text (m ∷ rest)

abbrev pub spell : List ℕ → Part (Unit {0})
spell text = λ made. Came_to tt (record made { names = with_last_spelled text made.names })

-- where an expression is a local name, in brackets or not, that name
abbrev pub local_name : Names ℕ → Expr → Option Word
local_name scope (Name_expr name) = option_map (λ _. name) (find scope name.text)
local_name scope _ = None

-- a local name's value is copied to a name of its own; each other value has one
abbrev pub own_name : Option Word → ℕ → Part ℕ
own_name None value = give value
own_name (Some name) value = add_command name.place (Copy_op value)

-- ---- bodies inside a body

abbrev pub body_came : Place → List Command → Came ℕ → Came Body
body_came brace before (Came_to value made) = Came_to (The_body (commands_of made.commands) value brace) (record made { commands = before })

-- a body of its own, with the commands of a part; its names are numbered with those of its function
abbrev pub body : Place → Part ℕ → Part Body
body brace part = λ made. body_came brace made.commands (part (record made { commands = [] }))

-- ---- shapes

-- whether a name is a function's, hidden by no local name, and its signature has another number of parameters
abbrev pub differs : Option ℕ → ℕ → Bool
differs None count = false
differs (Some declared) count = not (declared == count)

abbrev pub has_other_count : Globals → Names ℕ → List ℕ → ℕ → Bool
has_other_count g scope name count = not (is_some (find scope name)) && differs (option_and_then (λ (f : FunEntry). f.params) (find g.funs name)) count

-- whether two constructors have different numbers of fields
abbrev pub differ_in_fields : Option ConEntry → Option ConEntry → Bool
differ_in_fields (Some old) (Some new) = not (length old.fields == length new.fields)
differ_in_fields _ _ = false

-- whether a number is one of these
abbrev pub is_number_among : List ℕ → ℕ → Bool
is_number_among numbers number = list_any (λ n. n == number) numbers

-- a constructor of data type d that none of these numbers names
abbrev pub lacks_one : Globals → Option ℕ → List ℕ → Bool
lacks_one g None named = false
lacks_one g (Some d) named = list_any (λ (c : List ℕ × ConEntry). (c.1.variety == d) && not (is_number_among named c.1.number)) g.cons

-- numbers, and that of a constructor that is declared
abbrev pub with_number : List ℕ → Option ConEntry → List ℕ
with_number numbers None = numbers
with_number numbers (Some con) = con.number ∷ numbers

-- the data type of a match is that of its first case's constructor
abbrev pub match_data : Globals → Arms → Option ℕ
match_data g No_arms = None
match_data g (More_arms con block rest) = option_map (λ (c : ConEntry). c.variety) (find g.cons con.text)

-- the constructors that a match's cases name
abbrev pub arm_cons : Globals → Arms → List ℕ
arm_cons g No_arms = []
arm_cons g (More_arms con block rest) = with_number (arm_cons g rest) (find g.cons con.text)

-- whether a case's constructor is of another data type, or is named by a case before, too; one that isn't declared is that
-- fault alone
abbrev pub is_misplaced : Option ℕ → List ℕ → Option ConEntry → Bool
is_misplaced d earlier None = false
is_misplaced d earlier (Some con) = differs d con.variety || is_number_among earlier con.number

-- whether some constructor of the match's data type isn't named by a case
abbrev pub lacks_a_case : Globals → Arms → Bool
lacks_a_case g arms = lacks_one g (match_data g arms) (arm_cons g arms)

-- ---- selects

-- a field's number, in a constructor
abbrev pub field_in : Option ConEntry → Word → Part ℕ
field_in None field = give 0
field_in (Some con) field = declared_or 0 (find con.fields field.text) field.place

-- the one constructor that has the field
abbrev pub the_holder : List ConEntry → Word → Part (Option ConEntry)
the_holder [] field = add_fault Unknown field.place >> (add_fault Shape field.place >> give None)
the_holder (con ∷ []) field = give (Some con)
the_holder (con ∷ _ ∷ _) field = add_fault Shape field.place >> give None

-- the constructor of a select
abbrev pub select_con : Globals → Option Word → Word → Part (Option ConEntry)
select_con g None field = the_holder (holders g field.text) field
select_con g (Some con) field = con_by_name g con

-- ---- expressions

module _ (g : Globals) where
  -- a name's value: that of a local name, or else a function
  abbrev pub named : Option ℕ → Word → Part ℕ
  named (Some local) name = give local
  named None name = do
    f ← declared_or 0 (option_map (λ (f : FunEntry). f.number) (find g.funs name.text)) name.place
    add_command name.place (Fun_op f)

  abbrev pub name_value : Names ℕ → Word → Part ℕ
  name_value scope name = named (find scope name.text) name

  -- the atoms after `giving`, where `result` is the name that the command binds
  abbrev pub given : Names ℕ → AtomTrees → Part (List (Atom ℕ))
  given scope giving = do
    c ← next_name
    flat_atoms g (scope ++ (codes "result", c) ∷ []) giving

  unfoldable mutual
    pub flat_expression : Names ℕ → Expr → Part ℕ
    flat_expression scope (Number_expr n place) = add_command place (Int_op n)
    flat_expression scope (Unit_expr place) = add_command place Unit_op
    flat_expression scope (Name_expr name) = name_value scope name
    flat_expression scope (Arith_expr left operator place right) = do
      x ← flat_expression scope left
      y ← flat_expression scope right
      add_command place (Arith_op operator x y)
    flat_expression scope (Call_expr callee arguments) = do
      f ← name_value scope callee
      xs ← flat_expressions scope arguments
      fault_if (has_other_count g scope callee.text (length xs)) Shape callee.place
      add_command callee.place (Call_op f xs)
    flat_expression scope (New_expr name fields) = do
      con ← con_by_name g name
      written ← flat_values scope con fields
      are_fields con written name.place
      add_command name.place (New_op (number_of con) (in_order con written))
    flat_expression scope (Read_expr block select) = do
      x ← flat_expression scope block
      con ← select_con g select.con select.field
      i ← field_in con select.field
      add_command select.field.place (Read_op x (number_of con) i)
    flat_expression scope (Write_expr block select place value) = do
      x ← flat_expression scope block
      con ← select_con g select.con select.field
      i ← field_in con select.field
      y ← flat_expression scope value
      add_command place (Write_op x (number_of con) i y)
    flat_expression scope (New_lock_expr place guarded) = do
      p ← flat_atoms g scope guarded
      add_command place (New_lock_op p)
    flat_expression scope (Print_expr place value) = do
      x ← flat_expression scope value
      add_command place (Print_op x)
    flat_expression scope (If_expr place test on_true on_false giving) = do
      x ← flat_expression scope test
      one ← flat_block scope on_true
      two ← flat_block scope on_false
      p ← given scope giving
      add_command place (If_op x one two p)
    flat_expression scope (Match_expr place name arms giving) = do
      x ← name_value scope name
      fault_if (lacks_a_case g arms) NotExhaustive place
      cases ← flat_cases scope (match_data g arms) [] arms
      p ← given scope giving
      add_command place (Match_op x (unwrap_or (match_data g arms) 0) (cases_of cases) p)
    flat_expression scope (Retag_expr place name old new) = do
      x ← name_value scope name
      a ← con_by_name g old
      b ← con_by_name g new
      fault_if (differ_in_fields a b) Shape place
      add_command place (Retag_op x (number_of a) (number_of b))
    flat_expression scope (Give_expr place name adopter) = do
      x ← name_value scope name
      y ← name_value scope adopter
      add_command place (Give_op x y)
    flat_expression scope (Take_expr place name adopter) = do
      x ← name_value scope name
      y ← name_value scope adopter
      add_command place (Take_op x y)
    flat_expression scope (Acquire_expr place name) = do
      x ← name_value scope name
      add_command place (Acquire_op x)
    flat_expression scope (Release_expr place name) = do
      x ← name_value scope name
      add_command place (Release_op x)
    flat_expression scope (Spawn_expr place callee argument) = do
      f ← name_value scope callee
      x ← flat_expression scope argument
      fault_if (has_other_count g scope callee.text 1) Shape callee.place
      add_command place (Spawn_op f x)

    -- the values of expressions, one after the other
    pub flat_expressions : Names ℕ → Exprs → Part (List ℕ)
    flat_expressions scope No_exprs = give []
    flat_expressions scope (More_exprs one rest) = do
      x ← flat_expression scope one
      xs ← flat_expressions scope rest
      give (x ∷ xs)

    -- the fields of a new block with their values, as they are written
    pub flat_values : Names ℕ → Option ConEntry → FieldValues → Part (Names ℕ)
    flat_values scope con No_values = give []
    flat_values scope con (More_values field value rest) = do
      is_field con field
      x ← flat_expression scope value
      others ← flat_values scope con rest
      give ((field.text, x) ∷ others)

    -- the cases of a match by data type d, where these constructors stand before
    pub flat_cases : Names ℕ → Option ℕ → List ℕ → Arms → Part (List Case)
    flat_cases scope d earlier No_arms = give []
    flat_cases scope d earlier (More_arms name one rest) = do
      con ← con_by_name g name
      fault_if (is_misplaced d earlier con) Shape name.place
      b ← flat_block scope one
      others ← flat_cases scope d (with_number earlier con) rest
      give (The_case (number_of con) b ∷ others)

    -- a block is a body; its value is `()` at the closing brace where its last item gives none
    pub flat_block : Names ℕ → Block → Part Body
    flat_block scope (The_block all value brace) = body brace (do
      inner ← flat_items scope all
      flat_value inner brace value)

    pub flat_value : Names ℕ → Place → Value → Part ℕ
    flat_value scope brace No_value = add_command brace Unit_op
    flat_value scope brace (The_value value) = flat_expression scope value

    -- the names that are in scope after items: a `let` binds its name from there to the end of the block
    pub flat_items : Names ℕ → BlockItems → Part (Names ℕ)
    flat_items scope No_items = give scope
    flat_items scope (More_items one rest) = do
      inner ← flat_item scope one
      flat_items inner rest

    pub flat_item : Names ℕ → BlockItem → Part (Names ℕ)
    flat_item scope (Plain_item value) = flat_expression scope value >> give scope
    flat_item scope (Let_item name value) = do
      fault_if (is_some (find scope name.text)) Twice name.place
      x ← flat_expression scope value
      n ← own_name (local_name scope value) x
      spell name.text
      give (scope ++ (name.text, n) ∷ [])
