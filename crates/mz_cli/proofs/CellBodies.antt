-- What the parts of a body of the first form come to, where nothing is wrong with them.
use Rattle.std.proofs.Common.{◌≡◌, ℕ, suc, Bool, true, false, not, ◌&&◌, ◌||◌, cond, List, [], ◌∷◌, ◌++◌, length, Option, Some, None, refl, sym, ap, ◌∙◌, subst, if◌then◌else◌}
use Rattle.std.specs.Prelude.{is_some, option_map, unwrap_or}
use Rattle.std.specs.Str.{bytes_eq}
use Rattle.mz_tree.specs.declared.types.Place.{Place}
use Rattle.mz_tree.specs.declared.code.Arith.TheVariants.{Add}
use Rattle.mz_tree.specs.Code.{Int_op, Unit_op, Fun_op, Arith_op, New_op, Read_op, Write_op, Print_op, Command, Body, commands_in}
use Rattle.mz_tree.proofs.Chains.{list_of_commands}
use Rattle.mz_scope.specs.Syntax.{Word, Expr, New_expr, More_values, No_values, The_block, BlockItem, Let_item, BlockItems, Value}
use Rattle.mz_scope.specs.Names.{Names, find, Globals, ConEntry, FunEntry}
use Rattle.mz_scope.specs.Making.{CoreName, Made, Came, Came_to, Part, ◌>>=◌, ◌>>◌, give, add_command, fault_if, declared_or}
use Rattle.mz_scope.specs.Types.{names_in, is_each_once, number_of, in_order, is_field, are_fields, con_by_name}
use Rattle.mz_scope.specs.Bodies.{with_last_spelled, spell, body_came, field_in, the_holder, select_con, named, name_value, flat_expression, flat_values, flat_block, flat_items, flat_item, flat_value}
use Rattle.mz_cli.proofs.NameKinds.{Int_kind, Unit_kind, AllGive, IsKinded}
use Rattle.mz_cli.proofs.Commands.{all_give}
use Rattle.mz_cli.proofs.CellTrees.{IsPart, A_number, A_field, IsSum, One_part, Two_parts, IsAct, A_print, A_write, IsItem, A_let, An_act, AreItems, No_more, One_more, IsEnd, No_end, An_end}
use Rattle.mz_scoped.proofs.Goes.{value_in, made_in, Goes, first_then, weakened, framed, added, given, not_so, is_declared}
use Rattle.mz_cli.proofs.Made.{NoFunction, Sofar, FitsIn, int_goes, unit_goes, cell_goes, fewer, sum_alone, scope_alone, block_alone, in_scope}

-- the constructor, which has one field
abbrev pub cell_entry : List ℕ → ConEntry
cell_entry field = record { number = 0; variety = 0; fields = (field, 0) ∷ [] }

-- ---- fields

field_is_given : {P : Made → Type 0} (con : Option ConEntry) (field : Word) → Goes P (is_field con field) (λ _ m. P m)
field_is_given None field = given tt (λ m p. p)
field_is_given (Some con) field = weakened (λ m p. p) (λ _ m q. q.1) (not_so (not (is_some (find con.fields field.text))) _ field.place)

-- the written fields are each declared one once
abbrev AreGiven : Option ConEntry → Names ℕ → Type 0
AreGiven None written = Unit {0}
AreGiven (Some con) written = not (is_each_once (names_in con.fields) (names_in written)) ≡ false

fields_are_given : {P : Made → Type 0} (con : Option ConEntry) (written : Names ℕ) (place : Place) → Goes P (are_fields con written place) (λ _ m. AreGiven con written × P m)
fields_are_given None written place = given tt (λ m p. (tt, p))
fields_are_given (Some con) written place = not_so (not (is_each_once (names_in con.fields) (names_in written))) _ place

one_value : (b c : Bool) (x : ℕ) → not (((b || false) && true) && c) ≡ false → unwrap_or (if b then Some x else None) 0 ∷ [] ≡ x ∷ []
one_value true c x is = refl
one_value false c x is = cc

-- the one field's value
value_is : (field name : List ℕ) (con : Option ConEntry) (written : Names ℕ) (x : ℕ) → con ≡ Some (cell_entry field) → written ≡ (name, x) ∷ [] → AreGiven con written → in_order con written ≡ x ∷ []
value_is field name con written x con_is written_is are =
    let fields : AreGiven (Some (cell_entry field)) ((name, x) ∷ []) = subst (AreGiven (Some (cell_entry field))) written_is (subst (λ c. AreGiven c written) con_is are) in
    ap (λ c. in_order c written) con_is ∙ ap (in_order (Some (cell_entry field))) written_is ∙ one_value (bytes_eq name field) _ x fields

-- ---- spellings

spelled_length : (text : List ℕ) (names : List CoreName) → length (with_last_spelled text names) ≡ length names
spelled_length text [] = refl
spelled_length text (n ∷ []) = refl
spelled_length text (n ∷ m ∷ rest) = ap suc (spelled_length text (m ∷ rest))

spell_goes : (scope : Names ℕ) (n : ℕ) (text : List ℕ) → Goes (Sofar scope [] (n ∷ [])) (spell text) (λ _. Sofar scope [] (n ∷ []))
spell_goes scope n text = added (spell text) (λ m. refl) (λ m p. (
  p.0,
  λ none. let k = p.1 none in record {
    kinds = k.kinds;
    numbered = spelled_length text m.names ∙ k.numbered;
    ends = k.ends;
    fits = k.fits;
    numbers = k.numbers;
    blocks = k.blocks;
  },
))

-- ---- selects

-- what a field's number is, where it is the constructor's
abbrev IsFieldNumber : Option ConEntry → Word → ℕ → Type 0
IsFieldNumber None field i = i ≡ 0
IsFieldNumber (Some con) field i = find con.fields field.text ≡ Some i

field_goes : {P : Made → Type 0} (con : Option ConEntry) (field : Word) → Goes P (field_in con field) (λ i m. IsFieldNumber con field i × P m)
field_goes None field = given 0 (λ m p. (refl, p))
field_goes (Some con) field = is_declared 0 (find con.fields field.text) field.place

only_number : (b : Bool) (i : ℕ) → (if b then Some 0 else None) ≡ Some i → i ≡ 0
only_number true i is = cc
only_number false i is = cc

-- so it is 0
field_is : (name : List ℕ) (field : Word) (con : Option ConEntry) (i : ℕ) → con ≡ Some (cell_entry name) → IsFieldNumber con field i → i ≡ 0
field_is name field con i is number =
    let found : find ((name, 0) ∷ []) field.text ≡ Some i = subst (λ c. IsFieldNumber c field i) is number in
    only_number (bytes_eq name field.text) i found

holder_goes : {P : Made → Type 0} (con : ConEntry) (b : Bool) (field : Word) → Goes P (the_holder (cond (is_some {T = ℕ} (if b then Some 0 else None)) (con ∷ []) []) field) (λ c m. (c ≡ Some con) × P m)
holder_goes con true field = given (Some con) (λ m p. (refl, p))
holder_goes con false field = record {
  clean = λ m none. absurd (some_more m.faults _ _ none);
  leads = λ m none p. absurd (some_more m.faults _ _ none);
}
  where
    some_more : {X : Type 0} (xs : List X) (x y : X) → (xs ++ x ∷ []) ++ y ∷ [] ≡ [] → ⊥
    some_more [] x y is = cc
    some_more (z ∷ xs) x y is = cc

only_con : (b : Bool) (entry con : ConEntry) → option_map Some (if b then Some entry else None) ≡ Some (Some con) → con ≡ entry
only_con true entry con is = cc
only_con false entry con is = cc

-- nothing is made yet, of the body and beside it
abbrev pub Fresh : Made → Type 0
Fresh m = (m.clauses ≡ []) × (m.names ≡ [])

-- a body whose commands go by kinds, where no command's value is a function
abbrev pub Bodied : Body → Made → Type 0
Bodied b m = (m.clauses ≡ []) × (NoFunction (commands_in b) → IsKinded b)

module _ (g : Globals) (name field : List ℕ) (cons_is : g.cons ≡ (name, cell_entry field) ∷ []) where
  abbrev cons_of : List (List ℕ × ConEntry) → Globals
  cons_of cons = record g { cons = cons }

  globals_is : g ≡ cons_of ((name, cell_entry field) ∷ [])
  globals_is = ap cons_of cons_is

  -- `.field` is of the constructor
  select_goes : {P : Made → Type 0} (select : Word) → Goes P (select_con g None select) (λ con m. (con ≡ Some (cell_entry field)) × P m)
  select_goes {P = P} select = subst (λ h. Goes P (select_con h None select) (λ con m. (con ≡ Some (cell_entry field)) × P m)) (sym globals_is) (holder_goes (cell_entry field) (bytes_eq field select.text) select)

  some_con : (con : Option ConEntry) (word : List ℕ) → option_map Some (find ((name, cell_entry field) ∷ []) word) ≡ Some con → con ≡ Some (cell_entry field)
  some_con None word is = none_there (bytes_eq name word) is
    where
      none_there : (b : Bool) → option_map Some (if b then Some (cell_entry field) else None) ≡ Some None → None ≡ Some (cell_entry field)
      none_there true is = cc
      none_there false is = cc
  some_con (Some con) word is = ap Some (only_con (bytes_eq name word) (cell_entry field) con is)

  -- a constructor by its name is the one
  con_goes : {P : Made → Type 0} (word : Word) → Goes P (con_by_name g word) (λ con m. (con ≡ Some (cell_entry field)) × P m)
  con_goes {P = P} word = weakened (λ m p. p) (λ con m q. (some_con con word.text (ap (λ cons. option_map Some (find cons word.text)) (sym cons_is) ∙ q.0), q.1)) (is_declared None (option_map Some (find g.cons word.text)) word.place)

  -- ---- names

  -- a name is a block's, or a function is named
  name_goes : (scope : Names ℕ) (ints cells : List ℕ) (o : Option ℕ) (word : Word) → o ≡ find scope word.text → Goes (Sofar scope ints cells) (named g o word) (λ b. Sofar scope ints (b ∷ cells))
  name_goes scope ints cells (Some x) word found = given x (λ m sofar. (
    sofar.0,
    λ none. let k = sofar.1 none in record {
      kinds = k.kinds;
      numbered = k.numbered;
      ends = k.ends;
      fits = k.fits;
      numbers = k.numbers;
      blocks = (k.fits word.text x (sym found), k.blocks);
    },
  ))
  name_goes scope ints cells None word found =
      first_then (declared_or 0 (option_map (λ (f : FunEntry). f.number) (find g.funs word.text)) word.place) (λ f. add_command word.place (Fun_op f))
      (weakened (λ m p. p) (λ f m q. q.1) (is_declared 0 (option_map (λ (f : FunEntry). f.number) (find g.funs word.text)) word.place))
      (λ f. cell_goes scope ints cells word.place (Fun_op f) (λ kinds fits numbers blocks plain. cc))

  -- ---- sums

  read_fits : (scope : Names ℕ) (ints cells : List ℕ) (select : Word) (b i : ℕ) (con : Option ConEntry) → IsFieldNumber con select i → con ≡ Some (cell_entry field) → FitsIn scope ints (b ∷ cells) (Read_op b (number_of con) i) Int_kind
  read_fits scope ints cells select b i con number is kinds fits numbers blocks plain = (ap number_of is, field_is field select con i is number, blocks.0, refl)

  part_goes : (scope : Names ℕ) (ints cells : List ℕ) (e : Expr) → IsPart e → Goes (Sofar scope ints cells) (flat_expression g scope e) (λ n. Sofar scope (n ∷ ints) cells)
  unfolding flat_expression
  part_goes scope ints cells e (A_number value place) = int_goes scope ints cells place (Int_op value) (λ kinds fits numbers blocks plain. refl)
  part_goes scope ints cells e (A_field block select) =
      first_then (name_value g scope block) (λ b. select_con g None select >>= λ con. field_in con select >>= λ i. add_command select.place (Read_op b (number_of con) i))
      (name_goes scope ints cells (find scope block.text) block refl)
      (λ b. first_then (select_con g None select) (λ con. field_in con select >>= λ i. add_command select.place (Read_op b (number_of con) i))
      (select_goes select)
      (λ con. first_then (field_in con select) (λ i. add_command select.place (Read_op b (number_of con) i))
      (field_goes con select)
      (λ i. known_fields b con i)))
    where
      known_fields : (b : ℕ) (con : Option ConEntry) (i : ℕ) → Goes (λ m. IsFieldNumber con select i × ((con ≡ Some (cell_entry field)) × Sofar scope ints (b ∷ cells) m)) (add_command select.place (Read_op b (number_of con) i)) (λ n. Sofar scope (n ∷ ints) cells)
      known_fields b con i = record {
        clean = λ m none. none;
        leads = λ m none p. fewer scope ints cells (length m.names) b _ ((int_goes scope ints (b ∷ cells) select.place (Read_op b (number_of con) i) (read_fits scope ints cells select b i con p.0 p.1.0)).leads m none p.1.1);
      }

  sum_goes : (scope : Names ℕ) (ints cells : List ℕ) (e : Expr) → IsSum e → Goes (Sofar scope ints cells) (flat_expression g scope e) (λ n. Sofar scope (n ∷ ints) cells)
  unfolding flat_expression
  sum_goes scope ints cells e (One_part p part) = part_goes scope ints cells p part
  sum_goes scope ints cells e (Two_parts left right place one two) =
      first_then (flat_expression g scope left) (λ x. flat_expression g scope right >>= λ y. add_command place (Arith_op Add x y))
      (part_goes scope ints cells left one)
      (λ x. first_then (flat_expression g scope right) (λ y. add_command place (Arith_op Add x y))
      (part_goes scope (x ∷ ints) cells right two)
      (λ y. weakened (λ m p. p) (λ z m q. sum_alone scope ints cells x y z m q) (int_goes scope (y ∷ x ∷ ints) cells place (Arith_op Add x y) (λ kinds fits numbers blocks plain. (numbers.1.0, numbers.0, refl)))))

  -- ---- acts

  write_fits : (scope : Names ℕ) (select : Word) (b i y : ℕ) (con : Option ConEntry) → IsFieldNumber con select i → con ≡ Some (cell_entry field) → FitsIn scope (y ∷ []) (b ∷ []) (Write_op b (number_of con) i y) Unit_kind
  write_fits scope select b i y con number is kinds fits numbers blocks plain = (ap number_of is, field_is field select con i is number, blocks.0, numbers.0, refl)

  act_goes : (scope : Names ℕ) (e : Expr) → IsAct e → Goes (Sofar scope [] []) (flat_expression g scope e) (λ _. Sofar scope [] [])
  unfolding flat_expression
  act_goes scope e (A_print place value sum) =
      first_then (flat_expression g scope value) (λ x. add_command place (Print_op x))
      (sum_goes scope [] [] value sum)
      (λ x. weakened (λ m p. p) (λ _ m q. scope_alone scope (x ∷ []) [] m q) (unit_goes scope (x ∷ []) [] place (Print_op x) (λ kinds fits numbers blocks plain. (numbers.0, refl))))
  act_goes scope e (A_write block select place value sum) =
      first_then (name_value g scope block) (λ b. select_con g None select >>= λ con. field_in con select >>= λ i. flat_expression g scope value >>= λ y. add_command place (Write_op b (number_of con) i y))
      (name_goes scope [] [] (find scope block.text) block refl)
      (λ b. first_then (select_con g None select) (λ con. field_in con select >>= λ i. flat_expression g scope value >>= λ y. add_command place (Write_op b (number_of con) i y))
      (select_goes select)
      (λ con. first_then (field_in con select) (λ i. flat_expression g scope value >>= λ y. add_command place (Write_op b (number_of con) i y))
      (field_goes con select)
      (λ i. first_then (flat_expression g scope value) (λ y. add_command place (Write_op b (number_of con) i y))
      (framed (IsFieldNumber con select i) (framed (con ≡ Some (cell_entry field)) (sum_goes scope [] (b ∷ []) value sum)))
      (λ y. written b con i y))))
    where
      written : (b : ℕ) (con : Option ConEntry) (i y : ℕ) → Goes (λ m. IsFieldNumber con select i × ((con ≡ Some (cell_entry field)) × Sofar scope (y ∷ []) (b ∷ []) m)) (add_command place (Write_op b (number_of con) i y)) (λ _. Sofar scope [] [])
      written b con i y = record {
        clean = λ m none. none;
        leads = λ m none p. scope_alone scope (y ∷ []) (b ∷ []) _ ((unit_goes scope (y ∷ []) (b ∷ []) place (Write_op b (number_of con) i y) (write_fits scope select b i y con p.0 p.1.0)).leads m none p.1.1);
      }

  -- ---- new blocks

  -- the field's value
  Valued : Names ℕ → Word → Names ℕ → Made → Type 0
  Valued scope select written m = (x : ℕ) × (written ≡ (select.text, x) ∷ []) × Sofar scope (x ∷ []) [] m

  values_goes : (scope : Names ℕ) (con : Option ConEntry) (select : Word) (value : Expr) → IsSum value → Goes (Sofar scope [] []) (flat_values g scope con (More_values select value No_values)) (λ written. Valued scope select written)
  unfolding flat_values Valued
  values_goes scope con select value sum =
      first_then (is_field con select) (λ _. flat_expression g scope value >>= λ x. give [] >>= λ others. give ((select.text, x) ∷ others))
      (field_is_given con select)
      (λ _. first_then (flat_expression g scope value) (λ x. give [] >>= λ others. give ((select.text, x) ∷ others))
      (sum_goes scope [] [] value sum)
      (λ x. first_then (give []) (λ others. give ((select.text, x) ∷ others))
      (no_others x)
      (λ others. given ((select.text, x) ∷ others) (λ m p. (x, ap (λ rest. (select.text, x) ∷ rest) p.0, p.1)))))
    where
      no_others : (x : ℕ) → Goes (Sofar scope (x ∷ []) []) (give {A = Names ℕ} []) (λ others m. (others ≡ []) × Sofar scope (x ∷ []) [] m)
      no_others x = given [] (λ m p. (refl, p))

  new_goes : (scope : Names ℕ) (word select : Word) (value : Expr) → IsSum value → Goes (Sofar scope [] []) (flat_expression g scope (New_expr word (More_values select value No_values))) (λ n. Sofar scope [] (n ∷ []))
  unfolding flat_expression Valued
  new_goes scope word select value sum =
      first_then (con_by_name g word) (λ con. flat_values g scope con (More_values select value No_values) >>= λ written. are_fields con written word.place >> add_command word.place (New_op (number_of con) (in_order con written)))
      (con_goes word)
      (λ con. first_then (flat_values g scope con (More_values select value No_values)) (λ written. are_fields con written word.place >> add_command word.place (New_op (number_of con) (in_order con written)))
      (framed (con ≡ Some (cell_entry field)) (values_goes scope con select value sum))
      (λ written. first_then (are_fields con written word.place) (λ _. add_command word.place (New_op (number_of con) (in_order con written)))
      (fields_are_given con written word.place)
      (λ _. made con written)))
    where
      made : (con : Option ConEntry) (written : Names ℕ) → Goes (λ m. AreGiven con written × ((con ≡ Some (cell_entry field)) × Valued scope select written m)) (add_command word.place (New_op (number_of con) (in_order con written))) (λ n. Sofar scope [] (n ∷ []))
      made con written = record {
        clean = λ m none. none;
        leads = λ m none p. block_alone scope (p.1.1.0 ∷ []) (length m.names) _ ((cell_goes scope (p.1.1.0 ∷ []) [] word.place (New_op (number_of con) (in_order con written))
            (λ kinds fits numbers blocks plain. (ap number_of p.1.0, (p.1.1.0, value_is field select.text con written p.1.1.0 p.1.0 p.1.1.1 p.0, numbers.0), refl))).leads m none p.1.1.2);
      }

  -- ---- items

  let_goes : (scope : Names ℕ) (name word select : Word) (value : Expr) → IsSum value → Goes (Sofar scope [] []) (flat_item g scope (Let_item name (New_expr word (More_values select value No_values)))) (λ inner. Sofar inner [] [])
  unfolding flat_item
  let_goes scope name word select value sum =
      first_then (fault_if (is_some (find scope name.text)) _ name.place) (λ _. flat_expression g scope new >>= λ x. give x >>= λ n. spell name.text >> give (scope ++ (name.text, n) ∷ []))
      (weakened (λ m p. p) (λ _ m q. q.1) (not_so (is_some (find scope name.text)) _ name.place))
      (λ _. first_then (flat_expression g scope new) (λ x. give x >>= λ n. spell name.text >> give (scope ++ (name.text, n) ∷ []))
      (new_goes scope word select value sum)
      (λ x. first_then (give x) (λ n. spell name.text >> give (scope ++ (name.text, n) ∷ []))
      (given {Q = λ n. Sofar scope [] (n ∷ [])} x (λ m p. p))
      (λ n. first_then (spell name.text) (λ _. give (scope ++ (name.text, n) ∷ []))
      (spell_goes scope n name.text)
      (λ _. given (scope ++ (name.text, n) ∷ []) (λ m p. in_scope scope [] [] name.text n m p)))))
    where
      new : Expr
      new = New_expr word (More_values select value No_values)

  item_goes : (scope : Names ℕ) (item : BlockItem) → IsItem item → Goes (Sofar scope [] []) (flat_item g scope item) (λ inner. Sofar inner [] [])
  unfolding flat_item
  item_goes scope item (A_let name word select value sum) = let_goes scope name word select value sum
  item_goes scope item (An_act value act) = first_then (flat_expression g scope value) (λ _. give scope) (act_goes scope value act) (λ _. given scope (λ m p. p))

  items_goes : (scope : Names ℕ) (items : BlockItems) → AreItems items → Goes (Sofar scope [] []) (flat_items g scope items) (λ inner. Sofar inner [] [])
  unfolding flat_items
  items_goes scope items No_more = given scope (λ m p. p)
  items_goes scope items (One_more item rest is more) = first_then (flat_item g scope item) (λ inner. flat_items g inner rest) (item_goes scope item is) (λ inner. items_goes inner rest more)

  value_goes : (scope : Names ℕ) (brace : Place) (value : Value) → IsEnd value → Goes (Sofar scope [] []) (flat_value g scope brace value) (λ _. Sofar scope [] [])
  unfolding flat_value
  value_goes scope brace value No_end = unit_goes scope [] [] brace Unit_op (λ kinds fits numbers blocks plain. refl)
  value_goes scope brace value (An_end e act) = act_goes scope e act

  -- ---- the body

  -- where no command's value is a function, the commands go by kinds
  abbrev Done : Made → Type 0
  Done m = (m.clauses ≡ []) × (NoFunction m.commands → AllGive [] m.commands)

  abbrev inside : BlockItems → Value → Place → Part ℕ
  inside items value brace = flat_items g [] items >>= λ inner. flat_value g inner brace value

  inside_goes : (items : BlockItems) (value : Value) (brace : Place) → AreItems items → IsEnd value → Goes (Sofar [] [] []) (inside items value brace) (λ _. Done)
  inside_goes items value brace are end =
      first_then (flat_items g [] items) (λ inner. flat_value g inner brace value)
      (items_goes [] items are)
      (λ inner. weakened (λ m p. p) (λ _ m q. (q.0, λ none. let k = q.1 none in all_give [] k.kinds m.commands k.ends)) (value_goes inner brace value end))

  pub block_goes : (items : BlockItems) (value : Value) (brace : Place) → AreItems items → IsEnd value → Goes Fresh (flat_block g [] (The_block items value brace)) Bodied
  unfolding flat_block
  block_goes items value brace are end = record {
    clean = λ m none. goes.clean (start m) (same m.commands (part (start m)) none);
    leads = λ m none p. out m.commands (part (start m)) (goes.leads (start m) (same m.commands (part (start m)) none) (begins m p));
  }
    where
      part : Part ℕ
      part = inside items value brace

      goes : Goes (Sofar [] [] []) part (λ _. Done)
      goes = inside_goes items value brace are end

      start : Made → Made
      start m = record m { commands = [] }

      begins : (m : Made) → Fresh m → Sofar [] [] [] (start m)
      begins m fresh = (fresh.0, λ none. record { kinds = []; numbered = ap length fresh.1; ends = refl; fits = λ name x found. cc; numbers = tt; blocks = tt })

      same : (before : List Command) (c : Came ℕ) → (made_in (body_came brace before c)).faults ≡ [] → (made_in c).faults ≡ []
      same before (Came_to v made) none = none

      out : (before : List Command) (c : Came ℕ) → Done (made_in c) → Bodied (value_in (body_came brace before c)) (made_in (body_came brace before c))
      out before (Came_to v made) done = (done.0, λ none. subst (λ l. AllGive [] l) (sym (list_of_commands made.commands)) (done.1 (subst NoFunction (list_of_commands made.commands) none)))
