-- One more part of an expression or of a list came: each lemma goes through the definition's steps in order.
use Rattle.std.proofs.Common.{◌≡◌, ℕ, List, [], ◌∷◌, ◌++◌, Option, None, Some, refl, sym, ap, ap₂, ◌∙◌}
use Rattle.mz_tree.specs.declared.types.Place.{Place}
use Rattle.mz_tree.specs.declared.code.Arith.{Arith}
use Rattle.mz_tree.specs.Plain.{Atom, Has_atom, Lock_type, atoms_of}
use Rattle.mz_tree.specs.View.{plain_ty, plain_atoms}
use Rattle.mz_tree.specs.declared.types.Ty.{Lock}
use Rattle.mz_tree.specs.declared.types.Atom.{Atom as CodeAtom}
use Rattle.mz_tree.proofs.Views.{plain_lock}
use Rattle.mz_tree.specs.Code.{Unit_op, Arith_op, Write_op, If_op, Match_op, Command, Case, The_case, Body, cases_of}
use Rattle.std.specs.Prelude.{unwrap_or}
use Rattle.mz_scope.specs.declared.fault.Cause.TheVariants.{Shape, NotExhaustive}
use Rattle.mz_scope.specs.Syntax.{Word, FieldName, AtomTree, AtomTrees, No_atom_trees, More_atom_trees, Lock_tree, Select, Expr, Arith_expr, Read_expr, Write_expr, If_expr, Match_expr, Exprs, No_exprs, More_exprs, FieldValues, No_values, More_values, Block, The_block, BlockItem, Let_item, Plain_item, No_value, BlockItems, No_items, More_items, Arms, No_arms, More_arms}
use Rattle.mz_scope.specs.Names.{Names, Globals, ConEntry}
use Rattle.mz_scope.specs.Making.{Made, Came_to, goes_on, give, add_command, fault_if}
use Rattle.mz_scope.specs.Types.{number_of, name_in, con_by_name, is_field, flat_field_names, flat_typed, flat_atom, flat_atoms}
use Rattle.mz_scope.specs.Bodies.{name_value, given, select_con, field_in, with_number, is_misplaced, lacks_a_case, match_data, body_came, flat_expression, flat_expressions, flat_values, flat_cases, flat_block, flat_items, flat_item, flat_value}
use Rattle.mz_scope.specs.Trees.{items_of, let_items, value_of}
use Rattle.mz_scope.specs.Kinds.{read_step, flat_end}
use Rattle.mz_scope.proofs.Lists.{with_front, one_more, next_came}

module _ (g : Globals) (scope : Names ℕ) where
  -- a field is read
  pub read_leads : (e : Expr) (s : Select) (x : ℕ) (m m1 : Made) → flat_expression g scope e m ≡ Came_to x m1 → flat_expression g scope (Read_expr e s) m ≡ read_step g x s m1
  unfolding flat_expression
  read_leads e s x m m1 h = ap (goes_on (λ x. read_step g x s)) h

  -- a field is written
  pub write_leads : (e v : Expr) (s : Select) (place : Place) (x : ℕ) (con : Option ConEntry) (i y : ℕ) (m m1 m2 m3 m4 : Made) → flat_expression g scope e m ≡ Came_to x m1
      → select_con g s.con s.field m1 ≡ Came_to con m2 → field_in con s.field m2 ≡ Came_to i m3 → flat_expression g scope v m3 ≡ Came_to y m4
      → flat_expression g scope (Write_expr e s place v) m ≡ add_command place (Write_op x (number_of con) i y) m4
  unfolding flat_expression
  write_leads e v s place x con i y m m1 m2 m3 m4 h1 h2 h3 h4 =
      next_came _ (flat_expression g scope e m) x m1 (add_command place (Write_op x (number_of con) i y) m4) h1
      (next_came _ (select_con g s.con s.field m1) con m2 (add_command place (Write_op x (number_of con) i y) m4) h2
      (next_came _ (field_in con s.field m2) i m3 (add_command place (Write_op x (number_of con) i y) m4) h3
      (next_came (λ y. add_command place (Write_op x (number_of con) i y)) (flat_expression g scope v m3) y m4 (add_command place (Write_op x (number_of con) i y) m4) h4 refl)))

  -- two values and what the operator makes of them
  pub arith_leads : (left right : Expr) (operator : Arith) (place : Place) (x y : ℕ) (m m1 m2 : Made) → flat_expression g scope left m ≡ Came_to x m1 → flat_expression g scope right m1 ≡ Came_to y m2
      → flat_expression g scope (Arith_expr left operator place right) m ≡ add_command place (Arith_op operator x y) m2
  unfolding flat_expression
  arith_leads left right operator place x y m m1 m2 h1 h2 =
      next_came (λ x. λ made. goes_on (λ y. add_command place (Arith_op operator x y)) (flat_expression g scope right made)) (flat_expression g scope left m) x m1 (add_command place (Arith_op operator x y) m2) h1
      (ap (goes_on (λ y. add_command place (Arith_op operator x y))) h2)

  -- one of two blocks
  pub if_leads : (place : Place) (test : Expr) (one two : Block) (giving : AtomTrees) (x : ℕ) (b1 b2 : Body) (p : List (Atom ℕ)) (m m1 m2 m3 m4 : Made) → flat_expression g scope test m ≡ Came_to x m1 → flat_block g scope one m1 ≡ Came_to b1 m2
      → flat_block g scope two m2 ≡ Came_to b2 m3 → given g scope giving m3 ≡ Came_to p m4 → flat_expression g scope (If_expr place test one two giving) m ≡ add_command place (If_op x b1 b2 p) m4
  unfolding flat_expression
  if_leads place test one two giving x b1 b2 p m m1 m2 m3 m4 h1 h2 h3 h4 =
      next_came _ (flat_expression g scope test m) x m1 (add_command place (If_op x b1 b2 p) m4) h1
      (next_came _ (flat_block g scope one m1) b1 m2 (add_command place (If_op x b1 b2 p) m4) h2
      (next_came _ (flat_block g scope two m2) b2 m3 (add_command place (If_op x b1 b2 p) m4) h3
      (next_came (λ p. add_command place (If_op x b1 b2 p)) (given g scope giving m3) p m4 (add_command place (If_op x b1 b2 p) m4) h4 refl)))

  -- one of several blocks
  pub match_leads : (place : Place) (name : Word) (arms : Arms) (giving : AtomTrees) (x : ℕ) (cases : List Case) (p : List (Atom ℕ)) (m m1 m2 m3 m4 : Made) → name_value g scope name m ≡ Came_to x m1
      → fault_if (lacks_a_case g arms) NotExhaustive place m1 ≡ Came_to tt m2 → flat_cases g scope (match_data g arms) [] arms m2 ≡ Came_to cases m3 → given g scope giving m3 ≡ Came_to p m4
      → flat_expression g scope (Match_expr place name arms giving) m ≡ add_command place (Match_op x (unwrap_or (match_data g arms) 0) (cases_of cases) p) m4
  unfolding flat_expression
  match_leads place name arms giving x cases p m m1 m2 m3 m4 h1 h2 h3 h4 =
      let last = add_command place (Match_op x (unwrap_or (match_data g arms) 0) (cases_of cases) p) in
      next_came _ (name_value g scope name m) x m1 (last m4) h1
      (next_came _ (fault_if (lacks_a_case g arms) NotExhaustive place m1) tt m2 (last m4) h2
      (next_came _ (flat_cases g scope (match_data g arms) [] arms m2) cases m3 (last m4) h3
      (next_came (λ p. add_command place (Match_op x (unwrap_or (match_data g arms) 0) (cases_of cases) p)) (given g scope giving m3) p m4 (last m4) h4 refl)))

  -- one more expression of several
  pub expressions_more : (front : List ℕ) (one : Expr) (rest : Exprs) (x : ℕ) (m m1 : Made) → flat_expression g scope one m ≡ Came_to x m1
      → with_front front (flat_expressions g scope (More_exprs one rest) m) ≡ with_front (front ++ x ∷ []) (flat_expressions g scope rest m1)
  unfolding flat_expressions
  expressions_more front one rest x m m1 h =
      ap (λ c. with_front front (goes_on (λ x. λ made. goes_on (λ xs. give (x ∷ xs)) (flat_expressions g scope rest made)) c)) h ∙ one_more front x (flat_expressions g scope rest m1)

  -- one more field of a new block
  pub values_more : (con : Option ConEntry) (front : Names ℕ) (field : Word) (value : Expr) (rest : FieldValues) (x : ℕ) (m m1 m2 : Made) → is_field con field m ≡ Came_to tt m1 → flat_expression g scope value m1 ≡ Came_to x m2
      → with_front front (flat_values g scope con (More_values field value rest) m) ≡ with_front (front ++ (field.text, x) ∷ []) (flat_values g scope con rest m2)
  unfolding flat_values
  values_more con front field value rest x m m1 m2 h k =
      ap (λ c. with_front front (goes_on (λ _. λ made. goes_on (λ x. λ made. goes_on (λ others. give ((field.text, x) ∷ others)) (flat_values g scope con rest made)) (flat_expression g scope value made)) c)) h
      ∙ ap (λ c. with_front front (goes_on (λ x. λ made. goes_on (λ others. give ((field.text, x) ∷ others)) (flat_values g scope con rest made)) c)) k
      ∙ one_more front (field.text, x) (flat_values g scope con rest m2)

  -- one more case of a match
  pub cases_more : (d : Option ℕ) (earlier : List ℕ) (front : List Case) (name : Word) (one : Block) (rest : Arms) (con : Option ConEntry) (b : Body) (m m1 m2 m3 : Made) → con_by_name g name m ≡ Came_to con m1
      → fault_if (is_misplaced d earlier con) Shape name.place m1 ≡ Came_to tt m2 → flat_block g scope one m2 ≡ Came_to b m3
      → with_front front (flat_cases g scope d earlier (More_arms name one rest) m) ≡ with_front (front ++ The_case (number_of con) b ∷ []) (flat_cases g scope d (with_number earlier con) rest m3)
  unfolding flat_cases
  cases_more d earlier front name one rest con b m m1 m2 m3 h1 h2 h3 =
      ap (with_front front)
      (next_came _ (con_by_name g name m) con m1 _ h1
      (next_came (λ _. λ made. goes_on (λ b. λ made. goes_on (λ others. give (The_case (number_of con) b ∷ others)) (flat_cases g scope d (with_number earlier con) rest made)) (flat_block g scope one made)) (fault_if (is_misplaced d earlier con) Shape name.place m1) tt m2 _ h2
      (next_came (λ b. λ made. goes_on (λ others. give (The_case (number_of con) b ∷ others)) (flat_cases g scope d (with_number earlier con) rest made)) (flat_block g scope one m2) b m3 _ h3 refl)))
      ∙ one_more front (The_case (number_of con) b) (flat_cases g scope d (with_number earlier con) rest m3)

  -- one more item of a block
  pub items_more : (one : BlockItem) (rest : BlockItems) (inner : Names ℕ) (m m1 : Made) → flat_item g scope one m ≡ Came_to inner m1 → flat_items g scope (More_items one rest) m ≡ flat_items g inner rest m1
  unfolding flat_items
  items_more one rest inner m m1 h = ap (goes_on (λ inner. flat_items g inner rest)) h

  -- one more field of a structural type
  pub field_names_more : (con : Option ConEntry) (front : Names ℕ) (f : FieldName) (rest : List FieldName) (x : ℕ) (m m1 m2 : Made) → is_field con f.field m ≡ Came_to tt m1 → name_in scope f.name m1 ≡ Came_to x m2
      → with_front front (flat_field_names g scope con (f ∷ rest) m) ≡ with_front (front ++ (f.field.text, x) ∷ []) (flat_field_names g scope con rest m2)
  field_names_more con front f rest x m m1 m2 h k =
      ap (λ c. with_front front (goes_on (λ _. λ made. goes_on (λ x. λ made. goes_on (λ others. give ((f.field.text, x) ∷ others)) (flat_field_names g scope con rest made)) (name_in scope f.name made)) c)) h
      ∙ ap (λ c. with_front front (goes_on (λ x. λ made. goes_on (λ others. give ((f.field.text, x) ∷ others)) (flat_field_names g scope con rest made)) c)) k
      ∙ one_more front (f.field.text, x) (flat_field_names g scope con rest m2)

  -- one more permission
  pub atoms_more : (front : List (Atom ℕ)) (one : AtomTree) (rest : AtomTrees) (a : Atom ℕ) (m m1 : Made) → flat_atom g scope one m ≡ Came_to a m1
      → with_front front (flat_atoms g scope (More_atom_trees one rest) m) ≡ with_front (front ++ a ∷ []) (flat_atoms g scope rest m1)
  unfolding flat_atoms
  atoms_more front one rest a m m1 h =
      ap (λ c. with_front front (goes_on (λ a. λ made. goes_on (λ others. give (a ∷ others)) (flat_atoms g scope rest made)) c)) h ∙ one_more front a (flat_atoms g scope rest m1)

  -- nothing comes of an empty list
  pub no_atoms_came : (m : Made) → flat_atoms g scope No_atom_trees m ≡ Came_to [] m
  unfolding flat_atoms
  no_atoms_came m = refl

  pub no_expressions_came : (m : Made) → flat_expressions g scope No_exprs m ≡ Came_to [] m
  unfolding flat_expressions
  no_expressions_came m = refl

  pub no_values_came : (con : Option ConEntry) (m : Made) → flat_values g scope con No_values m ≡ Came_to [] m
  unfolding flat_values
  no_values_came con m = refl

  pub no_cases_came : (d : Option ℕ) (earlier : List ℕ) (m : Made) → flat_cases g scope d earlier No_arms m ≡ Came_to [] m
  unfolding flat_cases
  no_cases_came d earlier m = refl

  -- a lock's permissions came, and so its type
  pub lock_came : (x : ℕ) (guarded : AtomTrees) (atoms : List CodeAtom) (m m1 : Made) → flat_atoms g scope guarded m ≡ Came_to (plain_atoms atoms) m1 → flat_typed g scope x (Lock_tree guarded) m ≡ Came_to (Has_atom x (plain_ty (Lock atoms))) m1
  unfolding flat_typed
  lock_came x guarded atoms m m1 h = ap (goes_on (λ p. give (Has_atom x (Lock_type (atoms_of p))))) h ∙ ap (λ t. Came_to (Has_atom x t) m1) (sym (plain_lock atoms))

  -- a block's items came, and then its end: a body with the commands that were made since it began
  pub block_came : (bytes : List ℕ) (items : List BlockItem) (last : Option BlockItem) (brace : Place) (inner : Names ℕ) (before : List Command) (value : ℕ) (body : Body) (m0 m1 m2 m3 m4 : Made) → before ≡ m0.commands → m1 ≡ record m0 { commands = [] }
      → ((behind : BlockItems) → flat_items g scope (items_of bytes items behind) m1 ≡ flat_items g inner behind m2) → flat_end g inner brace last m2 ≡ Came_to value m3 → body_came brace before (Came_to value m3) ≡ Came_to body m4
      → flat_block g scope (The_block (items_of bytes items (let_items last)) (value_of last) brace) m0 ≡ Came_to body m4
  unfolding flat_block
  block_came bytes items last brace inner before value body m0 m1 m2 m3 m4 kept begun through ended closed =
      ap₂ (λ commands came. body_came brace commands came) (sym kept)
      (ap (λ made. goes_on (λ inner. flat_value g inner brace (value_of last)) (flat_items g scope (items_of bytes items (let_items last)) made)) (sym begun)
      ∙ ap (goes_on (λ inner. flat_value g inner brace (value_of last))) (through (let_items last)) ∙ ended)
      ∙ closed

  -- the end of a block: a `let` and then `()` at the brace, or a value
  pub end_let : (name : Word) (value : Expr) (brace : Place) (inner : Names ℕ) (m m1 : Made) → flat_item g scope (Let_item name value) m ≡ Came_to inner m1 → flat_end g scope brace (Some (Let_item name value)) m ≡ add_command brace Unit_op m1
  unfolding flat_items flat_value
  end_let name value brace inner m m1 h = ap (λ c. goes_on (λ inner. flat_value g inner brace No_value) (goes_on (λ inner. flat_items g inner No_items) c)) h

  pub end_plain : (value : Expr) (brace : Place) (m : Made) → flat_end g scope brace (Some (Plain_item value)) m ≡ flat_expression g scope value m
  unfolding flat_items flat_value
  end_plain value brace m = refl

  pub end_none : (brace : Place) (m : Made) → flat_end g scope brace None m ≡ add_command brace Unit_op m
  unfolding flat_items flat_value
  end_none brace m = refl
