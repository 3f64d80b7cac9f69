-- The body of a function that was read: its names are bound and numbered in order, and its shapes fit.
use Rattle.std.proofs.Common.{◌≡◌, ℕ, List, [], ◌++◌, map, length, refl, sym, ap, ◌∙◌, subst}
use Rattle.std.proofs.lemmas.List.{length-map}
use Rattle.mz_tree.specs.declared.types.Place.{Place}
use Rattle.mz_tree.specs.Code.{Body}
use Rattle.mz_tree.specs.Programs.{Program}
use Rattle.mz_scope.specs.Syntax.{Word, Expr, Number_expr, Unit_expr, Name_expr, Arith_expr, Call_expr, New_expr, Read_expr, Write_expr, New_lock_expr, Print_expr, If_expr, Match_expr, Retag_expr, Give_expr, Take_expr, Acquire_expr, Release_expr, Spawn_expr, Exprs, No_exprs, More_exprs, FieldValues, No_values, More_values, Block, The_block, BlockItem, Let_item, Plain_item, BlockItems, No_items, More_items, Value, No_value, The_value, Arms, No_arms, More_arms}
use Rattle.mz_scope.specs.Names.{Names, numbered, Globals}
use Rattle.mz_scope.specs.Making.{CoreName, Made, Came, Came_to, Part}
use Rattle.mz_scope.specs.Bodies.{flat_block}
use Rattle.mz_scope.specs.Declarations.{FunctionBody, param_name, body_made, with_params}
use Rattle.mz_tree.specs.Scoped.{IsBody, names_below, names_after, adopting_body}
use Rattle.mz_scoped.proofs.Proper.{AllOf, IsProperExpr, AreProperExprs, AreProperValues, IsProperBlock, IsProperItem, AreProperItems, IsProperValue, AreProperArms}
use Rattle.mz_scoped.proofs.Grounds.{Grounds, pairs_of}
use Rattle.mz_scoped.proofs.Goes.{Goes, value_in, made_in}
use Rattle.mz_scoped.proofs.KeptNames.{spells_all}
use Rattle.mz_scoped.proofs.FineCommands.{IsSound, AreLocal}
use Rattle.mz_scoped.proofs.LocalNames.{params_local, params_sound}
use Rattle.mz_scoped.proofs.ScopedParts.{IsBegun}
use Rattle.mz_scoped.proofs.ScopedExpressions.{ExprGoes, ExprsGo, ValuesGo, number_goes, unit_expr_goes, name_expr_goes, arith_goes, print_goes, call_goes, spawn_goes, no_exprs_go, more_exprs_go, new_goes, no_values_go, more_values_go, read_goes, write_goes, retag_goes, give_goes, take_goes, acquire_goes, release_goes, lock_goes}
use Rattle.mz_scoped.proofs.ScopedBlocks.{ItemGoes, ItemsGo, ValueGoes, plain_item_goes, let_goes, no_items_go, more_items_go, no_value_goes, the_value_goes, InScope, BodyMade, BlockGoes, block_goes}
use Rattle.mz_scoped.proofs.ScopedBranches.{CasesGo, if_goes, no_cases_go, more_cases_go, match_goes}

module _ (p : Program) (g : Globals) (grounds : Grounds p g) (spelling : List (List ℕ)) where
  -- ---- each part of a body

  mutual
    -- expressions
    pub expression_goes : (scope : Names ℕ) (e : Expr) → IsProperExpr e → ExprGoes p g grounds spelling scope e
    expression_goes scope (Number_expr n place) proper = number_goes p g grounds spelling scope n place proper
    expression_goes scope (Unit_expr place) proper = unit_expr_goes p g grounds spelling scope place
    expression_goes scope (Name_expr name) proper = name_expr_goes p g grounds spelling scope name
    expression_goes scope (Arith_expr left operator place right) proper = arith_goes p g grounds spelling scope left operator place right (expression_goes scope left proper.0) (expression_goes scope right proper.1)
    expression_goes scope (Call_expr callee arguments) proper = call_goes p g grounds spelling scope callee arguments (expressions_go scope arguments proper)
    expression_goes scope (New_expr name fields) proper = new_goes p g grounds spelling scope name fields (values_go scope fields proper)
    expression_goes scope (Read_expr block select) proper = read_goes p g grounds spelling scope block select (expression_goes scope block proper)
    expression_goes scope (Write_expr block select place value) proper = write_goes p g grounds spelling scope block select place value (expression_goes scope block proper.0) (expression_goes scope value proper.1)
    expression_goes scope (New_lock_expr place guarded) proper = lock_goes p g grounds spelling scope place guarded proper.0 proper.1
    expression_goes scope (Print_expr place value) proper = print_goes p g grounds spelling scope place value (expression_goes scope value proper)
    expression_goes scope (If_expr place test one two giving) proper =
        if_goes p g grounds spelling scope place test one two giving (expression_goes scope test proper.0) (the_block_goes scope one proper.1) (the_block_goes scope two proper.2) proper.3
    expression_goes scope (Match_expr place name arms giving) proper = match_goes p g grounds spelling scope place name arms giving proper.0 (cases_go scope arms proper.1) proper.2
    expression_goes scope (Retag_expr place name old new) proper = retag_goes p g grounds spelling scope place name old new
    expression_goes scope (Give_expr place name adopter) proper = give_goes p g grounds spelling scope place name adopter
    expression_goes scope (Take_expr place name adopter) proper = take_goes p g grounds spelling scope place name adopter
    expression_goes scope (Acquire_expr place name) proper = acquire_goes p g grounds spelling scope place name
    expression_goes scope (Release_expr place name) proper = release_goes p g grounds spelling scope place name
    expression_goes scope (Spawn_expr place callee argument) proper = spawn_goes p g grounds spelling scope place callee argument (expression_goes scope argument proper)

    -- arguments
    pub expressions_go : (scope : Names ℕ) (all : Exprs) → AreProperExprs all → ExprsGo p g grounds spelling scope all
    expressions_go scope No_exprs proper = no_exprs_go p g grounds spelling scope
    expressions_go scope (More_exprs one rest) proper = more_exprs_go p g grounds spelling scope one rest (expression_goes scope one proper.0) (expressions_go scope rest proper.1)

    -- fields
    pub values_go : (scope : Names ℕ) (all : FieldValues) → AreProperValues all → ValuesGo p g grounds spelling scope all
    values_go scope No_values proper = no_values_go p g grounds spelling scope
    values_go scope (More_values field value rest) proper = more_values_go p g grounds spelling scope field value rest (expression_goes scope value proper.0) (values_go scope rest proper.1)

    -- cases
    pub cases_go : (scope : Names ℕ) (arms : Arms) → AreProperArms arms → CasesGo p g grounds spelling scope arms
    cases_go scope No_arms proper = no_cases_go p g grounds spelling scope
    cases_go scope (More_arms name one rest) proper = more_cases_go p g grounds spelling scope name one rest (the_block_goes scope one proper.0) (cases_go scope rest proper.1)

    -- blocks
    pub the_block_goes : (scope : Names ℕ) (block : Block) → IsProperBlock block → BlockGoes p g grounds spelling scope block
    the_block_goes scope (The_block items value brace) proper = block_goes p g grounds spelling scope items value brace (items_go scope items proper.0) (λ inner. last_goes inner brace value proper.1)

    -- the value of a block
    pub last_goes : (scope : Names ℕ) (brace : Place) (value : Value) → IsProperValue value → ValueGoes p g grounds spelling scope brace value
    last_goes scope brace No_value proper = no_value_goes p g grounds spelling scope brace
    last_goes scope brace (The_value value) proper = the_value_goes p g grounds spelling scope brace value (expression_goes scope value proper)

    -- items
    pub items_go : (scope : Names ℕ) (items : BlockItems) → AreProperItems items → ItemsGo p g grounds spelling scope items
    items_go scope No_items proper = no_items_go p g grounds spelling scope
    items_go scope (More_items one rest) proper = more_items_go p g grounds spelling scope one rest (item_goes scope one proper.0) (λ inner. items_go inner rest proper.1)

    -- one item
    pub item_goes : (scope : Names ℕ) (item : BlockItem) → IsProperItem item → ItemGoes p g grounds spelling scope item
    item_goes scope (Let_item name value) proper = let_goes p g grounds spelling scope name value proper.0 (expression_goes scope value proper.1)
    item_goes scope (Plain_item value) proper = plain_item_goes p g grounds spelling scope value (expression_goes scope value proper)

-- ---- the body of a function

-- the body of a function and its core names
pub record IsScopedBody (p : Program) (count : ℕ) (made : FunctionBody) : Type 0 where
  pub body : IsBody p (map (λ (n : CoreName). n.spelling) made.names) (names_below count) count made.body
  pub spelled : length made.names ≡ names_after count made.body

module _ (p : Program) (g : Globals) (grounds : Grounds p g) (params : List Word) (block : Block) (proper : IsProperBlock block) where
  -- the body's part, and what is made where it begins
  abbrev part : Part Body
  part = flat_block g (numbered 0 params) block

  abbrev start : Made → Made
  start m = record m { names = map param_name params }

  -- it goes, however the function is spelled in the end
  goes : (spelling : List (List ℕ)) (m : Made) → Goes (λ old. old ≡ start m) part (BodyMade p g grounds spelling (numbered 0 params) (start m))
  goes spelling m = the_block_goes p g grounds spelling (numbered 0 params) block proper (start m)

  -- no fault is taken back at its end
  same : (c : Came Body) → (made_in (body_made c)).faults ≡ [] → (made_in c).faults ≡ []
  same (Came_to body made) none = none

  -- what holds at its end
  abbrev BodyIs : Made → FunctionBody → Made → Type 0
  BodyIs old made m = IsScopedBody p (length params) made × (pairs_of m.clauses ≡ pairs_of old.clauses ++ adopting_body made.body)

  -- at its end it is known how the function is spelled
  ended : (old : Made) (c : Came Body) → BodyMade p g grounds (map (λ (n : CoreName). n.spelling) (made_in c).names) (numbered 0 params) (start old) (value_in c) (made_in c) → BodyIs old (value_in (body_made c)) (made_in (body_made c))
  ended old (Came_to body made) all =
      let spelling : List (List ℕ) = map (λ (n : CoreName). n.spelling) made.names in
      let count : length (map param_name params) ≡ length params = length-map params param_name in
      let begun : IsBegun p spelling (record { here = names_below (length params); old = start old; scope = numbered 0 params }) =
      subst (λ n. AllOf (IsSound p spelling n) (names_below (length params)) × AreLocal p spelling (names_below (length params)) n (numbered 0 params)) (sym count) (params_sound p spelling (length params), params_local p spelling params) in
      let in_scope : InScope p g grounds spelling (names_below (length params)) (start old) body made = (all (spells_all made.names)).1 (names_below (length params)) begun in (
        record {
          body = subst (λ n. IsBody p spelling (names_below (length params)) n body) count in_scope.is;
          spelled = in_scope.count ∙ ap (λ n. names_after n body) count;
        },
        in_scope.pairs,
      )

  -- the body that a block comes to, with these parameters
  pub body_goes : (old : Made) → Goes (λ m. m ≡ old) (with_params params (flat_block g (numbered 0 params) block)) (λ made m. IsScopedBody p (length params) made × (pairs_of m.clauses ≡ pairs_of old.clauses ++ adopting_body made.body))
  body_goes old = record {
    clean = λ m none. (goes [] m).clean (start m) (same (part (start m)) none);
    leads = λ m none is. subst (λ o. BodyIs o (value_in (body_made (part (start m)))) (made_in (body_made (part (start m))))) is (ended m (part (start m)) (from m none));
  }
    where
      from : (m : Made) → (made_in (body_made (part (start m)))).faults ≡ [] → BodyMade p g grounds (map (λ (n : CoreName). n.spelling) (made_in (part (start m))).names) (numbered 0 params) (start m) (value_in (part (start m))) (made_in (part (start m)))
      from m none =
          let spelling : List (List ℕ) = map (λ (n : CoreName). n.spelling) (made_in (part (start m))).names in
          (goes spelling m).leads (start m) (same (part (start m)) none) refl
