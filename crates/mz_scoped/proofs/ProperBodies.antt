-- The expressions and blocks of a source are proper, where so many brackets may be opened before them that in all no more are
-- open at once than may be.
use Rattle.std.proofs.Common.{◌≡◌, ◌≢◌, ℕ, ◌≤◌, false, true, List, [], refl, sym, subst, arith}
use Rattle.mz_grammar.specs.Brackets.{Neither}
use Rattle.mz_grammar.specs.Relations.{OneToken}
use Rattle.mz_types.specs.Words.{Spelling, turn_of}
use Rattle.mz_parse.specs.declared.bodies.Block.{Block}
use Rattle.mz_parse.specs.declared.bodies.BlockItem.{BlockItem}
use Rattle.mz_parse.specs.declared.bodies.Case.{Case}
use Rattle.mz_parse.specs.declared.bodies.Comparing.{Comparing}
use Rattle.mz_parse.specs.declared.bodies.Comparison.{Comparison}
use Rattle.mz_parse.specs.declared.bodies.Expression.{Expression}
use Rattle.mz_parse.specs.declared.bodies.Factor.{Factor}
use Rattle.mz_parse.specs.declared.bodies.FieldValue.{FieldValue}
use Rattle.mz_parse.specs.declared.bodies.Postfix.{Postfix}
use Rattle.mz_parse.specs.declared.bodies.Primary.{Primary}
use Rattle.mz_parse.specs.declared.bodies.Product.{Product}
use Rattle.mz_parse.specs.declared.bodies.Sum.{Sum}
use Rattle.mz_parse.specs.declared.bodies.Term.{Term}
use Rattle.mz_parse.specs.Grammar.{multiplying, adding, comparing, IsSelectCon, IsSelect, IsGiving, IsRetag, IsGive, IsTake, IsAcquire, IsRelease, IsNewLock, CallOver, UnitOver, GroupOver, ValueOver, ConstructOver, PrimaryOver, PostfixOver, FactorOver, ProductOver, TermOver, SumOver, ComparingOver, ComparisonOver, WriteOver, PrintOver, LetOver, ItemOver, BlockOver, IfOver, CaseOver, CasesOver, MatchOver, SpawnOver, ExpressionOver, IsExpression, IsBlock}
use Rattle.mz_parse.proofs.Forms.{multiplying_has, adding_has, comparing_has}
use Rattle.mz_scope.specs.Trees.{item_tree, expr_tree, primary_tree, comparison_tree, sum_tree, product_tree, block_tree, atom_trees}
use Rattle.mz_scope.proofs.TreeForms.{call_tree_is, group_tree_is, construct_tree_is, if_tree_is, match_tree_is, spawn_tree_is}
use Rattle.mz_scoped.proofs.Proper.{AllOf, IsProperExpr, IsProperBlock, IsProperItem}
use Rattle.mz_scoped.proofs.Spells.{Spells, then_so, weaker, behind, closed, either_spells, image_spells, such_spells, maybe_spells, many_spells, ended_spells, layered_spells, plain_spells, low_spells, up_spells, number_spells, key_spells, mark_spells, closing_brace, closing_paren, in_braces, in_parens, maybe_separated_spells, maybe_behind_spells}
use Rattle.mz_scoped.proofs.ProperTypes.{wider_atoms, AtomsAt, atoms_spell}
use Rattle.mz_scoped.proofs.ProperParts.{all_within, if_within, not_empty, selected_proper, write_proper, IsProperFactor, IsProperTerm, IsProperComparing, product_proper, sum_proper, comparison_proper, term_proper, comparing_proper, exprs_proper, values_proper, block_proper, arms_proper, some_arms}

module _ (bytes : List ℕ) where
  -- where no more than 200 brackets may be opened, these are proper

  -- an expression
  abbrev pub ExprAt : ℕ → Expression → Type 0
  ExprAt n e = n ≤ 200 → IsProperExpr (expr_tree bytes e)

  -- a primary
  abbrev PrimaryAt : ℕ → Primary → Type 0
  PrimaryAt n p = n ≤ 200 → IsProperExpr (primary_tree bytes p)

  -- a primary with selects behind it
  abbrev PostfixAt : ℕ → Postfix → Type 0
  PostfixAt n p = n ≤ 200 → IsProperExpr (primary_tree bytes p.base)

  -- what is behind a `*`, `/` or `%`
  abbrev FactorAt : ℕ → Factor → Type 0
  FactorAt n f = n ≤ 200 → IsProperFactor bytes f

  -- a product
  abbrev ProductAt : ℕ → Product → Type 0
  ProductAt n p = n ≤ 200 → IsProperExpr (product_tree bytes p)

  -- what is behind a `+` or `-`
  abbrev TermAt : ℕ → Term → Type 0
  TermAt n t = n ≤ 200 → IsProperTerm bytes t

  -- a sum
  abbrev SumAt : ℕ → Sum → Type 0
  SumAt n s = n ≤ 200 → IsProperExpr (sum_tree bytes s)

  -- what is behind a mark of comparison
  abbrev ComparingAt : ℕ → Comparing → Type 0
  ComparingAt n c = n ≤ 200 → IsProperComparing bytes c

  -- a comparison
  abbrev ComparisonAt : ℕ → Comparison → Type 0
  ComparisonAt n c = n ≤ 200 → IsProperExpr (comparison_tree bytes c)

  -- a field with its value
  abbrev ValueAt : ℕ → FieldValue → Type 0
  ValueAt n v = n ≤ 200 → IsProperExpr (expr_tree bytes v.value)

  -- an item of a block
  abbrev ItemAt : ℕ → BlockItem → Type 0
  ItemAt n i = n ≤ 200 → IsProperItem (item_tree bytes i)

  -- a block
  abbrev pub BlockAt : ℕ → Block → Type 0
  BlockAt n b = n ≤ 200 → IsProperBlock (block_tree bytes b)

  -- a case
  abbrev CaseAt : ℕ → Case → Type 0
  CaseAt n c = n ≤ 200 → IsProperBlock (block_tree bytes c.block)

  -- ---- parts without expressions

  -- up "."
  select_con_spells : Spells bytes false IsSelectCon (λ n t. Unit {0})
  select_con_spells = behind up_spells (λ con. image_spells (mark_spells 7 refl) (λ n t u. tt))

  -- "." [ up "." ] low
  select_spells : Spells bytes false IsSelect (λ n s. Unit {0})
  select_spells = behind (mark_spells 7 refl) (λ dot. behind (maybe_spells select_con_spells) (λ con. image_spells low_spells (λ n t u. tt)))

  -- [ "giving" atoms ]
  giving_spells : Spells bytes false IsGiving (AtomsAt bytes)
  giving_spells = maybe_behind_spells (key_spells 11) (weaker (atoms_spell bytes true) (λ n atoms h. h.1)) (λ n. tt)

  -- "retag" low "from" up "to" up
  retag_spells : Spells bytes false IsRetag ExprAt
  retag_spells = behind (key_spells 13) (λ word. behind low_spells (λ name. behind (key_spells 14) (λ begin. behind up_spells (λ from. behind (key_spells 15) (λ goal. image_spells up_spells (λ n t u le. tt))))))

  -- "give" low "to" low
  give_spells : Spells bytes false IsGive ExprAt
  give_spells = behind (key_spells 16) (λ word. behind low_spells (λ name. behind (key_spells 15) (λ goal. image_spells low_spells (λ n t u le. tt))))

  -- "take" low "from" low
  take_spells : Spells bytes false IsTake ExprAt
  take_spells = behind (key_spells 17) (λ word. behind low_spells (λ name. behind (key_spells 14) (λ begin. image_spells low_spells (λ n t u le. tt))))

  -- "acquire" low
  acquire_spells : Spells bytes false IsAcquire ExprAt
  acquire_spells = behind (key_spells 21) (λ word. image_spells low_spells (λ n t u le. tt))

  -- "release" low
  release_spells : Spells bytes false IsRelease ExprAt
  release_spells = behind (key_spells 22) (λ word. image_spells low_spells (λ n t u le. tt))

  -- what is locked stands in a bracket
  new_lock_spells : Spells bytes false IsNewLock PrimaryAt
  new_lock_spells =
      behind (key_spells 18) (λ word. in_parens (λ opening. then_so (atoms_spell bytes false) (λ guarded. image_spells closing_paren (λ k closing u atoms le.
      (atoms.0, wider_atoms k 199 (omega (arith, le)) (atom_trees bytes guarded) atoms.1)))))

  -- "*" | "/" | "%"
  multiplying_spells : Spells bytes false (OneToken multiplying) (λ n t. Unit {0})
  multiplying_spells = plain_spells (multiplying_has (λ k. turn_of k ≡ Neither) refl refl refl)

  -- "+" | "-"
  adding_spells : Spells bytes false (OneToken adding) (λ n t. Unit {0})
  adding_spells = plain_spells (adding_has (λ k. turn_of k ≡ Neither) refl refl)

  -- "==" | "!=" | "<" | "<=" | ">" | ">="
  comparing_mark : Spells bytes false (OneToken comparing) (λ n t. Unit {0})
  comparing_mark = plain_spells (comparing_has (λ k. turn_of k ≡ Neither) refl refl refl refl refl refl)

  -- ---- expressions, over those that stand in brackets

  module _ (X : Spelling Expression) (inner : Spells bytes false X ExprAt) where
    -- low "(" [ expression { "," expression } ] ")"
    call_over : Spells bytes false (CallOver X) PrimaryAt
    call_over =
        behind low_spells (λ callee. in_parens (λ opening. then_so (maybe_separated_spells (mark_spells 6 refl) inner) (λ arguments. image_spells closing_paren (λ k closing u all le.
        let within : k ≤ 200 = omega (arith, le) in
        subst IsProperExpr (sym (call_tree_is bytes callee arguments)) (exprs_proper bytes arguments (all_within _ within arguments all))))))

    -- "(" ")"
    unit_over : Spells bytes false (UnitOver X) PrimaryAt
    unit_over = in_parens (λ opening. image_spells closing_paren (λ k closing u le. tt))

    -- "(" expression ")"
    group_over : Spells bytes false (GroupOver X) PrimaryAt
    group_over =
        in_parens (λ opening. then_so inner (λ e. image_spells closing_paren (λ k closing u h le.
        let within : k ≤ 200 = omega (arith, le) in
        subst IsProperExpr (sym (group_tree_is bytes opening e)) (h within))))

    -- low "=" expression
    value_over : Spells bytes false (ValueOver X) ValueAt
    value_over = behind low_spells (λ field. behind (mark_spells 8 refl) (λ is. image_spells inner (λ n e h. h)))

    -- up "{" [ value { ";" value } ] "}"
    construct_over : Spells bytes false (ConstructOver X) PrimaryAt
    construct_over =
        behind up_spells (λ con. in_braces (λ opening. then_so (maybe_separated_spells (mark_spells 4 refl) value_over) (λ fields. image_spells closing_brace (λ k closing u all le.
        let within : k ≤ 200 = omega (arith, le) in
        subst IsProperExpr (sym (construct_tree_is bytes con fields)) (values_proper bytes fields (all_within _ within fields all))))))

    -- each alternative of a primary
    primary_over : Spells bytes false (PrimaryOver X) PrimaryAt
    primary_over =
        either_spells (image_spells number_spells (λ n t small le. small))
        (either_spells (image_spells low_spells (λ n t u le. tt))
        (either_spells call_over
        (either_spells unit_over
        (either_spells group_over
        (either_spells construct_over
        new_lock_spells)))))

    -- primary { select }
    postfix_over : Spells bytes false (PostfixOver X) PostfixAt
    postfix_over = then_so primary_over (λ base. image_spells (many_spells select_spells) (λ n selects all h. h))

    -- ("*" | "/" | "%") postfix
    factor_over : Spells bytes false (FactorOver X) FactorAt
    factor_over = behind multiplying_spells (λ mark. image_spells postfix_over (λ n part h le. selected_proper bytes (primary_tree bytes part.base) part.selects (h le)))

    -- postfix { factor }
    product_over : Spells bytes false (ProductOver X) ProductAt
    product_over = then_so postfix_over (λ one. image_spells (many_spells factor_over) (λ n factors all h le.
        product_proper bytes one factors (selected_proper bytes (primary_tree bytes one.base) one.selects (h le)) (all_within _ le factors all)))

    -- ("+" | "-") product
    term_over : Spells bytes false (TermOver X) TermAt
    term_over = behind adding_spells (λ mark. image_spells product_over (λ n product h le. term_proper bytes mark product (h le)))

    -- product { term }
    sum_over : Spells bytes false (SumOver X) SumAt
    sum_over = then_so product_over (λ one. image_spells (many_spells term_over) (λ n terms all h le. sum_proper bytes one terms (h le) (all_within _ le terms all)))

    -- ("==" | "!=" | "<" | "<=" | ">" | ">=") sum
    comparing_over : Spells bytes false (ComparingOver X) ComparingAt
    comparing_over = behind comparing_mark (λ mark. image_spells sum_over (λ n sum h le. comparing_proper bytes mark sum (h le)))

    -- sum [ comparing ]
    comparison_over : Spells bytes false (ComparisonOver X) ComparisonAt
    comparison_over = then_so sum_over (λ left. image_spells (maybe_spells comparing_over) (λ n right all h le. comparison_proper bytes left right (h le) (if_within _ le right all)))

    -- postfix "<-" comparison
    write_over : Spells bytes false (WriteOver X) ExprAt
    write_over = then_so (such_spells postfix_over) (λ target. behind (mark_spells 14 refl) (λ arrow. image_spells comparison_over (λ n value v h le.
        write_proper bytes (primary_tree bytes target.base) target.selects arrow.place (comparison_tree bytes value) (h le) (v le))))

    -- "print" comparison
    print_over : Spells bytes false (PrintOver X) ExprAt
    print_over = behind (key_spells 24) (λ word. image_spells comparison_over (λ n value h. h))

    -- "let" low "=" expression
    let_over : Spells bytes false (LetOver X) ItemAt
    let_over = behind (key_spells 6) (λ word. then_so low_spells (λ name. behind (mark_spells 8 refl) (λ is. image_spells inner (λ n value h low le. (not_empty _ low, h le)))))

    -- let | expression
    item_over : Spells bytes false (ItemOver X) ItemAt
    item_over = either_spells let_over (image_spells inner (λ n e h. h))

    -- "{" { item ";" } [item] "}"
    block_over : Spells bytes false (BlockOver X) BlockAt
    block_over = in_braces (λ opening. then_so (ended_spells (mark_spells 4 refl) item_over) (λ items. image_spells closing_brace (λ k closing u all le.
        let within : k ≤ 200 = omega (arith, le) in
        block_proper bytes opening items closing (all_within _ within items.0 all.0) (if_within _ within items.1 all.1))))

    -- "if" comparison "then" block "else" block ["giving" atoms]
    if_over : Spells bytes false (IfOver X) ExprAt
    if_over =
        behind (key_spells 7) (λ word. then_so comparison_over (λ test. behind (key_spells 8) (λ so. then_so block_over (λ one. behind (key_spells 9) (λ otherwise. then_so block_over (λ other.
        image_spells giving_spells (λ n giving g two_h one_h test_h le.
        subst IsProperExpr (sym (if_tree_is bytes word test one other giving)) (test_h le, one_h le, two_h le, wider_atoms n 200 le (atom_trees bytes giving) g))))))))

    -- up "->" block
    case_over : Spells bytes false (CaseOver X) CaseAt
    case_over = behind up_spells (λ con. behind (mark_spells 15 refl) (λ arrow. image_spells block_over (λ n block h. h)))

    -- case { case }
    cases_over : Spells bytes false (CasesOver X) (λ n cases. (cases ≢ []) × AllOf (CaseAt n) cases)
    cases_over = then_so case_over (λ one. image_spells (many_spells case_over) (λ n others all h. (λ e. cc, (h, all))))

    -- "match" low "{" case { case } "}" ["giving" atoms]
    match_over : Spells bytes false (MatchOver X) ExprAt
    match_over =
        behind (key_spells 10) (λ word. behind low_spells (λ name. in_braces (λ opening. then_so cases_over (λ cases. closed closing_brace (λ closing.
        image_spells giving_spells (λ n giving g k is all le.
        let within : k ≤ 200 = omega (arith, le) in
        let wide : n ≤ 200 = omega (arith, le, is) in
        subst IsProperExpr (sym (match_tree_is bytes word name cases giving)) (some_arms bytes cases all.0, arms_proper bytes cases (all_within _ within cases all.1), wider_atoms n 200 wide (atom_trees bytes giving) g)))))))

    -- "spawn" low "(" expression ")"
    spawn_over : Spells bytes false (SpawnOver X) ExprAt
    spawn_over =
        behind (key_spells 23) (λ word. behind low_spells (λ name. in_parens (λ opening. then_so inner (λ argument. image_spells closing_paren (λ k closing u h le.
        let within : k ≤ 200 = omega (arith, le) in
        subst IsProperExpr (sym (spawn_tree_is bytes word name argument)) (h within))))))

    -- each alternative of an expression
    expression_over : Spells bytes false (ExpressionOver X) ExprAt
    expression_over =
        either_spells (image_spells comparison_over (λ n c h. h))
        (either_spells write_over
        (either_spells print_over
        (either_spells if_over
        (either_spells match_over
        (either_spells retag_spells
        (either_spells give_spells
        (either_spells take_spells
        (either_spells acquire_spells
        (either_spells release_spells
        spawn_over)))))))))

  -- ---- in any number of layers

  -- an expression
  pub expression_spells : Spells bytes false IsExpression ExprAt
  expression_spells = layered_spells expression_over

  -- a block
  pub block_spells : Spells bytes false IsBlock BlockAt
  block_spells = block_over IsExpression expression_spells
