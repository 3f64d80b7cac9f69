-- The bodies of functions, part after part, as functions that read from the front of a list of tokens. d is how many brackets
-- may be opened more, and `inner` reads what stands inside a bracket.
use Rattle.std.specs.Prelude.{ℕ, zero, suc, Bool, true, false, List, [], ◌∷◌, Option, Ok, Err, ◌||◌, if◌then◌else◌}
use Rattle.mz_grammar.specs.Reading.{Read, Wrong, ◌>>=◌, token_at, open_at, choose, maybe_at, many, Round, rounds, ended_round}
use Rattle.mz_token.specs.declared.token.Kind.{Kind}
use Rattle.mz_token.specs.declared.token.Token.{Token}
use Rattle.mz_token.specs.Tokens.{is_lower, is_upper, is_number, is_key, is_mark}
use Rattle.mz_types.specs.declared.tree.SurfaceAtom.{SurfaceAtom}
use Rattle.mz_types.specs.Reading.{atoms_by, atoms_at}
use Rattle.mz_types.specs.Reading as types
use Rattle.mz_types.specs.Words.{lower, upper, number, key, mark}
use Rattle.mz_parse.specs.declared.bodies.Block.{Block}
use Rattle.mz_parse.specs.declared.bodies.BlockItem.{BlockItem}
use Rattle.mz_parse.specs.declared.bodies.BlockItem as item
use Rattle.mz_parse.specs.declared.bodies.Case.{Case}
use Rattle.mz_parse.specs.declared.bodies.Comparing.{Comparing}
use Rattle.mz_parse.specs.declared.bodies.Comparison.{Comparison}
use Rattle.mz_parse.specs.declared.bodies.Expression.{Expression}
use Rattle.mz_parse.specs.declared.bodies.Expression as expression
use Rattle.mz_parse.specs.declared.bodies.Factor.{Factor}
use Rattle.mz_parse.specs.declared.bodies.FieldValue.{FieldValue}
use Rattle.mz_parse.specs.declared.bodies.Postfix.{Postfix}
use Rattle.mz_parse.specs.declared.bodies.Primary.{Primary}
use Rattle.mz_parse.specs.declared.bodies.Primary as primary
use Rattle.mz_parse.specs.declared.bodies.Product.{Product}
use Rattle.mz_parse.specs.declared.bodies.Select.{Select}
use Rattle.mz_parse.specs.declared.bodies.Sum.{Sum}
use Rattle.mz_parse.specs.declared.bodies.Term.{Term}
use Rattle.mz_parse.specs.Trees.{block_of, case_of, comparison_of, comparing_of, sum_of, term_of, product_of, factor_of, postfix_of, select_of, field_value_of, selects}
use Rattle.mz_parse.specs.Grammar.{multiplying, adding, comparing}

-- one more, behind its separator
unfoldable pub next_at : {A : Type 0} → (Token → Bool) → (List Token → Read Token A) → List Token → Read Token A
next_at sep p ts = do
  separator ← token_at sep ts
  p separator.1

-- one, and each further one behind a separator
unfoldable pub separated_at : {A : Type 0} → (Token → Bool) → (List Token → Read Token A) → List Token → Read Token (List A)
separated_at sep p ts = do
  one ← p ts
  others ← many sep (next_at sep p) one.1
  Ok (one.0 ∷ others.0, others.1)

-- ---- parts without expressions

unfoldable pub select_con_at : List Token → Read Token Token
select_con_at ts = do
  con ← token_at upper ts
  dot ← token_at (mark 7) con.1
  Ok (con.0, dot.1)

unfoldable pub select_at : List Token → Read Token Select
select_at ts = do
  dot ← token_at (mark 7) ts
  con ← maybe_at upper select_con_at dot.1
  field ← token_at lower con.1
  Ok (select_of con.0 field.0, field.1)

unfoldable pub number_at : List Token → Read Token Primary
number_at ts = do
  value ← token_at number ts
  Ok (primary.Number value.0, value.1)

unfoldable pub retag_at : List Token → Read Token Expression
retag_at ts = do
  word ← token_at (key 13) ts
  name ← token_at lower word.1
  begin ← token_at (key 14) name.1
  from ← token_at upper begin.1
  goal ← token_at (key 15) from.1
  to ← token_at upper goal.1
  Ok (expression.Retag word.0 name.0 from.0 to.0, to.1)

unfoldable pub give_at : List Token → Read Token Expression
give_at ts = do
  word ← token_at (key 16) ts
  name ← token_at lower word.1
  goal ← token_at (key 15) name.1
  to ← token_at lower goal.1
  Ok (expression.Give word.0 name.0 to.0, to.1)

unfoldable pub take_at : List Token → Read Token Expression
take_at ts = do
  word ← token_at (key 17) ts
  name ← token_at lower word.1
  begin ← token_at (key 14) name.1
  from ← token_at lower begin.1
  Ok (expression.Take word.0 name.0 from.0, from.1)

unfoldable pub acquire_at : List Token → Read Token Expression
acquire_at ts = do
  word ← token_at (key 21) ts
  name ← token_at lower word.1
  Ok (expression.Acquire word.0 name.0, name.1)

unfoldable pub release_at : List Token → Read Token Expression
release_at ts = do
  word ← token_at (key 22) ts
  name ← token_at lower word.1
  Ok (expression.Release word.0 name.0, name.1)

-- inside the bracket of a `newlock`
unfoldable pub guarded_by : ℕ → List Token → Read Token (List SurfaceAtom)
guarded_by d ts = atoms_by false (types.below false d) ts

module _ (d : ℕ) where
  unfoldable pub giving_by : List Token → Read Token (List SurfaceAtom)
  giving_by ts = choose (key 11) (λ others. token_at (key 11) others >>= λ word. atoms_at true d word.1) (λ others. Ok ([], others)) ts

  unfoldable pub new_lock_by : List Token → Read Token Primary
  new_lock_by ts = do
    word ← token_at (key 18) ts
    opening ← open_at (mark 2) d word.1
    guarded ← guarded_by d opening.1
    closing ← token_at (mark 3) guarded.1
    Ok (primary.NewLock word.0 guarded.0, closing.1)

-- ---- inside brackets

-- what stands there: an expression, or a block
abbrev pub Inner : Type 0
Inner = (List Token → Read Token Expression) × (List Token → Read Token Block)

module _ (inner : Inner) where
  unfoldable pub argument_by : List Token → Read Token Expression
  argument_by ts = inner.0 ts

  unfoldable pub arguments_by : List Token → Read Token (List Expression)
  arguments_by ts = choose (mark 3) (λ others. Ok ([], others)) (separated_at (mark 6) argument_by) ts

  unfoldable pub grouped_by : Token → List Token → Read Token Primary
  grouped_by left ts = choose (mark 3) (λ others. token_at (mark 3) others >>= λ closing. Ok (primary.Unit left, closing.1))
      (λ others. argument_by others >>= λ value. token_at (mark 3) value.1 >>= λ closing. Ok (primary.Group left value.0, closing.1)) ts

  unfoldable pub value_by : List Token → Read Token FieldValue
  value_by ts = do
    field ← token_at lower ts
    is ← token_at (mark 8) field.1
    value ← argument_by is.1
    Ok (field_value_of field.0 value.0, value.1)

  unfoldable pub values_by : List Token → Read Token (List FieldValue)
  values_by ts = choose (mark 1) (λ others. Ok ([], others)) (separated_at (mark 4) value_by) ts

  unfoldable pub let_by : List Token → Read Token BlockItem
  let_by ts = do
    word ← token_at (key 6) ts
    name ← token_at lower word.1
    is ← token_at (mark 8) name.1
    value ← argument_by is.1
    Ok (item.Let word.0 name.0 value.0, value.1)

  unfoldable pub item_by : List Token → Read Token BlockItem
  item_by ts = choose (key 6) let_by (λ others. argument_by others >>= λ value. Ok (item.Plain value.0, value.1)) ts

  unfoldable pub round_by : List Token → Read Token (Round BlockItem (Option BlockItem))
  round_by ts = ended_round (mark 1) (mark 4) item_by ts

  unfoldable pub items_by : List Token → Read Token (List BlockItem × Option BlockItem)
  items_by ts = rounds round_by ts

  unfoldable pub case_by : List Token → Read Token Case
  case_by ts = do
    con ← token_at upper ts
    arrow ← token_at (mark 15) con.1
    block ← inner.1 arrow.1
    Ok (case_of con.0 block.0, block.1)

  unfoldable pub cases_by : List Token → Read Token (List Case)
  cases_by ts = do
    one ← case_by ts
    others ← many upper case_by one.1
    Ok (one.0 ∷ others.0, others.1)

-- ---- blocks and expressions

-- what a postfix begins with
abbrev pub is_beginning : Kind → Bool
is_beginning k = is_number k || (is_lower k || (is_mark 2 k || (is_upper k || is_key 18 k)))

abbrev pub beginning : Token → Bool
beginning t = is_beginning t.kind

module _ (d : ℕ) (inner : Inner) where
  unfoldable pub call_by : Token → List Token → Read Token Primary
  call_by callee ts = do
    opening ← open_at (mark 2) d ts
    arguments ← arguments_by inner opening.1
    closing ← token_at (mark 3) arguments.1
    Ok (primary.Call callee arguments.0, closing.1)

  unfoldable pub named_by : List Token → Read Token Primary
  named_by ts = do
    name ← token_at lower ts
    choose (mark 2) (call_by name.0) (λ others. Ok (primary.Name name.0, others)) name.1

  unfoldable pub group_by : List Token → Read Token Primary
  group_by ts = do
    opening ← open_at (mark 2) d ts
    grouped_by inner opening.0 opening.1

  unfoldable pub construct_by : List Token → Read Token Primary
  construct_by ts = do
    con ← token_at upper ts
    opening ← open_at (mark 0) d con.1
    fields ← values_by inner opening.1
    closing ← token_at (mark 1) fields.1
    Ok (primary.Construct con.0 fields.0, closing.1)

  unfoldable pub primary_by : List Token → Read Token Primary
  primary_by ts = choose number number_at (choose lower named_by (choose (mark 2) group_by (choose upper construct_by (new_lock_by d)))) ts

  unfoldable pub postfix_by : List Token → Read Token Postfix
  postfix_by ts = do
    base ← primary_by ts
    parts ← many (mark 7) select_at base.1
    Ok (postfix_of base.0 parts.0, parts.1)

  unfoldable pub factor_by : List Token → Read Token Factor
  factor_by ts = do
    sign ← token_at multiplying ts
    part ← postfix_by sign.1
    Ok (factor_of sign.0 part.0, part.1)

  -- .. behind its first postfix, as the next two
  unfoldable pub product_after : Postfix → List Token → Read Token Product
  product_after one ts = do
    factors ← many multiplying factor_by ts
    Ok (product_of one factors.0, factors.1)

  unfoldable pub product_by : List Token → Read Token Product
  product_by ts = do
    one ← postfix_by ts
    product_after one.0 one.1

  unfoldable pub term_by : List Token → Read Token Term
  term_by ts = do
    sign ← token_at adding ts
    product ← product_by sign.1
    Ok (term_of sign.0 product.0, product.1)

  unfoldable pub sum_after : Postfix → List Token → Read Token Sum
  sum_after one ts = do
    product ← product_after one ts
    terms ← many adding term_by product.1
    Ok (sum_of product.0 terms.0, terms.1)

  unfoldable pub sum_by : List Token → Read Token Sum
  sum_by ts = do
    one ← postfix_by ts
    sum_after one.0 one.1

  unfoldable pub comparing_by : List Token → Read Token Comparing
  comparing_by ts = do
    sign ← token_at comparing ts
    right ← sum_by sign.1
    Ok (comparing_of sign.0 right.0, right.1)

  unfoldable pub comparison_after : Postfix → List Token → Read Token Comparison
  comparison_after one ts = do
    left ← sum_after one ts
    right ← maybe_at comparing comparing_by left.1
    Ok (comparison_of left.0 right.0, right.1)

  unfoldable pub comparison_by : List Token → Read Token Comparison
  comparison_by ts = do
    one ← postfix_by ts
    comparison_after one.0 one.1

  unfoldable pub plain_after : Postfix → List Token → Read Token Expression
  plain_after one ts = do
    value ← comparison_after one ts
    Ok (expression.Plain value.0, value.1)

  unfoldable pub write_after : Postfix → List Token → Read Token Expression
  write_after target ts = do
    arrow ← token_at (mark 14) ts
    value ← comparison_by arrow.1
    Ok (expression.Write target arrow.0 value.0, value.1)

  -- a comparison, or a write: told apart behind the first postfix
  unfoldable pub simple_by : List Token → Read Token Expression
  simple_by ts = do
    one ← postfix_by ts
    if selects one.0 then choose (mark 14) (write_after one.0) (plain_after one.0) one.1 else plain_after one.0 one.1

  unfoldable pub print_by : List Token → Read Token Expression
  print_by ts = do
    word ← token_at (key 24) ts
    value ← comparison_by word.1
    Ok (expression.Print word.0 value.0, value.1)

  unfoldable pub block_by : List Token → Read Token Block
  block_by ts = do
    opening ← open_at (mark 0) d ts
    items ← items_by inner opening.1
    closing ← token_at (mark 1) items.1
    Ok (block_of opening.0 items.0 closing.0, closing.1)

  unfoldable pub if_by : List Token → Read Token Expression
  if_by ts = do
    word ← token_at (key 7) ts
    test ← comparison_by word.1
    so ← token_at (key 8) test.1
    one ← block_by so.1
    otherwise ← token_at (key 9) one.1
    other ← block_by otherwise.1
    giving ← giving_by d other.1
    Ok (expression.If word.0 test.0 one.0 other.0 giving.0, giving.1)

  unfoldable pub match_by : List Token → Read Token Expression
  match_by ts = do
    word ← token_at (key 10) ts
    name ← token_at lower word.1
    opening ← open_at (mark 0) d name.1
    cases ← cases_by inner opening.1
    closing ← token_at (mark 1) cases.1
    giving ← giving_by d closing.1
    Ok (expression.Match word.0 name.0 cases.0 giving.0, giving.1)

  unfoldable pub spawn_by : List Token → Read Token Expression
  spawn_by ts = do
    word ← token_at (key 23) ts
    name ← token_at lower word.1
    opening ← open_at (mark 2) d name.1
    argument ← argument_by inner opening.1
    closing ← token_at (mark 3) argument.1
    Ok (expression.Spawn word.0 name.0 argument.0, closing.1)

  unfoldable pub expression_by : List Token → Read Token Expression
  expression_by ts =
      choose beginning simple_by
      (choose (key 24) print_by
      (choose (key 7) if_by
      (choose (key 10) match_by
      (choose (key 13) retag_at
      (choose (key 16) give_at
      (choose (key 17) take_at
      (choose (key 21) acquire_at
      (choose (key 22) release_at
      spawn_by)))))))) ts

-- what stands inside a bracket that is counted already; without one nothing is asked
unfoldable pub within : ℕ → Inner
within zero = ((λ ts. Err (Wrong ts)), (λ ts. Err (Wrong ts)))
within (suc d) = (expression_by d (within d), block_by d (within d))
