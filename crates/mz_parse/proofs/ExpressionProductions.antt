-- Each reader of blocks and expressions reads what the grammar says: production by production, over what reads inside brackets.
-- Where the reader takes the first postfix of a comparison before it knows what it is a part of, the grammar is grouped likewise.
use Rattle.std.proofs.Common.{◌≡◌, ℕ, suc, Bool, true, false, List, [], ◌∷◌, ◌++◌, Option, Some, None, refl, sym, ap, subst, ◌∙◌, ◌||◌, append_assoc, inl, inr}
use Rattle.mz_grammar.specs.Reading.{first, passes}
use Rattle.mz_grammar.specs.Relations.{OneToken, Nothing, Then, Either, Cases, Image, Maybe, Many, Ended}
use Rattle.mz_grammar.specs.Readers.{Any, Reads}
use Rattle.mz_grammar.proofs.Readers.{Starts, token_starts, then_starts, image_starts, either_starts, either_of, reads_case, reads_choose, before, chained, mapped, viewed}
use Rattle.mz_grammar.proofs.ManyReaders.{Ends, reads_many}
use Rattle.mz_grammar.proofs.Parts.{follow_many, follow_maybe, then_any, then_sure, then_many, then_maybe, or_done}
use Rattle.mz_token.specs.declared.token.Kind.TheVariants as kind
use Rattle.mz_token.specs.declared.token.Token.{Token}
use Rattle.mz_token.specs.Tokens.{is_lower, is_upper, is_key, is_mark}
use Rattle.mz_types.specs.Words.{Spelling, Low, Up, Key, Mark, lower, upper, number, key, mark, turn}
use Rattle.mz_types.proofs.Singles.{lower_has, upper_has, number_has, mark_has, key_next, mark_next, sample, low_reads, up_reads, key_reads, mark_reads}
use Rattle.mz_parse.specs.declared.bodies.Block.{Block}
use Rattle.mz_parse.specs.declared.bodies.Comparison.{Comparison}
use Rattle.mz_parse.specs.declared.bodies.Expression.{Expression}
use Rattle.mz_parse.specs.declared.bodies.Expression as expression
use Rattle.mz_parse.specs.declared.bodies.Postfix.{Postfix}
use Rattle.mz_parse.specs.declared.bodies.Primary.{Primary}
use Rattle.mz_parse.specs.declared.bodies.Primary as primary
use Rattle.mz_parse.specs.declared.bodies.Product.{Product}
use Rattle.mz_parse.specs.declared.bodies.Sum.{Sum}
use Rattle.mz_parse.specs.Trees.{block_of, case_of, comparison_of, comparing_of, sum_of, term_of, product_of, factor_of, postfix_of, selects}
use Rattle.mz_parse.specs.Grammar.{multiplying, adding, comparing, MaybeSeparated, IsGiving, IsNumber, IsName, IsNewLock, CallOver, ValueOver, ConstructOver, PrimaryOver, PostfixOver, FactorOver, ProductOver, TermOver, SumOver, ComparingOver, ComparisonOver, PlainOver, WriteOver, PrintOver, ItemOver, BlockOver, IfOver, CasesOver, MatchOver, SpawnOver}
use Rattle.mz_parse.specs.BodyReading.{Inner, grouped_by, beginning, call_by, named_by, group_by, construct_by, primary_by, postfix_by, factor_by, product_after, product_by, term_by, sum_after, sum_by, comparing_by, comparison_after, comparison_by, plain_after, write_after, simple_by, print_by, block_by, if_by, match_by, spawn_by}
use Rattle.mz_parse.proofs.Forms.{next_has, multiplying_has, adding_has, comparing_has, multiplying_reads, adding_reads, comparing_token_reads, in_braces, in_parens, then_out, then_in, then_first, then_each, then_either, then_nothing, nothing_then}
use Rattle.mz_parse.proofs.BodyProductions.{AfterPrimary, AfterPostfix, AfterProduct, AfterSum, AfterComparison, AfterSimple, AfterGiving, AfterExpression, PrimaryKind, PostfixKind, ProductKind, SumKind, ComparisonKind, ends_expression, begins_kind, begins, select_reads, number_reads_as, giving_reads, new_lock_reads, argument_reads, arguments_read, values_read, items_read, cases_read}

-- ---- the grammar, grouped as it is read

module _ (X : Spelling Expression) where
  -- "(" .. ")" behind a name
  abbrev CallRest : Token → Spelling Primary
  CallRest callee = Then (Mark 2) (λ opening. Then (MaybeSeparated (mark 6) X) (λ arguments. Image (λ closing. primary.Call callee arguments) (Mark 3)))

  -- a name, or a call
  abbrev Named : Spelling Primary
  Named = Then Low (λ name. Either (CallRest name) (Nothing (primary.Name name)))

  abbrev UnitRest : Token → Spelling Primary
  UnitRest opening = Image (λ closing. primary.Unit opening) (Mark 3)

  abbrev GroupRest : Token → Spelling Primary
  GroupRest opening = Then X (λ inner. Image (λ closing. primary.Group opening inner) (Mark 3))

  -- "()" or an expression in brackets
  abbrev Grouped : Spelling Primary
  Grouped = Then (Mark 2) (λ opening. Either (UnitRest opening) (GroupRest opening))

  abbrev PrimaryRead : Spelling Primary
  PrimaryRead = Either IsNumber (Either Named (Either Grouped (Either (ConstructOver X) IsNewLock)))

  -- the same, alternative by alternative
  named_to : (ts : List Token) (p : Primary) → Named ts p → Either IsName (CallOver X) ts p
  named_to ts p (name, x, y, e, low, inl call) = inr (name, x, y, e, low, call)
  named_to ts p (name, x, y, e, low, inr none) = inl (then_nothing {P = Low} primary.Name ts p (name, x, y, e, low, none))

  named_from : (ts : List Token) (p : Primary) → Either IsName (CallOver X) ts p → Named ts p
  named_from ts p (inl is) = let (name, x, y, e, low, none) = nothing_then {P = Low} primary.Name ts p is in (name, x, y, e, low, inr none)
  named_from ts p (inr (name, x, y, e, low, call)) = (name, x, y, e, low, inl call)

  primary_to : (ts : List Token) (p : Primary) → PrimaryRead ts p → PrimaryOver X ts p
  primary_to ts p (inl number) = inl number
  primary_to ts p (inr (inl named)) = elim (named_to ts p named) [ inl name ↦ inr (inl name) | inr call ↦ inr (inr (inl call)) ]
  primary_to ts p (inr (inr (inl grouped))) = elim (then_each {P = Mark 2} UnitRest GroupRest ts p grouped) [ inl unit ↦ inr (inr (inr (inl unit))) | inr group ↦ inr (inr (inr (inr (inl group)))) ]
  primary_to ts p (inr (inr (inr others))) = inr (inr (inr (inr (inr others))))

  primary_from : (ts : List Token) (p : Primary) → PrimaryOver X ts p → PrimaryRead ts p
  primary_from ts p (inl number) = inl number
  primary_from ts p (inr (inl name)) = inr (inl (named_from ts p (inl name)))
  primary_from ts p (inr (inr (inl call))) = inr (inl (named_from ts p (inr call)))
  primary_from ts p (inr (inr (inr (inl unit)))) = inr (inr (inl (then_either {P = Mark 2} UnitRest GroupRest ts p (inl unit))))
  primary_from ts p (inr (inr (inr (inr (inl group))))) = inr (inr (inl (then_either {P = Mark 2} UnitRest GroupRest ts p (inr group))))
  primary_from ts p (inr (inr (inr (inr (inr others))))) = inr (inr (inr others))

  -- what stands behind the first postfix of a product, a sum, a comparison
  abbrev ProductAfter : Postfix → Spelling Product
  ProductAfter one = Image (product_of one) (Many (FactorOver X))

  abbrev SumAfter : Postfix → Spelling Sum
  SumAfter one = Then (ProductAfter one) (λ product. Image (sum_of product) (Many (TermOver X)))

  abbrev ComparingRest : Sum → Spelling Comparison
  ComparingRest left = Image (comparison_of left) (Maybe (ComparingOver X))

  abbrev ComparisonAfter : Postfix → Spelling Comparison
  ComparisonAfter one = Then (SumAfter one) ComparingRest

  -- a sum is a postfix and what stands behind it
  sum_to : (ts : List Token) (s : Sum) → Then (PostfixOver X) SumAfter ts s → SumOver X ts s
  sum_to = then_in (λ product. Image (sum_of product) (Many (TermOver X)))

  sum_from : (ts : List Token) (s : Sum) → SumOver X ts s → Then (PostfixOver X) SumAfter ts s
  sum_from = then_out (λ product. Image (sum_of product) (Many (TermOver X)))

  -- so is a comparison
  comparison_to : (ts : List Token) (c : Comparison) → Then (PostfixOver X) ComparisonAfter ts c → ComparisonOver X ts c
  comparison_to ts c h = then_first ComparingRest sum_to ts c (then_in ComparingRest ts c h)

  comparison_from : (ts : List Token) (c : Comparison) → ComparisonOver X ts c → Then (PostfixOver X) ComparisonAfter ts c
  comparison_from ts c h = then_out ComparingRest ts c (then_first ComparingRest sum_from ts c h)

  abbrev PlainAfter : Postfix → Spelling Expression
  PlainAfter one = Image expression.Plain (ComparisonAfter one)

  abbrev WriteAfter : Postfix → Spelling Expression
  WriteAfter target = Then (Mark 14) (λ arrow. Image (expression.Write target arrow) (ComparisonOver X))

  -- a comparison or a write: which, tells what stands behind the first postfix
  abbrev SimpleCases : Bool → Postfix → Spelling Expression
  SimpleCases b one = Cases b (Either (WriteAfter one) (PlainAfter one)) (PlainAfter one)

  abbrev Simple : Spelling Expression
  Simple = Then (PostfixOver X) (λ one. SimpleCases (selects one) one)

  simple_to : (ts : List Token) (x : Expression) → Simple ts x → Either (PlainOver X) (WriteOver X) ts x
  simple_to ts x (one, front, rest, split, post, cases) = go (selects one) refl cases
    where
      plain : PlainAfter one rest x → Either (PlainOver X) (WriteOver X) ts x
      plain (c, after, same) = inl (c, comparison_to ts c (one, front, rest, split, post, after), same)

      go : (b : Bool) → selects one ≡ b → SimpleCases b one rest x → Either (PlainOver X) (WriteOver X) ts x
      go true h (inl write) = inr (one, front, rest, split, (post, h), write)
      go true h (inr after) = plain after
      go false h after = plain after

  -- a comparison stands in both cases
  plain_cases : (b : Bool) (one : Postfix) (rest : List Token) (x : Expression) → PlainAfter one rest x → SimpleCases b one rest x
  plain_cases true one rest x after = inr after
  plain_cases false one rest x after = after

  simple_from : (ts : List Token) (x : Expression) → Either (PlainOver X) (WriteOver X) ts x → Simple ts x
  simple_from ts x (inl (c, comparison, same)) =
      let (one, front, rest, split, post, after) = comparison_from ts c comparison in
      (one, front, rest, split, post, plain_cases (selects one) one rest x (c, after, same))
  simple_from ts x (inr (one, front, rest, split, (post, h), write)) =
      (one, front, rest, split, post, subst (λ (b : Bool). SimpleCases b one rest x) (sym h) (inl write))

-- ---- examples of what stands behind a bracket: the closing one, and what must stand before it

abbrev closing_round : Token
closing_round = sample (kind.Mark 3)

abbrev opening_brace : Token
opening_brace = sample (kind.Mark 0)

abbrev closing_brace : Token
closing_brace = sample (kind.Mark 1)

abbrev arrow : Token
arrow = sample (kind.Mark 15)

abbrev upper_name : Token
upper_name = sample kind.Upper

module _ (X : Spelling Expression) where
  call_ends : (callee opening : Token) → (front : List Token) × (p : Primary) × Then (MaybeSeparated (mark 6) X) (λ arguments. Image (λ closing. primary.Call callee arguments) (Mark 3)) front p
  unfolding sample
  call_ends callee opening = (closing_round ∷ [], primary.Call callee [], ([], [], closing_round ∷ [], refl, inl (refl, refl), (closing_round, (refl, refl), refl)))

  group_ends : (opening : Token) → (front : List Token) × (p : Primary) × Either (UnitRest X opening) (GroupRest X opening) front p
  unfolding sample
  group_ends opening = (closing_round ∷ [], primary.Unit opening, inl (closing_round, (refl, refl), refl))

  construct_ends : (con opening : Token) → (front : List Token) × (p : Primary) × Then (MaybeSeparated (mark 4) (ValueOver X)) (λ fields. Image (λ closing. primary.Construct con fields) (Mark 1)) front p
  unfolding sample
  construct_ends con opening = (closing_brace ∷ [], primary.Construct con [], ([], [], closing_brace ∷ [], refl, inl (refl, refl), (closing_brace, (refl, refl), refl)))

  block_ends : (opening : Token) → (front : List Token) × (b : Block) × Then (Ended (mark 4) (ItemOver X)) (λ items. Image (block_of opening items) (Mark 1)) front b
  unfolding sample
  block_ends opening = (closing_brace ∷ [], block_of opening ([], None) closing_brace, (([], None), [], closing_brace ∷ [], refl, refl, (closing_brace, (refl, refl), refl)))

  abbrev empty_block : Block
  empty_block = block_of opening_brace ([], None) closing_brace

  -- one case with an empty block
  one_case : CasesOver X (upper_name ∷ arrow ∷ opening_brace ∷ closing_brace ∷ []) (case_of upper_name empty_block ∷ [])
  unfolding sample block_ends
  one_case = (
    case_of upper_name empty_block,
    upper_name ∷ arrow ∷ opening_brace ∷ closing_brace ∷ [],
    [],
    refl,
    (
      upper_name,
      upper_name ∷ [],
      arrow ∷ opening_brace ∷ closing_brace ∷ [],
      refl,
      (refl, refl),
      (
        arrow,
        arrow ∷ [],
        opening_brace ∷ closing_brace ∷ [],
        refl,
        (refl, refl),
        (empty_block, (opening_brace, opening_brace ∷ [], closing_brace ∷ [], refl, (refl, refl), (block_ends opening_brace).2), refl),
      ),
    ),
    ([], refl, refl),
  )

  match_ends : (word name opening : Token) → (front : List Token) × (x : Expression) × Then (CasesOver X) (λ cases. Then (Mark 1) (λ closing. Image (expression.Match word name cases) IsGiving)) front x
  unfolding sample
  match_ends word name opening = (
    upper_name ∷ arrow ∷ opening_brace ∷ closing_brace ∷ closing_brace ∷ [],
    expression.Match word name (case_of upper_name empty_block ∷ []) [],
    (
      case_of upper_name empty_block ∷ [],
      upper_name ∷ arrow ∷ opening_brace ∷ closing_brace ∷ [],
      closing_brace ∷ [],
      refl,
      one_case,
      (closing_brace, closing_brace ∷ [], [], refl, (refl, refl), ([], inr (refl, refl), refl)),
    ),
  )

  spawn_ends : (front : List Token) × (x : Expression) × X front x → (word name opening : Token) → (front : List Token) × (x : Expression) × Then X (λ argument. Image (λ closing. expression.Spawn word name argument) (Mark 3)) front x
  unfolding sample
  spawn_ends (front, x, is) word name opening = (front ++ closing_round ∷ [], expression.Spawn word name x, (x, front, closing_round ∷ [], refl, is, (closing_round, (refl, refl), refl)))

-- ---- what they begin with

module _ (X : Spelling Expression) where
  primary_starts : Starts (PrimaryRead X) beginning
  primary_starts = either_starts (image_starts (token_starts number)) (either_starts (then_starts Low _ (token_starts lower)) (either_starts (then_starts (Mark 2) _ (token_starts (mark 2))) (either_starts (then_starts Up _ (token_starts upper)) (then_starts (Key 18) _ (token_starts (key 18))))))

  over_primary_starts : Starts (PrimaryOver X) beginning
  over_primary_starts front rest p h = primary_starts front rest p (primary_from X front p h)

  pub postfix_starts : Starts (PostfixOver X) beginning
  postfix_starts = then_starts (PrimaryOver X) _ over_primary_starts

  factor_starts : Starts (FactorOver X) multiplying
  factor_starts = then_starts (OneToken multiplying) _ (token_starts multiplying)

  term_starts : Starts (TermOver X) adding
  term_starts = then_starts (OneToken adding) _ (token_starts adding)

  comparing_starts : Starts (ComparingOver X) comparing
  comparing_starts = then_starts (OneToken comparing) _ (token_starts comparing)

  write_starts : (one : Postfix) → Starts (WriteAfter X one) (mark 14)
  write_starts one = then_starts (Mark 14) _ (token_starts (mark 14))

-- ---- blocks and expressions

module _ (d : ℕ) (inner : Inner) (X : Spelling Expression) (starts : Starts X begins) (example : (front : List Token) × (x : Expression) × X front x)
    (I : (e : ℕ) → d ≡ suc e → Reads turn inner.0 X AfterExpression e e) (J : (e : ℕ) → d ≡ suc e → Reads turn inner.1 (BlockOver X) Any e e) where
  call_reads : (callee : Token) → Reads turn (call_by d inner callee) (CallRest X callee) Any d d
  unfolding call_by
  call_reads callee = in_parens (call_ends X callee) d (λ e h opening. then_sure (mark 3) (arguments_read inner X starts e (I e h))
      (λ arguments. mapped (mark_reads 3 e d (ap Some (sym h))) (λ closing. primary.Call callee arguments)) (λ arguments. image_starts (token_starts (mark 3))) (λ o w. w))

  named_reads : Reads turn (named_by d inner) (Named X) AfterPrimary d d
  unfolding named_by
  named_reads = then_any (low_reads d) (λ name. or_done (mark 2) (primary.Name name) (call_reads name) (then_starts (Mark 2) _ (token_starts (mark 2))))

  group_reads : Reads turn (group_by d inner) (Grouped X) Any d d
  unfolding group_by grouped_by
  group_reads = in_parens (group_ends X) d (λ e h opening. either_of (mark 3) begins (mapped (mark_reads 3 e d (ap Some (sym h))) (λ closing. primary.Unit opening))
      (then_sure (mark 3) (argument_reads inner X starts e (I e h)) (λ x. mapped (mark_reads 3 e d (ap Some (sym h))) (λ closing. primary.Group opening x)) (λ x. image_starts (token_starts (mark 3)))
      (ends_expression 3 ((refl, (refl, (refl, tt))), (refl, (refl, (refl, (refl, (refl, (refl, tt)))))))))
      (image_starts (token_starts (mark 3))) (then_starts X _ starts) (mark_has 3 (λ k. begins_kind k ≡ false) refl))

  construct_reads : Reads turn (construct_by d inner) (ConstructOver X) Any d d
  unfolding construct_by
  construct_reads = then_any (up_reads d) (λ con. in_braces (construct_ends X con) d (λ e h opening. then_sure (mark 1) (values_read inner X starts e (I e h))
      (λ fields. mapped (mark_reads 1 e d (ap Some (sym h))) (λ closing. primary.Construct con fields)) (λ fields. image_starts (token_starts (mark 1))) (λ o w. w)))

  primary_reads : Reads turn (primary_by d inner) (PrimaryOver X) AfterPrimary d d
  unfolding primary_by
  primary_reads = viewed
      (either_of number (λ t. lower t || (mark 2 t || (upper t || key 18 t))) (before (number_reads_as d) (λ o w. tt))
      (either_of lower (λ t. mark 2 t || (upper t || key 18 t)) named_reads
      (either_of (mark 2) (λ t. upper t || key 18 t) (before group_reads (λ o w. tt))
      (either_of upper (key 18) (before construct_reads (λ o w. tt)) (before (new_lock_reads d) (λ o w. tt))
      (then_starts Up _ (token_starts upper)) (then_starts (Key 18) _ (token_starts (key 18))) (upper_has (λ k. is_key 18 k ≡ false) refl))
      (then_starts (Mark 2) _ (token_starts (mark 2))) (either_starts (then_starts Up _ (token_starts upper)) (then_starts (Key 18) _ (token_starts (key 18)))) (mark_has 2 (λ k. (is_upper k || is_key 18 k) ≡ false) refl))
      (then_starts Low _ (token_starts lower)) (either_starts (then_starts (Mark 2) _ (token_starts (mark 2))) (either_starts (then_starts Up _ (token_starts upper)) (then_starts (Key 18) _ (token_starts (key 18))))) (lower_has (λ k. (is_mark 2 k || (is_upper k || is_key 18 k)) ≡ false) refl))
      (image_starts (token_starts number)) (either_starts (then_starts Low _ (token_starts lower)) (either_starts (then_starts (Mark 2) _ (token_starts (mark 2))) (either_starts (then_starts Up _ (token_starts upper)) (then_starts (Key 18) _ (token_starts (key 18))))))
      (number_has (λ k. (is_lower k || (is_mark 2 k || (is_upper k || is_key 18 k))) ≡ false) (λ n. refl)))
      (primary_to X) (primary_from X)

  postfix_reads : Reads turn (postfix_by d inner) (PostfixOver X) AfterPostfix d d
  unfolding postfix_by
  postfix_reads = then_many (mark 7) postfix_of primary_reads (before (select_reads d) (λ o w. tt)) (then_starts (Mark 7) _ (token_starts (mark 7))) (mark_next 7 PrimaryKind (refl, tt) AfterPrimary (λ t w. w))

  -- ---- products, sums and comparisons, behind their first postfix and whole

  multiplying_follows : (o : Option Token) → passes multiplying o ≡ true → AfterPostfix o
  multiplying_follows = next_has multiplying AfterPostfix (multiplying_has PostfixKind (refl, (refl, tt)) (refl, (refl, tt)) (refl, (refl, tt)))

  adding_follows : (o : Option Token) → passes adding o ≡ true → AfterProduct o
  adding_follows = next_has adding AfterProduct (adding_has ProductKind (refl, (refl, (refl, tt))) (refl, (refl, (refl, tt))))

  comparing_follows : (o : Option Token) → passes comparing o ≡ true → AfterSum o
  comparing_follows = next_has comparing AfterSum (comparing_has SumKind (refl, (refl, (refl, (refl, tt)))) (refl, (refl, (refl, (refl, tt)))) (refl, (refl, (refl, (refl, tt)))) (refl, (refl, (refl, (refl, tt)))) (refl, (refl, (refl, (refl, tt)))) (refl, (refl, (refl, (refl, tt)))))

  factor_reads : Reads turn (factor_by d inner) (FactorOver X) AfterPostfix d d
  unfolding factor_by
  factor_reads = then_any (multiplying_reads d) (λ sign. mapped postfix_reads (factor_of sign))

  product_after_reads : (one : Postfix) → Reads turn (product_after d inner one) (ProductAfter X one) AfterProduct d d
  unfolding product_after
  product_after_reads one = mapped (reads_many multiplying factor_reads (factor_starts X) multiplying_follows) (product_of one)

  -- what may follow the first postfix: a further one's mark, or what follows all
  product_follows : (F : Option Token → Type 0) → ((o : Option Token) → passes multiplying o ≡ true → F o) → (one : Postfix) (y rest : List Token) (p : Product) → ProductAfter X one y p → F (first rest) → F (first (y ++ rest))
  product_follows F times one y rest p (factors, many, same) f = follow_many (FactorOver X) multiplying F (factor_starts X) times y rest factors many f

  product_reads : Reads turn (product_by d inner) (ProductOver X) AfterProduct d d
  unfolding product_by
  product_reads = chained postfix_reads product_after_reads (λ one y rest p w h. product_follows AfterPostfix multiplying_follows one y rest p w h.1)

  term_reads : Reads turn (term_by d inner) (TermOver X) AfterProduct d d
  unfolding term_by
  term_reads = then_any (adding_reads d) (λ sign. mapped product_reads (term_of sign))

  sum_after_reads : (one : Postfix) → Reads turn (sum_after d inner one) (SumAfter X one) AfterSum d d
  unfolding sum_after
  sum_after_reads one = then_many adding sum_of (product_after_reads one) term_reads (term_starts X) adding_follows

  sum_follows : (F : Option Token → Type 0) → ((o : Option Token) → passes multiplying o ≡ true → F o) → ((o : Option Token) → passes adding o ≡ true → F o) →
      (one : Postfix) (y rest : List Token) (s : Sum) → SumAfter X one y s → F (first rest) → F (first (y ++ rest))
  sum_follows F times plus one y rest s (p, x, z, split, after, (terms, many, same)) f =
      subst (λ (l : List Token). F (first l)) (sym (ap (λ l. l ++ rest) split ∙ append_assoc x z rest))
      (product_follows F times one x (z ++ rest) p after (follow_many (TermOver X) adding F (term_starts X) plus z rest terms many f))

  sum_reads : Reads turn (sum_by d inner) (SumOver X) AfterSum d d
  unfolding sum_by
  sum_reads = viewed (chained postfix_reads sum_after_reads (λ one y rest s w h. sum_follows AfterPostfix multiplying_follows (λ o is. (adding_follows o is).1) one y rest s w h.1.1)) (sum_to X) (sum_from X)

  comparing_reads : Reads turn (comparing_by d inner) (ComparingOver X) AfterSum d d
  unfolding comparing_by
  comparing_reads = then_any (comparing_token_reads d) (λ sign. mapped sum_reads (comparing_of sign))

  comparison_after_reads : (one : Postfix) → Reads turn (comparison_after d inner one) (ComparisonAfter X one) AfterComparison d d
  unfolding comparison_after
  comparison_after_reads one = then_maybe comparing comparison_of (sum_after_reads one) comparing_reads (comparing_starts X) comparing_follows

  comparison_follows : (F : Option Token → Type 0) → ((o : Option Token) → passes multiplying o ≡ true → F o) → ((o : Option Token) → passes adding o ≡ true → F o) → ((o : Option Token) → passes comparing o ≡ true → F o) →
      (one : Postfix) (y rest : List Token) (c : Comparison) → ComparisonAfter X one y c → F (first rest) → F (first (y ++ rest))
  comparison_follows F times plus equal one y rest c (s, x, z, split, after, (right, maybe, same)) f =
      subst (λ (l : List Token). F (first l)) (sym (ap (λ l. l ++ rest) split ∙ append_assoc x z rest))
      (sum_follows F times plus one x (z ++ rest) s after (follow_maybe (ComparingOver X) comparing F (comparing_starts X) equal z rest right maybe f))

  -- .. behind a postfix
  comparison_goes : (one : Postfix) (y rest : List Token) (c : Comparison) → ComparisonAfter X one y c → AfterPostfix (first rest) → AfterPostfix (first (y ++ rest))
  comparison_goes = comparison_follows AfterPostfix multiplying_follows (λ o is. (adding_follows o is).1) (λ o is. (comparing_follows o is).1.1)

  comparison_reads : Reads turn (comparison_by d inner) (ComparisonOver X) AfterComparison d d
  unfolding comparison_by
  comparison_reads = viewed (chained postfix_reads comparison_after_reads (λ one y rest c w h. comparison_goes one y rest c w h.1.1.1)) (comparison_to X) (comparison_from X)

  -- ---- a comparison, or a write

  plain_reads : (one : Postfix) → Reads turn (plain_after d inner one) (PlainAfter X one) AfterComparison d d
  unfolding plain_after
  plain_reads one = mapped (comparison_after_reads one) expression.Plain

  write_reads : (target : Postfix) → Reads turn (write_after d inner target) (WriteAfter X target) AfterComparison d d
  unfolding write_after
  write_reads target = then_any (mark_reads 14 d d refl) (λ arrow. mapped comparison_reads (expression.Write target arrow))

  -- no `<-`
  abbrev NoArrow : Option Token → Type 0
  NoArrow o = passes (mark 14) o ≡ false

  simple_goes : (b : Bool) (one : Postfix) (y rest : List Token) (x : Expression) → SimpleCases X b one y x → AfterPostfix (first rest) → AfterPostfix (first (y ++ rest))
  simple_goes true one y rest x (inl write) h = mark_next 14 PostfixKind (refl, (refl, tt)) AfterPostfix (λ t w. w) (first (y ++ rest)) (write_starts X one y rest x write)
  simple_goes true one y rest x (inr (c, after, same)) h = comparison_goes one y rest c after h
  simple_goes false one y rest x (c, after, same) h = comparison_goes one y rest c after h

  -- no mark that goes on with a comparison is `<-`
  plain_goes : (one : Postfix) (y rest : List Token) (c : Comparison) → ComparisonAfter X one y c → NoArrow (first rest) → NoArrow (first (y ++ rest))
  plain_goes = comparison_follows NoArrow (next_has multiplying NoArrow (multiplying_has (λ k. is_mark 14 k ≡ false) refl refl refl)) (next_has adding NoArrow (adding_has (λ k. is_mark 14 k ≡ false) refl refl))
      (next_has comparing NoArrow (comparing_has (λ k. is_mark 14 k ≡ false) refl refl refl refl refl refl))

  pub simple_reads : Reads turn (simple_by d inner) (Either (PlainOver X) (WriteOver X)) AfterSimple d d
  unfolding simple_by
  simple_reads = viewed
      (chained postfix_reads
      (λ one. reads_case (selects one)
      (reads_choose (mark 14) (write_after d inner one) (plain_after d inner one) (WriteAfter X one) (PlainAfter X one) AfterComparison AfterComparison AfterSimple d d (write_reads one) (plain_reads one) (λ o h. h.1) (λ o h. h.1)
      (λ front rest x w h. write_starts X one front rest x w) (λ front rest x w h. plain_goes one front rest w.0 w.1 h.0))
      (before (plain_reads one) (λ o h. h.1)))
      (λ one y rest x w h. simple_goes (selects one) one y rest x w h.1.1.1.1))
      (simple_to X) (simple_from X)

  pub print_reads : Reads turn (print_by d inner) (PrintOver X) AfterComparison d d
  unfolding print_by
  print_reads = then_any (key_reads 24 d) (λ word. mapped comparison_reads (expression.Print word))

  -- ---- what holds blocks

  pub block_reads : Reads turn (block_by d inner) (BlockOver X) Any d d
  unfolding block_by
  block_reads = in_braces (block_ends X) d (λ e h opening. then_sure (mark 1) (items_read inner X starts e (I e h))
      (λ items. mapped (mark_reads 1 e d (ap Some (sym h))) (block_of opening items)) (λ items. image_starts (token_starts (mark 1))) (λ o w. w))

  pub if_reads : Reads turn (if_by d inner) (IfOver X) AfterGiving d d
  unfolding if_by
  if_reads = then_any (key_reads 7 d) (λ word. then_sure (key 8) comparison_reads
      (λ test. then_any (key_reads 8 d) (λ so. then_any block_reads (λ yes. then_any (key_reads 9 d) (λ otherwise. then_any block_reads (λ no. mapped (giving_reads d) (expression.If word test yes no))))))
      (λ test. then_starts (Key 8) _ (token_starts (key 8))) (key_next 8 ComparisonKind (refl, (refl, (refl, (refl, (refl, tt))))) AfterComparison (λ t w. w)))

  pub match_reads : Reads turn (match_by d inner) (MatchOver X) AfterGiving d d
  unfolding match_by
  match_reads = then_any (key_reads 10 d) (λ word. then_any (low_reads d) (λ name. in_braces (match_ends X word name) d (λ e h opening. then_sure (mark 1) (cases_read inner X e (J e h))
      (λ cases. then_any (mark_reads 1 e d (ap Some (sym h))) (λ closing. mapped (giving_reads d) (expression.Match word name cases)))
      (λ cases. then_starts (Mark 1) _ (token_starts (mark 1))) (mark_next 1 (λ k. is_upper k ≡ false) refl (Ends upper Any) (λ t w. (w, tt))))))

  pub spawn_reads : Reads turn (spawn_by d inner) (SpawnOver X) Any d d
  unfolding spawn_by
  spawn_reads = then_any (key_reads 23 d) (λ word. then_any (low_reads d) (λ name. in_parens (spawn_ends X example word name) d (λ e h opening. then_sure (mark 3) (argument_reads inner X starts e (I e h))
      (λ argument. mapped (mark_reads 3 e d (ap Some (sym h))) (λ closing. expression.Spawn word name argument)) (λ argument. image_starts (token_starts (mark 3)))
      (ends_expression 3 ((refl, (refl, (refl, tt))), (refl, (refl, (refl, (refl, (refl, (refl, tt)))))))))))
