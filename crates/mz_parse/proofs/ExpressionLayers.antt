-- Expressions and blocks, brackets in brackets: each layer reads what the grammar says, and so does the whole.
use Rattle.std.proofs.Common.{◌≡◌, ℕ, suc, false, List, [], ◌∷◌, IsTrue, refl, ◌||◌, inl, inr}
use Rattle.mz_grammar.specs.Relations.{OneToken, Then, Either, Image, Many, Nested}
use Rattle.mz_grammar.specs.Readers.{Any, Reads}
use Rattle.mz_grammar.proofs.Readers.{Starts, token_starts, then_starts, image_starts, either_starts, either_of, before, viewed}
use Rattle.mz_grammar.proofs.Layers.{Lifts, lifts_self, lifts_const, lifts_then, lifts_either, lifts_image, lifts_maybe, lifts_many, lifts_ended, layer_to, layer_from}
use Rattle.mz_token.specs.declared.token.Kind.TheVariants as kind
use Rattle.mz_token.specs.declared.token.Token.{Token}
use Rattle.mz_token.specs.Tokens.{is_key}
use Rattle.mz_types.specs.Words.{Spelling, Low, Up, Key, Mark, lower, upper, number, key, mark, turn}
use Rattle.mz_types.proofs.Singles.{lower_has, upper_has, number_has, key_has, mark_has, sample}
use Rattle.mz_parse.specs.declared.bodies.BlockItem as item
use Rattle.mz_parse.specs.declared.bodies.Expression.{Expression}
use Rattle.mz_parse.specs.declared.bodies.Expression as expression
use Rattle.mz_parse.specs.declared.bodies.Primary as primary
use Rattle.mz_parse.specs.Trees.{block_of, case_of, comparison_of, comparing_of, sum_of, term_of, product_of, factor_of, postfix_of, field_value_of, selects}
use Rattle.mz_parse.specs.Grammar.{multiplying, adding, comparing, MaybeSeparated, Such, IsSelect, IsGiving, IsRetag, IsGive, IsTake, IsAcquire, IsRelease, IsNumber, IsName, IsNewLock, CallOver, GroupOver, ValueOver, ConstructOver, PrimaryOver, PostfixOver, ProductOver, SumOver, ComparisonOver, PlainOver, WriteOver, PrintOver, ItemOver, BlockOver, IfOver, CaseOver, CasesOver, MatchOver, SpawnOver, ExpressionOver, IsExpression, IsBlock}
use Rattle.mz_parse.specs.BodyReading.{Inner, beginning, block_by, expression_by, within}
use Rattle.mz_parse.proofs.Forms.{or_has, lifts_such, lifts_maybe_separated}
use Rattle.mz_parse.proofs.BodyProductions.{AfterExpression, is_word, is_word3, is_word4, is_word5, is_word6, is_word7, is_word8, is_word9, begins, retag_reads, give_reads, take_reads, acquire_reads, release_reads}
use Rattle.mz_parse.proofs.TwoLayers.{ReadsInside, reads_inside}
use Rattle.mz_parse.proofs.ExpressionProductions.{postfix_starts, simple_reads, print_reads, block_reads, if_reads, match_reads, spawn_reads}

-- ---- the alternatives with a word of their own

module _ (X : Spelling Expression) where
  abbrev Words9 : Spelling Expression
  Words9 = Either IsRelease (SpawnOver X)

  abbrev Words8 : Spelling Expression
  Words8 = Either IsAcquire Words9

  abbrev Words7 : Spelling Expression
  Words7 = Either IsTake Words8

  abbrev Words6 : Spelling Expression
  Words6 = Either IsGive Words7

  abbrev Words5 : Spelling Expression
  Words5 = Either IsRetag Words6

  abbrev Words4 : Spelling Expression
  Words4 = Either (MatchOver X) Words5

  abbrev Words3 : Spelling Expression
  Words3 = Either (IfOver X) Words4

  abbrev Words : Spelling Expression
  Words = Either (PrintOver X) Words3

  -- each begins with its word
  starts9 : Starts Words9 (λ t. is_word9 t.kind)
  starts9 = either_starts (then_starts (Key 22) _ (token_starts (key 22))) (then_starts (Key 23) _ (token_starts (key 23)))

  starts8 : Starts Words8 (λ t. is_word8 t.kind)
  starts8 = either_starts (then_starts (Key 21) _ (token_starts (key 21))) starts9

  starts7 : Starts Words7 (λ t. is_word7 t.kind)
  starts7 = either_starts (then_starts (Key 17) _ (token_starts (key 17))) starts8

  starts6 : Starts Words6 (λ t. is_word6 t.kind)
  starts6 = either_starts (then_starts (Key 16) _ (token_starts (key 16))) starts7

  starts5 : Starts Words5 (λ t. is_word5 t.kind)
  starts5 = either_starts (then_starts (Key 13) _ (token_starts (key 13))) starts6

  starts4 : Starts Words4 (λ t. is_word4 t.kind)
  starts4 = either_starts (then_starts (Key 10) _ (token_starts (key 10))) starts5

  starts3 : Starts Words3 (λ t. is_word3 t.kind)
  starts3 = either_starts (then_starts (Key 7) _ (token_starts (key 7))) starts4

  words_start : Starts Words (λ t. is_word t.kind)
  words_start = either_starts (then_starts (Key 24) _ (token_starts (key 24))) starts3

  -- the others begin as a postfix does
  sum_starts : Starts (SumOver X) beginning
  sum_starts = then_starts (ProductOver X) _ (then_starts (PostfixOver X) _ (postfix_starts X))

  target_starts : Starts (Such selects (PostfixOver X)) beginning
  target_starts front rest p (post, ends) = postfix_starts X front rest p post

  plain_starts : Starts (PlainOver X) beginning
  plain_starts = image_starts (then_starts (SumOver X) _ sum_starts)

  write_starts : Starts (WriteOver X) beginning
  write_starts = then_starts (Such selects (PostfixOver X)) _ target_starts

  simple_starts : Starts (Either (PlainOver X) (WriteOver X)) beginning
  simple_starts front rest x (inl plain) = plain_starts front rest x plain
  simple_starts front rest x (inr write) = write_starts front rest x write

  -- two of three grouped in another way: by cases
  expression_to : (ts : List Token) (x : Expression) → Either (Either (PlainOver X) (WriteOver X)) Words ts x → ExpressionOver X ts x
  expression_to ts x (inl (inl plain)) = inl plain
  expression_to ts x (inl (inr write)) = inr (inl write)
  expression_to ts x (inr words) = inr (inr words)

  expression_from : (ts : List Token) (x : Expression) → ExpressionOver X ts x → Either (Either (PlainOver X) (WriteOver X)) Words ts x
  expression_from ts x (inl plain) = inl (inl plain)
  expression_from ts x (inr (inl write)) = inl (inr write)
  expression_from ts x (inr (inr words)) = inr words

  expression_starts : Starts (ExpressionOver X) begins
  expression_starts front rest x h = either_starts simple_starts words_start front rest x (expression_from front x h)

-- what begins a postfix is no such word
no_word : (t : Token) → IsTrue (beginning t) → is_word t.kind ≡ false
no_word = or_has number (λ t. lower t || (mark 2 t || (upper t || key 18 t))) (λ t. is_word t.kind ≡ false) (number_has (λ k. is_word k ≡ false) (λ n. refl))
    (or_has lower (λ t. mark 2 t || (upper t || key 18 t)) (λ t. is_word t.kind ≡ false) (lower_has (λ k. is_word k ≡ false) refl)
    (or_has (mark 2) (λ t. upper t || key 18 t) (λ t. is_word t.kind ≡ false) (mark_has 2 (λ k. is_word k ≡ false) refl)
    (or_has upper (key 18) (λ t. is_word t.kind ≡ false) (upper_has (λ k. is_word k ≡ false) refl) (key_has 18 (λ k. is_word k ≡ false) refl))))

-- ---- one layer

module _ (d : ℕ) (inner : Inner) (X : Spelling Expression) (starts : Starts X begins) (example : (front : List Token) × (x : Expression) × X front x)
    (I : (e : ℕ) → d ≡ suc e → Reads turn inner.0 X AfterExpression e e) (J : (e : ℕ) → d ≡ suc e → Reads turn inner.1 (BlockOver X) Any e e) where
  -- one of those that begin apart
  layer_reads : Reads turn (expression_by d inner) (ExpressionOver X) AfterExpression d d
  unfolding expression_by
  layer_reads = viewed
      (either_of beginning (λ t. is_word t.kind) (before (simple_reads d inner X starts example I J) (λ o h. h.1))
      (either_of (key 24) (λ t. is_word3 t.kind) (before (print_reads d inner X starts example I J) (λ o h. h.1.1))
      (either_of (key 7) (λ t. is_word4 t.kind) (before (if_reads d inner X starts example I J) (λ o h. h.0))
      (either_of (key 10) (λ t. is_word5 t.kind) (before (match_reads d inner X starts example I J) (λ o h. h.0))
      (either_of (key 13) (λ t. is_word6 t.kind) (before (retag_reads d) (λ o h. tt))
      (either_of (key 16) (λ t. is_word7 t.kind) (before (give_reads d) (λ o h. tt))
      (either_of (key 17) (λ t. is_word8 t.kind) (before (take_reads d) (λ o h. tt))
      (either_of (key 21) (λ t. is_word9 t.kind) (before (acquire_reads d) (λ o h. tt))
      (either_of (key 22) (key 23) (before (release_reads d) (λ o h. tt)) (before (spawn_reads d inner X starts example I J) (λ o h. tt))
      (then_starts (Key 22) _ (token_starts (key 22))) (then_starts (Key 23) _ (token_starts (key 23))) (key_has 22 (λ k. is_key 23 k ≡ false) refl))
      (then_starts (Key 21) _ (token_starts (key 21))) (starts9 X) (key_has 21 (λ k. is_word9 k ≡ false) refl))
      (then_starts (Key 17) _ (token_starts (key 17))) (starts8 X) (key_has 17 (λ k. is_word8 k ≡ false) refl))
      (then_starts (Key 16) _ (token_starts (key 16))) (starts7 X) (key_has 16 (λ k. is_word7 k ≡ false) refl))
      (then_starts (Key 13) _ (token_starts (key 13))) (starts6 X) (key_has 13 (λ k. is_word6 k ≡ false) refl))
      (then_starts (Key 10) _ (token_starts (key 10))) (starts5 X) (key_has 10 (λ k. is_word5 k ≡ false) refl))
      (then_starts (Key 7) _ (token_starts (key 7))) (starts4 X) (key_has 7 (λ k. is_word4 k ≡ false) refl))
      (then_starts (Key 24) _ (token_starts (key 24))) (starts3 X) (key_has 24 (λ k. is_word3 k ≡ false) refl))
      (simple_starts X) (words_start X) no_word)
      (expression_to X) (expression_from X)

-- ---- each part lifts

values_lift : Lifts (λ X. MaybeSeparated (mark 4) (ValueOver X))
values_lift = lifts_maybe_separated (mark 4) (lifts_then (lifts_const Low) (λ field. lifts_then (lifts_const (Mark 8)) (λ is. lifts_image (field_value_of field) lifts_self)))

call_lifts : Lifts CallOver
call_lifts = lifts_then (lifts_const Low) (λ callee. lifts_then (lifts_const (Mark 2)) (λ opening. lifts_then (lifts_maybe_separated (mark 6) lifts_self) (λ arguments. lifts_const (Image (λ closing. primary.Call callee arguments) (Mark 3)))))

group_lifts : Lifts GroupOver
group_lifts = lifts_then (lifts_const (Mark 2)) (λ opening. lifts_then lifts_self (λ inner. lifts_const (Image (λ closing. primary.Group opening inner) (Mark 3))))

construct_lifts : Lifts ConstructOver
construct_lifts = lifts_then (lifts_const Up) (λ con. lifts_then (lifts_const (Mark 0)) (λ opening. lifts_then values_lift (λ fields. lifts_const (Image (λ closing. primary.Construct con fields) (Mark 1)))))

primary_lifts : Lifts PrimaryOver
primary_lifts = lifts_either (lifts_const IsNumber) (lifts_either (lifts_const IsName) (lifts_either call_lifts (lifts_either (lifts_const (Then (Mark 2) (λ opening. Image (λ closing. primary.Unit opening) (Mark 3))))
    (lifts_either group_lifts (lifts_either construct_lifts (lifts_const IsNewLock))))))

postfix_lifts : Lifts PostfixOver
postfix_lifts = lifts_then primary_lifts (λ base. lifts_const (Image (postfix_of base) (Many IsSelect)))

product_lifts : Lifts ProductOver
product_lifts = lifts_then postfix_lifts (λ one. lifts_image (product_of one) (lifts_many (lifts_then (lifts_const (OneToken multiplying)) (λ mark. lifts_image (factor_of mark) postfix_lifts))))

sum_lifts : Lifts SumOver
sum_lifts = lifts_then product_lifts (λ one. lifts_image (sum_of one) (lifts_many (lifts_then (lifts_const (OneToken adding)) (λ mark. lifts_image (term_of mark) product_lifts))))

comparison_lifts : Lifts ComparisonOver
comparison_lifts = lifts_then sum_lifts (λ left. lifts_image (comparison_of left) (lifts_maybe (lifts_then (lifts_const (OneToken comparing)) (λ mark. lifts_image (comparing_of mark) sum_lifts))))

write_lifts : Lifts WriteOver
write_lifts = lifts_then (lifts_such selects postfix_lifts) (λ target. lifts_then (lifts_const (Mark 14)) (λ arrow. lifts_image (expression.Write target arrow) comparison_lifts))

item_lifts : Lifts ItemOver
item_lifts = lifts_either (lifts_then (lifts_const (Key 6)) (λ word. lifts_then (lifts_const Low) (λ name. lifts_then (lifts_const (Mark 8)) (λ is. lifts_image (item.Let word name) lifts_self)))) (lifts_image item.Plain lifts_self)

block_lifts : Lifts BlockOver
block_lifts = lifts_then (lifts_const (Mark 0)) (λ opening. lifts_then (lifts_ended (mark 4) item_lifts) (λ items. lifts_const (Image (block_of opening items) (Mark 1))))

if_lifts : Lifts IfOver
if_lifts = lifts_then (lifts_const (Key 7)) (λ word. lifts_then comparison_lifts (λ test. lifts_then (lifts_const (Key 8)) (λ so. lifts_then block_lifts (λ yes. lifts_then (lifts_const (Key 9)) (λ otherwise. lifts_then block_lifts (λ no.
    lifts_const (Image (expression.If word test yes no) IsGiving)))))))

case_lifts : Lifts CaseOver
case_lifts = lifts_then (lifts_const Up) (λ con. lifts_then (lifts_const (Mark 15)) (λ arrow. lifts_image (case_of con) block_lifts))

cases_lift : Lifts CasesOver
cases_lift = lifts_then case_lifts (λ one. lifts_image (λ others. one ∷ others) (lifts_many case_lifts))

match_lifts : Lifts MatchOver
match_lifts = lifts_then (lifts_const (Key 10)) (λ word. lifts_then (lifts_const Low) (λ name. lifts_then (lifts_const (Mark 0)) (λ opening. lifts_then cases_lift (λ cases. lifts_then (lifts_const (Mark 1)) (λ closing.
    lifts_const (Image (expression.Match word name cases) IsGiving))))))

spawn_lifts : Lifts SpawnOver
spawn_lifts = lifts_then (lifts_const (Key 23)) (λ word. lifts_then (lifts_const Low) (λ name. lifts_then (lifts_const (Mark 2)) (λ opening. lifts_then lifts_self (λ argument. lifts_const (Image (λ closing. expression.Spawn word name argument) (Mark 3))))))

expression_lifts : Lifts ExpressionOver
expression_lifts =
    lifts_either (lifts_image expression.Plain comparison_lifts)
    (lifts_either write_lifts
    (lifts_either (lifts_then (lifts_const (Key 24)) (λ word. lifts_image (expression.Print word) comparison_lifts))
    (lifts_either if_lifts
    (lifts_either match_lifts
    (lifts_either (lifts_const IsRetag)
    (lifts_either (lifts_const IsGive)
    (lifts_either (lifts_const IsTake)
    (lifts_either (lifts_const IsAcquire)
    (lifts_either (lifts_const IsRelease)
    spawn_lifts)))))))))

-- ---- the knot

-- an example, in one layer: `acquire` and a name
one_expression : (front : List Token) × (x : Expression) × IsExpression front x
unfolding Nested sample
one_expression =
    let word : Token = sample (kind.Key 21) in
    let name : Token = sample kind.Lower in (
      word ∷ name ∷ [],
      expression.Acquire word name,
      (1, inr (inr (inr (inr (inr (inr (inr (inr (inl (word, word ∷ [], name ∷ [], refl, (refl, refl), (name, (refl, refl), refl))))))))))),
    )

is_expression_starts : Starts IsExpression begins
is_expression_starts front rest x h = expression_starts IsExpression front rest x (layer_from ExpressionOver expression_lifts front x h)

-- what is read inside a bracket, by what is read a bracket deeper: by computation
next_within : (d : ℕ) → within (suc d) ≡ (expression_by d (within d), block_by d (within d))
unfolding within
next_within d = refl

-- with what stands inside a bracket, an expression and a block
expression_around : (d : ℕ) (inner : Inner) → ReadsInside turn IsExpression IsBlock AfterExpression Any d inner → Reads turn (expression_by d inner) IsExpression AfterExpression d d
expression_around d inner I = viewed (layer_reads d inner IsExpression is_expression_starts one_expression I.0 I.1) (layer_to ExpressionOver expression_lifts) (layer_from ExpressionOver expression_lifts)

block_around : (d : ℕ) (inner : Inner) → ReadsInside turn IsExpression IsBlock AfterExpression Any d inner → Reads turn (block_by d inner) IsBlock Any d d
block_around d inner I = block_reads d inner IsExpression is_expression_starts one_expression I.0 I.1

inner_reads : (d : ℕ) → ReadsInside turn IsExpression IsBlock AfterExpression Any d (within d)
inner_reads = reads_inside turn IsExpression IsBlock AfterExpression Any expression_by block_by expression_around block_around within next_within

-- an expression, and a block, where so many brackets may be opened
pub expressions_read : (d : ℕ) → Reads turn (expression_by d (within d)) IsExpression AfterExpression d d
expressions_read d = expression_around d (within d) (inner_reads d)

pub blocks_read : (d : ℕ) → Reads turn (block_by d (within d)) IsBlock Any d d
blocks_read d = block_around d (within d) (inner_reads d)
