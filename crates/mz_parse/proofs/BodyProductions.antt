-- Each reader of a body's parts reads what the grammar says: production by production. d and e are how many brackets may be
-- opened, outside and inside of one.
use Rattle.std.proofs.Common.{◌≡◌, ℕ, suc, Bool, true, false, List, [], ◌∷◌, ◌++◌, Option, Some, refl, sym, ap, subst, ◌||◌}
use Rattle.mz_grammar.specs.Reading.{passes}
use Rattle.mz_grammar.specs.Relations.{Then, Image, Ended}
use Rattle.mz_grammar.specs.Readers.{Any, Reads}
use Rattle.mz_grammar.proofs.Readers.{Starts, token_starts, then_starts, image_starts, either_starts, either_of, reads_maybe, mapped}
use Rattle.mz_grammar.proofs.ManyReaders.{Ends}
use Rattle.mz_grammar.proofs.Parts.{then_any, then_sure, then_many, or_done, items_ended}
use Rattle.mz_token.specs.declared.token.Kind.{Kind}
use Rattle.mz_token.specs.declared.token.Kind.TheVariants as kind
use Rattle.mz_token.specs.declared.token.Token.{Token}
use Rattle.mz_token.specs.Tokens.{is_lower, is_upper, is_key, is_mark}
use Rattle.mz_types.specs.Fronts.{AfterAtoms}
use Rattle.mz_types.specs.Grammar.{IsAtoms}
use Rattle.mz_types.specs.Reading as types
use Rattle.mz_types.specs.Words.{Spelling, Low, Up, Key, Mark, lower, upper, key, mark, turn}
use Rattle.mz_types.proofs.Singles.{lower_has, key_has, mark_has, mark_next, sample, low_reads, up_reads, number_reads, key_reads, mark_reads, Moves}
use Rattle.mz_types.proofs.TypeFronts.{are_atoms_read}
use Rattle.mz_parse.specs.declared.bodies.BlockItem.{BlockItem}
use Rattle.mz_parse.specs.declared.bodies.BlockItem as item
use Rattle.mz_parse.specs.declared.bodies.Expression.{Expression}
use Rattle.mz_parse.specs.declared.bodies.Expression as expression
use Rattle.mz_parse.specs.declared.bodies.Primary.{Primary}
use Rattle.mz_parse.specs.declared.bodies.Primary as primary
use Rattle.mz_parse.specs.Trees.{case_of, select_of, field_value_of}
use Rattle.mz_parse.specs.Grammar.{is_multiplying, is_adding, is_comparing, multiplying, adding, comparing, MaybeSeparated, IsSelectCon, IsSelect, IsGiving, IsRetag, IsGive, IsTake, IsAcquire, IsRelease, IsNumber, IsNewLock, ValueOver, LetOver, ItemOver, BlockOver, CaseOver, CasesOver}
use Rattle.mz_parse.specs.BodyReading.{select_con_at, select_at, number_at, retag_at, give_at, take_at, acquire_at, release_at, guarded_by, giving_by, new_lock_by, Inner, argument_by, arguments_by, value_by, values_by, let_by, item_by, round_by, items_by, case_by, cases_by, is_beginning}
use Rattle.mz_parse.proofs.Forms.{next_has, maybe_separated_reads, in_parens}

-- ---- what may follow

-- no "(" behind a primary
abbrev pub AfterPrimary : Option Token → Type 0
AfterPrimary = Ends (mark 2) Any

-- nor "." behind a postfix
abbrev pub AfterPostfix : Option Token → Type 0
AfterPostfix = Ends (mark 7) AfterPrimary

-- nor "*", "/" or "%" behind a product
abbrev pub AfterProduct : Option Token → Type 0
AfterProduct = Ends multiplying AfterPostfix

-- nor "+" or "-" behind a sum
abbrev pub AfterSum : Option Token → Type 0
AfterSum = Ends adding AfterProduct

-- nor a mark that compares behind a comparison
abbrev pub AfterComparison : Option Token → Type 0
AfterComparison = Ends comparing AfterSum

-- nor "<-" where a write may stand
abbrev pub AfterSimple : Option Token → Type 0
AfterSimple = Ends (mark 14) AfterComparison

-- no "giving" and nothing that goes on with its atoms
abbrev pub AfterGiving : Option Token → Type 0
AfterGiving = Ends (key 11) AfterAtoms

abbrev pub AfterExpression : Option Token → Type 0
AfterExpression next = AfterGiving next × AfterSimple next

-- the same of kinds, so that a given token passes by computation

abbrev pub PrimaryKind : Kind → Type 0
PrimaryKind k = (is_mark 2 k ≡ false) × Unit {0}

abbrev pub PostfixKind : Kind → Type 0
PostfixKind k = (is_mark 7 k ≡ false) × PrimaryKind k

abbrev pub ProductKind : Kind → Type 0
ProductKind k = (is_multiplying k ≡ false) × PostfixKind k

abbrev pub SumKind : Kind → Type 0
SumKind k = (is_adding k ≡ false) × ProductKind k

abbrev pub ComparisonKind : Kind → Type 0
ComparisonKind k = (is_comparing k ≡ false) × SumKind k

abbrev pub SimpleKind : Kind → Type 0
SimpleKind k = (is_mark 14 k ≡ false) × ComparisonKind k

abbrev pub GivingKind : Kind → Type 0
GivingKind k = (is_key 11 k ≡ false) × ((is_mark 9 k ≡ false) × ((is_key 2 k ≡ false) × Unit {0}))

abbrev pub ExpressionKind : Kind → Type 0
ExpressionKind k = GivingKind k × SimpleKind k

-- a mark of no kind that goes on with an expression
pub ends_expression : (n : ℕ) → ExpressionKind (kind.Mark n) → (o : Option Token) → passes (mark n) o ≡ true → AfterExpression o
ends_expression n still = mark_next n ExpressionKind still AfterExpression (λ t w. w)

-- ---- what an expression begins with

abbrev pub is_word9 : Kind → Bool
is_word9 k = is_key 22 k || is_key 23 k

abbrev pub is_word8 : Kind → Bool
is_word8 k = is_key 21 k || is_word9 k

abbrev pub is_word7 : Kind → Bool
is_word7 k = is_key 17 k || is_word8 k

abbrev pub is_word6 : Kind → Bool
is_word6 k = is_key 16 k || is_word7 k

abbrev pub is_word5 : Kind → Bool
is_word5 k = is_key 13 k || is_word6 k

abbrev pub is_word4 : Kind → Bool
is_word4 k = is_key 10 k || is_word5 k

abbrev pub is_word3 : Kind → Bool
is_word3 k = is_key 7 k || is_word4 k

abbrev pub is_word : Kind → Bool
is_word k = is_key 24 k || is_word3 k

abbrev pub begins_kind : Kind → Bool
begins_kind k = is_beginning k || is_word k

abbrev pub begins : Token → Bool
begins t = begins_kind t.kind

-- ---- parts without expressions

module _ (d : ℕ) where
  select_con_reads : Reads turn select_con_at IsSelectCon Any d d
  unfolding select_con_at
  select_con_reads = then_any (up_reads d) (λ con. mapped (mark_reads 7 d d refl) (λ dot. con))

  -- a field's name is no constructor
  pub select_reads : Reads turn select_at IsSelect Any d d
  unfolding select_at
  select_reads = then_any (mark_reads 7 d d refl) (λ dot. then_sure lower (reads_maybe upper select_con_reads (then_starts Up _ (token_starts upper))) (λ con. mapped (low_reads d) (select_of con))
      (λ con. image_starts (token_starts lower)) (next_has lower (Ends upper Any) (λ t is. (lower_has (λ k. is_upper k ≡ false) refl t is, tt))))

  pub number_reads_as : Reads turn number_at IsNumber Any d d
  unfolding number_at
  number_reads_as = mapped (number_reads d) primary.Number

  pub retag_reads : Reads turn retag_at IsRetag Any d d
  unfolding retag_at
  retag_reads = then_any (key_reads 13 d) (λ word. then_any (low_reads d) (λ name. then_any (key_reads 14 d) (λ begin. then_any (up_reads d) (λ from. then_any (key_reads 15 d) (λ goal. mapped (up_reads d) (expression.Retag word name from))))))

  pub give_reads : Reads turn give_at IsGive Any d d
  unfolding give_at
  give_reads = then_any (key_reads 16 d) (λ word. then_any (low_reads d) (λ name. then_any (key_reads 15 d) (λ goal. mapped (low_reads d) (expression.Give word name))))

  pub take_reads : Reads turn take_at IsTake Any d d
  unfolding take_at
  take_reads = then_any (key_reads 17 d) (λ word. then_any (low_reads d) (λ name. then_any (key_reads 14 d) (λ begin. mapped (low_reads d) (expression.Take word name))))

  pub acquire_reads : Reads turn acquire_at IsAcquire Any d d
  unfolding acquire_at
  acquire_reads = then_any (key_reads 21 d) (λ word. mapped (low_reads d) (expression.Acquire word))

  pub release_reads : Reads turn release_at IsRelease Any d d
  unfolding release_at
  release_reads = then_any (key_reads 22 d) (λ word. mapped (low_reads d) (expression.Release word))

  pub giving_reads : Reads turn (giving_by d) IsGiving AfterGiving d d
  unfolding giving_by
  giving_reads = or_done (key 11) [] (then_any (key_reads 11 d) (λ word. are_atoms_read true d)) (then_starts (Key 11) (λ word. IsAtoms true) (token_starts (key 11)))

-- an example of what stands behind the bracket of a `newlock`: atoms, and the closing one
lock_ends : (word opening : Token) → (front : List Token) × (lock : Primary) × Then (IsAtoms false) (λ guarded. Image (λ closing. primary.NewLock word guarded) (Mark 3)) front lock
unfolding sample
lock_ends word opening =
    let atoms = (are_atoms_read false 0).example in
    (atoms.0 ++ sample (kind.Mark 3) ∷ [], primary.NewLock word atoms.1, (atoms.1, atoms.0, sample (kind.Mark 3) ∷ [], refl, atoms.2, (sample (kind.Mark 3), (refl, refl), refl)))

-- inside a bracket that is counted
guarded_reads : (d e : ℕ) → d ≡ suc e → Reads turn (guarded_by d) (IsAtoms false) AfterAtoms e e
unfolding guarded_by
guarded_reads d e h = subst (λ (n : ℕ). Reads turn (types.atoms_by false (types.below false n)) (IsAtoms false) AfterAtoms e e) (sym h) (are_atoms_read false e)

-- a closing bracket is no `*` and no `adopts`
pub new_lock_reads : (d : ℕ) → Reads turn (new_lock_by d) IsNewLock Any d d
unfolding new_lock_by
new_lock_reads d = then_any (key_reads 18 d) (λ word. in_parens (lock_ends word) d (λ e h opening. then_sure (mark 3) (guarded_reads d e h)
    (λ guarded. mapped (mark_reads 3 e d (ap Some (sym h))) (λ closing. primary.NewLock word guarded)) (λ guarded. image_starts (token_starts (mark 3)))
    (mark_next 3 (λ k. (is_mark 9 k ≡ false) × ((is_key 2 k ≡ false) × Unit {0})) (refl, (refl, tt)) AfterAtoms (λ t w. w))))

-- ---- inside brackets

module _ (inner : Inner) (X : Spelling Expression) (starts : Starts X begins) (e : ℕ) (I : Reads turn inner.0 X AfterExpression e e) where
  pub argument_reads : Reads turn (argument_by inner) X AfterExpression e e
  unfolding argument_by
  argument_reads = I

  pub arguments_read : Reads turn (arguments_by inner) (MaybeSeparated (mark 6) X) (λ o. passes (mark 3) o ≡ true) e e
  unfolding arguments_by
  arguments_read = maybe_separated_reads (mark 3) (mark 6) begins argument_reads starts (mark_reads 6 e e refl) (mark_has 3 (λ k. begins_kind k ≡ false) refl)
      (ends_expression 6 ((refl, (refl, (refl, tt))), (refl, (refl, (refl, (refl, (refl, (refl, tt))))))))
      (mark_next 3 (λ k. (is_mark 6 k ≡ false) × ExpressionKind k) (refl, ((refl, (refl, (refl, tt))), (refl, (refl, (refl, (refl, (refl, (refl, tt)))))))) (Ends (mark 6) AfterExpression) (λ t w. w))

  value_reads : Reads turn (value_by inner) (ValueOver X) AfterExpression e e
  unfolding value_by
  value_reads = then_any (low_reads e) (λ field. then_any (mark_reads 8 e e refl) (λ is. mapped argument_reads (field_value_of field)))

  pub values_read : Reads turn (values_by inner) (MaybeSeparated (mark 4) (ValueOver X)) (λ o. passes (mark 1) o ≡ true) e e
  unfolding values_by
  values_read = maybe_separated_reads (mark 1) (mark 4) lower value_reads (then_starts Low _ (token_starts lower)) (mark_reads 4 e e refl) (mark_has 1 (λ k. is_lower k ≡ false) refl)
      (ends_expression 4 ((refl, (refl, (refl, tt))), (refl, (refl, (refl, (refl, (refl, (refl, tt))))))))
      (mark_next 1 (λ k. (is_mark 4 k ≡ false) × ExpressionKind k) (refl, ((refl, (refl, (refl, tt))), (refl, (refl, (refl, (refl, (refl, (refl, tt)))))))) (Ends (mark 4) AfterExpression) (λ t w. w))

  let_reads : Reads turn (let_by inner) (LetOver X) AfterExpression e e
  unfolding let_by
  let_reads = then_any (key_reads 6 e) (λ word. then_any (low_reads e) (λ name. then_any (mark_reads 8 e e refl) (λ is. mapped argument_reads (item.Let word name))))

  let_starts : Starts (LetOver X) (key 6)
  let_starts = then_starts (Key 6) _ (token_starts (key 6))

  item_reads : Reads turn (item_by inner) (ItemOver X) AfterExpression e e
  unfolding item_by
  item_reads = either_of (key 6) begins let_reads (mapped argument_reads item.Plain) let_starts (image_starts starts) (key_has 6 (λ k. begins_kind k ≡ false) refl)

  -- a closing brace begins no item and is no `;`
  pub items_read : Reads turn (items_by inner) (Ended (mark 4) (ItemOver X)) (λ o. passes (mark 1) o ≡ true) e e
  unfolding items_by round_by sample
  items_read = items_ended (mark 1) (mark 4) (λ t. key 6 t || begins t) item_reads (either_starts let_starts (image_starts starts))
      (mark_has 1 (λ k. (is_key 6 k || begins_kind k) ≡ false) refl) (mark_has 4 (λ k. is_mark 1 k ≡ false) refl) (sample (kind.Mark 4)) refl (λ t is. mark_has 4 (λ k. Moves k e e) refl t is)
      (ends_expression 1 ((refl, (refl, (refl, tt))), (refl, (refl, (refl, (refl, (refl, (refl, tt))))))))
      (ends_expression 4 ((refl, (refl, (refl, tt))), (refl, (refl, (refl, (refl, (refl, (refl, tt))))))))

module _ (inner : Inner) (X : Spelling Expression) (e : ℕ) (J : Reads turn inner.1 (BlockOver X) Any e e) where
  case_reads : Reads turn (case_by inner) (CaseOver X) Any e e
  unfolding case_by
  case_reads = then_any (up_reads e) (λ con. then_any (mark_reads 15 e e refl) (λ arrow. mapped J (case_of con)))

  pub cases_read : Reads turn (cases_by inner) (CasesOver X) (Ends upper Any) e e
  unfolding cases_by
  cases_read = then_many upper (λ one others. one ∷ others) case_reads case_reads (then_starts Up _ (token_starts upper)) (λ o h. tt)
