-- What the tokens of a text say of their own texts: that of a lower name is a lower name that is no key, and that of an upper
-- name is an upper name, both within their limit. The value of a number's token is in range.
use Rattle.std.proofs.Common.{◌≡◌, ℕ, ◌+◌, ◌-◌, ◌^◌, ◌≤◌, ◌<◌, List, [], ◌∷◌, ◌++◌, length, take, slice_range, Option, Some, None, IsTrue, refl, sym, ap, subst, ◌∙◌, append_assoc, arith}
use Rattle.std.proofs.lemmas.List.{take_at, drop_at}
use Rattle.mz_token.specs.declared.token.Kind.{Kind}
use Rattle.mz_token.specs.declared.token.Token.{Token}
use Rattle.mz_tree.specs.Spellings.{key_texts, number_in}
use Rattle.mz_token.specs.Tokens.{text_of, is_lower, is_upper, is_number}
use Rattle.mz_token.specs.Shapes.{IsLawful, key_or_lower, kind_of}
use Rattle.mz_tree.specs.Shapes.{Shape, Blank_shape, Comment_shape, Lower_shape, Upper_shape, Number_shape, Mark_shape, shape_of}
use Rattle.mz_token.specs.Lexes.{Piece, IsCut, Lexes, joined, with_token, tokens_after}
use Rattle.mz_types.specs.Words.{lower, upper, number}
use Rattle.mz_scope.specs.Trees.{number_in as value_in}
use Rattle.mz_tree.specs.Scoped.{IsLowerName, IsUpperName}
use Rattle.mz_scoped.proofs.Proper.{AllOf}

-- a kind that a text may have; a number is a u64
record Suits (k : Kind) (text : List ℕ) : Type 0 where
  low : IsTrue (is_lower k) → IsLowerName text
  up : IsTrue (is_upper k) → IsUpperName text
  value : IsTrue (is_number k) → value_in k < 2 ^ 64

-- a token with the text that its kind asks for
pub record IsGood (bytes : List ℕ) (t : Token) : Type 0 where
  pub low : IsTrue (lower t) → IsLowerName (text_of bytes t)
  pub up : IsTrue (upper t) → IsUpperName (text_of bytes t)
  pub value : IsTrue (number t) → value_in t.kind < 2 ^ 64

-- a lower name's text stands in no table of keys, else it is a key
lower_suits : (text : List ℕ) → shape_of text ≡ Some Lower_shape → length text ≤ 64 → (o : Option ℕ) → number_in key_texts text ≡ o → Suits (key_or_lower o) text
lower_suits text shaped short None none = record { low = λ is. record { lower = shaped; no_key = none; short = short }; up = λ is. cc; value = λ is. cc }
lower_suits text shaped short (Some n) found = record { low = λ is. cc; up = λ is. cc; value = λ is. cc }

-- what a word's kind asks for
OnKind : Option Kind → List ℕ → Type 0
OnKind None text = Unit {0}
OnKind (Some k) text = Suits k text

-- the kind of a lawful piece is one that its text may have
piece_suits : (shape : Shape) (text : List ℕ) → shape_of text ≡ Some shape → IsLawful shape text → OnKind (kind_of shape text) text
unfolding OnKind
piece_suits Blank_shape text shaped lawful = tt
piece_suits Comment_shape text shaped lawful = tt
piece_suits Lower_shape text shaped lawful = lower_suits text shaped lawful (number_in key_texts text) refl
piece_suits Upper_shape text shaped lawful = record { low = λ is. cc; up = λ is. record { upper = shaped; short = lawful }; value = λ is. cc }
piece_suits Number_shape text shaped lawful = record { low = λ is. cc; up = λ is. cc; value = λ is. lawful }
piece_suits (Mark_shape n) text shaped lawful = record { low = λ is. cc; up = λ is. cc; value = λ is. cc }

-- the bytes from the end of the first text to the end of the second
cut_out : (before text rest : List ℕ) → slice_range (before ++ (text ++ rest)) (length before) (length before + length text) ≡ text
cut_out before text rest =
    ap (take (length before + length text - length before)) (drop_at before (text ++ rest) (length before) refl)
    ∙ take_at text rest (length before + length text - length before) (omega arith)

-- one token more, where its text stands there
with_good : (bytes before text rest : List ℕ) (k : Option Kind) (tokens : List Token) → bytes ≡ before ++ (text ++ rest) → OnKind k text → AllOf (IsGood bytes) tokens → AllOf (IsGood bytes) (with_token k before text tokens)
unfolding OnKind
with_good bytes before text rest None tokens all suits good = good
with_good bytes before text rest (Some k) tokens all suits good =
    let is : text ≡ slice_range bytes (length before) (length before + length text) = sym (ap (λ b. slice_range b (length before) (length before + length text)) all ∙ cut_out before text rest) in
    (record { low = λ low. subst IsLowerName is (suits.low low); up = λ up. subst IsUpperName is (suits.up up); value = suits.value }, good)

-- the tokens of pieces are good, piece by piece
all_good : (bytes before : List ℕ) (pieces : List Piece) → bytes ≡ before ++ joined pieces → IsCut pieces [] → AllOf (IsGood bytes) (tokens_after before pieces)
all_good bytes before [] all cut = tt
all_good bytes before (piece ∷ pieces) all cut =
    with_good bytes before piece.text (joined pieces) (kind_of piece.shape piece.text) (tokens_after (before ++ piece.text) pieces) all
    (piece_suits piece.shape piece.text cut.0.longest.shaped cut.0.lawful)
    (all_good bytes (before ++ piece.text) pieces (all ∙ sym (append_assoc before piece.text (joined pieces))) cut.1)

-- each token of a text is good
pub tokens_good : (bytes : List ℕ) (tokens : List Token) → Lexes bytes tokens → AllOf (IsGood bytes) tokens
tokens_good bytes tokens lexes = subst (AllOf (IsGood bytes)) (sym lexes.words) (all_good bytes [] lexes.pieces lexes.all lexes.cut)
