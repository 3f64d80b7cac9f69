-- A cut that has come to a place of the text, and one more piece.
use Rattle.std.proofs.Common.{ℕ, zero, suc, ◌+◌, ◌-◌, ◌≤◌, ◌<◌, List, [], ◌∷◌, ◌++◌, ◌≡◌, length, take, drop, Option, Some, None, Err, All, refl, sym, ap, ◌∙◌, subst, append-nil, append_assoc, length-append, arith}
use Rattle.std.proofs.Math.Seq.{drop-append_seam}
use Rattle.std.proofs.lemmas.List.{nil_from_length, take_at, take_rest, length-take}
use Rattle.mz_tree.specs.declared.types.Place.{Place}
use Rattle.mz_token.specs.declared.token.Kind.{Kind}
use Rattle.mz_token.specs.declared.token.Token.{Token}
use Rattle.mz_token.specs.declared.token.LexFault.{LexFault}
use Rattle.mz_token.specs.declared.token.LexFault.TheVariants as fault
use Rattle.mz_token.specs.declared.pieces.Cause.{Cause}
use Rattle.mz_token.specs.declared.pieces.Cause.TheVariants.{Byte, Number, NameTooLong}
use Rattle.mz_token.specs.Shapes.{kind_of, IsLargeNumber, IsLongName}
use Rattle.mz_tree.specs.Shapes.{shape_of}
use Rattle.mz_token.specs.Places.{place_of}
use Rattle.mz_token.specs.Tokens.{InOrder, IsWithin}
use Rattle.mz_token.specs.Lexes.{Piece, joined, IsPiece, IsCut, with_token, tokens_after, Lexes, NoPiece, Over, FaultsAt, Faults, HasCause, Gives, Refuses}
use Rattle.mz_token.specs.Fronts.{BeginsWith, Stops, fault_at, word_of}
use Rattle.mz_token.proofs.Unique.{one_fault, list_or_fault}
use Rattle.mz_token.proofs.PlaceLemmas.{line_bound, col_bound}

-- ---- one more piece at the end

joined_more : (ps : List Piece) (p : Piece) → joined (ps ++ p ∷ []) ≡ joined ps ++ p.text
joined_more [] p = append-nil p.text
joined_more (q ∷ ps) p = ap (λ text. q.text ++ text) (joined_more ps p) ∙ sym (append_assoc q.text (joined ps) p.text)

cut_more : (ps : List Piece) (p : Piece) (rest : List ℕ) → IsCut ps (p.text ++ rest) → IsPiece p rest → IsCut (ps ++ p ∷ []) rest
cut_more [] p rest c i = (i, tt)
cut_more (q ∷ ps) p rest c i = (subst (IsPiece q) (sym (ap (λ text. text ++ rest) (joined_more ps p) ∙ append_assoc (joined ps) p.text rest)) c.0, cut_more ps p rest c.1 i)

with_token_more : (kind : Option Kind) (before text : List ℕ) (ts us : List Token) → with_token kind before text (ts ++ us) ≡ with_token kind before text ts ++ us
with_token_more None before text ts us = refl
with_token_more (Some kind) before text ts us = refl

-- the token of a piece that stands after these bytes
last_token : (kind : Option Kind) (before text : List ℕ) → with_token kind before text [] ≡ word_of kind (length before) (length before + length text) (place_of before)
last_token None before text = refl
last_token (Some kind) before text = refl

abbrev token_at : List ℕ → Piece → List Token
token_at before p = word_of (kind_of p.shape p.text) (length before) (length before + length p.text) (place_of before)

tokens_more : (before : List ℕ) (ps : List Piece) (p : Piece) → tokens_after before (ps ++ p ∷ []) ≡ tokens_after before ps ++ token_at (before ++ joined ps) p
tokens_more before [] p = last_token (kind_of p.shape p.text) before p.text ∙ ap (λ bytes. token_at bytes p) (sym (append-nil before))
tokens_more before (q ∷ ps) p =
    ap (with_token (kind_of q.shape q.text) before q.text) (tokens_more (before ++ q.text) ps p ∙ ap (λ bytes. tokens_after (before ++ q.text) ps ++ token_at bytes p) (append_assoc before q.text (joined ps)))
    ∙ with_token_more (kind_of q.shape q.text) before q.text (tokens_after (before ++ q.text) ps) (token_at (before ++ (q.text ++ joined ps)) p)

-- ---- spans in order

in_order_more : (from : ℕ) (ts : List Token) (at to : ℕ) (kind : Option Kind) (place : Place) → InOrder from ts at → at < to → InOrder from (ts ++ word_of kind at to place) to
in_order_more from [] at to None place o lt = omega arith
in_order_more from [] at to (Some kind) place o lt = (o, lt, omega arith)
in_order_more from (t ∷ ts) at to kind place o lt = (o.0, o.1, in_order_more t.end ts at to kind place o.2 lt)

in_order_end : (from : ℕ) (ts : List Token) (size : ℕ) → InOrder from ts size → from ≤ size
in_order_end from [] size o = o
in_order_end from (t ∷ ts) size o = omega (arith, in_order_end t.end ts size o.2, o.0, o.1)

pub all_within : (from : ℕ) (ts : List Token) (size : ℕ) → InOrder from ts size → All (IsWithin size) ts
all_within from [] size o k d lt = absurd (omega arith)
all_within from (t ∷ ts) size o zero d lt = (omega (arith, o.1), in_order_end t.end ts size o.2)
all_within from (t ∷ ts) size o (suc k) d lt = all_within t.end ts size o.2 k d (omega arith)

-- ---- how far a cut has come

-- the text before `at` is cut into pieces with these tokens, and its end is this place
pub record Scanned (bytes : List ℕ) (at : ℕ) (tokens : List Token) (place : Place) : Type 0 where
  pub pieces : List Piece
  pub rest : List ℕ
  pub all : bytes ≡ joined pieces ++ rest
  pub reached : at ≡ length (joined pieces)
  pub cut : IsCut pieces rest
  pub words : tokens ≡ tokens_after [] pieces
  pub here : place ≡ place_of (joined pieces)
  pub order : InOrder 0 tokens at

pub scanned_none : (bytes : List ℕ) → Scanned bytes 0 [] (record { line = 1; col = 1 })
scanned_none bytes = record { pieces = []; rest = bytes; all = refl; reached = refl; cut = tt; words = refl; here = refl; order = omega arith }

-- what is left stands after the pieces
pub scanned_rest : (bytes : List ℕ) (at : ℕ) (tokens : List Token) (place : Place) (s : Scanned bytes at tokens place) → drop at bytes ≡ s.rest
scanned_rest bytes at tokens place s = ap (λ n. drop n bytes) s.reached ∙ ap (drop (length (joined s.pieces))) s.all ∙ drop-append_seam (joined s.pieces) s.rest

-- a piece has at least one byte
pub piece_some : (p : Piece) (rest : List ℕ) → IsPiece p rest → 0 < length p.text
piece_some p rest i = by_text p.text i.longest.shaped
  where
    by_text : (text : List ℕ) → shape_of text ≡ Some p.shape → 0 < length text
    by_text [] shaped = (let none : None ≡ Some p.shape = shaped in absurd (cc))
    by_text (b ∷ text) shaped = omega arith

pub front_size : (bytes : List ℕ) (kind : Option Kind) (size : ℕ) → BeginsWith bytes kind size → (0 < size) × (size ≤ length bytes)
front_size bytes kind size b =
    let some : 0 < length b.piece.text = piece_some b.piece b.rest b.stands in
    let whole_size : length bytes ≡ length b.piece.text + length b.rest = ap length b.split ∙ length-append b.piece.text b.rest in
    let same : size ≡ length b.piece.text = b.same_size in
    (omega arith, omega arith)

pub scanned_more : (bytes : List ℕ) (at : ℕ) (tokens more : List Token) (place after : Place) (kind : Option Kind) (size : ℕ) → Scanned bytes at tokens place → BeginsWith (drop at bytes) kind size → more ≡ tokens ++ word_of kind at (at + size) place → ((before : List ℕ) → place ≡ place_of before → after ≡ place_of (before ++ take (at + size - at) (drop at bytes))) → Scanned bytes (at + size) more after
scanned_more bytes at tokens more place after kind size s b grown moved =
    let left = scanned_rest bytes at tokens place s in
    let split : s.rest ≡ b.piece.text ++ b.rest = sym left ∙ b.split in
    let same : at + size - at ≡ size = omega arith in
    let text_is : take (at + size - at) (drop at bytes) ≡ b.piece.text = ap (λ n. take n (drop at bytes)) same ∙ ap (take size) b.split ∙ take_at b.piece.text b.rest size (sym b.same_size) in
    let longer = joined_more s.pieces b.piece in
    let size_is : size ≡ length b.piece.text = b.same_size in
    let reached_is : at ≡ length (joined s.pieces) = s.reached in
    record {
      pieces = s.pieces ++ b.piece ∷ [];
      rest = b.rest;
      all = s.all ∙ ap (λ rest. joined s.pieces ++ rest) split ∙ sym (append_assoc (joined s.pieces) b.piece.text b.rest) ∙ ap (λ text. text ++ b.rest) (sym longer);
      reached = (let long : length (joined (s.pieces ++ b.piece ∷ [])) ≡ length (joined s.pieces) + length b.piece.text = ap length longer ∙ length-append (joined s.pieces) b.piece.text in omega arith);
      cut = cut_more s.pieces b.piece b.rest (subst (IsCut s.pieces) split s.cut) b.stands;
      words = grown ∙ same_words s.words b.same_kind reached_is size_is s.here ∙ sym (tokens_more [] s.pieces b.piece);
      here = moved (joined s.pieces) s.here ∙ ap place_of (ap (λ text. joined s.pieces ++ text) text_is ∙ sym longer);
      order = subst (λ ts. InOrder 0 ts (at + size)) (sym grown) (in_order_more 0 tokens at (at + size) kind place s.order (omega (arith, (front_size (drop at bytes) kind size b).0)));
    }
  where
    same_words : {ts : List Token} {k l : Option Kind} {n m : ℕ} {a c : ℕ} {p q : Place} → tokens ≡ ts → k ≡ l → a ≡ n → c ≡ m → p ≡ q → tokens ++ word_of k a (a + c) p ≡ ts ++ word_of l n (n + m) q
    same_words e f g h i = cc

pub scanned_all : (bytes : List ℕ) (at : ℕ) (tokens : List Token) (place : Place) → Scanned bytes at tokens place → length bytes ≤ at → Lexes bytes tokens
scanned_all bytes at tokens place s past =
    let total : length bytes ≡ length (joined s.pieces) + length s.rest = ap length s.all ∙ length-append (joined s.pieces) s.rest in
    let none : s.rest ≡ [] = nil_from_length s.rest (omega (arith, s.reached)) in
    record {
      pieces = s.pieces;
      all = s.all ∙ ap (λ rest. joined s.pieces ++ rest) none ∙ append-nil (joined s.pieces);
      cut = subst (IsCut s.pieces) none s.cut;
      words = s.words;
    }

pub scanned_size : (bytes : List ℕ) (at : ℕ) (tokens : List Token) (place : Place) → Scanned bytes at tokens place → at ≤ length bytes
scanned_size bytes at tokens place s =
    let total : length bytes ≡ length (joined s.pieces) + length s.rest = ap length s.all ∙ length-append (joined s.pieces) s.rest in
    omega (arith, s.reached)

-- the places before the end of a text are no further than its length
pub scanned_room : (bytes : List ℕ) (at : ℕ) (tokens : List Token) (place : Place) (size : ℕ) → Scanned bytes at tokens place → at + size ≤ length bytes → (place.line + length (take (at + size - at) (drop at bytes)) ≤ 1 + length bytes) × (place.col + length (take (at + size - at) (drop at bytes)) ≤ 1 + length bytes)
scanned_room bytes at tokens place size s within =
    let long : length (take (at + size - at) (drop at bytes)) ≤ size = omega (arith, length-take (at + size - at) (drop at bytes)) in
    let reached_is : at ≡ length (joined s.pieces) = s.reached in
    let line_is : place.line ≡ (place_of (joined s.pieces)).line = ap (λ p. p.line) s.here in
    let col_is : place.col ≡ (place_of (joined s.pieces)).col = ap (λ p. p.col) s.here in
    (omega (arith, line_bound (joined s.pieces)), omega (arith, col_bound (joined s.pieces)))

fault_here : (bytes : List ℕ) (at : ℕ) (tokens : List Token) (place : Place) (Stands : List ℕ → Type 0) → Scanned bytes at tokens place → Stands (drop at bytes) → FaultsAt Stands bytes place
fault_here bytes at tokens place Stands s stands = record {
  pieces = s.pieces;
  rest = s.rest;
  all = s.all;
  cut = s.cut;
  stands = subst Stands (scanned_rest bytes at tokens place s) stands;
  here = s.here;
}

-- where no lawful piece stands there, the text has a fault at this place
pub scanned_fault : (bytes : List ℕ) (at : ℕ) (tokens : List Token) (place : Place) (cause : Cause) → Scanned bytes at tokens place → Stops cause (take (length bytes - at) (drop at bytes)) → Faults bytes (fault_at cause place)
scanned_fault bytes at tokens place Byte s stops = fault_here bytes at tokens place NoPiece s (subst NoPiece (take_rest bytes at) stops)
scanned_fault bytes at tokens place Number s stops = fault_here bytes at tokens place (Over IsLargeNumber) s (subst (Over IsLargeNumber) (take_rest bytes at) stops)
scanned_fault bytes at tokens place NameTooLong s stops = fault_here bytes at tokens place (Over IsLongName) s (subst (Over IsLongName) (take_rest bytes at) stops)

-- ---- the answer at a fault

pub fault_caused : (cause : Cause) (bytes : List ℕ) (place : Place) → Faults bytes (fault_at cause place) → HasCause bytes (fault_at cause place)
fault_caused Byte bytes place f = f
fault_caused Number bytes place f = f
fault_caused NameTooLong bytes place f = f

pub fault_gives : (cause : Cause) (bytes : List ℕ) (place : Place) → Faults bytes (fault_at cause place) → (tokens : List Token) → Lexes bytes tokens → Gives (Err (fault_at cause place)) tokens
fault_gives Byte bytes place f tokens l = list_or_fault bytes tokens (fault.Byte place) l f
fault_gives Number bytes place f tokens l = list_or_fault bytes tokens (fault.Number place) l f
fault_gives NameTooLong bytes place f tokens l = list_or_fault bytes tokens (fault.NameTooLong place) l f

pub fault_refuses : (cause : Cause) (bytes : List ℕ) (place : Place) → Faults bytes (fault_at cause place) → (other : LexFault) → Faults bytes other → Refuses (Err (fault_at cause place)) other
fault_refuses Byte bytes place f other g = one_fault bytes (fault.Byte place) other f g
fault_refuses Number bytes place f other g = one_fault bytes (fault.Number place) other f g
fault_refuses NameTooLong bytes place f other g = one_fault bytes (fault.NameTooLong place) other f g
