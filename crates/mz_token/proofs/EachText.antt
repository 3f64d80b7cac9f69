-- Each text is cut into pieces up to its end, or up to where no lawful piece stands: by its first byte, piece after piece.
use Rattle.std.proofs.Common.{ℕ, zero, suc, ◌+◌, ◌<◌, ◌≤◌, ◌^◌, Bool, true, false, List, [], ◌∷◌, ◌++◌, ◌≡◌, length, take, Option, Some, None, refl, sym, ap, ◌∙◌, subst, ◌⊎◌, inl, inr, append-nil, append_assoc, length-append, arith}
use Rattle.std.proofs.lemmas.Bool.{cases_lt}
use Rattle.mz_tree.specs.declared.types.Place.{Place}
use Rattle.mz_tree.specs.Bytes.{is_blank, is_inside_line, is_small, is_capital, is_digit, is_name_byte}
use Rattle.mz_tree.specs.Spellings.{mark_texts, number_in}
use Rattle.mz_tree.specs.Shapes.{Shape, Blank_shape, Comment_shape, Lower_shape, Upper_shape, Number_shape, begins, begins_comment, whole, shape_of}
use Rattle.mz_token.specs.declared.token.Kind.{Kind}
use Rattle.mz_token.specs.declared.token.Kind.TheVariants as kind
use Rattle.mz_token.specs.declared.pieces.Cause.{Cause}
use Rattle.mz_token.specs.declared.pieces.Cause.TheVariants.{Byte, Number, NameTooLong}
use Rattle.mz_token.specs.Shapes.{IsLawful, IsLongName, kind_of, value_of}
use Rattle.mz_token.specs.Places.{place_of}
use Rattle.mz_token.specs.Lexes.{Piece, joined, IsPiece, IsCut, tokens_after, Faults, NoPiece}
use Rattle.mz_token.specs.Fronts.{BeginsWith, Stops, fault_at, IsOther}
use Rattle.mz_token.specs.Laws.{TokensOrFault}
use Rattle.mz_token.proofs.Runs.{run, run_found, run_over}
use Rattle.mz_token.proofs.Classes.{blank_run, lower_run, upper_run, number_run, comment_run}
use Rattle.mz_token.proofs.Marks.{one_found, two_found, none_found}
use Rattle.mz_token.proofs.CutLemmas.{piece_some}

-- ---- the front of a text

-- a lawful piece stands there, or none for some reason
abbrev Stands : List ℕ → Type 0
Stands bytes = ((kind : Option Kind) × (size : ℕ) × BeginsWith bytes kind size) ⊎ ((cause : Cause) × Stops cause bytes)

-- a run of bytes is this shape, and what of it goes on isn't
abbrev Decides : (ℕ → Bool) → Shape → List ℕ → Type 0
Decides test shape bytes = (more : List ℕ) → shape_of (run test bytes ++ more) ≡ whole test shape (run test bytes ++ more)

-- a lawful run is a piece
lawful_run : (test : ℕ → Bool) (shape : Shape) (bytes : List ℕ) → Decides test shape bytes → IsLawful shape (run test bytes) → Stands bytes
lawful_run test shape bytes decided lawful = inl (kind_of shape (run test bytes), _, run_found test shape bytes (kind_of shape (run test bytes)) _ decided lawful refl refl)

-- a name has at most 64 bytes or more
name_run : (shape : Shape) (bytes : List ℕ) → Decides is_name_byte shape bytes → (length (run is_name_byte bytes) ≤ 64 → IsLawful shape (run is_name_byte bytes)) → (64 < length (run is_name_byte bytes) → IsLongName shape (run is_name_byte bytes)) → Stands bytes
name_run shape bytes decided lawful long = elim (cases_lt 64 (length (run is_name_byte bytes))) [
  | inl over ↦ inr (NameTooLong, run_over is_name_byte shape bytes IsLongName decided (long over))
  | inr within ↦ lawful_run is_name_byte shape bytes decided (lawful within)
]

-- a number is below 2^64 or not
digit_run : (bytes : List ℕ) → Decides is_digit Number_shape bytes → Stands bytes
digit_run bytes decided = elim (cases_lt (value_of (run is_digit bytes)) (2 ^ 64)) [
  | inl within ↦ lawful_run is_digit Number_shape bytes decided within
  | inr over ↦ inr (Number, run_over is_digit Number_shape bytes _ decided over)
]

-- the first byte is a mark or not, where the first two are none
mark_of_one : (bytes : List ℕ) → IsOther bytes → 0 < length bytes → (1 < length bytes → number_in mark_texts (take 2 bytes) ≡ None) → (found : Option ℕ) → number_in mark_texts (take 1 bytes) ≡ found → Stands bytes
mark_of_one bytes other some pair (Some number) one = inl (Some (kind.Mark number), 1, one_found bytes number other some pair one)
mark_of_one bytes other some pair None one = inr (Byte, none_found bytes other some pair one)

-- the first two bytes are a mark or not, where there are two
mark_of_two : (bytes : List ℕ) → IsOther bytes → 1 < length bytes → (found : Option ℕ) → number_in mark_texts (take 2 bytes) ≡ found → Stands bytes
mark_of_two bytes other some (Some number) two = inl (Some (kind.Mark number), 2, two_found bytes number other some two)
mark_of_two bytes other some None two = mark_of_one bytes other (omega arith) (λ more. two) (number_in mark_texts (take 1 bytes)) refl

-- what begins no other piece
mark_stands : (bytes : List ℕ) → IsOther bytes → 0 < length bytes → Stands bytes
mark_stands bytes other some = elim (cases_lt 1 (length bytes)) [
  | inl two ↦ mark_of_two bytes other two (number_in mark_texts (take 2 bytes)) refl
  | inr one ↦ mark_of_one bytes other some (λ two. absurd (omega arith)) (number_in mark_texts (take 1 bytes)) refl
]

-- by the class of the first byte, in the order of the shapes
front_stands : (bytes : List ℕ) → 0 < length bytes → Stands bytes
front_stands bytes some = by_blank (begins is_blank bytes) refl
  where
    by_comment : (b : Bool) → begins_comment bytes ≡ b → begins is_blank bytes ≡ false → begins is_small bytes ≡ false → begins is_capital bytes ≡ false → begins is_digit bytes ≡ false → Stands bytes
    by_comment true comment blank small capital digit = lawful_run is_inside_line Comment_shape bytes (comment_run bytes comment) tt
    by_comment false comment blank small capital digit = mark_stands bytes (record { blank = blank; small = small; capital = capital; digit = digit; comment = comment }) some

    by_digit : (b : Bool) → begins is_digit bytes ≡ b → begins is_blank bytes ≡ false → begins is_small bytes ≡ false → begins is_capital bytes ≡ false → Stands bytes
    by_digit true digit blank small capital = digit_run bytes (number_run bytes blank small capital digit)
    by_digit false digit blank small capital = by_comment (begins_comment bytes) refl blank small capital digit

    by_capital : (b : Bool) → begins is_capital bytes ≡ b → begins is_blank bytes ≡ false → begins is_small bytes ≡ false → Stands bytes
    by_capital true capital blank small = name_run Upper_shape bytes (upper_run bytes blank small capital) (λ within. within) (λ over. over)
    by_capital false capital blank small = by_digit (begins is_digit bytes) refl blank small capital

    by_small : (b : Bool) → begins is_small bytes ≡ b → begins is_blank bytes ≡ false → Stands bytes
    by_small true small blank = name_run Lower_shape bytes (lower_run bytes blank small) (λ within. within) (λ over. over)
    by_small false small blank = by_capital (begins is_capital bytes) refl blank small

    by_blank : (b : Bool) → begins is_blank bytes ≡ b → Stands bytes
    by_blank true blank = lawful_run is_blank Blank_shape bytes (blank_run bytes blank) tt
    by_blank false blank = by_small (begins is_small bytes) refl blank

-- ---- the whole text

-- it is cut up to its end
abbrev CutWhole : List ℕ → Type 0
CutWhole bytes = (pieces : List Piece) × (bytes ≡ joined pieces) × IsCut pieces []

-- it is cut up to where no lawful piece stands
abbrev CutShort : List ℕ → Type 0
CutShort bytes = (cause : Cause) × (pieces : List Piece) × (rest : List ℕ) × (bytes ≡ joined pieces ++ rest) × IsCut pieces rest × Stops cause rest

-- one more piece in front
one_more : (bytes : List ℕ) (piece : Piece) (rest : List ℕ) → bytes ≡ piece.text ++ rest → IsPiece piece rest → CutWhole rest ⊎ CutShort rest → CutWhole bytes ⊎ CutShort bytes
one_more bytes piece rest split stands (inl (pieces, all, cut)) = inl (piece ∷ pieces, split ∙ ap (λ l. piece.text ++ l) all, (subst (IsPiece piece) (all ∙ sym (append-nil (joined pieces))) stands, cut))
one_more bytes piece rest split stands (inr (cause, pieces, others, all, cut, stops)) = inr (cause, piece ∷ pieces, others, split ∙ ap (λ l. piece.text ++ l) all ∙ sym (append_assoc piece.text (joined pieces) others), (subst (IsPiece piece) all stands, cut), stops)

-- by the number of bytes, since a piece has one at least
cut_or_short : (n : ℕ) (bytes : List ℕ) → length bytes ≤ n → CutWhole bytes ⊎ CutShort bytes
cut_or_short n [] le = inl ([], refl, tt)
cut_or_short zero (b ∷ bytes) le = absurd (omega arith)
cut_or_short (suc n) (b ∷ bytes) le = elim (front_stands (b ∷ bytes) (omega arith)) [
  | inl it ↦
      let here = it.2 in
      let size : length (b ∷ bytes) ≡ length here.piece.text + length here.rest = ap length here.split ∙ length-append here.piece.text here.rest in
      let some : 0 < length here.piece.text = piece_some here.piece here.rest here.stands in
      one_more (b ∷ bytes) here.piece here.rest here.split here.stands (cut_or_short n here.rest (omega arith))
  | inr it ↦ inr (it.0, [], b ∷ bytes, refl, tt, it.1)
]

-- the fault of a text that is cut short, by its cause
short_faults : (cause : Cause) (bytes : List ℕ) (pieces : List Piece) (rest : List ℕ) → bytes ≡ joined pieces ++ rest → IsCut pieces rest → Stops cause rest → Faults bytes (fault_at cause (place_of (joined pieces)))
short_faults Byte bytes pieces rest all cut stops = record { pieces = pieces; rest = rest; all = all; cut = cut; stands = stops; here = refl }
short_faults Number bytes pieces rest all cut stops = record { pieces = pieces; rest = rest; all = all; cut = cut; stands = stops; here = refl }
short_faults NameTooLong bytes pieces rest all cut stops = record { pieces = pieces; rest = rest; all = all; cut = cut; stands = stops; here = refl }

pub tokens_or_fault : TokensOrFault
tokens_or_fault bytes = elim (cut_or_short (length bytes) bytes (omega arith)) [
  | inl it ↦ inl (tokens_after [] it.0, record { pieces = it.0; all = it.1; cut = it.2; words = refl })
  | inr it ↦ inr (fault_at it.0 (place_of (joined it.1)), short_faults it.0 bytes it.1 it.2 it.3 it.4 it.5)
]
