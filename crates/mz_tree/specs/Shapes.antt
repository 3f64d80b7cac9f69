-- The shapes of pieces of a text: white space, comments and words.
use Rattle.std.specs.Prelude.{ℕ, Bool, false, nat_eq, List, [], ◌∷◌, Option, Some, None, if◌then◌else◌, codes}
use Rattle.std.specs.List.{list_all, starts_with}
use Rattle.mz_tree.specs.Bytes.{is_blank, is_inside_line, is_small, is_capital, is_digit, is_name_byte}
use Rattle.mz_tree.specs.Spellings.{mark_texts, number_in}

-- a piece is white space, a comment or a word
pub data Shape : Type 0 where
  Blank_shape : Shape
  Comment_shape : Shape
  Lower_shape : Shape
  Upper_shape : Shape
  Number_shape : Shape
  Mark_shape : ℕ → Shape

-- whether the first byte passes
abbrev pub begins : (ℕ → Bool) → List ℕ → Bool
begins test [] = false
begins test (b ∷ text) = test b

-- whether it begins with two slashes
abbrev pub begins_comment : List ℕ → Bool
begins_comment text = starts_with nat_eq text (codes "//")

-- this shape where each byte passes
abbrev pub whole : (ℕ → Bool) → Shape → List ℕ → Option Shape
whole test shape text = if list_all test text then Some shape else None

abbrev pub mark_shape : Option ℕ → Option Shape
mark_shape None = None
mark_shape (Some number) = Some (Mark_shape number)

-- the shape of a whole text, limits aside, if it is one piece
abbrev pub shape_of : List ℕ → Option Shape
shape_of text =
    if begins is_blank text then whole is_blank Blank_shape text
    else (if begins is_small text then whole is_name_byte Lower_shape text
    else (if begins is_capital text then whole is_name_byte Upper_shape text
    else (if begins is_digit text then whole is_digit Number_shape text
    else (if begins_comment text then whole is_inside_line Comment_shape text
    else mark_shape (number_in mark_texts text)))))
