-- The first bytes of a text decide which test its shape rests on.
use Rattle.std.proofs.Common.{ℕ, true, false, ◌&&◌, ◌==◌, List, [], ◌∷◌, ◌++◌, ◌≡◌, refl, sym, ◌∙◌, subst, one-add}
use Rattle.std.specs.Cmp.{second_so, first_so}
use Rattle.std.proofs.Math.Bool.{true≢false}
use Rattle.std.proofs.lemmas.Bool.{eqb-true}
use Rattle.mz_tree.specs.Bytes.{is_blank, is_inside_line, is_small, is_capital, is_digit, is_name_byte}
use Rattle.mz_tree.specs.Spellings.{mark_texts, number_in}
use Rattle.mz_tree.specs.Shapes.{Blank_shape, Comment_shape, Lower_shape, Upper_shape, Number_shape, begins, begins_comment, whole, mark_shape, shape_of}
use Rattle.mz_token.proofs.Runs.{run, run_begins}

-- ---- of a whole text

blank_text : (text : List ℕ) → begins is_blank text ≡ true → shape_of text ≡ whole is_blank Blank_shape text
blank_text text blank = rw blank

lower_text : (text : List ℕ) → begins is_blank text ≡ false → begins is_small text ≡ true → shape_of text ≡ whole is_name_byte Lower_shape text
lower_text text blank small = rw (blank, small)

upper_text : (text : List ℕ) → begins is_blank text ≡ false → begins is_small text ≡ false → begins is_capital text ≡ true → shape_of text ≡ whole is_name_byte Upper_shape text
upper_text text blank small capital = rw (blank, small, capital)

number_text : (text : List ℕ) → begins is_blank text ≡ false → begins is_small text ≡ false → begins is_capital text ≡ false → begins is_digit text ≡ true → shape_of text ≡ whole is_digit Number_shape text
number_text text blank small capital digit = rw (blank, small, capital, digit)

pub mark_text : (text : List ℕ) → begins is_blank text ≡ false → begins is_small text ≡ false → begins is_capital text ≡ false → begins is_digit text ≡ false → begins_comment text ≡ false → shape_of text ≡ mark_shape (number_in mark_texts text)
mark_text text blank small capital digit comment = rw (blank, small, capital, digit, comment)

-- ---- a name's first byte is a name's byte

pub small_in_name : (bytes : List ℕ) → begins is_small bytes ≡ true → begins is_name_byte bytes ≡ true
small_in_name [] h = h
small_in_name (b ∷ bytes) h = rw h

pub capital_in_name : (bytes : List ℕ) → begins is_small bytes ≡ false → begins is_capital bytes ≡ true → begins is_name_byte bytes ≡ true
capital_in_name [] s h = h
capital_in_name (b ∷ bytes) s h = rw (s, h)

-- ---- of a run and more

pub blank_run : (bytes : List ℕ) → begins is_blank bytes ≡ true → (more : List ℕ) → shape_of (run is_blank bytes ++ more) ≡ whole is_blank Blank_shape (run is_blank bytes ++ more)
blank_run bytes blank more = blank_text (run is_blank bytes ++ more) (run_begins is_blank is_blank bytes more blank ∙ blank)

pub lower_run : (bytes : List ℕ) → begins is_blank bytes ≡ false → begins is_small bytes ≡ true → (more : List ℕ) → shape_of (run is_name_byte bytes ++ more) ≡ whole is_name_byte Lower_shape (run is_name_byte bytes ++ more)
lower_run bytes blank small more =
    let name = small_in_name bytes small in
    lower_text (run is_name_byte bytes ++ more) (run_begins is_blank is_name_byte bytes more name ∙ blank) (run_begins is_small is_name_byte bytes more name ∙ small)

pub upper_run : (bytes : List ℕ) → begins is_blank bytes ≡ false → begins is_small bytes ≡ false → begins is_capital bytes ≡ true → (more : List ℕ) → shape_of (run is_name_byte bytes ++ more) ≡ whole is_name_byte Upper_shape (run is_name_byte bytes ++ more)
upper_run bytes blank small capital more =
    let name = capital_in_name bytes small capital in
    upper_text (run is_name_byte bytes ++ more) (run_begins is_blank is_name_byte bytes more name ∙ blank) (run_begins is_small is_name_byte bytes more name ∙ small) (run_begins is_capital is_name_byte bytes more name ∙ capital)

pub number_run : (bytes : List ℕ) → begins is_blank bytes ≡ false → begins is_small bytes ≡ false → begins is_capital bytes ≡ false → begins is_digit bytes ≡ true → (more : List ℕ) → shape_of (run is_digit bytes ++ more) ≡ whole is_digit Number_shape (run is_digit bytes ++ more)
number_run bytes blank small capital digit more =
    number_text (run is_digit bytes ++ more) (run_begins is_blank is_digit bytes more digit ∙ blank) (run_begins is_small is_digit bytes more digit ∙ small) (run_begins is_capital is_digit bytes more digit ∙ capital) (run_begins is_digit is_digit bytes more digit ∙ digit)

-- a slash is no line end, so the run of a comment has both slashes
slashes : (bytes more : List ℕ) → shape_of (run is_inside_line (47 ∷ 47 ∷ bytes) ++ more) ≡ whole is_inside_line Comment_shape (run is_inside_line (47 ∷ 47 ∷ bytes) ++ more)
slashes bytes more = rw (one-add, one-add) refl

-- what begins a comment are two slashes
two_slashes : (bytes : List ℕ) → begins_comment bytes ≡ true → (others : List ℕ) × (bytes ≡ 47 ∷ 47 ∷ others)
two_slashes [] h = absurd (true≢false (sym h))
two_slashes (a ∷ []) h = absurd (true≢false (sym (second_so (47 == a) false h)))
two_slashes (a ∷ b ∷ bytes) h =
    let a_is : 47 ≡ a = eqb-true 47 a (first_so (47 == a) ((47 == b) && true) h) in
    let b_is : 47 ≡ b = eqb-true 47 b (first_so (47 == b) true (second_so (47 == a) ((47 == b) && true) h)) in
    (bytes, rw (← a_is, ← b_is) refl)

pub comment_run : (bytes : List ℕ) → begins_comment bytes ≡ true → (more : List ℕ) → shape_of (run is_inside_line bytes ++ more) ≡ whole is_inside_line Comment_shape (run is_inside_line bytes ++ more)
comment_run bytes comment more =
    let found = two_slashes bytes comment in
    subst (λ text. shape_of (run is_inside_line text ++ more) ≡ whole is_inside_line Comment_shape (run is_inside_line text ++ more)) (sym found.1) (slashes found.0 more)
