-- The place after one more byte.
use Rattle.std.proofs.Common.{ℕ, ◌+◌, ◌≤◌, ◌==◌, true, false, List, [], ◌∷◌, ◌++◌, ◌≡◌, length, count_by, ap, ◌∙◌, arith}
use Rattle.std.specs.List.{suffix_len}
use Rattle.std.proofs.lemmas.List.{reverse-append}
use Rattle.std.proofs.lemmas.List.Sums.{sum_by_push, count_by-le-length, suffix_len-le-length}
use Rattle.mz_tree.specs.declared.types.Place.{Place}
use Rattle.mz_tree.specs.Bytes.{is_inside_line}
use Rattle.mz_token.specs.Places.{place_of}

abbrev place_at : ℕ → ℕ → Place
place_at l c = record { line = l; col = c }

-- after a line end comes the next line, and after any other byte the next column
pub place_line_end : (before : List ℕ) (b : ℕ) → (b == 10) ≡ true → place_of (before ++ b ∷ []) ≡ record { line = (place_of before).line + 1; col = 1 }
place_line_end before b h =
    let next : 1 + (count_by (λ x. x == 10) before + 1) ≡ 1 + count_by (λ x. x == 10) before + 1 = omega arith in
    rw (sum_by_push, reverse-append, h) (ap (λ l. place_at l 1) next)

pub place_inside : (before : List ℕ) (b : ℕ) → (b == 10) ≡ false → place_of (before ++ b ∷ []) ≡ record { line = (place_of before).line; col = (place_of before).col + 1 }
place_inside before b h =
    let same : 1 + (count_by (λ x. x == 10) before + 0) ≡ 1 + count_by (λ x. x == 10) before = omega arith in
    let next : 1 + (1 + suffix_len is_inside_line before) ≡ 1 + suffix_len is_inside_line before + 1 = omega arith in
    rw (sum_by_push, reverse-append, h) (ap (λ l. place_at l (1 + (1 + suffix_len is_inside_line before))) same ∙ ap (place_at (1 + count_by (λ x. x == 10) before)) next)

-- a place is no further than there are bytes before it
pub line_bound : (before : List ℕ) → (place_of before).line ≤ 1 + length before
line_bound before = omega (arith, count_by-le-length (λ b. b == 10) before)

pub col_bound : (before : List ℕ) → (place_of before).col ≤ 1 + length before
col_bound before = omega (arith, suffix_len-le-length is_inside_line before)
