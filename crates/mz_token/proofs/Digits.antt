-- The value of digits.
use Rattle.std.proofs.Common.{ℕ, ◌+◌, ◌*◌, ◌-◌, ◌≤◌, List, [], ◌∷◌, ◌≡◌, ◌<◌, length, drop, get_or, add-one, drop-cons, arith}
use Rattle.mz_token.specs.Shapes.{value_from}

-- what was read so far is no more than the whole, since each digit only adds
pub value_from-ge : (n : ℕ) (digits : List ℕ) → n ≤ value_from n digits
value_from-ge n [] = omega arith
value_from-ge n (d ∷ digits) = omega (arith, value_from-ge (10 * n + (d - 48)) digits)

-- at one more digit the value is at least ten times what was read so far, and the digit
pub value_from-drop : (n i : ℕ) (digits : List ℕ) → i < length digits → 10 * n + (get_or digits i 0 - 48) ≤ value_from n (drop i digits)
value_from-drop n i digits h = rw drop-cons_at (omega (arith, value_from-ge (10 * n + (get_or digits i 0 - 48)) (drop (i + 1) digits)))
  where
    drop-cons_at : drop i digits ≡ get_or digits i 0 ∷ drop (i + 1) digits
    drop-cons_at = rw (add-one, drop-cons digits i 0)
