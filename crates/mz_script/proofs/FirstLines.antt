-- The first line of bytes, by a place in them.
use Rattle.std.proofs.Common.{◌≡◌, ◌==◌, ℕ, suc, Bool, true, false, List, [], ◌∷◌, ◌++◌, length, take, drop, get_or, ◌<◌, ◌+◌, ◌-◌, refl, sym, ap, subst, ◌∙◌, arith}
use Rattle.std.proofs.lemmas.List.{take-append-drop, drop_more, take_rest, length-drop}
use Rattle.std.proofs.lemmas.Bool.{eqb-true}
use Rattle.std.proofs.Math.Seq.{take-suc}
use Rattle.mz_script.specs.Cutting.{before_first, lines}
use Rattle.mz_script.proofs.Cuts.{NoEnd, goes_on, cut_at}

pub no_end_more : (bytes : List ℕ) (b : ℕ) → NoEnd bytes → (b == 10) ≡ false → NoEnd (bytes ++ b ∷ [])
no_end_more [] b h e = (e, tt)
no_end_more (a ∷ bytes) b (f, h) e = (f, no_end_more bytes b h e)

-- or all
pub cut_last : (b : ℕ) (front : List ℕ) → NoEnd (b ∷ front) → lines (b ∷ front) ≡ (b ∷ front) ∷ []
cut_last b [] (e, h) = goes_on b [] e
cut_last b (c ∷ front) (e, h) = goes_on b (c ∷ front) e ∙ ap (before_first b) (cut_last c front h)

pub cut_all : (front : List ℕ) → NoEnd front → (length front ≡ 0 → ⊥) → lines front ≡ front ∷ lines []
cut_all [] h some = absurd (some refl)
cut_all (b ∷ front) h some = cut_last b front h

-- ---- .. by a place in the bytes

-- what is left of a list is all that is left
rest_is : (bytes : List ℕ) (i : ℕ) → take (length bytes - i) (drop i bytes) ≡ drop i bytes
rest_is bytes i = take_rest bytes i

split_at : (bytes : List ℕ) (i : ℕ) → i < length bytes → bytes ≡ take i bytes ++ (get_or bytes i 0 ∷ drop (i + 1) bytes)
split_at bytes i lt = sym (take-append-drop i bytes) ∙ ap (λ l. take i bytes ++ l) (drop_more bytes i 0 lt)

taken_more : (bytes : List ℕ) (i : ℕ) → i < length bytes → take (i + 1) bytes ≡ take i bytes ++ get_or bytes i 0 ∷ []
taken_more bytes i lt = let one : i + 1 ≡ suc i = omega arith in ap (λ k. take k bytes) one ∙ take-suc bytes i 0 lt

shorter : (bytes : List ℕ) (i : ℕ) → i < length bytes → length (drop (i + 1) bytes) < length bytes
shorter bytes i lt = omega (arith, length-drop (i + 1) bytes)

pub found_at : (bytes : List ℕ) (i : ℕ) → i < length bytes → NoEnd (take i bytes) → get_or bytes i 0 ≡ 10 →
    (lines bytes ≡ take (i + 1) bytes ∷ lines (take (length bytes - (i + 1)) (drop (i + 1) bytes))) × (length (take (length bytes - (i + 1)) (drop (i + 1) bytes)) < length bytes)
found_at bytes i lt h ten = (
  ap lines (split_at bytes i lt ∙ ap (λ b. take i bytes ++ (b ∷ drop (i + 1) bytes)) ten)
      ∙ cut_at (take i bytes) (drop (i + 1) bytes) h
      ∙ ap (λ l. l ∷ lines (drop (i + 1) bytes)) (sym (taken_more bytes i lt ∙ ap (λ b. take i bytes ++ b ∷ []) ten))
      ∙ ap (λ l. take (i + 1) bytes ∷ lines l) (sym (rest_is bytes (i + 1))),
  subst (λ (l : List ℕ). length l < length bytes) (sym (rest_is bytes (i + 1))) (shorter bytes i lt),
)

not_ten : (b : ℕ) → (b ≡ 10 → ⊥) → (b == 10) ≡ false
not_ten b h = go (b == 10) refl
  where
    go : (t : Bool) → (b == 10) ≡ t → t ≡ false
    go true e = absurd (h (eqb-true b 10 e))
    go false e = refl

pub one_more_at : (bytes : List ℕ) (i : ℕ) → i < length bytes → NoEnd (take i bytes) → (get_or bytes i 0 ≡ 10 → ⊥) → NoEnd (take (i + 1) bytes)
one_more_at bytes i lt h e = subst (λ (l : List ℕ). NoEnd l) (sym (taken_more bytes i lt)) (no_end_more (take i bytes) (get_or bytes i 0) h (not_ten (get_or bytes i 0) e))

nothing_left : (bytes : List ℕ) → drop (length bytes) bytes ≡ []
nothing_left [] = refl
nothing_left (b ∷ bytes) = nothing_left bytes

all_taken : (bytes : List ℕ) → take (length bytes) bytes ≡ bytes
all_taken [] = refl
all_taken (b ∷ bytes) = ap (λ l. b ∷ l) (all_taken bytes)

pub all_at : (bytes : List ℕ) (i : ℕ) → i ≡ length bytes → NoEnd (take i bytes) → (length bytes ≡ 0 → ⊥) →
    (lines bytes ≡ bytes ∷ lines (take (length bytes - length bytes) (drop (length bytes) bytes))) × (length (take (length bytes - length bytes) (drop (length bytes) bytes)) < length bytes)
all_at bytes i e h some =
    let none : take (length bytes - length bytes) (drop (length bytes) bytes) ≡ [] = rest_is bytes (length bytes) ∙ nothing_left bytes in
    let whole : NoEnd bytes = subst (λ (l : List ℕ). NoEnd l) (ap (λ k. take k bytes) e ∙ all_taken bytes) h in
    (cut_all bytes whole some ∙ ap (λ l. bytes ∷ lines l) (sym none), subst (λ (l : List ℕ). length l < length bytes) (sym none) (omega arith))
