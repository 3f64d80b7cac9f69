-- Reading parts of a line from the front of bytes, and readers made of readers.
use Rattle.std.specs.Prelude.{ℕ, ◌+◌, ◌-◌, ◌*◌, ◌==◌, ◌&&◌, nat_le, Bool, true, false, not, List, [], ◌∷◌, take, drop, Option, Some, None, Ok, Err, codes, if◌then◌else◌}
use Rattle.std.specs.List.{prefix_len}
use Rattle.std.specs.Str.{all_ascii_digits}
use Rattle.mz_grammar.specs.Reading.{Read, Wrong, ◌>>=◌}
use Rattle.mz_tree.specs.Bytes.{is_name_byte}

-- the bytes behind a text, if it stands at the front
abbrev pub behind_text : List ℕ → List ℕ → Option (List ℕ)
behind_text [] bytes = Some bytes
behind_text (c ∷ text) [] = None
behind_text (c ∷ text) (b ∷ bytes) = if c == b then behind_text text bytes else None

-- one of two readers, by the text at the front
abbrev pub chosen : {A : Type 0} → (List ℕ → Read ℕ A) → (List ℕ → Read ℕ A) → List ℕ → Option (List ℕ) → Read ℕ A
chosen r q bytes None = q bytes
chosen r q bytes (Some rest) = r rest

unfoldable pub choose_text : {A : Type 0} → List ℕ → (List ℕ → Read ℕ A) → (List ℕ → Read ℕ A) → List ℕ → Read ℕ A
choose_text text r q bytes = chosen r q bytes (behind_text text bytes)

-- what was found, or nothing
abbrev pub found_or : {A : Type 0} → List ℕ → List ℕ → Option A → Read ℕ A
found_or bytes rest None = Err (Wrong bytes)
found_or bytes rest (Some a) = Ok (a, rest)

abbrev pub text_or : List ℕ → Option (List ℕ) → Read ℕ (Unit {0})
text_or bytes None = Err (Wrong bytes)
text_or bytes (Some rest) = Ok (tt, rest)

-- a text
unfoldable pub text_at : List ℕ → List ℕ → Read ℕ (Unit {0})
text_at text bytes = text_or bytes (behind_text text bytes)

-- behind a text
abbrev pub behind : {A : Type 0} → List ℕ → (List ℕ → Read ℕ A) → List ℕ → Read ℕ A
behind text r bytes = text_at text bytes >>= λ s. r s.1

-- one after another
abbrev pub both : {A B : Type 0} → (List ℕ → Read ℕ A) → (List ℕ → Read ℕ B) → List ℕ → Read ℕ (A × B)
both r q bytes = r bytes >>= λ x. q x.1 >>= λ y. Ok ((x.0, y.0), y.1)

-- what is made of what was read
abbrev pub image : {A B : Type 0} → (A → B) → (List ℕ → Read ℕ A) → List ℕ → Read ℕ B
image f r bytes = r bytes >>= λ x. Ok (f x.0, x.1)

-- as many bytes of a name as stand there
unfoldable pub word_at : List ℕ → Read ℕ (List ℕ)
word_at bytes = Ok (take (prefix_len is_name_byte bytes) bytes, drop (prefix_len is_name_byte bytes) bytes)

-- ---- numbers

-- the value of digits behind a number
abbrev pub digits_from : ℕ → List ℕ → ℕ
digits_from n [] = n
digits_from n (d ∷ digits) = digits_from (10 * n + (d - 48)) digits

-- there is a digit, and 0 stands first only alone
abbrev pub begins_rightly : List ℕ → Bool
begins_rightly [] = false
begins_rightly (d ∷ []) = true
begins_rightly (d ∷ e ∷ digits) = not (d == 48)

-- the number of 32 bits that a word is in decimal, without leading zero
unfoldable pub number_of : List ℕ → Option ℕ
number_of word = if all_ascii_digits word && begins_rightly word && nat_le (digits_from 0 word) 4294967295 then Some (digits_from 0 word) else None

unfoldable pub number_at : List ℕ → Read ℕ ℕ
number_at bytes = word_at bytes >>= λ w. found_or bytes w.1 (number_of w.0)

-- a name
unfoldable pub name_at : List ℕ → Read ℕ ℕ
name_at = behind (codes "%") number_at
