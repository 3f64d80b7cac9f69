-- Numbers in decimal, without leading zero: each number is one word, and each such word one number.
use Rattle.std.proofs.Common.{◌≡◌, ◌==◌, ◌≤◌, ◌<◌, ◌^◌, ℕ, zero, suc, Bool, true, false, not, nat_le, List, [], ◌∷◌, ◌++◌, length, get_or, Option, Some, None, Ok, decimal, codes, if◌then◌else◌, ◌&&◌, ◌||◌, refl, sym, ap, subst, ◌∙◌, rules, arith, eqb-true}
use Rattle.std.specs.List.{list_all}
use Rattle.std.specs.Str.{all_ascii_digits}
use Rattle.std.specs.Char.{is_ascii_digit}
use Rattle.std.proofs.lemmas.Str.Parse.{IsNumeralModel, numerals_by_fold}
use Rattle.std.proofs.lemmas.Fmt.{digits_decimal, digits_value-decimal, decimal-digits_value, decimal_nonempty, first_decimal, decimal_digit}
use Rattle.mz_grammar.specs.Reading.{Read, ◌>>=◌}
use Rattle.mz_tree.specs.Bytes.{is_name_byte, is_small, is_capital}
use Rattle.mz_script.specs.Words.{name_text}
use Rattle.mz_script.specs.Fronts.{digits_from, begins_rightly, number_of, number_at, name_at, found_or, word_at}
use Rattle.mz_script.proofs.Undoing.{Sound, Never, NoName, went, goes, ok_is, word_read, word_was, behind_never, behind_sound, and_left, and_right}

pub own : IsNumeralModel (λ ds. all_ascii_digits ds ≡ true) (digits_from 0)
own = numerals_by_fold _ (search rules) digits_from (search rules)

wide : (n : ℕ) → n < 2 ^ 32 → n < 2 ^ 64
wide n h = omega arith

-- ---- a number is written so

rightly : (ds : List ℕ) → 0 < length ds → 48 < get_or ds 0 0 → begins_rightly ds ≡ true
rightly [] h g = absurd (omega arith)
rightly (d ∷ []) h g = refl
rightly (d ∷ e ∷ ds) h g = by_test (d == 48) refl
  where
    by_test : (b : Bool) → (d == 48) ≡ b → not (d == 48) ≡ true
    by_test true is = absurd (let same = eqb-true d 48 is in omega arith)
    by_test false is = ap not is

begins : (n : ℕ) → n < 2 ^ 64 → begins_rightly (decimal n) ≡ true
begins zero h = ap begins_rightly (decimal_digit 0 (omega arith))
begins (suc n) h = rightly (decimal (suc n)) (decimal_nonempty (suc n) h) (first_decimal (suc n) (omega arith) h)

digits_name : (b : ℕ) → is_ascii_digit b ≡ true → is_name_byte b ≡ true
digits_name b h = ap (λ d. is_small b || is_capital b || d) h ∙ or_true (is_small b || is_capital b)
  where
    or_true : (c : Bool) → (c || true) ≡ true
    or_true true = refl
    or_true false = refl

pub digits_names : (ds : List ℕ) → all_ascii_digits ds ≡ true → list_all is_name_byte ds ≡ true
digits_names [] h = refl
digits_names (d ∷ ds) h = ap (λ c. c && list_all is_name_byte ds) (digits_name d (and_left (is_ascii_digit d) (all_ascii_digits ds) h)) ∙ digits_names ds (and_right (is_ascii_digit d) (all_ascii_digits ds) h)

pub decimal_digits : (n : ℕ) → n < 2 ^ 32 → all_ascii_digits (decimal n) ≡ true
decimal_digits n h = digits_decimal own n (wide n h)

pub decimal_names : (n : ℕ) → n < 2 ^ 32 → list_all is_name_byte (decimal n) ≡ true
decimal_names n h = digits_names (decimal n) (digits_decimal own n (wide n h))

pub number_written : (n : ℕ) → n < 2 ^ 32 → number_of (decimal n) ≡ Some n
unfolding number_of
number_written n h =
    let digits : all_ascii_digits (decimal n) ≡ true = digits_decimal own n (wide n h) in
    let right = begins n (wide n h) in
    let value : digits_from 0 (decimal n) ≡ n = digits_value-decimal own n (wide n h) in
    let small : nat_le n 4294967295 ≡ true = search (rules, h) in
    ap (λ b. if b && begins_rightly (decimal n) && nat_le (digits_from 0 (decimal n)) 4294967295 then Some (digits_from 0 (decimal n)) else None) digits
    ∙ ap (λ b. if b && nat_le (digits_from 0 (decimal n)) 4294967295 then Some (digits_from 0 (decimal n)) else None) right
    ∙ ap (λ v. if nat_le v 4294967295 then Some v else None) value ∙ ap (λ b. if b then Some n else None) small

-- ---- a word that is read as a number is written so

single : (ds : List ℕ) → begins_rightly ds ≡ true → get_or ds 0 0 ≡ 48 → length ds ≡ 1
single [] h g = cc
single (d ∷ []) h g = refl
single (d ∷ e ∷ ds) h g = absurd (differs d g h)
  where
    differs : (d : ℕ) → d ≡ 48 → not (d == 48) ≡ true → ⊥
    differs d same h = let t : not (48 == 48) ≡ true = subst (λ k. not (k == 48) ≡ true) same h in cc

some_digit : (ds : List ℕ) → begins_rightly ds ≡ true → 0 < length ds
some_digit [] h = cc
some_digit (d ∷ ds) h = omega arith

pub number_read : (word : List ℕ) (n : ℕ) → number_of word ≡ Some n → (word ≡ decimal n) × (n < 2 ^ 32)
unfolding number_of
number_read word n e = by_test (all_ascii_digits word) (begins_rightly word) (nat_le (digits_from 0 word) 4294967295) refl refl refl e
  where
    by_test : (a b c : Bool) → all_ascii_digits word ≡ a → begins_rightly word ≡ b → nat_le (digits_from 0 word) 4294967295 ≡ c → (if a && b && c then Some (digits_from 0 word) else None) ≡ Some n → (word ≡ decimal n) × (n < 2 ^ 32)
    by_test false b c i j k h = cc
    by_test true false c i j k h = cc
    by_test true true false i j k h = cc
    by_test true true true i j k h =
        let value : digits_from 0 word ≡ n = cc in
        let small : digits_from 0 word ≤ 4294967295 = search (rules, k) in
        (sym (decimal-digits_value own word i (some_digit word j) (single word j) (omega arith)) ∙ ap decimal value, omega arith)

-- ---- the readers

found_is : {A : Type 0} (bytes rest q : List ℕ) (o : Option A) (a : A) → found_or bytes rest o ≡ Ok (a, q) → (o ≡ Some a) × (rest ≡ q)
found_is bytes rest q None a e = cc
found_is bytes rest q (Some b) a e = let pair = ok_is (b, rest) (a, q) e in (ap (λ v. Some v.0) pair, ap (λ v. v.1) pair)

-- a word that stands for something
module _ {A : Type 0} (reader : List ℕ → Read ℕ A) (look : List ℕ → Option A) (spelled : A → List ℕ) (L : A → Type 0) (is : (bytes : List ℕ) → reader bytes ≡ (word_at bytes >>= λ w. found_or bytes w.1 (look w.0))) where
  pub sound_word : ((word : List ℕ) (a : A) → look word ≡ Some a → (word ≡ spelled a) × L a) → Sound reader spelled L
  sound_word was = record {
    is = λ bytes rest a e.
        let w = went (word_at bytes) (λ w. found_or bytes w.1 (look w.0)) (a, rest) (sym (is bytes) ∙ e) in
        let word = word_was bytes w.first.1 w.first.0 w.is in
        let found = found_is bytes w.first.1 rest (look w.first.0) a w.goes_on in
        let text = was w.first.0 a found.0 in
        (word.0 ∙ ap (λ l. l ++ w.first.1) text.0 ∙ ap (λ l. spelled a ++ l) found.1, text.1);
  }

  pub never_word : ((a : A) → L a → (look (spelled a) ≡ Some a) × (list_all is_name_byte (spelled a) ≡ true)) → Never reader spelled L NoName
  never_word will = record {
    is = λ a rest l f.
        let it = will a l in
        is (spelled a ++ rest) ∙ goes (word_at (spelled a ++ rest)) (λ w. found_or (spelled a ++ rest) w.1 (look w.0)) (spelled a, rest) (word_read (spelled a) rest it.1 f) ∙ ap (found_or (spelled a ++ rest) rest) it.0;
  }

pub number_never : Never number_at decimal (λ n. n < 2 ^ 32) NoName
unfolding number_at
number_never = never_word number_at number_of decimal (λ n. n < 2 ^ 32) (λ bytes. refl) (λ n h. (number_written n h, decimal_names n h))

pub number_sound : Sound number_at decimal (λ n. n < 2 ^ 32)
unfolding number_at
number_sound = sound_word number_at number_of decimal (λ n. n < 2 ^ 32) (λ bytes. refl) number_read

pub name_never : Never name_at name_text (λ n. n < 2 ^ 32) NoName
unfolding name_at
name_never = behind_never number_never (codes "%")

pub name_sound : Sound name_at name_text (λ n. n < 2 ^ 32)
unfolding name_at
name_sound = behind_sound number_sound (codes "%")
