-- Readers of bytes that undo a spelling: what one reads is spelled at the front, and what is spelled at the front is read.
use Rattle.std.proofs.Common.{◌≡◌, ◌==◌, ℕ, ◌+◌, Bool, true, false, List, [], ◌∷◌, ◌++◌, take, drop, length, Option, Some, None, Ok, Err, cond, if◌then◌else◌, refl, sym, ap, subst, ◌∙◌, append_assoc, rules, eqb-true, take-append-drop, one-add, ◌&&◌, ◌⊎◌, inl, inr}
use Rattle.std.specs.List.{prefix_len, list_all}
use Rattle.mz_grammar.specs.Reading.{Read, ◌>>=◌}
use Rattle.mz_tree.specs.Bytes.{is_name_byte}
use Rattle.mz_script.specs.Fronts.{behind_text, chosen, choose_text, text_or, text_at, behind, both, image, word_at}

-- what was read is one pair
pub ok_is : {A : Type 0} (x y : A × List ℕ) → ◌≡◌ {A = Read ℕ A} (Ok x) (Ok y) → x ≡ y
ok_is x y e = cc

-- a reading that went well, part by part
pub record Went {A B : Type 0} (r : Read ℕ A) (k : A × List ℕ → Read ℕ B) (y : B × List ℕ) : Type 0 where
  pub first : A × List ℕ
  pub is : r ≡ Ok first
  pub goes_on : k first ≡ Ok y

pub went : {A B : Type 0} (r : Read ℕ A) (k : A × List ℕ → Read ℕ B) (y : B × List ℕ) → (r >>= k) ≡ Ok y → Went r k y
went (Ok x) k y e = record { first = x; is = refl; goes_on = e }
went (Err f) k y e = cc

-- .. and goes on alike
pub goes : {A B : Type 0} (r : Read ℕ A) (k : A × List ℕ → Read ℕ B) (x : A × List ℕ) → r ≡ Ok x → (r >>= k) ≡ k x
goes r k x e = ap (λ q. q >>= k) e

-- what it reads is spelled at the front
pub record Sound {A : Type 0} (reader : List ℕ → Read ℕ A) (spelled : A → List ℕ) (Lawful : A → Type 0) : Type 0 where
  pub is : (bytes rest : List ℕ) (a : A) → reader bytes ≡ Ok (a, rest) → (bytes ≡ spelled a ++ rest) × Lawful a

-- what is spelled at the front, before what may follow, it reads
pub record Never {A : Type 0} (reader : List ℕ → Read ℕ A) (spelled : A → List ℕ) (Lawful : A → Type 0) (MayFollow : List ℕ → Type 0) : Type 0 where
  pub is : (a : A) (rest : List ℕ) → Lawful a → MayFollow rest → reader (spelled a ++ rest) ≡ Ok (a, rest)

-- ---- a text

itself : (c : ℕ) → (c == c) ≡ true
itself c = search rules

pub text_found : (text rest : List ℕ) → behind_text text (text ++ rest) ≡ Some rest
text_found [] rest = refl
text_found (c ∷ text) rest = ap (λ b. if b then behind_text text (text ++ rest) else None) (itself c) ∙ text_found text rest

pub text_front : (text bytes rest : List ℕ) → behind_text text bytes ≡ Some rest → bytes ≡ text ++ rest
text_front [] bytes rest e = cc
text_front (c ∷ text) [] rest e = cc
text_front (c ∷ text) (b ∷ bytes) rest e = by_test (c == b) refl (text_front text bytes rest) e
  where
    by_test : (t : Bool) → (c == b) ≡ t → (behind_text text bytes ≡ Some rest → bytes ≡ text ++ rest) → (if t then behind_text text bytes else None) ≡ Some rest → b ∷ bytes ≡ c ∷ (text ++ rest)
    by_test true same more h = ap (λ d. d ∷ bytes) (sym (eqb-true c b same)) ∙ ap (λ l. c ∷ l) (more h)
    by_test false other more h = cc

text_or_is : (bytes rest : List ℕ) (u : Unit {0}) (o : Option (List ℕ)) → text_or bytes o ≡ Ok (u, rest) → o ≡ Some rest
text_or_is bytes rest u None e = cc
text_or_is bytes rest u (Some r) e = ap (λ x. Some x.1) (ok_is (tt, r) (u, rest) e)

pub text_read : (text rest : List ℕ) → text_at text (text ++ rest) ≡ Ok (tt, rest)
unfolding text_at
text_read text rest = ap (text_or (text ++ rest)) (text_found text rest)

pub text_was : (text bytes rest : List ℕ) (u : Unit {0}) → text_at text bytes ≡ Ok (u, rest) → bytes ≡ text ++ rest
unfolding text_at
text_was text bytes rest u e = text_front text bytes rest (text_or_is bytes rest u (behind_text text bytes) e)

-- ---- readers made of readers

module _ {A : Type 0} {r : List ℕ → Read ℕ A} {t : A → List ℕ} {L : A → Type 0} {F : List ℕ → Type 0} (U : Never r t L F) where
  pub behind_never : (text : List ℕ) → Never (behind text r) (λ a. text ++ t a) L F
  behind_never text = record {
    is = λ a rest l f. ap (behind text r) (append_assoc text (t a) rest) ∙ goes (text_at text (text ++ (t a ++ rest))) (λ s. r s.1) (tt, t a ++ rest) (text_read text (t a ++ rest)) ∙ U.is a rest l f;
  }

  pub both_never : {B : Type 0} {q : List ℕ → Read ℕ B} {s : B → List ℕ} {M : B → Type 0} {G : List ℕ → Type 0} → Never q s M G → ((b : B) (rest : List ℕ) → M b → G rest → F (s b ++ rest)) →
      Never (both r q) (λ x. t x.0 ++ s x.1) (λ x. L x.0 × M x.1) G
  both_never {B} {q} {s} {M} {G} V fits = record {
    is = λ x rest h f.
        ap (both r q) (append_assoc (t x.0) (s x.1) rest) ∙ goes (r (t x.0 ++ (s x.1 ++ rest))) (λ u. q u.1 >>= λ v. Ok ((u.0, v.0), v.1)) (x.0, s x.1 ++ rest) (U.is x.0 (s x.1 ++ rest) h.0 (fits x.1 rest h.1 f))
        ∙ goes (q (s x.1 ++ rest)) (λ v. Ok ((x.0, v.0), v.1)) (x.1, rest) (V.is x.1 rest h.1 f);
  }

  pub image_read : {B : Type 0} (f : A → B) (a : A) (rest : List ℕ) → L a → F rest → image f r (t a ++ rest) ≡ Ok (f a, rest)
  image_read f a rest l g = goes (r (t a ++ rest)) (λ x. Ok (f x.0, x.1)) (a, rest) (U.is a rest l g)

module _ {A : Type 0} {r : List ℕ → Read ℕ A} {t : A → List ℕ} {L : A → Type 0} (U : Sound r t L) where
  pub behind_sound : (text : List ℕ) → Sound (behind text r) (λ a. text ++ t a) L
  behind_sound text = record {
    is = λ bytes rest a e.
        let w = went (text_at text bytes) (λ s. r s.1) (a, rest) e in
        let inside = U.is w.first.1 rest a w.goes_on in
        (text_was text bytes w.first.1 w.first.0 w.is ∙ ap (λ l. text ++ l) inside.0 ∙ sym (append_assoc text (t a) rest), inside.1);
  }

  pub both_sound : {B : Type 0} {q : List ℕ → Read ℕ B} {s : B → List ℕ} {M : B → Type 0} → Sound q s M → Sound (both r q) (λ x. t x.0 ++ s x.1) (λ x. L x.0 × M x.1)
  both_sound {B} {q} {s} {M} V = record {
    is = λ bytes rest x e.
        let w = went (r bytes) (λ u. q u.1 >>= λ v. Ok ((u.0, v.0), v.1)) (x, rest) e in
        let z = went (q w.first.1) (λ v. Ok ((w.first.0, v.0), v.1)) (x, rest) w.goes_on in
        let one = U.is bytes w.first.1 w.first.0 w.is in
        let two = V.is w.first.1 z.first.1 z.first.0 z.is in
        let pair = ok_is ((w.first.0, z.first.0), z.first.1) (x, rest) z.goes_on in
        let a_is = ap (λ v. v.0.0) pair in
        let b_is = ap (λ v. v.0.1) pair in
        let rest_is = ap (λ v. v.1) pair in (
          one.0 ∙ ap (λ l. t w.first.0 ++ l) two.0 ∙ sym (append_assoc (t w.first.0) (s z.first.0) z.first.1) ∙ ap (λ a. (t a ++ s z.first.0) ++ z.first.1) a_is ∙ ap (λ b. (t x.0 ++ s b) ++ z.first.1) b_is ∙ ap (λ l. (t x.0 ++ s x.1) ++ l) rest_is,
          (subst L a_is one.1, subst M b_is two.1),
        );
  }

  -- what an image was made of
  pub record Made {B : Type 0} (f : A → B) (bytes rest : List ℕ) (b : B) : Type 0 where
    pub value : A
    pub same : b ≡ f value
    pub split : bytes ≡ t value ++ rest
    pub lawful : L value

  pub image_was : {B : Type 0} (f : A → B) (bytes rest : List ℕ) (b : B) → image f r bytes ≡ Ok (b, rest) → Made f bytes rest b
  image_was {B} f bytes rest b e =
      let w = went (r bytes) (λ x. Ok (f x.0, x.1)) (b, rest) e in
      let inside = U.is bytes w.first.1 w.first.0 w.is in
      let pair = ok_is (f w.first.0, w.first.1) (b, rest) w.goes_on in
      record { value = w.first.0; same = sym (ap (λ v. v.0) pair); split = inside.0 ∙ ap (λ l. t w.first.0 ++ l) (ap (λ v. v.1) pair); lawful = inside.1 }

-- one of two, by the text at the front
pub record Behind {A : Type 0} (text : List ℕ) (r : List ℕ → Read ℕ A) (bytes : List ℕ) (y : A × List ℕ) : Type 0 where
  pub rest : List ℕ
  pub split : bytes ≡ text ++ rest
  pub reads : r rest ≡ Ok y

pub choice : {A : Type 0} (text : List ℕ) (r q : List ℕ → Read ℕ A) (bytes : List ℕ) (y : A × List ℕ) → choose_text text r q bytes ≡ Ok y → Behind text r bytes y ⊎ (q bytes ≡ Ok y)
unfolding choose_text
choice {A} text r q bytes y e = by_text (behind_text text bytes) refl e
  where
    by_text : (o : Option (List ℕ)) → behind_text text bytes ≡ o → chosen r q bytes o ≡ Ok y → Behind text r bytes y ⊎ (q bytes ≡ Ok y)
    by_text None same h = inr h
    by_text (Some rest) same h = inl (record { rest = rest; split = text_front text bytes rest same; reads = h })

-- ---- words

-- no byte of a name stands at the front
abbrev pub NoName : List ℕ → Type 0
NoName bytes = prefix_len is_name_byte bytes ≡ 0

pub and_left : (a b : Bool) → (a && b) ≡ true → a ≡ true
and_left true b e = refl
and_left false b e = cc

pub and_right : (a b : Bool) → (a && b) ≡ true → b ≡ true
and_right true b e = e
and_right false b e = cc

module _ (p : ℕ → Bool) where
  all_before : (xs : List ℕ) → list_all p (take (prefix_len p xs) xs) ≡ true
  all_before [] = refl
  all_before (x ∷ xs) = by_test (p x) refl (all_before xs)
    where
      by_test : (b : Bool) → p x ≡ b → list_all p (take (prefix_len p xs) xs) ≡ true → list_all p (take (cond b (1 + prefix_len p xs) 0) (x ∷ xs)) ≡ true
      by_test true e more = ap (λ n. list_all p (take n (x ∷ xs))) (one-add (prefix_len p xs)) ∙ ap (λ c. c && list_all p (take (prefix_len p xs) xs)) e ∙ more
      by_test false e more = refl

  none_behind : (xs : List ℕ) → prefix_len p (drop (prefix_len p xs) xs) ≡ 0
  none_behind [] = refl
  none_behind (x ∷ xs) = by_test (p x) refl (none_behind xs)
    where
      by_test : (b : Bool) → p x ≡ b → prefix_len p (drop (prefix_len p xs) xs) ≡ 0 → prefix_len p (drop (cond b (1 + prefix_len p xs) 0) (x ∷ xs)) ≡ 0
      by_test true e more = ap (λ n. prefix_len p (drop n (x ∷ xs))) (one-add (prefix_len p xs)) ∙ more
      by_test false e more = ap (λ c. cond c (1 + prefix_len p xs) 0) e

  all_of : (xs rest : List ℕ) → list_all p xs ≡ true → prefix_len p rest ≡ 0 → prefix_len p (xs ++ rest) ≡ length xs
  all_of [] rest h none = none
  all_of (x ∷ xs) rest h none =
      let here : p x ≡ true = and_left (p x) (list_all p xs) h in
      ap (λ b. cond b (1 + prefix_len p (xs ++ rest)) 0) here ∙ ap (λ n. 1 + n) (all_of xs rest (and_right (p x) (list_all p xs) h) none) ∙ one-add (length xs)

pub word_read : (word rest : List ℕ) → list_all is_name_byte word ≡ true → NoName rest → word_at (word ++ rest) ≡ Ok (word, rest)
unfolding word_at
word_read word rest h none =
    let n = all_of is_name_byte word rest h none in
    ap (λ k. Ok (take k (word ++ rest), drop k (word ++ rest))) n ∙ ap (λ l. Ok (l, drop (length word) (word ++ rest))) (take_front word) ∙ ap (λ l. Ok (word, l)) (drop_front word)
  where
    take_front : (xs : List ℕ) → take (length xs) (xs ++ rest) ≡ xs
    take_front [] = refl
    take_front (x ∷ xs) = ap (λ l. x ∷ l) (take_front xs)

    drop_front : (xs : List ℕ) → drop (length xs) (xs ++ rest) ≡ rest
    drop_front [] = refl
    drop_front (x ∷ xs) = drop_front xs

pub word_was : (bytes rest word : List ℕ) → word_at bytes ≡ Ok (word, rest) → (bytes ≡ word ++ rest) × (list_all is_name_byte word ≡ true) × NoName rest
unfolding word_at
word_was bytes rest word e =
    let n = prefix_len is_name_byte bytes in
    let pair = ok_is (take n bytes, drop n bytes) (word, rest) e in
    let front = ap (λ v. v.0) pair in
    let back = ap (λ v. v.1) pair in
    (sym (take-append-drop n bytes) ∙ ap (λ l. l ++ drop n bytes) front ∙ ap (λ l. word ++ l) back, subst (λ l. list_all is_name_byte l ≡ true) front (all_before is_name_byte bytes), subst NoName back (none_behind is_name_byte bytes))

pub word_never : Never word_at (λ word. word) (λ word. list_all is_name_byte word ≡ true) NoName
word_never = record { is = λ word rest h f. word_read word rest h f }

pub word_sound : Sound word_at (λ word. word) (λ word. list_all is_name_byte word ≡ true)
word_sound = record { is = λ bytes rest word e. (let w = word_was bytes rest word e in (w.0, w.1)) }
