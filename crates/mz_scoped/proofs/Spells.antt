-- What the tokens of a part of the grammar say of its value, where all of them are good and so many brackets may be opened
-- before them: by the ways in which a grammar is put together.
use Rattle.std.proofs.Common.{◌≡◌, ◌≢◌, ℕ, zero, suc, ◌^◌, ◌<◌, Bool, true, false, List, [], ◌∷◌, ◌++◌, Option, Some, None, IfSome, IsTrue, inl, inr, refl, sym, ap, subst, ◌∙◌}
use Rattle.mz_grammar.specs.Brackets.{Opens, Closes, Neither, step, room}
use Rattle.mz_grammar.specs.Relations.{OneToken, Nothing, Then, Either, Image, Maybe, Many, EndedOf, Ended, Nested, Layered}
use Rattle.mz_grammar.proofs.Readers.{room-append, room-none}
use Rattle.mz_token.specs.declared.token.Kind.TheVariants as kind
use Rattle.mz_token.specs.declared.token.Token.{Token}
use Rattle.mz_token.specs.Tokens.{text_of}
use Rattle.mz_types.specs.Words.{Spelling, Low, Up, Key, Mark, Name, number, turn, turn_of}
use Rattle.mz_types.proofs.Singles.{lower_has, upper_has, number_has, key_has, mark_has, name_has}
use Rattle.mz_parse.specs.Grammar.{Separated, MaybeSeparated, MaybeBehind, Such}
use Rattle.mz_scope.specs.Trees.{number_in}
use Rattle.mz_tree.specs.Scoped.{IsLowerName, IsUpperName}
use Rattle.mz_scoped.proofs.Proper.{AllOf}
use Rattle.mz_scoped.proofs.ProperTokens.{IsGood}

-- the tokens are good; so many brackets may be opened before them, and so many behind them
pub record Clear (bytes : List ℕ) (n : ℕ) (ts : List Token) (m : ℕ) : Type 0 where
  pub good : AllOf (IsGood bytes) ts
  pub fits : room turn ts (Some n) ≡ Some m

-- as many as before, or one more where a bracket is closed
abbrev pub Leaves : Bool → ℕ → ℕ → Type 0
Leaves false n m = m ≡ n
Leaves true n m = m ≡ suc n

-- tokens that spell a value leave so many, and say this of it
pub record Spells (bytes : List ℕ) {A : Type 0} (closes : Bool) (R : Spelling A) (Q : ℕ → A → Type 0) : Type 0 where
  pub read : (ts : List Token) (a : A) (n m : ℕ) → R ts a → Clear bytes n ts m → Leaves closes n m × Q n a

-- ---- lists of tokens

-- the numbers of two that are the same
same_room : (n m : ℕ) → Some n ≡ Some m → m ≡ n
same_room n m e = cc

-- an opening bracket takes one of those that may be opened
less_room : (n m : ℕ) → step Opens (Some n) ≡ Some m → n ≡ suc m
less_room zero m e = cc
less_room (suc d) m e = ap suc (sym (same_room d m e))

-- both parts of good tokens are good
good_parts : (bytes : List ℕ) (x y : List Token) → AllOf (IsGood bytes) (x ++ y) → AllOf (IsGood bytes) x × AllOf (IsGood bytes) y
good_parts bytes [] y good = (tt, good)
good_parts bytes (t ∷ x) y good = (let rest = good_parts bytes x y good.1 in ((good.0, rest.0), rest.1))

module _ {bytes : List ℕ} where
  -- no tokens change nothing
  nothing_clear : (n m : ℕ) → Clear bytes n [] m → m ≡ n
  nothing_clear n m clear = same_room n m clear.fits

  -- two parts, one after the other
  parts_clear : (x y : List Token) (n m : ℕ) → Clear bytes n (x ++ y) m → (k : ℕ) × Clear bytes n x k × Clear bytes k y m
  parts_clear x y n m clear = go (room turn x (Some n)) refl
    where
      go : (o : Option ℕ) → room turn x (Some n) ≡ o → (k : ℕ) × Clear bytes n x k × Clear bytes k y m
      go None e =
          let none : None ≡ Some m = sym (room-none turn y) ∙ ap (room turn y) (sym e) ∙ sym (room-append turn x y (Some n)) ∙ clear.fits in
          absurd cc
      go (Some k) e =
          let good = good_parts bytes x y clear.good in
          (k, record { good = good.0; fits = e }, record { good = good.1; fits = ap (room turn y) (sym e) ∙ sym (room-append turn x y (Some n)) ∙ clear.fits })

  -- ---- one after the other

  -- what is said of the first may be used for the second
  pub then_so : {A B : Type 0} {closes : Bool} {R : Spelling A} {S : A → Spelling B} {Q : ℕ → A → Type 0} {P : ℕ → B → Type 0} →
      Spells bytes false R Q → ((a : A) → Spells bytes closes (S a) (λ n b. Q n a → P n b)) → Spells bytes closes (Then R S) P
  then_so {A} {B} {closes} {R} {S} {Q} {P} first rest = record {
    read = λ ts b n m (a, x, y, e, r, s) clear.
        let parts = parts_clear x y n m (subst (λ (l : List Token). Clear bytes n l m) e clear) in
        let one = first.read x a n parts.0 r parts.1 in
        let two : Leaves closes n m × (Q n a → P n b) = subst (λ k. Leaves closes k m × (Q k a → P k b)) one.0 ((rest a).read y b parts.0 m s parts.2) in
        (two.0, two.1 one.1);
  }

  -- more is said than is asked for
  pub weaker : {A : Type 0} {closes : Bool} {R : Spelling A} {Q P : ℕ → A → Type 0} → Spells bytes closes R Q → ((n : ℕ) (a : A) → Q n a → P n a) → Spells bytes closes R P
  weaker {A} {closes} {R} {Q} {P} part to = record {
    read = λ ts a n m r clear. let it = part.read ts a n m r clear in (it.0, to n a it.1);
  }

  -- nothing that is said of the first is needed
  pub behind : {A B : Type 0} {closes : Bool} {R : Spelling A} {S : A → Spelling B} {Q : ℕ → A → Type 0} {P : ℕ → B → Type 0} →
      Spells bytes false R Q → ((a : A) → Spells bytes closes (S a) P) → Spells bytes closes (Then R S) P
  behind first rest = then_so first (λ a. weaker (rest a) (λ n b p q. p))

  -- the first opens a bracket, and the second closes it
  pub opened : {B : Type 0} {test : Token → Bool} {S : Token → Spelling B} {P : ℕ → B → Type 0} → ((t : Token) → IsTrue (test t) → turn t ≡ Opens) →
      ((t : Token) → Spells bytes true (S t) (λ k b. P (suc k) b)) → Spells bytes false (Then (OneToken test) S) P
  opened {B} {test} {S} {P} opens rest = record {
    read = λ ts b n m (t, x, y, e, r, s) clear.
        let parts = parts_clear x y n m (subst (λ (l : List Token). Clear bytes n l m) e clear) in
        let less : n ≡ suc parts.0 = less_room n parts.0 (ap (λ c. step c (Some n)) (sym (opens t r.1)) ∙ ap (λ (l : List Token). room turn l (Some n)) (sym r.0) ∙ parts.1.fits) in
        let two = (rest t).read y b parts.0 m s parts.2 in
        (two.0 ∙ sym less, subst (λ k. P k b) (sym less) two.1);
  }

  -- the first closes a bracket
  pub closed : {A B : Type 0} {R : Spelling A} {S : A → Spelling B} {Q : ℕ → A → Type 0} {P : ℕ → B → Type 0} →
      Spells bytes true R Q → ((a : A) → Spells bytes false (S a) (λ n b. (k : ℕ) → n ≡ suc k → P k b)) → Spells bytes true (Then R S) P
  closed {A} {B} {R} {S} {Q} {P} first rest = record {
    read = λ ts b n m (a, x, y, e, r, s) clear.
        let parts = parts_clear x y n m (subst (λ (l : List Token). Clear bytes n l m) e clear) in
        let one = first.read x a n parts.0 r parts.1 in
        let two = (rest a).read y b parts.0 m s parts.2 in
        (two.0 ∙ one.0, two.1 n one.0);
  }

  -- ---- the same tokens

  -- the same is said of both
  pub either_spells : {A : Type 0} {closes : Bool} {R S : Spelling A} {P : ℕ → A → Type 0} → Spells bytes closes R P → Spells bytes closes S P → Spells bytes closes (Either R S) P
  either_spells {A} {closes} {R} {S} {P} one other = record {
    read = λ ts a n m h clear. elim h [ inl r ↦ one.read ts a n m r clear | inr s ↦ other.read ts a n m s clear ];
  }

  -- what is said of the value follows from what is said of the one that it is made of
  pub image_spells : {A B : Type 0} {closes : Bool} {f : A → B} {R : Spelling A} {Q : ℕ → A → Type 0} {P : ℕ → B → Type 0} →
      Spells bytes closes R Q → ((n : ℕ) (a : A) → Q n a → P n (f a)) → Spells bytes closes (Image f R) P
  image_spells {A} {B} {closes} {f} {R} {Q} {P} part to = record {
    read = λ ts b n m (a, r, same) clear.
        let it = part.read ts a n m r clear in
        (it.0, subst (P n) (sym same) (to n a it.1));
  }

  -- a part of those has what all have
  pub such_spells : {A : Type 0} {closes : Bool} {holds : A → Bool} {R : Spelling A} {P : ℕ → A → Type 0} → Spells bytes closes R P → Spells bytes closes (Such holds R) P
  such_spells {A} {closes} {holds} {R} {P} part = record { read = λ ts a n m h clear. part.read ts a n m h.0 clear }

  -- no tokens, for one value
  pub nothing_spells : {A : Type 0} {v : A} {P : ℕ → A → Type 0} → ((n : ℕ) → P n v) → Spells bytes false (Nothing v) P
  nothing_spells {A} {v} {P} holds = record {
    read = λ ts a n m h clear. (nothing_clear n m (subst (λ (l : List Token). Clear bytes n l m) h.0 clear), subst (P n) (sym h.1) (holds n));
  }

  -- ---- none, one or many

  -- by cases
  maybe_read : {A : Type 0} {R : Spelling A} {P : ℕ → A → Type 0} → Spells bytes false R P → (ts : List Token) (o : Option A) (n m : ℕ) → Maybe R ts o → Clear bytes n ts m → (m ≡ n) × IfSome o (P n)
  maybe_read part ts None n m none clear = (nothing_clear n m (subst (λ (l : List Token). Clear bytes n l m) none clear), tt)
  maybe_read part ts (Some a) n m r clear = part.read ts a n m r clear

  -- perhaps one: it is said of the one
  pub maybe_spells : {A : Type 0} {R : Spelling A} {P : ℕ → A → Type 0} → Spells bytes false R P → Spells bytes false (Maybe R) (λ n o. IfSome o (P n))
  maybe_spells part = record { read = maybe_read part }

  -- item by item
  many_read : {A : Type 0} {R : Spelling A} {P : ℕ → A → Type 0} → Spells bytes false R P → (ts : List Token) (vs : List A) (n m : ℕ) → Many R ts vs → Clear bytes n ts m → (m ≡ n) × AllOf (P n) vs
  many_read part ts [] n m none clear = (nothing_clear n m (subst (λ (l : List Token). Clear bytes n l m) none clear), tt)
  many_read {A} {R} {P} part ts (a ∷ vs) n m (x, y, e, r, rest) clear =
      let parts = parts_clear x y n m (subst (λ (l : List Token). Clear bytes n l m) e clear) in
      let one = part.read x a n parts.0 r parts.1 in
      let others : (m ≡ n) × AllOf (P n) vs = subst (λ k. (m ≡ k) × AllOf (P k) vs) one.0 (many_read part y vs parts.0 m rest parts.2) in
      (others.0, (one.1, others.1))

  -- many: it is said of each
  pub many_spells : {A : Type 0} {R : Spelling A} {P : ℕ → A → Type 0} → Spells bytes false R P → Spells bytes false (Many R) (λ n vs. AllOf (P n) vs)
  many_spells part = record { read = many_read part }

  -- item by item, each with its separator
  ended_read : {A : Type 0} {R : Spelling A} {P : ℕ → A → Type 0} {sep : Token → Bool} → Spells bytes false (OneToken sep) (λ n t. Unit {0}) → Spells bytes false R P →
      (ts : List Token) (vs : List A) (last : Option A) (n m : ℕ) → EndedOf sep R ts vs last → Clear bytes n ts m → (m ≡ n) × AllOf (P n) vs × IfSome last (P n)
  ended_read flat part ts [] last n m h clear = (let it = maybe_read part ts last n m h clear in (it.0, tt, it.1))
  ended_read {A} {R} {P} {sep} flat part ts (a ∷ vs) last n m (x, s, y, e, r, ok, rest) clear =
      let parts = parts_clear x (s ∷ y) n m (subst (λ (l : List Token). Clear bytes n l m) e clear) in
      let one = part.read x a n parts.0 r parts.1 in
      let behind_one = parts_clear (s ∷ []) y parts.0 m parts.2 in
      let passed = flat.read (s ∷ []) s parts.0 behind_one.0 (refl, ok) behind_one.1 in
      let others : (m ≡ n) × AllOf (P n) vs × IfSome last (P n) = subst (λ k. (m ≡ k) × AllOf (P k) vs × IfSome last (P k)) (passed.0 ∙ one.0) (ended_read flat part y vs last behind_one.0 m rest behind_one.2) in
      (others.0, (one.1, others.1), others.2)

  -- items before separators and perhaps a last one: it is said of each
  pub ended_spells : {A : Type 0} {R : Spelling A} {P : ℕ → A → Type 0} {sep : Token → Bool} → Spells bytes false (OneToken sep) (λ n t. Unit {0}) → Spells bytes false R P →
      Spells bytes false (Ended sep R) (λ n x. AllOf (P n) x.0 × IfSome x.1 (P n))
  ended_spells flat part = record { read = λ ts x n m h clear. let it = ended_read flat part ts x.0 x.1 n m h clear in (it.0, (it.1, it.2)) }

  -- ---- layers

  module _ {A : Type 0} {make : Spelling A → Spelling A} {P : ℕ → A → Type 0} (layer : (X : Spelling A) → Spells bytes false X P → Spells bytes false (make X) P) where
    -- layer by layer
    nested_spells : (k : ℕ) → Spells bytes false (Nested make k) P
    unfolding Nested
    nested_spells zero = record { read = λ ts a n m r clear. absurd r }
    nested_spells (suc k) = record { read = λ ts a n m r clear. (layer (Nested make k) (nested_spells k)).read ts a n m r clear }

    -- in any number of layers: where it follows for a layer from what is inside
    pub layered_spells : Spells bytes false (Layered make) P
    layered_spells = record { read = λ ts a n m h clear. (nested_spells h.0).read ts a n m h.1 clear }

  -- ---- tokens

  -- a token that is no bracket
  pub token_spells : {test : Token → Bool} {P : Token → Type 0} → ((t : Token) → IsTrue (test t) → turn t ≡ Neither) → ((t : Token) → IsTrue (test t) → IsGood bytes t → P t) → Spells bytes false (OneToken test) (λ n t. P t)
  token_spells {test} {P} flat to = record {
    read = λ ts t n m (is, ok) clear.
        let here : Clear bytes n (t ∷ []) m = subst (λ (l : List Token). Clear bytes n l m) is clear in
        (same_room n m (ap (λ c. step c (Some n)) (sym (flat t ok)) ∙ here.fits), to t ok here.good.0);
  }

  -- a bracket that is closed
  closing_spells : {test : Token → Bool} → ((t : Token) → IsTrue (test t) → turn t ≡ Closes) → Spells bytes true (OneToken test) (λ n t. Unit {0})
  closing_spells {test} closes = record {
    read = λ ts t n m (is, ok) clear.
        let here : Clear bytes n (t ∷ []) m = subst (λ (l : List Token). Clear bytes n l m) is clear in
        (same_room (suc n) m (ap (λ c. step c (Some n)) (sym (closes t ok)) ∙ here.fits), tt);
  }

  -- a token that is no bracket, and of which nothing is said
  pub plain_spells : {test : Token → Bool} → ((t : Token) → IsTrue (test t) → turn t ≡ Neither) → Spells bytes false (OneToken test) (λ n t. Unit {0})
  plain_spells flat = token_spells flat (λ t ok good. tt)

  -- a lower name, with its text
  pub low_spells : Spells bytes false Low (λ n t. IsLowerName (text_of bytes t))
  low_spells = token_spells (lower_has (λ k. turn_of k ≡ Neither) refl) (λ t ok good. good.low ok)

  -- an upper name, with its text
  pub up_spells : Spells bytes false Up (λ n t. IsUpperName (text_of bytes t))
  up_spells = token_spells (upper_has (λ k. turn_of k ≡ Neither) refl) (λ t ok good. good.up ok)

  -- a number, with its value
  pub number_spells : Spells bytes false (OneToken number) (λ n t. number_in t.kind < 2 ^ 64)
  number_spells = token_spells (number_has (λ k. turn_of k ≡ Neither) (λ n. refl)) (λ t ok good. good.value ok)

  -- a key
  pub key_spells : (n : ℕ) → Spells bytes false (Key n) (λ n t. Unit {0})
  key_spells n = plain_spells (key_has n (λ k. turn_of k ≡ Neither) refl)

  -- a mark that is no bracket
  pub mark_spells : (n : ℕ) → turn_of (kind.Mark n) ≡ Neither → Spells bytes false (Mark n) (λ n t. Unit {0})
  mark_spells n flat = plain_spells (mark_has n (λ k. turn_of k ≡ Neither) flat)

  -- a name, which may be the key `result`
  pub name_spells : (result : Bool) → Spells bytes false (Name result) (λ n t. Unit {0})
  name_spells result = plain_spells (name_has result (λ k. turn_of k ≡ Neither) refl refl)

  -- "}"
  pub closing_brace : Spells bytes true (Mark 1) (λ n t. Unit {0})
  closing_brace = closing_spells (mark_has 1 (λ k. turn_of k ≡ Closes) refl)

  -- ")"
  pub closing_paren : Spells bytes true (Mark 3) (λ n t. Unit {0})
  closing_paren = closing_spells (mark_has 3 (λ k. turn_of k ≡ Closes) refl)

  -- what stands behind an opening bracket, up to the closing one and what stands behind that
  pub in_braces : {B : Type 0} {S : Token → Spelling B} {P : ℕ → B → Type 0} → ((t : Token) → Spells bytes true (S t) (λ k b. P (suc k) b)) → Spells bytes false (Then (Mark 0) S) P
  in_braces rest = opened (mark_has 0 (λ k. turn_of k ≡ Opens) refl) rest

  -- likewise in round brackets
  pub in_parens : {B : Type 0} {S : Token → Spelling B} {P : ℕ → B → Type 0} → ((t : Token) → Spells bytes true (S t) (λ k b. P (suc k) b)) → Spells bytes false (Then (Mark 2) S) P
  in_parens rest = opened (mark_has 2 (λ k. turn_of k ≡ Opens) refl) rest

  -- ---- lists with separators

  -- one and others, each of these behind a separator
  pub others_spell : {A : Type 0} {R : Spelling A} {P : ℕ → A → Type 0} {sep : Token → Bool} → Spells bytes false (OneToken sep) (λ n t. Unit {0}) → Spells bytes false R P →
      Spells bytes false (Then R (λ one. Image (λ others. one ∷ others) (Many (Then (OneToken sep) (λ separator. R))))) (λ n vs. (vs ≢ []) × AllOf (P n) vs)
  others_spell flat part = then_so part (λ one. image_spells (many_spells (behind flat (λ separator. part))) (λ n others all first. (λ e. cc, (first, all))))

  -- the same, as the grammar of sources writes it
  pub separated_spells : {A : Type 0} {R : Spelling A} {P : ℕ → A → Type 0} {sep : Token → Bool} → Spells bytes false (OneToken sep) (λ n t. Unit {0}) → Spells bytes false R P →
      Spells bytes false (Separated sep R) (λ n vs. (vs ≢ []) × AllOf (P n) vs)
  separated_spells flat part = others_spell flat part

  -- .. or nothing
  pub maybe_separated_spells : {A : Type 0} {R : Spelling A} {P : ℕ → A → Type 0} {sep : Token → Bool} → Spells bytes false (OneToken sep) (λ n t. Unit {0}) → Spells bytes false R P →
      Spells bytes false (MaybeSeparated sep R) (λ n vs. AllOf (P n) vs)
  maybe_separated_spells flat part = either_spells (nothing_spells (λ n. tt)) (weaker (separated_spells flat part) (λ n vs all. all.1))

  -- perhaps a list behind a key or a mark
  pub maybe_behind_spells : {A : Type 0} {R : Spelling (List A)} {P : ℕ → List A → Type 0} {before : Token → Bool} → Spells bytes false (OneToken before) (λ n t. Unit {0}) → Spells bytes false R P → ((n : ℕ) → P n []) →
      Spells bytes false (MaybeBehind before R) P
  maybe_behind_spells flat part none = either_spells (behind flat (λ word. part)) (nothing_spells none)
