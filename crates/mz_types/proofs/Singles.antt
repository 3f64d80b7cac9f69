-- Single tokens: what is known of a token that passes a test, and that the reader of one token reads it.
use Rattle.std.proofs.Common.{◌≡◌, ℕ, Bool, true, false, Option, Some, None, IsTrue, refl, sym, ap, subst, eqb-true, eq-eqb, ◌⊎◌, inl, inr}
use Rattle.mz_grammar.specs.Reading.{passes, token_at}
use Rattle.mz_grammar.specs.Brackets.{step}
use Rattle.mz_grammar.specs.Relations.{OneToken}
use Rattle.mz_grammar.specs.Readers.{Any, Reads}
use Rattle.mz_grammar.proofs.Readers.{reads_token}
use Rattle.mz_token.specs.declared.token.Token.{Token}
use Rattle.mz_token.specs.declared.token.Kind.{Kind}
use Rattle.mz_token.specs.declared.token.Kind.TheVariants as kind
use Rattle.mz_token.specs.Tokens.{is_lower, is_upper, is_number, is_key, is_mark}
use Rattle.mz_types.specs.Words.{lower, upper, number, key, mark, name, is_name, turn, turn_of, Low, Up, Key, Mark, Name}

-- ---- the kind that passes: by cases on it

pub lower_is : (k : Kind) → is_lower k ≡ true → k ≡ kind.Lower
lower_is kind.Lower e = refl
lower_is kind.Upper e = cc
lower_is (kind.Number n) e = cc
lower_is (kind.Key n) e = cc
lower_is (kind.Mark n) e = cc

pub upper_is : (k : Kind) → is_upper k ≡ true → k ≡ kind.Upper
upper_is kind.Lower e = cc
upper_is kind.Upper e = refl
upper_is (kind.Number n) e = cc
upper_is (kind.Key n) e = cc
upper_is (kind.Mark n) e = cc

pub number_is : (k : Kind) → is_number k ≡ true → (n : ℕ) × (k ≡ kind.Number n)
number_is kind.Lower e = cc
number_is kind.Upper e = cc
number_is (kind.Number n) e = (n, refl)
number_is (kind.Key n) e = cc
number_is (kind.Mark n) e = cc

pub key_is : (m : ℕ) (k : Kind) → is_key m k ≡ true → k ≡ kind.Key m
key_is m kind.Lower e = cc
key_is m kind.Upper e = cc
key_is m (kind.Number n) e = cc
key_is m (kind.Key n) e = ap kind.Key (eqb-true n m e)
key_is m (kind.Mark n) e = cc

pub mark_is : (m : ℕ) (k : Kind) → is_mark m k ≡ true → k ≡ kind.Mark m
mark_is m kind.Lower e = cc
mark_is m kind.Upper e = cc
mark_is m (kind.Number n) e = cc
mark_is m (kind.Key n) e = cc
mark_is m (kind.Mark n) e = ap kind.Mark (eqb-true n m e)

-- a name is a lower name or the key `result`
pub name_is : (result : Bool) (k : Kind) → is_name result k ≡ true → (k ≡ kind.Lower) ⊎ (k ≡ kind.Key 12)
name_is result kind.Lower e = inl refl
name_is true kind.Upper e = cc
name_is false kind.Upper e = cc
name_is true (kind.Number n) e = cc
name_is false (kind.Number n) e = cc
name_is true (kind.Key n) e = inr (ap kind.Key (eqb-true n 12 e))
name_is false (kind.Key n) e = cc
name_is true (kind.Mark n) e = cc
name_is false (kind.Mark n) e = cc

-- ---- what holds of the kind holds of such a token

pub lower_has : (P : Kind → Type 0) → P kind.Lower → (t : Token) → IsTrue (lower t) → P t.kind
lower_has P h t e = subst P (sym (lower_is t.kind e)) h

pub upper_has : (P : Kind → Type 0) → P kind.Upper → (t : Token) → IsTrue (upper t) → P t.kind
upper_has P h t e = subst P (sym (upper_is t.kind e)) h

pub number_has : (P : Kind → Type 0) → ((n : ℕ) → P (kind.Number n)) → (t : Token) → IsTrue (number t) → P t.kind
number_has P h t e = let is = number_is t.kind e in subst P (sym is.1) (h is.0)

pub key_has : (m : ℕ) (P : Kind → Type 0) → P (kind.Key m) → (t : Token) → IsTrue (key m t) → P t.kind
key_has m P h t e = subst P (sym (key_is m t.kind e)) h

pub mark_has : (m : ℕ) (P : Kind → Type 0) → P (kind.Mark m) → (t : Token) → IsTrue (mark m t) → P t.kind
mark_has m P h t e = subst P (sym (mark_is m t.kind e)) h

pub name_has : (result : Bool) (P : Kind → Type 0) → P kind.Lower → P (kind.Key 12) → (t : Token) → IsTrue (name result t) → P t.kind
name_has result P low key t e = elim (name_is result t.kind e) [
  | inl is ↦ subst P (sym is) low
  | inr is ↦ subst P (sym is) key
]

-- ---- .. and of the next token

pub key_next : (m : ℕ) (P : Kind → Type 0) → P (kind.Key m) → (F : Option Token → Type 0) → ((t : Token) → P t.kind → F (Some t)) → (o : Option Token) → passes (key m) o ≡ true → F o
key_next m P h F to None e = cc
key_next m P h F to (Some t) e = to t (key_has m P h t e)

pub mark_next : (m : ℕ) (P : Kind → Type 0) → P (kind.Mark m) → (F : Option Token → Type 0) → ((t : Token) → P t.kind → F (Some t)) → (o : Option Token) → passes (mark m) o ≡ true → F o
mark_next m P h F to None e = cc
mark_next m P h F to (Some t) e = to t (mark_has m P h t e)

-- ---- tokens

-- a token of each kind
unfoldable pub sample : Kind → Token
sample k = record { kind = k; start = 0; end = 0; place = record { line = 1; col = 1 } }

-- what such a token does to the number of brackets that may be opened
abbrev pub Moves : Kind → ℕ → ℕ → Type 0
Moves k d e = step (turn_of k) (Some d) ≡ Some e

-- one token is read, since there is one: so each of these
pub low_reads : (d : ℕ) → Reads turn (token_at lower) Low Any d d
unfolding sample
low_reads d = reads_token lower d d (sample kind.Lower) refl (λ t is. lower_has (λ k. Moves k d d) refl t is)

pub up_reads : (d : ℕ) → Reads turn (token_at upper) Up Any d d
unfolding sample
up_reads d = reads_token upper d d (sample kind.Upper) refl (λ t is. upper_has (λ k. Moves k d d) refl t is)

pub number_reads : (d : ℕ) → Reads turn (token_at number) (OneToken number) Any d d
unfolding sample
number_reads d = reads_token number d d (sample (kind.Number 0)) refl (λ t is. number_has (λ k. Moves k d d) (λ n. refl) t is)

pub key_reads : (n d : ℕ) → Reads turn (token_at (key n)) (Key n) Any d d
unfolding sample
key_reads n d = reads_token (key n) d d (sample (kind.Key n)) (eq-eqb n n refl) (λ t is. key_has n (λ k. Moves k d d) refl t is)

pub name_reads : (result : Bool) (d : ℕ) → Reads turn (token_at (name result)) (Name result) Any d d
unfolding sample
name_reads result d = reads_token (name result) d d (sample kind.Lower) refl (λ t is. name_has result (λ k. Moves k d d) refl refl t is)

-- a mark, which may be a bracket
pub mark_reads : (n d e : ℕ) → Moves (kind.Mark n) d e → Reads turn (token_at (mark n)) (Mark n) Any d e
unfolding sample
mark_reads n d e moves = reads_token (mark n) d e (sample (kind.Mark n)) (eq-eqb n n refl) (λ t is. mark_has n (λ k. Moves k d e) moves t is)
