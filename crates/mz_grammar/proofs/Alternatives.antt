-- Alternatives that begin apart, as a list: each with the sort of token that it begins with. Tokens come in sorts, and no token is
-- of two; so that the alternatives begin apart is a list of sorts without one twice, which computes.
use Rattle.std.proofs.Common.{◌≡◌, ℕ, Bool, true, false, not, List, [], ◌∷◌, Option, IsTrue, refl, ◌||◌, ◌&&◌}
use Rattle.std.specs.Cmp.{first_so, second_so}
use Rattle.mz_grammar.specs.Reading.{Read, choose}
use Rattle.mz_grammar.specs.Brackets.{Turn}
use Rattle.mz_grammar.specs.Relations.{Either}
use Rattle.mz_grammar.specs.Readers.{Reads}
use Rattle.mz_grammar.proofs.Readers.{Starts, Apart, either_starts, either_of}
use Rattle.mz_grammar.proofs.Parts.{apart_both}
use Rattle.mz_grammar.proofs.Longest.{Longest, either_longest}

-- sorts of tokens, with the test of each, and whether two are the same
pub record Sorts (T S : Type 0) : Type 0 where
  pub test : S → T → Bool
  pub same : S → S → Bool
  -- no token is of two sorts
  pub apart : (s r : S) → same s r ≡ false → Apart (test s) (test r)

module _ {T S : Type 0} (sorts : Sorts T S) where
  -- of one of these sorts
  abbrev pub among : S → List S → T → Bool
  among s [] t = sorts.test s t
  among s (r ∷ rs) t = sorts.test s t || among r rs t

  -- not one of these sorts
  abbrev pub is_new : S → S → List S → Bool
  is_new s r [] = not (sorts.same s r)
  is_new s r (q ∷ qs) = not (sorts.same s r) && is_new s q qs

  not_same : (b : Bool) → not b ≡ true → b ≡ false
  not_same true e = cc
  not_same false e = refl

  -- no token of a sort is of one of others
  pub new_apart : (s r : S) (rs : List S) → is_new s r rs ≡ true → Apart (sorts.test s) (among r rs)
  new_apart s r [] new = sorts.apart s r (not_same (sorts.same s r) new)
  new_apart s r (q ∷ qs) new =
      apart_both {f = sorts.test s} {g = sorts.test r} {h = among q qs} (sorts.apart s r (not_same (sorts.same s r) (first_so (not (sorts.same s r)) (is_new s q qs) new))) (new_apart s q qs (second_so (not (sorts.same s r)) (is_new s q qs) new))

  -- none of these sorts is one of those
  abbrev pub are_new : S → List S → S → List S → Bool
  are_new s [] r rs = is_new s r rs
  are_new s (q ∷ qs) r rs = is_new s r rs && are_new q qs r rs

  -- no token of the ones is of the others
  pub lists_apart : (s : S) (ss : List S) (r : S) (rs : List S) → are_new s ss r rs ≡ true → Apart (among s ss) (among r rs)
  lists_apart s [] r rs new t is = new_apart s r rs new t is
  lists_apart s (q ∷ qs) r rs new t is = by_first (sorts.test s t) refl is (lists_apart q qs r rs (second_so (is_new s r rs) (are_new q qs r rs) new) t)
    where
      by_first : (b : Bool) → sorts.test s t ≡ b → IsTrue (b || among q qs t) → (IsTrue (among q qs t) → among r rs t ≡ false) → among r rs t ≡ false
      by_first true one is others = new_apart s r rs (first_so (is_new s r rs) (are_new q qs r rs) new) t one
      by_first false one is others = others is

  -- what they all begin with, and that they are read: alternatives of which each begins with a token of one of these sorts
  pub record OneOf {A : Type 0} (turn : T → Turn) (s : S) (rs : List S) (q : List T → Read T A) (V : List T → A → Type 0) (F : Option T → Type 0) (d e : ℕ) : Type 0 where
    pub reads : Reads turn q V F d e
    pub starts : Starts V (among s rs)

  -- the last of them
  pub last_of : {A : Type 0} {turn : T → Turn} {q : List T → Read T A} {V : List T → A → Type 0} {F : Option T → Type 0} {d e : ℕ} (s : S) →
      Reads turn q V F d e → Starts V (sorts.test s) → OneOf turn s [] q V F d e
  last_of s Q starts = record { reads = Q; starts = starts }

  -- one before others
  pub one_of : {A : Type 0} {turn : T → Turn} {p q : List T → Read T A} {U V : List T → A → Type 0} {F : Option T → Type 0} {d e : ℕ} {r : S} {rs : List S} (s : S) →
      Reads turn p U F d e → Starts U (sorts.test s) → is_new s r rs ≡ true → OneOf turn r rs q V F d e → OneOf turn s (r ∷ rs) (choose (sorts.test s) p q) (Either U V) F d e
  one_of {A} {turn} {p} {q} {U} {V} {F} {d} {e} {r} {rs} s P starts new others = record {
    reads = either_of (sorts.test s) (among r rs) P others.reads starts others.starts (new_apart s r rs new);
    starts = either_starts starts others.starts;
  }

  -- the same of alternatives that are read wherever they can't go on
  pub record LongestOf {A : Type 0} (s : S) (rs : List S) (q : List T → Read T A) (V : List T → A → Type 0) : Type 0 where
    pub longest : Longest q V
    pub starts : Starts V (among s rs)

  pub last_longest : {A : Type 0} {q : List T → Read T A} {V : List T → A → Type 0} (s : S) → Longest q V → Starts V (sorts.test s) → LongestOf s [] q V
  last_longest s Q starts = record { longest = Q; starts = starts }

  pub one_longest : {A : Type 0} {p q : List T → Read T A} {U V : List T → A → Type 0} {r : S} {rs : List S} (s : S) →
      Longest p U → Starts U (sorts.test s) → is_new s r rs ≡ true → LongestOf r rs q V → LongestOf s (r ∷ rs) (choose (sorts.test s) p q) (Either U V)
  one_longest {A} {p} {q} {U} {V} {r} {rs} s P starts new others = record {
    longest = either_longest (sorts.test s) (among r rs) P others.longest starts others.starts (new_apart s r rs new);
    starts = either_starts starts others.starts;
  }
