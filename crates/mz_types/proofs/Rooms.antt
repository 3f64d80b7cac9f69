-- Where as many brackets may be opened as there are tokens, each text fits; so what a reader of every limit reads has one value.
use Rattle.std.proofs.Common.{◌≡◌, ℕ, zero, suc, ◌≤◌, List, [], ◌∷◌, length, Option, Some, None, Ok, refl, sym, ap, ◌∙◌, arith}
use Rattle.mz_grammar.specs.Reading.{Read}
use Rattle.mz_grammar.specs.Brackets.{Turn, Opens, Closes, Neither, step, room}
use Rattle.mz_grammar.specs.Readers.{Reads}
use Rattle.mz_grammar.specs.Wholes.{Fits}
use Rattle.mz_grammar.proofs.AllTokens as tokens

module _ {T : Type 0} (turn : T → Turn) where
  -- by what each token does: one that opens a bracket leaves as many as there are tokens left
  pub long_fits : (ts : List T) (limit : ℕ) → length ts ≤ limit → Fits turn limit ts
  long_fits [] limit le = (limit, refl)
  long_fits (t ∷ ts) limit le = go (turn t) refl limit le (long_fits ts)
    where
      go : (c : Turn) → turn t ≡ c → (limit : ℕ) → suc (length ts) ≤ limit → ((n : ℕ) → length ts ≤ n → Fits turn n ts) → Fits turn limit (t ∷ ts)
      go Opens e zero le rest = absurd (omega arith)
      go Opens e (suc d) le rest = let it = rest d (omega arith) in (it.0, ap (λ c. room turn ts (step c (Some (suc d)))) e ∙ it.1)
      go Closes e limit le rest = let it = rest (suc limit) (omega arith) in (it.0, ap (λ c. room turn ts (step c (Some limit))) e ∙ it.1)
      go Neither e limit le rest = let it = rest limit (omega arith) in (it.0, ap (λ c. room turn ts (step c (Some limit))) e ∙ it.1)

module _ {T A : Type 0} {turn : T → Turn} {p : ℕ → List T → Read T A} {U : List T → A → Type 0} {F : Option T → Type 0} (P : (d : ℕ) → Reads turn (p d) U F d d) (ends : F None) where
  -- with room enough it is read, up to the end
  pub read_whole : (ts : List T) (value : A) → U ts value → p (length ts) ts ≡ Ok (value, [])
  read_whole ts value spelled = tokens.only_this turn (length ts) (length ts) (p (length ts)) U F (P (length ts)) ends ts value spelled (long_fits turn ts (length ts) (omega arith))

  -- what is read up to the end is one value
  pub one_value : (ts : List T) (a b : A) → U ts a → U ts b → a ≡ b
  one_value ts a b one other =
      let x : A × List T = (a, []) in
      let y : A × List T = (b, []) in
      let both : Ok x ≡ Ok y = sym (read_whole ts a one) ∙ read_whole ts b other in
      let pair : x ≡ y = cc in
      ap (λ v. v.0) pair
