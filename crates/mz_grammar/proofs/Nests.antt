-- The example's reader reads its grammar: production by production, and then layer by layer.
use Rattle.std.proofs.Common.{◌≡◌, ℕ, suc, false, List, [], ◌∷◌, Some, refl, sym, ap, subst, inl, eqb-true, eq-eqb, IsTrue}
use Rattle.mz_grammar.specs.Reading.{Read, token_at}
use Rattle.mz_grammar.specs.Brackets.{Opens, step}
use Rattle.mz_grammar.specs.Relations.{OneToken, Then, Image, Nested}
use Rattle.mz_grammar.specs.Readers.{Reads, Any}
use Rattle.mz_grammar.specs.Nests.{is, turn, NestR, IsNest, nest_by, below}
use Rattle.mz_grammar.proofs.Readers.{reads_token, mapped, either_of, token_starts, then_starts, image_starts}
use Rattle.mz_grammar.proofs.Parts.{then_any, bracketed}
use Rattle.mz_grammar.proofs.Layers.{Lifts, lifts_self, lifts_const, lifts_then, lifts_either, reads_layers}

-- what holds of a number holds of such a token: it is that number
is_has : (n : ℕ) (P : ℕ → Type 0) → P n → (t : ℕ) → IsTrue (is n t) → P t
is_has n P h t e = subst P (sym (eqb-true t n e)) h

-- one such token
one : (n d e : ℕ) → step (turn n) (Some d) ≡ Some e → Reads turn (token_at (is n)) (OneToken (is n)) Any d e
one n d e h = reads_token (is n) d e n (eq-eqb n n refl) (is_has n (λ t. step (turn t) (Some d) ≡ Some e) h)

-- a letter is one: in one layer
letter : IsNest (0 ∷ []) 0
unfolding Nested
letter = (1, inl (0, (refl, refl), refl))

-- an example of what closes a bracket: a letter and the bracket's end
closing : (t : ℕ) → (front : List ℕ) × (b : ℕ) × Then IsNest (λ n. Image (λ _. suc n) (OneToken (is 2))) front b
closing t = (0 ∷ 2 ∷ [], 1, (0, 0 ∷ [], 2 ∷ [], refl, letter, (2, (refl, refl), refl)))

-- a letter, or a bracket with what is read inside: each begins with its own token
nest_reads : (d : ℕ) (inner : List ℕ → Read ℕ ℕ) → ((e : ℕ) → d ≡ suc e → Reads turn inner IsNest Any e e) → Reads turn (nest_by d inner) (NestR IsNest) Any d d
unfolding nest_by
nest_reads d inner I = either_of (is 0) (is 1) (mapped (one 0 d d refl) (λ _. 0))
    (bracketed (is 1) (is_has 1 (λ t. turn t ≡ Opens) refl) 1 refl closing d (λ e h _. then_any (I e h) (λ n. mapped (one 2 e d (ap Some (sym h))) (λ _. suc n))))
    (image_starts (token_starts (is 0))) (then_starts (OneToken (is 1)) _ (token_starts (is 1))) (is_has 0 (λ t. is 1 t ≡ false) refl)

-- each part lifts
nest_lifts : Lifts NestR
nest_lifts = lifts_either (lifts_const (Image (λ _. 0) (OneToken (is 0)))) (lifts_then (lifts_const (OneToken (is 1))) (λ _. lifts_then lifts_self (λ n. lifts_const (Image (λ _. suc n) (OneToken (is 2))))))

-- inside a bracket it is the same reader with one bracket less: by computation
next_below : (d : ℕ) → below (suc d) ≡ nest_by d (below d)
unfolding below
next_below d = refl

-- the whole: layer by layer
pub reads_nest : (d : ℕ) → Reads turn (nest_by d (below d)) IsNest Any d d
reads_nest = reads_layers NestR nest_lifts nest_by below Any next_below (λ d inner I. nest_reads d inner I)
