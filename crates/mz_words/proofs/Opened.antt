-- The words at the opening, as a list, are those of the raw machine.
use Rattle.std.proofs.Common.{◌≡◌, ◌≢◌, ◌<◌, ◌-◌, ◌==◌, ℕ, zero, suc, List, false, refl, sym, ap, ◌∙◌, ne_eqb, arith}
use Rattle.std.specs.Prelude.{replicate, if◌then◌else◌}
use Rattle.mz_words.specs.Raw.{opening_word}
use Rattle.mz_words.specs.Views.{word_in}
use Rattle.mz_words.specs.FirstWords.{first_words, AreFirst}
use Rattle.mz_words.proofs.Events.{if_is}

zeros_in : (n p : ℕ) → word_in (replicate n 0) p ≡ 0
zeros_in zero p = refl
zeros_in (suc n) zero = refl
zeros_in (suc n) (suc p) = zeros_in n p

elsewhere : (p n : ℕ) → p ≢ n → (x y : ℕ) → (if p == n then x else y) ≡ y
elsewhere p n d x y = if_is (p == n) false (ne_eqb p n d) x y

-- behind the function of thread 0 each word is 0
past_header : (main p : ℕ) → 6 < p → opening_word main p ≡ 0
past_header main p h =
    elsewhere p 0 (λ e. omega (arith, h, e)) 197 (if p == 1 then 1 else if p == 2 then 1 else if p == 5 then 1 else if p == 6 then main else 0)
    ∙ elsewhere p 1 (λ e. omega (arith, h, e)) 1 (if p == 2 then 1 else if p == 5 then 1 else if p == 6 then main else 0)
    ∙ elsewhere p 2 (λ e. omega (arith, h, e)) 1 (if p == 5 then 1 else if p == 6 then main else 0)
    ∙ elsewhere p 5 (λ e. omega (arith, h, e)) 1 (if p == 6 then main else 0)
    ∙ elsewhere p 6 (λ e. omega (arith, h, e)) main 0

pub opened : (size main p : ℕ) → word_in (first_words size main) p ≡ opening_word main p
opened size main zero = refl
opened size main (suc zero) = refl
opened size main (suc (suc zero)) = refl
opened size main (suc (suc (suc zero))) = refl
opened size main (suc (suc (suc (suc zero)))) = refl
opened size main (suc (suc (suc (suc (suc zero))))) = refl
opened size main (suc (suc (suc (suc (suc (suc zero)))))) = refl
opened size main (suc (suc (suc (suc (suc (suc (suc p))))))) = zeros_in (size - 7) p ∙ sym (past_header main (suc (suc (suc (suc (suc (suc (suc p))))))) (omega arith))

pub are_first : (size main : ℕ) (words : List ℕ) → words ≡ first_words size main → AreFirst main words
are_first size main words e p = ap (λ l. word_in l p) e ∙ opened size main p
