-- The lines of prints, one after another, and those of places.
use Rattle.std.proofs.Common.{◌≡◌, ℕ, List, [], ◌∷◌, ◌++◌, sym, ap, ◌∙◌, append_assoc, append-nil, codes, decimal}
use Rattle.mz_cli.specs.Outcome.{line, print_lines}

-- one more print is one more line
pub lines_more : (prints : List ℕ) (n : ℕ) → print_lines (prints ++ n ∷ []) ≡ print_lines prints ++ line (decimal n)
lines_more [] n = append-nil (line (decimal n))
lines_more (m ∷ prints) n = ap (λ l. line (decimal m) ++ l) (lines_more prints n) ∙ sym (append_assoc (line (decimal m)) (print_lines prints) (line (decimal n)))

-- parts that are joined from the right make the line that is joined from the left
pub one_line : (number column : List ℕ) → number ++ 58 ∷ (column ++ 10 ∷ []) ≡ ((number ++ 58 ∷ []) ++ column) ++ 10 ∷ []
one_line number column = sym (ap (λ l. l ++ 10 ∷ []) (append_assoc number (58 ∷ []) column) ∙ append_assoc number (58 ∷ column) (10 ∷ []))

-- the same of a place and what is wrong there
pub place_line : (number column what : List ℕ) → number ++ 58 ∷ (column ++ 58 ∷ 32 ∷ (what ++ 10 ∷ [])) ≡ ((((number ++ 58 ∷ []) ++ column) ++ 58 ∷ 32 ∷ []) ++ what) ++ 10 ∷ []
place_line number column what =
    let front = (number ++ 58 ∷ []) ++ column in
    sym (append_assoc (front ++ 58 ∷ 32 ∷ []) what (10 ∷ []) ∙ append_assoc front (58 ∷ 32 ∷ []) (what ++ 10 ∷ [])
    ∙ append_assoc (number ++ 58 ∷ []) column (58 ∷ 32 ∷ (what ++ 10 ∷ [])) ∙ append_assoc number (58 ∷ []) (column ++ 58 ∷ 32 ∷ (what ++ 10 ∷ [])))

-- and of a view step, with its number
pub step_line : (number column step : List ℕ) → number ++ 58 ∷ (column ++ 58 ∷ 32 ∷ (codes "bad step " ++ (step ++ 10 ∷ []))) ≡ ((((number ++ 58 ∷ []) ++ column) ++ 58 ∷ 32 ∷ []) ++ (codes "bad step " ++ step)) ++ 10 ∷ []
step_line number column step =
    ap (λ l. number ++ 58 ∷ (column ++ 58 ∷ 32 ∷ l)) (sym (append_assoc (codes "bad step ") step (10 ∷ []))) ∙ place_line number column (codes "bad step " ++ step)
