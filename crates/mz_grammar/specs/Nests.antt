-- The smallest grammar with brackets, as an example: a letter in any number of brackets. Its value is how many they are.
use Rattle.std.specs.Prelude.{ℕ, zero, suc, Bool, List, Err, ◌==◌, if◌then◌else◌}
use Rattle.mz_grammar.specs.Reading.{Read, Wrong, bind, done, token_at, open_at, choose}
use Rattle.mz_grammar.specs.Brackets.{Turn, Opens, Closes, Neither}
use Rattle.mz_grammar.specs.Relations.{OneToken, Then, Either, Image, Layered}

-- the tokens: a letter is 0, and each other number is itself
abbrev pub is : ℕ → ℕ → Bool
is n t = t == n

-- 1 opens a bracket and 2 closes one
abbrev pub turn : ℕ → Turn
turn t = if t == 1 then Opens else (if t == 2 then Closes else Neither)

-- letter | "(" nest ")"
abbrev pub NestR : (List ℕ → ℕ → Type 0) → List ℕ → ℕ → Type 0
NestR X = Either (Image (λ _. 0) (OneToken (is 0))) (Then (OneToken (is 1)) (λ _. Then X (λ n. Image (λ _. suc n) (OneToken (is 2)))))

-- in any number of layers
abbrev pub IsNest : List ℕ → ℕ → Type 0
IsNest = Layered NestR

-- the reader, over what reads inside brackets
unfoldable pub nest_by : ℕ → (List ℕ → Read ℕ ℕ) → List ℕ → Read ℕ ℕ
nest_by d inner = choose (is 0) (bind (token_at (is 0)) (λ _. done 0)) (bind (open_at (is 1) d) (λ _. bind inner (λ n. bind (token_at (is 2)) (λ _. done (suc n)))))

-- what reads inside brackets, where so many more may be opened; with none it is never asked
unfoldable pub below : ℕ → List ℕ → Read ℕ ℕ
below zero ts = Err (Wrong ts)
below (suc d) ts = nest_by d (below d) ts
