-- Brackets: which tokens open or close one, and how many more may be opened.
use Rattle.std.specs.Prelude.{ℕ, zero, suc, List, [], ◌∷◌, Option, Some, None}

-- what a token does to the number of open brackets
pub data Turn : Type 0 where
  Opens : Turn
  Closes : Turn
  Neither : Turn

-- no token is a bracket
abbrev pub no_brackets : {T : Type 0} → T → Turn
no_brackets _ = Neither

-- how many more may be opened after this token; None where one too many was opened
abbrev pub step : Turn → Option ℕ → Option ℕ
step turn None = None
step Opens (Some zero) = None
step Opens (Some (suc d)) = Some d
step Closes (Some d) = Some (suc d)
step Neither (Some d) = Some d

-- how many more may be opened after these tokens, where so many may be before them
abbrev pub room : {T : Type 0} → (T → Turn) → List T → Option ℕ → Option ℕ
room turn [] o = o
room turn (t ∷ ts) o = room turn ts (step (turn t) o)
