-- What a reading function of the code gives, by the reader on lists. The code's own error type is seen through a cause.
use Rattle.std.specs.Prelude.{◌≡◌, ℕ, Bool, false, List, [], ◌∷◌, length, Result, Ok, Err}
use Rattle.mz_grammar.specs.Reading.{Read, Wrong, Deep}

-- why a parser stops, with the number of tokens from there to the end
pub data Stopped : Type 0 where
  -- at a token that can't stand there, or at an end that comes too early
  Unexpected : ℕ → Stopped
  -- at a bracket that is one too many
  Too_deep : ℕ → Stopped
  -- memory ran out, which may happen anywhere
  No_memory : Stopped

-- it stopped where the reader on lists does
abbrev pub Stops : {T A : Type 0} → Stopped → Read T A → Type 0
Stops {T} (Unexpected n) read = (rest : List T) × (read ≡ Err (Wrong rest)) × (n ≡ length rest)
Stops {T} (Too_deep n) read = (rest : List T) × (read ≡ Err (Deep rest)) × (n ≡ length rest)
Stops No_memory read = Unit {0}

-- it gives what the reader on lists reads, or stops where that does
abbrev pub Gives : {T S X A : Type 0} → (S → Stopped) → (X → A × List T) → Result X S → Read T A → Type 0
Gives cause view (Ok x) read = read ≡ Ok (view x)
Gives cause view (Err e) read = Stops (cause e) read

-- whether there is a next token, and it passes: what a function of the code that looks ahead answers
abbrev pub begin : {T : Type 0} → (T → Bool) → List T → Bool
begin test [] = false
begin test (t ∷ rest) = test t
