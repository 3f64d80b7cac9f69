-- What it is that a function reads a grammar. Spelled is what the grammar has, of any depth; MayFollow is what may come after it;
-- before and after tell how many brackets may be opened before and after what is read.
use Rattle.std.specs.Prelude.{◌≡◌, ℕ, List, ◌∷◌, ◌++◌, Option, Some, Ok, Err, ◌⊎◌}
use Rattle.mz_grammar.specs.Reading.{Read, Wrong, Deep, first}
use Rattle.mz_grammar.specs.Brackets.{Turn, Opens, room}

-- anything may follow
abbrev pub Any : {T : Type 0} → Option T → Type 0
Any _ = Unit {0}

-- it is this, or too deep
abbrev pub Allowed : {T A : Type 0} → Read T A → A × List T → Type 0
Allowed {T} read x = (read ≡ Ok x) ⊎ ((rest : List T) × (read ≡ Err (Deep rest)))

-- it was read rightly: the tokens taken spell the value, and no token after the next was looked at
pub record Reaches {T A : Type 0} (turn : T → Turn) (reader : List T → Read T A) (Spelled : List T → A → Type 0) (before after : ℕ) (tokens rest : List T) (value : A) : Type 0 where
  pub front : List T
  pub split : tokens ≡ front ++ rest
  pub spelled : Spelled front value
  -- so many brackets may be opened after it
  pub fits : room turn front (Some before) ≡ Some after
  -- it is read so with any tokens behind that begin alike
  pub again : (others : List T) → first others ≡ first rest → reader (front ++ others) ≡ Ok (value, others)

-- it was refused rightly: what stands before could have gone on, and the next token alone is why it can't
pub record Fails {T A : Type 0} (turn : T → Turn) (reader : List T → Read T A) (Spelled : List T → A → Type 0) (before : ℕ) (tokens rest : List T) : Type 0 where
  pub front : List T
  pub more : List T
  pub value : A
  pub left : ℕ
  pub split : tokens ≡ front ++ rest
  -- with other tokens behind, the front begins something of the grammar
  pub viable : Spelled (front ++ more) value
  -- up to there no bracket was one too many
  pub fits : room turn front (Some before) ≡ Some left
  -- it is refused there with any tokens behind that begin alike
  pub again : (others : List T) → first others ≡ first rest → reader (front ++ others) ≡ Err (Wrong others)

-- it is too deep rightly: the next token is a bracket that could stand there, and no more may be opened
pub record Sinks {T A : Type 0} (turn : T → Turn) (Spelled : List T → A → Type 0) (before : ℕ) (tokens rest : List T) : Type 0 where
  pub front : List T
  pub bracket : T
  pub after : List T
  pub more : List T
  pub value : A
  pub split : tokens ≡ front ++ rest
  pub here : rest ≡ bracket ∷ after
  -- with other tokens behind it, the bracket is of the grammar
  pub viable : Spelled (front ++ bracket ∷ more) value
  pub opens : turn bracket ≡ Opens
  pub full : room turn front (Some before) ≡ Some 0

-- it reads this grammar
pub record Reads {T A : Type 0} (turn : T → Turn) (reader : List T → Read T A) (Spelled : List T → A → Type 0) (MayFollow : Option T → Type 0) (before after : ℕ) : Type 0 where
  -- the grammar has something
  pub example : (front : List T) × (value : A) × Spelled front value
  -- what it reads is spelled so
  pub sound : (tokens rest : List T) (value : A) → reader tokens ≡ Ok (value, rest) → Reaches turn reader Spelled before after tokens rest value
  -- where it refuses, the next token can't stand
  pub refuses : (tokens rest : List T) → reader tokens ≡ Err (Wrong rest) → Fails turn reader Spelled before tokens rest
  -- where it is too deep, a bracket is one too many
  pub sinks : (tokens rest : List T) → reader tokens ≡ Err (Deep rest) → Sinks turn Spelled before tokens rest
  -- what is spelled so is never refused: it is read, or too deep
  pub never : (front rest : List T) (value : A) → Spelled front value → MayFollow (first rest) → Allowed (reader (front ++ rest)) (value, rest)
