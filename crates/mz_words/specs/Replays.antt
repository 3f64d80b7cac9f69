-- Replay: one thread alone, which is told by its own record what each step saw.
use Rattle.std.specs.Prelude.{ℕ, List, [], ◌∷◌, ◌++◌, Option, Some, None}
use Rattle.mz_tape.specs.declared.entry.Entry.{Entry}
use Rattle.mz_words.specs.declared.code.Code.{Code}
use Rattle.mz_words.specs.declared.options.Options.{Options}
use Rattle.mz_words.specs.declared.asks.Ask.{Ask}
use Rattle.mz_words.specs.declared.asks.Answer.{Answer}
use Rattle.mz_words.specs.declared.asks.Answer.TheVariants.{Saw}
use Rattle.mz_words.specs.Standing.{Standing}
use Rattle.mz_words.specs.Steps.{ask, take_step, opening}
use Rattle.mz_words.specs.Answers.{May, Move, moved}

-- the entry of a step of thread k that saw n, if there is a step
abbrev pub entry_of : ℕ → Option Move → ℕ → List Entry
entry_of k None n = []
entry_of k (Some m) n = record { actor = k; place = m.place; kind = m.kind; value = m.value; seen = n } ∷ []

-- the entries of an answer: one where it saw something, else none
abbrev pub entries : ℕ → Ask → Answer → List Entry
entries k a (Saw n) = entry_of k (moved a (Saw n)) n
entries k a _ = []

-- thread k alone, whatever the words: its entries, and where they leave it. Its silent looks and failed tries are free
pub data Follows (c : Code) (o : Options) (k : ℕ) : List Entry → Standing → Type 0 where
  Follows_start : Follows c o k [] opening
  Follows_on : (part : List Entry) (t : Standing) (answer : Answer) → Follows c o k part t → May (ask c o k t) answer → Follows c o k (part ++ entries k (ask c o k t) answer) (take_step c o k t answer)
