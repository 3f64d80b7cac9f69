-- Turns of one thread, on what it sees of the words.
use Rattle.std.specs.Prelude.{◌≢◌, ◌<◌, ℕ, ◌+◌, leb, Bool, true, false, List, length, Option, Some, None}
use Rattle.mz_words.specs.declared.code.Code.{Code}
use Rattle.mz_words.specs.declared.options.Options.{Options}
use Rattle.mz_words.specs.declared.asks.Ask.{Ask}
use Rattle.mz_words.specs.declared.asks.Ask.TheVariants.{Looks, Tries}
use Rattle.mz_words.specs.declared.asks.Answer.{Answer}
use Rattle.mz_words.specs.declared.asks.Answer.TheVariants.{Saw, Quiet, Missed}
use Rattle.mz_words.specs.declared.stages.Stage.{Stage}
use Rattle.mz_words.specs.declared.stages.Stage.TheVariants.{Idle, Border, Over}
use Rattle.mz_words.specs.Standing.{Standing}
use Rattle.mz_words.specs.Steps.{ask, take_step}
use Rattle.mz_words.specs.Answers.{May, Meets, Agrees, Move, move_of, moved}
use Rattle.mz_words.specs.Views.{WordsView, word_in, logged, missed}

-- the word decides a silent look and a failed try: the one isn't met, and the other finds no 0
abbrev pub IsDecided : Ask → Answer → (ℕ → ℕ) → Type 0
IsDecided (Looks p until) Quiet word = Meets until (word p) → ⊥
IsDecided (Tries p) Missed word = word p ≢ 0
IsDecided _ _ word = Unit {0}

-- whether a turn that began with `from` units ends after this answer: after a failed try behind which the thread goes on,
-- at a border with enough units made, behind an idle look that neither starts nor ends the thread, and at its end
abbrev pub pauses_at : Options → ℕ → Answer → ℕ → Stage → Bool
pauses_at o from Missed units Border = true
pauses_at o from answer units Border = leb (from + o.quantum) units
pauses_at o from answer units Idle = true
pauses_at o from answer units (Over e) = true
pauses_at o from answer units stage = false

unfoldable pub pauses : Options → ℕ → Answer → Standing → Bool
pauses o from answer t = pauses_at o from answer t.units t.stage

-- the place of a step is among so many words
abbrev pub IsPlaced : Option Move → ℕ → Type 0
IsPlaced None size = Unit {0}
IsPlaced (Some m) size = m.place < size

-- an answer is what the words before it decide, where they are told
abbrev pub IsTold : Ask → Answer → Option (List ℕ) → Type 0
IsTold a answer None = Unit {0}
IsTold a answer (Some words) = Agrees a answer (word_in words) × IsDecided a answer (word_in words) × IsPlaced (moved a answer) (length words)

-- a step that saw n leaves its entry
abbrev pub stepped : WordsView → Option Move → ℕ → WordsView
stepped w None n = w
stepped w (Some m) n = logged w m n

-- the word at which a lock is tried
abbrev pub tried_at : Ask → Option ℕ
tried_at (Tries p) = Some p
tried_at _ = None

-- a failed try leaves its note
abbrev pub missed_at : Option ℕ → WordsView → WordsView
missed_at None w = w
missed_at (Some p) w = missed w p

-- what an answer leaves of what a thread sees, but for the room
abbrev pub answered : Ask → Answer → WordsView → WordsView
answered a (Saw n) w = stepped w (move_of a) n
answered a Missed w = missed_at (tried_at a) w
answered a _ w = w

-- events of thread k, from what it sees and where it stands to what it sees and where it stands behind them, and whether the
-- last one ended the turn. Only where it didn't is there another. For how many entries there is room then is left open
pub data Leads (c : Code) (o : Options) (k from : ℕ) (first : WordsView) (t : Standing) : WordsView → Standing → Bool → Type 0 where
  Leads_nowhere : Leads c o k from first t first t false
  Leads_on : (w : WordsView) (u : Standing) (answer : Answer) (spare : ℕ) → Leads c o k from first t w u false → May (ask c o k u) answer → IsTold (ask c o k u) answer w.told
      → Leads c o k from first t (record (answered (ask c o k u) answer w) { spare = spare }) (take_step c o k u answer) (pauses o from answer (take_step c o k u answer))
