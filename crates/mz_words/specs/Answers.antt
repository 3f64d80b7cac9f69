-- What an ask may be answered, which step an answer makes, and what the step does to the words.
--
-- A look, a try and a refusal are free: they may be answered without an entry whatever the words hold. What makes an entry
-- has seen what the words held.
use Rattle.std.specs.Prelude.{◌≡◌, ◌≢◌, ℕ, ◌+◌, ◌-◌, ◌%◌, ◌^◌, max, ◌==◌, if◌then◌else◌, Option, Some, None}
use Rattle.mz_tape.specs.declared.entry.Kind.{Kind}
use Rattle.mz_tape.specs.declared.entry.Kind.TheVariants as kind
use Rattle.mz_words.specs.declared.words.Until.{Until}
use Rattle.mz_words.specs.declared.words.Until.TheVariants.{Zero, NotZero}
use Rattle.mz_words.specs.declared.asks.Ask.{Ask}
use Rattle.mz_words.specs.declared.asks.Ask.TheVariants.{Local, Frames, Looks, Starts, Loads, Adds, Stores, Tries, Prints, Stops, Leaves}
use Rattle.mz_words.specs.declared.asks.Answer.{Answer}
use Rattle.mz_words.specs.declared.asks.Answer.TheVariants.{Saw, Quiet, Missed, Refused}

-- a word is what a look waits for
abbrev pub Meets : Until → ℕ → Type 0
Meets Zero n = n ≡ 0
Meets NotZero n = n ≢ 0

-- what a step may have seen, whatever the words. A look makes its entry only where it is met; a store doesn't look, and a
-- try that is won saw 0
abbrev pub MaySee : Ask → ℕ → Type 0
MaySee (Looks p until) n = Meets until n
MaySee (Starts p) n = Unit {0}
MaySee (Loads p) n = Unit {0}
MaySee (Adds p v) n = Unit {0}
MaySee (Stores p v) n = n ≡ 0
MaySee (Tries p) n = n ≡ 0
MaySee (Prints v) n = Unit {0}
MaySee Stops n = Unit {0}
MaySee Leaves n = Unit {0}
MaySee _ n = ⊥

-- what may be answered without an entry: an act without a step, and a look that isn't met
abbrev pub MayStay : Ask → Type 0
MayStay Local = Unit {0}
MayStay (Frames n) = Unit {0}
MayStay (Looks p until) = Unit {0}
MayStay _ = ⊥

-- what may fail: a try
abbrev pub MayMiss : Ask → Type 0
MayMiss (Tries p) = Unit {0}
MayMiss _ = ⊥

-- where memory may be refused: directly before a step or a try of an instruction, and before a frame is made. The room of a
-- thread's start and end is made before it runs
abbrev pub MayRefuse : Ask → Type 0
MayRefuse (Frames n) = Unit {0}
MayRefuse (Loads p) = Unit {0}
MayRefuse (Adds p v) = Unit {0}
MayRefuse (Stores p v) = Unit {0}
MayRefuse (Tries p) = Unit {0}
MayRefuse (Prints v) = Unit {0}
MayRefuse _ = ⊥

-- an ask may get this answer
abbrev pub May : Ask → Answer → Type 0
May a (Saw n) = MaySee a n
May a Quiet = MayStay a
May a Missed = MayMiss a
May a Refused = MayRefuse a

-- a step on one word: its place, its kind and its operand
pub record Move : Type 0 where
  pub place : ℕ
  pub kind : Kind
  pub value : ℕ

-- the step that is asked for, if one is
abbrev pub move_of : Ask → Option Move
move_of (Looks p until) = Some (record { place = p; kind = kind.Load; value = 0 })
move_of (Starts p) = Some (record { place = p; kind = kind.Load; value = 0 })
move_of (Loads p) = Some (record { place = p; kind = kind.Load; value = 0 })
move_of (Adds p v) = Some (record { place = p; kind = kind.Add; value = v })
move_of (Stores p v) = Some (record { place = p; kind = kind.Store; value = v })
move_of (Tries p) = Some (record { place = p; kind = kind.Lock; value = 1 })
move_of (Prints v) = Some (record { place = 4; kind = kind.Print; value = v })
move_of Stops = Some (record { place = 3; kind = kind.Max; value = 1 })
move_of Leaves = Some (record { place = 2; kind = kind.Sub; value = 1 })
move_of _ = None

-- the step that an answer makes: only one that saw something makes one
abbrev pub moved : Ask → Answer → Option Move
moved a (Saw n) = move_of a
moved a _ = None

-- the word after a step of this kind
abbrev pub word_after : Kind → ℕ → ℕ → ℕ
word_after kind.Load value old = old
word_after kind.Store value old = value
word_after kind.Add value old = (old + value) % 2 ^ 64
word_after kind.Sub value old = (old + (2 ^ 64 - value)) % 2 ^ 64
word_after kind.Max value old = max old value
word_after kind.Lock value old = 1
word_after kind.Print value old = (old + 1) % 2 ^ 64

-- what a step of this kind has seen, where the word is `old`: a lock finds it free
abbrev pub HasSeen : Kind → ℕ → ℕ → Type 0
HasSeen kind.Store seen old = seen ≡ 0
HasSeen kind.Lock seen old = (seen ≡ 0) × (old ≡ 0)
HasSeen _ seen old = seen ≡ old

-- the step saw what the words hold
abbrev pub AgreesBy : Option Move → ℕ → (ℕ → ℕ) → Type 0
AgreesBy None n word = Unit {0}
AgreesBy (Some m) n word = HasSeen m.kind n (word m.place)

-- the answer agrees with the words: its step, if it makes one, saw what they hold
abbrev pub Agrees : Ask → Answer → (ℕ → ℕ) → Type 0
Agrees a (Saw n) word = AgreesBy (move_of a) n word
Agrees a _ word = Unit {0}

-- the word at p after a step
abbrev pub word_then : Option Move → (ℕ → ℕ) → ℕ → ℕ
word_then None word p = word p
word_then (Some m) word p = if m.place == p then word_after m.kind m.value (word p) else word p
