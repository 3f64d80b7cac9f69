-- What contracts see of words on which one actor steps, and what each step leaves of it.
use Rattle.std.specs.Prelude.{◌≡◌, ◌≢◌, ◌<◌, ◌==◌, not, Bool, if◌then◌else◌, slice_index_or, slice_set, ℕ, ◌+◌, ◌-◌, List, [], ◌∷◌, ◌++◌, length, Option, None, Some}
use Rattle.mz_tape.specs.declared.entry.Entry.{Entry}
use Rattle.mz_tape.specs.declared.entry.Kind.{Kind}
use Rattle.mz_tape.specs.declared.entry.Kind.TheVariants.{Load, Lock}
use Rattle.mz_words.specs.declared.words.Note.{Note}
use Rattle.mz_words.specs.declared.words.Until.{Until}
use Rattle.mz_words.specs.declared.words.Until.TheVariants.{Zero, NotZero}
use Rattle.mz_words.specs.Answers.{Move, HasSeen, word_after}

-- the number of words, the actor, its entries so far, its last failed try, for how many entries there is room, how many of
-- its tries failed since its last entry, and all words, where they are told
pub record WordsView : Type 0 where
  pub size : ℕ
  pub actor : ℕ
  pub part : List Entry
  pub note : Option Note
  pub spare : ℕ
  pub lost : ℕ
  pub told : Option (List ℕ)

abbrev pub step : ℕ → Kind → ℕ → Move
step place kind value = record { place = place; kind = kind; value = value }

-- the entry of a step of actor k that saw n
abbrev pub entry_by : ℕ → Move → ℕ → Entry
entry_by k m n = record { actor = k; place = m.place; kind = m.kind; value = m.value; seen = n }

-- ---- told words

-- the word at a place, 0 where there is none
abbrev pub word_in : List ℕ → ℕ → ℕ
word_in words p = slice_index_or words p 0

-- the words after a step
abbrev pub words_with : Move → List ℕ → List ℕ
words_with m words = slice_set words m.place (word_after m.kind m.value (word_in words m.place))

abbrev pub told_with : Move → Option (List ℕ) → Option (List ℕ)
told_with m None = None
told_with m (Some words) = Some (words_with m words)

-- a step saw what the words hold, and its place is among them
abbrev pub Sees : Option (List ℕ) → Move → ℕ → Type 0
Sees None m n = Unit {0}
Sees (Some words) m n = HasSeen m.kind n (word_in words m.place) × (m.place < length words)

-- this is the word at the place, which is among them
abbrev pub Shows : Option (List ℕ) → ℕ → ℕ → Type 0
Shows None place found = Unit {0}
Shows (Some words) place found = (found ≡ word_in words place) × (place < length words)

-- the word at the place isn't 0
abbrev pub IsHeld : Option (List ℕ) → ℕ → Type 0
IsHeld None place = Unit {0}
IsHeld (Some words) place = word_in words place ≢ 0

-- ---- what a call leaves

-- one more entry, and the step is made
abbrev pub logged : WordsView → Move → ℕ → WordsView
logged w m n = record { size = w.size; actor = w.actor; part = w.part ++ entry_by w.actor m n ∷ []; note = w.note; spare = w.spare - 1; lost = 0; told = told_with m w.told }

-- a failed try is noted and counted
abbrev pub missed : WordsView → ℕ → WordsView
missed w place = record w { note = Some (record { place = place; made = length w.part }); lost = w.lost + 1 }

-- whether a word is what a look waits for
abbrev pub is_met : Until → ℕ → Bool
is_met Zero n = n == 0
is_met NotZero n = not (n == 0)

-- a look makes its entry where the word that it found meets it
abbrev pub watched : Until → WordsView → ℕ → ℕ → WordsView
watched until w place found = if is_met until found then logged w (step place Load 0) found else w

-- a try makes its entry where it wins
abbrev pub tried : Bool → WordsView → ℕ → WordsView
tried won w place = if won then logged w (step place Lock 1) 0 else missed w place
