-- Histories: the entries that a list of events makes, of all threads, in order; and whose events they are.
use Rattle.std.specs.Prelude.{◌≡◌, ℕ, List, [], ◌++◌}
use Rattle.mz_tape.specs.declared.entry.Entry.{Entry}
use Rattle.mz_words.specs.declared.code.Code.{Code}
use Rattle.mz_words.specs.declared.options.Options.{Options}
use Rattle.mz_words.specs.Steps.{ask}
use Rattle.mz_words.specs.Raw.{Raw, Events, No_events, More_events}
use Rattle.mz_words.specs.Replays.{entries}

-- each event's entry, if it makes one
abbrev pub history : {c : Code} {o : Options} {first last : Raw} → Events c o first last → List Entry
history No_events = []
history {c} {o} (More_events s s' k answer events event) = history events ++ entries k (ask c o k (s.thread k)) answer

-- each event is one of thread k
abbrev pub AllBy : (k : ℕ) {c : Code} {o : Options} {first last : Raw} → Events c o first last → Type 0
AllBy k No_events = Unit {0}
AllBy k (More_events s s' j answer events event) = AllBy k events × (j ≡ k)
