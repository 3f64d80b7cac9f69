-- The word of tickets: each print draws its ticket there, and no other entry is at it.
use Rattle.std.specs.Prelude.{◌≡◌, ◌≢◌, ℕ, Bool, true, false, List, [], ◌∷◌, filter}
use Rattle.mz_tape.specs.declared.entry.Entry.{Entry}
use Rattle.mz_tape.specs.declared.entry.Kind.{Kind}
use Rattle.mz_tape.specs.declared.entry.Kind.TheVariants.{Print}

-- a print is a step on the word of tickets, and no other step is
abbrev pub IsOnItsWord : Kind → ℕ → Type 0
IsOnItsWord Print place = place ≡ 4
IsOnItsWord _ place = place ≢ 4

abbrev pub KeepTickets : List Entry → Type 0
KeepTickets [] = Unit {0}
KeepTickets (e ∷ es) = IsOnItsWord e.kind e.place × KeepTickets es

abbrev pub is_print : Kind → Bool
is_print Print = true
is_print _ = false

-- the prints among entries
abbrev pub prints_among : List Entry → List Entry
prints_among = filter (λ e. is_print e.kind)
