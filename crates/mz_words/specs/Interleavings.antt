-- Interleavings: one list of the entries of all threads, which replays from the words at the opening.
use Rattle.std.specs.Prelude.{◌≡◌, ◌≢◌, ◌<◌, ◌==◌, if◌then◌else◌, ℕ, List, [], ◌∷◌, ◌++◌, length, Option, Some}
use Rattle.mz_tape.specs.declared.entry.Entry.{Entry}
use Rattle.mz_tape.specs.declared.entry.Kind.{Kind}
use Rattle.mz_tape.specs.declared.entry.Kind.TheVariants.{Print}
use Rattle.mz_words.specs.declared.words.Note.{Note}
use Rattle.mz_words.specs.Answers.{Move, HasSeen, word_then}

-- the entries of one actor, in their order
abbrev pub part_of : ℕ → List Entry → List Entry
part_of k [] = []
part_of k (e ∷ es) = if e.actor == k then e ∷ part_of k es else part_of k es

-- the step that an entry records
abbrev pub step_of : Entry → Move
step_of e = record { place = e.place; kind = e.kind; value = e.value }

-- each actor is a thread number
abbrev pub FewActors : List Entry → Type 0
FewActors [] = Unit {0}
FewActors (e ∷ es) = (e.actor < 64) × FewActors es

-- the word on which a step of this kind may be: a print is a step on the word of the tickets
abbrev pub IsAt : Kind → ℕ → Type 0
IsAt Print place = place ≡ 4
IsAt _ place = Unit {0}

-- each entry is a step on a word of its kind, and saw what the words hold at its turn
abbrev pub AllAgree : (ℕ → ℕ) → List Entry → Type 0
AllAgree word [] = Unit {0}
AllAgree word (e ∷ es) = IsAt e.kind e.place × HasSeen e.kind e.seen (word e.place) × AllAgree (word_then (Some (step_of e)) word) es

-- the word at a place after all entries
abbrev pub words_after : (ℕ → ℕ) → List Entry → ℕ → ℕ
words_after word [] = word
words_after word (e ∷ es) = words_after (word_then (Some (step_of e)) word) es

-- a failed try of actor k: behind some front of the list, with so many of its entries, the word that it tried isn't 0
pub record IsNoted (first : ℕ → ℕ) (h : List Entry) (k : ℕ) (note : Note) : Type 0 where
  pub front : List Entry
  pub after : List Entry
  pub cut : h ≡ front ++ after
  pub made : length (part_of k front) ≡ note.made
  pub held : words_after first front note.place ≢ 0

-- the list has these parts, explains these notes, and leads from the first words to the last
pub record Interleaving (h : List Entry) (parts : ℕ → List Entry) (notes : ℕ → Option Note) (first last : ℕ → ℕ) : Type 0 where
  pub actors : FewActors h
  pub each_part : (k : ℕ) → part_of k h ≡ parts k
  pub agree : AllAgree first h
  pub closing : (p : ℕ) → words_after first h p ≡ last p
  pub noted : (k : ℕ) (note : Note) → notes k ≡ Some note → IsNoted first h k note
