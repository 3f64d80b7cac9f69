-- What a run prints are the values of its print entries.
use Rattle.std.proofs.Common.{◌≡◌, ℕ, List, [], ◌∷◌, ◌++◌, map, refl, sym, ap, ◌∙◌, append_assoc}
use Rattle.std.proofs.lemmas.List.{map-append}
use Rattle.std.proofs.lemmas.List.Elements.{filter-append}
use Rattle.mz_tape.specs.declared.entry.Entry.{Entry}
use Rattle.mz_words.specs.declared.asks.Ask.{Ask}
use Rattle.mz_words.specs.declared.asks.Ask.TheVariants.{Local, Frames, Looks, Starts, Loads, Adds, Stores, Tries, Prints, Stops, Leaves, Nothing}
use Rattle.mz_words.specs.declared.asks.Answer.{Answer}
use Rattle.mz_words.specs.declared.asks.Answer.TheVariants.{Saw, Quiet, Missed, Refused}
use Rattle.mz_words.specs.Steps.{ask}
use Rattle.mz_words.specs.Raw.{No_events, More_events, printed}
use Rattle.mz_words.specs.Replays.{entries}
use Rattle.mz_words.specs.Histories.{history}
use Rattle.mz_words.specs.Tickets.{is_print, prints_among}
use Rattle.mz_words.specs.Laws.{RunsPrintTheirEntries}

values : List Entry → List ℕ
values es = map (λ (e : Entry). e.value) (prints_among es)

nothing_more : (xs : List ℕ) → xs ++ [] ≡ xs
nothing_more [] = refl
nothing_more (x ∷ xs) = ap (λ l. x ∷ l) (nothing_more xs)

values_append : (xs ys : List Entry) → values (xs ++ ys) ≡ values xs ++ values ys
unfolding values
values_append xs ys = ap (λ (l : List Entry). map (λ (e : Entry). e.value) l) (filter-append (λ (e : Entry). is_print e.kind) xs ys) ∙ map-append (λ (e : Entry). e.value) (prints_among xs) (prints_among ys)

printed_is : (k : ℕ) (a : Ask) (answer : Answer) → printed a answer ≡ values (entries k a answer)
unfolding values
printed_is k (Prints v) (Saw n) = refl
printed_is k Local (Saw n) = refl
printed_is k (Frames m) (Saw n) = refl
printed_is k (Looks p until) (Saw n) = refl
printed_is k (Starts p) (Saw n) = refl
printed_is k (Loads p) (Saw n) = refl
printed_is k (Adds p v) (Saw n) = refl
printed_is k (Stores p v) (Saw n) = refl
printed_is k (Tries p) (Saw n) = refl
printed_is k Stops (Saw n) = refl
printed_is k Leaves (Saw n) = refl
printed_is k Nothing (Saw n) = refl
printed_is k (Prints v) Quiet = refl
printed_is k (Prints v) Missed = refl
printed_is k (Prints v) Refused = refl
printed_is k a Quiet = refl
printed_is k a Missed = refl
printed_is k a Refused = refl

pub prints_entries : RunsPrintTheirEntries
unfolding values
prints_entries c o first s No_events = sym (nothing_more first.prints)
prints_entries c o first s (More_events s1 _ k answer es e) =
    e.prints ∙ ap (λ (l : List ℕ). l ++ printed (ask c o k (s1.thread k)) answer) (prints_entries c o first s1 es)
    ∙ append_assoc first.prints (values (history es)) (printed (ask c o k (s1.thread k)) answer)
    ∙ ap (λ (l : List ℕ). first.prints ++ l) (ap (λ (l : List ℕ). values (history es) ++ l) (printed_is k (ask c o k (s1.thread k)) answer) ∙ sym (values_append (history es) (entries k (ask c o k (s1.thread k)) answer)))
