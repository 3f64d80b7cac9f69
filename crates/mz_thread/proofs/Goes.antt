-- One answer of the words is one event.
use Rattle.std.proofs.Common.{◌≡◌, ◌+◌, ℕ, List, [], ◌∷◌, ◌++◌, Option, Some, None, Bool, false, refl, sym, ap, subst, ◌∙◌}
use Rattle.mz_words.specs.Views.{WordsView}
use Rattle.mz_tape.specs.declared.entry.Entry.{Entry}
use Rattle.mz_words.specs.declared.code.Code.{Code}
use Rattle.mz_words.specs.declared.options.Options.{Options}
use Rattle.mz_words.specs.declared.asks.Ask.{Ask}
use Rattle.mz_words.specs.declared.asks.Ask.TheVariants.{Local, Frames, Looks, Starts, Loads, Adds, Stores, Tries, Prints, Stops, Leaves, Nothing}
use Rattle.mz_words.specs.declared.asks.Answer.{Answer}
use Rattle.mz_words.specs.declared.asks.Answer.TheVariants.{Saw, Quiet, Missed, Refused}
use Rattle.mz_words.specs.Standing.{Standing}
use Rattle.mz_words.specs.Steps.{ask, take_step}
use Rattle.mz_words.specs.Answers.{May, Move, move_of}
use Rattle.mz_words.specs.Turns.{Leads, Leads_on, IsTold, stepped, missed_at, tried_at, answered, pauses}
use Rattle.mz_words.specs.Replays.{Follows, Follows_on, entries, entry_of}
use Rattle.mz_thread.specs.Answered.{lost_after}

nil_right : (xs : List Entry) → xs ≡ xs ++ []
nil_right [] = refl
nil_right (x ∷ xs) = ap (λ (l : List Entry). x ∷ l) (nil_right xs)

-- what an answer changes of what contracts see
pub record SeesAfter (a : Ask) (answer : Answer) (w v : WordsView) : Type 0 where
  pub part : v.part ≡ w.part ++ entries w.actor a answer
  pub actor : v.actor ≡ w.actor
  pub size : v.size ≡ w.size

stepped_after : (a : Ask) (m : Option Move) (n : ℕ) (w : WordsView) → m ≡ move_of a → SeesAfter a (Saw n) w (stepped w m n)
stepped_after a None n w e = record { part = nil_right w.part ∙ ap (λ (x : Option Move). w.part ++ entry_of w.actor x n) e; actor = refl; size = refl }
stepped_after a (Some m) n w e = record { part = ap (λ (x : Option Move). w.part ++ entry_of w.actor x n) e; actor = refl; size = refl }

missed_after : (a : Ask) (p : Option ℕ) (w : WordsView) → SeesAfter a Missed w (missed_at p w)
missed_after a None w = record { part = nil_right w.part; actor = refl; size = refl }
missed_after a (Some p) w = record { part = nil_right w.part; actor = refl; size = refl }

answered_after : (a : Ask) (answer : Answer) (w : WordsView) → SeesAfter a answer w (answered a answer w)
answered_after a (Saw n) w = stepped_after a (move_of a) n w refl
answered_after a Quiet w = record { part = nil_right w.part; actor = refl; size = refl }
answered_after a Missed w = missed_after a (tried_at a) w
answered_after a Refused w = record { part = nil_right w.part; actor = refl; size = refl }

sees_after : (a : Ask) (answer : Answer) (w v : WordsView) (spare : ℕ) → v ≡ record (answered a answer w) { spare = spare } → SeesAfter a answer w v
sees_after a answer w v spare e = let z = answered_after a answer w in record {
  part = ap (λ (x : WordsView). x.part) e ∙ z.part;
  actor = ap (λ (x : WordsView). x.actor) e ∙ z.actor;
  size = ap (λ (x : WordsView). x.size) e ∙ z.size;
}

pub actor_on : (a : Ask) (answer : Answer) (w v : WordsView) (spare : ℕ) → v ≡ record (answered a answer w) { spare = spare } → v.actor ≡ w.actor
actor_on a answer w v spare e = (sees_after a answer w v spare e).actor

pub size_on : (a : Ask) (answer : Answer) (w v : WordsView) (spare : ℕ) → v ≡ record (answered a answer w) { spare = spare } → v.size ≡ w.size
size_on a answer w v spare e = (sees_after a answer w v spare e).size

saw_lost : (a : Ask) (n : ℕ) (w : WordsView) → May a (Saw n) → (stepped w (move_of a) n).lost ≡ 0
saw_lost (Looks p u) n w m = refl
saw_lost (Starts p) n w m = refl
saw_lost (Loads p) n w m = refl
saw_lost (Adds p v) n w m = refl
saw_lost (Stores p v) n w m = refl
saw_lost (Tries p) n w m = refl
saw_lost (Prints v) n w m = refl
saw_lost Stops n w m = refl
saw_lost Leaves n w m = refl
saw_lost Local n w m = absurd m
saw_lost (Frames k) n w m = absurd m
saw_lost Nothing n w m = absurd m

missed_lost : (a : Ask) (w : WordsView) → May a Missed → (missed_at (tried_at a) w).lost ≡ w.lost + 1
missed_lost (Tries p) w m = refl
missed_lost (Looks p u) w m = absurd m
missed_lost (Starts p) w m = absurd m
missed_lost (Loads p) w m = absurd m
missed_lost (Adds p v) w m = absurd m
missed_lost (Stores p v) w m = absurd m
missed_lost (Prints v) w m = absurd m
missed_lost Stops w m = absurd m
missed_lost Leaves w m = absurd m
missed_lost Local w m = absurd m
missed_lost (Frames k) w m = absurd m
missed_lost Nothing w m = absurd m

answered_lost : (a : Ask) (answer : Answer) (w : WordsView) → May a answer → (answered a answer w).lost ≡ lost_after a answer w.lost
answered_lost a (Saw n) w m = saw_lost a n w m
answered_lost a Missed w m = missed_lost a w m
answered_lost a Quiet w m = refl
answered_lost a Refused w m = refl

pub lost_on : (a : Ask) (answer : Answer) (w v : WordsView) (spare : ℕ) → May a answer → v ≡ record (answered a answer w) { spare = spare } → v.lost ≡ lost_after a answer w.lost
lost_on a answer w v spare m e = ap (λ (x : WordsView). x.lost) e ∙ answered_lost a answer w m

pub follows_on : (c : Code) (o : Options) (k : ℕ) (w v : WordsView) (t u : Standing) (answer : Answer) (spare : ℕ) → k ≡ w.actor → Follows c o k w.part t → May (ask c o k t) answer
    → u ≡ take_step c o k t answer → v ≡ record (answered (ask c o k t) answer w) { spare = spare } → Follows c o k v.part u
follows_on c o k w v t u answer spare q f m e a = let z = sees_after (ask c o k t) answer w v spare a in
    subst (λ (x : Standing). Follows c o k v.part x) (sym e) (subst (λ (p : List Entry). Follows c o k p (take_step c o k t answer)) (sym (z.part ∙ ap (λ x. w.part ++ entries x (ask c o k t) answer) (sym q))) (Follows_on w.part t answer f m))

pub leads_on : (c : Code) (o : Options) (k from : ℕ) (first w v : WordsView) (s t u : Standing) (answer : Answer) (spare : ℕ) (b : Bool) → Leads c o k from first s w t false → May (ask c o k t) answer
    → IsTold (ask c o k t) answer w.told → u ≡ take_step c o k t answer → v ≡ record (answered (ask c o k t) answer w) { spare = spare } → b ≡ pauses o from answer u
    → Leads c o k from first s v u b
leads_on c o k from first w v s t u answer spare b l m h e a p =
    subst (λ (x : Bool). Leads c o k from first s v u x) (sym p)
    (subst (λ (x : Standing). Leads c o k from first s v x (pauses o from answer x)) (sym e)
    (subst (λ (x : WordsView). Leads c o k from first s x (take_step c o k t answer) (pauses o from answer (take_step c o k t answer))) (sym a)
    (Leads_on w t answer spare l m h)))
