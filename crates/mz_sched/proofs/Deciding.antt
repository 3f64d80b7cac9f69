-- The words decide each answer that isn't a refusal of memory.
use Rattle.std.proofs.Common.{◌≡◌, ◌≢◌, ◌==◌, ℕ, Bool, true, false, not, refl, sym, ap, ◌∙◌, subst, eq-eqb, ne_eqb}
use Rattle.std.proofs.lemmas.Bool.{eqb-false}
use Rattle.mz_words.specs.declared.words.Until.{Until}
use Rattle.mz_words.specs.declared.words.Until.TheVariants.{Zero, NotZero}
use Rattle.mz_words.specs.declared.asks.Ask.{Ask}
use Rattle.mz_words.specs.declared.asks.Ask.TheVariants.{Local, Frames, Looks, Starts, Loads, Adds, Stores, Tries, Prints, Stops, Leaves}
use Rattle.mz_words.specs.declared.asks.Answer.{Answer}
use Rattle.mz_words.specs.declared.asks.Answer.TheVariants.{Saw, Quiet, Missed, Refused}
use Rattle.mz_words.specs.Answers.{May, Meets, Agrees}
use Rattle.mz_words.specs.Turns.{IsDecided}
use Rattle.mz_words.specs.Views.{is_met}

abbrev pub looked : Bool → ℕ → Answer
looked true n = Saw n
looked false n = Quiet

abbrev pub tried : Bool → Answer
tried true = Saw 0
tried false = Missed

-- the answer where memory isn't refused
abbrev pub the_answer : Ask → (ℕ → ℕ) → Answer
the_answer (Looks p until) word = looked (is_met until (word p)) (word p)
the_answer (Starts p) word = Saw (word p)
the_answer (Loads p) word = Saw (word p)
the_answer (Adds p v) word = Saw (word p)
the_answer (Stores p v) word = Saw 0
the_answer (Tries p) word = tried (word p == 0)
the_answer (Prints v) word = Saw (word 4)
the_answer Stops word = Saw (word 3)
the_answer Leaves word = Saw (word 2)
the_answer _ word = Quiet

met : (until : Until) (n : ℕ) → Meets until n → is_met until n ≡ true
met Zero n m = eq-eqb n 0 m
met NotZero n m = ap not (ne_eqb n 0 m)

is_zero : (n : ℕ) (b : Bool) → (n == 0) ≡ b → (n ≢ 0 → ⊥) → not (n == 0) ≡ false
is_zero n true e d = ap not e
is_zero n false e d = absurd (d (eqb-false n 0 e))

not_met : (until : Until) (n : ℕ) → (Meets until n → ⊥) → is_met until n ≡ false
not_met Zero n m = ne_eqb n 0 m
not_met NotZero n m = is_zero n (n == 0) refl m

pub is_the_answer : (a : Ask) (answer : Answer) (word : ℕ → ℕ) → May a answer → Agrees a answer word → IsDecided a answer word → answer ≢ Refused → answer ≡ the_answer a word
is_the_answer a Refused word m g d r = absurd (r refl)
is_the_answer (Looks p until) (Saw n) word m g d r = ap Saw g ∙ sym (ap (λ b. looked b (word p)) (met until (word p) (subst (Meets until) g m)))
is_the_answer (Looks p until) Quiet word m g d r = sym (ap (λ b. looked b (word p)) (not_met until (word p) d))
is_the_answer (Tries p) (Saw n) word m g d r = ap Saw g.0 ∙ sym (ap tried (eq-eqb (word p) 0 g.1))
is_the_answer (Tries p) Missed word m g d r = sym (ap tried (ne_eqb (word p) 0 d))
is_the_answer (Starts p) (Saw n) word m g d r = ap Saw g
is_the_answer (Loads p) (Saw n) word m g d r = ap Saw g
is_the_answer (Adds p v) (Saw n) word m g d r = ap Saw g
is_the_answer (Stores p v) (Saw n) word m g d r = ap Saw g
is_the_answer (Prints v) (Saw n) word m g d r = ap Saw g
is_the_answer Stops (Saw n) word m g d r = ap Saw g
is_the_answer Leaves (Saw n) word m g d r = ap Saw g
is_the_answer Local Quiet word m g d r = refl
is_the_answer (Frames n) Quiet word m g d r = refl
is_the_answer a answer word m g d r = absurd m
