-- From one state a thread has at most one turn: each event has the answer of the words, so what so many events come to is a
-- function of their number, and the first pause says how many there are.
use Rattle.std.proofs.Common.{◌≡◌, ◌<◌, ℕ, zero, suc, List, [], ◌++◌, Option, Some, None, Bool, true, false, refl, sym, ap, ◌∙◌, subst, inl, inr, arith}
use Rattle.std.proofs.lemmas.Bool.{cases_eq}
use Rattle.mz_tape.specs.declared.entry.Entry.{Entry}
use Rattle.mz_words.specs.declared.code.Code.{Code}
use Rattle.mz_words.specs.declared.options.Options.{Options}
use Rattle.mz_words.specs.declared.asks.Ask.{Ask}
use Rattle.mz_words.specs.declared.asks.Answer.{Answer}
use Rattle.mz_words.specs.declared.asks.Answer.TheVariants.{Saw, Quiet, Missed, Refused}
use Rattle.mz_words.specs.Standing.{Standing}
use Rattle.mz_words.specs.Steps.{ask, take_step}
use Rattle.mz_words.specs.Answers.{Move, move_of, moved}
use Rattle.mz_words.specs.Replays.{entries}
use Rattle.mz_words.specs.Turns.{Leads, Leads_nowhere, Leads_on, IsTold, stepped, tried_at, missed_at, answered, pauses}
use Rattle.mz_words.specs.Views.{WordsView, word_in, words_with, told_with}
use Rattle.mz_words.proofs.Turning.{actor_next, part_next}
use Rattle.mz_sched.specs.Schedules.{IsGranted, State, Turn}
use Rattle.mz_sched.proofs.Deciding.{the_answer, is_the_answer}

-- the words after a step
abbrev pub words_then : Option Move → List ℕ → List ℕ
words_then None words = words
words_then (Some m) words = words_with m words

-- what an answer leaves of the words and of the record
stepped_told : (m : Option Move) (n : ℕ) (w : WordsView) (vs : List ℕ) → w.told ≡ Some vs → (stepped w m n).told ≡ Some (words_then m vs)
stepped_told None n w vs e = e
stepped_told (Some m) n w vs e = ap (λ (x : Option (List ℕ)). told_with m x) e

missed_told : (p : Option ℕ) (w : WordsView) → (missed_at p w).told ≡ w.told
missed_told None w = refl
missed_told (Some p) w = refl

told_next : (a : Ask) (answer : Answer) (w : WordsView) (vs : List ℕ) → w.told ≡ Some vs → (answered a answer w).told ≡ Some (words_then (moved a answer) vs)
told_next a (Saw n) w vs e = stepped_told (move_of a) n w vs e
told_next a Quiet w vs e = e
told_next a Missed w vs e = missed_told (tried_at a) w ∙ e
told_next a Refused w vs e = e

abbrev pub words_of : Option (List ℕ) → List ℕ
words_of None = []
words_of (Some words) = words

-- what events come to: the words, where the thread stands, whether the last event ended the turn, and the entries
pub record Come : Type 0 where
  pub words : List ℕ
  pub standing : Standing
  pub paused : Bool
  pub made : List Entry

abbrev pub come : List ℕ → Standing → Bool → List Entry → Come
come words standing paused made = record { words = words; standing = standing; paused = paused; made = made }

true_false : true ≡ false → ⊥
true_false e = cc

module _ (c : Code) (o : Options) (k : ℕ) where
  -- one more event, with this answer, in a turn that began with so many units
  abbrev pub next : ℕ → Come → Answer → Come
  next from x answer = come (words_then (moved (ask c o k x.standing) answer) x.words) (take_step c o k x.standing answer) (pauses o from answer (take_step c o k x.standing answer)) (x.made ++ entries k (ask c o k x.standing) answer)

  -- one more event, with the answer of the words
  abbrev pub decided : ℕ → Come → Come
  decided from x = next from x (the_answer (ask c o k x.standing) (word_in x.words))

  -- so many events
  abbrev pub events : ℕ → ℕ → List ℕ → Standing → List Entry → Come
  events from zero words t part = come words t false part
  events from (suc n) words t part = decided from (events from n words t part)

  -- events up to the first pause, or to none
  pub record Ends (from : ℕ) (words : List ℕ) (t : Standing) (part : List Entry) (x : Come) : Type 0 where
    pub count : ℕ
    pub is : x ≡ events from count words t part
    pub before : (n : ℕ) → n < count → (events from n words t part).paused ≡ false

  pub one_end : (from : ℕ) (words : List ℕ) (t : Standing) (part : List Entry) (x y : Come) → Ends from words t part x → Ends from words t part y → x.paused ≡ true → y.paused ≡ true → x ≡ y
  one_end from words t part x y p q e f = elim (cases_eq p.count q.count) [
    | inl same ↦ p.is ∙ ap (λ n. events from n words t part) same ∙ sym q.is
    | inr other ↦ absurd (other (no_other p.count q.count (λ h. true_false (sym e ∙ ap (λ z. z.paused) p.is ∙ q.before p.count h)) (λ h. true_false (sym f ∙ ap (λ z. z.paused) q.is ∙ p.before q.count h))))
  ]
    where
      no_other : (m n : ℕ) → (m < n → ⊥) → (n < m → ⊥) → m ≡ n
      no_other m n h i = omega (arith, h, i)

  -- one more event behind events whose last one is no pause
  more : (from : ℕ) (words : List ℕ) (t : Standing) (part : List Entry) (x : Come) (answer : Answer) → Ends from words t part x → x.paused ≡ false → answer ≡ the_answer (ask c o k x.standing) (word_in x.words) → Ends from words t part (next from x answer)
  more from words t part x answer p e a = record {
    count = suc p.count;
    is = ap (next from x) a ∙ ap (decided from) p.is;
    before = λ n h. elim (cases_eq n p.count) [
      | inl same ↦ subst (λ m. (events from m words t part).paused ≡ false) (sym same) (ap (λ z. z.paused) (sym p.is) ∙ e)
      | inr other ↦ p.before n (omega (arith, h, other))
    ];
  }

  -- events on told words come to words that are told
  pub record Goes (from : ℕ) (words : List ℕ) (t : Standing) (part : List Entry) (w : WordsView) (u : Standing) (paused : Bool) : Type 0 where
    pub actor : w.actor ≡ k
    pub some : w.told ≡ Some (words_of w.told)
    pub ends : Ends from words t part (come (words_of w.told) u paused w.part)

  pub goes : (from : ℕ) (words : List ℕ) (t : Standing) (part : List Entry) (first : WordsView) → first.actor ≡ k → first.part ≡ part → first.told ≡ Some words → (w : WordsView) (u : Standing) (paused : Bool) (leads : Leads c o k from first t w u paused) → IsGranted leads
      → Goes from words t part w u paused
  goes from words t part first actor mine told _ _ _ Leads_nowhere granted = record {
    actor = actor;
    some = told ∙ ap Some (sym (ap words_of told));
    ends = record { count = 0; is = ap (λ (ws : List ℕ). come ws t false first.part) (ap words_of told) ∙ ap (come words t false) mine; before = λ n h. absurd (omega (arith, h)) };
  }
  goes from words t part first actor mine told _ _ _ (Leads_on w u answer spare leads may is_told) granted =
      let r = goes from words t part first actor mine told w u false leads granted.0 in
      let vs = words_of w.told in
      let a = ask c o k u in
      let is : IsTold a answer (Some vs) = subst (λ z. IsTold a answer z) r.some is_told in
      let x = come vs u false w.part in
      let end = more from words t part x answer r.ends refl (is_the_answer a answer (word_in vs) may is.0 is.1 granted.1) in
      let told' = told_next a answer w vs r.some in
      let same = ap words_of told' in
      let made = part_next a answer w ∙ ap (λ z. w.part ++ entries z a answer) r.actor in
      record {
        actor = actor_next a answer w ∙ r.actor;
        some = told' ∙ ap Some (sym same);
        ends = subst (λ ws. Ends from words t part (come ws (take_step c o k u answer) (pauses o from answer (take_step c o k u answer)) (answered a answer w).part)) (sym same)
            (subst (λ l. Ends from words t part (come (words_then (moved a answer) vs) (take_step c o k u answer) (pauses o from answer (take_step c o k u answer)) l)) (sym made) end);
      }

-- ---- turns from states that are the same

pub record AreSame (s s' : State) : Type 0 where
  pub words : s.words ≡ s'.words
  pub thread : (k : ℕ) → s.thread k ≡ s'.thread k
  pub part : (k : ℕ) → s.part k ≡ s'.part k

pub one_turn : (c : Code) (o : Options) (k : ℕ) (s s' a b : State) → AreSame s s' → Turn c o k s a → Turn c o k s' b → AreSame a b
one_turn c o k s s' a b same p q =
    let x = goes c o k (s.thread k).units s.words (s.thread k) (s.part k) p.before p.sees.actor p.sees.part p.sees.words p.after (a.thread k) true p.leads p.granted in
    let y = goes c o k (s'.thread k).units s'.words (s'.thread k) (s'.part k) q.before q.sees.actor q.sees.part q.sees.words q.after (b.thread k) true q.leads q.granted in
    let come_a = come (words_of p.after.told) (a.thread k) true p.after.part in
    let come_b = come (words_of q.after.told) (b.thread k) true q.after.part in
    let moved_x : Ends c o k (s'.thread k).units s'.words (s'.thread k) (s'.part k) come_a =
    subst (λ (t : Standing). Ends c o k t.units s'.words t (s'.part k) come_a) (same.thread k)
    (subst (λ l. Ends c o k (s.thread k).units s'.words (s.thread k) l come_a) (same.part k) (subst (λ ws. Ends c o k (s.thread k).units ws (s.thread k) (s.part k) come_a) same.words x.ends)) in
    let e = one_end c o k (s'.thread k).units s'.words (s'.thread k) (s'.part k) come_a come_b moved_x y.ends refl refl in
    record {
      words = sym (ap words_of p.saw.words) ∙ ap (λ z. z.words) e ∙ ap words_of q.saw.words;
      thread = λ j. elim (cases_eq j k) [
        | inl here ↦ subst (λ i. a.thread i ≡ b.thread i) (sym here) (ap (λ z. z.standing) e)
        | inr other ↦ (p.others j other).0 ∙ same.thread j ∙ sym (q.others j other).0
      ];
      part = λ j. elim (cases_eq j k) [
        | inl here ↦ subst (λ i. a.part i ≡ b.part i) (sym here) (sym p.saw.part ∙ ap (λ z. z.made) e ∙ q.saw.part)
        | inr other ↦ (p.others j other).1 ∙ same.part j ∙ sym (q.others j other).1
      ];
    }
