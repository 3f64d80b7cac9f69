-- A turn goes on with a run by events of its thread: each of its answers is true of the words before it.
use Rattle.std.proofs.Common.{◌≡◌, ◌≢◌, ◌<◌, ◌==◌, inl, inr, ℕ, List, [], ◌++◌, length, Option, Some, None, true, false, refl, sym, ap, ◌∙◌, subst, eq-eqb, ne_eqb, append_assoc}
use Rattle.std.proofs.lemmas.Bool.{cases_eq}
use Rattle.std.proofs.lemmas.List.{get_or-set_same, get_or-set_other}
use Rattle.mz_tape.specs.declared.entry.Entry.{Entry}
use Rattle.mz_words.specs.declared.words.Note.{Note}
use Rattle.mz_words.specs.declared.code.Code.{Code}
use Rattle.mz_words.specs.declared.options.Options.{Options}
use Rattle.mz_words.specs.declared.asks.Ask.{Ask}
use Rattle.mz_words.specs.declared.asks.Ask.TheVariants.{Local, Frames, Looks, Starts, Loads, Adds, Stores, Tries, Prints, Stops, Leaves, Nothing}
use Rattle.mz_words.specs.declared.asks.Answer.{Answer}
use Rattle.mz_words.specs.declared.asks.Answer.TheVariants.{Saw, Quiet, Missed, Refused}
use Rattle.mz_words.specs.Standing.{Standing}
use Rattle.mz_words.specs.Steps.{ask, take_step}
use Rattle.mz_words.specs.Answers.{May, Agrees, Move, move_of, moved, word_then, word_after}
use Rattle.mz_words.specs.Raw.{Raw, Events, No_events, More_events}
use Rattle.mz_words.specs.Replays.{entries, entry_of}
use Rattle.mz_words.specs.Histories.{history}
use Rattle.mz_words.specs.Interleavings.{part_of, words_after, IsNoted}
use Rattle.mz_words.specs.Views.{WordsView, word_in, words_with, told_with}
use Rattle.mz_words.specs.Turns.{Leads_nowhere, Leads_on, IsTold, IsDecided, IsPlaced, stepped, tried_at, missed_at, answered}
use Rattle.mz_words.specs.Laws.{Tells, IsSeen, TurnsAreEvents}
use Rattle.mz_words.proofs.Events.{next_raw, next_event, if_is, agrees_on, words_same, nil_right}
use Rattle.mz_words.proofs.Replaying.{mine_more, other_more}
use Rattle.mz_words.proofs.Joining.{interleaves}

-- ---- the words that are told

-- a step changes the words of a list as it changes the word at each place
same_after : (m : Move) (ws : List ℕ) → m.place < length ws → (q : ℕ) → word_then (Some m) (word_in ws) q ≡ word_in (words_with m ws) q
same_after m ws h q = elim (cases_eq m.place q) [
  | inl e ↦ if_is (m.place == q) true (eq-eqb m.place q e) (word_after m.kind m.value (word_in ws q)) (word_in ws q)
      ∙ ap (λ p. word_after m.kind m.value (word_in ws p)) (sym e) ∙ sym (get_or-set_same ws m.place (word_after m.kind m.value (word_in ws m.place)) 0 h) ∙ ap (λ p. word_in (words_with m ws) p) e
  | inr n ↦ if_is (m.place == q) false (ne_eqb m.place q n) (word_after m.kind m.value (word_in ws q)) (word_in ws q) ∙ sym (get_or-set_other ws m.place q (word_after m.kind m.value (word_in ws m.place)) 0 (λ z. n (sym z)))
]

tells_step : (w : WordsView) (ws : List ℕ) (m : Option Move) (n : ℕ) (f : ℕ → ℕ) → w.told ≡ Some ws → IsPlaced m (length ws) → ((q : ℕ) → f q ≡ word_in ws q) → Tells (word_then m f) (stepped w m n).told
tells_step w ws None n f e h s = record { words = ws; are = e; same = s }
tells_step w ws (Some m) n f e h s = record { words = words_with m ws; are = ap (λ (x : Option (List ℕ)). told_with m x) e; same = λ q. words_same (Some m) (word_in ws) f s q ∙ same_after m ws h q }

pub missed_told : (p : Option ℕ) (w : WordsView) → (missed_at p w).told ≡ w.told
missed_told None w = refl
missed_told (Some p) w = refl

tells_next : (a : Ask) (answer : Answer) (w : WordsView) (ws : List ℕ) (f : ℕ → ℕ) → w.told ≡ Some ws → IsTold a answer (Some ws) → ((q : ℕ) → f q ≡ word_in ws q) → Tells (word_then (moved a answer) f) (answered a answer w).told
tells_next a (Saw n) w ws f e t s = tells_step w ws (move_of a) n f e t.2 s
tells_next a Quiet w ws f e t s = record { words = ws; are = e; same = s }
tells_next a Missed w ws f e t s = record { words = ws; are = missed_told (tried_at a) w ∙ e; same = s }
tells_next a Refused w ws f e t s = record { words = ws; are = e; same = s }

-- ---- the actor and its part

stepped_actor : (m : Option Move) (n : ℕ) (w : WordsView) → (stepped w m n).actor ≡ w.actor
stepped_actor None n w = refl
stepped_actor (Some m) n w = refl

missed_actor : (p : Option ℕ) (w : WordsView) → (missed_at p w).actor ≡ w.actor
missed_actor None w = refl
missed_actor (Some p) w = refl

pub actor_next : (a : Ask) (answer : Answer) (w : WordsView) → (answered a answer w).actor ≡ w.actor
actor_next a (Saw n) w = stepped_actor (move_of a) n w
actor_next a Quiet w = refl
actor_next a Missed w = missed_actor (tried_at a) w
actor_next a Refused w = refl

stepped_part : (m : Option Move) (n : ℕ) (w : WordsView) → (stepped w m n).part ≡ w.part ++ entry_of w.actor m n
stepped_part None n w = sym (nil_right w.part)
stepped_part (Some m) n w = refl

missed_part : (p : Option ℕ) (w : WordsView) → (missed_at p w).part ≡ w.part
missed_part None w = refl
missed_part (Some p) w = refl

pub part_next : (a : Ask) (answer : Answer) (w : WordsView) → (answered a answer w).part ≡ w.part ++ entries w.actor a answer
part_next a (Saw n) w = stepped_part (move_of a) n w
part_next a Quiet w = sym (nil_right w.part)
part_next a Missed w = missed_part (tried_at a) w ∙ sym (nil_right w.part)
part_next a Refused w = sym (nil_right w.part)

-- ---- the last failed try

pub noted_more : (first : ℕ → ℕ) (h es : List Entry) (k : ℕ) (note : Note) → IsNoted first h k note → IsNoted first (h ++ es) k note
noted_more first h es k note n = record {
  front = n.front;
  after = n.after ++ es;
  cut = ap (λ (l : List Entry). l ++ es) n.cut ∙ append_assoc n.front n.after es;
  made = n.made;
  held = n.held;
}

stepped_note : (m : Option Move) (n : ℕ) (w : WordsView) → (stepped w m n).note ≡ w.note
stepped_note None n w = refl
stepped_note (Some m) n w = refl

some_note : {m n : Note} → Some m ≡ Some n → m ≡ n
some_note q = cc

-- where a try fails, the word that it tried isn't 0 behind all entries so far
module _ (first : ℕ → ℕ) (h : List Entry) (k : ℕ) (w : WordsView) (ws : List ℕ) (mine : w.part ≡ part_of k h) (closing : (p : ℕ) → words_after first h p ≡ word_in ws p)
    (before : (note : Note) → w.note ≡ Some note → IsNoted first h k note) where
  noted_try : (p : ℕ) → word_in ws p ≢ 0 → IsNoted first h k (record { place = p; made = length w.part })
  noted_try p held = record {
    front = h;
    after = [];
    cut = sym (nil_right h);
    made = ap (λ (l : List Entry). length l) (sym mine);
    held = λ z. held (sym (closing p) ∙ z);
  }

  noted_missed : (a : Ask) → IsDecided a Missed (word_in ws) → (note : Note) → (missed_at (tried_at a) w).note ≡ Some note → IsNoted first h k note
  noted_missed (Tries p) d note e = subst (λ (x : Note). IsNoted first h k x) (some_note e) (noted_try p d)
  noted_missed Local d note e = before note e
  noted_missed (Frames n) d note e = before note e
  noted_missed (Looks p until) d note e = before note e
  noted_missed (Starts p) d note e = before note e
  noted_missed (Loads p) d note e = before note e
  noted_missed (Adds p v) d note e = before note e
  noted_missed (Stores p v) d note e = before note e
  noted_missed (Prints v) d note e = before note e
  noted_missed Stops d note e = before note e
  noted_missed Leaves d note e = before note e
  noted_missed Nothing d note e = before note e

  noted_next : (a : Ask) (answer : Answer) → IsDecided a answer (word_in ws) → (note : Note) → (answered a answer w).note ≡ Some note → IsNoted first (h ++ entries k a answer) k note
  noted_next a (Saw n) d note e = noted_more first h (entries k a (Saw n)) k note (before note (sym (stepped_note (move_of a) n w) ∙ e))
  noted_next a Quiet d note e = noted_more first h [] k note (before note e)
  noted_next a Missed d note e = noted_more first h [] k note (noted_missed a d note e)
  noted_next a Refused d note e = noted_more first h [] k note (before note e)

-- ---- events

seen_next : (c : Code) (o : Options) (first s : Raw) (es : Events c o first s) (k : ℕ) (answer : Answer) (number : k < 64) (may : May (ask c o k (s.thread k)) answer) (agrees : Agrees (ask c o k (s.thread k)) answer s.word)
    (w : WordsView) (spare : ℕ) → IsSeen c o first s es k w → IsTold (ask c o k (s.thread k)) answer w.told
    → IsSeen c o first (next_raw c o s k answer) (More_events s (next_raw c o s k answer) k answer es (next_event c o s k answer number may agrees)) k (record (answered (ask c o k (s.thread k)) answer w) { spare = spare })
seen_next c o first s es k answer number may agrees w spare seen told =
    let a = ask c o k (s.thread k) in
    let ws = seen.told.words in
    let told' : IsTold a answer (Some ws) = subst (λ (x : Option (List ℕ)). IsTold a answer x) seen.told.are told in
    record {
      actor = actor_next a answer w ∙ seen.actor;
      part = part_next a answer w ∙ ap (λ x. w.part ++ entries x a answer) seen.actor ∙ ap (λ (l : List Entry). l ++ entries k a answer) seen.part ∙ sym (mine_more k (history es) a answer);
      noted = noted_next first.word (history es) k w ws seen.part (λ p. (interleaves c o first s es).closing p ∙ seen.told.same p) seen.noted a answer told'.1;
      told = tells_next a answer w ws s.word seen.told.are told' seen.told.same;
    }

pub turns : TurnsAreEvents
turns c o k from first mid events w _ _ _ number seen Leads_nowhere = (mid, record { turn = No_events; by = tt; all = events; made = []; made_is = refl; more = sym (nil_right (history events)); seen = seen; mine = refl; others = λ j d. refl; parts = λ j d. refl })
turns c o k from first mid events w _ _ _ number seen (Leads_on u t answer spare l may told) =
    let z = turns c o k from first mid events w u t false number seen l in
    let run = z.1 in
    let s = z.0 in
    let a = ask c o k (s.thread k) in
    let may' = subst (λ (x : Standing). May (ask c o k x) answer) (sym run.mine) may in
    let told' = subst (λ (x : Standing). IsTold (ask c o k x) answer u.told) (sym run.mine) told in
    let told2 : IsTold a answer (Some run.seen.told.words) = subst (λ (x : Option (List ℕ)). IsTold a answer x) run.seen.told.are told' in
    let agrees' = agrees_on a answer (word_in run.seen.told.words) s.word run.seen.told.same told2.0 in (
      next_raw c o s k answer,
      record {
        turn = More_events s (next_raw c o s k answer) k answer run.turn (next_event c o s k answer number may' agrees');
        by = (run.by, refl);
        all = More_events s (next_raw c o s k answer) k answer run.all (next_event c o s k answer number may' agrees');
        made = run.made ++ entries k a answer;
        made_is = ap (λ (l : List Entry). l ++ entries k a answer) run.made_is;
        more = ap (λ (l : List Entry). l ++ entries k a answer) run.more ∙ append_assoc (history events) run.made (entries k a answer);
        seen = subst (λ (x : Standing). IsSeen c o first (next_raw c o s k answer) (More_events s (next_raw c o s k answer) k answer run.all (next_event c o s k answer number may' agrees')) k (record (answered (ask c o k x) answer u) { spare = spare }))
            run.mine (seen_next c o first s run.all k answer number may' agrees' u spare run.seen told');
        mine = if_is (k == k) true (eq-eqb k k refl) (take_step c o k (s.thread k) answer) (s.thread k) ∙ ap (λ (x : Standing). take_step c o k x answer) run.mine;
        others = λ j d. if_is (j == k) false (ne_eqb j k d) (take_step c o k (s.thread k) answer) (s.thread j) ∙ run.others j d;
        parts = λ j d. other_more j k (λ z. d (sym z)) (history run.all) a answer ∙ run.parts j d;
      },
    )
