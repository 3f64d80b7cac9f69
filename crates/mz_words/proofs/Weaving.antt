-- Records that interleave are one run: each thread's silent events go directly before its next entry, or last where it has
-- no more.
use Rattle.std.proofs.Common.{◌≡◌, ◌≢◌, ◌<◌, ◌≤◌, ◌==◌, inl, inr, ℕ, zero, suc, List, [], ◌∷◌, ◌++◌, Option, Some, None, true, false, refl, sym, ap, ◌∙◌, subst, eq-eqb, ne_eqb, append_assoc, arith}
use Rattle.std.proofs.lemmas.Bool.{cases_eq}
use Rattle.mz_tape.specs.declared.entry.Entry.{Entry}
use Rattle.mz_words.specs.declared.words.Note.{Note}
use Rattle.mz_words.specs.declared.code.Code.{Code}
use Rattle.mz_words.specs.declared.options.Options.{Options}
use Rattle.mz_words.specs.declared.asks.Ask.{Ask}
use Rattle.mz_words.specs.declared.asks.Answer.{Answer}
use Rattle.mz_words.specs.declared.asks.Answer.TheVariants.{Saw, Quiet, Missed, Refused}
use Rattle.mz_words.specs.Standing.{Standing}
use Rattle.mz_words.specs.Steps.{ask, take_step, opening}
use Rattle.mz_words.specs.Answers.{May, Agrees, Move, moved, move_of, AgreesBy, HasSeen, word_then}
use Rattle.mz_words.specs.Raw.{Raw, Events, No_events, More_events}
use Rattle.mz_words.specs.Replays.{Follows, Follows_start, Follows_on, entries, entry_of}
use Rattle.mz_words.specs.Histories.{history}
use Rattle.mz_words.specs.Interleavings.{part_of, step_of, FewActors, AllAgree, words_after, IsNoted}
use Rattle.mz_words.specs.Laws.{RecordsAreRuns}
use Rattle.mz_words.proofs.Events.{next_raw, next_event, if_is, words_same, after, made_after, nil_right}

module _ (c : Code) (o : Options) where
  -- a replay from where a thread stands: what is left of its record, and where that leads
  pub data Rest (k : ℕ) (t2 : Standing) : Standing → List Entry → Type 0 where
    rest_none : Rest k t2 t2 []
    rest_step : (t : Standing) (answer : Answer) (part whole : List Entry) → May (ask c o k t) answer → whole ≡ entries k (ask c o k t) answer ++ part → Rest k t2 (take_step c o k t answer) part → Rest k t2 t whole

  -- one more event at the end
  rest_more : (k : ℕ) (t1 t : Standing) (part : List Entry) (answer : Answer) → Rest k t1 t part → May (ask c o k t1) answer → Rest k (take_step c o k t1 answer) t (part ++ entries k (ask c o k t1) answer)
  rest_more k t1 _ _ answer rest_none m = rest_step t1 answer [] (entries k (ask c o k t1) answer) m (sym (nil_right (entries k (ask c o k t1) answer))) rest_none
  rest_more k t1 _ _ answer (rest_step t next part whole m e r) n =
      rest_step t next (part ++ entries k (ask c o k t1) answer) (whole ++ entries k (ask c o k t1) answer) m
      (ap (λ (l : List Entry). l ++ entries k (ask c o k t1) answer) e ∙ append_assoc (entries k (ask c o k t) next) part (entries k (ask c o k t1) answer)) (rest_more k t1 (take_step c o k t next) part answer r n)

  pub rest_of : (k : ℕ) (part : List Entry) (t : Standing) → Follows c o k part t → Rest k t opening part
  rest_of k _ _ Follows_start = rest_none
  rest_of k _ _ (Follows_on part t answer f m) = rest_more k t opening part answer (rest_of k part t f) m

  -- events of thread k without an entry
  pub data Silent (k : ℕ) (u : Standing) : Standing → Type 0 where
    silent_none : Silent k u u
    silent_one : (t : Standing) (answer : Answer) → May (ask c o k t) answer → moved (ask c o k t) answer ≡ None → Silent k u (take_step c o k t answer) → Silent k u t

  -- the silent events before an entry, the event that makes it, and what is left
  pub record Split (k : ℕ) (t2 t : Standing) (e : Entry) (part : List Entry) : Type 0 where
    pub u : Standing
    pub silent : Silent k u t
    pub n : ℕ
    pub m : Move
    pub may : May (ask c o k u) (Saw n)
    pub moves : move_of (ask c o k u) ≡ Some m
    pub is : record { actor = k; place = m.place; kind = m.kind; value = m.value; seen = n } ≡ e
    pub left : Rest k t2 (take_step c o k u (Saw n)) part

  cons_inj : {e f : Entry} {es fs : List Entry} → e ∷ es ≡ f ∷ fs → (e ≡ f) × (es ≡ fs)
  cons_inj q = (cc, cc)

  nil_cons : {f : Entry} {fs : List Entry} → [] ≡ f ∷ fs → ⊥
  nil_cons q = absurd (cc)

  before : (k : ℕ) (t2 t : Standing) (answer : Answer) (e : Entry) (part : List Entry) → May (ask c o k t) answer → moved (ask c o k t) answer ≡ None → Split k t2 (take_step c o k t answer) e part → Split k t2 t e part
  before k t2 t answer e part m none s = record { u = s.u; silent = silent_one t answer m none s.silent; n = s.n; m = s.m; may = s.may; moves = s.moves; is = s.is; left = s.left }

  pub split : (k : ℕ) (t2 t : Standing) (whole : List Entry) → Rest k t2 t whole → (e : Entry) (part : List Entry) → whole ≡ e ∷ part → Split k t2 t e part
  split k t2 _ _ rest_none e part q = absurd (nil_cons q)
  split k t2 _ _ (rest_step t Quiet part2 whole m h r) e part q = before k t2 t Quiet e part m refl (split k t2 (take_step c o k t Quiet) part2 r e part (sym h ∙ q))
  split k t2 _ _ (rest_step t Missed part2 whole m h r) e part q = before k t2 t Missed e part m refl (split k t2 (take_step c o k t Missed) part2 r e part (sym h ∙ q))
  split k t2 _ _ (rest_step t Refused part2 whole m h r) e part q = before k t2 t Refused e part m refl (split k t2 (take_step c o k t Refused) part2 r e part (sym h ∙ q))
  split k t2 _ _ (rest_step t (Saw n) part2 whole m h r) e part q = by_move (move_of (ask c o k t)) refl (split k t2 (take_step c o k t (Saw n)) part2 r)
    where
      by_move : (x : Option Move) → move_of (ask c o k t) ≡ x → ((e : Entry) (part : List Entry) → part2 ≡ e ∷ part → Split k t2 (take_step c o k t (Saw n)) e part) → Split k t2 t e part
      by_move None z rec = before k t2 t (Saw n) e part m z (rec e part (sym (ap (λ (y : Option Move). entry_of k y n ++ part2) z) ∙ sym h ∙ q))
      by_move (Some v) z rec =
          let w = cons_inj (sym (ap (λ (y : Option Move). entry_of k y n ++ part2) z) ∙ sym h ∙ q) in
          record { u = t; silent = silent_none; n = n; m = v; may = m; moves = z; is = w.0; left = subst (λ (l : List Entry). Rest k t2 (take_step c o k t (Saw n)) l) w.1 r }

  -- where a list of events of thread k leads
  pub record Went (first : Raw) (k : ℕ) (f : ℕ → ℕ) (t : Standing) : Type 0 where
    pub state : Raw
    pub events : Events c o first state
    pub made : history events ≡ []
    pub words : (q : ℕ) → state.word q ≡ f q
    pub mine : state.thread k ≡ t
    pub others : (j : ℕ) → j ≢ k → state.thread j ≡ first.thread j

  silent_agrees : (a : Ask) (answer : Answer) (f : ℕ → ℕ) → moved a answer ≡ None → Agrees a answer f
  silent_agrees a (Saw n) f e = subst (λ (x : Option Move). AgreesBy x n f) (sym e) tt
  silent_agrees a Quiet f e = tt
  silent_agrees a Missed f e = tt
  silent_agrees a Refused f e = tt

  silent_entries : (k : ℕ) (a : Ask) (answer : Answer) → moved a answer ≡ None → entries k a answer ≡ []
  silent_entries k a (Saw n) e = ap (λ (x : Option Move). entry_of k x n) e
  silent_entries k a Quiet e = refl
  silent_entries k a Missed e = refl
  silent_entries k a Refused e = refl

  pub go_silent : (k : ℕ) → k < 64 → (u : Standing) (s : Raw) (t : Standing) → Silent k u t → s.thread k ≡ t → Went s k s.word u
  go_silent k number u s _ silent_none e = record { state = s; events = No_events; made = refl; words = λ q. refl; mine = e; others = λ j d. refl }
  go_silent k number u s _ (silent_one t answer m none r) e =
      let m' = subst (λ (x : Standing). May (ask c o k x) answer) (sym e) m in
      let none' = subst (λ (x : Standing). moved (ask c o k x) answer ≡ None) (sym e) none in
      let s1 = next_raw c o s k answer in
      let one : Events c o s s1 = More_events s s1 k answer No_events (next_event c o s k answer number m' (silent_agrees (ask c o k (s.thread k)) answer s.word none')) in
      let z = go_silent k number u s1 (take_step c o k t answer) r (if_is (k == k) true (eq-eqb k k refl) (take_step c o k (s.thread k) answer) (s.thread k) ∙ ap (λ (x : Standing). take_step c o k x answer) e) in
      record {
        state = z.state;
        events = after one z.events;
        made = made_after one z.events ∙ ap (λ (l : List Entry). l ++ history z.events) (silent_entries k (ask c o k (s.thread k)) answer none') ∙ z.made;
        words = λ q. z.words q ∙ ap (λ (x : Option Move). word_then x s.word q) none';
        mine = z.mine;
        others = λ j d. z.others j d ∙ if_is (j == k) false (ne_eqb j k d) (take_step c o k (s.thread k) answer) (s.thread j);
      }

  pub all_on : (f g : ℕ → ℕ) (es : List Entry) → ((q : ℕ) → g q ≡ f q) → AllAgree f es → AllAgree g es
  all_on f g [] h a = tt
  all_on f g (e ∷ es) h a = (a.0, subst (λ x. HasSeen e.kind e.seen x) (sym (h e.place)) a.1, all_on (word_then (Some (step_of e)) f) (word_then (Some (step_of e)) g) es (words_same (Some (step_of e)) f g h) a.2)

  pub after_same : (f g : ℕ → ℕ) (es : List Entry) → ((q : ℕ) → g q ≡ f q) → (q : ℕ) → words_after g es q ≡ words_after f es q
  after_same f g [] h q = h q
  after_same f g (e ∷ es) h q = after_same (word_then (Some (step_of e)) f) (word_then (Some (step_of e)) g) es (words_same (Some (step_of e)) f g h) q

  pub noted_on : (f g : ℕ → ℕ) (h : List Entry) (k : ℕ) (note : Note) → ((q : ℕ) → g q ≡ f q) → IsNoted f h k note → IsNoted g h k note
  noted_on f g h k note same n = record {
    front = n.front;
    after = n.after;
    cut = n.cut;
    made = n.made;
    held = λ z. n.held (sym (after_same f g n.front same note.place) ∙ z);
  }

  -- the records of all threads, woven by one list
  pub record Woven (first : Raw) (h : List Entry) (ends : ℕ → Standing) (word : ℕ → ℕ) : Type 0 where
    pub state : Raw
    pub events : Events c o first state
    pub made : history events ≡ h
    pub words : (q : ℕ) → state.word q ≡ word q
    pub rests : (k : ℕ) → Rest k (ends k) (state.thread k) []

  -- what is left of thread j after an entry of thread k
  next_rest : (k : ℕ) (u : Standing) (n : ℕ) (s1 s : Raw) (j : ℕ) (end : Standing) (h : List Entry) (e : Entry) → e.actor ≡ k → s1.thread k ≡ u → (j ≢ k → s1.thread j ≡ s.thread j) → Rest j end (s.thread j) (part_of j (e ∷ h))
      → (j ≡ k → Rest j end (take_step c o j u (Saw n)) (part_of j h)) → Rest j end ((next_raw c o s1 k (Saw n)).thread j) (part_of j h)
  next_rest k u n s1 s j end h e actor mine others rest left = elim (cases_eq j k) [
    | inl q ↦ subst (λ (x : Standing). Rest j end x (part_of j h))
        (sym (if_is (j == k) true (eq-eqb j k q) (take_step c o k (s1.thread k) (Saw n)) (s1.thread j) ∙ ap (λ (x : Standing). take_step c o k x (Saw n)) mine ∙ ap (λ x. take_step c o x u (Saw n)) (sym q))) (left q)
    | inr q ↦ subst (λ (x : Standing). Rest j end x (part_of j h)) (sym (if_is (j == k) false (ne_eqb j k q) (take_step c o k (s1.thread k) (Saw n)) (s1.thread j) ∙ others q))
        (subst (λ (l : List Entry). Rest j end (s.thread j) l) (if_is (e.actor == j) false (ne_eqb e.actor j (λ z. q (sym z ∙ actor))) (e ∷ part_of j h) (part_of j h)) rest)
  ]

  -- the state behind an entry: the silent events of its thread, and the event that makes it
  pub record Made (first : Raw) (ends : ℕ → Standing) (e : Entry) (h : List Entry) : Type 0 where
    pub state : Raw
    pub events : Events c o first state
    pub made : history events ≡ e ∷ []
    pub words : (q : ℕ) → state.word q ≡ word_then (Some (step_of e)) first.word q
    pub rests : (k : ℕ) → Rest k (ends k) (state.thread k) (part_of k h)

  make : (e : Entry) (h : List Entry) (s : Raw) (ends : ℕ → Standing) → ((k : ℕ) → Rest k (ends k) (s.thread k) (part_of k (e ∷ h))) → e.actor < 64 → HasSeen e.kind e.seen (s.word e.place) → Made s ends e h
  make e h s ends rests number sees =
      let k = e.actor in
      let sp = split k (ends k) (s.thread k) (part_of k (e ∷ h)) (rests k) e (part_of k h) (if_is (k == k) true (eq-eqb k k refl) (e ∷ part_of k h) (part_of k h)) in
      let z = go_silent k number sp.u s (s.thread k) sp.silent refl in
      let may = subst (λ (x : Standing). May (ask c o k x) (Saw sp.n)) (sym z.mine) sp.may in
      let moves = ap (λ (x : Standing). move_of (ask c o k x)) z.mine ∙ sp.moves in
      let seen = subst (λ x. HasSeen sp.m.kind sp.n x) (sym (z.words sp.m.place)) (subst (λ (x : Entry). HasSeen x.kind x.seen (s.word x.place)) (sym sp.is) sees) in
      let event = next_event c o z.state k (Saw sp.n) number may (subst (λ (x : Option Move). AgreesBy x sp.n z.state.word) (sym moves) seen) in
      record {
        state = next_raw c o z.state k (Saw sp.n);
        events = More_events z.state (next_raw c o z.state k (Saw sp.n)) k (Saw sp.n) z.events event;
        made = ap (λ (l : List Entry). l ++ entries k (ask c o k (z.state.thread k)) (Saw sp.n)) z.made ∙ ap (λ (x : Option Move). entry_of k x sp.n) moves ∙ ap (λ (x : Entry). x ∷ []) sp.is;
        words = λ q. ap (λ (x : Option Move). word_then x z.state.word q) moves ∙ words_same (Some sp.m) s.word z.state.word z.words q ∙ ap (λ (x : Entry). word_then (Some (step_of x)) s.word q) sp.is;
        rests = λ j. next_rest k sp.u sp.n z.state s j (ends j) h e refl z.mine (λ d. z.others j d) (rests j) (λ q. subst (λ x. Rest x (ends x) (take_step c o x sp.u (Saw sp.n)) (part_of x h)) (sym q) sp.left);
      }

  pub weave : (h : List Entry) (s : Raw) (ends : ℕ → Standing) → ((k : ℕ) → Rest k (ends k) (s.thread k) (part_of k h)) → FewActors h → AllAgree s.word h → Woven s h ends (words_after s.word h)
  weave [] s ends rests few a = record { state = s; events = No_events; made = refl; words = λ q. refl; rests = rests }
  weave (e ∷ h) s ends rests few a =
      let m : Made s ends e h = make e h s ends rests few.0 a.1 in
      let w : Woven m.state h ends (words_after m.state.word h) = weave h m.state ends m.rests few.1 (all_on (word_then (Some (step_of e)) s.word) m.state.word h m.words a.2) in
      record {
        state = w.state;
        events = after m.events w.events;
        made = made_after m.events w.events ∙ ap (λ (l : List Entry). l ++ history w.events) m.made ∙ ap (λ (l : List Entry). e ∷ l) w.made;
        words = λ q. w.words q ∙ after_same (word_then (Some (step_of e)) s.word) m.state.word h m.words q;
        rests = w.rests;
      }

  no_entry : (k : ℕ) (a : Ask) (answer : Answer) (part : List Entry) → [] ≡ entries k a answer ++ part → (moved a answer ≡ None) × ([] ≡ part)
  no_entry k a Quiet part e = (refl, e)
  no_entry k a Missed part e = (refl, e)
  no_entry k a Refused part e = (refl, e)
  no_entry k a (Saw n) part e = by_move (move_of a) refl
    where
      by_move : (x : Option Move) → move_of a ≡ x → (move_of a ≡ None) × ([] ≡ part)
      by_move None z = (z, e ∙ ap (λ (y : Option Move). entry_of k y n ++ part) z)
      by_move (Some v) z = absurd (nil_cons (e ∙ ap (λ (y : Option Move). entry_of k y n ++ part) z))

  silent_of : (k : ℕ) (t2 t : Standing) (whole : List Entry) → Rest k t2 t whole → [] ≡ whole → Silent k t2 t
  silent_of k t2 _ _ rest_none q = silent_none
  silent_of k t2 _ _ (rest_step t answer part whole m h r) q =
      let z = no_entry k (ask c o k t) answer part (q ∙ h) in
      silent_one t answer m z.0 (silent_of k t2 (take_step c o k t answer) part r z.1)

  -- the last silent events of the threads below n
  pub record Ended (first : Raw) (ends : ℕ → Standing) (n : ℕ) : Type 0 where
    pub state : Raw
    pub events : Events c o first state
    pub made : history events ≡ []
    pub words : (q : ℕ) → state.word q ≡ first.word q
    pub ended : (k : ℕ) → k < n → state.thread k ≡ ends k
    pub rests : (k : ℕ) → n ≤ k → Rest k (ends k) (state.thread k) []

  pub end_all : (s : Raw) (ends : ℕ → Standing) → ((k : ℕ) → Rest k (ends k) (s.thread k) []) → (n : ℕ) → n ≤ 64 → Ended s ends n
  end_all s ends rests zero l = record { state = s; events = No_events; made = refl; words = λ q. refl; ended = λ k h. absurd (omega (arith, h)); rests = λ k h. rests k }
  end_all s ends rests (suc n) l =
      let z = end_all s ends rests n (omega (arith, l)) in
      let w = go_silent n (omega (arith, l)) (ends n) z.state (z.state.thread n) (silent_of n (ends n) (z.state.thread n) [] (z.rests n (omega arith)) refl) refl in
      record {
        state = w.state;
        events = after z.events w.events;
        made = made_after z.events w.events ∙ ap (λ (l : List Entry). l ++ history w.events) z.made ∙ w.made;
        words = λ q. w.words q ∙ z.words q;
        ended = λ k h. elim (cases_eq k n) [
          | inl q ↦ subst (λ x. w.state.thread x ≡ ends x) (sym q) w.mine
          | inr q ↦ w.others k q ∙ z.ended k (omega (arith, h, q))
        ];
        rests = λ k h. subst (λ (x : Standing). Rest k (ends k) x []) (sym (w.others k (λ q. omega (arith, h, q)))) (z.rests k (omega (arith, h)));
      }

pub woven : RecordsAreRuns
woven c o s h parts notes word ends opens q follows =
    let rests : (k : ℕ) → Rest c o k (ends k) (s.thread k) (part_of k h) = λ k. subst (λ (x : Standing). Rest c o k (ends k) x (part_of k h)) (sym (opens.thread k))
    (rest_of c o k (part_of k h) (ends k) (subst (λ (l : List Entry). Follows c o k l (ends k)) (sym (q.each_part k)) (follows k))) in
    let z = weave c o h s ends rests q.actors q.agree in
    let w = end_all c o z.state ends z.rests 64 (omega arith) in
    (w.state, record { events = after z.events w.events; made = made_after z.events w.events ∙ ap (λ (l : List Entry). l ++ history w.events) z.made ∙ ap (λ (l : List Entry). h ++ l) w.made ∙ nil_right h; ended = w.ended; words = λ p. w.words p ∙ z.words p ∙ q.closing p })
