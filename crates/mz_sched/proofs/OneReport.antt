-- Code has at most one report: rounds are the same as far as both go, and once each thread has its end no round changes
-- anything.
use Rattle.std.proofs.Common.{◌≡◌, ◌<◌, ◌≤◌, ℕ, zero, suc, List, [], ◌∷◌, length, map, Option, Some, None, option_map, refl, sym, ap, ◌∙◌, subst, inl, inr, ◌⊎◌, slice_get, get_or, arith}
use Rattle.std.proofs.lemmas.Bool.{cases_eq}
use Rattle.std.proofs.lemmas.List.{length-map}
use Rattle.std.proofs.lemmas.Option.{slice_get-map, slice_get-get_or}
use Rattle.mz_tape.specs.Tapes.{TapeView}
use Rattle.mz_tape.specs.declared.entry.Entry.{Entry}
use Rattle.mz_words.specs.declared.code.Code.{Code}
use Rattle.mz_words.specs.declared.options.Options.{Options}
use Rattle.mz_words.specs.declared.ends.End.{End}
use Rattle.mz_words.specs.declared.ends.End.TheVariants.{Memory}
use Rattle.mz_words.specs.declared.stages.Stage.{Stage}
use Rattle.mz_words.specs.declared.stages.Stage.TheVariants.{Over}
use Rattle.mz_words.specs.declared.reports.Report.{Report}
use Rattle.mz_words.specs.Plain.{no_tape}
use Rattle.mz_sched.specs.Schedules.{State, Round, Round_begins, Passed_over, Had_a_turn, Rounds, No_rounds, More_rounds, Begins, TellsState}
use Rattle.mz_thread.specs.Keeping.{IsOver}
use Rattle.mz_sched.specs.Laws.{TellTheSame, OneReport}
use Rattle.mz_sched.proofs.OneTurn.{AreSame, one_turn}

-- ---- states that are the same

is_same : (s : State) → AreSame s s
is_same s = record { words = refl; thread = λ k. refl; part = λ k. refl }

turned_round : (s s' : State) → AreSame s s' → AreSame s' s
turned_round s s' p = record { words = sym p.words; thread = λ k. sym (p.thread k); part = λ k. sym (p.part k) }

both_same : (r s t : State) → AreSame r s → AreSame s t → AreSame r t
both_same r s t p q = record { words = p.words ∙ q.words; thread = λ k. p.thread k ∙ q.thread k; part = λ k. p.part k ∙ q.part k }

over_in : (s s' : State) (k : ℕ) → AreSame s s' → IsOver (s.thread k).stage → IsOver (s'.thread k).stage
over_in s s' k p over = subst IsOver (ap (λ t. t.stage) (p.thread k)) over

-- each thread has its end
abbrev pub AllOver : State → Type 0
AllOver s = (k : ℕ) → k < 64 → IsOver (s.thread k).stage

-- ---- rounds

module _ (c : Code) (o : Options) where
  one_round : (s s' : State) (k : ℕ) (a b : State) → AreSame s s' → Round c o s k a → Round c o s' k b → AreSame a b
  one_round s s' _ _ _ same Round_begins Round_begins = same
  one_round s s' _ _ _ same (Passed_over k a p over) (Passed_over _ b q over') = one_round s s' k a b same p q
  one_round s s' _ _ _ same (Passed_over k a p over) (Had_a_turn _ b b' q going turn) = absurd (going (over_in a b k (one_round s s' k a b same p q) over))
  one_round s s' _ _ _ same (Had_a_turn k a a' p going turn) (Passed_over _ b q over) = absurd (going (over_in b a k (turned_round a b (one_round s s' k a b same p q)) over))
  one_round s s' _ _ _ same (Had_a_turn k a a' p going turn) (Had_a_turn _ b b' q going' turn') = one_turn c o k a b a' b' (one_round s s' k a b same p q) turn turn'

  one_rounds : (s s' : State) (n : ℕ) (a b : State) → AreSame s s' → Rounds c o s n a → Rounds c o s' n b → AreSame a b
  one_rounds s s' _ _ _ same No_rounds No_rounds = same
  one_rounds s s' _ _ _ same (More_rounds n a a' p round) (More_rounds _ b b' q round') = one_round a b 64 a' b' (one_rounds s s' n a b same p q) round round'

  stays_in_round : (s : State) (k : ℕ) (a : State) → AllOver s → k ≤ 64 → Round c o s k a → AreSame s a
  stays_in_round s _ _ over within Round_begins = is_same s
  stays_in_round s _ _ over within (Passed_over k a p passed) = stays_in_round s k a over (omega (arith, within)) p
  stays_in_round s _ _ over within (Had_a_turn k a a' p going turn) = absurd (going (over_in s a k (stays_in_round s k a over (omega (arith, within)) p) (over k (omega (arith, within)))))

  stays : (m : ℕ) (s s' a : State) (n : ℕ) (b : State) → AreSame s s' → Rounds c o s m a → AllOver a → m ≤ n → Rounds c o s' n b → AreSame a b
  stays m s s' a _ _ same p over within No_rounds = one_rounds s s' 0 a s' same (subst (λ i. Rounds c o s i a) (omega (arith, within)) p) No_rounds
  stays m s s' a _ _ same p over within (More_rounds n b b' q round) = elim (cases_eq m (suc n)) [
    | inl here ↦ one_rounds s s' (suc n) a b' same (subst (λ i. Rounds c o s i a) here p) (More_rounds n b b' q round)
    | inr other ↦ (let e = stays m s s' a n b same p over (omega (arith, within, other)) q in both_same a b b' e (stays_in_round b 64 b' (λ k h. over_in a b k e (over k h)) (omega arith) round))
  ]

  one_last : (m n : ℕ) (s s' a b : State) → AreSame s s' → Rounds c o s m a → AllOver a → Rounds c o s' n b → AllOver b → AreSame a b
  one_last m n s s' a b same p over q over' = elim (in_order m n) [
    | inl h ↦ stays m s s' a n b same p over h q
    | inr h ↦ turned_round b a (stays n s' s b m a (turned_round s s' same) q over' h p)
  ]
    where
      in_order : (m n : ℕ) → (m ≤ n) ⊎ (n ≤ m)
      in_order zero n = inl (omega arith)
      in_order (suc m) zero = inr (omega arith)
      in_order (suc m) (suc n) = elim (in_order m n) [
        | inl h ↦ inl (omega (arith, h))
        | inr h ↦ inr (omega (arith, h))
      ]

-- ---- reports

same_by_get : {A : Type 0} (xs ys : List A) → length xs ≡ length ys → ((k : ℕ) → k < length xs → slice_get xs k ≡ slice_get ys k) → xs ≡ ys
same_by_get [] [] e h = refl
same_by_get [] (y ∷ ys) e h = absurd (omega (arith, e))
same_by_get (x ∷ xs) [] e h = absurd (omega (arith, e))
same_by_get {A} (x ∷ xs) (y ∷ ys) e h = ap (λ l. x ∷ l) (same_by_get xs ys (omega (arith, e)) (λ k l. h (suc k) (omega (arith, l)))) ∙ ap (λ z. z ∷ ys) (head_is x (Some y) (h 0 (omega arith)))
  where
    head_or : A → Option A → A
    head_or d None = d
    head_or d (Some a) = a

    head_is : (a : A) (b : Option A) → Some a ≡ b → a ≡ head_or a b
    head_is a b z = ap (head_or a) z

end_of : Stage → End
end_of (Over e) = e
end_of _ = Memory

pub same_end : (e f : End) → Over e ≡ Over f → e ≡ f
unfolding end_of
same_end e f z = ap end_of z

abbrev pub list_of : TapeView → List Entry
list_of tape = tape.list

part_at : (r : Report) (k : ℕ) → k < length r.parts → slice_get (map list_of r.parts) k ≡ Some (get_or r.parts k no_tape).list
part_at r k h = slice_get-map list_of r.parts k ∙ ap (option_map list_of) (slice_get-get_or r.parts k no_tape h)

over_by : (s : State) (r : Report) → TellsState s r → AllOver s
over_by s r p k h = let t = p.threads k h in subst IsOver (sym t.over) tt

same_told : (s s' : State) (r r' : Report) → AreSame s s' → TellsState s r → TellsState s' r' → TellTheSame r r'
same_told s s' r r' same p q = record {
  parts = same_by_get (map list_of r.parts) (map list_of r'.parts)
      (length-map r.parts list_of ∙ p.parts ∙ sym q.parts ∙ sym (length-map r'.parts list_of))
      (λ k h. let few : k < length r.parts = subst (λ n. k < n) (length-map r.parts list_of) h in
      let small : k < 64 = subst (λ n. k < n) p.parts few in
      part_at r k few ∙ ap Some ((p.threads k small).part ∙ same.part k ∙ sym (q.threads k small).part) ∙ sym (part_at r' k (subst (λ n. k < n) (sym q.parts) small)));
  ends = same_by_get r.ends r'.ends (p.ends ∙ sym q.ends)
      (λ k h. let small : k < 64 = subst (λ n. k < n) p.ends h in
      let t = p.threads k small in let u = q.threads k small in
      t.ended ∙ ap Some (same_end t.end u.end (sym t.over ∙ ap (λ z. z.stage) (same.thread k) ∙ u.over)) ∙ sym u.ended);
  lost = same_by_get r.lost r'.lost (p.lost ∙ sym q.lost)
      (λ k h. let small : k < 64 = subst (λ n. k < n) p.lost h in
      (p.threads k small).lost ∙ ap (λ z. Some z.lost) (same.thread k) ∙ sym (q.threads k small).lost);
  words = p.words ∙ same.words ∙ sym q.words;
}

same_first : (c : Code) (o : Options) (s s' : State) → Begins c o s → Begins c o s' → AreSame s s'
same_first c o s s' p q = record { words = p.words ∙ sym q.words; thread = λ k. p.thread k ∙ sym (q.thread k); part = λ k. p.part k ∙ sym (q.part k) }

pub one : OneReport
one c o r r' p q = same_told p.last q.last r r' (one_last c o p.rounds q.rounds p.first q.first p.last q.last (same_first c o p.first q.first p.begins q.begins) p.had (over_by p.last r p.told) q.had (over_by q.last r' q.told)) p.told q.told
