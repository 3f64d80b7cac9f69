-- The prints of records that interleave are those of the whole list: as many of each kind, and no others.
use Rattle.std.proofs.Common.{◌≡◌, ◌≢◌, ◌<◌, ◌≤◌, ◌==◌, ◌+◌, ℕ, zero, suc, inl, inr, List, [], ◌∷◌, ◌++◌, length, map, get_or, Bool, true, false, cond, if◌then◌else◌, refl, sym, ap, ◌∙◌, subst, eq-eqb, ne_eqb, arith}
use Rattle.std.specs.Prelude.{All, count_by}
use Rattle.std.proofs.lemmas.Bool.{cases_eq}
use Rattle.std.proofs.lemmas.List.{length-map}
use Rattle.std.proofs.lemmas.List.Elements.{All-nil, All-cons, All-head, All-tail, All-append, filter-append}
use Rattle.std.proofs.lemmas.List.Sums.{sum_by-append}
use Rattle.mz_tape.specs.Tapes.{TapeView}
use Rattle.mz_tape.specs.declared.entry.Entry.{Entry}
use Rattle.mz_words.specs.Interleavings.{part_of, FewActors}
use Rattle.mz_words.specs.Plain.{no_tape}
use Rattle.mz_words.specs.Tickets.{is_print, prints_among}
use Rattle.mz_print.specs.Prints.{all_entries, prints_in}
use Rattle.mz_print.specs.Laws.{ReportsPrintInOrder}
use Rattle.mz_print.proofs.Placing.{StandsIn}
use Rattle.mz_print.proofs.Counting.{count_up, one_each, all_below, all_stand}

pub prints-append : (es fs : List Entry) → prints_among (es ++ fs) ≡ prints_among es ++ prints_among fs
prints-append es fs = filter-append (λ (e : Entry). is_print e.kind) es fs

-- ---- what holds of each print of the list holds of each print of a part

module _ (P : Entry → Type 0) where
  tail_of : (b : Bool) (e : Entry) (es : List Entry) → All P (cond b (e ∷ es) es) → All P es
  tail_of true e es a = All-tail P e es a
  tail_of false e es a = a

  onto : (b : Bool) (e : Entry) (es fs : List Entry) → All P (cond b (e ∷ es) es) → All P fs → All P (cond b (e ∷ fs) fs)
  onto true e es fs a q = All-cons P e fs (All-head P e es a) q
  onto false e es fs a q = q

  chosen : (b : Bool) (e : Entry) (h part : List Entry) → All P (prints_among (e ∷ h)) → All P (prints_among part) → All P (prints_among (if b then e ∷ part else part))
  chosen true e h part a q = onto (is_print e.kind) e (prints_among h) (prints_among part) a q
  chosen false e h part a q = q

  all_part : (h : List Entry) (k : ℕ) → All P (prints_among h) → All P (prints_among (part_of k h))
  all_part [] k a = a
  all_part (e ∷ h) k a = chosen (e.actor == k) e h (part_of k h) a (all_part h k (tail_of (is_print e.kind) e (prints_among h) a))

  all_parts : (parts : List TapeView) → ((k : ℕ) → All P (prints_among (get_or parts k no_tape).list)) → All P (prints_among (all_entries parts))
  all_parts [] each = All-nil P
  all_parts (part ∷ parts) each = subst (All P) (sym (prints-append part.list (all_entries parts)))
      (All-append P (prints_among part.list) (prints_among (all_entries parts)) (each 0) (all_parts parts (λ k. each (suc k))))

-- ---- the parts have together as many prints of a kind as the list

module _ (test : Entry → Bool) where
  abbrev pub count : List Entry → ℕ
  count es = count_by test (prints_among es)

  count-append : (es fs : List Entry) → count (es ++ fs) ≡ count es + count fs
  count-append es fs = ap (count_by test) (prints-append es fs) ∙ sum_by-append (λ (e : Entry). cond (test e) 1 0) (prints_among es) (prints_among fs)

  -- of the parts below n
  abbrev pub total : (ℕ → List Entry) → ℕ → ℕ
  total parts zero = 0
  total parts (suc n) = total parts n + count (parts n)

  total_from : (parts : ℕ → List Entry) (n : ℕ) → total parts (suc n) ≡ count (parts 0) + total (λ k. parts (suc k)) n
  total_from parts zero = omega arith
  total_from parts (suc n) = ap (λ m. m + count (parts (suc n))) (total_from parts n) ∙ omega arith

  count_all : (parts : List TapeView) → count (all_entries parts) ≡ total (λ k. (get_or parts k no_tape).list) (length parts)
  count_all [] = refl
  count_all (part ∷ parts) = count-append part.list (all_entries parts) ∙ ap (λ m. count part.list + m) (count_all parts) ∙ sym (total_from (λ k. (get_or (part ∷ parts) k no_tape).list) (length parts))

  total_same : (f g : ℕ → List Entry) (n : ℕ) → ((k : ℕ) → f k ≡ g k) → total f n ≡ total g n
  total_same f g zero same = refl
  total_same f g (suc n) same = ap (λ m. m + count (f n)) (total_same f g n same) ∙ ap (λ l. total g n + count l) (same n)

  part_here : (e : Entry) (h : List Entry) (k : ℕ) → e.actor ≡ k → part_of k (e ∷ h) ≡ e ∷ part_of k h
  part_here e h k here = ap (λ (b : Bool). if b then e ∷ part_of k h else part_of k h) (eq-eqb e.actor k here)

  part_elsewhere : (e : Entry) (h : List Entry) (k : ℕ) → e.actor ≢ k → part_of k (e ∷ h) ≡ part_of k h
  part_elsewhere e h k other = ap (λ (b : Bool). if b then e ∷ part_of k h else part_of k h) (ne_eqb e.actor k other)

  total_past : (e : Entry) (h : List Entry) (n : ℕ) → n ≤ e.actor → total (λ k. part_of k (e ∷ h)) n ≡ total (λ k. part_of k h) n
  total_past e h zero past = refl
  total_past e h (suc n) past = ap (λ m. m + count (part_of n (e ∷ h))) (total_past e h n (omega (arith, past))) ∙ ap (λ l. total (λ k. part_of k h) n + count l) (part_elsewhere e h n (λ z. omega (arith, past, z)))

  total_more : (e : Entry) (h : List Entry) (n : ℕ) → e.actor < n → total (λ k. part_of k (e ∷ h)) n ≡ count (e ∷ []) + total (λ k. part_of k h) n
  total_more e h zero few = absurd (omega (arith, few))
  total_more e h (suc n) few = elim (cases_eq e.actor n) [
    | inl here ↦ (let p = total_past e h n (omega (arith, here)) in let q = ap count (part_here e h n here) ∙ count-append (e ∷ []) (part_of n h) in omega (arith, p, q))
    | inr other ↦ (let p = total_more e h n (omega (arith, few, other)) in let q = ap count (part_elsewhere e h n other) in omega (arith, p, q))
  ]

  total_none : (n : ℕ) → total (λ k. part_of k []) n ≡ 0
  total_none zero = refl
  total_none (suc n) = ap (λ m. m + 0) (total_none n) ∙ omega arith

  total_is : (h : List Entry) → FewActors h → total (λ k. part_of k h) 64 ≡ count h
  total_is [] few = total_none 64
  total_is (e ∷ h) few = total_more e h 64 few.0 ∙ ap (λ m. count (e ∷ []) + m) (total_is h few.1) ∙ sym (count-append (e ∷ []) h)

  pub count_parts : (parts : List TapeView) (h : List Entry) → length parts ≡ 64 → ((k : ℕ) → part_of k h ≡ (get_or parts k no_tape).list) → FewActors h → count (all_entries parts) ≡ count h
  count_parts parts h long each few =
      count_all parts ∙ ap (total (λ k. (get_or parts k no_tape).list)) long ∙ total_same (λ k. (get_or parts k no_tape).list) (λ k. part_of k h) 64 (λ k. sym (each k)) ∙ total_is h few

pub count_true : (es : List Entry) → count_by (λ (e : Entry). true) es ≡ length es
count_true [] = refl
count_true (e ∷ es) = sum_by-append (λ (x : Entry). 1) (e ∷ []) es ∙ ap (λ m. 1 + m) (count_true es) ∙ omega arith

-- ---- reports

pub in_order : ReportsPrintInOrder
in_order r h notes first last long woven none keep few =
    let up = count_up h first 0 woven.agree keep none (omega (arith, few)) in
    let many : length (prints_in r) ≡ length (prints_among h) = sym (count_true (prints_in r)) ∙ count_parts (λ e. true) r.parts h long woven.each_part woven.actors ∙ count_true (prints_among h) in
    let below = all_below (prints_among h) 0 (length (prints_in r)) up (omega (arith, many)) in
    let stand = all_stand (prints_among h) [] up in (
      record {
        within = all_parts (λ e. e.seen < length (prints_in r)) r.parts (λ k. subst (λ l. All (λ e. e.seen < length (prints_in r)) (prints_among l)) (woven.each_part k) (all_part (λ e. e.seen < length (prints_in r)) h k below));
        once = λ ticket h'. count_parts (λ e. e.seen == ticket) r.parts h long woven.each_part woven.actors ∙ one_each (prints_among h) 0 ticket up (omega arith) (omega (arith, h', many));
      },
      record {
        many = length-map (prints_among h) (λ e. e.value) ∙ sym many;
        each = all_parts (StandsIn (map (λ e. e.value) (prints_among h))) r.parts
            (λ k. subst (λ l. All (StandsIn (map (λ e. e.value) (prints_among h))) (prints_among l)) (woven.each_part k) (all_part (StandsIn (map (λ e. e.value) (prints_among h))) h k stand));
      },
    )
