-- A call that reads from the front, by what the reader on lists reads, of every limit: each answer is right, and what a front
-- spells is the answer. P says that the readers read the grammar U, with F behind it, which holds at the end of a text.
use Rattle.std.proofs.Common.{◌≡◌, ℕ, List, [], ◌∷◌, ◌++◌, length, Option, None, Result, Ok, Err, refl, sym, ap, subst, ◌∙◌, append_assoc, append-nil, ◌⊎◌, inl, inr}
use Rattle.mz_grammar.specs.Reading.{Read, Wrong, Deep, first}
use Rattle.mz_grammar.specs.Readers.{Reads, Reaches, Sinks}
use Rattle.mz_grammar.specs.Wholes.{Fits, EndsAt, HasFault}
use Rattle.mz_grammar.specs.Answers.{Stopped, Unexpected, Too_deep, No_memory, Stops}
use Rattle.mz_grammar.specs.Contract.{IsRightStop, IsMemory}
use Rattle.mz_grammar.proofs.AllTokens as tokens
use Rattle.mz_grammar.proofs.Longest.{Longest}
use Rattle.mz_grammar.proofs.OneReason.{deep_bursts, fronts}
use Rattle.mz_token.specs.declared.token.Token.{Token}
use Rattle.mz_types.specs.declared.stop.Stop.{Stop}
use Rattle.mz_types.specs.Words.{Spelling, turn}
use Rattle.mz_types.specs.Laws.{FrontOrFault}
use Rattle.mz_types.specs.Stops.{cause, Gives}
use Rattle.mz_types.specs.Fronts.{IsFront, IsAnswer, IsRightFront, OnlyFront}

-- nothing is read to the end and with tokens left
clash : {T A : Type 0} (r : Read T A) (a b : A) (t : T) (more : List T) → r ≡ Ok (a, t ∷ more) → r ≡ Ok (b, []) → ⊥
clash {T} {A} r a b t more e h =
    let x : A × List T = (a, t ∷ more) in
    let y : A × List T = (b, []) in
    let both : Ok x ≡ Ok y = sym e ∙ h in
    let pair : x ≡ y = cc in
    let none : t ∷ more ≡ [] = ap (λ v. v.1) pair in cc

-- nothing is read and too deep
burst : {T A : Type 0} (r : Read T A) (x : A × List T) (rest : List T) → r ≡ Ok x → r ≡ Err (Deep rest) → ⊥
burst r x rest e h = let both : Ok x ≡ Err (Deep rest) = sym e ∙ h in cc

module _ {A : Type 0} {p : ℕ → List Token → Read Token A} {U : Spelling A} {F : Option Token → Type 0} (P : (d : ℕ) → Reads turn (p d) U F d d) (ends : F None) (L : (d : ℕ) → Longest (p d) U) (d : ℕ) where
  -- what was read can't go on: a text that went on would be read further
  ends_at : (front rest : List Token) (value : A) → ((others : List Token) → first others ≡ first rest → p d (front ++ others) ≡ Ok (value, others)) → EndsAt U front rest
  ends_at front [] value again = tt
  ends_at front (t ∷ rest) value again = λ (more, b, spelled).
      let text : List Token = front ++ t ∷ more in
      let whole : U text b = subst (λ (l : List Token). U l b) (append_assoc front (t ∷ []) more) spelled in
      elim ((P d).never text [] b whole ends) [
        | inl h ↦ clash (p d text) value b t more (again (t ∷ more) refl) (ap (p d) (sym (append-nil text)) ∙ h)
        | inr deep ↦ burst (p d text) (value, t ∷ more) deep.0 (again (t ∷ more) refl) (ap (p d) (sym (append-nil text)) ∙ deep.1)
      ]

  -- what was read is right
  read_right : (ts rest : List Token) (value : A) → p d ts ≡ Ok (value, rest) → IsFront U d ts rest value
  read_right ts rest value h =
      let one : Reaches turn (p d) U d d ts rest value = (P d).sound ts rest value h in
      record { front = one.front; split = one.split; spelled = one.spelled; fits = one.fits; ends = ends_at one.front rest value one.again }

  -- a refusal is right, and the place is the first
  stop_right : (ts : List Token) (stopped : Stopped) → Stops stopped (p d ts) → IsRightStop turn d U ts stopped
  stop_right ts (Unexpected n) (rest, read, count) = tokens.right_wrong turn d d (p d) U F (P d) ends ts rest n read count
  stop_right ts (Too_deep n) (rest, read, count) = tokens.right_deep turn d d (p d) U F (P d) ends ts rest n read count
  stop_right ts No_memory h = tt

  -- by the answer
  pub front_right : {X : Type 0} (view : X → A × List Token) (ts : List Token) (result : Result X Stop) → Gives view result (p d ts) → IsRightFront U d ts view result
  front_right view ts (Ok x) h = read_right ts (view x).1 (view x).0 h
  front_right view ts (Err stop) h = stop_right ts (cause stop) h

  -- it isn't too deep where the front fits: the bracket that is one too many would stand in the front, which would burst, or behind
  -- it, where the grammar would go on
  not_deep : (ts front rest deep : List Token) (value : A) → ts ≡ front ++ rest → U front value → EndsAt U front rest → Fits turn d front → p d ts ≡ Err (Deep deep) → ⊥
  not_deep ts front rest deep value split spelled last fits h =
      let one : Sinks turn U d ts deep = (P d).sinks ts deep h in
      elim (fronts front rest (one.front ++ one.bracket ∷ []) one.after (sym split ∙ one.split ∙ ap (λ l. one.front ++ l) one.here ∙ sym (append_assoc one.front (one.bracket ∷ []) one.after))) [
        | inl it ↦ behind one it.0 it.1 it.2
        | inr it ↦ before one it.0 it.1
      ]
    where
      before : (one : Sinks turn U d ts deep) (z : List Token) → front ≡ (one.front ++ one.bracket ∷ []) ++ z → ⊥
      before one z e = deep_bursts turn d U front (length (one.bracket ∷ z)) (record {
        front = one.front;
        bracket = one.bracket;
        rest = z;
        split = e ∙ append_assoc one.front (one.bracket ∷ []) z;
        count = refl;
        opens = one.opens;
        full = one.full;
        stands = (one.more, one.value, subst (λ (l : List Token). U l one.value) (sym (append_assoc one.front (one.bracket ∷ []) one.more)) one.viable);
      }) fits

      behind : (one : Sinks turn U d ts deep) (z : List Token) → one.front ++ one.bracket ∷ [] ≡ front ++ z → rest ≡ z ++ one.after → ⊥
      behind one [] e r = before one [] (sym (append-nil front) ∙ sym e ∙ sym (append-nil (one.front ++ one.bracket ∷ [])))
      behind one (t ∷ z) e r =
          let as_front : one.front ++ one.bracket ∷ one.more ≡ (front ++ t ∷ []) ++ (z ++ one.more) =
          sym (append_assoc one.front (one.bracket ∷ []) one.more) ∙ ap (λ l. l ++ one.more) e ∙ append_assoc front (t ∷ z) one.more ∙ sym (append_assoc front (t ∷ []) (z ++ one.more)) in
          let here : EndsAt U front (t ∷ (z ++ one.after)) = subst (EndsAt U front) r last in
          here (z ++ one.more, one.value, subst (λ (l : List Token). U l one.value) as_front one.viable)

  -- what a front spells is read, where it can't go on
  read_only : (ts front rest : List Token) (value : A) → ts ≡ front ++ rest → U front value → EndsAt U front rest → Fits turn d front → p d ts ≡ Ok (value, rest)
  read_only ts front rest value split spelled last fits = elim ((L d).reads front rest value spelled last) [
    | inl h ↦ ap (p d) split ∙ h
    | inr deep ↦ absurd (not_deep ts front rest deep.0 value split spelled last fits (ap (p d) split ∙ deep.1))
  ]

  -- a refusal would contradict that it is read; want of memory says nothing
  stop_only : (ts : List Token) (stopped : Stopped) (x : A × List Token) → Stops stopped (p d ts) → p d ts ≡ Ok x → IsMemory stopped
  stop_only ts (Unexpected n) x (rest, read, count) e = let both : Ok x ≡ Err (Wrong rest) = sym e ∙ read in cc
  stop_only ts (Too_deep n) x (rest, read, count) e = let both : Ok x ≡ Err (Deep rest) = sym e ∙ read in cc
  stop_only ts No_memory x h e = tt

  answered : {X : Type 0} (view : X → A × List Token) (ts : List Token) (result : Result X Stop) (x : A × List Token) → Gives view result (p d ts) → p d ts ≡ Ok x → IsAnswer view result x
  answered view ts (Ok y) x h e = let both : Ok (view y) ≡ Ok x = sym h ∙ e in cc
  answered view ts (Err stop) x h e = stop_only ts (cause stop) x h e

  -- by the answer
  pub front_only : {X : Type 0} (view : X → A × List Token) (ts : List Token) (result : Result X Stop) → Gives view result (p d ts) → OnlyFront U d ts view result
  front_only view ts result h front rest value split spelled last fits = answered view ts result (value, rest) h (read_only ts front rest value split spelled last fits)

module _ {A : Type 0} {p : ℕ → List Token → Read Token A} {U : Spelling A} {F : Option Token → Type 0} (P : (d : ℕ) → Reads turn (p d) U F d d) (ends : F None) (L : (d : ℕ) → Longest (p d) U) where
  -- one of them: by what the reader gives
  pub found_or_fault : FrontOrFault U
  found_or_fault d ts = go (p d ts) refl
    where
      go : (r : Read Token A) → p d ts ≡ r → ((rest : List Token) × (value : A) × IsFront U d ts rest value) ⊎ HasFault turn d U ts
      go (Ok (value, rest)) h = inl (rest, value, read_right P ends L d ts rest value h)
      go (Err (Wrong rest)) h = inr (inl (length rest, tokens.right_wrong turn d d (p d) U F (P d) ends ts rest (length rest) h refl))
      go (Err (Deep rest)) h = inr (inr (length rest, tokens.right_deep turn d d (p d) U F (P d) ends ts rest (length rest) h refl))
