-- A text has one answer: the value, the first wrong token and the first bracket too many exclude each other, and each place is fixed.
use Rattle.std.proofs.Common.{◌≡◌, ℕ, List, [], ◌∷◌, ◌++◌, length, Some, None, refl, sym, ap, subst, ◌∙◌, append_assoc, append-nil, ◌⊎◌, inl, inr}
use Rattle.mz_grammar.specs.Brackets.{Turn, Opens, room, step}
use Rattle.mz_grammar.specs.Wholes.{Fits, Begins, BreaksAt, IsFirstWrong, IsFirstDeep}
use Rattle.mz_grammar.proofs.Readers.{room-append, room-none}

-- of two fronts of one list one goes on from the other: token by token
pub fronts : {T : Type 0} (x r y s : List T) → x ++ r ≡ y ++ s → ((z : List T) × (y ≡ x ++ z) × (r ≡ z ++ s)) ⊎ ((z : List T) × (x ≡ y ++ z) × (s ≡ z ++ r))
fronts [] r y s e = inl (y, refl, e)
fronts (t ∷ x) r [] s e = inr (t ∷ x, refl, sym e)
fronts {T} (t ∷ x) r (u ∷ y) s e =
    let head : t ≡ u = cc in
    let tail : x ++ r ≡ y ++ s = cc in
    elim (fronts x r y s tail) [
      | inl more ↦ inl (more.0, ap (λ h. h ∷ y) (sym head) ∙ ap (λ l. t ∷ l) more.1, more.2)
      | inr more ↦ inr (more.0, ap (λ h. h ∷ x) head ∙ ap (λ l. u ∷ l) more.1, more.2)
    ]

module _ {T A : Type 0} (U : List T → A → Type 0) where
  -- where no text goes on with the next token, none goes on with more: a text that did would begin so
  stays_broken : (x r : List T) (t : T) (z s : List T) → BreaksAt U x r → r ≡ (t ∷ z) ++ s → Begins U (x ++ t ∷ z) → ⊥
  stays_broken x r t z s breaks e (more, value, spelled) =
      let at : BreaksAt U x (t ∷ (z ++ s)) = subst (BreaksAt U x) e breaks in
      at (z ++ more, value, subst (λ (l : List T). U l value) (append_assoc x (t ∷ z) more ∙ sym (append_assoc x (t ∷ []) (z ++ more))) spelled)

module _ {T A : Type 0} (turn : T → Turn) (limit : ℕ) (U : List T → A → Type 0) where
  -- behind a bracket that is one too many there is no room: none is left before it
  bursts : (y z : List T) (b : T) → turn b ≡ Opens → room turn y (Some limit) ≡ Some 0 → room turn (y ++ b ∷ z) (Some limit) ≡ None
  bursts y z b opens full =
      room-append turn y (b ∷ z) (Some limit) ∙ ap (room turn (b ∷ z)) full ∙ ap (λ c. room turn z (step c (Some 0))) opens ∙ room-none turn z

  -- what is too deep doesn't fit: there is no room behind the bracket
  pub deep_bursts : (ts : List T) (left : ℕ) → IsFirstDeep turn limit U ts left → Fits turn limit ts → ⊥
  deep_bursts ts left it (n, fits) =
      let none : room turn ts (Some limit) ≡ None = ap (λ l. room turn l (Some limit)) it.split ∙ bursts it.front it.rest it.bracket it.opens it.full in cc

  -- what has a wrong token isn't spelled: the text itself would go on from it
  pub wrong_unspelled : (ts : List T) (left : ℕ) (value : A) → IsFirstWrong turn limit U ts left → U ts value → ⊥
  wrong_unspelled ts left value it spelled = go it.rest it.breaks it.split
    where
      go : (rest : List T) → BreaksAt U it.front rest → ts ≡ it.front ++ rest → ⊥
      go [] breaks split = breaks value (subst (λ (l : List T). U l value) (split ∙ append-nil it.front) spelled)
      go (t ∷ rest) breaks split = breaks (rest, value, subst (λ (l : List T). U l value) (split ∙ sym (append_assoc it.front (t ∷ []) rest)) spelled)

  -- the later of two wrong tokens would have the earlier stand
  wrong_later : (ts : List T) (n m : ℕ) (one : IsFirstWrong turn limit U ts n) (two : IsFirstWrong turn limit U ts m) (z : List T) → two.front ≡ one.front ++ z → one.rest ≡ z ++ two.rest → n ≡ m
  wrong_later ts n m one two [] front rest = one.count ∙ ap length rest ∙ sym two.count
  wrong_later ts n m one two (t ∷ z) front rest = absurd (stays_broken U one.front one.rest t z two.rest one.breaks rest (subst (Begins U) front two.before))

  -- there is one first wrong token: of two the later would have the earlier stand
  pub one_wrong : (ts : List T) (n m : ℕ) → IsFirstWrong turn limit U ts n → IsFirstWrong turn limit U ts m → n ≡ m
  one_wrong ts n m one two = elim (fronts one.front one.rest two.front two.rest (sym one.split ∙ two.split)) [
    | inl it ↦ wrong_later ts n m one two it.0 it.1 it.2
    | inr it ↦ sym (wrong_later ts m n two one it.0 it.1 it.2)
  ]

  -- the later of two brackets too many would not fit
  deep_later : (ts : List T) (n m : ℕ) (one : IsFirstDeep turn limit U ts n) (two : IsFirstDeep turn limit U ts m) (z : List T) → two.front ≡ one.front ++ z
      → one.bracket ∷ one.rest ≡ z ++ two.bracket ∷ two.rest → n ≡ m
  deep_later ts n m one two [] front rest = one.count ∙ ap length rest ∙ sym two.count
  deep_later ts n m one two (t ∷ z) front rest =
      let same : t ≡ one.bracket = cc in
      let none : room turn two.front (Some limit) ≡ None = ap (λ l. room turn l (Some limit)) front ∙ bursts one.front z t (ap turn same ∙ one.opens) one.full in
      let some = two.full in cc

  -- there is one first bracket too many: behind it there is no room for another
  pub one_deep : (ts : List T) (n m : ℕ) → IsFirstDeep turn limit U ts n → IsFirstDeep turn limit U ts m → n ≡ m
  one_deep ts n m one two = elim (fronts one.front (one.bracket ∷ one.rest) two.front (two.bracket ∷ two.rest) (sym one.split ∙ two.split)) [
    | inl it ↦ deep_later ts n m one two it.0 it.1 it.2
    | inr it ↦ sym (deep_later ts m n two one it.0 it.1 it.2)
  ]

  -- not both: a wrong token before the bracket, or at it, would have it not stand, and one behind it has a front that doesn't fit
  pub wrong_or_deep : (ts : List T) (n m : ℕ) → IsFirstWrong turn limit U ts n → IsFirstDeep turn limit U ts m → ⊥
  wrong_or_deep ts n m one two =
      elim (fronts one.front one.rest (two.front ++ two.bracket ∷ []) two.rest (sym one.split ∙ two.split ∙ sym (append_assoc two.front (two.bracket ∷ []) two.rest))) [
        | inl it ↦ before it.0 it.1 it.2
        | inr it ↦ behind it.0 it.1
      ]
    where
      behind : (z : List T) → one.front ≡ (two.front ++ two.bracket ∷ []) ++ z → ⊥
      behind z e =
          let none : room turn one.front (Some limit) ≡ None = ap (λ l. room turn l (Some limit)) (e ∙ append_assoc two.front (two.bracket ∷ []) z) ∙ bursts two.front z two.bracket two.opens two.full in
          let some = one.fits.1 in cc

      before : (z : List T) → two.front ++ two.bracket ∷ [] ≡ one.front ++ z → one.rest ≡ z ++ two.rest → ⊥
      before [] e rest = behind [] (sym (append-nil one.front) ∙ sym e ∙ sym (append-nil (two.front ++ two.bracket ∷ [])))
      before (t ∷ z) e rest = stays_broken U one.front one.rest t z two.rest one.breaks rest (subst (Begins U) e two.stands)
