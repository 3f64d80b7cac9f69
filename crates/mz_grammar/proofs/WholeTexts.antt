-- The contract of a call that parses a whole text, by what its reading function gives; and the promises of a reader.
use Rattle.std.proofs.Common.{◌≡◌, ℕ, List, [], ◌∷◌, length, Option, None, Result, Ok, Err, refl, sym, ap, ◌∙◌, ◌⊎◌, inl, inr}
use Rattle.mz_grammar.specs.Reading.{Read, Fault, Wrong, Deep}
use Rattle.mz_grammar.specs.Brackets.{Turn}
use Rattle.mz_grammar.specs.Readers.{Reads}
use Rattle.mz_grammar.specs.Wholes.{Fits, HasFault}
use Rattle.mz_grammar.specs.Answers.{Stopped, Unexpected, Too_deep, No_memory, Stops}
use Rattle.mz_grammar.specs.Contract.{IsRight, IsRightStop, IsMemory, Only}
use Rattle.mz_grammar.specs.Promises.{at_end, settled, whole, IsSound, IsComplete, TellsFirstWrong, TellsFirstDeep, ValueOrFault}
use Rattle.mz_grammar.proofs.AllTokens as tokens
use Rattle.mz_grammar.proofs.OneReason.{wrong_unspelled, deep_bursts, one_wrong, one_deep, wrong_or_deep}

module _ {T A : Type 0} {turn : T → Turn} {limit after : ℕ} {p : List T → Read T A} {U : List T → A → Type 0} {F : Option T → Type 0} (P : Reads turn p U F limit after) (ends : F None) where
  -- ---- a call: its reading function stopped

  -- by the fault: wrong at the first wrong token, deep at the first bracket too many
  stop_right : (ts : List T) (stopped : Stopped) → Stops stopped (p ts) → IsRightStop turn limit U ts stopped
  stop_right ts (Unexpected n) (rest, read, count) = tokens.right_wrong turn limit after p U F P ends ts rest n read count
  stop_right ts (Too_deep n) (rest, read, count) = tokens.right_deep turn limit after p U F P ends ts rest n read count
  stop_right ts No_memory h = tt

  -- what is spelled and fits is read to the end
  read_this : (ts : List T) (value : A) → U ts value → Fits turn limit ts → p ts ≡ Ok (value, [])
  read_this ts value spelled fits = tokens.only_this turn limit after p U F P ends ts value spelled fits

  -- no reading is both
  ok_err : (r : Read T A) (x : A × List T) (f : Fault T) → r ≡ Ok x → r ≡ Err f → ⊥
  ok_err r x f e h = cc

  -- a refusal would contradict that it is read; want of memory says nothing
  stop_only : (ts : List T) (stopped : Stopped) → Stops stopped (p ts) → (value : A) → U ts value → Fits turn limit ts → IsMemory stopped
  stop_only ts (Unexpected n) (rest, read, count) value spelled fits = ok_err (p ts) (value, []) (Wrong rest) (read_this ts value spelled fits) read
  stop_only ts (Too_deep n) (rest, read, count) value spelled fits = ok_err (p ts) (value, []) (Deep rest) (read_this ts value spelled fits) read
  stop_only ts No_memory h value spelled fits = tt

  -- the refusal is right: the reader on lists stops there
  pub right_stop : {S : Type 0} (cause : S → Stopped) (ts : List T) (e : S) → Stops (cause e) (p ts) → IsRight turn limit U cause ts (Err e)
  right_stop cause ts e h = stop_right ts (cause e) h

  -- what is spelled and fits isn't refused: the reader on lists reads it
  pub only_stop : {S : Type 0} (cause : S → Stopped) (ts : List T) (e : S) → Stops (cause e) (p ts) → Only turn limit U cause ts (Err e)
  only_stop cause ts e h value spelled fits = stop_only ts (cause e) h value spelled fits

  -- ---- .. it read up to the end

  -- the value is right: the tokens read are all
  pub right_end : {S : Type 0} (cause : S → Stopped) (ts rest : List T) (value : A) → length rest ≡ 0 → p ts ≡ Ok (value, rest) → IsRight turn limit U cause ts (Ok value)
  right_end cause ts rest value e h = tokens.right_end turn limit after p U F P ends ts rest value e h

  -- it is the one reading, to the end
  same_read : (ts rest : List T) (a b : A) → p ts ≡ Ok (a, rest) → U ts b → Fits turn limit ts → (a ≡ b) × (rest ≡ [])
  same_read ts rest a b h spelled fits =
      let x : A × List T = (a, rest) in
      let y : A × List T = (b, []) in
      let both : Ok x ≡ Ok y = sym h ∙ read_this ts b spelled fits in
      let pair : x ≡ y = cc in
      (ap (λ v. v.0) pair, ap (λ v. v.1) pair)

  -- there is no other value: the reader on lists would read it too
  pub only_end : {S : Type 0} (cause : S → Stopped) (ts rest : List T) (value : A) → p ts ≡ Ok (value, rest) → Only turn limit U cause ts (Ok value)
  only_end cause ts rest value h other spelled fits = (same_read ts rest value other h spelled fits).0

  -- ---- .. it left tokens, and the call refuses the first of them

  -- the cause tells the tokens left
  more_right : (ts rest : List T) (value : A) (stopped : Stopped) → stopped ≡ Unexpected (length rest) → (length rest ≡ 0 → ⊥) → p ts ≡ Ok (value, rest) → IsRightStop turn limit U ts stopped
  more_right ts rest value (Unexpected n) same more h =
      let count : n ≡ length rest = cc in
      tokens.right_left turn limit after p U F P ends ts rest value n count more h
  more_right ts rest value (Too_deep n) same more h = cc
  more_right ts rest value No_memory same more h = cc

  -- the refusal is right: the first token left is the first wrong one
  pub right_more : {S : Type 0} (cause : S → Stopped) (ts rest : List T) (value : A) (e : S) → cause e ≡ Unexpected (length rest) → (length rest ≡ 0 → ⊥) → p ts ≡ Ok (value, rest) → IsRight turn limit U cause ts (Err e)
  right_more cause ts rest value e same more h = more_right ts rest value (cause e) same more h

  -- what is spelled and fits leaves no token
  pub only_more : {S : Type 0} (cause : S → Stopped) (ts rest : List T) (value : A) (e : S) → (length rest ≡ 0 → ⊥) → p ts ≡ Ok (value, rest) → Only turn limit U cause ts (Err e)
  only_more cause ts rest value e more h other spelled fits = absurd (more (ap length (same_read ts rest value other h spelled fits).1))

  -- ---- the promises

  -- a refusal is its own cause
  abbrev plain : Stopped → Stopped
  plain stopped = stopped

  -- by what the reader answers: all, some left, wrong or deep
  settled_right : (ts : List T) (r : Read T A) → p ts ≡ r → IsRight turn limit U plain ts (settled r)
  settled_right ts (Ok (value, rest)) e = by_rest rest e
    where
      by_rest : (rest : List T) → p ts ≡ Ok (value, rest) → IsRight turn limit U plain ts (at_end value rest)
      by_rest [] e = tokens.right_end turn limit after p U F P ends ts [] value refl e
      by_rest (t ∷ rest) e = tokens.left_over turn limit after p U F P ends ts value t rest e
  settled_right ts (Err (Wrong rest)) e = tokens.stopped turn limit after p U F P ends ts rest e
  settled_right ts (Err (Deep rest)) e = tokens.sunk turn limit after p U F P ends ts rest e

  -- each answer has its reason, case by case
  pub is_sound : IsSound turn limit p U
  is_sound ts = settled_right ts (p ts) refl

  -- what is spelled and fits is answered: the reader reads it all
  pub is_complete : IsComplete turn limit p U
  is_complete ts value spelled fits = ap settled (read_this ts value spelled fits)

  -- a reader on lists needs none: by cases
  no_memory : (r : Read T A) → settled r ≡ Err No_memory → ⊥
  no_memory (Ok (value, [])) e = cc
  no_memory (Ok (value, t ∷ rest)) e = cc
  no_memory (Err (Wrong rest)) e = cc
  no_memory (Err (Deep rest)) e = cc

  -- the first wrong token is told: any other answer has a reason that excludes it
  pub tells_first_wrong : TellsFirstWrong turn limit p U
  tells_first_wrong ts left it = go (whole p ts) refl (is_sound ts)
    where
      go : (r : Result A Stopped) → whole p ts ≡ r → IsRight turn limit U plain ts r → r ≡ Err (Unexpected left)
      go (Ok value) e right = absurd (wrong_unspelled turn limit U ts left value it right.0)
      go (Err (Unexpected n)) e right = ap (λ k. Err (Unexpected k)) (one_wrong turn limit U ts n left right it)
      go (Err (Too_deep n)) e right = absurd (wrong_or_deep turn limit U ts left n it right)
      go (Err No_memory) e right = absurd (no_memory (p ts) e)

  -- the first bracket too many is told, likewise
  pub tells_first_deep : TellsFirstDeep turn limit p U
  tells_first_deep ts left it = go (whole p ts) refl (is_sound ts)
    where
      go : (r : Result A Stopped) → whole p ts ≡ r → IsRight turn limit U plain ts r → r ≡ Err (Too_deep left)
      go (Ok value) e right = absurd (deep_bursts turn limit U ts left it right.1)
      go (Err (Unexpected n)) e right = absurd (wrong_or_deep turn limit U ts n left right it)
      go (Err (Too_deep n)) e right = ap (λ k. Err (Too_deep k)) (one_deep turn limit U ts n left right it)
      go (Err No_memory) e right = absurd (no_memory (p ts) e)

  -- each text has one of these answers: by what the reader gives
  pub value_or_fault : ValueOrFault turn limit U
  value_or_fault ts = go (p ts) refl
    where
      go : (r : Read T A) → p ts ≡ r → ((value : A) × U ts value × Fits turn limit ts) ⊎ HasFault turn limit U ts
      go (Ok (value, [])) e = let it = tokens.right_end turn limit after p U F P ends ts [] value refl e in inl (value, it.0, it.1)
      go (Ok (value, t ∷ rest)) e = inr (inl (length (t ∷ rest), tokens.left_over turn limit after p U F P ends ts value t rest e))
      go (Err (Wrong rest)) e = inr (inl (length rest, tokens.stopped turn limit after p U F P ends ts rest e))
      go (Err (Deep rest)) e = inr (inr (length rest, tokens.sunk turn limit after p U F P ends ts rest e))
