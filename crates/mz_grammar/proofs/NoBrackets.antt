-- A grammar without brackets: each text fits, and nothing is too deep.
use Rattle.std.proofs.Common.{◌≡◌, ℕ, Bool, List, [], ◌∷◌, Option, Some, None, Result, Ok, Err, IsTrue, refl, sym, ap, ◌∙◌}
use Rattle.mz_grammar.specs.Reading.{token_at}
use Rattle.mz_grammar.specs.Brackets.{Turn, Opens, Neither, no_brackets, step, room}
use Rattle.mz_grammar.specs.Relations.{OneToken}
use Rattle.mz_grammar.specs.Readers.{Any, Reads}
use Rattle.mz_grammar.specs.Wholes.{Fits, IsFirstDeep}
use Rattle.mz_grammar.specs.Answers.{Stopped, Unexpected, Too_deep, No_memory}
use Rattle.mz_grammar.specs.Contract.{IsRight, IsRightStop, Only, IsRightFlat, IsRightStopFlat, OnlyFlat}
use Rattle.mz_grammar.specs.Promises.{HasNoBrackets}
use Rattle.mz_grammar.proofs.Readers.{reads_token}

-- a token that is no bracket leaves the room as it is
step_neither : (turn : Turn) → turn ≡ Neither → (o : Option ℕ) → step turn o ≡ o
step_neither turn e None = refl
step_neither turn e (Some d) = ap (λ c. step c (Some d)) e

module _ {T : Type 0} (turn : T → Turn) (flat : HasNoBrackets turn) where
  -- so do all the tokens, one after another
  pub room_flat : (ts : List T) (o : Option ℕ) → room turn ts o ≡ o
  room_flat [] o = refl
  room_flat (t ∷ ts) o = ap (room turn ts) (step_neither (turn t) (flat t) o) ∙ room_flat ts o

  -- each text fits: the room stays as it was
  pub all_fit : (limit : ℕ) (ts : List T) → Fits turn limit ts
  all_fit limit ts = (limit, room_flat ts (Some limit))

  -- nothing is too deep: the bracket would be one that opens
  pub never_deep : {A : Type 0} (U : List T → A → Type 0) (limit : ℕ) (ts : List T) (left : ℕ) → IsFirstDeep turn limit U ts left → ⊥
  never_deep U limit ts left it =
      let both : Opens ≡ Neither = sym it.opens ∙ flat it.bracket in cc

module _ {T : Type 0} where
  -- each token does, since it is no bracket
  pub flat_is : HasNoBrackets (no_brackets {T = T})
  flat_is t = refl

  -- one token, of a grammar without brackets: the room stays by computation
  pub flat_token : (test : T → Bool) (t : T) → IsTrue (test t) → (d : ℕ) → Reads no_brackets (token_at test) (OneToken test) Any d d
  flat_token test t ok d = reads_token test d d t ok (λ u is. refl)

module _ {T A : Type 0} (U : List T → A → Type 0) where
  -- nothing is too deep, and the others are the same
  flat_stop : (ts : List T) (stopped : Stopped) → IsRightStop no_brackets 0 U ts stopped → IsRightStopFlat U ts stopped
  flat_stop ts (Unexpected left) h = h
  flat_stop ts (Too_deep left) h = never_deep no_brackets flat_is U 0 ts left h
  flat_stop ts No_memory h = h

  -- the contract without a limit is the one with, since each text fits
  pub right_flat : {S : Type 0} (cause : S → Stopped) (ts : List T) (result : Result A S) → IsRight no_brackets 0 U cause ts result → IsRightFlat U cause ts result
  right_flat cause ts (Ok value) h = h.0
  right_flat cause ts (Err e) h = flat_stop ts (cause e) h

  -- likewise
  pub only_flat : {S : Type 0} (cause : S → Stopped) (ts : List T) (result : Result A S) → Only no_brackets 0 U cause ts result → OnlyFlat U cause ts result
  only_flat cause ts result h value spelled = h value spelled (all_fit no_brackets flat_is 0 ts)
