-- The step of what is asked: where a unit is left and the place is among the words, it is that of the ask itself.
use Rattle.std.proofs.Common.{◌≡◌, ℕ, Bool, true, false, leb, ltb, if◌then◌else◌, Option, Some, None}
use Rattle.mz_words.specs.declared.code.Start.{Start}
use Rattle.mz_words.specs.declared.options.Options.{Options}
use Rattle.mz_words.specs.declared.asks.Ask.{Ask}
use Rattle.mz_words.specs.declared.asks.Ask.TheVariants.{Local, Frames, Nothing}
use Rattle.mz_words.specs.Standing.{Standing}
use Rattle.mz_words.specs.Steps.{counted, placed, is_full, ask_call}
use Rattle.mz_words.specs.Answers.{Move, move_of}

pub none_some : {A : Type 0} {a : A} → None ≡ Some a → ⊥
none_some e = absurd (cc)

pub counted_move : (o : Options) (t : Standing) (x : Ask) (m : Move) → move_of (counted o t x) ≡ Some m → move_of x ≡ Some m
counted_move o t x m e = by (leb o.steps t.units) e
  where
    by : (b : Bool) → move_of (if b then Local else x) ≡ Some m → move_of x ≡ Some m
    by true e = absurd (none_some e)
    by false e = e

placed_move : (o : Options) (place : ℕ) (x : Ask) (m : Move) → move_of (placed o place x) ≡ Some m → move_of x ≡ Some m
placed_move o place x m e = by (ltb place o.heap) e
  where
    by : (b : Bool) → move_of (if b then x else Nothing) ≡ Some m → move_of x ≡ Some m
    by true e = e
    by false e = absurd (none_some e)

pub both_move : (o : Options) (t : Standing) (place : ℕ) (x : Ask) (m : Move) → move_of (counted o t (placed o place x)) ≡ Some m → move_of x ≡ Some m
both_move o t place x m e = placed_move o place x m (counted_move o t (placed o place x) m e)

pub call_move : (t : Standing) (a : Option Start) (m : Move) → move_of (ask_call t a) ≡ Some m → ⊥
call_move t None m e = none_some e
call_move t (Some start) m e = by (is_full t start) e
  where
    by : (b : Bool) → move_of (if b then Local else Frames start.registers) ≡ Some m → ⊥
    by true e = none_some e
    by false e = none_some e
