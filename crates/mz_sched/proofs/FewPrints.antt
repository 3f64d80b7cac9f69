-- A thread prints no more numbers than it makes units.
use Rattle.std.proofs.Common.{◌≡◌, ◌<◌, ◌≤◌, ℕ, suc, ◌+◌, ◌*◌, List, [], ◌∷◌, length, Bool, true, false, cond, Option, Some, None, refl, ap, ◌∙◌, length-append, suc-mul, get_or, arith}
use Rattle.std.specs.Prelude.{slice_get}
use Rattle.mz_tape.specs.Tapes.{TapeView}
use Rattle.mz_tape.specs.declared.entry.Entry.{Entry}
use Rattle.mz_words.specs.declared.code.Instr.{Instr}
use Rattle.mz_words.specs.declared.code.Start.{Start}
use Rattle.mz_words.specs.declared.code.Code.{Code}
use Rattle.mz_words.specs.declared.options.Options.{Options}
use Rattle.mz_words.specs.declared.ends.End.{End}
use Rattle.mz_words.specs.declared.ends.End.TheVariants as ending
use Rattle.mz_words.specs.declared.asks.Ask.{Ask}
use Rattle.mz_words.specs.declared.asks.Answer.{Answer}
use Rattle.mz_words.specs.declared.asks.Answer.TheVariants.{Saw, Quiet, Missed, Refused}
use Rattle.mz_words.specs.declared.stages.Stage.{Stage}
use Rattle.mz_words.specs.declared.stages.Stage.TheVariants.{Idle, IdleStop, IdleLive, LoadFun, LoadArg, Entering, Border, Ready, Making, Taking, Spawning, Unmatched, Closing, Over}
use Rattle.mz_words.specs.Plain.{no_tape}
use Rattle.mz_words.specs.Standing.{Standing}
use Rattle.mz_words.specs.Steps.{ask, ask_at, ask_closing, ask_frame, callee_of, first_params, enters, take_at, take_step}
use Rattle.mz_words.specs.Answers.{May, Move, move_of}
use Rattle.mz_words.specs.Replays.{Follows, Follows_start, Follows_on, entries, entry_of}
use Rattle.mz_words.specs.Tickets.{is_print, prints_among}
use Rattle.mz_print.specs.Prints.{all_entries}
use Rattle.mz_print.proofs.Interleaved.{prints-append}
use Rattle.mz_thread.specs.Keeping.{IsForwardAt, GoesForward}
use Rattle.mz_thread.specs.Inside.{LostWithin, StageWithin, Inside}
use Rattle.mz_thread.proofs.Moves.{Change, unit_made, called, moved_on, stopped, tried_again, gave_up}
use Rattle.mz_thread.proofs.Steps.{in_code, found_in, works_change, inside}

-- how many prints are among entries
abbrev prints : List Entry → ℕ
prints es = length (prints_among es)

-- an answer makes one entry at most
abbrev most : Answer → ℕ
most (Saw n) = 1
most answer = 0

one_print : (b : Bool) (e : Entry) → length (cond b (e ∷ []) []) ≤ 1
one_print true e = omega arith
one_print false e = omega arith

move_few : (k : ℕ) (m : Option Move) (n : ℕ) → prints (entry_of k m n) ≤ 1
move_few k None n = omega arith
move_few k (Some m) n = one_print (is_print m.kind) (record { actor = k; place = m.place; kind = m.kind; value = m.value; seen = n })

entries_few : (k : ℕ) (a : Ask) (answer : Answer) → prints (entries k a answer) ≤ most answer
entries_few k a (Saw n) = move_few k (move_of a) n
entries_few k a Quiet = omega arith
entries_few k a Missed = omega arith
entries_few k a Refused = omega arith

-- ---- units never fall, and each entry of an instruction is one

change_units : (n : ℕ) (o : Options) (t : Standing) (a : Ask) (answer : Answer) (u : Standing) → Change n o t a answer u → most answer + t.units ≤ u.units
change_units n o t a _ _ (unit_made m u x e b z r) = omega (arith, e)
change_units n o t a _ _ (called u h e b z s) = omega (arith, e)
change_units n o t a _ _ (moved_on u w e b z s) = omega (arith, e)
change_units n o t a _ _ (stopped (Saw m) e h b) = absurd h
change_units n o t a _ _ (stopped Quiet e h b) = omega arith
change_units n o t a _ _ (stopped Missed e h b) = omega arith
change_units n o t a _ _ (stopped Refused e h b) = omega arith
change_units n o t a _ _ (tried_again u e b z h s) = omega (arith, e)
change_units n o t a _ _ (gave_up u p e q b z h s) = omega (arith, e)

by_change : (n : ℕ) (o : Options) (k : ℕ) (t : Standing) (a : Ask) (answer : Answer) (u : Standing) → Change n o t a answer u → prints (entries k a answer) + t.units ≤ u.units
by_change n o k t a answer u h = let few = entries_few k a answer in let more = change_units n o t a answer u h in omega (arith, few, more)

enters_units : (k arg : ℕ) (x : Option Start) (t : Standing) → (enters k arg x t).units ≡ t.units
enters_units k arg None t = refl
enters_units k arg (Some s) t = refl

frame_few : (k : ℕ) (x : Option Start) (answer : Answer) → May (ask_frame x) answer → prints (entries k (ask_frame x) answer) ≡ 0
frame_few k None answer m = absurd (nothing answer m)
  where
    nothing : (answer : Answer) → May (ask_frame None) answer → ⊥
    nothing (Saw n) m = m
    nothing Quiet m = m
    nothing Missed m = m
    nothing Refused m = m
frame_few k (Some s) (Saw n) m = absurd m
frame_few k (Some s) Quiet m = refl
frame_few k (Some s) Missed m = absurd m
frame_few k (Some s) Refused m = refl

entering : (c : Code) (o : Options) (k : ℕ) (t : Standing) (f arg : ℕ) (a : Option Instr) (answer : Answer) → (take_at c o k t (Entering f arg) a answer).units ≡ t.units
entering c o k t f arg a (Saw n) = refl
entering c o k t f arg a Quiet = enters_units k arg (callee_of c f (first_params k)) t
entering c o k t f arg a Missed = refl
entering c o k t f arg a Refused = refl

closing_few : (k : ℕ) (e : End) (m : ℕ) → prints (entries k (ask_closing e) (Saw m)) ≡ 0
closing_few k ending.Done m = refl
closing_few k (ending.TakeFailed p) m = refl
closing_few k (ending.Arith p) m = refl
closing_few k (ending.HeapFull p) m = refl
closing_few k (ending.ThreadsFull p) m = refl
closing_few k (ending.StackFull p) m = refl
closing_few k ending.Spent m = refl
closing_few k (ending.Blocked p) m = refl
closing_few k ending.Halted m = refl
closing_few k ending.NeverStarted m = refl
closing_few k ending.Memory m = refl

module _ (n : ℕ) (c : Code) (o : Options) (k : ℕ) (t : Standing) where
  step_at : (s : Stage) (a : Option Instr) (answer : Answer) → in_code a t.at n → IsForwardAt t.at a → LostWithin o s t.lost → StageWithin s t.units → May (ask_at c o k t s a) answer
      → prints (entries k (ask_at c o k t s a) answer) + t.units ≤ (take_at c o k t s a answer).units
  step_at Ready a answer h f l g m = by_change n o k t (ask_at c o k t Ready a) answer (take_at c o k t Ready a answer) (works_change n c o k t Ready a answer tt h f l g m)
  step_at (Making b i) a answer h f l g m = by_change n o k t (ask_at c o k t (Making b i) a) answer (take_at c o k t (Making b i) a answer) (works_change n c o k t (Making b i) a answer tt h f l g m)
  step_at Taking a answer h f l g m = by_change n o k t (ask_at c o k t Taking a) answer (take_at c o k t Taking a answer) (works_change n c o k t Taking a answer tt h f l g m)
  step_at (Spawning j i) a answer h f l g m = by_change n o k t (ask_at c o k t (Spawning j i) a) answer (take_at c o k t (Spawning j i) a answer) (works_change n c o k t (Spawning j i) a answer tt h f l g m)
  step_at Idle a (Saw x) h f l g m = omega arith
  step_at Idle a Quiet h f l g m = omega arith
  step_at IdleStop a (Saw x) h f l g m = omega arith
  step_at IdleStop a Quiet h f l g m = omega arith
  step_at IdleLive a (Saw x) h f l g m = omega arith
  step_at IdleLive a Quiet h f l g m = omega arith
  step_at LoadFun a (Saw x) h f l g m = omega arith
  step_at (LoadArg e) a (Saw x) h f l g m = omega arith
  step_at (Entering e arg) a answer h f l g m = let few = frame_few k (callee_of c e (first_params k)) answer m in let same = entering c o k t e arg a answer in omega (arith, few, same)
  step_at Border (Some i) (Saw x) h f l g m = omega arith
  step_at Border (Some i) Quiet h f l g m = omega arith
  step_at (Closing e) a (Saw x) h f l g m = let few = closing_few k e x in omega (arith, few)
  step_at (Closing e) a Quiet h f l g m = omega arith
  step_at (Closing e) a Missed h f l g m = omega arith
  step_at (Closing e) a Refused h f l g m = omega arith
  step_at Border None (Saw x) h f l g m = absurd m
  step_at Border None Quiet h f l g m = omega arith
  step_at Border None Missed h f l g m = omega arith
  step_at Border None Refused h f l g m = omega arith
  step_at Unmatched a (Saw x) h f l g m = absurd m
  step_at Unmatched a Quiet h f l g m = omega arith
  step_at Unmatched a Missed h f l g m = omega arith
  step_at Unmatched a Refused h f l g m = omega arith
  step_at (Over e) a (Saw x) h f l g m = absurd m
  step_at (Over e) a Quiet h f l g m = omega arith
  step_at (Over e) a Missed h f l g m = omega arith
  step_at (Over e) a Refused h f l g m = omega arith
  step_at s a answer h f l g m = absurd m

step_units : (c : Code) (o : Options) (k : ℕ) (t : Standing) (answer : Answer) → GoesForward c → Inside o t → May (ask c o k t) answer → prints (entries k (ask c o k t) answer) + t.units ≤ (take_step c o k t answer).units
unfolding ask take_step
step_units c o k t answer f i m = step_at (length c.instrs) c o k t t.stage (slice_get c.instrs t.at) answer (found_in c.instrs t.at) (f t.at) i.lost i.stage m

-- a thread alone
pub few_prints : (c : Code) (o : Options) (k : ℕ) (part : List Entry) (t : Standing) → GoesForward c → 0 < o.tries → Follows c o k part t → prints part ≤ t.units
few_prints c o k part t f r Follows_start = omega arith
few_prints c o k part t f r (Follows_on before u answer g m) =
    let few = few_prints c o k before u f r g in
    let step = step_units c o k u answer f (inside c o k before u f r g) m in
    let long = ap (λ (l : List Entry). length l) (prints-append before (entries k (ask c o k u) answer)) ∙ length-append (prints_among before) (prints_among (entries k (ask c o k u) answer)) in
    omega (arith, few, step, long)

-- all parts
pub all_few : (m : ℕ) (parts : List TapeView) → ((k : ℕ) → prints (get_or parts k no_tape).list ≤ m) → prints (all_entries parts) ≤ length parts * m
all_few m [] f = omega arith
all_few m (part ∷ parts) f =
    let one = f 0 in
    let rest = all_few m parts (λ k. f (suc k)) in
    let long = ap (λ (l : List Entry). length l) (prints-append part.list (all_entries parts)) ∙ length-append (prints_among part.list) (prints_among (all_entries parts)) in
    let more : (suc (length parts)) * m ≡ length parts * m + m = suc-mul (length parts) m in
    omega (arith, one, rest, long, more)
