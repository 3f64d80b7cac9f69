-- What each event of a thread keeps, and that it comes nearer to the end of its turn.
use Rattle.std.proofs.Common.{◌≡◌, ◌+◌, ◌-◌, ◌*◌, ◌<◌, ◌≤◌, ◌==◌, ◌⊎◌, inl, inr, ⊎_elim, ℕ, zero, suc, length, List, [], ◌∷◌, Option, Some, None, Bool, true, false, leb, ltb, refl, sym, ap, subst, arith, ◌∙◌, slice_get, if◌then◌else◌}
use Rattle.std.proofs.lemmas.Bool.{leb-false, eqb-false, eqb-true, true≢false}
use Rattle.mz_tree.specs.declared.types.Place.{Place}
use Rattle.mz_words.specs.declared.code.Act.{Act}
use Rattle.mz_words.specs.declared.code.Act.TheVariants.{Const, Copy, Arith as Arith_act, New, Read, Write, Retag, Switch, Branch, Jump, Call, Return, Give, Take, NewLock, Acquire, Release, Spawn, Print}
use Rattle.mz_words.specs.declared.code.Instr.{Instr}
use Rattle.mz_words.specs.declared.code.Start.{Start}
use Rattle.mz_words.specs.declared.code.Code.{Code}
use Rattle.mz_words.specs.declared.options.Options.{Options}
use Rattle.mz_words.specs.declared.ends.End.{End}
use Rattle.mz_words.specs.declared.ends.End.TheVariants as ending
use Rattle.mz_words.specs.declared.asks.Ask.{Ask}
use Rattle.mz_words.specs.declared.asks.Ask.TheVariants.{Local, Frames, Looks, Starts, Loads, Adds, Stores, Tries, Prints, Stops, Leaves, Nothing}
use Rattle.mz_words.specs.declared.asks.Answer.{Answer}
use Rattle.mz_words.specs.declared.asks.Answer.TheVariants.{Saw, Quiet, Missed, Refused}
use Rattle.mz_words.specs.declared.stages.Stage.{Stage}
use Rattle.mz_words.specs.declared.stages.Stage.TheVariants.{Idle, IdleStop, IdleLive, LoadFun, LoadArg, Entering, Border, Ready, Making, Taking, Spawning, Unmatched, Closing, Over}
use Rattle.mz_tape.specs.declared.entry.Entry.{Entry}
use Rattle.mz_words.specs.Standing.{Standing}
use Rattle.mz_words.specs.Steps.{reg, counted, callee_of, ask, ask_at, ask_act, ask_call, ask_making, ask_taking, ask_spawning, ask_closing, ask_frame, spawn_step, first_params, take_at, take_instr, take_quiet, take_frame, made_one, take_done, spawned_one, missed_one, enters, calls, gives, unit_at, take_step}
use Rattle.mz_words.specs.Answers.{May}
use Rattle.mz_words.specs.Turns.{pauses, pauses_at}
use Rattle.mz_words.specs.Replays.{Follows, Follows_start, Follows_on}
use Rattle.mz_thread.specs.Keeping.{IsForward, IsForwardAt, GoesForward, HeldAt, Held, IsOver}
use Rattle.mz_thread.specs.Turned.{LostAtEnd}
use Rattle.mz_thread.specs.Inside.{HasNoStep, Inside, LostWithin, StageWithin}
use Rattle.mz_thread.specs.Measure.{rank, turn_left}
use Rattle.mz_thread.specs.Stages.{IsFrame, IsCall, Small, StageSmall, IsThreadNumber}
use Rattle.mz_thread.specs.Answered.{Reserves, LeavesRoom}
use Rattle.mz_thread.proofs.Quiet.{quiet_local, frame_calls}
use Rattle.mz_thread.proofs.Moves.{by, counted_saw, placed_room, Change, called, stopped, tried_again, gave_up, saw_change, local_change, gave, at_stage, change_inside, change_held, change_falls, WordsAfter}

frame_or : (a : Ask) → IsFrame a ⊎ (IsFrame a → ⊥)
frame_or (Frames n) = inl tt
frame_or Local = inr (λ x. x)
frame_or (Looks p u) = inr (λ x. x)
frame_or (Starts p) = inr (λ x. x)
frame_or (Loads p) = inr (λ x. x)
frame_or (Adds p v) = inr (λ x. x)
frame_or (Stores p v) = inr (λ x. x)
frame_or (Tries p) = inr (λ x. x)
frame_or (Prints v) = inr (λ x. x)
frame_or Stops = inr (λ x. x)
frame_or Leaves = inr (λ x. x)
frame_or Nothing = inr (λ x. x)

frame_is : (c : Code) (o : Options) (t : Standing) (i : Instr) (a : Ask) → IsFrame a → take_frame c t i.act ≡ take_quiet c o t i a
frame_is c o t i (Frames n) f = refl
frame_is c o t i Local f = absurd f
frame_is c o t i (Looks p u) f = absurd f
frame_is c o t i (Starts p) f = absurd f
frame_is c o t i (Loads p) f = absurd f
frame_is c o t i (Adds p v) f = absurd f
frame_is c o t i (Stores p v) f = absurd f
frame_is c o t i (Tries p) f = absurd f
frame_is c o t i (Prints v) f = absurd f
frame_is c o t i Stops f = absurd f
frame_is c o t i Leaves f = absurd f
frame_is c o t i Nothing f = absurd f

call_made : (n : ℕ) (c : Code) (o : Options) (t : Standing) (a : Ask) (to : ℕ) (args : List ℕ) (s : Option Start) → IsFrame (counted o t (ask_call t s)) → Change n o t a Quiet (calls to args s t)
call_made n c o t a to args None = by (λ b. IsFrame (if b then Local else Nothing) → Change n o t a Quiet (calls to args None t)) (leb o.steps t.units) (λ e f. absurd f) (λ e f. absurd f)
call_made n c o t a to args (Some s) = by (λ b. IsFrame (if b then Local else ask_call t (Some s)) → Change n o t a Quiet (calls to args (Some s) t)) (leb o.steps t.units) (λ e f. absurd f)
    (λ e f. called (calls to args (Some s) t) (leb-false o.steps t.units e) refl (omega arith) refl refl)

frame_change : (n : ℕ) (c : Code) (o : Options) (t : Standing) (a : Ask) (x : Act) → IsFrame (ask_act c o t x) → IsCall x → Change n o t a Quiet (take_frame c t x)
frame_change n c o t a (Call to callee args) f z = call_made n c o t a to args (callee_of c (reg t callee) (length args)) f
frame_change n c o t a (Const to value) f z = absurd z
frame_change n c o t a (Copy to source) f z = absurd z
frame_change n c o t a (Arith_act to op left right) f z = absurd z
frame_change n c o t a (New to con fields) f z = absurd z
frame_change n c o t a (Read to block con field) f z = absurd z
frame_change n c o t a (Write to block con field source) f z = absurd z
frame_change n c o t a (Retag to block old con) f z = absurd z
frame_change n c o t a (Switch block cons targets) f z = absurd z
frame_change n c o t a (Branch test at_zero) f z = absurd z
frame_change n c o t a (Jump target) f z = absurd z
frame_change n c o t a (Return source) f z = absurd z
frame_change n c o t a (Give to block adopter) f z = absurd z
frame_change n c o t a (Take to block adopter) f z = absurd z
frame_change n c o t a (NewLock to) f z = absurd z
frame_change n c o t a (Acquire to lock) f z = absurd z
frame_change n c o t a (Release to lock) f z = absurd z
frame_change n c o t a (Spawn to callee arg) f z = absurd z
frame_change n c o t a (Print to source) f z = absurd z

missed_change : (n : ℕ) (o : Options) (t : Standing) (a : Ask) (p : Place) → t.lost < o.tries → Change n o t a Missed (missed_one o p t)
missed_change n o t a p l = by (λ b. Change n o t a Missed (if b then record t { lost = t.lost + 1; stage = Closing (ending.Blocked p) } else record t { lost = t.lost + 1; stage = Border })) (t.lost + 1 == o.tries)
    (λ e. gave_up _ p refl refl refl refl (eqb-true (t.lost + 1) o.tries e) refl) (λ e. let q = eqb-false (t.lost + 1) o.tries e in tried_again _ refl refl refl (omega (arith, l, q)) refl)

ready_change : (n : ℕ) (c : Code) (o : Options) (t : Standing) (i : Instr) (answer : Answer) → t.at < n → IsForward t.at i.act → t.lost < o.tries → May (ask_act c o t i.act) answer → Change n o t (ask_act c o t i.act) answer (take_instr c o t Ready i answer)
ready_change n c o t i (Saw m) h f l y = saw_change n c o t i.place i.act m y
ready_change n c o t i Quiet h f l y = ⊎_elim
    (λ z. subst (λ (x : Standing). Change n o t (ask_act c o t i.act) Quiet x) (frame_is c o t i (ask_act c o t i.act) z) (frame_change n c o t (ask_act c o t i.act) i.act z (frame_calls c o t i.act z)))
    (λ z. subst (λ (x : Standing). Change n o t (ask_act c o t i.act) Quiet x) (quiet_local c o t i (ask_act c o t i.act) z) (local_change n o t (ask_act c o t i.act) i.place i.act h f))
    (frame_or (ask_act c o t i.act))
ready_change n c o t i Missed h f l y = missed_change n o t _ i.place l
ready_change n c o t i Refused h f l y = stopped Refused ending.Memory tt tt

making_saw : (n : ℕ) (c : Code) (o : Options) (t : Standing) (x : Act) (base i m : ℕ) → i ≤ t.units → May (ask_making o t x base i) (Saw m) → Change n o t (ask_making o t x base i) (Saw m) (made_one t x base i)
making_saw n c o t (New to con fields) base i m l y = let k = counted_saw o t _ m (placed_room (ltb (base + i) o.heap) _ tt) y in
    by (λ b. Change n o t (ask_making o t (New to con fields) base i) (Saw m) (if b then gives to base (unit_at Ready t) else unit_at (Making base (i + 1)) t)) (i + 1 == length fields + 2)
    (λ e. gave n o t _ m to base k) (λ e. at_stage n o t _ m (Making base (i + 1)) k (omega (arith, l)))
making_saw n c o t (NewLock to) base i m l y = let k = counted_saw o t _ m (placed_room (ltb (base + i) o.heap) _ tt) y in
    by (λ b. Change n o t (ask_making o t (NewLock to) base i) (Saw m) (if b then gives to base (unit_at Ready t) else unit_at (Making base (i + 1)) t)) (i + 1 == 1)
    (λ e. gave n o t _ m to base k) (λ e. at_stage n o t _ m (Making base (i + 1)) k (omega (arith, l)))
making_saw n c o t (Const to value) base i m l y = absurd y
making_saw n c o t (Copy to source) base i m l y = absurd y
making_saw n c o t (Arith_act to op left right) base i m l y = absurd y
making_saw n c o t (Read to block con field) base i m l y = absurd y
making_saw n c o t (Write to block con field source) base i m l y = absurd y
making_saw n c o t (Retag to block old con) base i m l y = absurd y
making_saw n c o t (Switch block cons targets) base i m l y = absurd y
making_saw n c o t (Branch test at_zero) base i m l y = absurd y
making_saw n c o t (Jump target) base i m l y = absurd y
making_saw n c o t (Call to callee args) base i m l y = absurd y
making_saw n c o t (Return source) base i m l y = absurd y
making_saw n c o t (Give to block adopter) base i m l y = absurd y
making_saw n c o t (Take to block adopter) base i m l y = absurd y
making_saw n c o t (Acquire to lock) base i m l y = absurd y
making_saw n c o t (Release to lock) base i m l y = absurd y
making_saw n c o t (Spawn to callee arg) base i m l y = absurd y
making_saw n c o t (Print to source) base i m l y = absurd y

taking_saw : (n : ℕ) (c : Code) (o : Options) (t : Standing) (x : Act) (m : ℕ) → May (ask_taking o t x) (Saw m) → Change n o t (ask_taking o t x) (Saw m) (take_done t x)
taking_saw n c o t (Take to block adopter) m y = gave n o t _ m to 0 (counted_saw o t _ m (placed_room (ltb (reg t block + 1) o.heap) _ tt) y)
taking_saw n c o t (Const to value) m y = absurd y
taking_saw n c o t (Copy to source) m y = absurd y
taking_saw n c o t (Arith_act to op left right) m y = absurd y
taking_saw n c o t (New to con fields) m y = absurd y
taking_saw n c o t (Read to block con field) m y = absurd y
taking_saw n c o t (Write to block con field source) m y = absurd y
taking_saw n c o t (Retag to block old con) m y = absurd y
taking_saw n c o t (Switch block cons targets) m y = absurd y
taking_saw n c o t (Branch test at_zero) m y = absurd y
taking_saw n c o t (Jump target) m y = absurd y
taking_saw n c o t (Call to callee args) m y = absurd y
taking_saw n c o t (Return source) m y = absurd y
taking_saw n c o t (Give to block adopter) m y = absurd y
taking_saw n c o t (NewLock to) m y = absurd y
taking_saw n c o t (Acquire to lock) m y = absurd y
taking_saw n c o t (Release to lock) m y = absurd y
taking_saw n c o t (Spawn to callee arg) m y = absurd y
taking_saw n c o t (Print to source) m y = absurd y

spawn_step_room : (t : Standing) (callee arg j i : ℕ) → Reserves (spawn_step t callee arg j i)
spawn_step_room t callee arg j zero = tt
spawn_step_room t callee arg j (suc zero) = tt
spawn_step_room t callee arg j (suc (suc zero)) = tt
spawn_step_room t callee arg j (suc (suc (suc i))) = tt

spawning_saw : (n : ℕ) (c : Code) (o : Options) (t : Standing) (x : Act) (j i m : ℕ) → j < 64 → i ≤ t.units → May (ask_spawning o t x j i) (Saw m) → Change n o t (ask_spawning o t x j i) (Saw m) (spawned_one t x j i)
spawning_saw n c o t (Spawn to callee arg) j i m w l y = let k = counted_saw o t _ m (spawn_step_room t callee arg j i) y in
    by (λ b. Change n o t (ask_spawning o t (Spawn to callee arg) j i) (Saw m) (if b then gives to 0 (unit_at Ready t) else unit_at (Spawning j (i + 1)) t)) (i == 3)
    (λ e. gave n o t _ m to 0 k) (λ e. at_stage n o t _ m (Spawning j (i + 1)) k (w, omega (arith, l)))
spawning_saw n c o t (Const to value) j i m w l y = absurd y
spawning_saw n c o t (Copy to source) j i m w l y = absurd y
spawning_saw n c o t (Arith_act to op left right) j i m w l y = absurd y
spawning_saw n c o t (New to con fields) j i m w l y = absurd y
spawning_saw n c o t (Read to block con field) j i m w l y = absurd y
spawning_saw n c o t (Write to block con field source) j i m w l y = absurd y
spawning_saw n c o t (Retag to block old con) j i m w l y = absurd y
spawning_saw n c o t (Switch block cons targets) j i m w l y = absurd y
spawning_saw n c o t (Branch test at_zero) j i m w l y = absurd y
spawning_saw n c o t (Jump target) j i m w l y = absurd y
spawning_saw n c o t (Call to callee args) j i m w l y = absurd y
spawning_saw n c o t (Return source) j i m w l y = absurd y
spawning_saw n c o t (Give to block adopter) j i m w l y = absurd y
spawning_saw n c o t (Take to block adopter) j i m w l y = absurd y
spawning_saw n c o t (NewLock to) j i m w l y = absurd y
spawning_saw n c o t (Acquire to lock) j i m w l y = absurd y
spawning_saw n c o t (Release to lock) j i m w l y = absurd y
spawning_saw n c o t (Print to source) j i m w l y = absurd y

-- an instruction in the code stands before its end
abbrev pub in_code : Option Instr → ℕ → ℕ → Type 0
in_code None at n = Unit {0}
in_code (Some i) at n = at < n

up : (x : Option Instr) (i n : ℕ) → in_code x i n → in_code x (suc i) (suc n)
up None i n h = tt
up (Some x) i n h = omega (arith, h)

pub found_in : (xs : List Instr) (i : ℕ) → in_code (slice_get xs i) i (length xs)
found_in [] zero = tt
found_in [] (suc i) = tt
found_in (x ∷ xs) zero = omega arith
found_in (x ∷ xs) (suc i) = up (slice_get xs i) i (length xs) (found_in xs i)

-- the stages at an instruction, behind its look
abbrev pub Works : Stage → Type 0
Works Ready = Unit {0}
Works (Making base i) = Unit {0}
Works Taking = Unit {0}
Works (Spawning k i) = Unit {0}
Works _ = ⊥

pub no_miss : (o : Options) (t : Standing) (x : Ask) → (May x Missed → ⊥) → May (counted o t x) Missed → ⊥
no_miss o t x z = by (λ b. May (if b then Local else x) Missed → ⊥) (leb o.steps t.units) (λ e q. q) (λ e q. z q)

pub no_miss_placed : (b : Bool) (x : Ask) → (May x Missed → ⊥) → May (if b then x else Nothing) Missed → ⊥
no_miss_placed true x z q = z q
no_miss_placed false x z q = q

pub no_miss_making : (o : Options) (t : Standing) (x : Act) (base j : ℕ) → May (ask_making o t x base j) Missed → ⊥
no_miss_making o t (New to con fields) base j = no_miss o t _ (no_miss_placed (ltb (base + j) o.heap) _ (λ q. q))
no_miss_making o t (NewLock to) base j = no_miss o t _ (no_miss_placed (ltb (base + j) o.heap) _ (λ q. q))
no_miss_making o t x base j = λ q. q

pub no_miss_taking : (o : Options) (t : Standing) (x : Act) → May (ask_taking o t x) Missed → ⊥
no_miss_taking o t (Take to block adopter) = no_miss o t _ (no_miss_placed (ltb (reg t block + 1) o.heap) _ (λ q. q))
no_miss_taking o t x = λ q. q

no_miss_step : (t : Standing) (callee arg j i : ℕ) → May (spawn_step t callee arg j i) Missed → ⊥
no_miss_step t callee arg j zero = λ q. q
no_miss_step t callee arg j (suc zero) = λ q. q
no_miss_step t callee arg j (suc (suc zero)) = λ q. q
no_miss_step t callee arg j (suc (suc (suc i))) = λ q. q

pub no_miss_spawning : (o : Options) (t : Standing) (x : Act) (j i : ℕ) → May (ask_spawning o t x j i) Missed → ⊥
no_miss_spawning o t (Spawn to callee arg) j i = no_miss o t _ (no_miss_step t callee arg j i)
no_miss_spawning o t x j i = λ q. q

pub works_change : (n : ℕ) (c : Code) (o : Options) (k : ℕ) (t : Standing) (s : Stage) (a : Option Instr) (answer : Answer) → Works s → in_code a t.at n → IsForwardAt t.at a → LostWithin o s t.lost → StageWithin s t.units → May (ask_at c o k t s a) answer
    → Change n o t (ask_at c o k t s a) answer (take_at c o k t s a answer)
works_change n c o k t Ready (Some i) answer w h f l g y = ready_change n c o t i answer h f l y
works_change n c o k t (Making base j) (Some i) (Saw m) w h f l g y = making_saw n c o t i.act base j m g y
works_change n c o k t (Making base j) (Some i) Quiet w h f l g y = stopped Quiet ending.Spent tt tt
works_change n c o k t (Making base j) (Some i) Refused w h f l g y = stopped Refused ending.Memory tt tt
works_change n c o k t (Making base j) (Some i) Missed w h f l g y = absurd (no_miss_making o t i.act base j y)
works_change n c o k t Taking (Some i) (Saw m) w h f l g y = taking_saw n c o t i.act m y
works_change n c o k t Taking (Some i) Quiet w h f l g y = stopped Quiet ending.Spent tt tt
works_change n c o k t Taking (Some i) Refused w h f l g y = stopped Refused ending.Memory tt tt
works_change n c o k t Taking (Some i) Missed w h f l g y = absurd (no_miss_taking o t i.act y)
works_change n c o k t (Spawning j e) (Some i) (Saw m) w h f l g y = spawning_saw n c o t i.act j e m g.0 g.1 y
works_change n c o k t (Spawning j e) (Some i) Quiet w h f l g y = stopped Quiet ending.Spent tt tt
works_change n c o k t (Spawning j e) (Some i) Refused w h f l g y = stopped Refused ending.Memory tt tt
works_change n c o k t (Spawning j e) (Some i) Missed w h f l g y = absurd (no_miss_spawning o t i.act j e y)
works_change n c o k t Idle a answer w h f l g y = absurd w
works_change n c o k t IdleStop a answer w h f l g y = absurd w
works_change n c o k t IdleLive a answer w h f l g y = absurd w
works_change n c o k t LoadFun a answer w h f l g y = absurd w
works_change n c o k t (LoadArg _) a answer w h f l g y = absurd w
works_change n c o k t (Entering _ _) a answer w h f l g y = absurd w
works_change n c o k t Border a answer w h f l g y = absurd w
works_change n c o k t Unmatched a answer w h f l g y = absurd w
works_change n c o k t (Closing _) a answer w h f l g y = absurd w
works_change n c o k t (Over _) a answer w h f l g y = absurd w
works_change n c o k t Ready None (Saw m) w h f l g y = absurd y
works_change n c o k t Ready None Quiet w h f l g y = absurd y
works_change n c o k t Ready None Missed w h f l g y = absurd y
works_change n c o k t Ready None Refused w h f l g y = absurd y
works_change n c o k t (Making base j) None (Saw m) w h f l g y = absurd y
works_change n c o k t (Making base j) None Quiet w h f l g y = absurd y
works_change n c o k t (Making base j) None Missed w h f l g y = absurd y
works_change n c o k t (Making base j) None Refused w h f l g y = absurd y
works_change n c o k t Taking None (Saw m) w h f l g y = absurd y
works_change n c o k t Taking None Quiet w h f l g y = absurd y
works_change n c o k t Taking None Missed w h f l g y = absurd y
works_change n c o k t Taking None Refused w h f l g y = absurd y
works_change n c o k t (Spawning j e) None (Saw m) w h f l g y = absurd y
works_change n c o k t (Spawning j e) None Quiet w h f l g y = absurd y
works_change n c o k t (Spawning j e) None Missed w h f l g y = absurd y
works_change n c o k t (Spawning j e) None Refused w h f l g y = absurd y

entered_inside : (o : Options) (k arg : ℕ) (x : Option Start) (t : Standing) → Inside o t → 0 < o.tries → t.lost ≡ 0 → IsFrame (ask_frame x) → Inside o (enters k arg x t)
entered_inside o k arg None t i h z f = absurd f
entered_inside o k arg (Some s) t i h z f = record { units = i.units; frames = omega arith; lost = omega (arith, h, z); stage = tt }

pub frame_quiet : (x : Option Start) → May (ask_frame x) Quiet → IsFrame (ask_frame x)
frame_quiet None m = m
frame_quiet (Some s) m = tt

inside_at : (n : ℕ) (c : Code) (o : Options) (k : ℕ) (t : Standing) (s : Stage) (a : Option Instr) (answer : Answer) → Inside o t → in_code a t.at n → IsForwardAt t.at a → 0 < o.tries → LostWithin o s t.lost → StageWithin s t.units → May (ask_at c o k t s a) answer
    → Inside o (take_at c o k t s a answer)
inside_at n c o k t Idle a (Saw m) i h f r l g y = record { units = i.units; frames = i.frames; lost = l; stage = tt }
inside_at n c o k t Idle a Quiet i h f r l g y = record { units = i.units; frames = i.frames; lost = l; stage = tt }
inside_at n c o k t IdleStop a (Saw m) i h f r l g y = record { units = i.units; frames = i.frames; lost = omega (arith, l); stage = tt }
inside_at n c o k t IdleStop a Quiet i h f r l g y = record { units = i.units; frames = i.frames; lost = l; stage = tt }
inside_at n c o k t IdleLive a (Saw m) i h f r l g y = record { units = i.units; frames = i.frames; lost = omega (arith, l); stage = tt }
inside_at n c o k t IdleLive a Quiet i h f r l g y = record { units = i.units; frames = i.frames; lost = l; stage = tt }
inside_at n c o k t LoadFun a (Saw m) i h f r l g y = record { units = i.units; frames = i.frames; lost = l; stage = tt }
inside_at n c o k t (LoadArg e) a (Saw m) i h f r l g y = record { units = i.units; frames = i.frames; lost = l; stage = tt }
inside_at n c o k t (Entering e arg) a Quiet i h f r l g y = entered_inside o k arg (callee_of c e (first_params k)) t i r l (frame_quiet (callee_of c e (first_params k)) y)
inside_at n c o k t (Entering e arg) a Refused i h f r l g y = record { units = i.units; frames = i.frames; lost = omega (arith, l); stage = tt }
inside_at n c o k t (Closing e) a (Saw m) i h f r l g y = record { units = i.units; frames = i.frames; lost = l; stage = tt }
inside_at n c o k t Border (Some x) (Saw m) i h f r l g y = record { units = i.units; frames = i.frames; lost = omega arith; stage = tt }
inside_at n c o k t Border (Some x) Quiet i h f r l g y = record { units = i.units; frames = i.frames; lost = l; stage = tt }
inside_at n c o k t Ready a answer i h f r l g y = change_inside n o t _ answer _ i l (works_change n c o k t Ready a answer tt h f l g y)
inside_at n c o k t (Making base j) a answer i h f r l g y = change_inside n o t _ answer _ i l (works_change n c o k t (Making base j) a answer tt h f l g y)
inside_at n c o k t Taking a answer i h f r l g y = change_inside n o t _ answer _ i l (works_change n c o k t Taking a answer tt h f l g y)
inside_at n c o k t (Spawning j e) a answer i h f r l g y = change_inside n o t _ answer _ i l (works_change n c o k t (Spawning j e) a answer tt h f l g y)
inside_at n c o k t s a answer i h f r l g y = i

pub inside_on : (c : Code) (o : Options) (k : ℕ) (t : Standing) (answer : Answer) → GoesForward c → 0 < o.tries → Inside o t → May (ask c o k t) answer → Inside o (take_step c o k t answer)
unfolding ask take_step
inside_on c o k t answer f r i m = inside_at (length c.instrs) c o k t t.stage (slice_get c.instrs t.at) answer i (found_in c.instrs t.at) (f t.at) r i.lost i.stage m

pub inside : (c : Code) (o : Options) (k : ℕ) (part : List Entry) (t : Standing) → GoesForward c → 0 < o.tries → Follows c o k part t → Inside o t
inside c o k part t f r Follows_start = record { units = omega arith; frames = omega arith; lost = refl; stage = tt }
inside c o k part t f r (Follows_on before u answer g m) = inside_on c o k u answer f r (inside c o k before u f r g) m

pub inside_next : (c : Code) (o : Options) (k : ℕ) (t u : Standing) (answer : Answer) → GoesForward c → 0 < o.tries → Inside o t → May (ask c o k t) answer → u ≡ take_step c o k t answer → Inside o u
inside_next c o k t u answer f r i m e = subst (λ (x : Standing). Inside o x) (sym e) (inside_on c o k t answer f r i m)

-- ---- the words' count of failed tries, and the room

entering_lost : (k arg : ℕ) (x : Option Start) (t : Standing) (lost spare : ℕ) → IsFrame (ask_frame x) → t.lost ≡ lost → 1 ≤ spare → HeldAt (enters k arg x t).stage (enters k arg x t).lost lost spare
entering_lost k arg None t lost spare f e l = absurd f
entering_lost k arg (Some s) t lost spare f e l = (e, l)

pub no_frame_saw : (x : Option Start) (m : ℕ) → May (ask_frame x) (Saw m) → ⊥
no_frame_saw None m y = y
no_frame_saw (Some s) m y = y

pub no_frame_miss : (x : Option Start) → May (ask_frame x) Missed → ⊥
no_frame_miss None y = y
no_frame_miss (Some s) y = y

frame_room : (x : Option Start) (old new : ℕ) → LeavesRoom (ask_frame x) Quiet old new → old ≤ new
frame_room None old new r = r
frame_room (Some s) old new r = r

frame_refused : (x : Option Start) (old new : ℕ) → LeavesRoom (ask_frame x) Refused old new → old ≤ new
frame_refused None old new r = r
frame_refused (Some s) old new r = r

pub nothing_no : (answer : Answer) → May Nothing answer → ⊥
nothing_no (Saw m) y = y
nothing_no Quiet y = y
nothing_no Missed y = y
nothing_no Refused y = y

pub closing_saw : (e : End) (answer : Answer) → May (ask_closing e) answer → (m : ℕ) × (answer ≡ Saw m)
closing_saw e (Saw m) y = (m, refl)
closing_saw ending.Done Quiet y = absurd y
closing_saw (ending.TakeFailed p) Quiet y = absurd y
closing_saw (ending.Arith p) Quiet y = absurd y
closing_saw (ending.HeapFull p) Quiet y = absurd y
closing_saw (ending.ThreadsFull p) Quiet y = absurd y
closing_saw (ending.StackFull p) Quiet y = absurd y
closing_saw ending.Spent Quiet y = absurd y
closing_saw (ending.Blocked p) Quiet y = absurd y
closing_saw ending.Halted Quiet y = absurd y
closing_saw ending.NeverStarted Quiet y = absurd y
closing_saw ending.Memory Quiet y = absurd y
closing_saw ending.Done Missed y = absurd y
closing_saw (ending.TakeFailed p) Missed y = absurd y
closing_saw (ending.Arith p) Missed y = absurd y
closing_saw (ending.HeapFull p) Missed y = absurd y
closing_saw (ending.ThreadsFull p) Missed y = absurd y
closing_saw (ending.StackFull p) Missed y = absurd y
closing_saw ending.Spent Missed y = absurd y
closing_saw (ending.Blocked p) Missed y = absurd y
closing_saw ending.Halted Missed y = absurd y
closing_saw ending.NeverStarted Missed y = absurd y
closing_saw ending.Memory Missed y = absurd y
closing_saw ending.Done Refused y = absurd y
closing_saw (ending.TakeFailed p) Refused y = absurd y
closing_saw (ending.Arith p) Refused y = absurd y
closing_saw (ending.HeapFull p) Refused y = absurd y
closing_saw (ending.ThreadsFull p) Refused y = absurd y
closing_saw (ending.StackFull p) Refused y = absurd y
closing_saw ending.Spent Refused y = absurd y
closing_saw (ending.Blocked p) Refused y = absurd y
closing_saw ending.Halted Refused y = absurd y
closing_saw ending.NeverStarted Refused y = absurd y
closing_saw ending.Memory Refused y = absurd y

pub not_saw : {m : ℕ} (answer : Answer) → HasNoStep answer ⊎ (answer ≡ Missed) → answer ≡ Saw m → ⊥
not_saw Quiet h e = absurd (cc)
not_saw Missed h e = absurd (cc)
not_saw Refused h e = absurd (cc)
not_saw (Saw k) h e = ⊎_elim (λ z. z) (λ z. absurd (saw_missed z)) h
  where
    saw_missed : Saw k ≡ Missed → ⊥
    saw_missed z = absurd (cc)

held_on_at : (n : ℕ) (c : Code) (o : Options) (k : ℕ) (t : Standing) (s : Stage) (a : Option Instr) (answer : Answer) (lost spare lost' spare' : ℕ) → in_code a t.at n → IsForwardAt t.at a → LostWithin o s t.lost → StageWithin s t.units
    → HeldAt s t.lost lost spare → May (ask_at c o k t s a) answer → WordsAfter (ask_at c o k t s a) answer lost spare lost' spare' → HeldAt (take_at c o k t s a answer).stage (take_at c o k t s a answer).lost lost' spare'
held_on_at n c o k t Idle a (Saw m) lost spare lost' spare' h f l g q y w = (l ∙ sym w.lost_is, let r = w.room in omega (arith, r, q.1))
held_on_at n c o k t Idle a Quiet lost spare lost' spare' h f l g q y w = (q.0 ∙ sym w.lost_is, let r = w.room in omega (arith, r, q.1))
held_on_at n c o k t IdleStop a (Saw m) lost spare lost' spare' h f l g q y w = tt
held_on_at n c o k t IdleStop a Quiet lost spare lost' spare' h f l g q y w = (q.0 ∙ sym w.lost_is, let r = w.room in omega (arith, r, q.1))
held_on_at n c o k t IdleLive a (Saw m) lost spare lost' spare' h f l g q y w = tt
held_on_at n c o k t IdleLive a Quiet lost spare lost' spare' h f l g q y w = (q.0 ∙ sym w.lost_is, let r = w.room in omega (arith, r, q.1))
held_on_at n c o k t LoadFun a (Saw m) lost spare lost' spare' h f l g q y w = (l ∙ sym w.lost_is, let r = w.room in omega (arith, r, q.1))
held_on_at n c o k t (LoadArg e) a (Saw m) lost spare lost' spare' h f l g q y w = (l ∙ sym w.lost_is, let r = w.room in omega (arith, r, q.1))
held_on_at n c o k t (Entering e arg) a Quiet lost spare lost' spare' h f l g q y w = entering_lost k arg (callee_of c e (first_params k)) t lost' spare' (frame_quiet (callee_of c e (first_params k)) y) (q.0 ∙ sym w.lost_is)
    (let r = frame_room (callee_of c e (first_params k)) spare spare' w.room in omega (arith, r, q.1))
held_on_at n c o k t (Entering e arg) a Refused lost spare lost' spare' h f l g q y w = (q.0 ∙ sym w.lost_is, let r = frame_refused (callee_of c e (first_params k)) spare spare' w.room in omega (arith, r, q.1))
held_on_at n c o k t (Entering e arg) a (Saw m) lost spare lost' spare' h f l g q y w = absurd (no_frame_saw (callee_of c e (first_params k)) m y)
held_on_at n c o k t (Entering e arg) a Missed lost spare lost' spare' h f l g q y w = absurd (no_frame_miss (callee_of c e (first_params k)) y)
held_on_at n c o k t (Closing e) a (Saw m) lost spare lost' spare' h f l g q y w = tt
held_on_at n c o k t (Closing e) a Quiet lost spare lost' spare' h f l g q y w = absurd (let z = closing_saw e Quiet y in not_saw Quiet (inl tt) z.1)
held_on_at n c o k t (Closing e) a Missed lost spare lost' spare' h f l g q y w = absurd (let z = closing_saw e Missed y in not_saw Missed (inr refl) z.1)
held_on_at n c o k t (Closing e) a Refused lost spare lost' spare' h f l g q y w = absurd (let z = closing_saw e Refused y in not_saw Refused (inl tt) z.1)
held_on_at n c o k t Border (Some x) (Saw m) lost spare lost' spare' h f l g q y w = tt
held_on_at n c o k t Border (Some x) Quiet lost spare lost' spare' h f l g q y w = (q.0 ∙ sym w.lost_is, let r = w.room in omega (arith, r, q.1))
held_on_at n c o k t Ready a answer lost spare lost' spare' h f l g q y w = change_held n o t _ answer _ lost spare lost' spare' q.0 q.1 y w (works_change n c o k t Ready a answer tt h f l g y)
held_on_at n c o k t (Making base j) a answer lost spare lost' spare' h f l g q y w = change_held n o t _ answer _ lost spare lost' spare' q.0 q.1 y w (works_change n c o k t (Making base j) a answer tt h f l g y)
held_on_at n c o k t Taking a answer lost spare lost' spare' h f l g q y w = change_held n o t _ answer _ lost spare lost' spare' q.0 q.1 y w (works_change n c o k t Taking a answer tt h f l g y)
held_on_at n c o k t (Spawning j e) a answer lost spare lost' spare' h f l g q y w = change_held n o t _ answer _ lost spare lost' spare' q.0 q.1 y w (works_change n c o k t (Spawning j e) a answer tt h f l g y)
held_on_at n c o k t Border None answer lost spare lost' spare' h f l g q y w = absurd (nothing_no answer y)
held_on_at n c o k t Unmatched a answer lost spare lost' spare' h f l g q y w = absurd (nothing_no answer y)
held_on_at n c o k t (Over e) a answer lost spare lost' spare' h f l g q y w = absurd (nothing_no answer y)
held_on_at n c o k t s a answer lost spare lost' spare' h f l g q y w = absurd (y)

pub held_next : (c : Code) (o : Options) (k : ℕ) (t u : Standing) (answer : Answer) (lost spare lost' spare' : ℕ) → GoesForward c → Inside o t → Held t lost spare → May (ask c o k t) answer → WordsAfter (ask c o k t) answer lost spare lost' spare' → u ≡ take_step c o k t answer → Held u lost' spare'
unfolding ask take_step Held
held_next c o k t u answer lost spare lost' spare' f i h m w e = subst (λ (x : Standing). HeldAt x.stage x.lost lost' spare') (sym e)
    (held_on_at (length c.instrs) c o k t t.stage (slice_get c.instrs t.at) answer lost spare lost' spare' (found_in c.instrs t.at) (f t.at) i.lost i.stage h m w)

-- ---- the measure

no_pause : (o : Options) (from : ℕ) (answer : Answer) (u : Standing) → pauses o from answer u ≡ false → u.stage ≡ Border → answer ≡ Missed → ⊥
unfolding pauses
no_pause o from answer u p s m = true≢false (sym (ap (λ (x : Answer). pauses_at o from x u.units u.stage) m ∙ ap (λ (x : Stage). pauses_at o from Missed u.units x) s) ∙ p)

enter_falls : (n : ℕ) (o : Options) (k arg : ℕ) (x : Option Start) (t : Standing) → rank n t.stage ≡ n * 4 + 10 → IsFrame (ask_frame x) → turn_left n o (enters k arg x t) < turn_left n o t
unfolding turn_left
enter_falls n o k arg None t e f = absurd f
enter_falls n o k arg (Some s) t e f = let y : (n - s.first) * 4 ≤ n * 4 = omega arith in omega (arith, e, y)

falls_at : (n : ℕ) (c : Code) (o : Options) (k from : ℕ) (t : Standing) (s : Stage) (a : Option Instr) (answer : Answer) → rank n t.stage ≡ rank n s → Inside o t → in_code a t.at n → IsForwardAt t.at a → 0 < o.tries → LostWithin o s t.lost → StageWithin s t.units → May (ask_at c o k t s a) answer
    → pauses o from answer (take_at c o k t s a answer) ≡ false → turn_left n o (take_at c o k t s a answer) < turn_left n o t
unfolding turn_left pauses
falls_at n c o k from t Idle a (Saw m) e i h f r l g y p = omega (arith, e)
falls_at n c o k from t Idle a Quiet e i h f r l g y p = omega (arith, e)
falls_at n c o k from t IdleStop a (Saw m) e i h f r l g y p = absurd (true≢false p)
falls_at n c o k from t IdleStop a Quiet e i h f r l g y p = omega (arith, e)
falls_at n c o k from t IdleLive a (Saw m) e i h f r l g y p = absurd (true≢false p)
falls_at n c o k from t IdleLive a Quiet e i h f r l g y p = absurd (true≢false p)
falls_at n c o k from t LoadFun a (Saw m) e i h f r l g y p = omega (arith, e)
falls_at n c o k from t (LoadArg x) a (Saw m) e i h f r l g y p = omega (arith, e)
falls_at n c o k from t (Entering x arg) a Quiet e i h f r l g y p = enter_falls n o k arg (callee_of c x (first_params k)) t e (frame_quiet (callee_of c x (first_params k)) y)
falls_at n c o k from t (Entering x arg) a Refused e i h f r l g y p = omega (arith, e)
falls_at n c o k from t (Entering x arg) a (Saw m) e i h f r l g y p = absurd (no_frame_saw (callee_of c x (first_params k)) m y)
falls_at n c o k from t (Entering x arg) a Missed e i h f r l g y p = absurd (no_frame_miss (callee_of c x (first_params k)) y)
falls_at n c o k from t (Closing x) a (Saw m) e i h f r l g y p = absurd (true≢false p)
falls_at n c o k from t (Closing x) a Quiet e i h f r l g y p = absurd (let z = closing_saw x Quiet y in not_saw Quiet (inl tt) z.1)
falls_at n c o k from t (Closing x) a Missed e i h f r l g y p = absurd (let z = closing_saw x Missed y in not_saw Missed (inr refl) z.1)
falls_at n c o k from t (Closing x) a Refused e i h f r l g y p = absurd (let z = closing_saw x Refused y in not_saw Refused (inl tt) z.1)
falls_at n c o k from t Border (Some x) (Saw m) e i h f r l g y p = absurd (true≢false p)
falls_at n c o k from t Border (Some x) Quiet e i h f r l g y p = omega (arith, e)
falls_at n c o k from t Ready a answer e i h f r l g y p = change_falls n o t _ answer _ i (inside_at n c o k t Ready a answer i h f r l g y) e (no_pause o from answer (take_at c o k t Ready a answer) p) (works_change n c o k t Ready a answer tt h f l g y)
falls_at n c o k from t (Making base j) a answer e i h f r l g y p = change_falls n o t _ answer _ i (inside_at n c o k t (Making base j) a answer i h f r l g y) e (no_pause o from answer (take_at c o k t (Making base j) a answer) p) (works_change n c o k t (Making base j) a answer tt h f l g y)
falls_at n c o k from t Taking a answer e i h f r l g y p = change_falls n o t _ answer _ i (inside_at n c o k t Taking a answer i h f r l g y) e (no_pause o from answer (take_at c o k t Taking a answer) p) (works_change n c o k t Taking a answer tt h f l g y)
falls_at n c o k from t (Spawning j x) a answer e i h f r l g y p = change_falls n o t _ answer _ i (inside_at n c o k t (Spawning j x) a answer i h f r l g y) e (no_pause o from answer (take_at c o k t (Spawning j x) a answer) p) (works_change n c o k t (Spawning j x) a answer tt h f l g y)
falls_at n c o k from t Border None answer e i h f r l g y p = absurd (nothing_no answer y)
falls_at n c o k from t Unmatched a answer e i h f r l g y p = absurd (nothing_no answer y)
falls_at n c o k from t (Over x) a answer e i h f r l g y p = absurd (nothing_no answer y)
falls_at n c o k from t s a answer e i h f r l g y p = absurd (y)

pub falls_next : (c : Code) (o : Options) (k from : ℕ) (t u : Standing) (answer : Answer) (b : Bool) → GoesForward c → 0 < o.tries → Inside o t → May (ask c o k t) answer → u ≡ take_step c o k t answer → b ≡ pauses o from answer u → b ≡ false → turn_left (length c.instrs) o u < turn_left (length c.instrs) o t
unfolding ask take_step
falls_next c o k from t u answer b f r i m e p q = subst (λ (x : Standing). turn_left (length c.instrs) o x < turn_left (length c.instrs) o t) (sym e)
    (falls_at (length c.instrs) c o k from t t.stage (slice_get c.instrs t.at) answer refl i (found_in c.instrs t.at) (f t.at) r i.lost i.stage m (sym (p ∙ ap (λ (x : Standing). pauses o from answer x) e) ∙ q))

-- ---- what turn asks of these

small_stage : (s : Stage) (units : ℕ) → StageWithin s units → units ≤ 4294967295 → StageSmall s
small_stage (Making base i) units h l = omega (arith, h, l)
small_stage (Spawning k i) units h l = omega (arith, h.1, l)
small_stage s units h l = tt

end_most : (o : Options) (e : End) (lost : ℕ) → LostAtEnd o e lost → lost ≤ o.tries
end_most o (ending.Blocked p) lost h = omega (arith, h)
end_most o e lost h = omega (arith, h)

small_lost : (o : Options) (s : Stage) (lost : ℕ) → LostWithin o s lost → o.tries ≤ 4294967295 → lost < 18446744073709551615
small_lost o Idle lost h l = omega (arith, h, l)
small_lost o IdleStop lost h l = omega (arith, h, l)
small_lost o IdleLive lost h l = omega (arith, h, l)
small_lost o LoadFun lost h l = omega (arith, h, l)
small_lost o (LoadArg f) lost h l = omega (arith, h, l)
small_lost o (Entering f arg) lost h l = omega (arith, h, l)
small_lost o Border lost h l = omega (arith, h, l)
small_lost o Ready lost h l = omega (arith, h, l)
small_lost o (Making base i) lost h l = omega (arith, h, l)
small_lost o Taking lost h l = omega (arith, h, l)
small_lost o (Spawning k i) lost h l = omega (arith, h, l)
small_lost o Unmatched lost h l = omega (arith, h, l)
small_lost o (Closing e) lost h l = let m = end_most o e lost h in omega (arith, m, l)
small_lost o (Over e) lost h l = let m = end_most o e lost h in omega (arith, m, l)

pub small : (o : Options) (t : Standing) → o.steps ≤ 4294967295 → o.tries ≤ 4294967295 → Inside o t → Small t
small o t s r i = record { units = omega (arith, i.units, s); lost = small_lost o t.stage t.lost i.lost r; stage = small_stage t.stage t.units i.stage (omega (arith, i.units, s)) }

number_of : (s : Stage) (units : ℕ) → StageWithin s units → IsThreadNumber s
number_of (Spawning k i) units h = h.0
number_of s units h = tt

pub number : (o : Options) (t : Standing) → Inside o t → IsThreadNumber t.stage
number o t i = number_of t.stage t.units i.stage

held_theirs : (o : Options) (s : Stage) (mine theirs spare : ℕ) → (IsOver s → ⊥) → o.tries ≤ 4294967295 → LostWithin o s mine → HeldAt s mine theirs spare → (theirs < 18446744073709551615) × (0 < spare)
held_theirs o Idle mine theirs spare n l i h = (omega (arith, l, i, h.0), omega (arith, h.1))
held_theirs o IdleStop mine theirs spare n l i h = (omega (arith, l, i, h.0), omega (arith, h.1))
held_theirs o IdleLive mine theirs spare n l i h = (omega (arith, l, i, h.0), omega (arith, h.1))
held_theirs o LoadFun mine theirs spare n l i h = (omega (arith, l, i, h.0), omega (arith, h.1))
held_theirs o (LoadArg f) mine theirs spare n l i h = (omega (arith, l, i, h.0), omega (arith, h.1))
held_theirs o (Entering f arg) mine theirs spare n l i h = (omega (arith, l, i, h.0), omega (arith, h.1))
held_theirs o Border mine theirs spare n l i h = (omega (arith, l, i, h.0), omega (arith, h.1))
held_theirs o Ready mine theirs spare n l i h = (omega (arith, l, i, h.0), omega (arith, h.1))
held_theirs o (Making base j) mine theirs spare n l i h = (omega (arith, l, i, h.0), omega (arith, h.1))
held_theirs o Taking mine theirs spare n l i h = (omega (arith, l, i, h.0), omega (arith, h.1))
held_theirs o (Spawning k j) mine theirs spare n l i h = (omega (arith, l, i, h.0), omega (arith, h.1))
held_theirs o Unmatched mine theirs spare n l i h = (omega (arith, l, i, h.0), omega (arith, h.1))
held_theirs o (Closing e) mine theirs spare n l i h = let m = end_most o e mine i in (omega (arith, l, m, h.0), omega (arith, h.1))
held_theirs o (Over e) mine theirs spare n l i h = absurd (n tt)

pub over_asks : (c : Code) (o : Options) (k : ℕ) (t : Standing) (s : Stage) (a : Option Instr) → IsOver s → ask_at c o k t s a ≡ Nothing
over_asks c o k t (Over e) a h = refl
over_asks c o k t Idle a h = absurd h
over_asks c o k t IdleStop a h = absurd h
over_asks c o k t IdleLive a h = absurd h
over_asks c o k t LoadFun a h = absurd h
over_asks c o k t (LoadArg f) a h = absurd h
over_asks c o k t (Entering f arg) a h = absurd h
over_asks c o k t Border a h = absurd h
over_asks c o k t Ready a h = absurd h
over_asks c o k t (Making base j) a h = absurd h
over_asks c o k t Taking a h = absurd h
over_asks c o k t (Spawning j i) a h = absurd h
over_asks c o k t Unmatched a h = absurd h
over_asks c o k t (Closing e) a h = absurd h

pub room_for : (c : Code) (o : Options) (k : ℕ) (t : Standing) (theirs spare : ℕ) → o.tries ≤ 4294967295 → Inside o t → Held t theirs spare → (ask c o k t ≡ Nothing → ⊥) → (theirs < 18446744073709551615) × (0 < spare)
unfolding ask Held
room_for c o k t theirs spare l i h n = held_theirs o t.stage t.lost theirs spare (λ z. n (over_asks c o k t t.stage (slice_get c.instrs t.at) z)) l i.lost h
