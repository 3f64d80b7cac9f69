-- What each event does to a thread: one walk over stages and acts, and what follows from it.
use Rattle.std.proofs.Common.{◌≡◌, ◌+◌, ◌-◌, ◌*◌, ◌<◌, ◌≤◌, ◌==◌, ℕ, suc, length, List, [], ◌∷◌, Option, Some, None, Bool, true, false, leb, ltb, refl, sym, ap, subst, arith, ◌∙◌, if◌then◌else◌}
use Rattle.std.proofs.lemmas.Bool.{leb-false, ltb-true}
use Rattle.std.proofs.lemmas.Nat.{mul-le}
use Rattle.std.proofs.Math.Nat.{suc-mul}
use Rattle.mz_tree.specs.declared.types.Place.{Place}
use Rattle.mz_words.specs.declared.code.Act.{Act}
use Rattle.mz_words.specs.declared.code.Act.TheVariants.{Const, Copy, Arith as Arith_act, New, Read, Write, Retag, Switch, Branch, Jump, Call, Return, Give, Take, NewLock, Acquire, Release, Spawn, Print}
use Rattle.mz_words.specs.declared.code.Start.{Start}
use Rattle.mz_words.specs.declared.code.Code.{Code}
use Rattle.mz_words.specs.declared.options.Options.{Options}
use Rattle.mz_words.specs.declared.ends.End.{End}
use Rattle.mz_words.specs.declared.ends.End.TheVariants as ending
use Rattle.mz_words.specs.declared.asks.Ask.{Ask}
use Rattle.mz_words.specs.declared.asks.Ask.TheVariants.{Local, Frames, Looks, Starts, Loads, Adds, Stores, Tries, Prints, Stops, Leaves, Nothing}
use Rattle.mz_words.specs.declared.asks.Answer.{Answer}
use Rattle.mz_words.specs.declared.asks.Answer.TheVariants.{Saw, Quiet, Missed, Refused}
use Rattle.mz_words.specs.declared.stages.Stage.{Stage}
use Rattle.mz_words.specs.declared.stages.Stage.TheVariants.{Idle, IdleStop, IdleLive, LoadFun, LoadArg, Entering, Border, Ready, Making, Taking, Spawning, Unmatched, Closing, Over}
use Rattle.mz_words.specs.Standing.{Standing}
use Rattle.mz_words.specs.declared.stages.Waiting.{Waiting}
use Rattle.mz_words.specs.Steps.{reg, counted, callee_of, is_full, case_at, ask_act, ask_call, ask_spawn, take_local, take_saw, returns, gives, gives_or, goes_to, stop, unit_at, switched}
use Rattle.mz_words.specs.Answers.{May}
use Rattle.mz_thread.specs.Keeping.{IsForward, HeldAt}
use Rattle.mz_thread.specs.Turned.{IsNotBlocked, LostAtEnd}
use Rattle.mz_thread.specs.Inside.{IsRunning, HasNoStep, Inside, LostWithin, StageWithin}
use Rattle.mz_thread.specs.Measure.{weights, weight, rank, turn_left}
use Rattle.mz_thread.specs.Answered.{Reserves, LeavesRoom, lost_after}

pub by : (F : Bool → Type 0) (b : Bool) → (b ≡ true → F true) → (b ≡ false → F false) → F b
by F b hit miss = by_flag F b b refl hit miss
  where
    by_flag : (F : Bool → Type 0) (b c : Bool) → b ≡ c → (b ≡ true → F true) → (b ≡ false → F false) → F c
    by_flag F b true e hit miss = hit e
    by_flag F b false e hit miss = miss e

-- an answer with an entry to what is counted: units are left
pub record Counts (o : Options) (t : Standing) (a : Ask) : Type 0 where
  pub left : t.units < o.steps
  pub room : Reserves a

pub counted_saw : (o : Options) (t : Standing) (x : Ask) (n : ℕ) → Reserves x → May (counted o t x) (Saw n) → Counts o t (counted o t x)
counted_saw o t x n r = by (λ b. May (if b then Local else x) (Saw n) → Counts o t (if b then Local else x)) (leb o.steps t.units)
    (λ e m. absurd m) (λ e m. record { left = leb-false o.steps t.units e; room = r })

pub placed_room : (b : Bool) (x : Ask) → Reserves x → Reserves (if b then x else Nothing)
placed_room true x r = r
placed_room false x r = tt

spawn_room : (s : Option Start) → Reserves (ask_spawn s)
spawn_room None = tt
spawn_room (Some s) = tt

-- what an event does to a thread that is at an instruction
pub data Change (n : ℕ) (o : Options) (t : Standing) (a : Ask) : Answer → Standing → Type 0 where
  unit_made : (m : ℕ) (u : Standing) → Counts o t a → u.units ≡ t.units + 1 → u.below ≡ t.below → u.lost ≡ 0 → IsRunning u.stage u.units → Change n o t a (Saw m) u
  called : (u : Standing) → t.units < o.steps → u.units ≡ t.units + 1 → length u.below ≡ length t.below + 1 → u.lost ≡ t.lost → u.stage ≡ Border → Change n o t a Quiet u
  moved_on : (u : Standing) → weight n u + 4 ≤ weight n t → u.units ≡ t.units → length u.below ≤ length t.below → u.lost ≡ t.lost → u.stage ≡ Border → Change n o t a Quiet u
  stopped : (answer : Answer) (e : End) → HasNoStep answer → IsNotBlocked e → Change n o t a answer (stop e t)
  tried_again : (u : Standing) → u.units ≡ t.units → u.below ≡ t.below → u.lost ≡ t.lost + 1 → u.lost < o.tries → u.stage ≡ Border → Change n o t a Missed u
  gave_up : (u : Standing) (p : Place) → u.units ≡ t.units → u.at ≡ t.at → u.below ≡ t.below → u.lost ≡ t.lost + 1 → u.lost ≡ o.tries → u.stage ≡ Closing (ending.Blocked p) → Change n o t a Missed u

-- a result was given, after a unit
pub gave : (n : ℕ) (o : Options) (t : Standing) (a : Ask) (m to value : ℕ) → Counts o t a → Change n o t a (Saw m) (gives to value (unit_at Ready t))
gave n o t a m to value c = unit_made m (gives to value (unit_at Ready t)) c refl refl refl tt

pub at_stage : (n : ℕ) (o : Options) (t : Standing) (a : Ask) (m : ℕ) (s : Stage) → Counts o t a → IsRunning s (t.units + 1) → Change n o t a (Saw m) (unit_at s t)
at_stage n o t a m s c r = unit_made m (unit_at s t) c refl refl refl r

ended : (n : ℕ) (o : Options) (t : Standing) (a : Ask) (m : ℕ) (e : End) → IsNotBlocked e → Counts o t a → Change n o t a (Saw m) (stop e (unit_at Ready t))
ended n o t a m e b c = unit_made m (stop e (unit_at Ready t)) c refl refl refl b

pub saw_change : (n : ℕ) (c : Code) (o : Options) (t : Standing) (p : Place) (x : Act) (m : ℕ) → May (ask_act c o t x) (Saw m) → Change n o t (ask_act c o t x) (Saw m) (take_saw o p t x m)
saw_change n c o t p (Const to value) m h = absurd h
saw_change n c o t p (Copy to source) m h = absurd h
saw_change n c o t p (Arith_act to op left right) m h = absurd h
saw_change n c o t p (Branch test at_zero) m h = absurd h
saw_change n c o t p (Jump target) m h = absurd h
saw_change n c o t p (Return source) m h = absurd h
saw_change n c o t p (Call to callee args) m h = absurd (call_saw (callee_of c (reg t callee) (length args)) h)
  where
    no_saw : (s : Option Start) → May (ask_call t s) (Saw m) → ⊥
    no_saw None f = f
    no_saw (Some s) f = by (λ b. May (if b then Local else Frames s.registers) (Saw m) → ⊥) (is_full t s) (λ e z. z) (λ e z. z) f

    call_saw : (s : Option Start) → May (counted o t (ask_call t s)) (Saw m) → ⊥
    call_saw s f = by (λ b. May (if b then Local else ask_call t s) (Saw m) → ⊥) (leb o.steps t.units) (λ e z. z) (λ e z. no_saw s z) f
saw_change n c o t p (New to con fields) m h = let k = counted_saw o t _ m tt h in
    by (λ b. Change n o t (ask_act c o t (New to con fields)) (Saw m) (if b then unit_at (Making m 0) t else stop (ending.HeapFull p) (unit_at Ready t))) (leb (m + (length fields + 2)) o.heap)
    (λ e. at_stage n o t _ m (Making m 0) k (omega arith)) (λ e. ended n o t _ m _ tt k)
saw_change n c o t p (NewLock to) m h = let k = counted_saw o t _ m tt h in
    by (λ b. Change n o t (ask_act c o t (NewLock to)) (Saw m) (if b then unit_at (Making m 0) t else stop (ending.HeapFull p) (unit_at Ready t))) (leb (m + 1) o.heap)
    (λ e. at_stage n o t _ m (Making m 0) k (omega arith)) (λ e. ended n o t _ m _ tt k)
saw_change n c o t p (Read to block con field) m h = gave n o t _ m to m (counted_saw o t _ m (placed_room (ltb (reg t block + 2 + field) o.heap) _ tt) h)
saw_change n c o t p (Write to block con field source) m h = gave n o t _ m to 0 (counted_saw o t _ m (placed_room (ltb (reg t block + 2 + field) o.heap) _ tt) h)
saw_change n c o t p (Retag to block old con) m h = gave n o t _ m to 0 (counted_saw o t _ m (placed_room (ltb (reg t block) o.heap) _ tt) h)
saw_change n c o t p (Switch block cons targets) m h = to_case (case_at cons targets m) (counted_saw o t _ m (placed_room (ltb (reg t block) o.heap) _ tt) h)
  where
    to_case : (x : Option ℕ) → Counts o t (ask_act c o t (Switch block cons targets)) → Change n o t (ask_act c o t (Switch block cons targets)) (Saw m) (switched x t)
    to_case None k = at_stage n o t _ m Unmatched k tt
    to_case (Some target) k = unit_made m (goes_to target (unit_at Border t)) k refl refl refl tt
saw_change n c o t p (Give to block adopter) m h = gave n o t _ m to 0 (counted_saw o t _ m (placed_room (ltb (reg t block + 1) o.heap) _ tt) h)
saw_change n c o t p (Take to block adopter) m h = let k = counted_saw o t _ m (placed_room (ltb (reg t block + 1) o.heap) _ tt) h in
    by (λ b. Change n o t (ask_act c o t (Take to block adopter)) (Saw m) (if b then unit_at Taking t else stop (ending.TakeFailed p) (unit_at Ready t))) (m == reg t adopter)
    (λ e. at_stage n o t _ m Taking k tt) (λ e. ended n o t _ m _ tt k)
saw_change n c o t p (Acquire to lock) m h = gave n o t _ m to 0 (counted_saw o t _ m (placed_room (ltb (reg t lock) o.heap) _ tt) h)
saw_change n c o t p (Release to lock) m h = gave n o t _ m to 0 (counted_saw o t _ m (placed_room (ltb (reg t lock) o.heap) _ tt) h)
saw_change n c o t p (Spawn to callee arg) m h = let k = counted_saw o t _ m (spawn_room (callee_of c (reg t callee) 1)) h in
    by (λ b. Change n o t (ask_act c o t (Spawn to callee arg)) (Saw m) (if b then unit_at (Spawning m 0) t else stop (ending.ThreadsFull p) (unit_at Ready t))) (ltb m 64)
    (λ e. at_stage n o t _ m (Spawning m 0) k (ltb-true m 64 e, omega arith)) (λ e. ended n o t _ m _ tt k)
saw_change n c o t p (Print to source) m h = gave n o t _ m to 0 (counted_saw o t _ m tt h)

-- an act that Follows_on on where it stands
onward : (n : ℕ) (o : Options) (t : Standing) (a : Ask) (at : ℕ) (regs : List ℕ) → t.at < at → t.at < n → Change n o t a Quiet (record { at = at; regs = regs; below = t.below; units = t.units; lost = t.lost; stage = Border })
onward n o t a at regs h k = moved_on _ (omega (arith, h, k)) refl (omega arith) refl refl

gave_local : (n : ℕ) (o : Options) (t : Standing) (a : Ask) (p : Place) (to : ℕ) (x : Option ℕ) → t.at < n → Change n o t a Quiet (gives_or p to x t)
gave_local n o t a p to None k = stopped Quiet _ tt tt
gave_local n o t a p to (Some v) k = onward n o t a (t.at + 1) _ (omega arith) k

back : (n : ℕ) (o : Options) (t : Standing) (a : Ask) (value : ℕ) (ws : List Waiting) → t.below ≡ ws → Change n o t a Quiet (returns value ws t)
back n o t a value [] e = stopped Quiet _ tt tt
back n o t a value (w ∷ ws) e = moved_on _
    (let z : weight n t ≡ weights n (w ∷ ws) + (n - t.at) * 4 = ap (λ (l : List Waiting). weights n l + (n - t.at) * 4) e in omega (arith, z)) refl
    (let z : length t.below ≡ length (w ∷ ws) = ap (λ (l : List Waiting). length l) e in omega (arith, z)) refl refl

pub local_change : (n : ℕ) (o : Options) (t : Standing) (a : Ask) (p : Place) (x : Act) → t.at < n → IsForward t.at x → Change n o t a Quiet (take_local o p t x)
local_change n o t a p (Const to value) k f = onward n o t a (t.at + 1) _ (omega arith) k
local_change n o t a p (Copy to source) k f = onward n o t a (t.at + 1) _ (omega arith) k
local_change n o t a p (Arith_act to op left right) k f = gave_local n o t a p to _ k
local_change n o t a p (Branch test at_zero) k f = by (λ b. Change n o t a Quiet (if b then goes_to at_zero t else goes_to (t.at + 1) t)) (reg t test == 0)
    (λ e. onward n o t a at_zero t.regs f k) (λ e. onward n o t a (t.at + 1) t.regs (omega arith) k)
local_change n o t a p (Jump target) k f = onward n o t a target t.regs f k
local_change n o t a p (Return source) k f = back n o t a _ t.below refl
local_change n o t a p (Call to callee args) k f = by (λ b. Change n o t a Quiet (if b then stop ending.Spent t else stop (ending.StackFull p) t)) (leb o.steps t.units) (λ e. stopped Quiet _ tt tt) (λ e. stopped Quiet _ tt tt)
local_change n o t a p (New to con fields) k f = stopped Quiet _ tt tt
local_change n o t a p (Read to block con field) k f = stopped Quiet _ tt tt
local_change n o t a p (Write to block con field source) k f = stopped Quiet _ tt tt
local_change n o t a p (Retag to block old con) k f = stopped Quiet _ tt tt
local_change n o t a p (Switch block cons targets) k f = stopped Quiet _ tt tt
local_change n o t a p (Give to block adopter) k f = stopped Quiet _ tt tt
local_change n o t a p (Take to block adopter) k f = stopped Quiet _ tt tt
local_change n o t a p (NewLock to) k f = stopped Quiet _ tt tt
local_change n o t a p (Acquire to lock) k f = stopped Quiet _ tt tt
local_change n o t a p (Release to lock) k f = stopped Quiet _ tt tt
local_change n o t a p (Spawn to callee arg) k f = stopped Quiet _ tt tt
local_change n o t a p (Print to source) k f = stopped Quiet _ tt tt

-- ---- what a change keeps

pub end_lost : (o : Options) (e : End) (lost : ℕ) → IsNotBlocked e → lost < o.tries → LostAtEnd o e lost
end_lost o (ending.Blocked p) lost n l = absurd n
end_lost o e lost n l = l

running_lost : (o : Options) (s : Stage) (units : ℕ) → IsRunning s units → 0 < o.tries → LostWithin o s 0
running_lost o Border units r h = h
running_lost o Ready units r h = h
running_lost o (Making base i) units r h = h
running_lost o Taking units r h = h
running_lost o (Spawning k i) units r h = h
running_lost o Unmatched units r h = h
running_lost o (Closing e) units r h = end_lost o e 0 r h
running_lost o Idle units r h = refl
running_lost o IdleStop units r h = refl
running_lost o IdleLive units r h = refl
running_lost o LoadFun units r h = refl
running_lost o (LoadArg f) units r h = refl
running_lost o (Entering f arg) units r h = refl
running_lost o (Over e) units r h = absurd r

running_stage : (s : Stage) (units : ℕ) → IsRunning s units → StageWithin s units
running_stage Border units r = tt
running_stage Ready units r = tt
running_stage (Making base i) units r = r
running_stage Taking units r = tt
running_stage (Spawning k i) units r = r
running_stage Unmatched units r = tt
running_stage (Closing e) units r = tt
running_stage Idle units r = tt
running_stage IdleStop units r = tt
running_stage IdleLive units r = tt
running_stage LoadFun units r = tt
running_stage (LoadArg f) units r = tt
running_stage (Entering f arg) units r = tt
running_stage (Over e) units r = tt

running_rank : (n : ℕ) (s : Stage) (units : ℕ) → IsRunning s units → rank n s ≤ 3
running_rank n Border units r = omega arith
running_rank n Ready units r = omega arith
running_rank n (Making base i) units r = omega arith
running_rank n Taking units r = omega arith
running_rank n (Spawning k i) units r = omega arith
running_rank n Unmatched units r = omega arith
running_rank n (Closing e) units r = omega arith
running_rank n Idle units r = absurd r
running_rank n IdleStop units r = absurd r
running_rank n IdleLive units r = absurd r
running_rank n LoadFun units r = absurd r
running_rank n (LoadArg f) units r = absurd r
running_rank n (Entering f arg) units r = absurd r
running_rank n (Over e) units r = absurd r

running_held : (s : Stage) (units mine theirs spare : ℕ) → IsRunning s units → mine ≡ theirs → 1 ≤ spare → HeldAt s mine theirs spare
running_held Border units mine theirs spare r e l = (e, l)
running_held Ready units mine theirs spare r e l = (e, l)
running_held (Making base i) units mine theirs spare r e l = (e, l)
running_held Taking units mine theirs spare r e l = (e, l)
running_held (Spawning k i) units mine theirs spare r e l = (e, l)
running_held Unmatched units mine theirs spare r e l = (e, l)
running_held (Closing end) units mine theirs spare r e l = (e, l)
running_held Idle units mine theirs spare r e l = absurd r
running_held IdleStop units mine theirs spare r e l = absurd r
running_held IdleLive units mine theirs spare r e l = absurd r
running_held LoadFun units mine theirs spare r e l = absurd r
running_held (LoadArg f) units mine theirs spare r e l = absurd r
running_held (Entering f arg) units mine theirs spare r e l = absurd r
running_held (Over end) units mine theirs spare r e l = tt

at_stage_is : (o : Options) (s s' : Stage) (lost : ℕ) → s ≡ s' → LostWithin o s' lost → LostWithin o s lost
at_stage_is o s s' lost e l = subst (λ (x : Stage). LostWithin o x lost) (sym e) l

pub change_inside : (n : ℕ) (o : Options) (t : Standing) (a : Ask) (answer : Answer) (u : Standing) → Inside o t → t.lost < o.tries → Change n o t a answer u → Inside o u
change_inside n o t a _ _ i l (unit_made m u c e b z r) = record {
  units = omega (arith, c.left, e);
  frames = let w : length u.below ≡ length t.below = ap (λ (x : List Waiting). length x) b in omega (arith, i.frames, e, w);
  lost = subst (λ x. LostWithin o u.stage x) (sym z) (running_lost o u.stage u.units r (omega (arith, l)));
  stage = running_stage u.stage u.units r;
}
change_inside n o t a _ _ i l (called u h e b z s) = record {
  units = omega (arith, h, e);
  frames = omega (arith, i.frames, e, b);
  lost = at_stage_is o u.stage Border u.lost s (omega (arith, l, z));
  stage = subst (λ (x : Stage). StageWithin x u.units) (sym s) tt;
}
change_inside n o t a _ _ i l (moved_on u w e b z s) = record {
  units = omega (arith, i.units, e);
  frames = omega (arith, i.frames, e, b);
  lost = at_stage_is o u.stage Border u.lost s (omega (arith, l, z));
  stage = subst (λ (x : Stage). StageWithin x u.units) (sym s) tt;
}
change_inside n o t a _ _ i l (stopped answer e h b) = record { units = i.units; frames = i.frames; lost = end_lost o e t.lost b l; stage = tt }
change_inside n o t a _ _ i l (tried_again u e b z h s) = record {
  units = omega (arith, i.units, e);
  frames = let w : length u.below ≡ length t.below = ap (λ (x : List Waiting). length x) b in omega (arith, i.frames, e, w);
  lost = at_stage_is o u.stage Border u.lost s h;
  stage = subst (λ (x : Stage). StageWithin x u.units) (sym s) tt;
}
change_inside n o t a _ _ i l (gave_up u x e q0 b z h s) = record {
  units = omega (arith, i.units, e);
  frames = let w : length u.below ≡ length t.below = ap (λ (y : List Waiting). length y) b in omega (arith, i.frames, e, w);
  lost = at_stage_is o u.stage (Closing (ending.Blocked x)) u.lost s h;
  stage = subst (λ (y : Stage). StageWithin y u.units) (sym s) tt;
}

-- what an answer leaves of the words' count of failed tries, and of their room
pub record WordsAfter (a : Ask) (answer : Answer) (lost spare lost' spare' : ℕ) : Type 0 where
  pub lost_is : lost' ≡ lost_after a answer lost
  pub room : LeavesRoom a answer spare spare'

no_entry_room : (a : Ask) (answer : Answer) (old new : ℕ) → HasNoStep answer → LeavesRoom a answer old new → old ≤ new
no_entry_room (Looks p until) Quiet old new n r = r
no_entry_room (Starts p) Quiet old new n r = r
no_entry_room Stops Quiet old new n r = r
no_entry_room Leaves Quiet old new n r = r
no_entry_room Local Quiet old new n r = r
no_entry_room (Frames k) Quiet old new n r = r
no_entry_room (Loads p) Quiet old new n r = r
no_entry_room (Adds p v) Quiet old new n r = r
no_entry_room (Stores p v) Quiet old new n r = r
no_entry_room (Tries p) Quiet old new n r = r
no_entry_room (Prints v) Quiet old new n r = r
no_entry_room Nothing Quiet old new n r = r
no_entry_room (Looks p until) Refused old new n r = r
no_entry_room (Starts p) Refused old new n r = r
no_entry_room Stops Refused old new n r = r
no_entry_room Leaves Refused old new n r = r
no_entry_room Local Refused old new n r = r
no_entry_room (Frames k) Refused old new n r = r
no_entry_room (Loads p) Refused old new n r = r
no_entry_room (Adds p v) Refused old new n r = r
no_entry_room (Stores p v) Refused old new n r = r
no_entry_room (Tries p) Refused old new n r = r
no_entry_room (Prints v) Refused old new n r = r
no_entry_room Nothing Refused old new n r = r
no_entry_room a (Saw m) old new n r = absurd n
no_entry_room a Missed old new n r = absurd n

entry_room : (a : Ask) (m old new : ℕ) → Reserves a → LeavesRoom a (Saw m) old new → 1 ≤ new
entry_room Local m old new n r = r
entry_room (Frames k) m old new n r = r
entry_room (Loads p) m old new n r = r
entry_room (Adds p v) m old new n r = r
entry_room (Stores p v) m old new n r = r
entry_room (Tries p) m old new n r = r
entry_room (Prints v) m old new n r = r
entry_room Nothing m old new n r = r
entry_room (Looks p until) m old new n r = absurd n
entry_room (Starts p) m old new n r = absurd n
entry_room Stops m old new n r = absurd n
entry_room Leaves m old new n r = absurd n

missed_room : (a : Ask) (old new : ℕ) → May a Missed → LeavesRoom a Missed old new → old ≤ new
missed_room (Tries p) old new m r = r
missed_room Local old new m r = absurd m
missed_room (Frames k) old new m r = absurd m
missed_room (Loads p) old new m r = absurd m
missed_room (Adds p v) old new m r = absurd m
missed_room (Stores p v) old new m r = absurd m
missed_room (Prints v) old new m r = absurd m
missed_room Nothing old new m r = absurd m
missed_room (Looks p until) old new m r = absurd m
missed_room (Starts p) old new m r = absurd m
missed_room Stops old new m r = absurd m
missed_room Leaves old new m r = absurd m

held_same : (s s' : Stage) (mine theirs spare : ℕ) → s ≡ s' → HeldAt s' mine theirs spare → HeldAt s mine theirs spare
held_same s s' mine theirs spare e h = subst (λ (x : Stage). HeldAt x mine theirs spare) (sym e) h

no_entry_lost : (a : Ask) (answer : Answer) (lost : ℕ) → HasNoStep answer → lost_after a answer lost ≡ lost
no_entry_lost a Quiet lost n = refl
no_entry_lost a Refused lost n = refl
no_entry_lost a (Saw m) lost n = absurd n
no_entry_lost a Missed lost n = absurd n

pub change_held : (n : ℕ) (o : Options) (t : Standing) (a : Ask) (answer : Answer) (u : Standing) (lost spare lost' spare' : ℕ) → t.lost ≡ lost → 1 ≤ spare → May a answer → WordsAfter a answer lost spare lost' spare' → Change n o t a answer u → HeldAt u.stage u.lost lost' spare'
change_held n o t a _ _ lost spare lost' spare' e l m w (unit_made k u c e1 b z r) = running_held u.stage u.units u.lost lost' spare' r (z ∙ sym w.lost_is) (entry_room a k spare spare' c.room w.room)
change_held n o t a _ _ lost spare lost' spare' e l m w (called u h e1 b z s) = held_same u.stage Border u.lost lost' spare' s (z ∙ e ∙ sym w.lost_is, let k = no_entry_room a Quiet spare spare' tt w.room in omega (arith, l, k))
change_held n o t a _ _ lost spare lost' spare' e l m w (moved_on u h e1 b z s) = held_same u.stage Border u.lost lost' spare' s (z ∙ e ∙ sym w.lost_is, let k = no_entry_room a Quiet spare spare' tt w.room in omega (arith, l, k))
change_held n o t a _ _ lost spare lost' spare' e l m w (stopped answer x h b) = (e ∙ sym (w.lost_is ∙ no_entry_lost a answer lost h), let k = no_entry_room a answer spare spare' h w.room in omega (arith, l, k))
change_held n o t a _ _ lost spare lost' spare' e l m w (tried_again u e1 b z h s) = held_same u.stage Border u.lost lost' spare' s (z ∙ ap (λ x. x + 1) e ∙ sym w.lost_is, let k = missed_room a spare spare' m w.room in omega (arith, l, k))
change_held n o t a _ _ lost spare lost' spare' e l m w (gave_up u x e1 q0 b z h s) = held_same u.stage (Closing (ending.Blocked x)) u.lost lost' spare' s (z ∙ ap (λ y. y + 1) e ∙ sym w.lost_is, let k = missed_room a spare spare' m w.room in omega (arith, l, k))

-- ---- the measure

times_le : (a b m : ℕ) → a ≤ b → a * m ≤ b * m
times_le a b m h = mul-le a m b m h (omega arith)

times_more : (a b m : ℕ) → a ≡ b + 1 → a * m ≡ b * m + m
times_more a b m h = let e : a ≡ suc b = omega (arith, h) in ap (λ x. x * m) e ∙ suc-mul b m

weights_most : (n : ℕ) (ws : List Waiting) → weights n ws ≤ length ws * (n * 4 + 4)
weights_most n [] = omega arith
weights_most n (w ∷ ws) = let k = weights_most n ws in
    let e : length (w ∷ ws) * (n * 4 + 4) ≡ length ws * (n * 4 + 4) + (n * 4 + 4) = times_more (length (w ∷ ws)) (length ws) (n * 4 + 4) (omega arith) in
    let m : (n - w.at) * 4 ≤ n * 4 = omega arith in omega (arith, k, e, m)

-- a unit is worth more than all that is done without one
unit_falls : (n : ℕ) (o : Options) (t u : Standing) → t.units < o.steps → u.units ≡ t.units + 1 → length u.below ≤ u.units → rank n u.stage ≤ 3 → turn_left n o u < turn_left n o t
unfolding turn_left
unit_falls n o t u h e f r =
    let big = o.steps * (n * 4 + 4) + n * 8 + 40 in
    let z : (o.steps - t.units) * big ≡ (o.steps - u.units) * big + big = times_more (o.steps - t.units) (o.steps - u.units) big (omega (arith, h, e)) in
    let w = weights_most n u.below in
    let v = times_le (length u.below) o.steps (n * 4 + 4) (omega (arith, h, e, f)) in
    let y : (n - u.at) * 4 ≤ n * 4 = omega arith in
    omega (arith, z, w, v, y, r)

pub change_falls : (n : ℕ) (o : Options) (t : Standing) (a : Ask) (answer : Answer) (u : Standing) → Inside o t → Inside o u → rank n t.stage ≡ 2 → (u.stage ≡ Border → answer ≡ Missed → ⊥) → Change n o t a answer u → turn_left n o u < turn_left n o t
unfolding turn_left
change_falls n o t a _ _ i j k p (unit_made m u c e b z r) = unit_falls n o t u c.left e j.frames (running_rank n u.stage u.units r)
change_falls n o t a _ _ i j k p (called u h e b z s) = unit_falls n o t u h e j.frames (let q : rank n u.stage ≡ 3 = ap (λ (x : Stage). rank n x) s in omega (arith, q))
change_falls n o t a _ _ i j k p (moved_on u w e b z s) =
    let q : rank n u.stage ≡ 3 = ap (λ (x : Stage). rank n x) s in
    let y : (o.steps - u.units) * (o.steps * (n * 4 + 4) + n * 8 + 40) ≡ (o.steps - t.units) * (o.steps * (n * 4 + 4) + n * 8 + 40) = ap (λ x. (o.steps - x) * (o.steps * (n * 4 + 4) + n * 8 + 40)) e in
    omega (arith, q, y, w, k)
change_falls n o t a _ _ i j k p (stopped answer e h b) = omega (arith, k)
change_falls n o t a _ _ i j k p (tried_again u e b z h s) = absurd (p s refl)
change_falls n o t a _ _ i j k p (gave_up u x e q0 b z h s) =
    let q : rank n u.stage ≡ 1 = ap (λ (y : Stage). rank n y) s in
    let y : (o.steps - u.units) * (o.steps * (n * 4 + 4) + n * 8 + 40) ≡ (o.steps - t.units) * (o.steps * (n * 4 + 4) + n * 8 + 40) = ap (λ x. (o.steps - x) * (o.steps * (n * 4 + 4) + n * 8 + 40)) e in
    let c : weights n u.below ≡ weights n t.below = ap (λ (l : List Waiting). weights n l) b in
    omega (arith, q, y, c, q0, k)
