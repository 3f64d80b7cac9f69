-- The quiet answer to what makes no frame.
use Rattle.std.proofs.Common.{◌≡◌, ◌+◌, ℕ, zero, suc, slice_get, Bool, true, false, leb, ltb, if◌then◌else◌, Option, Some, None, refl}
use Rattle.mz_words.specs.declared.code.Code.{Code}
use Rattle.mz_words.specs.declared.code.Act.{Act}
use Rattle.mz_words.specs.declared.code.Act.TheVariants.{Const, Copy, Arith as Arith_act, New, Read, Write, Retag, Switch, Branch, Jump, Call, Return, Give, Take, NewLock, Acquire, Release, Spawn, Print}
use Rattle.mz_words.specs.declared.code.Instr.{Instr}
use Rattle.mz_words.specs.declared.code.Start.{Start}
use Rattle.mz_words.specs.declared.options.Options.{Options}
use Rattle.mz_words.specs.declared.asks.Ask.{Ask}
use Rattle.mz_words.specs.declared.asks.Ask.TheVariants.{Local, Frames, Looks, Starts, Loads, Adds, Stores, Tries, Prints, Stops, Leaves, Nothing}
use Rattle.mz_words.specs.declared.asks.Answer.{Answer}
use Rattle.mz_words.specs.declared.asks.Answer.TheVariants.{Saw, Quiet, Missed, Refused}
use Rattle.mz_words.specs.declared.stages.Stage.{Stage}
use Rattle.mz_words.specs.declared.stages.Stage.TheVariants.{Entering, Border, Ready, Making, Taking, Spawning, Closing}
use Rattle.mz_words.specs.declared.ends.End.{End}
use Rattle.mz_words.specs.declared.ends.End.TheVariants as ending
use Rattle.mz_words.specs.Answers.{May}
use Rattle.mz_words.specs.Standing.{Standing}
use Rattle.mz_words.specs.Steps.{take_quiet, take_local, ask_frame, ask_spawn, ask_act, ask, ask_at, ask_call, ask_making, ask_taking, ask_spawning, ask_closing, spawn_step, first_params, is_full, counted, reg, callee_of, enters, take_at, take_instr, take_frame}
use Rattle.mz_thread.specs.Stages.{IsFrame, IsCall, WantsFrame, framed}

pub quiet_local : (c : Code) (o : Options) (t : Standing) (i : Instr) (a : Ask) → (IsFrame a → ⊥) → take_local o i.place t i.act ≡ take_quiet c o t i a
quiet_local c o t i (Frames n) h = absurd (h tt)
quiet_local c o t i Local h = refl
quiet_local c o t i (Looks p u) h = refl
quiet_local c o t i (Starts p) h = refl
quiet_local c o t i (Loads p) h = refl
quiet_local c o t i (Adds p v) h = refl
quiet_local c o t i (Stores p v) h = refl
quiet_local c o t i (Tries p) h = refl
quiet_local c o t i (Prints v) h = refl
quiet_local c o t i Stops h = refl
quiet_local c o t i Leaves h = refl
quiet_local c o t i Nothing h = refl

-- a thread that starts where there is no such function
pub enters_none : (k arg : ℕ) (s : Option Start) (t : Standing) → (IsFrame (ask_frame s) → ⊥) → t ≡ enters k arg s t
enters_none k arg None t h = refl
enters_none k arg (Some s) t h = absurd (h tt)

by_bool : (F : Ask → Type 0) (b : Bool) (x : Ask) → F (if b then Local else x) → (F Local → ⊥) → F x
by_bool F true x f n = absurd (n f)
by_bool F false x f n = f

placed_no : (b : Bool) (x : Ask) → (IsFrame x → ⊥) → IsFrame (if b then x else Nothing) → ⊥
placed_no true x n f = n f
placed_no false x n f = f

-- only a call makes a frame
pub frame_calls : (c : Code) (o : Options) (t : Standing) (a : Act) → IsFrame (ask_act c o t a) → IsCall a
frame_calls c o t (Call to callee args) f = tt
frame_calls c o t (Const to value) f = f
frame_calls c o t (Copy to source) f = f
frame_calls c o t (Arith_act to op left right) f = f
frame_calls c o t (New to con fields) f = by_bool IsFrame (leb o.steps t.units) _ f (λ x. x)
frame_calls c o t (Read to block con field) f = placed_no (ltb (reg t block + 2 + field) o.heap) _ (λ x. x) (by_bool IsFrame (leb o.steps t.units) _ f (λ x. x))
frame_calls c o t (Write to block con field source) f = placed_no (ltb (reg t block + 2 + field) o.heap) _ (λ x. x) (by_bool IsFrame (leb o.steps t.units) _ f (λ x. x))
frame_calls c o t (Retag to block old con) f = placed_no (ltb (reg t block) o.heap) _ (λ x. x) (by_bool IsFrame (leb o.steps t.units) _ f (λ x. x))
frame_calls c o t (Switch block cons targets) f = placed_no (ltb (reg t block) o.heap) _ (λ x. x) (by_bool IsFrame (leb o.steps t.units) _ f (λ x. x))
frame_calls c o t (Branch test at_zero) f = f
frame_calls c o t (Jump target) f = f
frame_calls c o t (Return source) f = f
frame_calls c o t (Give to block adopter) f = placed_no (ltb (reg t block + 1) o.heap) _ (λ x. x) (by_bool IsFrame (leb o.steps t.units) _ f (λ x. x))
frame_calls c o t (Take to block adopter) f = placed_no (ltb (reg t block + 1) o.heap) _ (λ x. x) (by_bool IsFrame (leb o.steps t.units) _ f (λ x. x))
frame_calls c o t (NewLock to) f = by_bool IsFrame (leb o.steps t.units) _ f (λ x. x)
frame_calls c o t (Acquire to lock) f = placed_no (ltb (reg t lock) o.heap) _ (λ x. x) (by_bool IsFrame (leb o.steps t.units) _ f (λ x. x))
frame_calls c o t (Release to lock) f = placed_no (ltb (reg t lock) o.heap) _ (λ x. x) (by_bool IsFrame (leb o.steps t.units) _ f (λ x. x))
frame_calls c o t (Spawn to callee arg) f = spawn_no (callee_of c (reg t callee) 1) (by_bool IsFrame (leb o.steps t.units) _ f (λ x. x))
  where
    spawn_no : (s : Option Start) → IsFrame (ask_spawn s) → ⊥
    spawn_no None f = f
    spawn_no (Some s) f = f
frame_calls c o t (Print to source) f = by_bool IsFrame (leb o.steps t.units) _ f (λ x. x)

no_frame_making : (o : Options) (t : Standing) (x : Act) (base j : ℕ) → IsFrame (ask_making o t x base j) → ⊥
no_frame_making o t (New to con fields) base j f = placed_no (ltb (base + j) o.heap) _ (λ z. z) (by_bool IsFrame (leb o.steps t.units) _ f (λ z. z))
no_frame_making o t (NewLock to) base j f = placed_no (ltb (base + j) o.heap) _ (λ z. z) (by_bool IsFrame (leb o.steps t.units) _ f (λ z. z))
no_frame_making o t x base j f = f

no_frame_taking : (o : Options) (t : Standing) (x : Act) → IsFrame (ask_taking o t x) → ⊥
no_frame_taking o t (Take to block adopter) f = placed_no (ltb (reg t block + 1) o.heap) _ (λ z. z) (by_bool IsFrame (leb o.steps t.units) _ f (λ z. z))
no_frame_taking o t x f = f

no_frame_step : (t : Standing) (callee arg j i : ℕ) → IsFrame (spawn_step t callee arg j i) → ⊥
no_frame_step t callee arg j zero f = f
no_frame_step t callee arg j (suc zero) f = f
no_frame_step t callee arg j (suc (suc zero)) f = f
no_frame_step t callee arg j (suc (suc (suc i))) f = f

no_frame_spawning : (o : Options) (t : Standing) (x : Act) (j i : ℕ) → IsFrame (ask_spawning o t x j i) → ⊥
no_frame_spawning o t (Spawn to callee arg) j i f = no_frame_step t callee arg j i (by_bool IsFrame (leb o.steps t.units) _ f (λ z. z))
no_frame_spawning o t x j i f = f

no_frame_closing : (e : End) → IsFrame (ask_closing e) → ⊥
no_frame_closing ending.Done f = f
no_frame_closing e f = f

frame_at : (c : Code) (o : Options) (k : ℕ) (t : Standing) (s : Stage) (a : Option Instr) → IsFrame (ask_at c o k t s a) → WantsFrame s
frame_at c o k t (Entering e arg) a f = tt
frame_at c o k t Ready a f = tt
frame_at c o k t (Making base j) (Some i) f = absurd (no_frame_making o t i.act base j f)
frame_at c o k t Taking (Some i) f = absurd (no_frame_taking o t i.act f)
frame_at c o k t (Spawning j e) (Some i) f = absurd (no_frame_spawning o t i.act j e f)
frame_at c o k t (Closing e) a f = absurd (no_frame_closing e f)
frame_at c o k t Border (Some i) f = f
frame_at c o k t Border None f = f
frame_at c o k t (Making base j) None f = f
frame_at c o k t Taking None f = f
frame_at c o k t (Spawning j e) None f = f
frame_at c o k t s a f = f

pub frame_stage : (c : Code) (o : Options) (k : ℕ) (t : Standing) → IsFrame (ask c o k t) → WantsFrame t.stage
unfolding ask
frame_stage c o k t f = frame_at c o k t t.stage (slice_get c.instrs t.at) f

pub frame_ask : (c : Code) (o : Options) (k : ℕ) (t : Standing) → (IsFrame (ask c o k t) → ⊥) → IsFrame (ask_at c o k t t.stage (slice_get c.instrs t.at)) → ⊥
unfolding ask
frame_ask c o k t f = f

pub call_room : (o : Options) (t : Standing) (s : Start) → IsFrame (counted o t (ask_call t (Some s))) → is_full t s ≡ false
call_room o t s f = full_no (is_full t s) (by_bool IsFrame (leb o.steps t.units) (ask_call t (Some s)) f (λ z. z))
  where
    full_no : (b : Bool) → IsFrame (if b then Local else Frames s.registers) → b ≡ false
    full_no true f = absurd f
    full_no false f = refl

pub entering_moved : (c : Code) (o : Options) (k f arg : ℕ) (t : Standing) (a : Option Instr) (answer : Answer) → May (Frames 0) answer → framed answer (enters k arg (callee_of c f (first_params k)) t) t ≡ take_at c o k t (Entering f arg) a answer
entering_moved c o k f arg t a Quiet m = refl
entering_moved c o k f arg t a Refused m = refl
entering_moved c o k f arg t a Missed m = absurd m
entering_moved c o k f arg t a (Saw n) m = absurd m

frame_quiet : (c : Code) (t : Standing) (o : Options) (i : Instr) (a : Ask) → IsFrame a → take_frame c t i.act ≡ take_quiet c o t i a
frame_quiet c t o i (Frames n) f = refl
frame_quiet c t o i Local f = absurd f
frame_quiet c t o i (Looks p u) f = absurd f
frame_quiet c t o i (Starts p) f = absurd f
frame_quiet c t o i (Loads p) f = absurd f
frame_quiet c t o i (Adds p v) f = absurd f
frame_quiet c t o i (Stores p v) f = absurd f
frame_quiet c t o i (Tries p) f = absurd f
frame_quiet c t o i (Prints v) f = absurd f
frame_quiet c t o i Stops f = absurd f
frame_quiet c t o i Leaves f = absurd f
frame_quiet c t o i Nothing f = absurd f

pub call_moved : (c : Code) (o : Options) (t : Standing) (i : Instr) (answer : Answer) → IsFrame (ask_act c o t i.act) → May (Frames 0) answer → framed answer (take_frame c t i.act) t ≡ take_instr c o t Ready i answer
call_moved c o t i Quiet f m = frame_quiet c t o i (ask_act c o t i.act) f
call_moved c o t i Refused f m = refl
call_moved c o t i Missed f m = absurd m
call_moved c o t i (Saw n) f m = absurd m

pub frame_may : (a : Ask) (answer : Answer) → IsFrame a → May (Frames 0) answer → May a answer
frame_may (Frames n) Quiet f m = m
frame_may (Frames n) Refused f m = m
frame_may (Frames n) Missed f m = m
frame_may (Frames n) (Saw k) f m = m
frame_may Local answer f m = absurd f
frame_may (Looks p u) answer f m = absurd f
frame_may (Starts p) answer f m = absurd f
frame_may (Loads p) answer f m = absurd f
frame_may (Adds p v) answer f m = absurd f
frame_may (Stores p v) answer f m = absurd f
frame_may (Tries p) answer f m = absurd f
frame_may (Prints v) answer f m = absurd f
frame_may Stops answer f m = absurd f
frame_may Leaves answer f m = absurd f
frame_may Nothing answer f m = absurd f
