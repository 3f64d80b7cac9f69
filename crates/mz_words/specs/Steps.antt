-- The machine of one thread: what it asks next, and where each answer leads it.
--
-- A thread stands at a stage. At `Border` it is before an instruction and looks whether it has to stop; at `Ready` it is at
-- the instruction's first step, and where the instruction has more steps a stage of its own counts them. An instruction's
-- ask doesn't depend on the words, so a try that failed is asked again behind another look. A thread that is over asks nothing;
-- so does one whose next act is wild, at which no run of sound code arrives. An answer that its ask can't get leaves a thread
-- where it is.
--
-- The words below 197 are a header: 0 the next free word, 1 the next thread number, 2 how many threads are alive, 3 whether
-- all have to stop, 4 the next ticket; and of thread k 5 + 3k whether it may start, 6 + 3k its function and 7 + 3k its
-- argument. A block stands at an address: its tag, which is the number of its constructor plus 1, its adopter, which is 0
-- where it has none, and its fields. A lock is one word.
use Rattle.std.specs.Prelude.{ℕ, zero, suc, ◌+◌, ◌*◌, ◌-◌, leb, ltb, ◌==◌, Bool, if◌then◌else◌, List, [], ◌∷◌, ◌++◌, length, map, Option, Some, None, slice_get, slice_index_or, slice_set}
use Rattle.mz_tree.specs.declared.types.Place.{Place}
use Rattle.mz_tree.specs.Arithmetic.{computed}
use Rattle.mz_words.specs.declared.code.Act.{Act}
use Rattle.mz_words.specs.declared.code.Act.TheVariants.{Const, Copy, Arith as Arith_act, New, Read, Write, Retag, Switch, Branch, Jump, Call, Return, Give, Take, NewLock, Acquire, Release, Spawn, Print}
use Rattle.mz_words.specs.declared.code.Instr.{Instr}
use Rattle.mz_words.specs.declared.code.Start.{Start}
use Rattle.mz_words.specs.declared.code.Code.{Code}
use Rattle.mz_words.specs.declared.options.Options.{Options}
use Rattle.mz_words.specs.declared.ends.End.{End}
use Rattle.mz_words.specs.declared.ends.End.TheVariants as ending
use Rattle.mz_words.specs.declared.words.Until.TheVariants.{Zero, NotZero}
use Rattle.mz_words.specs.declared.asks.Ask.{Ask}
use Rattle.mz_words.specs.declared.asks.Ask.TheVariants.{Local, Frames, Looks, Starts, Loads, Adds, Stores, Tries, Prints, Stops, Leaves, Nothing}
use Rattle.mz_words.specs.declared.asks.Answer.{Answer}
use Rattle.mz_words.specs.declared.asks.Answer.TheVariants.{Saw, Quiet, Missed, Refused}
use Rattle.mz_words.specs.declared.stages.Stage.{Stage}
use Rattle.mz_words.specs.declared.stages.Stage.TheVariants.{Idle, IdleStop, IdleLive, LoadFun, LoadArg, Entering, Border, Ready, Making, Taking, Spawning, Unmatched, Closing, Over}
use Rattle.mz_words.specs.declared.stages.Waiting.{Waiting}
use Rattle.mz_words.specs.Standing.{Standing}

-- ---- parts of the code

-- a register, 0 where there is none
abbrev pub reg : Standing → ℕ → ℕ
reg t r = slice_index_or t.regs r 0

abbrev pub zeros : ℕ → List ℕ
zeros zero = []
zeros (suc n) = 0 ∷ zeros n

-- the registers of a new frame: the arguments, then zeros
abbrev pub frame_of : List ℕ → Start → List ℕ
frame_of args s = args ++ zeros (s.registers - length args)

-- the function of this number, where it has so many parameters
abbrev pub fits : ℕ → Option Start → Option Start
fits n None = None
fits n (Some s) = if s.params == n then Some s else None

abbrev pub callee_of : Code → ℕ → ℕ → Option Start
callee_of c f n = fits n (slice_get c.entries f)

-- how many words a block or a lock has
abbrev pub made_words : Act → ℕ
made_words (New to con fields) = length fields + 2
made_words (NewLock to) = 1
made_words _ = 0

-- the i-th word of what is made
abbrev pub new_word : ℕ → List ℕ → ℕ → ℕ
new_word con values zero = con + 1
new_word con values (suc zero) = 0
new_word con values (suc (suc i)) = slice_index_or values i 0

abbrev pub made_word : Standing → Act → ℕ → ℕ
made_word t (New to con fields) i = new_word con (map (reg t) fields) i
made_word t _ i = 0

-- the target of the constructor that has this tag
abbrev pub case_at : List ℕ → List ℕ → ℕ → Option ℕ
case_at (con ∷ cons) (target ∷ targets) tag = if con + 1 == tag then Some target else case_at cons targets tag
case_at _ _ tag = None

-- how many registers the frames have that wait
abbrev pub registers_of : List Waiting → ℕ
registers_of [] = 0
registers_of (w ∷ below) = length w.regs + registers_of below

-- whether the registers of all frames would be too many with those of the callee
abbrev pub is_full : Standing → Start → Bool
is_full t s = ltb 1048576 (length t.regs + registers_of t.below + s.registers)

-- ---- what is asked

-- an act that makes a unit. A thread with `steps` units asks for no other: its next event is its own end
abbrev pub counted : Options → Standing → Ask → Ask
counted o t a = if leb o.steps t.units then Local else a

-- a place outside the words is no place of a step
abbrev pub placed : Options → ℕ → Ask → Ask
placed o place a = if ltb place o.heap then a else Nothing

-- a call wants a frame, where there is such a function and its registers aren't too many
abbrev pub ask_call : Standing → Option Start → Ask
ask_call t None = Nothing
ask_call t (Some s) = if is_full t s then Local else Frames s.registers

-- a spawn draws a thread number, where there is such a function
abbrev pub ask_spawn : Option Start → Ask
ask_spawn None = Nothing
ask_spawn (Some s) = Adds 1 1

-- the first frame of a thread
abbrev pub ask_frame : Option Start → Ask
ask_frame None = Nothing
ask_frame (Some s) = Frames s.registers

-- the first step of an instruction
abbrev pub ask_act : Code → Options → Standing → Act → Ask
ask_act c o t (Const to value) = Local
ask_act c o t (Copy to source) = Local
ask_act c o t (Arith_act to op left right) = Local
ask_act c o t (New to con fields) = counted o t (Adds 0 (length fields + 2))
ask_act c o t (Read to block con field) = counted o t (placed o (reg t block + 2 + field) (Loads (reg t block + 2 + field)))
ask_act c o t (Write to block con field source) = counted o t (placed o (reg t block + 2 + field) (Stores (reg t block + 2 + field) (reg t source)))
ask_act c o t (Retag to block old con) = counted o t (placed o (reg t block) (Stores (reg t block) (con + 1)))
ask_act c o t (Switch block cons targets) = counted o t (placed o (reg t block) (Loads (reg t block)))
ask_act c o t (Branch test at_zero) = Local
ask_act c o t (Jump target) = Local
ask_act c o t (Call to callee args) = counted o t (ask_call t (callee_of c (reg t callee) (length args)))
ask_act c o t (Return source) = Local
ask_act c o t (Give to block adopter) = counted o t (placed o (reg t block + 1) (Stores (reg t block + 1) (reg t adopter)))
ask_act c o t (Take to block adopter) = counted o t (placed o (reg t block + 1) (Loads (reg t block + 1)))
ask_act c o t (NewLock to) = counted o t (Adds 0 1)
ask_act c o t (Acquire to lock) = counted o t (placed o (reg t lock) (Tries (reg t lock)))
ask_act c o t (Release to lock) = counted o t (placed o (reg t lock) (Stores (reg t lock) 0))
ask_act c o t (Spawn to callee arg) = counted o t (ask_spawn (callee_of c (reg t callee) 1))
ask_act c o t (Print to source) = counted o t (Prints (reg t source))

-- the store of the i-th word of what is made; of no other instruction
abbrev pub ask_making : Options → Standing → Act → ℕ → ℕ → Ask
ask_making o t (New to con fields) base i = counted o t (placed o (base + i) (Stores (base + i) (made_word t (New to con fields) i)))
ask_making o t (NewLock to) base i = counted o t (placed o (base + i) (Stores (base + i) 0))
ask_making o t _ base i = Nothing

-- the store that clears the adopter which a take saw
abbrev pub ask_taking : Options → Standing → Act → Ask
ask_taking o t (Take to block adopter) = counted o t (placed o (reg t block + 1) (Stores (reg t block + 1) 0))
ask_taking o t _ = Nothing

-- the steps of a spawn that drew number k: one more thread is alive; its function; its argument; and last that it may start
abbrev pub spawn_step : Standing → ℕ → ℕ → ℕ → ℕ → Ask
spawn_step t callee arg k zero = Adds 2 1
spawn_step t callee arg k (suc zero) = Stores (6 + 3 * k) (reg t callee)
spawn_step t callee arg k (suc (suc zero)) = Stores (7 + 3 * k) (reg t arg)
spawn_step t callee arg k (suc (suc (suc i))) = Stores (5 + 3 * k) 1

abbrev pub ask_spawning : Options → Standing → Act → ℕ → ℕ → Ask
ask_spawning o t (Spawn to callee arg) k i = counted o t (spawn_step t callee arg k i)
ask_spawning o t _ k i = Nothing

-- the entry that closes a record: at the end of the first frame one thread less is alive, and after another end all have to
-- stop
abbrev pub ask_closing : End → Ask
ask_closing ending.Done = Leaves
ask_closing _ = Stops

-- how many parameters the first function of thread k has: that of thread 0 is `main`
abbrev pub first_params : ℕ → ℕ
first_params k = if k == 0 then 0 else 1

-- what is asked at an instruction, and where there is none
abbrev pub ask_instr : Code → Options → Standing → Stage → Instr → Ask
ask_instr c o t Border i = Looks 3 NotZero
ask_instr c o t Ready i = ask_act c o t i.act
ask_instr c o t (Making base n) i = ask_making o t i.act base n
ask_instr c o t Taking i = ask_taking o t i.act
ask_instr c o t (Spawning k n) i = ask_spawning o t i.act k n
ask_instr c o t _ i = Nothing

abbrev pub ask_found : Code → Options → Standing → Stage → Option Instr → Ask
ask_found c o t stage None = Nothing
ask_found c o t stage (Some i) = ask_instr c o t stage i

-- what is asked at a stage: before the thread has started up to three looks, then two loads and a frame
abbrev pub ask_at : Code → Options → ℕ → Standing → Stage → Option Instr → Ask
ask_at c o k t Idle a = Looks (5 + 3 * k) NotZero
ask_at c o k t IdleStop a = Looks 3 NotZero
ask_at c o k t IdleLive a = Looks 2 Zero
ask_at c o k t LoadFun a = Starts (6 + 3 * k)
ask_at c o k t (LoadArg f) a = Starts (7 + 3 * k)
ask_at c o k t (Entering f arg) a = ask_frame (callee_of c f (first_params k))
ask_at c o k t (Closing e) a = ask_closing e
ask_at c o k t (Over e) a = Nothing
ask_at c o k t Unmatched a = Nothing
ask_at c o k t stage a = ask_found c o t stage a

-- what thread k asks next
unfoldable pub ask : Code → Options → ℕ → Standing → Ask
ask c o k t = ask_at c o k t t.stage (slice_get c.instrs t.at)

-- ---- where an answer leads

-- only the entry that closes the record is left
abbrev pub stop : End → Standing → Standing
stop e t = record t { stage = Closing e }

-- the instruction is done, with its result
abbrev pub gives : ℕ → ℕ → Standing → Standing
gives to value t = record { at = t.at + 1; regs = slice_set t.regs to value; below = t.below; units = t.units; lost = t.lost; stage = Border }

abbrev pub goes_to : ℕ → Standing → Standing
goes_to target t = record { at = target; regs = t.regs; below = t.below; units = t.units; lost = t.lost; stage = Border }

-- one more entry of an instruction, which is a unit and ends a row of failed tries
abbrev pub unit_at : Stage → Standing → Standing
unit_at stage t = record { at = t.at; regs = t.regs; below = t.below; units = t.units + 1; lost = 0; stage = stage }

-- arithmetic gives its result, or stops the thread where there is none
abbrev pub gives_or : Place → ℕ → Option ℕ → Standing → Standing
gives_or place to None t = stop (ending.Arith place) t
gives_or place to (Some n) t = gives to n t

-- back in the frame that waits, or the end of the first frame
abbrev pub returns : ℕ → List Waiting → Standing → Standing
returns value [] t = stop ending.Done t
returns value (w ∷ below) t = record { at = w.at; regs = slice_set w.regs w.to value; below = below; units = t.units; lost = t.lost; stage = Border }

-- a call is a unit: the frame waits behind its instruction, and the callee begins
abbrev pub calls : ℕ → List ℕ → Option Start → Standing → Standing
calls to args None t = t
calls to args (Some s) t = record {
  at = s.first;
  regs = frame_of (map (reg t) args) s;
  below = record { at = t.at + 1; regs = t.regs; to = to } ∷ t.below;
  units = t.units + 1;
  lost = t.lost;
  stage = Border;
}

-- an act that is local, or that ends the thread: by its units, or by its stack
abbrev pub full_or_spent : Options → Place → Standing → Standing
full_or_spent o place t = if leb o.steps t.units then stop ending.Spent t else stop (ending.StackFull place) t

-- an act without a step; where an act makes a unit, the thread had none left or its stack was full
abbrev pub take_local : Options → Place → Standing → Act → Standing
take_local o place t (Const to value) = gives to value t
take_local o place t (Copy to source) = gives to (reg t source) t
take_local o place t (Arith_act to op left right) = gives_or place to (computed op (reg t left) (reg t right)) t
take_local o place t (Branch test at_zero) = if reg t test == 0 then goes_to at_zero t else goes_to (t.at + 1) t
take_local o place t (Jump target) = goes_to target t
take_local o place t (Return source) = returns (reg t source) t.below t
take_local o place t (Call to callee args) = full_or_spent o place t
take_local o place t _ = stop ending.Spent t

-- an act whose frame is made
abbrev pub take_frame : Code → Standing → Act → Standing
take_frame c t (Call to callee args) = calls to args (callee_of c (reg t callee) (length args)) t
take_frame c t _ = t

-- a switch goes to the target, if any constructor has the tag
abbrev pub switched : Option ℕ → Standing → Standing
switched None t = unit_at Unmatched t
switched (Some target) t = goes_to target (unit_at Border t)

-- what an instruction does with what its first step saw
abbrev pub take_saw : Options → Place → Standing → Act → ℕ → Standing
take_saw o place t (New to con fields) n = if leb (n + (length fields + 2)) o.heap then unit_at (Making n 0) t else stop (ending.HeapFull place) (unit_at Ready t)
take_saw o place t (NewLock to) n = if leb (n + 1) o.heap then unit_at (Making n 0) t else stop (ending.HeapFull place) (unit_at Ready t)
take_saw o place t (Read to block con field) n = gives to n (unit_at Ready t)
take_saw o place t (Write to block con field source) n = gives to 0 (unit_at Ready t)
take_saw o place t (Retag to block old con) n = gives to 0 (unit_at Ready t)
take_saw o place t (Switch block cons targets) n = switched (case_at cons targets n) t
take_saw o place t (Give to block adopter) n = gives to 0 (unit_at Ready t)
take_saw o place t (Take to block adopter) n = if n == reg t adopter then unit_at Taking t else stop (ending.TakeFailed place) (unit_at Ready t)
take_saw o place t (Acquire to lock) n = gives to 0 (unit_at Ready t)
take_saw o place t (Release to lock) n = gives to 0 (unit_at Ready t)
take_saw o place t (Spawn to callee arg) n = if ltb n 64 then unit_at (Spawning n 0) t else stop (ending.ThreadsFull place) (unit_at Ready t)
take_saw o place t (Print to source) n = gives to 0 (unit_at Ready t)
take_saw o place t _ n = t

-- the register that gets what is made, and its address
abbrev pub result_of : Act → ℕ → ℕ × ℕ
result_of (New to con fields) base = (to, base)
result_of (NewLock to) base = (to, base)
result_of _ base = (0, 0)

-- one more word of what is made is stored
abbrev pub made_one : Standing → Act → ℕ → ℕ → Standing
made_one t a base i = if i + 1 == made_words a then gives (result_of a base).0 base (unit_at Ready t) else unit_at (Making base (i + 1)) t

-- the adopter is cleared
abbrev pub take_done : Standing → Act → Standing
take_done t (Take to block adopter) = gives to 0 (unit_at Ready t)
take_done t _ = t

-- one more step of a spawn
abbrev pub spawned_one : Standing → Act → ℕ → ℕ → Standing
spawned_one t (Spawn to callee arg) k i = if i == 3 then gives to 0 (unit_at Ready t) else unit_at (Spawning k (i + 1)) t
spawned_one t _ k i = t

-- a failed try: the thread gives up where it has made as many as it may, and else looks again whether it has to stop
abbrev pub missed_one : Options → Place → Standing → Standing
missed_one o place t = if t.lost + 1 == o.tries
    then record t { lost = t.lost + 1; stage = Closing (ending.Blocked place) }
    else record t { lost = t.lost + 1; stage = Border }

-- the answer without an entry: a frame is made, or an act without a step
abbrev pub take_quiet : Code → Options → Standing → Instr → Ask → Standing
take_quiet c o t i (Frames n) = take_frame c t i.act
take_quiet c o t i _ = take_local o i.place t i.act

-- where an answer leads at an instruction, and where there is none
abbrev pub take_instr : Code → Options → Standing → Stage → Instr → Answer → Standing
take_instr c o t Border i (Saw n) = record t { lost = 0; stage = Over ending.Halted }
take_instr c o t Border i Quiet = record t { stage = Ready }
take_instr c o t Ready i (Saw n) = take_saw o i.place t i.act n
take_instr c o t Ready i Quiet = take_quiet c o t i (ask_act c o t i.act)
take_instr c o t Ready i Missed = missed_one o i.place t
take_instr c o t Ready i Refused = stop ending.Memory t
take_instr c o t (Making base n) i (Saw m) = made_one t i.act base n
take_instr c o t (Making base n) i Quiet = stop ending.Spent t
take_instr c o t (Making base n) i Refused = stop ending.Memory t
take_instr c o t Taking i (Saw m) = take_done t i.act
take_instr c o t Taking i Quiet = stop ending.Spent t
take_instr c o t Taking i Refused = stop ending.Memory t
take_instr c o t (Spawning k n) i (Saw m) = spawned_one t i.act k n
take_instr c o t (Spawning k n) i Quiet = stop ending.Spent t
take_instr c o t (Spawning k n) i Refused = stop ending.Memory t
take_instr c o t stage i answer = t

abbrev pub take_found : Code → Options → Standing → Stage → Option Instr → Answer → Standing
take_found c o t stage None answer = t
take_found c o t stage (Some i) answer = take_instr c o t stage i answer

-- the first frame of thread k is made, with the argument that was loaded, but for thread 0
abbrev pub enters : ℕ → ℕ → Option Start → Standing → Standing
enters k arg None t = t
enters k arg (Some s) t = record { at = s.first; regs = frame_of (if k == 0 then [] else arg ∷ []) s; below = []; units = t.units; lost = t.lost; stage = Border }

-- where an answer leads at a stage
abbrev pub take_at : Code → Options → ℕ → Standing → Stage → Option Instr → Answer → Standing
take_at c o k t Idle a (Saw n) = record t { stage = LoadFun }
take_at c o k t Idle a Quiet = record t { stage = IdleStop }
take_at c o k t IdleStop a (Saw n) = record t { stage = Over ending.Halted }
take_at c o k t IdleStop a Quiet = record t { stage = IdleLive }
take_at c o k t IdleLive a (Saw n) = record t { stage = Over ending.NeverStarted }
take_at c o k t IdleLive a Quiet = record t { stage = Idle }
take_at c o k t LoadFun a (Saw n) = record t { stage = LoadArg n }
take_at c o k t (LoadArg f) a (Saw n) = record t { stage = Entering f n }
take_at c o k t (Entering f arg) a Quiet = enters k arg (callee_of c f (first_params k)) t
take_at c o k t (Entering f arg) a Refused = stop ending.Memory t
take_at c o k t (Closing e) a (Saw n) = record t { stage = Over e }
take_at c o k t Border a answer = take_found c o t Border a answer
take_at c o k t Ready a answer = take_found c o t Ready a answer
take_at c o k t (Making base i) a answer = take_found c o t (Making base i) a answer
take_at c o k t Taking a answer = take_found c o t Taking a answer
take_at c o k t (Spawning j i) a answer = take_found c o t (Spawning j i) a answer
take_at c o k t stage a answer = t

-- where an answer leads thread k
unfoldable pub take_step : Code → Options → ℕ → Standing → Answer → Standing
take_step c o k t answer = take_at c o k t t.stage (slice_get c.instrs t.at) answer

-- where each thread stands at the opening
abbrev pub opening : Standing
opening = record { at = 0; regs = []; below = []; units = 0; lost = 0; stage = Idle }
