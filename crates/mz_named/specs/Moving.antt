-- What becomes of a thread by what it is to do.
use Rattle.std.specs.Prelude.{◌≡◌, ℕ, ◌+◌, ◌<◌, List, [], ◌∷◌, ◌++◌, length, map, reverse, slice_set}
use Rattle.mz_named.specs.Configurations.{Level, Suspended, Thread, Running, Ended, Stopped}
use Rattle.mz_named.specs.View.{plain_rest, plain_level, plain_frame, plain_suspended, plain_thread, env_of}
use Rattle.mz_named.specs.declared.config.Value.{Value as CodeValue}
use Rattle.mz_named.specs.declared.config.Rest.{Rest as CodeRest}
use Rattle.mz_named.specs.declared.config.Level.{Level as CodeLevel}
use Rattle.mz_named.specs.declared.config.Frame.{Frame as CodeFrame}
use Rattle.mz_named.specs.declared.config.Suspended.{Suspended as CodeSuspended}
use Rattle.mz_named.specs.declared.config.Thread.{Thread as CodeThread}
use Rattle.mz_named.specs.declared.plan.Plan.{Plan}
use Rattle.mz_named.specs.declared.plan.Plan.TheVariants as plan
use Rattle.mz_named.specs.declared.turn.NamedTurn.{NamedTurn}
use Rattle.mz_named.specs.declared.turn.NamedTurn.TheVariants as turn

-- what is left after the next command
abbrev pub skipped : CodeRest → CodeRest
skipped r = record { commands = r.commands; next = r.next + 1; value = r.value }

-- the frame after its next command, with these values
abbrev pub moved : CodeFrame → List CodeValue → CodeFrame
moved f values = record { values = values; rest = skipped f.rest; outer = f.outer }

-- the bodies round a frame's, and the frames that wait, the innermost first
abbrev pub levels_of : List CodeLevel → List Level
levels_of outer = reverse (map plain_level outer)

abbrev pub waiting_of : List CodeSuspended → List Suspended
waiting_of below = reverse (map plain_suspended below)

-- a thread after its next command, in a branch, in a call, behind a branch, and back from a call
abbrev pub gone : CodeFrame → List CodeSuspended → List CodeValue → Thread
gone f below values = Running (record { env = env_of values; rest = plain_rest (skipped f.rest); outer = levels_of f.outer.items }) (waiting_of below)

abbrev pub entered : CodeFrame → List CodeSuspended → ℕ → CodeRest → Thread
entered f below to rest = Running (record { env = env_of f.values; rest = plain_rest rest; outer = record { to = to; after = plain_rest (skipped f.rest) } ∷ levels_of f.outer.items }) (waiting_of below)

abbrev pub called : CodeFrame → List CodeSuspended → ℕ → CodeFrame → Thread
called f below to frame = Running (plain_frame frame) (record { to = to; frame = plain_frame (moved f f.values) } ∷ waiting_of below)

abbrev pub joined : List CodeLevel → CodeLevel → List CodeSuspended → List CodeValue → Thread
joined before level below values = Running (record { env = env_of values; rest = plain_rest level.after; outer = levels_of before }) (waiting_of below)

abbrev pub returned : List CodeSuspended → CodeSuspended → List CodeValue → Thread
returned before waiting values = Running (record { env = env_of values; rest = plain_rest waiting.frame.rest; outer = levels_of waiting.frame.outer.items }) (waiting_of before)

-- what a thread may be told to do
abbrev pub Suits : CodeFrame → List CodeSuspended → Plan → Type 0
Suits f below (plan.Goes values) = f.rest.next < length f.rest.commands
Suits f below (plan.Branches to rest) = f.rest.next < length f.rest.commands
Suits f below (plan.Calls to frame) = f.rest.next < length f.rest.commands
Suits f below (plan.Spawns frame values) = f.rest.next < length f.rest.commands
Suits f below (plan.Joins values) = (before : List CodeLevel) × (level : CodeLevel) × (f.outer.items ≡ before ++ level ∷ [])
Suits f below (plan.Returns values) = (before : List CodeSuspended) × (waiting : CodeSuspended) × (below ≡ before ++ waiting ∷ [])
Suits f below _ = Unit {0}

-- what becomes of the thread, and what is answered
abbrev pub Turns : CodeFrame → List CodeSuspended → Plan → NamedTurn → Thread → Type 0
Turns f below (plan.Goes values) answer t = (answer ≡ turn.Stepped) × (t ≡ gone f below values)
Turns f below plan.FailsArith answer t = (answer ≡ turn.Arith) × (t ≡ Stopped)
Turns f below plan.FailsTake answer t = (answer ≡ turn.TakeFailed) × (t ≡ Stopped)
Turns f below (plan.Branches to rest) answer t = (answer ≡ turn.Stepped) × (t ≡ entered f below to rest)
Turns f below (plan.Calls to frame) answer t = (answer ≡ turn.Stepped) × (t ≡ called f below to frame)
Turns f below (plan.Spawns frame values) answer t = (answer ≡ turn.Stepped) × (t ≡ gone f below values)
Turns f below (plan.Joins values) answer t = (answer ≡ turn.Stepped) × ((before : List CodeLevel) (level : CodeLevel) → f.outer.items ≡ before ++ level ∷ [] → t ≡ joined before level below values)
Turns f below (plan.Returns values) answer t = (answer ≡ turn.Stepped) × ((before : List CodeSuspended) (waiting : CodeSuspended) → below ≡ before ++ waiting ∷ [] → t ≡ returned before waiting values)
Turns f below plan.Ends answer t = (answer ≡ turn.Ended) × (t ≡ Ended)
Turns f below plan.Waits answer t = (answer ≡ turn.Waits) × (t ≡ Running (plain_frame f) (waiting_of below))
Turns f below plan.Wrong answer t = (answer ≡ turn.Wrong) × (t ≡ Running (plain_frame f) (waiting_of below))

-- the threads that come: one for a spawn
abbrev pub Starts : Plan → List Thread → Type 0
Starts (plan.Spawns frame values) started = started ≡ Running (plain_frame frame) [] ∷ []
Starts _ started = started ≡ []

-- what becomes of the threads, where thread k does this, and what is answered
pub record Settles (threads : List CodeThread) (k : ℕ) (f : CodeFrame) (below : List CodeSuspended) (plan : Plan) (answer : NamedTurn) (threads' : List CodeThread) : Type 0 where
  pub thread : CodeThread
  pub started : List CodeThread
  pub put : threads' ≡ slice_set (threads ++ started) k thread
  pub turns : Turns f below plan answer (plain_thread thread)
  pub starts : Starts plan (map plain_thread started)
