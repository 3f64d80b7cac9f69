-- Steps: what one step of a thread does to a configuration, in eight kinds, and lists of steps.
use Rattle.std.specs.Prelude.{◌≡◌, ℕ, List, [], ◌∷◌, ◌++◌, length, map, Option, Some, slice_get}
use Rattle.mz_tree.specs.Code.{Command, Body, Call_op, Spawn_op, to_of, op_of}
use Rattle.mz_tree.specs.Programs.{Program}
use Rattle.mz_named.specs.Configurations.{Value, Int_value, Environment, Level, Frame, Suspended, Thread, Running, Ended, Stopped, Config}
use Rattle.mz_named.specs.Bodies.{Puts, Keeps, Binds, rest_of, start}
use Rattle.mz_named.specs.Operations.{Acts, Stops, Chooses, IsFunction}

-- the frame with its next command made
abbrev pub next : Frame → Environment → List Command → Frame
next f e commands = record { env = e; rest = record { commands = commands; value = f.rest.value }; outer = f.outer }

-- the frame in a branch of its next command
abbrev pub inside : Frame → ℕ → Body → List Command → Frame
inside f to body commands = record { env = f.env; rest = rest_of body; outer = record { to = to; after = record { commands = commands; value = f.rest.value } } ∷ f.outer }

-- thread k runs with these frames, and its next command is this one
pub record IsAt (w : Config) (k : ℕ) (f : Frame) (below : List Suspended) (c : Command) (rest : List Command) : Type 0 where
  pub here : slice_get w.threads k ≡ Some (Running f below)
  pub first : f.rest.commands ≡ c ∷ rest

-- thread k runs with these frames, and its body has no more commands
pub record IsDone (w : Config) (k : ℕ) (f : Frame) (below : List Suspended) : Type 0 where
  pub here : slice_get w.threads k ≡ Some (Running f below)
  pub done : f.rest.commands ≡ []

-- thread k is another now, and blocks and prints stay
pub record Moves (w : Config) (k : ℕ) (t : Thread) (w' : Config) : Type 0 where
  pub heap : Keeps w.heap.at w'.heap.at
  pub prints : w'.prints ≡ w.prints
  pub threads : Puts (slice_get w.threads) k t (slice_get w'.threads)

-- one step of thread k
pub data NStep (p : Program) (w : Config) (k : ℕ) (w' : Config) : Type 0 where
  -- a command that binds a value at once
  Step_acts : (f : Frame) (below : List Suspended) (c : Command) (rest : List Command) (v : Value) (e' : Environment) (out : List ℕ) → IsAt w k f below c rest →
      Acts w.heap.at f.env (op_of c) v w'.heap.at out → w'.prints ≡ w.prints ++ out → Binds f.env (to_of c) v e' →
      Puts (slice_get w.threads) k (Running (next f e' rest) below) (slice_get w'.threads) → NStep p w k w'
  -- arithmetic out of range, or a block that isn't the adopter's
  Step_stops : (f : Frame) (below : List Suspended) (c : Command) (rest : List Command) → IsAt w k f below c rest →
      Stops w.heap.at f.env (op_of c) → Moves w k Stopped w' → NStep p w k w'
  -- into a branch
  Step_branches : (f : Frame) (below : List Suspended) (c : Command) (rest : List Command) (body : Body) → IsAt w k f below c rest →
      Chooses w.heap.at f.env (op_of c) body → Moves w k (Running (inside f (to_of c) body rest) below) w' → NStep p w k w'
  -- out of a branch
  Step_joins : (f : Frame) (below : List Suspended) (level : Level) (outer : List Level) (e' : Environment) → IsDone w k f below → f.outer ≡ level ∷ outer →
      Binds f.env level.to (f.env f.rest.value) e' → Moves w k (Running (record { env = e'; rest = level.after; outer = outer }) below) w' → NStep p w k w'
  -- a call
  Step_calls : (f : Frame) (below : List Suspended) (c : Command) (rest : List Command) (callee : ℕ) (args : List ℕ) → IsAt w k f below c rest → op_of c ≡ Call_op callee args →
      (g : IsFunction p (f.env callee) (length args)) →
      Moves w k (Running (start g.fun (map f.env args)) (record { to = to_of c; frame = next f f.env rest } ∷ below)) w' → NStep p w k w'
  -- back to the caller
  Step_returns : (f : Frame) (waiting : Suspended) (below : List Suspended) (e' : Environment) → IsDone w k f (waiting ∷ below) → f.outer ≡ [] →
      Binds waiting.frame.env waiting.to (f.env f.rest.value) e' → Moves w k (Running (record waiting.frame { env = e' }) below) w' → NStep p w k w'
  -- the end of the first frame
  Step_ends : (f : Frame) → IsDone w k f [] → f.outer ≡ [] → Moves w k Ended w' → NStep p w k w'
  -- a new last thread
  Step_spawns : (f : Frame) (below : List Suspended) (c : Command) (rest : List Command) (callee arg : ℕ) (e' : Environment) (mid : ℕ → Option Thread) → IsAt w k f below c rest → op_of c ≡ Spawn_op callee arg →
      (g : IsFunction p (f.env callee) 1) → Binds f.env (to_of c) (Int_value 0) e' → Keeps w.heap.at w'.heap.at → w'.prints ≡ w.prints →
      Puts (slice_get w.threads) k (Running (next f e' rest) below) mid →
      Puts mid (length w.threads) (Running (start g.fun (f.env arg ∷ [])) []) (slice_get w'.threads) → NStep p w k w'

-- steps of any threads
pub data NSteps (p : Program) : Config → Config → Type 0 where
  No_steps : {w : Config} → NSteps p w w
  More_steps : {w w' w'' : Config} (k : ℕ) → NStep p w k w' → NSteps p w' w'' → NSteps p w w''
