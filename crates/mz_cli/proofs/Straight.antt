-- What a step of a thread does in a body whose commands go by kinds: no command goes on in a body of its own, calls or starts
-- a function, and so the thread stands behind the command or has stopped at it; and at the end of its first body it ends.
use Rattle.std.proofs.Common.{◌≡◌, ℕ, List, [], ◌∷◌, ◌++◌, Option, Some, refl, sym, subst, slice_get}
use Rattle.mz_tree.specs.Code.{Op, If_op, Match_op, Call_op, Take_op, Acquire_op, Spawn_op, Command, Body, to_of, op_of}
use Rattle.mz_tree.specs.Programs.{Program}
use Rattle.mz_named.specs.Machine.{Value, Cells, Environment, Frame, Suspended, Thread, Running, Ended, Stopped, Config, Binds, Acts, Chooses, next, IsAt, IsDone, NStep, Step_acts, Step_stops, Step_branches, Step_joins, Step_calls, Step_returns, Step_ends, Step_spawns}
use Rattle.mz_named.specs.Doing.{FailsTake}
use Rattle.mz_named.proofs.Inverting.{nil_cons, heads, same_frame}
use Rattle.mz_cli.proofs.NameKinds.{NameKind, Kinds, Gives}

-- ---- commands that go by kinds

-- none goes on in a body of its own
no_choice : (kinds : Kinds) (op : Op) (kind : NameKind) (at : Cells) (e : Environment) (body : Body) → Gives kinds op kind → Chooses at e op body → ⊥
no_choice kinds (If_op y one two giving) kind at e body gives chooses = absurd gives
no_choice kinds (Match_op y d cases giving) kind at e body gives chooses = absurd gives
no_choice kinds _ kind at e body gives chooses = absurd chooses

-- nor calls a function, nor starts one
no_call : (kinds : Kinds) (op : Op) (kind : NameKind) (callee : ℕ) (args : List ℕ) → Gives kinds op kind → op ≡ Call_op callee args → ⊥
no_call kinds op kind callee args gives is = subst (λ o. Gives kinds o kind) is gives

no_spawn : (kinds : Kinds) (op : Op) (kind : NameKind) (callee arg : ℕ) → Gives kinds op kind → op ≡ Spawn_op callee arg → ⊥
no_spawn kinds op kind callee arg gives is = subst (λ o. Gives kinds o kind) is gives

-- nor takes a block back, nor acquires a lock
pub no_take : (kinds : Kinds) (op : Op) (kind : NameKind) (at : Cells) (e : Environment) → Gives kinds op kind → FailsTake at e op → ⊥
no_take kinds (Take_op x y) kind at e gives fails = absurd gives
no_take kinds _ kind at e gives fails = absurd fails

pub no_acquire : (kinds : Kinds) (op : Op) (kind : NameKind) (lock : ℕ) → Gives kinds op kind → op ≡ Acquire_op lock → ⊥
no_acquire kinds op kind lock gives is = subst (λ o. Gives kinds o kind) is gives

-- ---- threads

-- what runs has not ended
pub ended_runs : {o : Option Thread} {f : Frame} {below : List Suspended} → o ≡ Some Ended → o ≡ Some (Running f below) → ⊥
ended_runs this that = cc

-- nor stopped
pub stopped_runs : {o : Option Thread} {f : Frame} {below : List Suspended} → o ≡ Some Stopped → o ≡ Some (Running f below) → ⊥
stopped_runs this that = cc

-- what has stopped has not ended
pub stopped_ended : {o : Option Thread} → o ≡ Some Stopped → o ≡ Some Ended → ⊥
stopped_ended this that = cc

same_below : {o : Option Thread} {f g : Frame} {below under : List Suspended} → o ≡ Some (Running f below) → o ≡ Some (Running g under) → below ≡ under
same_below this that = cc

tails : {A : Type 0} {a b : A} {l xs ys : List A} → l ≡ a ∷ xs → l ≡ b ∷ ys → xs ≡ ys
tails this that = cc

-- ---- a step at a command

-- the thread stands behind its command, or has stopped at it
pub data After (w : Config) (k : ℕ) (f : Frame) (below : List Suspended) (c : Command) (rest : List Command) (w' : Config) : Type 0 where
  Has_acted : (v : Value) (e' : Environment) (out : List ℕ) → Acts w.heap.at f.env (op_of c) v w'.heap.at out → w'.prints ≡ w.prints ++ out → Binds f.env (to_of c) v e' →
      slice_get w'.threads k ≡ Some (Running (next f e' rest) below) → After w k f below c rest w'
  Has_stopped : w'.prints ≡ w.prints → slice_get w'.threads k ≡ Some Stopped → After w k f below c rest w'

module _ (w : Config) (k : ℕ) (f : Frame) (below : List Suspended) (c : Command) (rest : List Command) (at : IsAt w k f below c rest) where
  frame_is : (g : Frame) (under : List Suspended) (d : Command) (more : List Command) → IsAt w k g under d more → f ≡ g
  frame_is g under d more a = same_frame at.here a.here

  first_is : (g : Frame) (under : List Suspended) (d : Command) (more : List Command) → IsAt w k g under d more → f.rest.commands ≡ d ∷ more
  first_is g under d more a = subst (λ (z : Frame). z.rest.commands ≡ d ∷ more) (sym (frame_is g under d more a)) a.first

  -- the thread's next command is this one
  pub command_is : (g : Frame) (under : List Suspended) (d : Command) (more : List Command) → IsAt w k g under d more → c ≡ d
  command_is g under d more a = heads at.first (first_is g under d more a)

  module _ (p : Program) (w' : Config) (kinds : Kinds) (kind : NameKind) (gives : Gives kinds (op_of c) kind) where
    as_is : (g : Frame) (under : List Suspended) (d : Command) (more : List Command) → IsAt w k g under d more → After w k g under d more w' → After w k f below c rest w'
    as_is g under d more a m =
        subst (λ x. After w k x below c rest w') (sym (frame_is g under d more a))
        (subst (λ x. After w k g x c rest w') (sym (same_below at.here a.here))
        (subst (λ x. After w k g under x rest w') (sym (command_is g under d more a))
        (subst (λ x. After w k g under d x w') (sym (tails at.first (first_is g under d more a))) m)))

    gives_at : (g : Frame) (under : List Suspended) (d : Command) (more : List Command) → IsAt w k g under d more → Gives kinds (op_of d) kind
    gives_at g under d more a = subst (λ x. Gives kinds (op_of x) kind) (command_is g under d more a) gives

    not_done : (g : Frame) (under : List Suspended) → IsDone w k g under → ⊥
    not_done g under done = nil_cons (subst (λ (z : Frame). z.rest.commands ≡ []) (sym (same_frame at.here done.here)) done.done) at.first

    pub after_command : NStep p w k w' → After w k f below c rest w'
    after_command (Step_acts g under d more v e' out a acts prints binds puts) = as_is g under d more a (Has_acted v e' out acts prints binds puts.put)
    after_command (Step_stops g under d more a stops moves) = as_is g under d more a (Has_stopped moves.prints moves.threads.put)
    after_command (Step_branches g under d more body a chooses moves) = absurd (no_choice kinds (op_of d) kind w.heap.at g.env body (gives_at g under d more a) chooses)
    after_command (Step_joins g under level outer e' done out binds moves) = absurd (not_done g under done)
    after_command (Step_calls g under d more callee args a is function moves) = absurd (no_call kinds (op_of d) kind callee args (gives_at g under d more a) is)
    after_command (Step_returns g waiting under e' done out binds moves) = absurd (not_done g (waiting ∷ under) done)
    after_command (Step_ends g done out moves) = absurd (not_done g [] done)
    after_command (Step_spawns g under d more callee arg e' mid a is function binds heap prints one two) = absurd (no_spawn kinds (op_of d) kind callee arg (gives_at g under d more a) is)

-- ---- a step at the end

-- the thread has ended, and the prints stay
pub record HasDone (w : Config) (k : ℕ) (w' : Config) : Type 0 where
  pub ended : slice_get w'.threads k ≡ Some Ended
  pub prints : w'.prints ≡ w.prints

module _ (p : Program) (w w' : Config) (k : ℕ) (f : Frame) (done : IsDone w k f []) (alone : f.outer ≡ []) where
  pub no_command : (g : Frame) (under : List Suspended) (d : Command) (more : List Command) → IsAt w k g under d more → ⊥
  no_command g under d more a = nil_cons (subst (λ (z : Frame). z.rest.commands ≡ []) (same_frame done.here a.here) done.done) a.first

  pub after_end : NStep p w k w' → HasDone w k w'
  after_end (Step_acts g under d more v e' out a acts prints binds puts) = absurd (no_command g under d more a)
  after_end (Step_stops g under d more a stops moves) = absurd (no_command g under d more a)
  after_end (Step_branches g under d more body a chooses moves) = absurd (no_command g under d more a)
  after_end (Step_joins g under level outer e' a out binds moves) = absurd (nil_cons (subst (λ (z : Frame). z.outer ≡ []) (same_frame done.here a.here) alone) out)
  after_end (Step_calls g under d more callee args a is function moves) = absurd (no_command g under d more a)
  after_end (Step_returns g waiting under e' a out binds moves) = absurd (nil_cons refl (same_below done.here a.here))
  after_end (Step_ends g a out moves) = record { ended = moves.threads.put; prints = moves.prints }
  after_end (Step_spawns g under d more callee arg e' mid a is function binds heap prints one two) = absurd (no_command g under d more a)
