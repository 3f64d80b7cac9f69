-- What a thread that is fine can do at its next command.
use Rattle.std.proofs.Common.{◌≡◌, ◌⊎◌, inl, inr, ℕ, List, [], ◌∷◌, length, Some, true, sym, ap, ◌∙◌, subst}
use Rattle.mz_tree.specs.Code.{Op, Acquire_op, Call_op, Spawn_op, Command, Body, op_of}
use Rattle.mz_tree.specs.Programs.{Program}
use Rattle.mz_named.specs.Machine.{Value, Block_value, Lock_cell, Environment, Frame, Suspended, Running, Config, Cells, IsFunction, Acts, Stops, Chooses, IsAt, IsDone, NStep, Step_acts, Step_stops, Step_branches, Step_joins, Step_calls, Step_returns, Step_ends, Step_spawns, Waits}
use Rattle.mz_lower.proofs.Addresses.{some_inj}

-- thread k has a step, its stop included, or waits for a held lock
abbrev pub ThreadIsFine : Program → Config → ℕ → Type 0
ThreadIsFine p w k = ((w' : Config) × NStep p w k w') ⊎ Waits w k

-- an operation that waits
abbrev pub WaitsHere : Cells → Environment → Op → Type 0
WaitsHere at values (Acquire_op x) = (l : ℕ) × (values x ≡ Block_value l) × (at l ≡ Some (Lock_cell true))
WaitsHere at values _ = ⊥

-- what the next command of a thread can do
pub data CanDo (p : Program) (values : Environment) (op : Op) (at : Cells) : Type 0 where
  Can_act : (v : Value) (at' : Cells) (out : List ℕ) → Acts at values op v at' out → CanDo p values op at
  Can_stop : Stops at values op → CanDo p values op at
  Can_wait : WaitsHere at values op → CanDo p values op at
  Can_choose : (body : Body) → Chooses at values op body → CanDo p values op at
  Can_call : (callee : ℕ) (args : List ℕ) → op ≡ Call_op callee args → IsFunction p (values callee) (length args) → CanDo p values op at
  Can_spawn : (callee arg : ℕ) → op ≡ Spawn_op callee arg → IsFunction p (values callee) 1 → CanDo p values op at

frame_inj : {f g : Frame} {a b : List Suspended} → Running f a ≡ Running g b → f ≡ g
frame_inj e = cc

head_inj : {c d : Command} {a b : List Command} → c ∷ a ≡ d ∷ b → c ≡ d
head_inj e = cc

no_head : {c : Command} {a : List Command} → [] ≡ c ∷ a → ⊥
no_head e = absurd (cc)

-- a thread is at one command
same_next : (w : Config) (k : ℕ) {f g : Frame} {below below2 : List Suspended} {c d : Command} {rest rest2 : List Command} → IsAt w k f below c rest → IsAt w k g below2 d rest2 → (g ≡ f) × (d ≡ c)
same_next w k {f = f} {g = g} q r =
    let e : g ≡ f = frame_inj (some_inj (sym r.here ∙ q.here)) in
    (e, head_inj (sym r.first ∙ ap (λ (x : Frame). x.rest.commands) e ∙ q.first))

never_both : (w : Config) (k : ℕ) {f g : Frame} {below below2 : List Suspended} {c : Command} {rest : List Command} → IsAt w k f below c rest → IsDone w k g below2 → ⊥
never_both w k {f = f} {g = g} q r =
    let e : g ≡ f = frame_inj (some_inj (sym r.here ∙ q.here)) in
    no_head (sym r.done ∙ ap (λ (x : Frame). x.rest.commands) e ∙ q.first)

moved_can : (p : Program) {f g : Frame} {c d : Command} (at : Cells) → (g ≡ f) × (d ≡ c) → CanDo p g.env (op_of d) at → CanDo p f.env (op_of c) at
moved_can p {g = g} {c = c} at e h = subst (λ (x : Frame). CanDo p x.env (op_of c) at) e.0 (subst (λ (x : Command). CanDo p g.env (op_of x) at) e.1 h)

waits_can : (p : Program) (values : Environment) (op : Op) (at : Cells) (lock name : ℕ) → op ≡ Acquire_op lock → values lock ≡ Block_value name → at name ≡ Some (Lock_cell true) → CanDo p values op at
waits_can p values op at lock name e is held = subst (λ (x : Op). CanDo p values x at) (sym e) (Can_wait (name, is, held))

-- by the steps that a thread has: each is one of its next command, or of an end
pub fine_can : (p : Program) (w : Config) (k : ℕ) {f : Frame} {below : List Suspended} {c : Command} {rest : List Command} → IsAt w k f below c rest → ThreadIsFine p w k → CanDo p f.env (op_of c) w.heap.at
fine_can p w k q (inr z) = moved_can p w.heap.at (same_next w k q z.stands) (waits_can p z.frame.env (op_of z.command) w.heap.at z.lock z.name z.acquires z.is z.held)
fine_can p w k {f = f} {c = c} q (inl z) = by_step z.0 z.1
  where
    by_step : (w' : Config) → NStep p w k w' → CanDo p f.env (op_of c) w.heap.at
    by_step w' (Step_acts g under d more v e' out r acts prints binds puts) = moved_can p w.heap.at (same_next w k q r) (Can_act v w'.heap.at out acts)
    by_step w' (Step_stops g under d more r stops moves) = moved_can p w.heap.at (same_next w k q r) (Can_stop stops)
    by_step w' (Step_branches g under d more body r chooses moves) = moved_can p w.heap.at (same_next w k q r) (Can_choose body chooses)
    by_step w' (Step_joins g under level outer e' r out binds moves) = absurd (never_both w k q r)
    by_step w' (Step_calls g under d more callee args r is function moves) = moved_can p w.heap.at (same_next w k q r) (Can_call callee args is function)
    by_step w' (Step_returns g waiting under e' r out binds moves) = absurd (never_both w k q r)
    by_step w' (Step_ends g r out moves) = absurd (never_both w k q r)
    by_step w' (Step_spawns g under d more callee arg e' mid r is function binds heap prints one two) = moved_can p w.heap.at (same_next w k q r) (Can_spawn callee arg is function)
