-- What a step is where the thread's next command is known.
use Rattle.std.proofs.Common.{◌≡◌, ℕ, List, [], ◌∷◌, length, Option, Some, sym, subst}
use Rattle.mz_tree.specs.Programs.{Program}
use Rattle.mz_tree.specs.Code.{Op, Command, Body, Call_op, Spawn_op, op_of}
use Rattle.mz_named.specs.Configurations.{Value, Environment, Frame, Suspended, Thread, Running, Config}
use Rattle.mz_named.specs.Steps.{IsAt, IsDone, NStep, Step_acts, Step_stops, Step_branches, Step_joins, Step_calls, Step_returns, Step_ends, Step_spawns}
use Rattle.mz_named.specs.Operations.{IsFunction, Acts, Stops, Chooses}

nil_cons : {A : Type 0} {a : A} {l xs : List A} → l ≡ [] → l ≡ a ∷ xs → ⊥
nil_cons e f = absurd (cc)

pub heads : {A : Type 0} {a b : A} {l xs ys : List A} → l ≡ a ∷ xs → l ≡ b ∷ ys → a ≡ b
heads e f = cc

pub frames : {o : Option Thread} {f g : Frame} {below under : List Suspended} → o ≡ Some (Running f below) → o ≡ Some (Running g under) → f ≡ g
frames e f = cc

-- what an operation may do in a configuration: one of these, whatever comes of it
pub data Can (p : Program) (w : Config) (e : Environment) (op : Op) (w' : Config) : Type 0 where
  Can_act : (v : Value) (out : List ℕ) → Acts w.heap.at e op v w'.heap.at out → Can p w e op w'
  Can_stop : Stops w.heap.at e op → Can p w e op w'
  Can_branch : (body : Body) → Chooses w.heap.at e op body → Can p w e op w'
  Can_call : (callee : ℕ) (args : List ℕ) → op ≡ Call_op callee args → IsFunction p (e callee) (length args) → Can p w e op w'
  Can_spawn : (callee arg : ℕ) → op ≡ Spawn_op callee arg → IsFunction p (e callee) 1 → Can p w e op w'

pub step_inv : (p : Program) (w w' : Config) (k : ℕ) (f : Frame) (below : List Suspended) (c : Command) (rest : List Command) → IsAt w k f below c rest → NStep p w k w' → Can p w f.env (op_of c) w'
step_inv p w w' k f below c rest at s = by s
  where
    same : (g : Frame) (under : List Suspended) (d : Command) (more : List Command) → IsAt w k g under d more → (f ≡ g) × (d ≡ c)
    same g under d more a = let e : f ≡ g = frames at.here a.here in (e, heads (subst (λ z. z.rest.commands ≡ d ∷ more) (sym e) a.first) at.first)

    as_is : (g : Frame) (d : Command) → (f ≡ g) × (d ≡ c) → Can p w g.env (op_of d) w' → Can p w f.env (op_of c) w'
    as_is g d e m = subst (λ x. Can p w f.env (op_of x) w') e.1 (subst (λ z. Can p w z.env (op_of d) w') (sym e.0) m)

    not_done : (g : Frame) (under : List Suspended) → IsDone w k g under → ⊥
    not_done g under d = let e : f ≡ g = frames at.here d.here in nil_cons (subst (λ z. z.rest.commands ≡ []) (sym e) d.done) at.first

    by : NStep p w k w' → Can p w f.env (op_of c) w'
    by (Step_acts g under d more v e' out a acts prints binds puts) = as_is g d (same g under d more a) (Can_act v out acts)
    by (Step_stops g under d more a s moves) = as_is g d (same g under d more a) (Can_stop s)
    by (Step_branches g under d more body a s moves) = as_is g d (same g under d more a) (Can_branch body s)
    by (Step_joins g under level outer e' d out binds moves) = absurd (not_done g under d)
    by (Step_calls g under d more callee args a q fn moves) = as_is g d (same g under d more a) (Can_call callee args q fn)
    by (Step_returns g wt under e' d out binds moves) = absurd (not_done g (wt ∷ under) d)
    by (Step_ends g d out moves) = absurd (not_done g [] d)
    by (Step_spawns g under d more callee arg e' mid a q fn binds heap prints one two) = as_is g d (same g under d more a) (Can_spawn callee arg q fn)
