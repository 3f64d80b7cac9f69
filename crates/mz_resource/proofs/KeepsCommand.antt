-- Each step keeps the invariant, by the kind of step and of command.
use Rattle.std.proofs.Common.{◌≡◌, ℕ, List}
use Rattle.std.proofs.Common.{refl, subst, slice_get}
use Rattle.mz_tree.specs.Programs.{Program}
use Rattle.mz_tree.specs.Code.{Command, The_command, Int_op, Unit_op, Fun_op, Copy_op, Arith_op, New_op, Read_op, Write_op, Retag_op, If_op, Match_op, Call_op, Give_op, Take_op, New_lock_op, Acquire_op, Release_op, Spawn_op, Print_op, op_of, to_of}
use Rattle.mz_decl.specs.Declarations.{decls_of}
use Rattle.mz_deriv.specs.Scripts.{Item}
use Rattle.mz_deriv.specs.Derivable.{Derivable}
use Rattle.mz_named.specs.Configurations.{Value, Int_value, Environment, Frame, Suspended, Running, Config}
use Rattle.mz_named.specs.Bodies.{Binds, Puts}
use Rattle.mz_named.specs.Steps.{IsAt, next, Step_acts, Step_stops, Step_branches, Step_joins, Step_calls, Step_returns, Step_ends, Step_spawns, NStep}
use Rattle.mz_named.specs.Operations.{Acts}
use Rattle.mz_resource.specs.Held.{Holding, Held}
use Rattle.mz_resource.proofs.Programs.Proper.{ProperDecls, ProperBodies}
use Rattle.mz_resource.specs.Following.{AtCommand, FollowsRule, FollowsReturn, FollowsBranch, FollowsJoin, Follows, FollowsCall}
use Rattle.mz_resource.proofs.Commands.Branching.{branch_keeps, join_keeps}
use Rattle.mz_resource.proofs.Commands.Calling.{call_keeps, return_keeps}
use Rattle.mz_resource.proofs.Commands.Spawning.{spawn_keeps, gone_held}
use Rattle.mz_resource.proofs.Commands.Ruled.{at_rule, quiet_acts, AtRule, then_part, by_rule}
use Rattle.mz_resource.proofs.Commands.Locking.{new_lock_keeps}
use Rattle.mz_resource.proofs.Commands.Turning.{release_keeps, acquire_keeps}
use Rattle.mz_resource.proofs.Commands.Making.{new_keeps}
use Rattle.mz_resource.proofs.Commands.Remaking.{write_keeps, retag_keeps}
use Rattle.mz_resource.proofs.Commands.Adopting.{give_keeps, take_keeps}
use Rattle.mz_resource.specs.Frames.{ThreadHolding}
use Rattle.mz_resource.proofs.Threads.Quiet.{Onward, onward}

unit_binds : {e e' : Environment} {to : ℕ} {v : Value} → v ≡ Int_value 0 → Binds e to v e' → Binds e to (Int_value 0) e'
unit_binds {e = e} {e' = e'} {to = to} is b = subst (λ x. Binds e to x e') is b

-- a command with a rule: the thread's holding follows by it, and the invariant is kept
abbrev Ruled : Program → Config → Holding → ℕ → Command → Type 0
Ruled p w' h k c = (q' : ThreadHolding) × FollowsRule (decls_of p) c (h.thread k) q' × Onward p w' h k q'

ruled : (p : Program) (w w' : Config) (h : Holding) (H : Held p w h) (k : ℕ) (f : Frame) (below : List Suspended) (c : Command) (rest : List Command) (point : AtRule p w h H k f below c rest) (v : Value) (e' : Environment) (binds : Binds f.env (to_of c) v e') →
    Onward p w' h k (then_part p w w' h H k f below c rest point v e' binds) → Ruled p w' h k c
ruled p w w' h H k f below c rest point v e' binds o = (then_part p w w' h H k f below c rest point v e' binds, by_rule p w w' h H k f below c rest point v e' binds, o)

acts_keep : (p : Program) (w w' : Config) (h : Holding) (k : ℕ) → ProperDecls (decls_of p) → (H : Held p w h) → AtCommand (h.thread k).top.script → (f : Frame) (below : List Suspended) (c : Command) (rest : List Command) (v : Value) (e' : Environment) (out : List ℕ) → IsAt w k f below c rest →
    Acts w.heap.at f.env (op_of c) v w'.heap.at out → Binds f.env (to_of c) v e' → Puts (slice_get w.threads) k (Running (next f e' rest) below) (slice_get w'.threads) → Ruled p w' h k c
acts_keep p w w' h k L H at f below (The_command to (Int_op n) place) rest v e' out here acts binds puts =
    let point = at_rule p w h H k f below (The_command to (Int_op n) place) rest at here refl in ruled p w w' h H k f below _ rest point v e' binds (quiet_acts p w w' h H k f below _ rest point v e' out binds acts.1 puts acts tt)
acts_keep p w w' h k L H at f below (The_command to Unit_op place) rest v e' out here acts binds puts =
    let point = at_rule p w h H k f below (The_command to Unit_op place) rest at here refl in ruled p w w' h H k f below _ rest point v e' binds (quiet_acts p w w' h H k f below _ rest point v e' out binds acts.1 puts acts tt)
acts_keep p w w' h k L H at f below (The_command to (Fun_op n) place) rest v e' out here acts binds puts =
    let point = at_rule p w h H k f below (The_command to (Fun_op n) place) rest at here refl in ruled p w w' h H k f below _ rest point v e' binds (quiet_acts p w w' h H k f below _ rest point v e' out binds acts.1 puts acts tt)
acts_keep p w w' h k L H at f below (The_command to (Copy_op n) place) rest v e' out here acts binds puts =
    let point = at_rule p w h H k f below (The_command to (Copy_op n) place) rest at here refl in ruled p w w' h H k f below _ rest point v e' binds (quiet_acts p w w' h H k f below _ rest point v e' out binds acts.1 puts acts tt)
acts_keep p w w' h k L H at f below (The_command to (Arith_op o x y) place) rest v e' out here acts binds puts =
    let point = at_rule p w h H k f below (The_command to (Arith_op o x y) place) rest at here refl in ruled p w w' h H k f below _ rest point v e' binds (quiet_acts p w w' h H k f below _ rest point v e' out binds acts.1 puts acts tt)
acts_keep p w w' h k L H at f below (The_command to (Read_op y con i) place) rest v e' out here acts binds puts =
    let point = at_rule p w h H k f below (The_command to (Read_op y con i) place) rest at here refl in ruled p w w' h H k f below _ rest point v e' binds (quiet_acts p w w' h H k f below _ rest point v e' out binds acts.1 puts acts tt)
acts_keep p w w' h k L H at f below (The_command to (Print_op x) place) rest v e' out here acts binds puts =
    let point = at_rule p w h H k f below (The_command to (Print_op x) place) rest at here refl in ruled p w w' h H k f below _ rest point v e' binds (quiet_acts p w w' h H k f below _ rest point v e' out binds acts.2 puts acts tt)
acts_keep p w w' h k L H at f below (The_command to (New_op con ys) place) rest v e' out here acts binds puts =
    let point = at_rule p w h H k f below (The_command to (New_op con ys) place) rest at here refl in ruled p w w' h H k f below _ rest point v e' binds (new_keeps p w w' h H k f below to rest e' con ys place v point acts.0 binds puts)
acts_keep p w w' h k L H at f below (The_command to (Write_op y con i z) place) rest v e' out here acts binds puts =
    let point = at_rule p w h H k f below (The_command to (Write_op y con i z) place) rest at here refl in ruled p w w' h H k f below _ rest point (Int_value 0) e' (unit_binds acts.1 binds) (write_keeps p w w' h H k f below to rest e' y con i z place point acts.0 (unit_binds acts.1 binds) puts)
acts_keep p w w' h k L H at f below (The_command to (Retag_op y a b) place) rest v e' out here acts binds puts =
    let point = at_rule p w h H k f below (The_command to (Retag_op y a b) place) rest at here refl in ruled p w w' h H k f below _ rest point (Int_value 0) e' (unit_binds acts.1 binds) (retag_keeps p w w' h H k f below to rest e' y a b place point acts.0 (unit_binds acts.1 binds) puts)
acts_keep p w w' h k L H at f below (The_command to (Give_op x y) place) rest v e' out here acts binds puts =
    let point = at_rule p w h H k f below (The_command to (Give_op x y) place) rest at here refl in ruled p w w' h H k f below _ rest point (Int_value 0) e' (unit_binds acts.1 binds) (give_keeps p w w' h H k L f below to rest e' x y place point acts.0 (unit_binds acts.1 binds) puts)
acts_keep p w w' h k L H at f below (The_command to (Take_op x y) place) rest v e' out here acts binds puts =
    let point = at_rule p w h H k f below (The_command to (Take_op x y) place) rest at here refl in ruled p w w' h H k f below _ rest point (Int_value 0) e' (unit_binds acts.1 binds) (take_keeps p w w' h H k L f below to rest e' x y place point acts.0 (unit_binds acts.1 binds) puts)
acts_keep p w w' h k L H at f below (The_command to (New_lock_op g) place) rest v e' out here acts binds puts =
    let point = at_rule p w h H k f below (The_command to (New_lock_op g) place) rest at here refl in ruled p w w' h H k f below _ rest point v e' binds (new_lock_keeps p w w' h H k f below to rest e' g place v point acts.0 binds puts)
acts_keep p w w' h k L H at f below (The_command to (Acquire_op l) place) rest v e' out here acts binds puts =
    let point = at_rule p w h H k f below (The_command to (Acquire_op l) place) rest at here refl in ruled p w w' h H k f below _ rest point (Int_value 0) e' (unit_binds acts.1 binds) (acquire_keeps p w w' h H k f below to rest e' l place point acts.0 (unit_binds acts.1 binds) puts)
acts_keep p w w' h k L H at f below (The_command to (Release_op l) place) rest v e' out here acts binds puts =
    let point = at_rule p w h H k f below (The_command to (Release_op l) place) rest at here refl in ruled p w w' h H k f below _ rest point (Int_value 0) e' (unit_binds acts.1 binds) (release_keeps p w w' h H k f below to rest e' l place point acts.0 (unit_binds acts.1 binds) puts)
acts_keep p w w' h k L H at f below (The_command to (If_op a b c d) place) rest v e' out here acts binds puts = absurd acts
acts_keep p w w' h k L H at f below (The_command to (Match_op a b c d) place) rest v e' out here acts binds puts = absurd acts
acts_keep p w w' h k L H at f below (The_command to (Call_op a b) place) rest v e' out here acts binds puts = absurd acts
acts_keep p w w' h k L H at f below (The_command to (Spawn_op a b) place) rest v e' out here acts binds puts = absurd acts

pub command_keeps : (p : Program) (scripts : List (List Item)) (w w' : Config) (h : Holding) (k : ℕ) → ProperDecls (decls_of p) → ProperBodies p → Derivable p scripts → Held p w h → AtCommand (h.thread k).top.script →
    (s : NStep p w k w') → (h' : Holding) × Follows p scripts w k w' s h h' × Held p w' h'
command_keeps p scripts w w' h k L C V H at (Step_acts f below c rest v e' out here acts prints binds puts) =
    let r = acts_keep p w w' h k L H at f below c rest v e' out here acts binds puts in onward p w' h k (FollowsRule (decls_of p) c (h.thread k)) r.0 r.1 r.2
command_keeps p scripts w w' h k L C V H at (Step_stops f below c rest here stops moves) = gone_held p w w' h H k _ (λ S q g. tt) moves
command_keeps p scripts w w' h k L C V H at (Step_branches f below c rest body here ch moves) =
    let r = branch_keeps p w w' h H k L f below at c rest body here ch moves in onward p w' h k (FollowsBranch (decls_of p) c body (h.thread k)) r.0 r.1 r.2
command_keeps p scripts w w' h k L C V H at (Step_joins f below level outer e' here out binds moves) =
    let r = join_keeps p w w' h H k L f below at level outer e' here out binds moves in onward p w' h k (FollowsJoin (h.thread k)) r.0 r.1 r.2
command_keeps p scripts w w' h k L C V H at (Step_calls f below c rest callee args here is g moves) =
    let r = call_keeps p scripts w w' h H k L C V f at below c rest callee args here is g moves in onward p w' h k (FollowsCall (decls_of p) scripts c g.number g.sig (h.thread k)) r.0 r.1 r.2
command_keeps p scripts w w' h k L C V H at (Step_returns f wt below e' here out binds moves) =
    let r = return_keeps p scripts w w' h H k L C V f at wt below e' here out binds moves in onward p w' h k (FollowsReturn (h.thread k)) r.0 r.1 r.2
command_keeps p scripts w w' h k L C V H at (Step_ends f here out moves) = gone_held p w w' h H k _ (λ S q g. tt) moves
command_keeps p scripts w w' h k L C V H at (Step_spawns f below c rest callee arg e' mid here is g binds heap prints one two) = spawn_keeps p scripts w w' h H k L C V f below at c rest callee arg e' mid here is g binds heap one two
