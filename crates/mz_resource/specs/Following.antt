-- How what a thread holds goes on: with a view step of its script, and with a step of the machine, by the rule of its
-- command, into a branch and out of it, into a call and back. The states of a derivation are the same up to order.
use Rattle.std.specs.Prelude.{◌≡◌, ◌≢◌, ℕ, ◌<◌, List, [], ◌∷◌, ◌++◌, length, Option, Some, None, slice_get}
use Rattle.mz_tree.specs.Plain.{Atom}
use Rattle.mz_tree.specs.Code.{Command, Body}
use Rattle.mz_tree.specs.Programs.{Sig, Program}
use Rattle.mz_decl.specs.Declarations.{Decls, decls_of}
use Rattle.mz_decl.specs.Signatures.{needed}
use Rattle.mz_perm.specs.Lists.{Any_copy, SameUpToOrder}
use Rattle.mz_view.specs.Steps.{Step}
use Rattle.mz_view.specs.Rules.{View}
use Rattle.mz_flow.specs.Branches.{Begins}
use Rattle.mz_deriv.specs.Scripts.{Item, ItemChain, ScriptCases, See_item, Do_item, Script_case, No_script_cases, item_list, script_case_list}
use Rattle.mz_deriv.specs.Rules.{Does}
use Rattle.mz_named.specs.Configurations.{Config}
use Rattle.mz_named.specs.Steps.{NStep, Step_acts, Step_stops, Step_branches, Step_joins, Step_calls, Step_returns, Step_ends, Step_spawns}
use Rattle.mz_resource.specs.Frames.{Behind, FrameHolding, WaitingHolding, ThreadHolding}
use Rattle.mz_resource.specs.Held.{Holding}

-- how the holding goes on with a view step of thread k: its share and its script, values for names that are no core names,
-- and clauses of blocks that had none
pub record FollowsView (k : ℕ) (R : List (Atom ℕ)) (items : List Item) (h h' : Holding) : Type 0 where
  pub share : (h'.thread k).top.share ≡ R
  pub script : (h'.thread k).top.script ≡ items
  pub outer : (h'.thread k).top.outer ≡ (h.thread k).top.outer
  pub below : (h'.thread k).below ≡ (h.thread k).below
  pub core : (m : ℕ) → m < 256 → (h'.thread k).top.values m ≡ (h.thread k).top.values m
  pub others : (m : ℕ) → m ≢ k → h'.thread m ≡ h.thread m
  pub hides : (l : ℕ) → h'.hides l ≡ h.hides l
  pub clauses : (b : ℕ) → h.clause b ≢ None → h'.clause b ≡ h.clause b

-- the view steps of thread k are made, as its script says them, up to where the second holding stands
pub data ViewsMade (D : Decls) (k : ℕ) : Holding → Holding → Type 0 where
  None_made : {h : Holding} → ViewsMade D k h h
  More_made : {h next last : Holding} (s : Step) (items : List Item) (R : List (Atom ℕ)) → (h.thread k).top.script ≡ See_item s ∷ items → View D (h.thread k).top.share s R →
      FollowsView k R items h next → ViewsMade D k next last → ViewsMade D k h last

-- the script is at a command, or at the end of a body
abbrev pub AtCommand : List Item → Type 0
AtCommand [] = Unit {0}
AtCommand (See_item s ∷ items) = ⊥
AtCommand (Do_item uses cases join ∷ items) = Unit {0}

-- a command by its rule: the share is then what the rule leads to, and the script goes on behind the command's item
pub record FollowsRule (D : Decls) (c : Command) (q q' : ThreadHolding) : Type 0 where
  pub uses : Option (Atom ℕ)
  pub items : List Item
  pub at_command : q.top.script ≡ Do_item uses No_script_cases [] ∷ items
  pub state : List (Atom ℕ)
  pub alike : SameUpToOrder q.top.share state
  pub does : Does D state c uses q'.top.share
  pub script : q'.top.script ≡ items
  pub outer : q'.top.outer ≡ q.top.outer
  pub below : q'.below ≡ q.below

-- into a branch with this body: the share is that with which the script's branch in that place begins
pub record FollowsBranch (D : Decls) (c : Command) (body : Body) (q q' : ThreadHolding) : Type 0 where
  pub uses : Option (Atom ℕ)
  pub cases : ScriptCases
  pub join : List (Atom ℕ)
  pub items : List Item
  pub at_command : q.top.script ≡ Do_item uses cases join ∷ items
  pub state : List (Atom ℕ)
  pub alike : SameUpToOrder q.top.share state
  pub place : ℕ
  pub fresh : ℕ
  pub inside : ItemChain
  pub case : slice_get (script_case_list cases) place ≡ Some (Script_case fresh inside)
  pub begins : Begins Any_copy D state c uses place fresh body q'.top.share
  pub script : q'.top.script ≡ item_list inside
  pub outer : q'.top.outer ≡ record { join = join; script = items } ∷ q.top.outer
  pub below : q'.below ≡ q.below

-- out of a branch: the share is the join
pub record FollowsJoin (q q' : ThreadHolding) : Type 0 where
  pub behind : Behind
  pub others : List Behind
  pub inside : q.top.outer ≡ behind ∷ others
  pub done : q.top.script ≡ []
  pub share : q'.top.share ≡ behind.join
  pub script : q'.top.script ≡ behind.script
  pub outer : q'.top.outer ≡ others
  pub below : q'.below ≡ q.below

-- a frame of a function that begins: its share is what the signature needs, and its script is the derivation's
pub record BeginsFunction (scripts : List (List Item)) (number : ℕ) (sig : Sig) (q : FrameHolding) : Type 0 where
  pub share : q.share ≡ needed sig.needs
  pub script : slice_get scripts number ≡ Some q.script
  pub outer : q.outer ≡ []

-- into a call: the rule leads to what the waiting frame keeps and then what the call gives; that is added when it ends
pub record FollowsCall (D : Decls) (scripts : List (List Item)) (c : Command) (number : ℕ) (sig : Sig) (q q' : ThreadHolding) : Type 0 where
  pub uses : Option (Atom ℕ)
  pub items : List Item
  pub at_command : q.top.script ≡ Do_item uses No_script_cases [] ∷ items
  pub state : List (Atom ℕ)
  pub alike : SameUpToOrder q.top.share state
  pub waiting : WaitingHolding
  pub does : Does D state c uses (waiting.frame.share ++ waiting.gives)
  pub script : waiting.frame.script ≡ items
  pub outer : waiting.frame.outer ≡ q.top.outer
  pub below : q'.below ≡ waiting ∷ q.below
  pub callee : BeginsFunction scripts number sig q'.top

-- back from a call
pub record FollowsReturn (q q' : ThreadHolding) : Type 0 where
  pub waiting : WaitingHolding
  pub others : List WaitingHolding
  pub inside : q.below ≡ waiting ∷ others
  pub done : q.top.script ≡ []
  pub share : q'.top.share ≡ waiting.frame.share ++ waiting.gives
  pub script : q'.top.script ≡ waiting.frame.script
  pub outer : q'.top.outer ≡ waiting.frame.outer
  pub below : q'.below ≡ others

-- what other threads hold stays
abbrev pub OthersStay : ℕ → Holding → Holding → Type 0
OthersStay k h h' = (m : ℕ) → m ≢ k → h'.thread m ≡ h.thread m

-- how a holding goes on with a step, by the kind of step
abbrev pub Follows : (p : Program) (scripts : List (List Item)) (w : Config) (k : ℕ) (w' : Config) → NStep p w k w' → Holding → Holding → Type 0
Follows p scripts w k w' (Step_acts f below c rest v e' out here acts prints binds puts) h h' = FollowsRule (decls_of p) c (h.thread k) (h'.thread k) × OthersStay k h h'
-- what a thread that is over holds doesn't count
Follows p scripts w k w' (Step_stops f below c rest here stops moves) h h' = OthersStay k h h'
Follows p scripts w k w' (Step_branches f below c rest body here chooses moves) h h' = FollowsBranch (decls_of p) c body (h.thread k) (h'.thread k) × OthersStay k h h'
Follows p scripts w k w' (Step_joins f below level outer e' here out binds moves) h h' = FollowsJoin (h.thread k) (h'.thread k) × OthersStay k h h'
Follows p scripts w k w' (Step_calls f below c rest callee args here is g moves) h h' = FollowsCall (decls_of p) scripts c g.number g.sig (h.thread k) (h'.thread k) × OthersStay k h h'
Follows p scripts w k w' (Step_returns f waiting below e' here out binds moves) h h' = FollowsReturn (h.thread k) (h'.thread k) × OthersStay k h h'
Follows p scripts w k w' (Step_ends f here out moves) h h' = OthersStay k h h'
-- the new thread holds what its function begins with
Follows p scripts w k w' (Step_spawns f below c rest callee arg e' mid here is g binds heap prints one two) h h' = FollowsRule (decls_of p) c (h.thread k) (h'.thread k)
    × BeginsFunction scripts g.number g.sig (h'.thread (length w.threads)).top × ((h'.thread (length w.threads)).below ≡ [])
    × ((m : ℕ) → m ≢ k → m ≢ length w.threads → h'.thread m ≡ h.thread m)
