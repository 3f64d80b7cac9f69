-- The laws of ownership: what opens is held, each step of a derivation keeps it, what is held is fine, and so what is
-- derivable is safe.
use Rattle.std.specs.Prelude.{◌≡◌, ℕ, List, [], ◌∷◌, Some, slice_get}
use Rattle.mz_tree.specs.Plain.{Atom}
use Rattle.mz_tree.specs.Programs.{Sig, Program}
use Rattle.mz_tree.specs.Scoped.{Scoped}
use Rattle.mz_decl.specs.Declarations.{decls_of}
use Rattle.mz_modes.specs.Adopted.{Declared}
use Rattle.mz_view.specs.Steps.{Step}
use Rattle.mz_view.specs.Rules.{View}
use Rattle.mz_deriv.specs.Scripts.{Item, See_item}
use Rattle.mz_deriv.specs.Derivable.{Derivable}
use Rattle.mz_named.specs.Configurations.{Frame, Suspended, Running, Config}
use Rattle.mz_named.specs.Steps.{NStep}
use Rattle.mz_named.specs.Safety.{IsFine, IsOpening, NamedSafe}
use Rattle.mz_resource.specs.Held.{Holding, Held}
use Rattle.mz_resource.specs.Following.{FollowsView, ViewsMade, AtCommand, BeginsFunction, Follows}

-- a view step of a thread's top frame keeps the invariant, whatever state the rule leads to
abbrev pub KeepsView : Type 0
KeepsView = (p : Program) (w : Config) (h : Holding) (k : ℕ) (f : Frame) (below : List Suspended) (s : Step) (items : List Item) (R : List (Atom ℕ)) →
    Scoped p → Declared p → Held p w h → slice_get w.threads k ≡ Some (Running f below) → (h.thread k).top.script ≡ See_item s ∷ items →
    View (decls_of p) (h.thread k).top.share s R → (h' : Holding) × FollowsView k R items h h' × Held p w h'

-- a step of a thread keeps the invariant, by the holding that the view steps before its command or end, and then the rule, give
abbrev pub KeepsCommand : Type 0
KeepsCommand = (p : Program) (scripts : List (List Item)) (w w' : Config) (h : Holding) (k : ℕ) → Scoped p → Derivable p scripts → Held p w h → (s : NStep p w k w') →
    (seen : Holding) × ViewsMade (decls_of p) k h seen × AtCommand (seen.thread k).top.script × ((h' : Holding) × Follows p scripts w k w' s seen h' × Held p w' h')

-- where a derivable program opens the invariant holds: thread 0 begins with the derivation of `main`
abbrev pub OpeningIsHeld : Type 0
OpeningIsHeld = (p : Program) (scripts : List (List Item)) (w : Config) → Scoped p → Derivable p scripts → (o : IsOpening p w) →
    (h : Holding) × ((sig : Sig) × (slice_get p.sigs o.main.sig ≡ Some sig) × BeginsFunction scripts o.number sig (h.thread 0).top) × ((h.thread 0).below ≡ []) × Held p w h

-- where the invariant holds nothing is wrong, and there is no race
abbrev pub HeldIsFine : Type 0
HeldIsFine = (p : Program) (w : Config) (h : Holding) → Scoped p → Declared p → Held p w h → IsFine p w

-- what is derivable is safe
abbrev pub Sound : Type 0
Sound = (p : Program) (scripts : List (List Item)) → Scoped p → Derivable p scripts → NamedSafe p
