-- What frames and threads hold: shares, values for names, and the rest of the derivation.
--
-- The frame on top holds a share that means what it says, and the rest of its script leads from the share through what is
-- left of its body to what its signature owes. A frame that waits for a call holds what the call didn't need.
use Rattle.std.specs.Prelude.{◌≡◌, ℕ, ◌<◌, ◌≤◌, false, List, [], ◌∷◌, ◌++◌, length, map, Some, slice_get}
use Rattle.mz_tree.specs.Plain.{Atom, map_atom}
use Rattle.mz_tree.specs.Code.{Command}
use Rattle.mz_tree.specs.Programs.{Sig}
use Rattle.mz_decl.specs.Declarations.{Decls}
use Rattle.mz_decl.specs.Signatures.{given, owed}
use Rattle.mz_perm.specs.Occurrence.{occurs}
use Rattle.mz_perm.specs.Lists.{SameUpToOrder}
use Rattle.mz_perm.specs.Using.{UsesUpAll}
use Rattle.mz_modes.specs.Affine.{AffineAtom}
use Rattle.mz_modes.specs.Calling.{GivesBack}
use Rattle.mz_deriv.specs.Scripts.{Item}
use Rattle.mz_deriv.specs.Walks.{Walks, in_place_of}
use Rattle.mz_named.specs.Configurations.{Value, Environment, Level, Frame, Suspended, Thread, Running, Ended, Stopped}
use Rattle.mz_named.specs.Bodies.{value_at}
use Rattle.mz_resource.specs.Meaning.{Owned, OwnsNothing, OwnsBoth, Sight, MeansAll}
use Rattle.mz_resource.specs.Names.{AreArgs, CoreFrame}

-- what a body round a branch goes on with: what is known where the branches join, and the rest of its script
pub record Behind : Type 0 where
  pub join : List (Atom ℕ)
  pub script : List Item

-- what a frame holds: values for names, its share of what is known, the rest of its script, and what the bodies round it go
-- on with
pub record FrameHolding : Type 0 where
  pub values : ℕ → Value
  pub share : List (Atom ℕ)
  pub script : List Item
  pub outer : List Behind

-- what a frame that waits for a call holds, and what the call gives when it ends
pub record WaitingHolding : Type 0 where
  pub frame : FrameHolding
  pub gives : List (Atom ℕ)

-- the script leads from what is known through what is left of a body, and of each body round it, to what is owed, which
-- is said of the name of the last body's value
pub data FrameWalks (D : Decls) (owes : ℕ → List (Atom ℕ)) : List (Atom ℕ) → List Command → ℕ → List Level → List Item → List Behind → Type 0 where
  -- in the body of the function itself: at its end what the signature owes is used up
  Last_walks : {names : List ℕ} {R last : List (Atom ℕ)} {commands : List Command} {value : ℕ} {items : List Item} (rest : List (Atom ℕ)) →
      Walks D names R commands items last → UsesUpAll (AffineAtom D) (owes value) last rest → FrameWalks D owes R commands value [] items []
  -- in a branch: at its end the join is used up, with the branch's value for the name that it gets, and the body round it
  -- goes on from the join
  Level_walks : {names : List ℕ} {R last : List (Atom ℕ)} {commands : List Command} {value : ℕ} {level : Level} {outer : List Level} {items : List Item} {behind : Behind} {others : List Behind} (rest : List (Atom ℕ)) →
      Walks D names R commands items last → UsesUpAll (AffineAtom D) (map (map_atom (in_place_of level.to value)) behind.join) last rest →
      FrameWalks D owes behind.join level.after.commands level.after.value outer behind.script others → FrameWalks D owes R commands value (level ∷ outer) items (behind ∷ others)

-- the first names have these values
pub record HasArgs (count : ℕ) (args : List Value) (e : Environment) : Type 0 where
  pub many : length args ≡ count
  pub each : (m : ℕ) → m < count → e m ≡ value_at args m

-- a frame of a function of a signature, with these arguments
pub record IsFrameOf (D : Decls) (s : ℕ) (sig : Sig) (args : List Value) (f : Frame) : Type 0 where
  pub declared : slice_get D.sigs s ≡ Some sig
  pub has_args : HasArgs sig.count args f.env
  pub core : CoreFrame D sig.count f

-- the frame on top: what it holds means what it says
pub record TopIsHeld (D : Decls) (S : Sight) (sig : Sig) (f : Frame) (q : FrameHolding) (g : Owned) : Type 0 where
  pub means : MeansAll D S (map (map_atom q.values) q.share) g
  pub env : (m : ℕ) → m < 256 → q.values m ≡ f.env m
  -- the rest of the script walks from a state that is the same up to order
  pub state : List (Atom ℕ)
  pub alike : SameUpToOrder q.share state
  pub walks : FrameWalks D (owed sig) state f.rest.commands f.rest.value f.outer q.script q.outer

-- a frame of signature sig that waits for a call of signature `called` with these arguments: it has what the call didn't
-- need, and goes on with that and what the call gives. The name of the call's value occurs nowhere in what it has: else a
-- permission could say of that name, as long as it stands for 0, what is false of the call's value
pub record WaitingIsHeld (D : Decls) (S : Sight) (called : Sig) (args : List Value) (sig : Sig) (w : Suspended) (q : WaitingHolding) (g : Owned) : Type 0 where
  -- the arguments' names
  pub names : List ℕ
  pub values : map q.frame.values names ≡ args
  pub many : length names ≡ called.count
  pub apart : AreArgs w.to names
  pub to_core : w.to < 256
  pub to_low : sig.count ≤ w.to
  pub fresh : occurs w.to q.frame.share ≡ false
  pub means : MeansAll D S (map (map_atom q.frame.values) q.frame.share) g
  pub env : (m : ℕ) → m < 256 → q.frame.values m ≡ w.frame.env m
  pub back : List (Atom ℕ)
  pub gives_back : GivesBack D called.needs back
  pub gives : q.gives ≡ given names w.to back called.gives
  pub walks : FrameWalks D (owed sig) (q.frame.share ++ q.gives) w.frame.rest.commands w.frame.rest.value w.frame.outer q.frame.script q.frame.outer

-- the frames below one of a signature that has these arguments
pub data BelowIsHeld (D : Decls) (S : Sight) : Sig → List Value → List Suspended → List WaitingHolding → Owned → Type 0 where
  Nothing_below : {sig : Sig} {args : List Value} {f : Owned} → OwnsNothing f → BelowIsHeld D S sig args [] [] f
  Waits_below : {called : Sig} {args args' : List Value} {w : Suspended} {q : WaitingHolding} {below : List Suspended} {parts : List WaitingHolding} {f g h : Owned} (s : ℕ) (sig : Sig) →
      IsFrameOf D s sig args' w.frame → WaitingIsHeld D S called args sig w q g → BelowIsHeld D S sig args' below parts h → OwnsBoth g h f → BelowIsHeld D S called args (w ∷ below) (q ∷ parts) f

-- what a thread holds: in its frame on top, and in the frames that wait below it
pub record ThreadHolding : Type 0 where
  pub top : FrameHolding
  pub below : List WaitingHolding

-- the frames of a thread hold what they say, each its own part of what the thread owns
pub record StackIsHeld (D : Decls) (S : Sight) (f : Frame) (below : List Suspended) (q : ThreadHolding) (g : Owned) : Type 0 where
  pub number : ℕ
  pub sig : Sig
  pub args : List Value
  pub top_of : IsFrameOf D number sig args f
  pub top_owns : Owned
  pub below_owns : Owned
  pub top : TopIsHeld D S sig f q.top top_owns
  pub under : BelowIsHeld D S sig args below q.below below_owns
  pub join : OwnsBoth top_owns below_owns g

-- a thread that runs holds what it says; one that has ended or stopped holds nothing that counts
abbrev pub ThreadIsHeld : Decls → Sight → Thread → ThreadHolding → Owned → Type 0
ThreadIsHeld D S (Running f below) q g = StackIsHeld D S f below q g
ThreadIsHeld D S Ended q g = Unit {0}
ThreadIsHeld D S Stopped q g = Unit {0}
