-- How branches join: in four parts, each of which says what it makes of the branches' ends and what it adds to the join.
use Rattle.std.specs.Prelude.{◌≡◌, ◌⊎◌, ◌≤◌, true, ℕ, List, [], ◌∷◌, ◌++◌}
use Rattle.mz_tree.specs.Plain.{Ty, Atom, Unknown_type, Named_type, Block_type, Has_atom, Same_atom, map_atom}
use Rattle.mz_tree.specs.Code.{Body, result_of, brace_of}
use Rattle.mz_tree.specs.declared.types.Place.{Place}
use Rattle.mz_decl.specs.Declarations.{Decls}
use Rattle.mz_modes.specs.Affine.{AffineAtom}
use Rattle.mz_perm.specs.Lists.{In, TakesFirst}
use Rattle.mz_perm.specs.Joining.{Joined}
use Rattle.mz_perm.specs.Occurrence.{in_atom, in_type}
use Rattle.mz_deriv.specs.Walks.{IsOuter, in_place_of}
use Rattle.mz_index.specs.Finding.{IsFirst, NoneFits, InClass}
use Rattle.mz_goal.specs.Needs.{Need}
use Rattle.mz_elab.specs.Scoping.{IsConOf}

-- the end of a branch: its state, the name of its value, and the place of its closing brace
pub record End : Type 0 where
  pub state : List (Atom ℕ)
  pub value : ℕ
  pub brace : Place

abbrev pub end_of : Body → List (Atom ℕ) → End
end_of body T = record { state = T; value = result_of body; brace = brace_of body }

abbrev pub with_state : End → List (Atom ℕ) → End
with_state e T = record { state = T; value = e.value; brace = e.brace }

-- the branch's value for the command's name
abbrev pub for_value : ℕ → End → Atom ℕ → Atom ℕ
for_value c e a = map_atom (in_place_of c e.value) a

-- each branch meets the goal, with its value for the command's name
abbrev pub AllNeed : Decls → ℕ → Atom ℕ → List End → List End → Type 0
AllNeed D c g [] after = after ≡ []
AllNeed D c g (e ∷ ends) after = (T : List (Atom ℕ)) × (rest : List End) × Need D e.state (for_value c e g) T × AllNeed D c g ends rest × (after ≡ with_state e T ∷ rest)

-- some branch doesn't
abbrev pub NotAllNeed : Decls → ℕ → Atom ℕ → List End → Type 0
NotAllNeed D c g ends = (after : List End) → AllNeed D c g ends after → ⊥

-- ---- what is given: each of these is a goal in each branch

abbrev pub Gives : Decls → ℕ → List (Atom ℕ) → List End → List End → Type 0
Gives D c [] ends after = after ≡ ends
Gives D c (g ∷ giving) ends after = (S : List End) × AllNeed D c g ends S × Gives D c giving S after

-- ---- what is known of the value

-- a permission, a type that names outer names alone: names that are known outside of the branches of a command that stands
-- at R, where `names` are bound
abbrev pub OuterAtom : List ℕ → List (Atom ℕ) → Atom ℕ → Type 0
OuterAtom names R a = (n : ℕ) → in_atom n a ≡ true → IsOuter names R n

abbrev pub OuterType : List ℕ → List (Atom ℕ) → Ty ℕ → Type 0
OuterType names R t = (n : ℕ) → in_type n t ≡ true → IsOuter names R n

-- a bound name that is of the value's class in every branch
abbrev pub InEach : ℕ → List End → Type 0
InEach x [] = Unit {0}
InEach x (e ∷ ends) = Joined e.state e.value x × InEach x ends

abbrev pub IsCommon : List ℕ → List End → ℕ → Type 0
IsCommon names ends x = In x names × InEach x ends

pub record IsLeast (P : ℕ → Type 0) (x : ℕ) : Type 0 where
  pub fits : P x
  pub least : (y : ℕ) → P y → x ≤ y

-- the first branch's state and value
abbrev pub first_state : List End → List (Atom ℕ)
first_state [] = []
first_state (e ∷ ends) = e.state

abbrev pub first_value : List End → ℕ
first_value [] = 0
first_value (e ∷ ends) = e.value

-- what the first branch holds of its value, at a type that says something and names outer names
abbrev pub HoldsValue : List ℕ → List (Atom ℕ) → List End → Atom ℕ → Type 0
HoldsValue names R ends a = InClass (first_state ends) (first_value ends) (λ t. (t ≡ Unknown_type → ⊥) × OuterType names R t) a

pub data Values (D : Decls) (names : List ℕ) (R : List (Atom ℕ)) (c : ℕ) (ends : List End) : List End → List (Atom ℕ) → Type 0 where
  -- it is a bound name: the least
  Value_named : (x : ℕ) → IsLeast (IsCommon names ends) x → Values D names R c ends ends (Same_atom c x ∷ [])
  -- it is held at the type of the first permission that the first branch holds of it
  Value_held : (n : ℕ) (a : Atom ℕ) (after : List End) → ((x : ℕ) → IsCommon names ends x → ⊥) → (f : IsFirst (HoldsValue names R ends) (first_state ends) n a) →
      AllNeed D c (Has_atom c f.fits.ty) ends after → Values D names R c ends after (Has_atom c f.fits.ty ∷ [])
  -- that isn't so in every branch
  Value_left : (n : ℕ) (a : Atom ℕ) → ((x : ℕ) → IsCommon names ends x → ⊥) → (f : IsFirst (HoldsValue names R ends) (first_state ends) n a) →
      NotAllNeed D c (Has_atom c f.fits.ty) ends → Values D names R c ends ends []
  -- the first branch holds none
  Value_unknown : ((x : ℕ) → IsCommon names ends x → ⊥) → NoneFits (HoldsValue names R ends) (first_state ends) → Values D names R c ends ends []

-- ---- what stands in every branch

abbrev pub InAll : Atom ℕ → List End → Type 0
InAll a [] = Unit {0}
InAll a (e ∷ ends) = In a e.state × InAll a ends

-- it is taken out of each
abbrev pub OutOfAll : Atom ℕ → List End → List End → Type 0
OutOfAll a [] after = after ≡ []
OutOfAll a (e ∷ ends) after = (T : List (Atom ℕ)) × (rest : List End) × TakesFirst a e.state T × OutOfAll a ends rest × (after ≡ with_state e T ∷ rest)

-- a permission that names outer names alone and stands in every branch
abbrev pub IsShared : List ℕ → List (Atom ℕ) → Atom ℕ → List End → Type 0
IsShared names R a ends = OuterAtom names R a × InAll a ends

-- an affine one is taken out of each branch, another stays
abbrev pub LeavesAll : Decls → Atom ℕ → List End → List End → Type 0
LeavesAll D a ends after = (AffineAtom D a × OutOfAll a ends after) ⊎ ((AffineAtom D a → ⊥) × (after ≡ ends))

-- of these permissions, in order, those that are shared
abbrev pub Shares : Decls → List ℕ → List (Atom ℕ) → List (Atom ℕ) → List End → List End → List (Atom ℕ) → Type 0
Shares D names R [] ends after join = (after ≡ ends) × (join ≡ [])
Shares D names R (a ∷ more) ends after join =
    (IsShared names R a ends × ((S : List End) × (rest : List (Atom ℕ)) × LeavesAll D a ends S × Shares D names R more S after rest × (join ≡ a ∷ rest)))
    ⊎ ((IsShared names R a ends → ⊥) × Shares D names R more ends after join)

-- ---- what was held at a data type before

-- the join has x at d, or at a block of a constructor of d
abbrev pub OfData : Decls → ℕ → Ty ℕ → Type 0
OfData D d (Named_type e) = e ≡ d
OfData D d (Block_type con ys clause) = IsConOf D d con
OfData D d _ = ⊥

abbrev pub HasData : Decls → ℕ → ℕ → List (Atom ℕ) → Type 0
HasData D x d join = (t : Ty ℕ) × In (Has_atom x t) join × OfData D d t

-- a permission x @ d of which the join has nothing yet
abbrev pub IsWanting : Decls → List (Atom ℕ) → Atom ℕ → Type 0
IsWanting D join (Has_atom x (Named_type d)) = HasData D x d join → ⊥
IsWanting D join _ = ⊥

-- and that every branch meets as a goal
abbrev pub IsRestored : Decls → ℕ → List (Atom ℕ) → Atom ℕ → List End → List End → Type 0
IsRestored D c join a ends after = IsWanting D join a × AllNeed D c a ends after

-- of these permissions, in order, those that are restored; `join` is what the branches join in so far
abbrev pub Restores : Decls → ℕ → List (Atom ℕ) → List (Atom ℕ) → List End → List End → List (Atom ℕ) → Type 0
Restores D c [] join ends after all = (after ≡ ends) × (all ≡ join)
Restores D c (a ∷ more) join ends after all =
    ((S : List End) × IsRestored D c join a ends S × Restores D c more (join ++ a ∷ []) S after all)
    ⊎ (((S : List End) → IsRestored D c join a ends S → ⊥) × Restores D c more join ends after all)

-- the branches of a command that stands at R join in this: what is given, then what is known of the value, then what stands
-- in every branch, then what was held at a data type before
pub record Joins (D : Decls) (names : List ℕ) (R : List (Atom ℕ)) (c : ℕ) (giving : List (Atom ℕ)) (ends : List End) (join : List (Atom ℕ)) : Type 0 where
  pub given : List End
  pub gives : Gives D c giving ends given
  pub valued : List End
  pub value : List (Atom ℕ)
  pub values : Values D names R c given valued value
  pub shared : List End
  pub share : List (Atom ℕ)
  pub shares : Shares D names R (first_state valued) valued shared share
  pub restored : List End
  pub restores : Restores D c R (giving ++ value ++ share) shared restored join
