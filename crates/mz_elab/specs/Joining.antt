-- What the code of joins keeps and answers: the branches' ends, with the items that are written for each.
use Rattle.std.specs.Prelude.{◌≡◌, ◌⊎◌, ◌↔◌, ◌++◌, ◌≤◌, ℕ, Bool, true, false, List, [], ◌∷◌, map, Option, Some, None, Result, Ok, Err}
use Rattle.mz_tree.specs.Plain.{Ty, Atom, Unknown_type, Has_atom, Same_atom}
use Rattle.mz_tree.specs.View.{plain_atom, plain_atoms, plain_ty}
use Rattle.mz_tree.specs.declared.types.Atom.{Atom as CodeAtom}
use Rattle.mz_tree.specs.declared.types.Ty.{Ty as CodeTy}
use Rattle.mz_tree.specs.declared.types.Place.{Place}
use Rattle.mz_decl.specs.Declarations.{Decls}
use Rattle.mz_perm.specs.Lists.{In, TakesFirst}
use Rattle.mz_view.specs.Rules.{subject_of}
use Rattle.mz_view.specs.declared.step.ViewStep.TheVariants.{Unknown as UnknownCode}
use Rattle.mz_deriv.specs.declared.script.Item.{Item as CodeItem, Step as StepItem}
use Rattle.mz_deriv.specs.Walks.{IsOuter}
use Rattle.mz_deriv.specs.Scripts.{Item}
use Rattle.mz_deriv.specs.View.{plain_item}
use Rattle.mz_view.specs.Steps.{Step}
use Rattle.mz_index.specs.Finding.{IsFirst, NoneFits, InClass}
use Rattle.mz_goal.specs.Needs.{Need, Needs, Unmet, FirstUnmet}
use Rattle.mz_elab.specs.Joins.{End, for_value, AllNeed, NotAllNeed, Gives, InEach, IsCommon, IsLeast, OuterType, OfData, IsRestored, Restores, InAll, OutOfAll, IsShared, LeavesAll, Shares, Values, Joins}
use Rattle.mz_elab.specs.Lacking.{FirstLacks, GivesLack}
use Rattle.mz_elab.specs.Scripting.{Shown, sees}
use Rattle.mz_elab.specs.Sought.{FirstAt}
use Rattle.mz_elab.specs.declared.ends.End.{End as CodeEnd}
use Rattle.mz_elab.specs.declared.fault.ElabFault.{ElabFault}
use Rattle.mz_elab.specs.declared.fault.ElabFault.TheVariants.{NoPermission, Memory}

-- an end without its script
abbrev pub plain_end : CodeEnd → End
plain_end e = record { state = e.state; value = e.value; brace = e.brace }

abbrev pub plain_ends : List CodeEnd → List End
plain_ends ends = map plain_end ends

-- the items that are written for an end
abbrev pub items_at : CodeEnd → List Item
items_at e = map plain_item e.items

-- steps were written that show T from R
pub record Writes (D : Decls) (K : ℕ → Type 0) (R : List (Atom ℕ)) (before after : List Item) (T : List (Atom ℕ)) : Type 0 where
  pub steps : List Step
  pub is : after ≡ before ++ sees steps
  pub shown : Shown D K R steps T

-- of each branch steps were written that show what its end has become beside these permissions, with its value for the
-- command's name
abbrev pub EachWrites : Decls → (ℕ → Type 0) → ℕ → List (Atom ℕ) → List CodeEnd → List CodeEnd → Type 0
EachWrites D K c l [] after = after ≡ []
EachWrites D K c l (e ∷ ends) [] = ⊥
EachWrites D K c l (e ∷ ends) (f ∷ after) = (f.value ≡ e.value) × (f.brace ≡ e.brace) × Writes D K e.state (items_at e) (items_at f) (f.state ++ map (for_value c (plain_end e)) l) × EachWrites D K c l ends after

-- a goal was met, and what was written for it; or it isn't met, and all is as before
abbrev pub MeetsGoal : Bool → Decls → (ℕ → Type 0) → List (Atom ℕ) → Atom ℕ → List (Atom ℕ) → List Item → List Item → Type 0
MeetsGoal true D K R g T p q = Need D R g T × Writes D K R p q (T ++ g ∷ [])
MeetsGoal false D K R g T p q = Unmet D R g × (T ≡ R) × (q ≡ p)

-- one branch meets the goal, and what is written for it; or at its brace the goal is wanting
abbrev pub GoesOn : {A : Type 0} → Decls → (ℕ → Type 0) → ℕ → Atom ℕ → CodeEnd → CodeEnd → Result A ElabFault → Type 0
GoesOn D K c g e f (Ok done) = (f.value ≡ e.value) × (f.brace ≡ e.brace) × Need D e.state (for_value c (plain_end e) g) f.state × Writes D K e.state (items_at e) (items_at f) (f.state ++ for_value c (plain_end e) g ∷ [])
GoesOn D K c g e f (Err (NoPermission place a)) = Unmet D e.state (for_value c (plain_end e) g) × (place ≡ e.brace) × (plain_atom a ≡ for_value c (plain_end e) g)
GoesOn D K c g e f (Err Memory) = Unit {0}

-- all branches do; or the first that doesn't lacks it
abbrev pub AllGoOn : {A : Type 0} → Decls → (ℕ → Type 0) → ℕ → Atom ℕ → List CodeEnd → List CodeEnd → Result A ElabFault → Type 0
AllGoOn D K c g ends after (Ok done) = AllNeed D c g (plain_ends ends) (plain_ends after) × EachWrites D K c (g ∷ []) ends after
AllGoOn D K c g ends after (Err (NoPermission place a)) = FirstLacks D c g (plain_ends ends) place (plain_atom a)
AllGoOn D K c g ends after (Err Memory) = Unit {0}

-- all that is given; or the first of it that some branch lacks
abbrev pub AllGiven : {A : Type 0} → Decls → (ℕ → Type 0) → ℕ → List (Atom ℕ) → List CodeEnd → List CodeEnd → Result A ElabFault → Type 0
AllGiven D K c giving ends after (Ok done) = Gives D c giving (plain_ends ends) (plain_ends after) × EachWrites D K c giving ends after
AllGiven D K c giving ends after (Err (NoPermission place a)) = GivesLack D c giving (plain_ends ends) place (plain_atom a)
AllGiven D K c giving ends after (Err Memory) = Unit {0}

-- the least of the bound names that are of the value's class in every branch; or there is none
abbrev pub CommonOf : Option ℕ → List ℕ → List End → Type 0
CommonOf None names ends = (x : ℕ) → IsCommon names ends x → ⊥
CommonOf (Some x) names ends = IsLeast (IsCommon names ends) x

-- the best name so far, and one more that is of each class or isn't: the less of the two
abbrev pub IsBelow : Option ℕ → ℕ → Type 0
IsBelow None x = ⊥
IsBelow (Some b) x = b ≤ x

abbrev pub Better : List End → Option ℕ → ℕ → Option ℕ → Type 0
Better ends best x it = ((it ≡ best) × (IsBelow best x ⊎ (InEach x ends → ⊥))) ⊎ ((it ≡ Some x) × InEach x ends × (IsBelow best x → ⊥))

-- a goal that says nothing of a name
abbrev pub IsUnknownGoal : Atom ℕ → Type 0
IsUnknownGoal (Has_atom x t) = t ≡ Unknown_type
IsUnknownGoal (Same_atom x y) = ⊥

-- it is held already, or the step that says it was written
abbrev pub SaysUnknown : List (Atom ℕ) → Atom ℕ → List CodeItem → List CodeItem → Type 0
SaysUnknown R g before after = (In g R × (after ≡ before)) ⊎ (after ≡ before ++ StepItem (UnknownCode (subject_of g)) ∷ [])

-- goals are met one after the other; or at this place the first of them is wanting that isn't
abbrev pub MeetsGoals : {A : Type 0} → Decls → (ℕ → Type 0) → List (Atom ℕ) → List (Atom ℕ) → Place → List (Atom ℕ) → List Item → List Item → Result A ElabFault → Type 0
MeetsGoals D K R goals place T p q (Ok done) = Needs D R goals T × Writes D K R p q (T ++ goals)
MeetsGoals D K R goals place T p q (Err (NoPermission other a)) = (other ≡ place) × FirstUnmet D R goals (plain_atom a)
MeetsGoals D K R goals place T p q (Err Memory) = Unit {0}

-- whether a branch would meet the goal, with its value for the command's name
abbrev pub Would : Bool → Decls → ℕ → Atom ℕ → End → Type 0
Would true D c g e = (T : List (Atom ℕ)) × Need D e.state (for_value c e g) T
Would false D c g e = Unmet D e.state (for_value c e g)

-- whether each would
abbrev pub AllWould : Bool → Decls → ℕ → Atom ℕ → List End → Type 0
AllWould true D c g ends = (after : List End) × AllNeed D c g ends after
AllWould false D c g ends = NotAllNeed D c g ends

-- each branch met the goal, and what was written for it; or some branch doesn't meet it, and all is as before
abbrev pub Tries : Bool → Decls → (ℕ → Type 0) → ℕ → Atom ℕ → List CodeEnd → List CodeEnd → Type 0
Tries true D K c g ends after = AllNeed D c g (plain_ends ends) (plain_ends after) × EachWrites D K c (g ∷ []) ends after
Tries false D K c g ends after = NotAllNeed D c g (plain_ends ends) × (after ≡ ends)

-- the permission has x at d, or at a block of a constructor of d
abbrev pub IsOf : Decls → ℕ → ℕ → Atom ℕ → Type 0
IsOf D x d (Has_atom y t) = (y ≡ x) × OfData D d t
IsOf D x d (Same_atom y z) = ⊥

-- one permission of the state before is restored, and stands in the join from then on; or it isn't, and all is as before
pub record PutsBack (D : Decls) (K : ℕ → Type 0) (c : ℕ) (join : List (Atom ℕ)) (a : Atom ℕ) (ends after : List CodeEnd) (all : List (Atom ℕ)) : Type 0 where
  pub restored : IsRestored D c join a (plain_ends ends) (plain_ends after)
  pub more : all ≡ join ++ a ∷ []
  pub written : EachWrites D K c (a ∷ []) ends after

pub record LeavesOut (D : Decls) (c : ℕ) (join : List (Atom ℕ)) (a : Atom ℕ) (ends after : List CodeEnd) (all : List (Atom ℕ)) : Type 0 where
  pub not : (S : List End) → IsRestored D c join a (plain_ends ends) S → ⊥
  pub same : after ≡ ends
  pub join_same : all ≡ join

abbrev pub RestoresOne : Decls → (ℕ → Type 0) → ℕ → List (Atom ℕ) → Atom ℕ → List CodeEnd → List CodeEnd → List (Atom ℕ) → Type 0
RestoresOne D K c join a ends after all = PutsBack D K c join a ends after all ⊎ LeavesOut D c join a ends after all

-- all of them that are
pub record RestoresAll (D : Decls) (K : ℕ → Type 0) (c : ℕ) (before join : List (Atom ℕ)) (ends after : List CodeEnd) (all : List (Atom ℕ)) : Type 0 where
  pub restores : Restores D c before join (plain_ends ends) (plain_ends after) all
  pub more : List (Atom ℕ)
  pub is : all ≡ join ++ more
  pub written : EachWrites D K c more ends after

-- an end keeps its value, its place and what is written for it
abbrev pub Keeps : CodeEnd → CodeEnd → Type 0
Keeps e f = (f.value ≡ e.value) × (f.brace ≡ e.brace) × (f.items ≡ e.items)

abbrev pub EachKeeps : List CodeEnd → List CodeEnd → Type 0
EachKeeps [] after = after ≡ []
EachKeeps (e ∷ ends) [] = ⊥
EachKeeps (e ∷ ends) (f ∷ after) = Keeps e f × EachKeeps ends after

-- the first copy of a permission that stands in an end is taken out
abbrev pub TakesOut : Atom ℕ → CodeEnd → CodeEnd → Type 0
TakesOut a e f = (In a e.state → TakesFirst a e.state f.state) × Keeps e f

abbrev pub TakesOutAll : Atom ℕ → List CodeEnd → List CodeEnd → Type 0
TakesOutAll a ends after = InAll a (plain_ends ends) → OutOfAll a (plain_ends ends) (plain_ends after) × EachKeeps ends after

-- these are the names that are known outside of the branches of a command at R
abbrev pub AreOuter : List ℕ → List ℕ → List (Atom ℕ) → Type 0
AreOuter outer names R = (n : ℕ) → In n outer ↔ IsOuter names R n

-- one permission is shared, and stands in the join from then on; or it isn't, and all is as before
pub record IsShareOf (D : Decls) (names : List ℕ) (R : List (Atom ℕ)) (a : Atom ℕ) (ends after : List CodeEnd) (join all : List (Atom ℕ)) : Type 0 where
  pub shared : IsShared names R a (plain_ends ends)
  pub leaves : LeavesAll D a (plain_ends ends) (plain_ends after)
  pub keeps : EachKeeps ends after
  pub more : all ≡ join ++ a ∷ []

pub record IsNoShareOf (names : List ℕ) (R : List (Atom ℕ)) (a : Atom ℕ) (ends after : List CodeEnd) (join all : List (Atom ℕ)) : Type 0 where
  pub not : IsShared names R a (plain_ends ends) → ⊥
  pub same : after ≡ ends
  pub join_same : all ≡ join

abbrev pub SharesOne : Decls → List ℕ → List (Atom ℕ) → Atom ℕ → List CodeEnd → List CodeEnd → List (Atom ℕ) → List (Atom ℕ) → Type 0
SharesOne D names R a ends after join all = IsShareOf D names R a ends after join all ⊎ IsNoShareOf names R a ends after join all

-- all of these that are
pub record SharesAll (D : Decls) (names : List ℕ) (R these : List (Atom ℕ)) (ends after : List CodeEnd) (join all : List (Atom ℕ)) : Type 0 where
  pub share : List (Atom ℕ)
  pub shares : Shares D names R these (plain_ends ends) (plain_ends after) share
  pub is : all ≡ join ++ share
  pub keeps : EachKeeps ends after

-- what is known of the value of the branches, with the bound names and the outer ones, and what was written for it
pub record ValuesAll (D : Decls) (K : ℕ → Type 0) (names : List ℕ) (R : List (Atom ℕ)) (c : ℕ) (ends after : List CodeEnd) (join all : List (Atom ℕ)) : Type 0 where
  pub value : List (Atom ℕ)
  pub values : Values D names R c (plain_ends ends) (plain_ends after) value
  pub is : all ≡ join ++ value
  pub written : EachWrites D K c value ends after

-- the value is a bound name: that is written, and stands in the join
pub record Names (D : Decls) (K : ℕ → Type 0) (c x : ℕ) (ends after : List CodeEnd) (join all : List (Atom ℕ)) : Type 0 where
  pub same : plain_ends after ≡ plain_ends ends
  pub is : all ≡ join ++ Same_atom c x ∷ []
  pub written : EachWrites D K c (Same_atom c x ∷ []) ends after

-- each branch holds its value at the type, which stands in the join from then on; or some branch doesn't, and all is as
-- before
pub record HoldsIt (D : Decls) (K : ℕ → Type 0) (c : ℕ) (t : Ty ℕ) (ends after : List CodeEnd) (join all : List (Atom ℕ)) : Type 0 where
  pub met : AllNeed D c (Has_atom c t) (plain_ends ends) (plain_ends after)
  pub is : all ≡ join ++ Has_atom c t ∷ []
  pub written : EachWrites D K c (Has_atom c t ∷ []) ends after

pub record HoldsNot (D : Decls) (c : ℕ) (t : Ty ℕ) (ends after : List CodeEnd) (join all : List (Atom ℕ)) : Type 0 where
  pub not : NotAllNeed D c (Has_atom c t) (plain_ends ends)
  pub same : after ≡ ends
  pub join_same : all ≡ join

abbrev pub HoldsOr : Decls → (ℕ → Type 0) → ℕ → Ty ℕ → List CodeEnd → List CodeEnd → List (Atom ℕ) → List (Atom ℕ) → Type 0
HoldsOr D K c t ends after join all = HoldsIt D K c t ends after join all ⊎ HoldsNot D c t ends after join all

-- what the first branch holds, with its state and its value
abbrev pub HeldIn : List ℕ → List (Atom ℕ) → List (Atom ℕ) → ℕ → Option ℕ → Type 0
HeldIn names R S value found = FirstAt S value (λ t. (t ≡ Unknown_type → ⊥) × OuterType names R t) found

-- what is known of the value where it is no bound name
abbrev pub TypeKnown : Decls → (ℕ → Type 0) → List ℕ → List (Atom ℕ) → ℕ → List CodeEnd → List CodeEnd → List (Atom ℕ) → List (Atom ℕ) → Type 0
TypeKnown D K names R c ends after join all = ((x : ℕ) → IsCommon names (plain_ends ends) x → ⊥) → ValuesAll D K names R c ends after join all

-- its type
pub record HeldAs (names : List ℕ) (R S : List (Atom ℕ)) (value : ℕ) (t : Ty ℕ) : Type 0 where
  pub place : ℕ
  pub one : Atom ℕ
  pub first : IsFirst (InClass S value (λ u. (u ≡ Unknown_type → ⊥) × OuterType names R u)) S place one
  pub ty : t ≡ first.fits.ty

abbrev pub HeldTy : List ℕ → List (Atom ℕ) → List (Atom ℕ) → ℕ → Option CodeTy → Type 0
HeldTy names R S value None = NoneFits (InClass S value (λ u. (u ≡ Unknown_type → ⊥) × OuterType names R u)) S
HeldTy names R S value (Some ty) = HeldAs names R S value (plain_ty ty)

-- the ends join in these permissions; or what is given is wanting
abbrev pub JoinsEnds : Decls → (ℕ → Type 0) → List ℕ → List (Atom ℕ) → ℕ → List (Atom ℕ) → List CodeEnd → List CodeEnd → Result (List CodeAtom) ElabFault → Type 0
JoinsEnds D K names R c giving ends after (Ok join) = Joins D names R c giving (plain_ends ends) (plain_atoms join)
JoinsEnds D K names R c giving ends after (Err (NoPermission place a)) = GivesLack D c giving (plain_ends ends) place (plain_atom a)
JoinsEnds D K names R c giving ends after (Err Memory) = Unit {0}
