-- What the answers of the parts of the check say.
use Rattle.std.specs.Prelude.{◌≡◌, ◌↔◌, ℕ, List, [], ◌∷◌, Option, Result, Ok, Err}
use Rattle.mz_tree.specs.Plain.{Atom}
use Rattle.mz_tree.specs.Code.{Command, Body, place_of, commands_in, brace_of}
use Rattle.mz_tree.specs.Programs.{Fun}
use Rattle.mz_tree.specs.declared.types.Place.{Place}
use Rattle.mz_decl.specs.Declarations.{Decls}
use Rattle.mz_modes.specs.Affine.{AffineAtom}
use Rattle.mz_modes.specs.declared.fault.RuleFault.{RuleFault}
use Rattle.mz_modes.specs.declared.fault.RuleFault.TheVariants.{NoInstance, Memory as RuleMemory}
use Rattle.mz_perm.specs.Lists.{In}
use Rattle.mz_perm.specs.Using.{UsesUpAll}
use Rattle.mz_view.specs.Steps.{Step}
use Rattle.mz_view.specs.Rules.{View}
use Rattle.mz_deriv.specs.Scripts.{Item, ScriptCases, Do_item, No_script_cases}
use Rattle.mz_deriv.specs.Rules.{Does, Branch, Branches}
use Rattle.mz_deriv.specs.Walks.{Walks, BranchesWalk, NamesOuter, joined}
use Rattle.mz_deriv.specs.Derivable.{FunWalks}
use Rattle.mz_deriv.specs.Refused.{IsMade, Refuses, BranchesRefuse, FunRefused}
use Rattle.mz_deriv.specs.declared.fault.DerivFault.{DerivFault}
use Rattle.mz_deriv.specs.declared.fault.DerivFault.TheVariants.{BadStep, BadCommand, Memory}

-- the names that the check carries are those of the definitions: only whether a name is among them counts
abbrev pub SameNames : List ℕ → List ℕ → Type 0
SameNames bound names = (n : ℕ) → In n bound ↔ In n names

-- a view step leads to the state that is left, or is refused at this place with this number
abbrev pub Sees : {A : Type 0} → Decls → List (Atom ℕ) → Step → Place → ℕ → List (Atom ℕ) → Result A DerivFault → Type 0
Sees D R s place number T (Ok done) = View D R s T
Sees D R s place number T (Err Memory) = Unit {0}
Sees D R s place number T (Err fault) = ((S : List (Atom ℕ)) → View D R s S → ⊥) × (fault ≡ BadStep place number)

-- a command leads by its rule to the state that is left, or leads nowhere
abbrev pub Follows : {A : Type 0} → Decls → List (Atom ℕ) → Command → Option (Atom ℕ) → List (Atom ℕ) → Result A RuleFault → Type 0
Follows D R c uses T (Ok done) = Does D R c uses T
Follows D R c uses T (Err NoInstance) = (S : List (Atom ℕ)) → Does D R c uses S → ⊥
Follows D R c uses T (Err RuleMemory) = Unit {0}

-- a command without branches leads to the state that is left, or can't be made as its item says
pub record MakesByRule (D : Decls) (R : List (Atom ℕ)) (c : Command) (uses : Option (Atom ℕ)) (cases : ScriptCases) (join T : List (Atom ℕ)) : Type 0 where
  pub no_cases : cases ≡ No_script_cases
  pub no_join : join ≡ []
  pub does : Does D R c uses T

abbrev pub GoesStraight : {A : Type 0} → Decls → List (Atom ℕ) → Command → Option (Atom ℕ) → ScriptCases → List (Atom ℕ) → List (Atom ℕ) → Result A DerivFault → Type 0
GoesStraight D R c uses cases join T (Ok done) = MakesByRule D R c uses cases join T
GoesStraight D R c uses cases join T (Err Memory) = Unit {0}
GoesStraight D R c uses cases join T (Err fault) = (IsMade D R c uses cases join → ⊥) × (fault ≡ BadCommand (place_of c))

-- a command goes on in branches, each of which begins; or it doesn't with these cases
abbrev pub Forks : {A : Type 0} → Decls → List (Atom ℕ) → Command → Option (Atom ℕ) → ScriptCases → Result A DerivFault → Type 0
Forks D R c uses cases (Ok done) = (branches : List Branch) × Branches D R c uses cases branches
Forks D R c uses cases (Err Memory) = Unit {0}
Forks D R c uses cases (Err fault) = ((branches : List Branch) → Branches D R c uses cases branches → ⊥) × (fault ≡ BadCommand (place_of c))

-- a script leads through a branch, whose end uses up the join
pub record BranchEnds (D : Decls) (names : List ℕ) (R : List (Atom ℕ)) (c : Command) (body : Body) (script : List Item) (join : List (Atom ℕ)) : Type 0 where
  pub last : List (Atom ℕ)
  pub walks : Walks D names R (commands_in body) script last
  pub rest : List (Atom ℕ)
  pub ends : UsesUpAll (AffineAtom D) (joined c body join) last rest

-- or the branch has the first point without an instance, whatever branches follow
abbrev pub BranchLeads : {A : Type 0} → Decls → List ℕ → List (Atom ℕ) → Command → Body → List Item → List (Atom ℕ) → Result A DerivFault → Type 0
BranchLeads D bound R c body script join (Ok done) = (names : List ℕ) → SameNames bound names → BranchEnds D names R c body script join
BranchLeads D bound R c body script join (Err Memory) = Unit {0}
BranchLeads D bound R c body script join (Err fault) = (names : List ℕ) → SameNames bound names → (later : List Branch) → BranchesRefuse D names c join (record { start = R; body = body; script = script } ∷ later) fault

-- all branches are walked through, one after the other, or one of them has that point
abbrev pub BranchesLead : {A : Type 0} → Decls → List ℕ → List (Atom ℕ) → Command → Option (Atom ℕ) → ScriptCases → List (Atom ℕ) → Result A DerivFault → Type 0
BranchesLead D bound R c uses cases join (Ok done) = (names : List ℕ) → SameNames bound names → (branches : List Branch) × Branches D R c uses cases branches × BranchesWalk D names c join branches
BranchesLead D bound R c uses cases join (Err Memory) = Unit {0}
BranchesLead D bound R c uses cases join (Err fault) = (names : List ℕ) → SameNames bound names → (branches : List Branch) × Branches D R c uses cases branches × BranchesRefuse D names c join branches fault

-- a command leads to the state that is left: by its rule, or through branches that join there
pub data Passes (D : Decls) (names : List ℕ) (R : List (Atom ℕ)) (c : Command) (uses : Option (Atom ℕ)) (cases : ScriptCases) (join T : List (Atom ℕ)) : Type 0 where
  By_rule : MakesByRule D R c uses cases join T → Passes D names R c uses cases join T
  Through_branches : (branches : List Branch) → Branches D R c uses cases branches → NamesOuter names R c join → BranchesWalk D names c join branches → T ≡ join → Passes D names R c uses cases join T

-- or its item is refused, whatever follows
abbrev pub Makes : {A : Type 0} → Decls → List ℕ → List (Atom ℕ) → Command → Option (Atom ℕ) → ScriptCases → List (Atom ℕ) → List (Atom ℕ) → Result A DerivFault → Type 0
Makes D bound R c uses cases join T (Ok done) = (names : List ℕ) → SameNames bound names → Passes D names R c uses cases join T
Makes D bound R c uses cases join T (Err Memory) = Unit {0}
Makes D bound R c uses cases join T (Err fault) = (names : List ℕ) → SameNames bound names → (commands : List Command) (items : List Item) (brace : Place) (made : ℕ) →
    Refuses D names R (c ∷ commands) (Do_item uses cases join ∷ items) brace made fault

-- a script leads through a body to the state that is left, or is refused
abbrev pub Leads : {A : Type 0} → Decls → List ℕ → List (Atom ℕ) → Body → List Item → List (Atom ℕ) → Result A DerivFault → Type 0
Leads D bound R body items T (Ok done) = (names : List ℕ) → SameNames bound names → Walks D names R (commands_in body) items T
Leads D bound R body items T (Err Memory) = Unit {0}
Leads D bound R body items T (Err fault) = (names : List ℕ) → SameNames bound names → Refuses D names R (commands_in body) items (brace_of body) 0 fault

-- a script leads through a function, or is refused
abbrev pub Derives : {A : Type 0} → Decls → Fun → List Item → Result A DerivFault → Type 0
Derives D f script (Ok done) = FunWalks D f script
Derives D f script (Err Memory) = Unit {0}
Derives D f script (Err fault) = FunRefused D f script fault
