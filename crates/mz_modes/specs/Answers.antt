-- What the answers of rules say, and of the calls of which rules are made.
use Rattle.std.specs.Prelude.{◌≡◌, ℕ, Bool, true, false, List, Option, Some, None, Result, Ok, Err}
use Rattle.mz_tree.specs.Plain.{Atom}
use Rattle.mz_tree.specs.View.{plain_sig}
use Rattle.mz_tree.specs.declared.program.Sig.{Sig as CodeSig}
use Rattle.mz_decl.specs.Declarations.{Decls}
use Rattle.mz_perm.specs.Lists.{Which, Any_copy, First_copy}
use Rattle.mz_perm.specs.Using.{UsesUp, UsesUpBy, UsesUpAll, UsesUpAllBy}
use Rattle.mz_modes.specs.Calling.{IsCallee}
use Rattle.mz_modes.specs.declared.fault.RuleFault.{RuleFault}
use Rattle.mz_modes.specs.declared.fault.RuleFault.TheVariants.{NoInstance, Memory}

-- a rule leads nowhere, whichever of equal copies goes
abbrev pub LeadsNowhere : (Which → List (Atom ℕ) → Type 0) → Type 0
LeadsNowhere Leads = (S : List (Atom ℕ)) → Leads Any_copy S → ⊥

-- the state was R and is T now: the one to which the rule leads where the first of equal copies goes; or the rule leads
-- nowhere, whichever goes, and the state is as before; or memory is wanting, and it is as before
abbrev pub Answers : {A : Type 0} → (Which → List (Atom ℕ) → Type 0) → List (Atom ℕ) → List (Atom ℕ) → Result A RuleFault → Type 0
Answers Leads R T (Ok done) = Leads First_copy T
Answers Leads R T (Err NoInstance) = LeadsNowhere Leads × (T ≡ R)
Answers Leads R T (Err Memory) = T ≡ R

-- the state to which the rule leads where the first of equal copies goes; or the rule leads nowhere, whichever goes
abbrev pub Gives : (Which → List (Atom ℕ) → Type 0) → Result (List (Atom ℕ)) RuleFault → Type 0
Gives Leads (Ok T) = Leads First_copy T
Gives Leads (Err NoInstance) = LeadsNowhere Leads
Gives Leads (Err Memory) = Unit {0}

-- the element was used up, the first copy where it goes; else it can't be, and the list is as it was
abbrev pub Used : {A : Type 0} → Bool → (A → Type 0) → A → List A → List A → Type 0
Used true Goes a xs ys = UsesUpBy First_copy Goes a xs ys
Used false Goes a xs ys = ((zs : List _) → UsesUp Goes a xs zs → ⊥) × (ys ≡ xs)

-- all of them were, one after the other; else they can't be, and some of those before may be gone
abbrev pub UsedAll : {A : Type 0} → Bool → (A → Type 0) → List A → List A → List A → Type 0
UsedAll true Goes p xs ys = UsesUpAllBy First_copy Goes p xs ys
UsedAll false Goes p xs ys = (zs : List _) → UsesUpAll Goes p xs zs → ⊥

-- the signature of the callee; none where the permission isn't held, or isn't for a function with so many parameters
abbrev pub FoundCallee : Decls → List (Atom ℕ) → ℕ → ℕ → Atom ℕ → Option CodeSig → Type 0
FoundCallee D R name count a None = IsCallee D R name count a → ⊥
FoundCallee D R name count a (Some sig) = (callee : IsCallee D R name count a) × (callee.sig ≡ plain_sig sig)
