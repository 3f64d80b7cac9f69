-- What the walk answers of commands, branches and bodies.
use Rattle.std.specs.Prelude.{◌≡◌, ◌⊎◌, ℕ, ◌+◌, List, ◌∷◌, Some, Result, Ok, Err, Vec, length, slice_get}
use Rattle.std.proofs.Common.{Global}
use Rattle.mz_tree.specs.Plain.{Atom}
use Rattle.mz_tree.specs.Code.{Body, Case, Command, to_of, commands_in, body_of, con_of}
use Rattle.mz_tree.specs.Programs.{Con}
use Rattle.mz_tree.specs.View.{plain_atom}
use Rattle.mz_tree.specs.declared.types.Place.{Place}
use Rattle.mz_decl.specs.Declarations.{Decls, clause_of}
use Rattle.mz_decl.specs.Contents.{opened, names_from}
use Rattle.mz_modes.specs.Affine.{Affine}
use Rattle.mz_perm.specs.Lists.{In}
use Rattle.mz_elab.specs.Opening.{Opening, in_place, at_end}
use Rattle.mz_elab.specs.Joins.{End, end_of, Joins}
use Rattle.mz_elab.specs.Joining.{plain_end, plain_ends}
use Rattle.mz_elab.specs.Guided.{Guided, GuidedAll}
use Rattle.mz_elab.specs.Lacking.{Lacks, LacksIn, GivesLack}
use Rattle.mz_elab.specs.Scoping.{ScopedBody, AreCasesOf}
use Rattle.mz_elab.specs.declared.ends.End.{End as CodeEnd}
use Rattle.mz_elab.specs.declared.fault.ElabFault.{ElabFault}
use Rattle.mz_elab.specs.declared.fault.ElabFault.TheVariants.{NoPermission, Memory}

-- where the rules lead from the second point of a body, and what is wanting behind it, is so from the first too
pub record Reaches (D : Decls) (names : List ℕ) (R : List (Atom ℕ)) (n : ℕ) (commands : List Command) (more : List ℕ) (S : List (Atom ℕ)) (k : ℕ) (rest : List Command) : Type 0 where
  pub guided : (T : List (Atom ℕ)) (m : ℕ) → Guided D more S k rest T m → Guided D names R n commands T m
  pub lacks : (place : Place) (a : Atom ℕ) → Lacks D more S k rest place a → Lacks D names R n commands place a

-- a command leads to what follows it, whatever that is; or it is wanting something itself
abbrev pub GoesOver : {A : Type 0} → Decls → List ℕ → List (Atom ℕ) → ℕ → Command → List (Atom ℕ) → ℕ → Result A ElabFault → Type 0
GoesOver D names R n c S k (Ok done) = (rest : List Command) → Reaches D names R n (c ∷ rest) (to_of c ∷ names) S k rest
GoesOver D names R n c S k (Err (NoPermission place a)) = (rest : List Command) → Lacks D names R n (c ∷ rest) place (plain_atom a)
GoesOver D names R n c S k (Err Memory) = Unit {0}

-- a body is walked to this end, with this next fresh name; or it is wanting something
pub record WalksTo (D : Decls) (names : List ℕ) (R : List (Atom ℕ)) (n : ℕ) (body : Body) (k : ℕ) (e : CodeEnd) : Type 0 where
  pub guided : Guided D names R n (commands_in body) e.state k
  pub is : plain_end e ≡ end_of body e.state

abbrev pub BodyOr : Decls → List ℕ → List (Atom ℕ) → ℕ → Body → ℕ → Result CodeEnd ElabFault → Type 0
BodyOr D names R n body k (Ok e) = WalksTo D names R n body k e
BodyOr D names R n body k (Err (NoPermission place a)) = Lacks D names R n (commands_in body) place (plain_atom a)
BodyOr D names R n body k (Err Memory) = Unit {0}

-- a branch is
abbrev pub BranchOr : Decls → List ℕ → ℕ → Opening → ℕ → Result CodeEnd ElabFault → Type 0
BranchOr D names n b k result = BodyOr D names (b.begins n) (n + b.takes) b.body k result

-- all branches are
abbrev pub BranchesOr : Decls → List ℕ → ℕ → List Opening → ℕ → Result (Vec CodeEnd Global) ElabFault → Type 0
BranchesOr D names n branches k (Ok ends) = GuidedAll D names n branches (plain_ends ends.items) k
BranchesOr D names n branches k (Err (NoPermission place a)) = LacksIn D names n branches place (plain_atom a)
BranchesOr D names n branches k (Err Memory) = Unit {0}

-- the ends of branches join in what is left; or what is given is wanting
abbrev pub JoinsOr : {A : Type 0} → Decls → List ℕ → List (Atom ℕ) → ℕ → List (Atom ℕ) → List End → List (Atom ℕ) → Result A ElabFault → Type 0
JoinsOr D names R c giving ends J (Ok done) = Joins D names R c giving ends J
JoinsOr D names R c giving ends J (Err (NoPermission place a)) = GivesLack D c giving ends place (plain_atom a)
JoinsOr D names R c giving ends J (Err Memory) = Unit {0}

-- each body of these cases is scoped
abbrev pub EachScoped : Decls → List ℕ → List Case → Type 0
EachScoped D names cases = (i : ℕ) (c : Case) → slice_get cases i ≡ Some c → ScopedBody D names (body_of c)

-- there is one case for each constructor of d, and their bodies are scoped
pub record MatchScoped (D : Decls) (names : List ℕ) (d : ℕ) (cases : List Case) : Type 0 where
  pub cases_of : AreCasesOf D d cases
  pub bodies : EachScoped D names cases

-- how what is known of an opened permission of d goes into the state: in its place, or at the end
abbrev pub PutsIn : Decls → List (Atom ℕ) → ℕ → ℕ → (List (Atom ℕ) → List (Atom ℕ)) → Type 0
PutsIn D R place d put = (Affine D d × (put ≡ in_place R place)) ⊎ ((Affine D d → ⊥) × (put ≡ at_end R))

-- y at d is opened at the constructor, with names from n on for its fields; the next fresh name is k then
pub record OpensCon (D : Decls) (y d con n : ℕ) (put : List (Atom ℕ) → List (Atom ℕ)) (S : List (Atom ℕ)) (k : ℕ) : Type 0 where
  pub made : Con
  pub is_con : slice_get D.cons con ≡ Some made
  pub next : k ≡ n + length made.fields
  pub state : S ≡ put (opened y con (names_from n (length made.fields)) (clause_of D d) made.fields)

-- there is a case of the constructor
abbrev pub HasCase : ℕ → List Case → Type 0
HasCase con cases = (k : Case) × In k cases × (con_of k ≡ con)
