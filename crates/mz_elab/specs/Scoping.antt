-- What the walk of a body asks of its commands: their own names are new core names, and the names that they use are bound
-- before them. It holds of every program that was read.
use Rattle.std.specs.Prelude.{◌≡◌, ◌<◌, ◌≤◌, true, ℕ, List, [], ◌∷◌, length, Some, slice_get}
use Rattle.mz_tree.specs.Plain.{Atom}
use Rattle.mz_tree.specs.Code.{Op, Command, Commands, Case, Cases, Body, Int_op, Unit_op, Fun_op, Copy_op, Arith_op, New_op, Read_op, Write_op, Retag_op, If_op, Match_op, Call_op, Give_op, Take_op, New_lock_op, Acquire_op, Release_op, Spawn_op, Print_op, The_command, No_commands, More_commands, The_case, No_cases, More_cases, The_body, case_list, con_of, to_of}
use Rattle.mz_tree.specs.Programs.{Con, Sig, Fun, Program}
use Rattle.mz_decl.specs.Declarations.{Decls, decls_of}
use Rattle.mz_decl.specs.Signatures.{parameters}
use Rattle.mz_perm.specs.Lists.{In}
use Rattle.mz_perm.specs.Occurrence.{in_atom}
use Rattle.mz_flow.specs.Branches.{cases_at}

abbrev pub AreBound : List ℕ → List ℕ → Type 0
AreBound names ys = (y : ℕ) → In y ys → In y names

-- permissions that speak of bound names, and of the command's own
abbrev pub SpeakOf : List ℕ → List (Atom ℕ) → Type 0
SpeakOf names atoms = (a : Atom ℕ) → In a atoms → (m : ℕ) → in_atom m a ≡ true → In m names

-- a constructor with such a field
pub record HasField (D : Decls) (con field : ℕ) : Type 0 where
  pub made : Con
  pub is_con : slice_get D.cons con ≡ Some made
  pub within : field < length made.fields

-- a constructor; one of data type d
pub record IsCon (D : Decls) (con : ℕ) : Type 0 where
  pub made : Con
  pub is_con : slice_get D.cons con ≡ Some made

pub record IsConOf (D : Decls) (d con : ℕ) : Type 0 where
  pub made : Con
  pub is_con : slice_get D.cons con ≡ Some made
  pub data_type : made.variety ≡ d

-- there is one case for each constructor of d, and no other
pub record AreCasesOf (D : Decls) (d : ℕ) (cases : List Case) : Type 0 where
  pub only : (k : Case) → In k cases → IsConOf D d (con_of k)
  pub once : (k : Case) → In k cases → cases_at (con_of k) cases ≡ k ∷ []
  pub all : (con : ℕ) → IsConOf D d con → (k : Case) × In k cases × (con_of k ≡ con)

abbrev mutual
  pub ScopedBody : Decls → List ℕ → Body → Type 0
  ScopedBody D names (The_body commands value place) = ScopedCommands D names value commands

  -- commands, and then the body's value
  pub ScopedCommands : Decls → List ℕ → ℕ → Commands → Type 0
  ScopedCommands D names value No_commands = In value names
  ScopedCommands D names value (More_commands c rest) = ScopedCommand D names c × ScopedCommands D (to_of c ∷ names) value rest

  pub ScopedCommand : Decls → List ℕ → Command → Type 0
  ScopedCommand D names (The_command to op place) = (to < 256) × (In to names → ⊥) × ScopedOp D names to op

  pub ScopedOp : Decls → List ℕ → ℕ → Op → Type 0
  ScopedOp D names to (Int_op v) = Unit {0}
  ScopedOp D names to Unit_op = Unit {0}
  ScopedOp D names to (Fun_op f) = f < length D.fun_sigs
  ScopedOp D names to (Copy_op y) = In y names
  ScopedOp D names to (Arith_op o y z) = In y names × In z names
  ScopedOp D names to (New_op con ys) = AreBound names ys
  ScopedOp D names to (Read_op x con field) = In x names × HasField D con field
  ScopedOp D names to (Write_op x con field z) = In x names × HasField D con field × In z names
  ScopedOp D names to (Retag_op x old new) = In x names × IsCon D old × IsCon D new
  ScopedOp D names to (If_op y one two giving) = In y names × ScopedBody D names one × ScopedBody D names two × SpeakOf (to ∷ names) giving
  ScopedOp D names to (Match_op y d cases giving) = In y names × AreCasesOf D d (case_list cases) × ScopedCases D names cases × SpeakOf (to ∷ names) giving
  ScopedOp D names to (Call_op g ys) = In g names × AreBound names ys
  ScopedOp D names to (Give_op x y) = In x names × In y names
  ScopedOp D names to (Take_op x y) = In x names × In y names
  ScopedOp D names to (New_lock_op p) = SpeakOf names p
  ScopedOp D names to (Acquire_op l) = In l names
  ScopedOp D names to (Release_op l) = In l names
  ScopedOp D names to (Spawn_op g y) = In g names × In y names
  ScopedOp D names to (Print_op y) = In y names

  pub ScopedCases : Decls → List ℕ → Cases → Type 0
  ScopedCases D names No_cases = Unit {0}
  ScopedCases D names (More_cases c rest) = ScopedCase D names c × ScopedCases D names rest

  pub ScopedCase : Decls → List ℕ → Case → Type 0
  ScopedCase D names (The_case con body) = ScopedBody D names body

-- the same of a list of commands, without the value
abbrev pub AllScoped : Decls → List ℕ → List Command → Type 0
AllScoped D names [] = Unit {0}
AllScoped D names (c ∷ commands) = ScopedCommand D names c × AllScoped D (to_of c ∷ names) commands

-- the body of a function of a program is scoped, where its parameters are bound
pub record FunScoped (p : Program) (f : Fun) : Type 0 where
  pub sig : Sig
  pub signed : slice_get (decls_of p).sigs f.sig ≡ Some sig
  pub body : ScopedBody (decls_of p) (parameters sig) f.body
  pub few : sig.count ≤ 32
