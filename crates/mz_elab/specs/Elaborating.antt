-- What the proposer answers.
use Rattle.std.specs.Prelude.{◌≡◌, Some, Result, Ok, Err, slice_get}
use Rattle.mz_tree.specs.Programs.{Sig, Fun, Program}
use Rattle.mz_tree.specs.View.{plain_atom}
use Rattle.mz_decl.specs.Declarations.{Decls}
use Rattle.mz_decl.specs.Signatures.{parameters}
use Rattle.mz_elab.specs.Guided.{GuidedFun, GuidedProgram}
use Rattle.mz_elab.specs.Lacking.{LacksFun, LacksProgram}
use Rattle.mz_elab.specs.Scoping.{ScopedBody}
use Rattle.mz_elab.specs.declared.fault.ElabFault.{ElabFault}
use Rattle.mz_elab.specs.declared.fault.ElabFault.TheVariants.{NoPermission, Memory}

-- the body of a function is scoped where its parameters are bound
abbrev pub BodyScoped : Decls → Fun → Type 0
BodyScoped D f = (sig : Sig) → slice_get D.sigs f.sig ≡ Some sig → ScopedBody D (parameters sig) f.body

-- the guided rules lead through a function; or this is the first permission that it lacks, and its place
abbrev pub FunOr : {A : Type 0} → Decls → Fun → Result A ElabFault → Type 0
FunOr D f (Ok done) = GuidedFun D f
FunOr D f (Err (NoPermission place a)) = LacksFun D f place (plain_atom a)
FunOr D f (Err Memory) = Unit {0}

-- the same of a program
abbrev pub Elaborates : {A : Type 0} → Program → Result A ElabFault → Type 0
Elaborates p (Ok done) = GuidedProgram p
Elaborates p (Err (NoPermission place a)) = LacksProgram p place (plain_atom a)
Elaborates p (Err Memory) = Unit {0}
