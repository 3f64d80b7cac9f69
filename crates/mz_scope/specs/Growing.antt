-- Declarations one after the other, as the code goes over them: what is declared so far, before what comes behind it.
use Rattle.std.specs.Prelude.{◌≡◌, List, ◌∷◌, ◌++◌}
use Rattle.mz_tree.specs.declared.program.Program.{Program as CodeProgram}
use Rattle.mz_tree.specs.Programs.{Program}
use Rattle.mz_tree.specs.View.{plain_program}
use Rattle.mz_scope.specs.declared.counts.Counts.{Counts}
use Rattle.mz_scope.specs.declared.making.Making.{Making}
use Rattle.mz_scope.specs.Syntax.{Declaration}
use Rattle.mz_scope.specs.Names.{Globals}
use Rattle.mz_scope.specs.Making.{Came, Part, goes_on, give}
use Rattle.mz_scope.specs.Declarations.{declarations}
use Rattle.mz_scope.specs.View.{made_of}

-- what is declared in one program, and then in another
abbrev pub joined : Program → Program → Program
joined front rest = record {
  varieties = front.varieties ++ rest.varieties;
  cons = front.cons ++ rest.cons;
  sigs = front.sigs ++ rest.sigs;
  funs = front.funs ++ rest.funs;
  clauses = front.clauses ++ rest.clauses;
}

abbrev pub with_program : Program → Came Program → Came Program
with_program front came = goes_on (λ rest. give (joined front rest)) came

-- the declarations behind those that are counted
abbrev pub declarations_behind : Globals → Counts → List Declaration → Part Program
declarations_behind g n rest = declarations g n.varieties n.sigs n.cons n.funs rest

-- a declaration comes to what is added to the program, whatever stands behind it
abbrev pub Adds_declaration : Globals → Declaration → Counts → CodeProgram → Making → Counts → CodeProgram → Making → Type 0
Adds_declaration g one n program making new_n new_program new_making = (rest : List Declaration) →
    with_program (plain_program program) (declarations_behind g n (one ∷ rest) (made_of making)) ≡ with_program (plain_program new_program) (declarations_behind g new_n rest (made_of new_making))
