-- The walk over a source ended, and what is answered then.
use Rattle.std.proofs.Common.{◌≡◌, ◌==◌, ◌&&◌, Bool, true, false, not, ℕ, List, [], Some, map, option_map, slice_get, refl, sym, ap, ap₂, ◌∙◌, subst, true≢false}
use Rattle.mz_scope.specs.declared.fault.Cause.{Cause}
use Rattle.mz_scope.specs.declared.fault.Fault.{Fault}
use Rattle.mz_scope.specs.Faults.{IsFirst}
use Rattle.std.proofs.lemmas.Option.{slice_get-map}
use Rattle.mz_tree.specs.declared.program.Sig.{Sig as CodeSig}
use Rattle.mz_tree.specs.declared.program.Program.{Program as CodeProgram}
use Rattle.mz_tree.specs.View.{plain_sig, plain_program}
use Rattle.mz_scope.specs.declared.making.Making.{Making}
use Rattle.mz_scope.specs.declared.resolution.Walked.{Walked}
use Rattle.mz_scope.specs.Syntax.{Declaration}
use Rattle.mz_scope.specs.Names.{Globals, globals_of}
use Rattle.mz_scope.specs.Making.{Made, Came_to, nothing_made}
use Rattle.mz_scope.specs.Declarations.{declarations}
use Rattle.mz_scope.specs.Flattening.{flattened, program_in, faults_in, faults_of, flat_program, Flattens}
use Rattle.mz_tree.specs.Main.{has_no_param, has_main}
use Rattle.mz_scope.specs.Walking.{Walks}
use Rattle.mz_scope.specs.View.{made_of}

pub walked_came : (tree : List Declaration) (g : Globals) (m : Made) (p : CodeProgram) (making : Making) → g ≡ globals_of tree → m ≡ nothing_made → declarations g 0 0 0 0 tree m ≡ Came_to (plain_program p) (made_of making)
    → Walks tree (record { program = record p { clauses = making.clauses }; faults = making.faults })
unfolding made_of
walked_came tree g m p making e1 e2 h =
    let came : flattened tree ≡ Came_to (plain_program p) (made_of making) = ap (λ x. declarations x 0 0 0 0 tree nothing_made) (sym e1) ∙ ap (declarations g 0 0 0 0 tree) (sym e2) ∙ h in
    record { flat = sym (ap program_in came); faults = sym (ap faults_in came) }

-- nothing is wrong, and there is a `main`
pub all_well : (tree : List Declaration) (w : Walked) → Walks tree w → w.faults ≡ [] → has_main (plain_program w.program) ≡ true → Flattens tree (plain_program w.program)
all_well tree w walks none main = record { clean = sym walks.faults ∙ none; begins = ap has_main (sym walks.flat) ∙ main; flat = walks.flat }

-- nothing is wrong, but there is no `main`
pub main_wanting : (tree : List Declaration) (w : Walked) → Walks tree w → w.faults ≡ [] → has_main (plain_program w.program) ≡ false → (faults_of tree ≡ []) × (has_main (flat_program tree) ≡ false)
main_wanting tree w walks none main = (sym walks.faults ∙ none, ap has_main (sym walks.flat) ∙ main)

-- ---- the function `main`

pub true_by_not : (b : Bool) → false ≡ not b → b ≡ true
true_by_not true h = refl
true_by_not false h = absurd (true≢false (sym h))

-- a function of that name is `main` where its signature has no parameter
pub main_is : (named : Bool) (sigs : List CodeSig) (k : ℕ) (one : CodeSig) → named ≡ true → slice_get sigs k ≡ Some one → (one.count == 0) ≡ (named && has_no_param (slice_get (map plain_sig sigs) k))
main_is named sigs k one e h = sym (ap₂ (λ b o. b && has_no_param o) e (slice_get-map plain_sig sigs k ∙ ap (option_map plain_sig) h))

-- ---- faults

-- a fault of a cause is the first as it is the first
pub first_of_cause : (faults : List Fault) (fault : Fault) (cause : Cause) → fault.cause ≡ cause → IsFirst faults fault → IsFirst faults (record { cause = cause; place = fault.place })
first_of_cause faults fault cause e first = subst (λ k. IsFirst faults (record { cause = k; place = fault.place })) e first

-- the first of a source's faults is answered
pub first_walked : (tree : List Declaration) (w : Walked) (faults : List Fault) (fault : Fault) → Walks tree w → faults ≡ w.faults → IsFirst faults fault → IsFirst (faults_of tree) fault
first_walked tree w faults fault walks e first = subst (λ l. IsFirst l fault) (e ∙ walks.faults) first
