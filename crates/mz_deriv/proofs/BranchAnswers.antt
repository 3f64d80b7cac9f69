-- What the answers for one branch come to.
use Rattle.std.proofs.Common.{◌≡◌, ℕ, List, ◌∷◌, Option, Some, Err, slice_get, sym, ◌∙◌, subst}
use Rattle.mz_tree.specs.Plain.{Atom}
use Rattle.mz_tree.specs.Code.{Command, Body, op_of, commands_in, brace_of}
use Rattle.mz_decl.specs.Declarations.{Decls}
use Rattle.mz_decl.proofs.Adopters.{some_is}
use Rattle.mz_modes.specs.Affine.{AffineAtom}
use Rattle.mz_perm.specs.Lists.{Any_copy, First_copy}
use Rattle.mz_perm.specs.Using.{UsesUpAll}
use Rattle.mz_flow.specs.Branches.{walked_bodies, Begins}
use Rattle.mz_flow.specs.Starting.{BeginsSome}
use Rattle.mz_flow.proofs.Firsts.{begins_any}
use Rattle.mz_deriv.specs.Scripts.{Item}
use Rattle.mz_deriv.specs.Rules.{Branch}
use Rattle.mz_deriv.specs.Walks.{Walks, joined}
use Rattle.mz_deriv.specs.Refused.{Refuses, BranchesRefuse, Inside_refused, End_refused}
use Rattle.mz_deriv.specs.Parts.{SameNames, Leads, BranchEnds, BranchLeads}
use Rattle.mz_deriv.specs.declared.fault.DerivFault.{DerivFault}
use Rattle.mz_deriv.specs.declared.fault.DerivFault.TheVariants.{BadStep, BadCommand, BadJoin, Memory}

-- a branch that begins does so with the body that is walked
pub begins_here : (D : Decls) (R : List (Atom ℕ)) (c : Command) (uses : Option (Atom ℕ)) (k fresh : ℕ) (body : Body) (S : List (Atom ℕ)) → slice_get (walked_bodies (op_of c) uses) k ≡ Some body → BeginsSome First_copy D R c uses k fresh S → Begins Any_copy D R c uses k fresh body S
begins_here D R c uses k fresh body S w b =
    let same : b.0 ≡ body = some_is b.0 body (sym b.1.walked ∙ w) in
    subst (λ z. Begins Any_copy D R c uses k fresh z S) same (begins_any D R c uses k fresh b.0 S b.1)

module _ (D : Decls) (bound : List ℕ) (R : List (Atom ℕ)) (c : Command) (body : Body) (script : List Item) (join : List (Atom ℕ)) where
  -- a refusal inside of a branch
  inside : (fault : DerivFault) → ((names : List ℕ) → SameNames bound names → Refuses D names R (commands_in body) script (brace_of body) 0 fault) →
      (names : List ℕ) → SameNames bound names → (later : List Branch) → BranchesRefuse D names c join (record { start = R; body = body; script = script } ∷ later) fault
  inside fault r names h later = Inside_refused (r names h)

  pub inside_refused : (T : List (Atom ℕ)) (fault : DerivFault) → Leads {A = Unit {0}} D bound R body script T (Err fault) → BranchLeads {A = Unit {0}} D bound R c body script join (Err fault)
  inside_refused T (BadStep p n) r = inside (BadStep p n) r
  inside_refused T (BadCommand p) r = inside (BadCommand p) r
  inside_refused T (BadJoin p) r = inside (BadJoin p) r
  inside_refused T Memory r = tt

  -- the end uses up the join
  pub branch_ends : (T rest : List (Atom ℕ)) → ((names : List ℕ) → SameNames bound names → Walks D names R (commands_in body) script T) → UsesUpAll (AffineAtom D) (joined c body join) T rest → (names : List ℕ) → SameNames bound names → BranchEnds D names R c body script join
  branch_ends T rest w u names h = record { last = T; walks = w names h; rest = rest; ends = u }

  -- or it doesn't
  pub end_refused : (T : List (Atom ℕ)) → ((names : List ℕ) → SameNames bound names → Walks D names R (commands_in body) script T) → ((rest : List (Atom ℕ)) → UsesUpAll (AffineAtom D) (joined c body join) T rest → ⊥) →
      (names : List ℕ) → SameNames bound names → (later : List Branch) → BranchesRefuse D names c join (record { start = R; body = body; script = script } ∷ later) (BadJoin (brace_of body))
  end_refused T w n names h later = End_refused (w names h) n
