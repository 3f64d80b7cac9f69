-- The check of one function, from those of its body and of its end.
use Rattle.std.proofs.Common.{◌≡◌, ℕ, List, Some, Err, slice_get, sym, subst}
use Rattle.mz_tree.specs.Plain.{Atom}
use Rattle.mz_tree.specs.Code.{commands_in, result_of, brace_of}
use Rattle.mz_tree.specs.Programs.{Sig, Fun}
use Rattle.mz_decl.specs.Declarations.{Decls}
use Rattle.mz_decl.specs.Signatures.{parameters, needed, owed}
use Rattle.mz_modes.specs.Affine.{AffineAtom}
use Rattle.mz_perm.specs.Lists.{In}
use Rattle.mz_perm.specs.Using.{UsesUpAll}
use Rattle.mz_deriv.specs.Scripts.{Item}
use Rattle.mz_deriv.specs.Walks.{Walks}
use Rattle.mz_deriv.specs.Derivable.{FunWalks}
use Rattle.mz_deriv.specs.Refused.{FunRefused, Body_refused, Owed_refused}
use Rattle.mz_deriv.specs.Parts.{SameNames, Leads, Derives}
use Rattle.mz_deriv.specs.declared.fault.DerivFault.{DerivFault}
use Rattle.mz_deriv.specs.declared.fault.DerivFault.TheVariants.{BadStep, BadCommand, BadJoin, Memory}

-- equal names are the same names
pub same_of : (bound names : List ℕ) → bound ≡ names → SameNames bound names
same_of bound names e n = ((λ i. subst (λ l. In n l) e i), (λ i. subst (λ l. In n l) (sym e) i))

module _ (D : Decls) (f : Fun) (script : List Item) (sig : Sig) (signed : slice_get D.sigs f.sig ≡ Some sig) (bound : List ℕ) (names : bound ≡ parameters sig) where
  -- the body is refused
  pub body_refused : (T : List (Atom ℕ)) (fault : DerivFault) → Leads {A = Unit {0}} D bound (needed sig.needs) f.body script T (Err fault) → Derives {A = Unit {0}} D f script (Err fault)
  body_refused T (BadStep p n) h = Body_refused sig signed (h (parameters sig) (same_of bound (parameters sig) names))
  body_refused T (BadCommand p) h = Body_refused sig signed (h (parameters sig) (same_of bound (parameters sig) names))
  body_refused T (BadJoin p) h = Body_refused sig signed (h (parameters sig) (same_of bound (parameters sig) names))
  body_refused T Memory h = tt

  -- the body is walked through, and its end uses up what it owes
  pub fun_walks : (last rest : List (Atom ℕ)) → ((names : List ℕ) → SameNames bound names → Walks D names (needed sig.needs) (commands_in f.body) script last) → UsesUpAll (AffineAtom D) (owed sig (result_of f.body)) last rest → FunWalks D f script
  fun_walks last rest w u = record { sig = sig; signed = signed; last = last; walks = w (parameters sig) (same_of bound (parameters sig) names); rest = rest; ends = u }

  -- or it doesn't
  pub fun_owes : (last : List (Atom ℕ)) → ((names : List ℕ) → SameNames bound names → Walks D names (needed sig.needs) (commands_in f.body) script last) → ((rest : List (Atom ℕ)) → UsesUpAll (AffineAtom D) (owed sig (result_of f.body)) last rest → ⊥) →
      FunRefused D f script (BadCommand (brace_of f.body))
  fun_owes last w n = Owed_refused sig signed (w (parameters sig) (same_of bound (parameters sig) names)) n
