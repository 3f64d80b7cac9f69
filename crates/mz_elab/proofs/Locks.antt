-- The lock that a command looks for, what it guards, and what is made of that.
use Rattle.std.proofs.Common.{◌≡◌, ℕ, IfOk, Result, Ok, Err, List, [], ◌∷◌, ◌++◌, Some, slice_get, inr, refl, sym, ap, ◌∙◌, subst}
use Rattle.mz_tree.specs.Plain.{Ty, Atom, Locked_type, Unknown_type, Has_atom}
use Rattle.mz_tree.specs.Code.{Release_op}
use Rattle.mz_tree.specs.View.{plain_atom, plain_atoms, plain_ty}
use Rattle.mz_tree.specs.declared.types.Atom.{Atom as CodeAtom}
use Rattle.mz_tree.specs.declared.types.Ty.{Ty as CodeTy, Lock}
use Rattle.mz_tree.specs.declared.types.Place.{Place}
use Rattle.mz_tree.proofs.Views.{plain_lock}
use Rattle.mz_tree.proofs.Chains.{list_of_atoms}
use Rattle.mz_decl.specs.Declarations.{Decls}
use Rattle.mz_lockrule.specs.Locking.{TypeGuards}
use Rattle.mz_goal.specs.Needs.{FirstUnmet}
use Rattle.mz_elab.specs.Acting.{FindsLock, GuardsSome, Meeting}
use Rattle.mz_elab.specs.Doing.{ActsOr}
use Rattle.mz_elab.specs.Locking.{MeetsOr}
use Rattle.mz_elab.specs.Sought.{IsFirstAt}
use Rattle.mz_elab.specs.declared.fault.ElabFault.{ElabFault}
use Rattle.mz_elab.specs.declared.fault.ElabFault.TheVariants.{NoPermission, Memory}

-- a lock of this type guards these alone
pub guards_these : {E : Type 0} (t : CodeTy) (atoms : List CodeAtom) (r : Result (List CodeAtom) E) → t ≡ Lock atoms → IfOk r (λ it. it ≡ atoms) → (guarded : List (Atom ℕ)) → TypeGuards (plain_ty t) guarded → IfOk r (λ it. plain_atoms it ≡ guarded)
guards_these t atoms (Err f) e o guarded g = tt
guards_these t atoms (Ok it) e o guarded g = ap plain_atoms o ∙ sym (list_of_atoms (plain_atoms atoms)) ∙ sym (subst (λ s. TypeGuards s guarded) (ap plain_ty e ∙ plain_lock atoms) g)

same_type : (x y : ℕ) (t u : Ty ℕ) (a : Atom ℕ) → Some (Has_atom x t) ≡ Some a → a ≡ Has_atom y u → u ≡ t
same_type x y t u a e f = cc

-- the first lock, and what it guards
pub lock_found : {E : Type 0} (R : List (Atom ℕ)) (l n x : ℕ) (t : Ty ℕ) (r : Result (List CodeAtom) E) → slice_get R n ≡ Some (Has_atom x t) → ((guarded : List (Atom ℕ)) → TypeGuards t guarded → IfOk r (λ it. plain_atoms it ≡ guarded)) → IsFirstAt R l GuardsSome n → IfOk r (λ it. FindsLock R l (plain_atoms it))
lock_found R l n x t (Err f) is g h = tt
lock_found R l n x t (Ok it) is g h =
    let same = same_type x h.first.fits.name t h.first.fits.ty h.one (sym is ∙ h.first.stands) h.first.fits.is in
    let some = h.first.fits.fits in
    record {
      place = n;
      one = h.one;
      first = h.first;
      guards = subst (λ l. TypeGuards h.first.fits.ty l) (sym (g some.0 (subst (λ s. TypeGuards s some.0) same some.1))) some.1;
    }

-- a lock that is freed
module _ (D : Decls) (R : List (Atom ℕ)) (n c l : ℕ) (place : Place) (guarded T : List (Atom ℕ)) where
  pub released : (goals : List (Atom ℕ)) (r : Result (Unit {0}) ElabFault) → FindsLock R l guarded → goals ≡ guarded ++ Has_atom l Locked_type ∷ [] → MeetsOr D R goals (Has_atom c Unknown_type) place T r → ActsOr D R n c (Release_op l) place T n r
  released goals (Ok u) f e m = (record { guarded = guarded; found = f; meets = subst (λ g. Meeting D R g (Has_atom c Unknown_type ∷ []) T) e m }, refl)
  released goals (Err (NoPermission p b)) f e m = (m.0, inr (record { guarded = guarded; found = f; unmet = subst (λ g. FirstUnmet D R g (plain_atom b)) e m.1 }))
  released goals (Err Memory) f e m = tt
