-- What a lock's permission says that it guards.
use Rattle.std.proofs.Common.{◌≡◌, ℕ, List, Option, Some, None, sym, ap, ◌∙◌, subst}
use Rattle.mz_tree.specs.Plain.{Ty, Atom, Has_atom, Lock_type, atoms_of}
use Rattle.mz_tree.specs.View.{plain_ty, plain_atoms}
use Rattle.mz_tree.specs.declared.types.Ty.{Lock, Ty as CodeTy}
use Rattle.mz_tree.specs.declared.types.Atom.{Atom as CodeAtom}
use Rattle.mz_tree.proofs.Views.{plain_lock}
use Rattle.mz_tree.proofs.Chains.{list_of_atoms}
use Rattle.mz_lockrule.specs.Locking.{TypeGuards}
use Rattle.mz_lockrule.specs.Guards.{TypeGuardsOf, GuardsOf}

-- the type of a lock says it of the lock's list, which stands in the type in a form of its own
pub of_lock : (t : CodeTy) (p : List CodeAtom) → t ≡ Lock p → TypeGuards (plain_ty t) (plain_atoms p)
of_lock t p e =
    let view : plain_ty t ≡ Lock_type (atoms_of (plain_atoms p)) = ap plain_ty e ∙ plain_lock p in
    subst (λ s. TypeGuards s (plain_atoms p)) (sym view) (sym (list_of_atoms (plain_atoms p)))

-- a permission of the lock's own name says what its type says
pub of_name : (l x : ℕ) (t : Ty ℕ) (a : Atom ℕ) (o : Option (List (Atom ℕ))) → a ≡ Has_atom x t → x ≡ l → TypeGuardsOf t o → GuardsOf l a o
of_name l x t a None e s h = subst (λ b. GuardsOf l b None) (sym e) (λ p i. h p i.1)
of_name l x t a (Some p) e s h = subst (λ b. GuardsOf l b (Some p)) (sym e) (s, h)
