-- What goals and what is added make of a command.
use Rattle.std.proofs.Common.{◌≡◌, ℕ, Result, Ok, Err, List, [], ◌∷◌, refl, ap, ◌∙◌, subst}
use Rattle.mz_tree.specs.Plain.{Atom, Int_type, Unknown_type, Lock_type, Has_atom, atoms_of}
use Rattle.mz_tree.specs.Code.{Arith_op, New_lock_op, Print_op}
use Rattle.mz_tree.specs.declared.code.Arith.{Arith}
use Rattle.mz_tree.specs.declared.types.Place.{Place}
use Rattle.mz_decl.specs.Declarations.{Decls}
use Rattle.mz_deriv.specs.Scripts.{Item}
use Rattle.mz_elab.specs.Doing.{ActsOr, MeetsThen}
use Rattle.mz_elab.specs.declared.fault.ElabFault.{ElabFault}
use Rattle.mz_elab.specs.declared.fault.ElabFault.TheVariants.{NoPermission, Memory}

module _ (D : Decls) (K : ℕ → Type 0) (R : List (Atom ℕ)) (n c : ℕ) (place : Place) (T : List (Atom ℕ)) (before after : List Item) where
  pub computed : (op : Arith) (y z : ℕ) (goals : List (Atom ℕ)) (a : Atom ℕ) (r : Result (Unit {0}) ElabFault) → goals ≡ Has_atom y Int_type ∷ Has_atom z Int_type ∷ [] → a ≡ Has_atom c Int_type → MeetsThen D K R goals place a T before after r → ActsOr D R n c (Arith_op op y z) place T n r
  computed op y z goals a r e f m = by r (subst (λ b. MeetsThen D K R (Has_atom y Int_type ∷ Has_atom z Int_type ∷ []) place b T before after r) f (subst (λ g. MeetsThen D K R g place a T before after r) e m))
    where
      by : (r : Result (Unit {0}) ElabFault) → MeetsThen D K R (Has_atom y Int_type ∷ Has_atom z Int_type ∷ []) place (Has_atom c Int_type) T before after r → ActsOr D R n c (Arith_op op y z) place T n r
      by (Ok u) m = (m.meets, refl)
      by (Err (NoPermission p b)) m = m
      by (Err Memory) m = tt

  pub printed : (y : ℕ) (goals : List (Atom ℕ)) (r : Result (Unit {0}) ElabFault) → goals ≡ Has_atom y Int_type ∷ [] → MeetsThen D K R goals place (Has_atom c Unknown_type) T before after r → ActsOr D R n c (Print_op y) place T n r
  printed y goals r e m = by r (subst (λ g. MeetsThen D K R g place (Has_atom c Unknown_type) T before after r) e m)
    where
      by : (r : Result (Unit {0}) ElabFault) → MeetsThen D K R (Has_atom y Int_type ∷ []) place (Has_atom c Unknown_type) T before after r → ActsOr D R n c (Print_op y) place T n r
      by (Ok u) m = (m.meets, refl)
      by (Err (NoPermission p b)) m = m
      by (Err Memory) m = tt

module _ (D : Decls) (K : ℕ → Type 0) (R : List (Atom ℕ)) (n c : ℕ) (place : Place) (T : List (Atom ℕ)) (before after : List Item) where
  pub locked : (guarded goals : List (Atom ℕ)) (a : Atom ℕ) (r : Result (Unit {0}) ElabFault) → goals ≡ guarded → a ≡ Has_atom c (Lock_type (atoms_of guarded)) → MeetsThen D K R goals place a T before after r → ActsOr D R n c (New_lock_op guarded) place T n r
  locked guarded goals a r e f m = by r (subst (λ b. MeetsThen D K R guarded place b T before after r) f (subst (λ g. MeetsThen D K R g place a T before after r) e m))
    where
      by : (r : Result (Unit {0}) ElabFault) → MeetsThen D K R guarded place (Has_atom c (Lock_type (atoms_of guarded))) T before after r → ActsOr D R n c (New_lock_op guarded) place T n r
      by (Ok u) m = (m.meets, refl)
      by (Err (NoPermission p b)) m = m
      by (Err Memory) m = tt

pub two_are : (a b x y : Atom ℕ) → a ≡ x → b ≡ y → a ∷ b ∷ [] ≡ x ∷ y ∷ []
two_are a b x y e f = ap (λ z. z ∷ b ∷ []) e ∙ ap (λ z. x ∷ z ∷ []) f
