-- Answers of the rules that use several permissions up for another one: such a rule leads just where that spending does.
use Rattle.std.proofs.Common.{◌≡◌, ℕ, List, [], ◌∷◌, ◌++◌, Result, Ok, Err, sym, ap, ◌∙◌, subst}
use Rattle.mz_tree.specs.Plain.{Atom, Unknown_type, Locked_type, Lock_type, Has_atom, atoms_of}
use Rattle.mz_tree.specs.Programs.{Sig}
use Rattle.mz_decl.specs.Declarations.{Decls}
use Rattle.mz_decl.specs.Signatures.{needed, at_args}
use Rattle.mz_perm.specs.Lists.{In, Which, Any_copy, First_copy}
use Rattle.mz_perm.specs.Using.{UsesUpAllBy}
use Rattle.mz_modes.specs.Affine.{AffineAtom}
use Rattle.mz_modes.specs.Answers.{Answers}
use Rattle.mz_modes.specs.Calling.{IsCallee}
use Rattle.mz_modes.specs.declared.fault.RuleFault.{RuleFault}
use Rattle.mz_modes.specs.declared.fault.RuleFault.TheVariants.{NoInstance, Memory}
use Rattle.mz_lockrule.specs.Locking.{Locks, IsLock, Releases, Spawns}
use Rattle.mz_lockrule.specs.Spending.{Spends}
use Rattle.mz_lockrule.proofs.Orders.{guarded_one, callee_one}

-- what answers for one rule answers for another that leads just where the one does
answers_alike : {A : Type 0} (Leads Other : Which → List (Atom ℕ) → Type 0) (R T : List (Atom ℕ)) (result : Result A RuleFault) → ((S : List (Atom ℕ)) → Leads First_copy S → Other First_copy S) → ((S : List (Atom ℕ)) → Other Any_copy S → Leads Any_copy S) → Answers Leads R T result → Answers Other R T result
answers_alike Leads Other R T (Ok done) to from h = to T h
answers_alike Leads Other R T (Err NoInstance) to from h = (λ S o. h.0 S (from S o), h.1)
answers_alike Leads Other R T (Err Memory) to from h = h

-- a new lock spends what it guards for itself
pub locks_answer : {A : Type 0} (D : Decls) (R T guarded : List (Atom ℕ)) (c : ℕ) (b : Atom ℕ) (result : Result A RuleFault) → b ≡ Has_atom c (Lock_type (atoms_of guarded)) →
    Answers (λ which S. Spends which D R guarded b S) R T result → Answers (λ which S. Locks which D R c guarded S) R T result
locks_answer D R T guarded c b result e h = answers_alike (λ which S. Spends which D R guarded b S) (λ which S. Locks which D R c guarded S) R T result
    (λ S s. record { rest = s.rest; used = s.used; new = s.new ∙ ap (λ a. s.rest ++ a ∷ []) e })
    (λ S s. record { rest = s.rest; used = s.used; new = s.new ∙ ap (λ a. s.rest ++ a ∷ []) (sym e) })
    h

-- a release spends what the lock guards and that it is held; the permission that is named is of one such list
pub releases_answer : {A : Type 0} (D : Decls) (R T guarded wanted : List (Atom ℕ)) (c l : ℕ) (a : Atom ℕ) (result : Result A RuleFault) → wanted ≡ guarded ++ Has_atom l Locked_type ∷ [] → IsLock l a guarded → In a R →
    Answers (λ which S. Spends which D R wanted (Has_atom c Unknown_type) S) R T result → Answers (λ which S. Releases which D R c l a S) R T result
releases_answer D R T guarded wanted c l a result e i k h = answers_alike (λ which S. Spends which D R wanted (Has_atom c Unknown_type) S) (λ which S. Releases which D R c l a S) R T result
    (λ S s. record { guarded = guarded; lock = i; held = k; rest = s.rest; used = subst (λ w. UsesUpAllBy First_copy (AffineAtom D) w R s.rest) e s.used; new = s.new })
    (λ S r.
    let same : r.guarded ++ Has_atom l Locked_type ∷ [] ≡ wanted = ap (λ g. g ++ Has_atom l Locked_type ∷ []) (guarded_one l a r.guarded guarded r.lock i) ∙ sym e in
    record { rest = r.rest; used = subst (λ w. UsesUpAllBy Any_copy (AffineAtom D) w R r.rest) same r.used; new = r.new })
    h

-- a spawn spends what its function needs; the permission that is named is of one signature
pub spawns_answer : {A : Type 0} (D : Decls) (R T wanted : List (Atom ℕ)) (c g y : ℕ) (a : Atom ℕ) (result : Result A RuleFault) → (callee : IsCallee D R g 1 a) → wanted ≡ at_args (y ∷ []) (needed callee.sig.needs) →
    Answers (λ which S. Spends which D R wanted (Has_atom c Unknown_type) S) R T result → Answers (λ which S. Spawns which D R c g y a S) R T result
spawns_answer D R T wanted c g y a result callee e h = answers_alike (λ which S. Spends which D R wanted (Has_atom c Unknown_type) S) (λ which S. Spawns which D R c g y a S) R T result
    (λ S s. record { callee = callee; rest = s.rest; used = subst (λ w. UsesUpAllBy First_copy (AffineAtom D) w R s.rest) e s.used; new = s.new })
    (λ S r.
    let same : at_args (y ∷ []) (needed r.callee.sig.needs) ≡ wanted = ap (λ (s : Sig). at_args (y ∷ []) (needed s.needs)) (callee_one D R g 1 a r.callee callee) ∙ sym e in
    record { rest = r.rest; used = subst (λ w. UsesUpAllBy Any_copy (AffineAtom D) w R r.rest) same r.used; new = r.new })
    h
