-- The answer of a rule of one kind is that of the rule of all commands.
use Rattle.std.proofs.Common.{◌≡◌, ℕ, false, List, Option, Result, Ok, Err, sym, subst}
use Rattle.mz_tree.specs.Plain.{Atom}
use Rattle.mz_tree.specs.Code.{Op, Command, Give_op, Take_op, New_lock_op, Acquire_op, Release_op, Spawn_op, to_of, op_of}
use Rattle.mz_decl.specs.Declarations.{Decls}
use Rattle.mz_modes.specs.Making.{Makes}
use Rattle.mz_modes.specs.Answers.{Answers}
use Rattle.mz_modes.specs.declared.fault.RuleFault.{RuleFault}
use Rattle.mz_modes.specs.declared.fault.RuleFault.TheVariants.{NoInstance, Memory}
use Rattle.mz_perm.specs.Lists.{Which, Any_copy, First_copy}
use Rattle.mz_flow.specs.Commands.{PlainRule}
use Rattle.mz_flow.proofs.Firsts.{plain_any}
use Rattle.mz_adopt.specs.Adopting.{GiveRule, TakeRule}
use Rattle.mz_adopt.proofs.Firsts.{adoption_any}
use Rattle.mz_lockrule.specs.Locking.{NewLockRule, AcquireRule, ReleaseRule, SpawnRule}
use Rattle.mz_lockrule.proofs.Firsts.{lock_any}
use Rattle.mz_deriv.specs.Rules.{Rule}
use Rattle.mz_deriv.specs.Parts.{Follows}
use Rattle.mz_deriv.proofs.OwnRules.{has_own_rule}

-- a rule that is that of all commands where the operation is known
pub record IsRule (D : Decls) (R : List (Atom ℕ)) (c : ℕ) (op : Op) (uses : Option (Atom ℕ)) (One : Which → ℕ → Op → Option (Atom ℕ) → List (Atom ℕ) → Type 0) : Type 0 where
  pub first : (S : List (Atom ℕ)) → One First_copy c op uses S → Rule D R c op uses S
  pub any : (S : List (Atom ℕ)) → Rule D R c op uses S → One Any_copy c op uses S

pub follows : (D : Decls) (R T : List (Atom ℕ)) (c : Command) (uses : Option (Atom ℕ)) (One : Which → ℕ → Op → Option (Atom ℕ) → List (Atom ℕ) → Type 0) (result : Result (Unit {0}) RuleFault) → IsRule D R (to_of c) (op_of c) uses One →
    Answers (λ which S. Makes (One which) R c uses S) R T result → Follows D R c uses T result
follows D R T c uses One (Ok done) i a = record { new = a.new; rule = i.first T a.rule }
follows D R T c uses One (Err NoInstance) i a = λ S d. a.0 S (record { new = d.new; rule = i.any S d.rule })
follows D R T c uses One (Err Memory) i a = tt

module _ (D : Decls) (R : List (Atom ℕ)) (c : ℕ) (op : Op) (uses : Option (Atom ℕ)) where
  pub is_give : (x y : ℕ) → op ≡ Give_op x y → IsRule D R c op uses (λ which. GiveRule which D R)
  is_give x y e = subst (λ o. IsRule D R c o uses (λ which. GiveRule which D R)) (sym e) (record { first = λ S r. adoption_any D R c (Give_op x y) uses S r; any = λ S r. r })

  pub is_take : (x y : ℕ) → op ≡ Take_op x y → IsRule D R c op uses (λ which. TakeRule D R)
  is_take x y e = subst (λ o. IsRule D R c o uses (λ which. TakeRule D R)) (sym e) (record { first = λ S r. adoption_any D R c (Take_op x y) uses S r; any = λ S r. r })

  pub is_new_lock : (q : List (Atom ℕ)) → op ≡ New_lock_op q → IsRule D R c op uses (λ which. NewLockRule which D R)
  is_new_lock q e = subst (λ o. IsRule D R c o uses (λ which. NewLockRule which D R)) (sym e) (record { first = λ S r. lock_any D R c (New_lock_op q) uses S r; any = λ S r. r })

  pub is_acquire : (l : ℕ) → op ≡ Acquire_op l → IsRule D R c op uses (λ which. AcquireRule R)
  is_acquire l e = subst (λ o. IsRule D R c o uses (λ which. AcquireRule R)) (sym e) (record { first = λ S r. lock_any D R c (Acquire_op l) uses S r; any = λ S r. r })

  pub is_release : (l : ℕ) → op ≡ Release_op l → IsRule D R c op uses (λ which. ReleaseRule which D R)
  is_release l e = subst (λ o. IsRule D R c o uses (λ which. ReleaseRule which D R)) (sym e) (record { first = λ S r. lock_any D R c (Release_op l) uses S r; any = λ S r. r })

  pub is_spawn : (g y : ℕ) → op ≡ Spawn_op g y → IsRule D R c op uses (λ which. SpawnRule which D R)
  is_spawn g y e = subst (λ o. IsRule D R c o uses (λ which. SpawnRule which D R)) (sym e) (record { first = λ S r. lock_any D R c (Spawn_op g y) uses S r; any = λ S r. r })

  -- and that of the other operations
  pub is_plain : has_own_rule op ≡ false → IsRule D R c op uses (λ which. PlainRule which D R)
  is_plain e = plain_of op e
    where
      plain_of : (o : Op) → has_own_rule o ≡ false → IsRule D R c o uses (λ which. PlainRule which D R)
      plain_of (Give_op x y) f = absurd (cc)
      plain_of (Take_op x y) f = absurd (cc)
      plain_of (New_lock_op q) f = absurd (cc)
      plain_of (Acquire_op l) f = absurd (cc)
      plain_of (Release_op l) f = absurd (cc)
      plain_of (Spawn_op g y) f = absurd (cc)
      plain_of o f = record { first = λ S r. plain_any D R c o uses S r; any = λ S r. r }
