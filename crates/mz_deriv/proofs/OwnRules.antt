-- The operations of adoption, locks and threads, which have rules of their own.
use Rattle.std.proofs.Common.{◌≡◌, ℕ, Bool, true, false, List, refl}
use Rattle.mz_tree.specs.Code.{Op, Give_op, Take_op, New_lock_op, Acquire_op, Release_op, Spawn_op}
use Rattle.mz_tree.specs.View.{plain_op}
use Rattle.mz_tree.specs.declared.types.Atom.{Atom as CodeAtom}
use Rattle.mz_tree.specs.declared.code.Op.{Op as CodeOp, Give, Take, NewLock, Acquire, Release, Spawn}

abbrev pub has_own_rule : Op → Bool
has_own_rule (Give_op x y) = true
has_own_rule (Take_op x y) = true
has_own_rule (New_lock_op q) = true
has_own_rule (Acquire_op l) = true
has_own_rule (Release_op l) = true
has_own_rule (Spawn_op g y) = true
has_own_rule op = false

-- what is none of them has none
pub no_own_rule : (op : CodeOp) → ((x y : ℕ) → op ≡ Give x y → ⊥) → ((x y : ℕ) → op ≡ Take x y → ⊥) → ((q : List CodeAtom) → op ≡ NewLock q → ⊥) → ((l : ℕ) → op ≡ Acquire l → ⊥) → ((l : ℕ) → op ≡ Release l → ⊥) → ((g y : ℕ) → op ≡ Spawn g y → ⊥) →
    has_own_rule (plain_op op) ≡ false
no_own_rule (Give x y) g t n a r s = absurd (g x y refl)
no_own_rule (Take x y) g t n a r s = absurd (t x y refl)
no_own_rule (NewLock q) g t n a r s = absurd (n q refl)
no_own_rule (Acquire l) g t n a r s = absurd (a l refl)
no_own_rule (Release l) g t n a r s = absurd (r l refl)
no_own_rule (Spawn f y) g t n a r s = absurd (s f y refl)
no_own_rule op g t n a r s = refl
