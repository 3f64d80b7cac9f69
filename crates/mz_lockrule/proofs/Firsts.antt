-- A rule that uses up the first of equal copies uses up one of the copies.
use Rattle.std.proofs.Common.{ℕ, List, [], ◌∷◌, ◌++◌, Option, Some, None}
use Rattle.mz_tree.specs.Plain.{Atom, Locked_type, Has_atom}
use Rattle.mz_tree.specs.Code.{Op, New_lock_op, Acquire_op, Release_op, Spawn_op}
use Rattle.mz_decl.specs.Declarations.{Decls}
use Rattle.mz_decl.specs.Signatures.{needed, at_args}
use Rattle.mz_modes.specs.Affine.{AffineAtom}
use Rattle.mz_perm.specs.Lists.{Any_copy, First_copy}
use Rattle.mz_perm.proofs.Firsts.{uses_all_any}
use Rattle.mz_lockrule.specs.Locking.{LockRule}

pub lock_any : (D : Decls) (R : List (Atom ℕ)) (c : ℕ) (op : Op) (uses : Option (Atom ℕ)) (T : List (Atom ℕ)) → LockRule First_copy D R c op uses T → LockRule Any_copy D R c op uses T
lock_any D R c (New_lock_op guarded) None T r = record { rest = r.rest; used = uses_all_any (AffineAtom D) guarded R r.rest r.used; new = r.new }
lock_any D R c (Acquire_op l) (Some a) T r = r
lock_any D R c (Release_op l) (Some a) T r = record { guarded = r.guarded; lock = r.lock; held = r.held; rest = r.rest; used = uses_all_any (AffineAtom D) (r.guarded ++ Has_atom l Locked_type ∷ []) R r.rest r.used; new = r.new }
lock_any D R c (Spawn_op g y) (Some a) T r = record { callee = r.callee; rest = r.rest; used = uses_all_any (AffineAtom D) (at_args (y ∷ []) (needed r.callee.sig.needs)) R r.rest r.used; new = r.new }
lock_any D R c op uses T r = absurd r
