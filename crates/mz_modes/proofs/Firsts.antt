-- What opens where the first of equal copies goes opens where any may go.
use Rattle.std.proofs.Common.{ℕ, List}
use Rattle.mz_tree.specs.Plain.{Atom, Named_type, Has_atom}
use Rattle.mz_decl.specs.Declarations.{Decls}
use Rattle.mz_perm.specs.Lists.{Any_copy, First_copy}
use Rattle.mz_perm.proofs.Firsts.{uses_any}
use Rattle.mz_modes.specs.Affine.{AffineAtom}
use Rattle.mz_modes.specs.Opening.{Opens}

pub opens_any : (D : Decls) (R : List (Atom ℕ)) (x d con n : ℕ) (T : List (Atom ℕ)) → Opens First_copy D R x d con n T → Opens Any_copy D R x d con n T
opens_any D R x d con n T o = record {
  made = o.made;
  is_con = o.is_con;
  fresh = o.fresh;
  rest = o.rest;
  used = uses_any (AffineAtom D) (Has_atom x (Named_type d)) R o.rest o.used;
  new = o.new;
}
