-- What a call does with the permissions that are held, once its callee's signature is known.
use Rattle.std.specs.Prelude.{◌≡◌, ℕ, List, ◌++◌}
use Rattle.mz_tree.specs.Plain.{Atom}
use Rattle.mz_tree.specs.Programs.{Sig}
use Rattle.mz_decl.specs.Declarations.{Decls}
use Rattle.mz_decl.specs.Signatures.{needed, at_args, given}
use Rattle.mz_modes.specs.Affine.{AffineAtom}
use Rattle.mz_modes.specs.Calling.{GivesBack}
use Rattle.mz_perm.specs.Lists.{Which}
use Rattle.mz_perm.specs.Using.{UsesUpAllBy}

-- each need is used up in order, and what the call gives back and gives is added
pub record Spends (which : Which) (D : Decls) (R : List (Atom ℕ)) (c : ℕ) (sig : Sig) (ys : List ℕ) (T : List (Atom ℕ)) : Type 0 where
  pub rest : List (Atom ℕ)
  pub used : UsesUpAllBy which (AffineAtom D) (at_args ys (needed sig.needs)) R rest
  pub back : List (Atom ℕ)
  pub gives_back : GivesBack D sig.needs back
  pub new : T ≡ rest ++ given ys c back sig.gives
