-- The function that a command calls: it is found, and its needs are met.
use Rattle.std.proofs.Common.{◌≡◌, inr, ℕ, List, length, Some, Err, ap, ◌∙◌, subst}
use Rattle.mz_tree.specs.Plain.{Atom, Has_atom}
use Rattle.mz_tree.specs.Programs.{Sig}
use Rattle.mz_tree.specs.declared.types.Place.{Place}
use Rattle.mz_decl.specs.Declarations.{Decls}
use Rattle.mz_decl.specs.Signatures.{needed, at_args}
use Rattle.mz_goal.specs.Needs.{Needs}
use Rattle.mz_elab.specs.Acting.{SignedWith, FindsFunction}
use Rattle.mz_elab.specs.Sought.{IsFirstAt}
use Rattle.mz_elab.specs.Calling.{SigAt, MeetsOr, Uses, UsesOr}
use Rattle.mz_elab.specs.declared.fault.ElabFault.{ElabFault}
use Rattle.mz_elab.specs.declared.fault.ElabFault.TheVariants.{NoPermission, Memory}

module _ (D : Decls) (R : List (Atom ℕ)) (callee count at : ℕ) (found : IsFirstAt R callee (SignedWith D count) at) where
  -- its signature stands where it was found
  sig_there : SigAt D R at found.first.fits.fits.sig
  sig_there = record {
    name = found.first.fits.name;
    number = found.first.fits.fits.number;
    stands = found.first.stands ∙ ap Some (found.first.fits.is ∙ ap (Has_atom found.first.fits.name) found.first.fits.fits.is);
    declared = found.first.fits.fits.declared;
  }

  pub finds : (sig : Sig) → ((s : Sig) → SigAt D R at s → sig ≡ s) → FindsFunction D R callee count sig
  finds sig s = record { place = at; one = found.one; first = found.first; same = s found.first.fits.fits.sig sig_there }

module _ (D : Decls) (R : List (Atom ℕ)) (callee : ℕ) (args : List ℕ) (sig : Sig) (goals : List (Atom ℕ)) (place : Place) (T : List (Atom ℕ)) (is : goals ≡ at_args args (needed sig.needs)) where
  pub used : FindsFunction D R callee (length args) sig → Needs D R goals T → Uses D R callee args sig T
  used f n = record { found = f; needs = subst (λ g. Needs D R g T) is n }

  -- one of its needs isn't met
  pub unused : (e : ElabFault) → FindsFunction D R callee (length args) sig → MeetsOr {A = Unit {0}} D R goals place T (Err e) → UsesOr D R callee args place T (Err e)
  unused e f m = by e (subst (λ g. MeetsOr {A = Unit {0}} D R g place T (Err e)) is m)
    where
      by : (e : ElabFault) → MeetsOr {A = Unit {0}} D R (at_args args (needed sig.needs)) place T (Err e) → UsesOr D R callee args place T (Err e)
      by (NoPermission p a) m = (m.0, inr (record { sig = sig; found = f; unmet = m.1 }))
      by Memory m = tt
