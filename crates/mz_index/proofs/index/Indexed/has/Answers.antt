use Rattle.std.proofs.Common.{refl, sym, subst}
use Rattle.mz_tree.specs.View.{plain_atom}
use Rattle.mz_perm.specs.Lists.{In}
use Rattle.mz_perm.proofs.Taking.{found, not_found}
use Rattle.mz_index.proofs.index.Indexed.has.Goals as goal

pub returns-in-Some : goal.returns-in-Some
returns-in-Some c = (λ _. subst (λ l. In (plain_atom c.args.atom.now) l) c.self.view_is (found c.args.atom.now c.self.inside.atoms.items c.as_slice.result.now _ c.in-Some.ensures.0 c.as_slice.ensures.value), λ _. refl)

pub returns-in-None : goal.returns-in-None
returns-in-None c = (λ h. absurd (cc), λ i. absurd (not_found c.args.atom.now c.self.inside.atoms.items c.as_slice.result.now c.in-None.ensures c.as_slice.ensures.value (subst (λ l. In (plain_atom c.args.atom.now) l) (sym c.self.view_is) i)))
