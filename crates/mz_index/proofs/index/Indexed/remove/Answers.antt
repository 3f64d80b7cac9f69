use Rattle.std.proofs.Common.{refl, sym, subst}
use Rattle.mz_tree.specs.View.{plain_atom, plain_atoms}
use Rattle.mz_perm.specs.Lists.{In, TakesFirst}
use Rattle.mz_perm.proofs.Taking.{removed, not_found}
use Rattle.mz_index.proofs.index.Indexed.remove.Goals as goal

pub returns-in-Some : goal.returns-in-Some
returns-in-Some c = subst (λ l. TakesFirst (plain_atom c.args.atom.now) l (plain_atoms c.remove.new.self.items)) c.self.view_is (removed c.args.atom.now c.self.inside.atoms.items c.as_slice.result.now _ c.in-Some.at c.in-Some.ensures.0 c.in-Some.ensures.1 c.as_slice.ensures.value c.remove.ensures.items)

pub returns-in-None : goal.returns-in-None
returns-in-None c = (λ i. not_found c.args.atom.now c.self.inside.atoms.items c.as_slice.result.now c.in-None.ensures c.as_slice.ensures.value (subst (λ l. In (plain_atom c.args.atom.now) l) (sym c.self.view_is) i), refl)
