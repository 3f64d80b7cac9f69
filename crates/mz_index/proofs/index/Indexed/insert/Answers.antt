use Rattle.std.proofs.Common.{◌≡◌, ◌++◌, ◌∷◌, Result, IfOk, take, drop, sym, ap, ◌∙◌, subst}
use Rattle.mz_tree.specs.View.{plain_atom, plain_atoms}
use Rattle.mz_tree.specs.declared.alike.Memory.{Memory}
use Rattle.mz_index.proofs.Edits.{map_insert}
use Rattle.mz_index.proofs.index.Indexed.insert.Goals as goal
use Rattle.mz_index.proofs.index.Indexed.insert.Goals.{in-Ok, in-Err}

pub returns-clause-inserted : goal.returns-clause-inserted
returns-clause-inserted c =
    let P : Type 0 = plain_atoms c.insert.new.self.items ≡ take c.args.place c.args.self.now ++ plain_atom c.args.atom ∷ drop c.args.place c.args.self.now in
    elim c.match-insert.branch [
      | in-Ok w ↦ subst (λ (r : Result (Unit {0}) Memory). IfOk r (λ _. P)) (sym w.result-is)
          (ap plain_atoms w.in-Ok.ensures.items ∙ map_insert plain_atom c.self.inside.atoms.items c.args.place c.args.atom ∙ ap (λ l. take c.args.place l ++ plain_atom c.args.atom ∷ drop c.args.place l) c.self.view_is)
      | in-Err w ↦ subst (λ (r : Result (Unit {0}) Memory). IfOk r (λ _. P)) (sym w.result-is) tt
    ]
