-- The items of commands without branches.
use Rattle.std.proofs.Common.{◌≡◌, ℕ, List, [], ◌∷◌, ◌++◌, map, Option, None, option_map, ap, ◌∙◌}
use Rattle.std.proofs.lemmas.List.{map-append}
use Rattle.mz_tree.specs.Plain.{Atom}
use Rattle.mz_tree.specs.View.{plain_atom}
use Rattle.mz_tree.specs.declared.types.Atom.{Atom as CodeAtom}
use Rattle.mz_decl.specs.Declarations.{Decls}
use Rattle.mz_deriv.specs.Scripts.{Item}
use Rattle.mz_deriv.specs.View.{plain_item}
use Rattle.mz_deriv.specs.declared.script.Item.{Item as CodeItem, Do}
use Rattle.mz_deriv.specs.declared.script.ScriptCase.{ScriptCase as CodeCase}
use Rattle.mz_deriv.proofs.Views.{plain_do}
use Rattle.mz_goal.specs.Needs.{Needs}
use Rattle.mz_elab.specs.Joining.{Writes}
use Rattle.mz_elab.specs.Doing.{does, Met}

pub done : (before after : List CodeItem) (uses : Option CodeAtom) (cases : List CodeCase) (join : List CodeAtom) → cases ≡ [] → join ≡ [] → after ≡ before ++ Do uses cases join ∷ [] → map plain_item after ≡ map plain_item before ++ does (option_map plain_atom uses)
done before after uses cases join e f g =
    let one : plain_item (Do uses cases join) ∷ [] ≡ does (option_map plain_atom uses) = ap (λ i. i ∷ []) (ap (λ l. plain_item (Do uses l join)) e ∙ ap (λ l. plain_item (Do uses [] l)) f ∙ plain_do uses [] []) in
    ap (map plain_item) g ∙ map-append plain_item before (Do uses cases join ∷ []) ∙ ap (λ l. map plain_item before ++ l) one

pub met : (D : Decls) (K : ℕ → Type 0) (R goals left : List (Atom ℕ)) (a : Atom ℕ) (T : List (Atom ℕ)) (before seen after : List Item) → Needs D R goals left → Writes D K R before seen (left ++ goals) → T ≡ left ++ a ∷ [] → after ≡ seen ++ does None → Met D K R goals a T before after
met D K R goals left a T before seen after n w e f = record { meets = record { left = left; needs = n; new = e }; steps = w.steps; shown = w.shown; is = f ∙ ap (λ l. l ++ does None) w.is }
