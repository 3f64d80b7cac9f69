-- The equations of the views of scripts, by the parts that code reads.
use Rattle.std.proofs.Common.{◌≡◌, List, map, Option, refl, sym, ap, ◌∙◌}
use Rattle.std.specs.Prelude.{option_map}
use Rattle.mz_tree.specs.View.{plain_atom, plain_atoms}
use Rattle.mz_tree.specs.declared.types.Atom.{Atom as CodeAtom}
use Rattle.mz_deriv.specs.Scripts.{Do_item, More_items, Script_case, More_script_cases, items_of, script_cases_of}
use Rattle.mz_deriv.specs.View.{plain_item, plain_item_row, plain_script_cases, plain_script_case_row}
use Rattle.mz_deriv.specs.declared.script.ScriptCase.{ScriptCase as CodeCase}
use Rattle.mz_deriv.specs.declared.script.Item.{Do, Row_of-Item, end_of-Item, more_of-Item, Row_of-ScriptCase, end_of-ScriptCase, more_of-ScriptCase}
use Rattle.mz_deriv.specs.declared.script.Item.TheBlock.{items-the_row-Item, shown-the_row-Item-0, items_shown-the_row-Item-0, items-the_row-ScriptCase, items_hidden-the_row-ScriptCase-1, hidden-the_row-ScriptCase-1}

-- a row of items is seen as the views of its items, by going along it
item_row_is : (m : _) (row : Row_of-Item m) → plain_item_row row ≡ items_of (map plain_item (items-the_row-Item m row))
item_row_is _ end_of-Item = refl
item_row_is _ (more_of-Item i rest) = ap (More_items (plain_item i)) (item_row_is _ rest)

-- a row of cases is seen as the views of its cases: a case in it holds its items as a row
script_case_row_is : (m : _) (row : Row_of-ScriptCase m) → plain_script_case_row row ≡ script_cases_of (plain_script_cases (items-the_row-ScriptCase m row))
script_case_row_is _ end_of-ScriptCase = refl
script_case_row_is _ (more_of-ScriptCase fresh shape row rest) =
    ap (λ l. More_script_cases (Script_case fresh l) (plain_script_case_row rest)) (item_row_is _ row ∙ ap (λ l. items_of (map plain_item l)) (sym (items_shown-the_row-Item-0 shape row))) ∙ ap (More_script_cases (Script_case fresh (items_of (map plain_item (shown-the_row-Item-0 shape row))))) (script_case_row_is _ rest)

-- an item for a command is seen as the views of its parts, since its row has just its cases
pub plain_do : (uses : Option CodeAtom) (cases : List CodeCase) (join : List CodeAtom) → plain_item (Do uses cases join) ≡ Do_item (option_map plain_atom uses) (script_cases_of (plain_script_cases cases)) (plain_atoms join)
plain_do uses cases join = ap (λ cs. Do_item (option_map plain_atom uses) cs (plain_atoms join)) (script_case_row_is _ (hidden-the_row-ScriptCase-1 cases) ∙ ap (λ l. script_cases_of (plain_script_cases l)) (items_hidden-the_row-ScriptCase-1 cases))
