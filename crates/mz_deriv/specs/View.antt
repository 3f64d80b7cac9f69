-- Derivations of the program, seen without memory.
use Rattle.std.specs.Prelude.{List, map, option_map}
use Rattle.mz_tree.specs.View.{plain_atom, plain_atoms}
use Rattle.mz_view.specs.Steps.{plain_step}
use Rattle.mz_deriv.specs.Scripts.{Item, ItemChain, ScriptCase, ScriptCases, See_item, Do_item, No_items, More_items, Script_case, No_script_cases, More_script_cases, items_of}
use Rattle.mz_deriv.specs.declared.script.Derivation.{Derivation as CodeDerivation}
use Rattle.mz_deriv.specs.declared.script.Script.{Script as CodeScript}
use Rattle.mz_deriv.specs.declared.script.ScriptCase.{ScriptCase as CodeCase}
use Rattle.mz_deriv.specs.declared.script.Item.{Item as CodeItem, Step, Do', Row_of-Item, end_of-Item, more_of-Item, Row_of-ScriptCase, end_of-ScriptCase, more_of-ScriptCase}

-- items, and the rows in which items hold cases and cases hold items
abbrev mutual
  pub plain_item : CodeItem → Item
  plain_item (Step step) = See_item (plain_step step)
  plain_item (Do' uses shape row join) = Do_item (option_map plain_atom uses) (plain_script_case_row row) (plain_atoms join)

  pub plain_item_row : {m : _} → Row_of-Item m → ItemChain
  plain_item_row end_of-Item = No_items
  plain_item_row (more_of-Item i rest) = More_items (plain_item i) (plain_item_row rest)

  pub plain_script_case_row : {m : _} → Row_of-ScriptCase m → ScriptCases
  plain_script_case_row end_of-ScriptCase = No_script_cases
  plain_script_case_row (more_of-ScriptCase fresh shape row rest) = More_script_cases (Script_case fresh (plain_item_row row)) (plain_script_case_row rest)

-- the items of a script
abbrev pub plain_script : CodeScript → List Item
plain_script s = map plain_item s.items

-- a case
abbrev pub plain_script_case : CodeCase → ScriptCase
plain_script_case c = Script_case c.fresh (items_of (plain_script c.body))

-- the cases of a command
abbrev pub plain_script_cases : List CodeCase → List ScriptCase
plain_script_cases cases = map plain_script_case cases

-- a script for each function
abbrev pub plain_derivation : CodeDerivation → List (List Item)
plain_derivation d = map plain_script d.scripts
