-- The proposer: a script for each function of a program of cells.
--
-- A cell's permission names what its field holds, so the proposer keeps that name for each cell. Each command is made by its
-- rule. What is read equals the name in the field, which is a number: two view steps after the read bring the permission
-- for that number to the new name. At the end of the body the value that it gives is seen as one of which nothing is known.
use Rattle.std.proofs.Common.{ℕ, List, [], ◌∷◌, ◌++◌, map, Option, Some, None}
use Rattle.mz_tree.specs.Plain.{Atom, Int_type, Block_type, Has_atom}
use Rattle.mz_tree.specs.Code.{Op, New_op, Read_op, Write_op, Command, The_command, commands_in, result_of}
use Rattle.mz_tree.specs.Programs.{Fun, Program}
use Rattle.mz_view.specs.Steps.{Equal_step, Rename_step, Unknown_step}
use Rattle.mz_deriv.specs.Scripts.{Item, See_item, Do_item, No_script_cases}
use Rattle.mz_cli.proofs.NumberMaps.{Numbers, put_number}

-- the permission for a cell x whose field holds y
abbrev pub cell_atom : ℕ → ℕ → Atom ℕ
cell_atom x y = Has_atom x (Block_type 0 (y ∷ []) None)

-- a command by its rule, with the permission that this uses, if any
abbrev pub by_rule : Option (Atom ℕ) → Item
by_rule uses = Do_item uses No_script_cases []

-- the items of a command of the name `to`, where the fields of the cells hold these names
abbrev pub items_for : Numbers → ℕ → Op → List Item
items_for held to (Read_op x con field) = by_rule (Some (cell_atom x (held x))) ∷ See_item (Equal_step to (held x)) ∷ See_item (Rename_step (Has_atom (held x) Int_type) to) ∷ []
items_for held to (Write_op x con field y) = by_rule (Some (cell_atom x (held x))) ∷ []
items_for held to _ = by_rule None ∷ []

-- the names that the fields hold after it
abbrev pub held_after : Numbers → ℕ → Op → Numbers
held_after held to (New_op con (y ∷ [])) = put_number held to y
held_after held to (Write_op x con field y) = put_number held x y
held_after held to _ = held

-- the items of commands, and of the end of a body that gives this value
abbrev pub items_from : Numbers → List Command → ℕ → List Item
items_from held [] value = See_item (Unknown_step value) ∷ []
items_from held (The_command to op place ∷ commands) value = items_for held to op ++ items_from (held_after held to op) commands value

-- the script of a function; at first there are no cells
abbrev pub script_for : Fun → List Item
script_for f = items_from (λ x. 0) (commands_in f.body) (result_of f.body)

-- those of a program
abbrev pub proposed : Program → List (List Item)
proposed p = map script_for p.funs
