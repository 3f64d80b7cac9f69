-- Three programs for the laws. The places of their parts don't matter here: each is 1:1.
use Rattle.std.specs.Prelude.{ℕ, false, List, [], ◌∷◌, Some, None, codes, true}
use Rattle.mz_tree.specs.declared.types.Place.{Place}
use Rattle.mz_tree.specs.declared.code.Arith.TheVariants.{Add}
use Rattle.mz_tree.specs.Plain.{Atom, Int_type, Unknown_type, Named_type, Function_type, Block_type, Has_atom, Ty, Lock_type, No_atoms, More_atoms}
use Rattle.mz_tree.specs.Programs.{Variety, Con, Sig, Fun, Program}
use Rattle.mz_tree.specs.Code.{Command, Cases, Body, Int_op, Unit_op, Fun_op, Arith_op, New_op, If_op, Match_op, Call_op, The_command, No_commands, More_commands, The_case, No_cases, More_cases, The_body, Commands, Read_op, Write_op, New_lock_op, Acquire_op, Release_op, Spawn_op}
use Rattle.mz_view.specs.Steps.{Fold_step, Unknown_step, Unfold_step, Equal_step, Rename_step}
use Rattle.mz_deriv.specs.Scripts.{Item, See_item, Do_item, Script_case, No_script_cases, More_script_cases, No_items, More_items}

abbrev pub here : Place
here = record { line = 1; col = 1 }

-- () -> (r: unknown)
abbrev pub no_arguments : Sig
no_arguments = record { name = codes "start"; count = 0; needs = []; gives = Has_atom 0 Unknown_type ∷ [] }

-- ---- a program that is safe
--
--   sig start = () -> (r: unknown)
--   sig same = (n: int) -> (r: int)
--   fun twice : same = { if n then { n + n } else { n } }
--   fun main : start = { let x = 5; twice(x); }
abbrev pub int_to_int : Sig
int_to_int = record { name = codes "same"; count = 1; needs = record { atom = Has_atom 0 Int_type; consumed = false } ∷ []; gives = Has_atom 1 Int_type ∷ [] }

-- the branch that adds
abbrev pub doubled : Body
doubled = The_body (More_commands (The_command 1 (Arith_op Add 0 0) here) No_commands) 1 here

abbrev pub unchanged : Body
unchanged = The_body No_commands 0 here

abbrev pub twice : Fun
twice = record {
  name = codes "twice";
  sig = 1;
  body = The_body (More_commands (The_command 2 (If_op 0 doubled unchanged []) here) No_commands) 2 here;
  spelling = codes "n" ∷ [] ∷ [] ∷ [];
}

abbrev pub calls_twice : Fun
calls_twice = record {
  name = codes "main";
  sig = 0;
  body = The_body (More_commands (The_command 0 (Int_op 5) here) (More_commands (The_command 1 (Fun_op 0) here) (More_commands (The_command 2 (Call_op 1 (0 ∷ [])) here) (More_commands (The_command 3 Unit_op here) No_commands)))) 3 here;
  spelling = codes "x" ∷ [] ∷ [] ∷ [] ∷ [];
}

abbrev pub doubling : Program
doubling = record { varieties = []; cons = []; sigs = no_arguments ∷ int_to_int ∷ []; funs = twice ∷ calls_twice ∷ []; clauses = [] }

-- a command by its rule, which uses no permission
abbrev pub plain_do : Item
plain_do = Do_item None No_script_cases []

-- both branches join in: the parameter is an integer, and so is the result
abbrev pub both_integers : List (Atom ℕ)
both_integers = Has_atom 0 Int_type ∷ Has_atom 2 Int_type ∷ []

abbrev pub twice_script : List Item
twice_script = Do_item None (More_script_cases (Script_case 0 (More_items plain_do No_items)) (More_script_cases (Script_case 0 No_items) No_script_cases)) both_integers ∷ []

abbrev pub calls_twice_script : List Item
calls_twice_script = plain_do ∷ plain_do ∷ Do_item (Some (Has_atom 1 (Function_type 1))) No_script_cases [] ∷ plain_do ∷ []

abbrev pub doubling_scripts : List (List Item)
doubling_scripts = twice_script ∷ calls_twice_script ∷ []

-- ---- a program that has a derivation and isn't safe: its match lacks a case, so it is no program that can be read
--
--   data t = A { } | B { }
--   sig start = () -> (r: unknown)
--   fun main : start = { let x = B { }; match x { A -> { 1 } } }
abbrev pub one_of_two : Variety
one_of_two = record { name = codes "t"; place = here; mutable = false; adopts = None; cons = 0 ∷ 1 ∷ [] }

abbrev pub a_con : Con
a_con = record { name = codes "A"; variety = 0; fields = [] }

abbrev pub b_con : Con
b_con = record { name = codes "B"; variety = 0; fields = [] }

abbrev pub only_a : Cases
only_a = More_cases (The_case 0 (The_body (More_commands (The_command 1 (Int_op 1) here) No_commands) 1 here)) No_cases

abbrev pub match_a : Command
match_a = The_command 2 (Match_op 0 0 only_a []) here

abbrev pub matches_a : Fun
matches_a = record { name = codes "main"; sig = 0; body = The_body (More_commands (The_command 0 (New_op 1 []) here) (More_commands match_a No_commands)) 2 here; spelling = codes "x" ∷ [] ∷ [] ∷ [] }

abbrev pub lacking : Program
lacking = record { varieties = one_of_two ∷ []; cons = a_con ∷ b_con ∷ []; sigs = no_arguments ∷ []; funs = matches_a ∷ []; clauses = [] }

-- the block is folded, so that the match doesn't know its constructor
abbrev pub lacking_script : List Item
lacking_script = plain_do ∷ See_item (Fold_step (Has_atom 0 (Block_type 1 [] None)))
    ∷ Do_item (Some (Has_atom 0 (Named_type 0))) (More_script_cases (Script_case 256 (More_items plain_do (More_items (See_item (Unknown_step 1)) No_items))) No_script_cases) (Has_atom 2 Unknown_type ∷ []) ∷ []

-- ---- a program with a lock and a second thread, which is safe
--
--   data mutable cell = Cell { v: int }
--   data shared = Shared { c: unknown; l: lock (c @ cell) }
--   sig start = () -> (r: unknown)
--   sig work = (s: shared) -> (r: unknown)
--   fun bump : work = { let l = s.l; acquire l; let c = s.c; c.v <- c.v + 1; release l }
--   fun main : start = { let c = Cell { v = 0 }; let l = newlock(c @ cell); let s = Shared { c = c; l = l }; spawn bump(s); bump(s) }
abbrev pub cell : Variety
cell = record { name = codes "cell"; place = here; mutable = true; adopts = None; cons = 0 ∷ [] }

abbrev pub shared : Variety
shared = record { name = codes "shared"; place = here; mutable = false; adopts = None; cons = 1 ∷ [] }

-- the lock of a cell with this name
abbrev pub lock_of : ℕ → Ty ℕ
lock_of c = Lock_type (More_atoms (Has_atom c (Named_type 0)) No_atoms)

abbrev pub cell_con : Con
cell_con = record { name = codes "Cell"; variety = 0; fields = record { name = codes "v"; content = Has_atom 0 Int_type } ∷ [] }

abbrev pub shared_con : Con
shared_con = record { name = codes "Shared"; variety = 1; fields = record { name = codes "c"; content = Has_atom 0 Unknown_type } ∷ record { name = codes "l"; content = Has_atom 1 (lock_of 0) } ∷ [] }

abbrev pub work : Sig
work = record { name = codes "work"; count = 1; needs = record { atom = Has_atom 0 (Named_type 1); consumed = false } ∷ []; gives = Has_atom 1 Unknown_type ∷ [] }

abbrev pub chain : List Command → Commands
chain [] = No_commands
chain (c ∷ rest) = More_commands c (chain rest)

abbrev pub bump_commands : List Command
bump_commands =
    The_command 1 (Read_op 0 1 1) here
    ∷ The_command 2 (Acquire_op 1) here
    ∷ The_command 3 (Read_op 0 1 0) here
    ∷ The_command 4 (Read_op 3 0 0) here
    ∷ The_command 5 (Int_op 1) here
    ∷ The_command 6 (Arith_op Add 4 5) here
    ∷ The_command 7 (Write_op 3 0 0 6) here
    ∷ The_command 8 (Release_op 1) here
    ∷ []

abbrev pub bump : Fun
bump = record { name = codes "bump"; sig = 1; body = The_body (chain bump_commands) 8 here; spelling = codes "s" ∷ codes "l" ∷ [] ∷ codes "c" ∷ [] ∷ [] ∷ [] ∷ [] ∷ [] ∷ [] }

abbrev pub shares_commands : List Command
shares_commands =
    The_command 0 (Int_op 0) here
    ∷ The_command 1 (New_op 0 (0 ∷ [])) here
    ∷ The_command 2 (New_lock_op (Has_atom 1 (Named_type 0) ∷ [])) here
    ∷ The_command 3 (New_op 1 (1 ∷ 2 ∷ [])) here
    ∷ The_command 4 (Fun_op 0) here
    ∷ The_command 5 (Spawn_op 4 3) here
    ∷ The_command 6 (Fun_op 0) here
    ∷ The_command 7 (Call_op 6 (3 ∷ [])) here
    ∷ []

abbrev pub shares : Fun
shares = record { name = codes "main"; sig = 0; body = The_body (chain shares_commands) 7 here; spelling = [] ∷ codes "c" ∷ codes "l" ∷ codes "s" ∷ [] ∷ [] ∷ [] ∷ [] ∷ [] }

abbrev pub sharing : Program
sharing = record { varieties = cell ∷ shared ∷ []; cons = cell_con ∷ shared_con ∷ []; sigs = no_arguments ∷ work ∷ []; funs = bump ∷ shares ∷ []; clauses = [] }

-- a command that uses this permission
abbrev pub do_with : Atom ℕ → Item
do_with a = Do_item (Some a) No_script_cases []

-- s is opened: its cell is 256, its lock 257; the value in the cell is 258 at first
abbrev pub s_opened : Atom ℕ
s_opened = Has_atom 0 (Block_type 1 (256 ∷ 257 ∷ []) None)

abbrev pub c_opened : Atom ℕ
c_opened = Has_atom 3 (Block_type 0 (258 ∷ []) None)

abbrev pub c_written : Atom ℕ
c_written = Has_atom 3 (Block_type 0 (6 ∷ []) None)

abbrev pub bump_script : List Item
bump_script =
    See_item (Unfold_step 0 1 256)
    ∷ do_with s_opened
    ∷ See_item (Equal_step 1 257)
    ∷ See_item (Rename_step (Has_atom 257 (lock_of 256)) 1)
    ∷ do_with (Has_atom 1 (lock_of 256))
    ∷ do_with s_opened
    ∷ See_item (Equal_step 3 256)
    ∷ See_item (Rename_step (Has_atom 256 (Named_type 0)) 3)
    ∷ See_item (Unfold_step 3 0 258)
    ∷ do_with c_opened
    ∷ See_item (Equal_step 4 258)
    ∷ See_item (Rename_step (Has_atom 258 Int_type) 4)
    ∷ plain_do
    ∷ plain_do
    ∷ do_with c_opened
    ∷ See_item (Fold_step c_written)
    ∷ See_item (Rename_step (Has_atom 3 (Named_type 0)) 256)
    ∷ do_with (Has_atom 1 (lock_of 256))
    ∷ []

abbrev pub shares_script : List Item
shares_script =
    plain_do
    ∷ plain_do
    ∷ See_item (Fold_step (Has_atom 1 (Block_type 0 (0 ∷ []) None)))
    ∷ plain_do
    ∷ plain_do
    ∷ See_item (Unknown_step 1)
    ∷ See_item (Fold_step (Has_atom 3 (Block_type 1 (1 ∷ 2 ∷ []) None)))
    ∷ plain_do
    ∷ do_with (Has_atom 4 (Function_type 1))
    ∷ plain_do
    ∷ do_with (Has_atom 6 (Function_type 1))
    ∷ []

abbrev pub sharing_scripts : List (List Item)
sharing_scripts = bump_script ∷ shares_script ∷ []
