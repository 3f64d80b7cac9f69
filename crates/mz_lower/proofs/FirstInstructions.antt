-- The first instruction of each command.
use Rattle.std.proofs.Common.{◌≡◌, ℕ, ◌+◌, List, Some}
use Rattle.std.specs.Prelude.{slice_get}
use Rattle.mz_tree.specs.declared.types.Place.{Place}
use Rattle.mz_tree.specs.Code.{Op, Int_op, Unit_op, Fun_op, Copy_op, Arith_op, New_op, Read_op, Write_op, Retag_op, If_op, Match_op, Call_op, Give_op, Take_op, New_lock_op, Acquire_op, Release_op, Spawn_op, Print_op}
use Rattle.mz_words.specs.declared.code.Act.{Act}
use Rattle.mz_words.specs.declared.code.Act.TheVariants.{Const, Copy, Arith as Arith_act, New, Read, Write, Retag, Switch, Branch, Call, Give, Take, NewLock, Acquire, Release, Spawn, Print}
use Rattle.mz_words.specs.declared.code.Instr.{Instr}
use Rattle.mz_lower.specs.Layout.{instr, size_body, lay_op, cons_in, targets_in}
use Rattle.mz_lower.specs.Addresses.{HasAt}

-- the first instruction of a command
abbrev pub act_of : ℕ → ℕ → Op → Act
act_of address to (Int_op m) = Const to m
act_of address to Unit_op = Const to 0
act_of address to (Fun_op f) = Const to f
act_of address to (Copy_op x) = Copy to x
act_of address to (Arith_op operator x y) = Arith_act to operator x y
act_of address to (New_op con fields) = New to con fields
act_of address to (Read_op x con i) = Read to x con i
act_of address to (Write_op x con i y) = Write to x con i y
act_of address to (Retag_op x old new) = Retag to x old new
act_of address to (If_op test one two giving) = Branch test (address + 1 + (size_body one + 2))
act_of address to (Match_op x d cases giving) = Switch x (cons_in cases) (targets_in (address + 1) cases)
act_of address to (Call_op callee args) = Call to callee args
act_of address to (Give_op x y) = Give to x y
act_of address to (Take_op x y) = Take to x y
act_of address to (New_lock_op guarded) = NewLock to
act_of address to (Acquire_op x) = Acquire to x
act_of address to (Release_op x) = Release to x
act_of address to (Spawn_op callee arg) = Spawn to callee arg
act_of address to (Print_op x) = Print to x

-- it stands where the command does
pub head_act : (code : List Instr) (address to : ℕ) (place : Place) (op : Op) → HasAt code address (lay_op address to place op) → slice_get code address ≡ Some (instr place (act_of address to op))
head_act code address to place (If_op test one two giving) h = h.0
head_act code address to place (Match_op x d cases giving) h = h.0
head_act code address to place op h = h.0
