-- What the names of a program of the first form hold: numbers, `()`, and blocks of one number. In a body whose commands
-- go by these kinds each has its permissions.
use Rattle.std.proofs.Common.{◌≡◌, ℕ, List, [], ◌∷◌, ◌++◌, length, Some, slice_get}
use Rattle.mz_tree.specs.declared.code.Arith.TheVariants.{Add}
use Rattle.mz_tree.specs.Code.{Op, Int_op, Unit_op, Arith_op, New_op, Read_op, Write_op, Print_op, Command, The_command, Body, commands_in}

-- a number, `()`, or a block of constructor 0 with one field that is a number
pub data NameKind : Type 0 where
  Int_kind : NameKind
  Unit_kind : NameKind
  Cell_kind : NameKind

-- the kinds of the names from 0 on
abbrev pub Kinds : Type 0
Kinds = List NameKind

-- the command fits the kinds of the names before it, and gives its own name this kind
abbrev pub Gives : Kinds → Op → NameKind → Type 0
Gives kinds (Int_op n) kind = kind ≡ Int_kind
Gives kinds Unit_op kind = kind ≡ Unit_kind
Gives kinds (Arith_op Add left right) kind = (slice_get kinds left ≡ Some Int_kind) × (slice_get kinds right ≡ Some Int_kind) × (kind ≡ Int_kind)
Gives kinds (New_op con names) kind = (con ≡ 0) × ((y : ℕ) × (names ≡ y ∷ []) × (slice_get kinds y ≡ Some Int_kind)) × (kind ≡ Cell_kind)
Gives kinds (Read_op block con field) kind = (con ≡ 0) × (field ≡ 0) × (slice_get kinds block ≡ Some Cell_kind) × (kind ≡ Int_kind)
Gives kinds (Write_op block con field from) kind = (con ≡ 0) × (field ≡ 0) × (slice_get kinds block ≡ Some Cell_kind) × (slice_get kinds from ≡ Some Int_kind) × (kind ≡ Unit_kind)
Gives kinds (Print_op name) kind = (slice_get kinds name ≡ Some Int_kind) × (kind ≡ Unit_kind)
Gives kinds _ kind = ⊥

-- each command has the next number and fits the kinds before it
abbrev pub AllGive : Kinds → List Command → Type 0
AllGive kinds [] = Unit {0}
AllGive kinds (The_command to op place ∷ commands) = (kind : NameKind) × (to ≡ length kinds) × Gives kinds op kind × AllGive (kinds ++ kind ∷ []) commands

-- the body goes by kinds
abbrev pub IsKinded : Body → Type 0
IsKinded body = AllGive [] (commands_in body)
