-- What stands at the name that a value is.
use Rattle.std.specs.Prelude.{◌≡◌, ℕ, Bool, List, Option, Some, slice_get}
use Rattle.mz_named.specs.Configurations.{Value, Block_value, Block_cell, Lock_cell, Cells}
use Rattle.mz_named.specs.View.{value_in}
use Rattle.mz_named.specs.declared.config.Value.{Value as CodeValue}
use Rattle.mz_named.specs.declared.config.Value.TheVariants as value
use Rattle.mz_named.specs.declared.config.Cell.{Cell as CodeCell}
use Rattle.mz_named.specs.declared.config.Cell.TheVariants as cell

-- the value is a block, with this constructor, adopter and fields
pub record HasBlock (at : Cells) (v : Value) (b con : ℕ) (adopter : Option ℕ) (fields : List Value) : Type 0 where
  pub is : v ≡ Block_value b
  pub made : at b ≡ Some (Block_cell con adopter fields)

-- the value is no block of this constructor
abbrev pub HasNoBlockOf : Cells → Value → ℕ → Type 0
HasNoBlockOf at v con = (b : ℕ) (adopter : Option ℕ) (fields : List Value) → HasBlock at v b con adopter fields → ⊥

-- the value is no block
abbrev pub HasNoBlock : Cells → Value → Type 0
HasNoBlock at v = (con : ℕ) → HasNoBlockOf at v con

-- the value is a lock, held or free
pub record HasLock (at : Cells) (v : Value) (l : ℕ) (held : Bool) : Type 0 where
  pub is : v ≡ Block_value l
  pub stands : at l ≡ Some (Lock_cell held)

-- the value is no lock
abbrev pub HasNoLock : Cells → Value → Type 0
HasNoLock at v = (l : ℕ) (held : Bool) → HasLock at v l held → ⊥

-- in the code: the value of the name is a block, with this constructor, adopter and fields
pub record IsFound (cells : List CodeCell) (values : List CodeValue) (name : ℕ) (b con : ℕ) (adopter : Option ℕ) (fields : List CodeValue) : Type 0 where
  pub is : value_in values name ≡ value.Block b
  pub stands : slice_get cells b ≡ Some (cell.Block con adopter fields)
