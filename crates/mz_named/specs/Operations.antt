-- What an operation does at once, where it stops its thread, and in which body it goes on: each by cases on the
-- operation, over records of what it finds.
use Rattle.std.specs.Prelude.{◌≡◌, ◌≢◌, ◌<◌, ℕ, zero, suc, Bool, true, false, List, [], ◌∷◌, length, map, Option, Some, None, slice_get, slice_set}
use Rattle.mz_tree.specs.declared.code.Arith.{Arith}
use Rattle.mz_tree.specs.Arithmetic.{computed}
use Rattle.mz_tree.specs.Code.{Op, Case, Body, Int_op, Unit_op, Fun_op, Copy_op, Arith_op, New_op, Read_op, Write_op, Retag_op, If_op, Match_op, Give_op, Take_op, New_lock_op, Acquire_op, Release_op, Print_op, case_list}
use Rattle.mz_tree.specs.Programs.{Sig, Fun, Program}
use Rattle.mz_named.specs.Configurations.{Value, Int_value, Block_value, Fun_value, Cell, Block_cell, Lock_cell, Environment, Cells}
use Rattle.mz_named.specs.Bodies.{Puts, Keeps, body_for}

-- a block of the constructor stands there
pub record IsBlock (at : Cells) (b con : ℕ) (vs : List Value) : Type 0 where
  pub adopter : Option ℕ
  pub made : at b ≡ Some (Block_cell con adopter vs)

-- something stands there where nothing stood
pub record Fresh (at : Cells) (cell : Cell) (v : Value) (at' : Cells) : Type 0 where
  pub name : ℕ
  pub free : at name ≡ None
  pub puts : Puts at name cell at'
  pub is : v ≡ Block_value name

pub record ReadsField (at : Cells) (block : Value) (con field : ℕ) (v : Value) : Type 0 where
  pub name : ℕ
  pub is : block ≡ Block_value name
  pub fields : List Value
  pub made : IsBlock at name con fields
  pub at_field : slice_get fields field ≡ Some v

pub record WritesField (at : Cells) (block : Value) (con field : ℕ) (v : Value) (at' : Cells) : Type 0 where
  pub name : ℕ
  pub is : block ≡ Block_value name
  pub fields : List Value
  pub made : IsBlock at name con fields
  pub within : field < length fields
  pub puts : Puts at name (Block_cell con made.adopter (slice_set fields field v)) at'

pub record ChangesTag (at : Cells) (block : Value) (old new : ℕ) (at' : Cells) : Type 0 where
  pub name : ℕ
  pub is : block ≡ Block_value name
  pub fields : List Value
  pub made : IsBlock at name old fields
  pub puts : Puts at name (Block_cell new made.adopter fields) at'

-- x and y are blocks
pub record TwoBlocks (at : Cells) (x y : Value) : Type 0 where
  pub block : ℕ
  pub adopter : ℕ
  pub is_block : x ≡ Block_value block
  pub is_adopter : y ≡ Block_value adopter
  pub con : ℕ
  pub other : ℕ
  pub held_by : Option ℕ
  pub fields : List Value
  pub more : List Value
  pub made : at block ≡ Some (Block_cell con held_by fields)
  pub pool : IsBlock at adopter other more

pub record GivesBlock (at : Cells) (x y : Value) (at' : Cells) : Type 0 where
  pub both : TwoBlocks at x y
  pub free : both.held_by ≡ None
  pub puts : Puts at both.block (Block_cell both.con (Some both.adopter) both.fields) at'

pub record TakesBlock (at : Cells) (x y : Value) (at' : Cells) : Type 0 where
  pub both : TwoBlocks at x y
  pub its : both.held_by ≡ Some both.adopter
  pub puts : Puts at both.block (Block_cell both.con None both.fields) at'

pub record TakeFails (at : Cells) (x y : Value) : Type 0 where
  pub both : TwoBlocks at x y
  pub not_its : both.held_by ≢ Some both.adopter

-- a lock goes from one state to another
pub record TurnsLock (at : Cells) (l : Value) (before after : Bool) (at' : Cells) : Type 0 where
  pub name : ℕ
  pub is : l ≡ Block_value name
  pub stood : at name ≡ Some (Lock_cell before)
  pub puts : Puts at name (Lock_cell after) at'

pub record ComputesTo (x y : Value) (operator : Arith) (result : Option ℕ) : Type 0 where
  pub left : ℕ
  pub right : ℕ
  pub is_left : x ≡ Int_value left
  pub is_right : y ≡ Int_value right
  pub gives : computed operator left right ≡ result

-- what an operation that binds a value at once does: to the heap, to the prints, and the value
abbrev pub Acts : Cells → Environment → Op → Value → Cells → List ℕ → Type 0
Acts at e (Int_op n) v at' out = (v ≡ Int_value n) × Keeps at at' × (out ≡ [])
Acts at e Unit_op v at' out = (v ≡ Int_value 0) × Keeps at at' × (out ≡ [])
Acts at e (Fun_op f) v at' out = (v ≡ Fun_value f) × Keeps at at' × (out ≡ [])
Acts at e (Copy_op x) v at' out = (v ≡ e x) × Keeps at at' × (out ≡ [])
Acts at e (Arith_op operator x y) v at' out = ((n : ℕ) × ComputesTo (e x) (e y) operator (Some n) × (v ≡ Int_value n)) × Keeps at at' × (out ≡ [])
Acts at e (New_op con ys) v at' out = Fresh at (Block_cell con None (map e ys)) v at' × (out ≡ [])
Acts at e (Read_op y con field) v at' out = ReadsField at (e y) con field v × Keeps at at' × (out ≡ [])
Acts at e (Write_op y con field z) v at' out = WritesField at (e y) con field (e z) at' × (v ≡ Int_value 0) × (out ≡ [])
Acts at e (Retag_op y old new) v at' out = ChangesTag at (e y) old new at' × (v ≡ Int_value 0) × (out ≡ [])
Acts at e (Give_op x y) v at' out = GivesBlock at (e x) (e y) at' × (v ≡ Int_value 0) × (out ≡ [])
Acts at e (Take_op x y) v at' out = TakesBlock at (e x) (e y) at' × (v ≡ Int_value 0) × (out ≡ [])
Acts at e (New_lock_op p) v at' out = Fresh at (Lock_cell false) v at' × (out ≡ [])
Acts at e (Acquire_op l) v at' out = TurnsLock at (e l) false true at' × (v ≡ Int_value 0) × (out ≡ [])
Acts at e (Release_op l) v at' out = TurnsLock at (e l) true false at' × (v ≡ Int_value 0) × (out ≡ [])
Acts at e (Print_op x) v at' out = ((n : ℕ) × (e x ≡ Int_value n) × (out ≡ n ∷ [])) × (v ≡ Int_value 0) × Keeps at at'
Acts at e _ v at' out = ⊥

-- where an operation stops its thread
abbrev pub Stops : Cells → Environment → Op → Type 0
Stops at e (Arith_op operator x y) = ComputesTo (e x) (e y) operator None
Stops at e (Take_op x y) = TakeFails at (e x) (e y)
Stops at e _ = ⊥

-- a number chooses by zero, a block the case of its constructor
abbrev pub chosen : ℕ → Body → Body → Body
chosen zero on_true on_false = on_false
chosen (suc n) on_true on_false = on_true

pub record ChoosesCase (at : Cells) (block : Value) (cases : List Case) (body : Body) : Type 0 where
  pub name : ℕ
  pub is : block ≡ Block_value name
  pub con : ℕ
  pub fields : List Value
  pub made : IsBlock at name con fields
  pub chosen : body_for con cases ≡ Some body

abbrev pub Chooses : Cells → Environment → Op → Body → Type 0
Chooses at e (If_op y on_true on_false giving) body = (n : ℕ) × (e y ≡ Int_value n) × (body ≡ chosen n on_true on_false)
Chooses at e (Match_op y d cases giving) body = ChoosesCase at (e y) (case_list cases) body
Chooses at e _ body = ⊥

-- a value is a function of the program with so many parameters
pub record IsFunction (p : Program) (v : Value) (count : ℕ) : Type 0 where
  pub number : ℕ
  pub is : v ≡ Fun_value number
  pub fun : Fun
  pub declared : slice_get p.funs number ≡ Some fun
  pub sig : Sig
  pub signed : slice_get p.sigs fun.sig ≡ Some sig
  pub many : sig.count ≡ count
