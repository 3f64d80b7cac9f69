-- The tree of a source as its meaning sees it, with no trace of memory: words with their places, and what stands between
-- them. Brackets and the levels of the operators are gone, and a `let` that ends a block is one of its items.
use Rattle.std.specs.Prelude.{ℕ, Bool, List, [], ◌∷◌, Option}
use Rattle.mz_tree.specs.declared.types.Place.{Place}
use Rattle.mz_tree.specs.declared.code.Arith.{Arith}

-- a name as it is written, and where it stands
pub record Word : Type 0 where
  pub text : List ℕ
  pub place : Place

-- ---- types and permissions

-- `field = value`, by two names
pub record FieldName : Type 0 where
  pub field : Word
  pub name : Word

mutual
  pub data TypeTree : Type 0 where
    Int_tree : TypeTree
    Unknown_tree : TypeTree
    Dynamic_tree : TypeTree
    Locked_tree : TypeTree
    -- `= name`
    Equal_tree : (name : Word) → TypeTree
    -- a data type or a signature
    Named_tree : (name : Word) → TypeTree
    Lock_tree : (guarded : AtomTrees) → TypeTree
    Block_tree : (con : Word) → (fields : List FieldName) → (adopts : Option Word) → TypeTree

  pub data AtomTree : Type 0 where
    -- `name @ type`
    Has_tree : (name : Word) → (ty : TypeTree) → AtomTree
    -- `left = right`
    Same_tree : (left : Word) → (right : Word) → AtomTree

  pub data AtomTrees : Type 0 where
    No_atom_trees : AtomTrees
    More_atom_trees : AtomTree → AtomTrees → AtomTrees

-- the list with these members
abbrev pub atom_trees_of : List AtomTree → AtomTrees
atom_trees_of [] = No_atom_trees
atom_trees_of (a ∷ rest) = More_atom_trees a (atom_trees_of rest)

-- ---- expressions

-- `.field` or `.Con.field`
pub record Select : Type 0 where
  pub con : Option Word
  pub field : Word

mutual
  -- a place is that of the number, of the opening bracket, of the mark or of the key
  pub data Expr : Type 0 where
    Number_expr : (value : ℕ) → (place : Place) → Expr
    Unit_expr : (place : Place) → Expr
    Name_expr : (name : Word) → Expr
    Arith_expr : (left : Expr) → (operator : Arith) → (place : Place) → (right : Expr) → Expr
    Call_expr : (callee : Word) → (arguments : Exprs) → Expr
    New_expr : (con : Word) → (fields : FieldValues) → Expr
    Read_expr : (block : Expr) → (select : Select) → Expr
    Write_expr : (block : Expr) → (select : Select) → (place : Place) → (value : Expr) → Expr
    New_lock_expr : (place : Place) → (guarded : AtomTrees) → Expr
    Print_expr : (place : Place) → (value : Expr) → Expr
    If_expr : (place : Place) → (test : Expr) → (on_true : Block) → (on_false : Block) → (giving : AtomTrees) → Expr
    Match_expr : (place : Place) → (name : Word) → (arms : Arms) → (giving : AtomTrees) → Expr
    Retag_expr : (place : Place) → (name : Word) → (old : Word) → (new : Word) → Expr
    Give_expr : (place : Place) → (name : Word) → (adopter : Word) → Expr
    Take_expr : (place : Place) → (name : Word) → (adopter : Word) → Expr
    Acquire_expr : (place : Place) → (name : Word) → Expr
    Release_expr : (place : Place) → (name : Word) → Expr
    Spawn_expr : (place : Place) → (callee : Word) → (argument : Expr) → Expr

  pub data Exprs : Type 0 where
    No_exprs : Exprs
    More_exprs : Expr → Exprs → Exprs

  -- `field = value`, one after the other
  pub data FieldValues : Type 0 where
    No_values : FieldValues
    More_values : (field : Word) → (value : Expr) → FieldValues → FieldValues

  -- items, the value where the last item is an expression that no `;` ends, and the place of the closing brace
  pub data Block : Type 0 where
    The_block : (items : BlockItems) → (value : Value) → (brace : Place) → Block

  pub data BlockItem : Type 0 where
    Let_item : (name : Word) → (value : Expr) → BlockItem
    Plain_item : (value : Expr) → BlockItem

  pub data BlockItems : Type 0 where
    No_items : BlockItems
    More_items : BlockItem → BlockItems → BlockItems

  pub data Value : Type 0 where
    No_value : Value
    The_value : Expr → Value

  -- the cases of a match: `Con -> block`, one after the other
  pub data Arms : Type 0 where
    No_arms : Arms
    More_arms : (con : Word) → (block : Block) → Arms → Arms

-- ---- declarations

pub record FieldTree : Type 0 where
  pub name : Word
  pub ty : TypeTree

pub record ConTree : Type 0 where
  pub name : Word
  pub fields : List FieldTree

pub record DataTree : Type 0 where
  pub mutable : Bool
  pub name : Word
  pub adopts : Option Word
  pub cons : List ConTree

pub record ParamTree : Type 0 where
  pub consumed : Bool
  pub name : Word
  pub ty : TypeTree

pub record NeedTree : Type 0 where
  pub consumed : Bool
  pub atom : AtomTree

pub record SigTree : Type 0 where
  pub name : Word
  pub params : List ParamTree
  pub needs : List NeedTree
  pub result : Word
  pub ty : TypeTree
  pub gives : AtomTrees

pub record FunTree : Type 0 where
  pub name : Word
  pub sig : Word
  pub block : Block

pub data Declaration : Type 0 where
  Data_declaration : DataTree → Declaration
  Sig_declaration : SigTree → Declaration
  Fun_declaration : FunTree → Declaration
