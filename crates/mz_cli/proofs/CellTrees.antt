-- Trees of texts of the first form, in which brackets and the levels of operators are gone.
use Rattle.std.proofs.Common.{ℕ, true, List, [], ◌∷◌, None}
use Rattle.mz_tree.specs.declared.types.Place.{Place}
use Rattle.mz_tree.specs.declared.code.Arith.TheVariants.{Add}
use Rattle.mz_scope.specs.Syntax.{Word, Int_tree, Unknown_tree, No_atom_trees, Select, Expr, Number_expr, Name_expr, Arith_expr, New_expr, Read_expr, Write_expr, Print_expr, No_values, More_values, The_block, BlockItem, Let_item, Plain_item, BlockItems, No_items, More_items, Value, No_value, The_value, DataTree, SigTree, FunTree, Declaration, Data_declaration, Sig_declaration, Fun_declaration}

-- `.field`
abbrev pub plain_select : Word → Select
plain_select field = record { con = None; field = field }

pub data IsPart : Expr → Type 0 where
  A_number : (value : ℕ) (place : Place) → IsPart (Number_expr value place)
  A_field : (block field : Word) → IsPart (Read_expr (Name_expr block) (plain_select field))

pub data IsSum : Expr → Type 0 where
  One_part : (e : Expr) → IsPart e → IsSum e
  Two_parts : (left right : Expr) (place : Place) → IsPart left → IsPart right → IsSum (Arith_expr left Add place right)

pub data IsAct : Expr → Type 0 where
  A_print : (place : Place) (value : Expr) → IsSum value → IsAct (Print_expr place value)
  A_write : (block field : Word) (place : Place) (value : Expr) → IsSum value → IsAct (Write_expr (Name_expr block) (plain_select field) place value)

pub data IsItem : BlockItem → Type 0 where
  A_let : (name con field : Word) (value : Expr) → IsSum value → IsItem (Let_item name (New_expr con (More_values field value No_values)))
  An_act : (value : Expr) → IsAct value → IsItem (Plain_item value)

pub data AreItems : BlockItems → Type 0 where
  No_more : AreItems No_items
  One_more : (item : BlockItem) (rest : BlockItems) → IsItem item → AreItems rest → AreItems (More_items item rest)

pub data IsEnd : Value → Type 0 where
  No_end : IsEnd No_value
  An_end : (value : Expr) → IsAct value → IsEnd (The_value value)

-- the names of what is declared
pub record CellWords : Type 0 where
  pub variety : Word
  pub con : Word
  pub field : Word
  pub sig : Word
  pub result : Word
  pub name : Word
  pub of_sig : Word

abbrev pub data_tree_of : CellWords → DataTree
data_tree_of w = record { mutable = true; name = w.variety; adopts = None; cons = record { name = w.con; fields = record { name = w.field; ty = Int_tree } ∷ [] } ∷ [] }

abbrev pub sig_tree_of : CellWords → SigTree
sig_tree_of w = record { name = w.sig; params = []; needs = []; result = w.result; ty = Unknown_tree; gives = No_atom_trees }

abbrev pub fun_tree_of : CellWords → BlockItems → Value → Place → FunTree
fun_tree_of w items value brace = record { name = w.name; sig = w.of_sig; block = The_block items value brace }

abbrev pub cell_tree : CellWords → BlockItems → Value → Place → List Declaration
cell_tree w items value brace = Data_declaration (data_tree_of w) ∷ Sig_declaration (sig_tree_of w) ∷ Fun_declaration (fun_tree_of w items value brace) ∷ []

pub data IsCellTree : List Declaration → Type 0 where
  The_cells : (w : CellWords) (items : BlockItems) (value : Value) (brace : Place) → AreItems items → IsEnd value → IsCellTree (cell_tree w items value brace)
