-- Parts of types and of expressions by themselves, as the code reads them.
use Rattle.std.specs.Prelude.{ℕ, List, Option, Some, None, option_map}
use Rattle.mz_tree.specs.Plain.{Atom, Has_atom, Block_type}
use Rattle.mz_tree.specs.declared.types.Place.{Place}
use Rattle.mz_tree.specs.Code.{Read_op}
use Rattle.mz_scope.specs.Syntax.{Word, FieldName, Select, Expr, Name_expr, BlockItem}
use Rattle.mz_scope.specs.Names.{Names, find, Globals, TypeEntry, Data_name, FunEntry}
use Rattle.mz_scope.specs.Trees.{let_items, value_of}
use Rattle.mz_scope.specs.Making.{Part, ◌>>=◌, ◌>>◌, give, declared_or, add_command}
use Rattle.mz_scope.specs.Bodies.{select_con, field_in, flat_items, flat_value}
use Rattle.mz_scope.specs.Types.{con_by_name, flat_field_names, are_fields, adopted, number_of, in_order, type_by_name}

-- a data type or a signature
abbrev pub named_type : Globals → ℕ → Word → Part (Atom ℕ)
named_type g x name = do
  t ← declared_or (Data_name 0) (option_map (λ (t : TypeEntry). t.stands_for) (find g.types name.text)) name.place
  give (Has_atom x (type_by_name t))

-- a block of a constructor
abbrev pub structure_type : Globals → Names ℕ → ℕ → Word → List FieldName → Option Word → Part (Atom ℕ)
structure_type g scope x name fields adopts = do
  con ← con_by_name g name
  written ← flat_field_names g scope con fields
  are_fields con written name.place
  u ← adopted g (number_of con) adopts
  give (Has_atom x (Block_type (number_of con) (in_order con written) u))

-- a field of the block x is read
abbrev pub read_step : Globals → ℕ → Select → Part ℕ
read_step g x select = do
  con ← select_con g select.con select.field
  i ← field_in con select.field
  add_command select.field.place (Read_op x (number_of con) i)

-- the name that an expression is, if it is one
abbrev pub name_of : Expr → Option Word
name_of (Name_expr name) = Some name
name_of _ = None

-- the items that no `;` ends, and the value of a block
abbrev pub flat_end : Globals → Names ℕ → Place → Option BlockItem → Part ℕ
flat_end g scope brace last = do
  inner ← flat_items g scope (let_items last)
  flat_value g inner brace (value_of last)

-- the number of a function
abbrev pub function_number : Globals → Word → Part ℕ
function_number g name = declared_or 0 (option_map (λ (f : FunEntry). f.number) (find g.funs name.text)) name.place
