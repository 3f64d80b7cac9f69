-- The tree of a source that was read, seen without memory: brackets and levels of operators dissolve, words take their text
-- from the bytes of the source.
use Rattle.std.specs.Prelude.{ℕ, ◌==◌, List, [], ◌∷◌, map, Option, Some, None, is_some, option_map, if◌then◌else◌}
use Rattle.mz_tree.specs.declared.types.Place.{Place}
use Rattle.mz_tree.specs.declared.code.Arith.{Arith}
use Rattle.mz_tree.specs.declared.code.Arith.TheVariants.{Add, Sub, Mul, Div, Rem, Eq, Ne, Lt, Le, Gt, Ge}
use Rattle.mz_token.specs.declared.token.Token.{Token}
use Rattle.mz_token.specs.declared.token.Kind.{Kind}
use Rattle.mz_token.specs.declared.token.Kind.TheVariants.{Number, Mark}
use Rattle.mz_token.specs.Tokens.{text_of}
use Rattle.mz_types.specs.declared.tree.FieldName.{FieldName as CodeFieldName}
use Rattle.mz_types.specs.declared.tree.SurfaceType.{SurfaceType, Int, Unknown, Dynamic, Locked, Singleton, Named, Lock', Structure, Row_of-SurfaceAtom, end_of-SurfaceAtom, more_of-SurfaceAtom}
use Rattle.mz_types.specs.declared.tree.SurfaceAtom.{SurfaceAtom, Has, Same}
use Rattle.mz_parse.specs.declared.bodies.Block.{Block as CodeBlock, Row_of-BlockItem, end_of-BlockItem, more_of-BlockItem, Held-Block-last, Block-last-None', Block-last-Some'}
use Rattle.mz_parse.specs.declared.bodies.BlockItem.{BlockItem as CodeItem, Let, Plain as PlainItem}
use Rattle.mz_parse.specs.declared.bodies.Expression.{Expression, Plain, Write', Print, If', Match', Retag, Give, Take, Acquire, Release, Spawn', Row_of-Block, end_of-Block, more_of-Block, Row_of-Case, end_of-Case, more_of-Case, Row_of-Expression, end_of-Expression, more_of-Expression}
use Rattle.mz_parse.specs.declared.bodies.Primary.{Primary, Number as NumberCode, Name, Call', Unit as UnitCode, Group', Construct', NewLock, Row_of-FieldValue, end_of-FieldValue, more_of-FieldValue}
use Rattle.mz_parse.specs.declared.bodies.Comparison.{Comparison, Comparison', Row_of-Comparing, end_of-Comparing, more_of-Comparing, Held-Comparison-right, Comparison-right-None', Comparison-right-Some'}
use Rattle.mz_parse.specs.declared.bodies.Comparing.{Comparing, Comparing'}
use Rattle.mz_parse.specs.declared.bodies.Sum.{Sum, Sum', Row_of-Term, end_of-Term, more_of-Term}
use Rattle.mz_parse.specs.declared.bodies.Term.{Term, Term'}
use Rattle.mz_parse.specs.declared.bodies.Product.{Product, Product', Row_of-Factor, end_of-Factor, more_of-Factor}
use Rattle.mz_parse.specs.declared.bodies.Select.{Select as CodeSelect}
use Rattle.mz_parse.specs.declared.tree.Constructor.{Constructor}
use Rattle.mz_parse.specs.declared.tree.FieldDeclaration.{FieldDeclaration}
use Rattle.mz_parse.specs.declared.tree.DataDeclaration.{DataDeclaration}
use Rattle.mz_parse.specs.declared.tree.Parameter.{Parameter}
use Rattle.mz_parse.specs.declared.tree.NeedDeclaration.{NeedDeclaration}
use Rattle.mz_parse.specs.declared.tree.SignatureDeclaration.{SignatureDeclaration}
use Rattle.mz_parse.specs.declared.tree.FunctionDeclaration.{FunctionDeclaration}
use Rattle.mz_parse.specs.declared.tree.Declaration.{Declaration as CodeDeclaration}
use Rattle.mz_parse.specs.declared.tree.Declaration.TheVariants.{Data, Signature, Function}
use Rattle.mz_parse.specs.declared.tree.Surface.{Surface}
use Rattle.mz_scope.specs.Syntax.{Word, FieldName, TypeTree, AtomTree, AtomTrees, Int_tree, Unknown_tree, Dynamic_tree, Locked_tree, Equal_tree, Named_tree, Lock_tree, Block_tree, Has_tree, Same_tree, No_atom_trees, More_atom_trees, atom_trees_of, Select, Expr, Number_expr, Unit_expr, Name_expr, Arith_expr, Call_expr, New_expr, Read_expr, Write_expr, New_lock_expr, Print_expr, If_expr, Match_expr, Retag_expr, Give_expr, Take_expr, Acquire_expr, Release_expr, Spawn_expr, Exprs, No_exprs, More_exprs, FieldValues, No_values, More_values, Block, The_block, BlockItem, Let_item, Plain_item, BlockItems, No_items, More_items, Value, No_value, The_value, Arms, No_arms, More_arms, FieldTree, ConTree, DataTree, ParamTree, NeedTree, SigTree, FunTree, Declaration, Data_declaration, Sig_declaration, Fun_declaration}

-- ---- tokens

-- the value of a number's token
abbrev pub number_in : Kind → ℕ
number_in (Number n) = n
number_in _ = 0

-- the operator of the mark with this number in the table of marks
abbrev pub operator_of : ℕ → Arith
operator_of n =
    if n == 10 then Add else (if n == 11 then Sub else (if n == 9 then Mul else (if n == 12 then Div else (if n == 13 then Rem
    else (if n == 16 then Eq else (if n == 17 then Ne else (if n == 18 then Lt else (if n == 19 then Le else (if n == 20 then Gt else Ge)))))))))

-- the operator of a mark's token
abbrev pub operator_in : Kind → Arith
operator_in (Mark n) = operator_of n
operator_in _ = Add

-- ---- what the parts of expressions are made to

-- the item that no `;` ends: a `let` is one of the items, an expression is the block's value
abbrev pub let_item : BlockItem → BlockItems
let_item (Let_item name value) = More_items (Let_item name value) No_items
let_item (Plain_item value) = No_items

abbrev pub item_value : BlockItem → Value
item_value (Let_item name value) = No_value
item_value (Plain_item value) = The_value value

-- the same of a last item, if there is one
abbrev pub let_items : Option BlockItem → BlockItems
let_items None = No_items
let_items (Some one) = let_item one

abbrev pub value_of : Option BlockItem → Value
value_of None = No_value
value_of (Some one) = item_value one

-- the place of no token
abbrev pub nowhere : Place
nowhere = record { line = 0; col = 0 }

module _ (bytes : List ℕ) where
  abbrev pub word_of : Token → Word
  word_of t = record { text = text_of bytes t; place = t.place }

  -- ---- types and atoms

  abbrev pub field_name_of : CodeFieldName → FieldName
  field_name_of f = record { field = word_of f.field; name = word_of f.name }

  abbrev mutual
    pub type_tree : SurfaceType → TypeTree
    type_tree (Int t) = Int_tree
    type_tree (Unknown t) = Unknown_tree
    type_tree (Dynamic t) = Dynamic_tree
    type_tree (Locked t) = Locked_tree
    type_tree (Singleton mark name) = Equal_tree (word_of name)
    type_tree (Named name) = Named_tree (word_of name)
    type_tree (Lock' key shape row) = Lock_tree (atom_row row)
    type_tree (Structure con fields adopts) = Block_tree (word_of con) (map field_name_of fields) (option_map word_of adopts)

    pub atom_tree : SurfaceAtom → AtomTree
    atom_tree (Has name ty) = Has_tree (word_of name) (type_tree ty)
    atom_tree (Same left right) = Same_tree (word_of left) (word_of right)

    pub atom_row : {m : _} → Row_of-SurfaceAtom m → AtomTrees
    atom_row end_of-SurfaceAtom = No_atom_trees
    atom_row (more_of-SurfaceAtom a rest) = More_atom_trees (atom_tree a) (atom_row rest)

  abbrev pub atom_trees : List SurfaceAtom → AtomTrees
  atom_trees atoms = atom_trees_of (map atom_tree atoms)

  -- ---- expressions

  abbrev pub select_of : CodeSelect → Select
  select_of s = record { con = option_map word_of s.con; field = word_of s.field }

  -- an expression with selects behind it
  abbrev pub selected : Expr → List CodeSelect → Expr
  selected block [] = block
  selected block (s ∷ rest) = selected (Read_expr block (select_of s)) rest

  -- a write to the last of the fields selected; the grammar has no write without one
  abbrev pub write_to : Expr → List CodeSelect → Place → Expr → Expr
  write_to block [] place value = Unit_expr place
  write_to block (s ∷ []) place value = Write_expr block (select_of s) place value
  write_to block (s ∷ t ∷ rest) place value = write_to (Read_expr block (select_of s)) (t ∷ rest) place value

  abbrev mutual
    pub item_tree : CodeItem → BlockItem
    item_tree (Let key name value) = Let_item (word_of name) (expr_tree value)
    item_tree (PlainItem value) = Plain_item (expr_tree value)

    pub expr_tree : Expression → Expr
    expr_tree (Plain comparison) = comparison_tree comparison
    expr_tree (Write' base selects mark value) = write_to (primary_tree base) selects mark.place (comparison_tree value)
    expr_tree (Print key value) = Print_expr key.place (comparison_tree value)
    expr_tree (If' key test shape one shape_two two giving) = If_expr key.place (comparison_tree test) (block_row one) (block_row two) (atom_trees giving)
    expr_tree (Match' key name shape cases giving) = Match_expr key.place (word_of name) (case_row cases) (atom_trees giving)
    expr_tree (Retag key name old new) = Retag_expr key.place (word_of name) (word_of old) (word_of new)
    expr_tree (Give key name adopter) = Give_expr key.place (word_of name) (word_of adopter)
    expr_tree (Take key name adopter) = Take_expr key.place (word_of name) (word_of adopter)
    expr_tree (Acquire key name) = Acquire_expr key.place (word_of name)
    expr_tree (Release key name) = Release_expr key.place (word_of name)
    expr_tree (Spawn' key callee shape argument) = Spawn_expr key.place (word_of callee) (boxed_expr argument)

    pub primary_tree : Primary → Expr
    primary_tree (NumberCode t) = Number_expr (number_in t.kind) t.place
    primary_tree (Name t) = Name_expr (word_of t)
    primary_tree (Call' callee shape arguments) = Call_expr (word_of callee) (expr_row arguments)
    primary_tree (UnitCode t) = Unit_expr t.place
    primary_tree (Group' t shape inner) = boxed_expr inner
    primary_tree (Construct' con shape fields) = New_expr (word_of con) (value_row fields)
    primary_tree (NewLock key guarded) = New_lock_expr key.place (atom_trees guarded)

    pub comparison_tree : Comparison → Expr
    comparison_tree (Comparison' left right) = compared (sum_tree left) right

    pub compared : Expr → Held-Comparison-right → Expr
    compared left Comparison-right-None' = left
    compared left (Comparison-right-Some' shape row) = comparing_row left row

    pub comparing_row : Expr → {m : _} → Row_of-Comparing m → Expr
    comparing_row left end_of-Comparing = left
    comparing_row left (more_of-Comparing right rest) = comparing_tree left right

    pub comparing_tree : Expr → Comparing → Expr
    comparing_tree left (Comparing' mark right) = Arith_expr left (operator_in mark.kind) mark.place (sum_tree right)

    pub sum_tree : Sum → Expr
    sum_tree (Sum' one shape terms) = term_row (product_tree one) terms

    pub term_row : Expr → {m : _} → Row_of-Term m → Expr
    term_row left end_of-Term = left
    term_row left (more_of-Term t rest) = term_row (term_tree left t) rest

    pub term_tree : Expr → Term → Expr
    term_tree left (Term' mark product) = Arith_expr left (operator_in mark.kind) mark.place (product_tree product)

    pub product_tree : Product → Expr
    product_tree (Product' base selects shape factors) = factor_row (selected (primary_tree base) selects) factors

    pub factor_row : Expr → {m : _} → Row_of-Factor m → Expr
    factor_row left end_of-Factor = left
    factor_row left (more_of-Factor mark base selects rest) = factor_row (Arith_expr left (operator_in mark.kind) mark.place (selected (primary_tree base) selects)) rest

    pub boxed_expr : {m : _} → Row_of-Expression m → Expr
    boxed_expr end_of-Expression = Unit_expr nowhere
    boxed_expr (more_of-Expression one rest) = expr_tree one

    pub expr_row : {m : _} → Row_of-Expression m → Exprs
    expr_row end_of-Expression = No_exprs
    expr_row (more_of-Expression one rest) = More_exprs (expr_tree one) (expr_row rest)

    pub value_row : {m : _} → Row_of-FieldValue m → FieldValues
    value_row end_of-FieldValue = No_values
    value_row (more_of-FieldValue field value rest) = More_values (word_of field) (expr_tree value) (value_row rest)

    pub block_row : {m : _} → Row_of-Block m → Block
    block_row end_of-Block = The_block No_items No_value nowhere
    block_row (more_of-Block begins shape row last ends rest) = The_block (item_row (last_items last) row) (last_value last) ends.place

    pub case_row : {m : _} → Row_of-Case m → Arms
    case_row end_of-Case = No_arms
    case_row (more_of-Case con begins shape row last ends rest) = More_arms (word_of con) (The_block (item_row (last_items last) row) (last_value last) ends.place) (case_row rest)

    -- items with those behind them
    pub item_row : BlockItems → {m : _} → Row_of-BlockItem m → BlockItems
    item_row behind end_of-BlockItem = behind
    item_row behind (more_of-BlockItem one rest) = More_items (item_tree one) (item_row behind rest)

    pub last_items : Held-Block-last → BlockItems
    last_items Block-last-None' = No_items
    last_items (Block-last-Some' shape row) = last_row_items row

    pub last_row_items : {m : _} → Row_of-BlockItem m → BlockItems
    last_row_items end_of-BlockItem = No_items
    last_row_items (more_of-BlockItem one rest) = let_item (item_tree one)

    pub last_value : Held-Block-last → Value
    last_value Block-last-None' = No_value
    last_value (Block-last-Some' shape row) = last_row_value row

    pub last_row_value : {m : _} → Row_of-BlockItem m → Value
    last_row_value end_of-BlockItem = No_value
    last_row_value (more_of-BlockItem one rest) = item_value (item_tree one)

  -- ---- blocks

  -- items, with those behind them
  abbrev pub items_of : List BlockItem → BlockItems → BlockItems
  items_of [] behind = behind
  items_of (one ∷ rest) behind = More_items one (items_of rest behind)

  abbrev pub block_tree : CodeBlock → Block
  block_tree b = The_block (items_of (map item_tree b.items) (let_items (option_map item_tree b.last))) (value_of (option_map item_tree b.last)) b.close.place

  -- ---- declarations

  abbrev pub field_tree : FieldDeclaration → FieldTree
  field_tree f = record { name = word_of f.name; ty = type_tree f.ty }

  abbrev pub con_tree : Constructor → ConTree
  con_tree c = record { name = word_of c.name; fields = map field_tree c.fields }

  abbrev pub data_tree : DataDeclaration → DataTree
  data_tree x = record { mutable = is_some x.mutable; name = word_of x.name; adopts = option_map word_of x.adopts; cons = map con_tree x.cons }

  abbrev pub param_tree : Parameter → ParamTree
  param_tree p = record { consumed = is_some p.consumes; name = word_of p.name; ty = type_tree p.ty }

  abbrev pub need_tree : NeedDeclaration → NeedTree
  need_tree n = record { consumed = is_some n.consumes; atom = atom_tree n.atom }

  abbrev pub sig_tree : SignatureDeclaration → SigTree
  sig_tree x = record {
    name = word_of x.name;
    params = map param_tree x.params;
    needs = map need_tree x.needs;
    result = word_of x.result;
    ty = type_tree x.ty;
    gives = atom_trees x.gives;
  }

  abbrev pub fun_tree : FunctionDeclaration → FunTree
  fun_tree x = record { name = word_of x.name; sig = word_of x.sig; block = block_tree x.block }

  abbrev pub declaration_tree : CodeDeclaration → Declaration
  declaration_tree (Data x) = Data_declaration (data_tree x)
  declaration_tree (Signature x) = Sig_declaration (sig_tree x)
  declaration_tree (Function x) = Fun_declaration (fun_tree x)

-- a whole source
abbrev pub tree_of : Surface → List Declaration
tree_of surface = map (declaration_tree surface.text) surface.declarations
