-- The tree of a text of the first form is one of cells, production by production.
use Rattle.std.proofs.Common.{◌≡◌, inl, inr, ℕ, ◌==◌, Bool, true, false, not, ◌&&◌, List, [], ◌∷◌, map, length, Option, Some, None, refl, sym, ap, ap₂, ◌∙◌, subst, arith}
use Rattle.std.proofs.lemmas.Bool.Decides.{eqb_tells}
use Rattle.std.specs.Prelude.{is_some, option_map}
use Rattle.std.specs.List.{list_all}
use Rattle.mz_tree.specs.declared.types.Place.{Place}
use Rattle.mz_tree.specs.declared.code.Arith.TheVariants.{Add}
use Rattle.mz_token.specs.declared.token.Token.{Token}
use Rattle.mz_token.specs.declared.token.Kind.{Kind}
use Rattle.mz_token.specs.declared.token.Kind.TheVariants as kind
use Rattle.mz_token.specs.Tokens.{is_mark}
use Rattle.mz_types.specs.declared.tree.SurfaceAtom.{SurfaceAtom}
use Rattle.mz_types.specs.declared.tree.SurfaceType.{SurfaceType, Int, Unknown, Dynamic, Locked, Singleton, Named, Lock', Structure}
use Rattle.mz_parse.specs.declared.bodies.BlockItem.{BlockItem as CodeItem, Let, Plain as PlainItem}
use Rattle.mz_parse.specs.declared.bodies.Expression.{Expression, Plain, Write', Print, If', Match', Retag, Give, Take, Acquire, Release, Spawn'}
use Rattle.mz_parse.specs.declared.bodies.Comparison.{Comparison, out-Comparison}
use Rattle.mz_parse.specs.declared.bodies.Sum.{Sum, out-Sum}
use Rattle.mz_parse.specs.declared.bodies.Term.{Term, out-Term}
use Rattle.mz_parse.specs.declared.bodies.Product.{Product, out-Product}
use Rattle.mz_parse.specs.declared.bodies.Primary.{Primary, Number, Name, Call', Unit as UnitCode, Group', Construct', NewLock, Row_of-FieldValue, end_of-FieldValue, more_of-FieldValue}
use Rattle.mz_parse.specs.declared.bodies.Select.{Select as CodeSelect}
use Rattle.mz_parse.specs.declared.tree.Constructor.{Constructor}
use Rattle.mz_parse.specs.declared.tree.FieldDeclaration.{FieldDeclaration}
use Rattle.mz_parse.specs.declared.tree.Parameter.{Parameter}
use Rattle.mz_parse.specs.declared.tree.NeedDeclaration.{NeedDeclaration}
use Rattle.mz_parse.specs.declared.tree.SignatureDeclaration.{SignatureDeclaration}
use Rattle.mz_parse.specs.declared.tree.Declaration.{Declaration as CodeDeclaration}
use Rattle.mz_parse.specs.declared.tree.Declaration.TheVariants.{Data, Signature, Function}
use Rattle.mz_parse.specs.declared.tree.Surface.{Surface}
use Rattle.mz_scope.specs.Syntax.{Word, Int_tree, Unknown_tree, Expr, Name_expr, Arith_expr, New_expr, Read_expr, Write_expr, No_atom_trees, No_values, More_values, Let_item, BlockItems, No_items, Value, ConTree, SigTree, Data_declaration, Sig_declaration, Fun_declaration}
use Rattle.mz_scope.specs.Trees.{operator_in, let_items, value_of, word_of, type_tree, atom_trees, select_of, selected, write_to, item_tree, expr_tree, primary_tree, comparison_tree, sum_tree, product_tree, value_row, items_of, field_tree, con_tree, param_tree, need_tree, sig_tree, fun_tree, declaration_tree, tree_of}
use Rattle.mz_cli.specs.FirstForm.{is_field, is_part, is_part_alone, is_plus, is_sum, is_sum_alone, is_value, is_one_value, is_new, is_new_alone, is_new_sum, is_new_value, is_act, is_item, is_last, is_block, is_int, is_unknown, is_int_field, is_cell, is_cell_data, is_start, is_form}
use Rattle.mz_cli.proofs.CellTrees.{plain_select, IsPart, A_number, A_field, IsSum, One_part, Two_parts, IsAct, A_print, A_write, IsItem, A_let, An_act, AreItems, No_more, One_more, IsEnd, No_end, An_end, CellWords, IsCellTree, The_cells}
use Rattle.mz_cli.proofs.Views.{product_is, sum_is, pair_is, comparison_is}

-- ---- tests

pub both : (b c : Bool) → (b && c) ≡ true → (b ≡ true) × (c ≡ true)
both true c is = (refl, is)
both false c is = cc

is_none : {X : Type 0} (o : Option X) → not (is_some o) ≡ true → o ≡ None
is_none None is = refl
is_none (Some x) is = cc

false_true : (b : Bool) → b ≡ false → b ≡ true → ⊥
false_true b this that = cc

is_empty : {X : Type 0} (xs : List X) → (length xs == 0) ≡ true → xs ≡ []
is_empty [] is = refl
is_empty (x ∷ xs) is = elim (eqb_tells (length (x ∷ xs)) 0) [ inl t ↦ absurd (omega (arith, t.1)) | inr t ↦ absurd (false_true (length (x ∷ xs) == 0) t.0 is) ]

-- `+`
is_plus_mark : (k : Kind) → is_mark 10 k ≡ true → operator_in k ≡ Add
is_plus_mark (kind.Mark n) is = ap operator_in (ap kind.Mark (same n is))
  where
    same : (n : ℕ) → is_mark 10 (kind.Mark n) ≡ true → n ≡ 10
    same n is = elim (eqb_tells n 10) [ inl t ↦ t.1 | inr t ↦ absurd (false_true (n == 10) t.0 is) ]
is_plus_mark (kind.Lower) is = cc
is_plus_mark (kind.Upper) is = cc
is_plus_mark (kind.Number n) is = cc
is_plus_mark (kind.Key n) is = cc

module _ (bytes : List ℕ) where
  -- ---- parts and sums

  select_is : (s : CodeSelect) → not (is_some s.con) ≡ true → select_of bytes s ≡ plain_select (word_of bytes s.field)
  select_is s plain = ap (λ con. record { con = option_map (word_of bytes) con; field = word_of bytes s.field }) (is_none s.con plain)

  -- what stands for a field
  record FieldOf (base : Primary) (selects : List CodeSelect) : Type 0 where
    name : Token
    select : CodeSelect
    named : primary_tree bytes base ≡ Name_expr (word_of bytes name)
    selected_is : selects ≡ select ∷ []
    plain : select_of bytes select ≡ plain_select (word_of bytes select.field)

  field_of : (base : Primary) (selects : List CodeSelect) → is_field base selects ≡ true → FieldOf base selects
  field_of (Name name) [] is = cc
  field_of (Name name) (s ∷ []) is = record { name = name; select = s; named = refl; selected_is = refl; plain = select_is s is }
  field_of (Name name) (s ∷ t ∷ rest) is = cc
  field_of (Number number) selects is = cc
  field_of (Call' callee shape arguments) selects is = cc
  field_of (UnitCode opening) selects is = cc
  field_of (Group' opening shape inner) selects is = cc
  field_of (Construct' con shape fields) selects is = cc
  field_of (NewLock key guarded) selects is = cc

  field_part : (base : Primary) (selects : List CodeSelect) → FieldOf base selects → IsPart (selected bytes (primary_tree bytes base) selects)
  field_part base selects field =
      subst (λ ss. IsPart (selected bytes (primary_tree bytes base) ss)) (sym field.selected_is)
      (subst (λ b. IsPart (selected bytes b (field.select ∷ []))) (sym field.named)
      (subst (λ s. IsPart (Read_expr (Name_expr (word_of bytes field.name)) s)) (sym field.plain) (A_field (word_of bytes field.name) (word_of bytes field.select.field))))

  part_of : (base : Primary) (selects : List CodeSelect) → is_part base selects ≡ true → IsPart (selected bytes (primary_tree bytes base) selects)
  part_of (Number number) selects is = subst (λ ss. IsPart (selected bytes (primary_tree bytes (Number number)) ss)) (sym (is_empty selects is)) (A_number _ number.place)
  part_of (Name name) selects is = field_part (Name name) selects (field_of (Name name) selects is)
  part_of (Call' callee shape arguments) selects is = cc
  part_of (UnitCode opening) selects is = cc
  part_of (Group' opening shape inner) selects is = cc
  part_of (Construct' con shape fields) selects is = cc
  part_of (NewLock key guarded) selects is = cc

  product_part : (p : Product) → is_part_alone p ≡ true → IsPart (product_tree bytes p)
  product_part p is =
      let parts = both (is_part (out-Product p).first.base (out-Product p).first.selects) (length (out-Product p).factors == 0) is in
      subst IsPart (sym (product_is bytes p (is_empty (out-Product p).factors parts.1))) (part_of (out-Product p).first.base (out-Product p).first.selects parts.0)

  sum_by : (s : Sum) (terms : List Term) → (out-Sum s).terms ≡ terms → is_part_alone (out-Sum s).first ≡ true → is_plus terms ≡ true → IsSum (sum_tree bytes s)
  sum_by s [] terms_are first is = subst IsSum (sym (sum_is bytes s terms_are)) (One_part _ (product_part (out-Sum s).first first))
  sum_by s (t ∷ []) terms_are first is =
      let parts = both (is_mark 10 (out-Term t).mark.kind) (is_part_alone (out-Term t).product) is in
      subst IsSum (sym (pair_is bytes s t terms_are))
      (subst (λ operator. IsSum (Arith_expr (product_tree bytes (out-Sum s).first) operator (out-Term t).mark.place (product_tree bytes (out-Term t).product))) (sym (is_plus_mark (out-Term t).mark.kind parts.0))
      (Two_parts _ _ (out-Term t).mark.place (product_part (out-Sum s).first first) (product_part (out-Term t).product parts.1)))
  sum_by s (t ∷ u ∷ more) terms_are first is = cc

  comparison_sum : (c : Comparison) → is_sum_alone c ≡ true → IsSum (comparison_tree bytes c)
  comparison_sum c is =
      let parts = both (is_sum (out-Comparison c).left) (not (is_some (out-Comparison c).right)) is in
      let s = (out-Comparison c).left in
      let sums = both (is_part_alone (out-Sum s).first) (is_plus (out-Sum s).terms) parts.0 in
      subst IsSum (sym (comparison_is bytes c (is_none (out-Comparison c).right parts.1))) (sum_by s (out-Sum s).terms refl sums.0 sums.1)

  value_sum : (e : Expression) → is_value e ≡ true → IsSum (expr_tree bytes e)
  value_sum (Plain c) is = comparison_sum c is
  value_sum (Write' base selects mark value) is = cc
  value_sum (Print key value) is = cc
  value_sum (If' key test shape one shape_two two giving) is = cc
  value_sum (Match' key name shape cases giving) is = cc
  value_sum (Retag key name old new) is = cc
  value_sum (Give key name adopter) is = cc
  value_sum (Take key name adopter) is = cc
  value_sum (Acquire key name) is = cc
  value_sum (Release key name) is = cc
  value_sum (Spawn' key callee shape argument) is = cc

  -- ---- new blocks

  -- a block of one field that is a sum
  record NewOf (e : Expr) : Type 0 where
    con : Word
    field : Word
    value : Expr
    sum : IsSum value
    new_is : e ≡ New_expr con (More_values field value No_values)

  fields_new : (con : Token) (m : _) (row : Row_of-FieldValue m) → is_one_value row ≡ true → NewOf (New_expr (word_of bytes con) (value_row bytes row))
  fields_new con _ end_of-FieldValue is = cc
  fields_new con _ (more_of-FieldValue field value end_of-FieldValue) is = record { con = word_of bytes con; field = word_of bytes field; value = expr_tree bytes value; sum = value_sum value is; new_is = refl }
  fields_new con _ (more_of-FieldValue field value (more_of-FieldValue other another rest)) is = cc

  primary_new : (base : Primary) → is_new base ≡ true → NewOf (primary_tree bytes base)
  primary_new (Construct' con shape fields) is = fields_new con _ fields is
  primary_new (Number number) is = cc
  primary_new (Name name) is = cc
  primary_new (Call' callee shape arguments) is = cc
  primary_new (UnitCode opening) is = cc
  primary_new (Group' opening shape inner) is = cc
  primary_new (NewLock key guarded) is = cc

  product_new : (p : Product) → is_new_alone p ≡ true → NewOf (product_tree bytes p)
  product_new p is =
      let front : Bool = is_new (out-Product p).first.base && (length (out-Product p).first.selects == 0) in
      let rest = both front (length (out-Product p).factors == 0) is in
      let first = both (is_new (out-Product p).first.base) (length (out-Product p).first.selects == 0) rest.0 in
      subst NewOf (sym (product_is bytes p (is_empty (out-Product p).factors rest.1)))
      (subst (λ ss. NewOf (selected bytes (primary_tree bytes (out-Product p).first.base) ss)) (sym (is_empty (out-Product p).first.selects first.1)) (primary_new (out-Product p).first.base first.0))

  expression_new : (e : Expression) → is_new_value e ≡ true → NewOf (expr_tree bytes e)
  expression_new (Plain c) is =
      let s = (out-Comparison c).left in
      let parts = both (is_new_sum s) (not (is_some (out-Comparison c).right)) is in
      let sums = both (is_new_alone (out-Sum s).first) (length (out-Sum s).terms == 0) parts.0 in
      subst NewOf (sym (comparison_is bytes c (is_none (out-Comparison c).right parts.1) ∙ sum_is bytes s (is_empty (out-Sum s).terms sums.1))) (product_new (out-Sum s).first sums.0)
  expression_new (Write' base selects mark value) is = cc
  expression_new (Print key value) is = cc
  expression_new (If' key test shape one shape_two two giving) is = cc
  expression_new (Match' key name shape cases giving) is = cc
  expression_new (Retag key name old new) is = cc
  expression_new (Give key name adopter) is = cc
  expression_new (Take key name adopter) is = cc
  expression_new (Acquire key name) is = cc
  expression_new (Release key name) is = cc
  expression_new (Spawn' key callee shape argument) is = cc

  -- ---- items

  write_act : (base : Primary) (selects : List CodeSelect) (place : Place) (value : Expr) → FieldOf base selects → IsSum value → IsAct (write_to bytes (primary_tree bytes base) selects place value)
  write_act base selects place value field sum =
      subst (λ ss. IsAct (write_to bytes (primary_tree bytes base) ss place value)) (sym field.selected_is)
      (subst (λ b. IsAct (write_to bytes b (field.select ∷ []) place value)) (sym field.named)
      (subst (λ s. IsAct (Write_expr (Name_expr (word_of bytes field.name)) s place value)) (sym field.plain) (A_write (word_of bytes field.name) (word_of bytes field.select.field) place value sum)))

  act_of : (e : Expression) → is_act e ≡ true → IsAct (expr_tree bytes e)
  act_of (Print key value) is = A_print key.place (comparison_tree bytes value) (comparison_sum value is)
  act_of (Write' base selects mark value) is =
      let parts = both (is_field base selects) (is_sum_alone value) is in
      write_act base selects mark.place (comparison_tree bytes value) (field_of base selects parts.0) (comparison_sum value parts.1)
  act_of (Plain c) is = cc
  act_of (If' key test shape one shape_two two giving) is = cc
  act_of (Match' key name shape cases giving) is = cc
  act_of (Retag key name old new) is = cc
  act_of (Give key name adopter) is = cc
  act_of (Take key name adopter) is = cc
  act_of (Acquire key name) is = cc
  act_of (Release key name) is = cc
  act_of (Spawn' key callee shape argument) is = cc

  let_of : (name : Word) (e : Expr) → NewOf e → IsItem (Let_item name e)
  let_of name e new = subst (λ e. IsItem (Let_item name e)) (sym new.new_is) (A_let name new.con new.field new.value new.sum)

  item_of : (item : CodeItem) → is_item item ≡ true → IsItem (item_tree bytes item)
  item_of (Let key name value) is = let_of (word_of bytes name) (expr_tree bytes value) (expression_new value is)
  item_of (PlainItem value) is = An_act (expr_tree bytes value) (act_of value is)

  items_on : (items : List CodeItem) (behind : BlockItems) → list_all is_item items ≡ true → AreItems behind → AreItems (items_of bytes (map (item_tree bytes) items) behind)
  items_on [] behind is more = more
  items_on (item ∷ items) behind is more =
      let parts = both (is_item item) (list_all is_item items) is in
      One_more (item_tree bytes item) _ (item_of item parts.0) (items_on items behind parts.1 more)

  last_items_are : (last : Option CodeItem) → is_last last ≡ true → AreItems (let_items (option_map (item_tree bytes) last))
  last_items_are None is = No_more
  last_items_are (Some (Let key name value)) is = One_more _ No_items (item_of (Let key name value) is) No_more
  last_items_are (Some (PlainItem value)) is = No_more

  last_value_is : (last : Option CodeItem) → is_last last ≡ true → IsEnd (value_of (option_map (item_tree bytes) last))
  last_value_is None is = No_end
  last_value_is (Some (Let key name value)) is = No_end
  last_value_is (Some (PlainItem value)) is = An_end (expr_tree bytes value) (act_of value is)

  -- ---- declarations

  int_is : (ty : SurfaceType) → is_int ty ≡ true → type_tree bytes ty ≡ Int_tree
  int_is (Int key) is = refl
  int_is (Unknown key) is = cc
  int_is (Dynamic key) is = cc
  int_is (Locked key) is = cc
  int_is (Singleton mark name) is = cc
  int_is (Named name) is = cc
  int_is (Lock' key shape row) is = cc
  int_is (Structure con fields adopts) is = cc

  unknown_is : (ty : SurfaceType) → is_unknown ty ≡ true → type_tree bytes ty ≡ Unknown_tree
  unknown_is (Unknown key) is = refl
  unknown_is (Int key) is = cc
  unknown_is (Dynamic key) is = cc
  unknown_is (Locked key) is = cc
  unknown_is (Singleton mark name) is = cc
  unknown_is (Named name) is = cc
  unknown_is (Lock' key shape row) is = cc
  unknown_is (Structure con fields adopts) is = cc

  -- the constructor with its field
  record CellOf (cons : List ConTree) : Type 0 where
    con : Word
    field : Word
    cons_are : cons ≡ record { name = con; fields = record { name = field; ty = Int_tree } ∷ [] } ∷ []

  cell_of : (cons : List Constructor) → is_cell cons ≡ true → CellOf (map (con_tree bytes) cons)
  cell_of [] is = cc
  cell_of (con ∷ other ∷ rest) is = cc
  cell_of (con ∷ []) is = by_fields con.fields is
    where
      by_fields : (fields : List FieldDeclaration) → is_int_field fields ≡ true → CellOf (record { name = word_of bytes con.name; fields = map (field_tree bytes) fields } ∷ [])
      by_fields [] is = cc
      by_fields (f ∷ g ∷ rest) is = cc
      by_fields (f ∷ []) is = record { con = word_of bytes con.name; field = word_of bytes f.name; cons_are = ap (λ ty. record { name = word_of bytes con.name; fields = record { name = word_of bytes f.name; ty = ty } ∷ [] } ∷ []) (int_is f.ty is) }

  data_is : (mutable : Bool) (name : Word) (adopts : Option Word) (cons : List ConTree) (cell : CellOf cons) → mutable ≡ true → adopts ≡ None
      → Data_declaration (record { mutable = mutable; name = name; adopts = adopts; cons = cons }) ≡ Data_declaration (record { mutable = true; name = name; adopts = None; cons = record { name = cell.con; fields = record { name = cell.field; ty = Int_tree } ∷ [] } ∷ [] })
  data_is mutable name adopts cons cell changes none = rw (changes, none) (ap (λ cs. Data_declaration (record { mutable = true; name = name; adopts = None; cons = cs })) cell.cons_are)

  abbrev start_sig : Word → Word → SigTree
  start_sig name result = record { name = name; params = []; needs = []; result = result; ty = Unknown_tree; gives = No_atom_trees }

  abbrev sig_by : Word → Word → List Parameter → List NeedDeclaration → SurfaceType → List SurfaceAtom → SigTree
  sig_by name result params needs ty gives = record { name = name; params = map (param_tree bytes) params; needs = map (need_tree bytes) needs; result = result; ty = type_tree bytes ty; gives = atom_trees bytes gives }

  start_is : (name result : Word) (params : List Parameter) (needs : List NeedDeclaration) (ty : SurfaceType) (gives : List SurfaceAtom) → params ≡ [] → needs ≡ [] → type_tree bytes ty ≡ Unknown_tree → gives ≡ [] → sig_by name result params needs ty gives ≡ start_sig name result
  start_is name result params needs ty gives p n t g =
      ap (λ ps. sig_by name result ps needs ty gives) p ∙ ap (λ ns. sig_by name result [] ns ty gives) n ∙ ap (λ gs. sig_by name result [] [] ty gs) g ∙ ap (λ u. record (start_sig name result) { ty = u }) t

  sig_is : (x : SignatureDeclaration) → is_start x ≡ true → sig_tree bytes x ≡ start_sig (word_of bytes x.name) (word_of bytes x.result)
  sig_is x is =
      let taken : Bool = (length x.params == 0) && (length x.needs == 0) in
      let three = both (taken && is_unknown x.ty) (length x.gives == 0) is in
      let two = both taken (is_unknown x.ty) three.0 in
      let one = both (length x.params == 0) (length x.needs == 0) two.0 in
      start_is (word_of bytes x.name) (word_of bytes x.result) x.params x.needs x.ty x.gives (is_empty x.params one.0) (is_empty x.needs one.1) (unknown_is x.ty two.1) (is_empty x.gives three.1)

  form_of : (declarations : List CodeDeclaration) → is_form declarations ≡ true → IsCellTree (map (declaration_tree bytes) declarations)
  form_of (Data x ∷ Signature y ∷ Function z ∷ []) is =
      let front : Bool = is_cell_data x && is_start y in
      let whole = both front (is_block z.block) is in
      let heads = both (is_cell_data x) (is_start y) whole.0 in
      let marks : Bool = is_some x.mutable && not (is_some x.adopts) in
      let data_parts = both marks (is_cell x.cons) heads.0 in
      let mark_parts = both (is_some x.mutable) (not (is_some x.adopts)) data_parts.0 in
      let cell = cell_of x.cons data_parts.1 in
      let block = both (list_all is_item z.block.items) (is_last z.block.last) whole.1 in
      let w : CellWords = record { variety = word_of bytes x.name; con = cell.con; field = cell.field; sig = word_of bytes y.name; result = word_of bytes y.result; name = word_of bytes z.name; of_sig = word_of bytes z.sig } in
      let whole_data = data_is (is_some x.mutable) (word_of bytes x.name) (option_map (word_of bytes) x.adopts) (map (con_tree bytes) x.cons) cell mark_parts.0 (ap (option_map (word_of bytes)) (is_none x.adopts mark_parts.1)) in
      let items : BlockItems = items_of bytes (map (item_tree bytes) z.block.items) (let_items (option_map (item_tree bytes) z.block.last)) in
      let value : Value = value_of (option_map (item_tree bytes) z.block.last) in
      subst IsCellTree (sym (ap₂ (λ d s. d ∷ Sig_declaration s ∷ Fun_declaration (fun_tree bytes z) ∷ []) whole_data (sig_is y heads.1)))
      (The_cells w items value z.block.close.place (items_on z.block.items _ block.0 (last_items_are z.block.last block.1)) (last_value_is z.block.last block.1))
  form_of _ is = cc

-- so it is for the whole source
pub cell_tree_of : (surface : Surface) → is_form surface.declarations ≡ true → IsCellTree (tree_of surface)
cell_tree_of surface is = form_of surface.text surface.declarations is
