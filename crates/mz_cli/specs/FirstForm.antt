-- Texts of the first form, which are those that are run today. A text that is read is one where its tree is that of this
-- grammar, and no name of `main` stands for a function: each name before a dot was bound by an earlier `let`.
--
--     form        = declaration sig fun
--     declaration = "data" "mutable" low "=" up "{" low ":" "int" "}"
--     sig         = "sig" low "=" "(" ")" "->" "(" low ":" "unknown" ")"
--     fun         = "fun" low ":" low "=" "{" { item ";" } [item] "}"
--     item        = "let" low "=" up "{" low "=" sum "}" | "print" sum | low "." low "<-" sum
--     sum         = part [ "+" part ]
--     part        = number | low "." low
use Rattle.std.specs.Prelude.{◌==◌, ◌&&◌, Bool, true, false, not, List, [], ◌∷◌, length, Option, Some, None, is_some}
use Rattle.std.specs.List.{list_any, list_all}
use Rattle.mz_tree.specs.Code.{Op, Fun_op, op_of, commands_in}
use Rattle.mz_tree.specs.Programs.{Fun, Program}
use Rattle.mz_token.specs.Tokens.{is_mark}
use Rattle.mz_types.specs.declared.tree.SurfaceType.{SurfaceType, Int, Unknown}
use Rattle.mz_parse.specs.declared.bodies.Block.{Block}
use Rattle.mz_parse.specs.declared.bodies.BlockItem.{BlockItem, Let, Plain as PlainItem}
use Rattle.mz_parse.specs.declared.bodies.Expression.{Expression, Plain, Write', Print}
use Rattle.mz_parse.specs.declared.bodies.Comparison.{Comparison, out-Comparison}
use Rattle.mz_parse.specs.declared.bodies.Sum.{Sum, out-Sum}
use Rattle.mz_parse.specs.declared.bodies.Term.{Term, out-Term}
use Rattle.mz_parse.specs.declared.bodies.Product.{Product, out-Product}
use Rattle.mz_parse.specs.declared.bodies.Primary.{Primary, Number, Name, Construct', Row_of-FieldValue, end_of-FieldValue, more_of-FieldValue}
use Rattle.mz_parse.specs.declared.bodies.Select.{Select}
use Rattle.mz_parse.specs.declared.tree.Constructor.{Constructor}
use Rattle.mz_parse.specs.declared.tree.FieldDeclaration.{FieldDeclaration}
use Rattle.mz_parse.specs.declared.tree.DataDeclaration.{DataDeclaration}
use Rattle.mz_parse.specs.declared.tree.SignatureDeclaration.{SignatureDeclaration}
use Rattle.mz_parse.specs.declared.tree.Declaration.{Declaration}
use Rattle.mz_parse.specs.declared.tree.Declaration.TheVariants.{Data, Signature, Function}
use Rattle.mz_parse.specs.declared.tree.Surface.{Surface}

-- ---- sums

abbrev pub is_plain_select : List Select → Bool
is_plain_select (s ∷ []) = not (is_some s.con)
is_plain_select _ = false

-- low "." low
abbrev pub is_field : Primary → List Select → Bool
is_field (Name name) selects = is_plain_select selects
is_field _ selects = false

-- number | low "." low
abbrev pub is_part : Primary → List Select → Bool
is_part (Number number) selects = length selects == 0
is_part base selects = is_field base selects

-- a part, and no other with it
abbrev pub is_part_alone : Product → Bool
is_part_alone p = is_part (out-Product p).first.base (out-Product p).first.selects && (length (out-Product p).factors == 0)

-- [ "+" part ]
abbrev pub is_plus : List Term → Bool
is_plus [] = true
is_plus (t ∷ []) = is_mark 10 (out-Term t).mark.kind && is_part_alone (out-Term t).product
is_plus (t ∷ u ∷ more) = false

-- part [ "+" part ]
abbrev pub is_sum : Sum → Bool
is_sum s = is_part_alone (out-Sum s).first && is_plus (out-Sum s).terms

-- a sum, and no comparison
abbrev pub is_sum_alone : Comparison → Bool
is_sum_alone c = is_sum (out-Comparison c).left && not (is_some (out-Comparison c).right)

-- ---- items

abbrev pub is_value : Expression → Bool
is_value (Plain c) = is_sum_alone c
is_value _ = false

-- low "=" sum
abbrev pub is_one_value : {m : _} → Row_of-FieldValue m → Bool
is_one_value (more_of-FieldValue field value end_of-FieldValue) = is_value value
is_one_value _ = false

-- up "{" low "=" sum "}"
abbrev pub is_new : Primary → Bool
is_new (Construct' con shape fields) = is_one_value fields
is_new _ = false

-- the same, and nothing behind it
abbrev pub is_new_alone : Product → Bool
is_new_alone p = is_new (out-Product p).first.base && (length (out-Product p).first.selects == 0) && (length (out-Product p).factors == 0)

abbrev pub is_new_sum : Sum → Bool
is_new_sum s = is_new_alone (out-Sum s).first && (length (out-Sum s).terms == 0)

abbrev pub is_new_value : Expression → Bool
is_new_value (Plain c) = is_new_sum (out-Comparison c).left && not (is_some (out-Comparison c).right)
is_new_value _ = false

-- "print" sum | low "." low "<-" sum
abbrev pub is_act : Expression → Bool
is_act (Print key value) = is_sum_alone value
is_act (Write' base selects mark value) = is_field base selects && is_sum_alone value
is_act _ = false

abbrev pub is_item : BlockItem → Bool
is_item (Let key name value) = is_new_value value
is_item (PlainItem value) = is_act value

abbrev pub is_last : Option BlockItem → Bool
is_last None = true
is_last (Some item) = is_item item

abbrev pub is_block : Block → Bool
is_block b = list_all is_item b.items && is_last b.last

-- ---- declarations

abbrev pub is_int : SurfaceType → Bool
is_int (Int key) = true
is_int _ = false

abbrev pub is_unknown : SurfaceType → Bool
is_unknown (Unknown key) = true
is_unknown _ = false

abbrev pub is_int_field : List FieldDeclaration → Bool
is_int_field (f ∷ []) = is_int f.ty
is_int_field _ = false

abbrev pub is_cell : List Constructor → Bool
is_cell (con ∷ []) = is_int_field con.fields
is_cell _ = false

abbrev pub is_cell_data : DataDeclaration → Bool
is_cell_data x = is_some x.mutable && not (is_some x.adopts) && is_cell x.cons

abbrev pub is_start : SignatureDeclaration → Bool
is_start x = (length x.params == 0) && (length x.needs == 0) && is_unknown x.ty && (length x.gives == 0)

abbrev pub is_form : List Declaration → Bool
is_form (Data x ∷ Signature y ∷ Function z ∷ []) = is_cell_data x && is_start y && is_block z.block
is_form _ = false

-- ---- names of functions

abbrev pub is_function : Op → Bool
is_function (Fun_op number) = true
is_function _ = false

-- some command of some function has a function as its value
abbrev pub names_function : Program → Bool
names_function p = list_any (λ (f : Fun). list_any (λ c. is_function (op_of c)) (commands_in f.body)) p.funs

-- ---- the whole

abbrev pub is_first_form : Surface → Program → Bool
is_first_form surface program = is_form surface.declarations && not (names_function program)
