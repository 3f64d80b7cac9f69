-- Parts of the tree, by what they are made of.
use Rattle.std.specs.Prelude.{Bool, true, false, List, [], ◌∷◌, Option}
use Rattle.mz_token.specs.declared.token.Token.{Token}
use Rattle.mz_types.specs.declared.tree.SurfaceAtom.{SurfaceAtom}
use Rattle.mz_types.specs.declared.tree.SurfaceType.{SurfaceType}
use Rattle.mz_parse.specs.declared.tree.Constructor.{Constructor}
use Rattle.mz_parse.specs.declared.tree.DataDeclaration.{DataDeclaration}
use Rattle.mz_parse.specs.declared.tree.FieldDeclaration.{FieldDeclaration}
use Rattle.mz_parse.specs.declared.tree.FunctionDeclaration.{FunctionDeclaration}
use Rattle.mz_parse.specs.declared.tree.NeedDeclaration.{NeedDeclaration}
use Rattle.mz_parse.specs.declared.tree.Parameter.{Parameter}
use Rattle.mz_parse.specs.declared.tree.SignatureDeclaration.{SignatureDeclaration}
use Rattle.mz_parse.specs.declared.bodies.Block.{Block, roll-Block}
use Rattle.mz_parse.specs.declared.bodies.BlockItem.{BlockItem}
use Rattle.mz_parse.specs.declared.bodies.Case.{Case, roll-Case}
use Rattle.mz_parse.specs.declared.bodies.Comparing.{Comparing, roll-Comparing}
use Rattle.mz_parse.specs.declared.bodies.Comparison.{Comparison, roll-Comparison}
use Rattle.mz_parse.specs.declared.bodies.Expression.{Expression}
use Rattle.mz_parse.specs.declared.bodies.Factor.{Factor, roll-Factor}
use Rattle.mz_parse.specs.declared.bodies.FieldValue.{FieldValue, roll-FieldValue}
use Rattle.mz_parse.specs.declared.bodies.Postfix.{Postfix, roll-Postfix, out-Postfix}
use Rattle.mz_parse.specs.declared.bodies.Primary.{Primary}
use Rattle.mz_parse.specs.declared.bodies.Product.{Product, roll-Product}
use Rattle.mz_parse.specs.declared.bodies.Select.{Select}
use Rattle.mz_parse.specs.declared.bodies.Sum.{Sum, roll-Sum}
use Rattle.mz_parse.specs.declared.bodies.Term.{Term, roll-Term}

-- ---- declarations

abbrev pub field_of : Token → SurfaceType → FieldDeclaration
field_of name ty = record { name = name; ty = ty }

abbrev pub con_of : Token → List FieldDeclaration → Constructor
con_of name fields = record { name = name; fields = fields }

abbrev pub data_of : Token → Option Token → Token → Option Token → List Constructor → DataDeclaration
data_of key mutable name adopts cons = record { key = key; mutable = mutable; name = name; adopts = adopts; cons = cons }

abbrev pub param_of : Option Token → Token → SurfaceType → Parameter
param_of consumes name ty = record { consumes = consumes; name = name; ty = ty }

abbrev pub need_of : Option Token → SurfaceAtom → NeedDeclaration
need_of consumes atom = record { consumes = consumes; atom = atom }

-- what a function takes: its parameters, and what else it needs
abbrev pub Taken : Type 0
Taken = List Parameter × List NeedDeclaration

-- what a function gives: its result, and what else
abbrev pub Given : Type 0
Given = Token × SurfaceType × List SurfaceAtom

abbrev pub sig_of : Token → Token → Taken → Given → SignatureDeclaration
sig_of key name taken (result, ty, gives) = record { key = key; name = name; params = taken.0; needs = taken.1; result = result; ty = ty; gives = gives }

abbrev pub fun_of : Token → Token → Token → Block → FunctionDeclaration
fun_of key name sig block = record { key = key; name = name; sig = sig; block = block }

-- ---- bodies

abbrev pub block_of : Token → List BlockItem × Option BlockItem → Token → Block
block_of opening items closing = roll-Block (record { «open» = opening; items = items.0; last = items.1; close = closing })

abbrev pub case_of : Token → Block → Case
case_of con block = roll-Case (record { con = con; block = block })

abbrev pub comparison_of : Sum → Option Comparing → Comparison
comparison_of left right = roll-Comparison (record { left = left; right = right })

abbrev pub comparing_of : Token → Sum → Comparing
comparing_of mark right = roll-Comparing (record { mark = mark; right = right })

abbrev pub sum_of : Product → List Term → Sum
sum_of first terms = roll-Sum (record { first = first; terms = terms })

abbrev pub term_of : Token → Product → Term
term_of mark product = roll-Term (record { mark = mark; product = product })

abbrev pub product_of : Postfix → List Factor → Product
product_of first factors = roll-Product (record { first = first; factors = factors })

abbrev pub factor_of : Token → Postfix → Factor
factor_of mark part = roll-Factor (record { mark = mark; part = part })

abbrev pub postfix_of : Primary → List Select → Postfix
postfix_of base selects = roll-Postfix (record { base = base; selects = selects })

abbrev pub select_of : Option Token → Token → Select
select_of con field = record { con = con; field = field }

abbrev pub field_value_of : Token → Expression → FieldValue
field_value_of field value = roll-FieldValue (record { field = field; value = value })

abbrev pub some : {A : Type 0} → List A → Bool
some [] = false
some (a ∷ others) = true

-- whether it ends in a select
abbrev pub selects : Postfix → Bool
selects postfix = some (out-Postfix postfix).selects
