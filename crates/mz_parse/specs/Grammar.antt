-- The grammar, one line for each alternative. Keys and marks stand by their numbers in the tables of the tokens; what `type`,
-- `atom` and `atoms` are, the grammar of types says.
--
--     program    = { data | sig | fun }
--     data       = "data" ["mutable"] low ["adopts" low] "=" con { "|" con }
--     con        = up "{" [ field { ";" field } ] "}"
--     field      = low ":" type
--     sig        = "sig" low "=" "(" [ param { "," param } ] ["|" need { "*" need }] ")" "->" "(" low ":" type ["|" atoms] ")"
--     param      = ["consumes"] low ":" type
--     need       = ["consumes"] atom
--     fun        = "fun" low ":" low "=" block
--     block      = "{" { item ";" } [item] "}"
--     item       = "let" low "=" expression | expression
--     expression = comparison | write | "print" comparison
--                | "if" comparison "then" block "else" block ["giving" atoms]
--                | "match" low "{" case { case } "}" ["giving" atoms]
--                | "retag" low "from" up "to" up | "give" low "to" low | "take" low "from" low
--                | "acquire" low | "release" low | "spawn" low "(" expression ")"
--     case       = up "->" block
--     write      = postfix "<-" comparison, where the postfix ends in a select
--     comparison = sum [ ("==" | "!=" | "<" | "<=" | ">" | ">=") sum ]
--     sum        = product { ("+" | "-") product }
--     product    = postfix { ("*" | "/" | "%") postfix }
--     postfix    = primary { select }
--     select     = "." [ up "." ] low
--     primary    = number | low | low "(" [ expression { "," expression } ] ")" | "(" ")" | "(" expression ")"
--                | up "{" [ value { ";" value } ] "}" | "newlock" "(" atoms ")"
--     value      = low "=" expression
--
-- In the atoms behind `giving` a name may be `result`, and in no others.
use Rattle.std.specs.Prelude.{Bool, true, false, List, [], ◌∷◌, ◌||◌, IsTrue}
use Rattle.mz_grammar.specs.Relations.{OneToken, Nothing, Then, Either, Image, Maybe, Many, Ended, Layered}
use Rattle.mz_token.specs.declared.token.Kind.{Kind}
use Rattle.mz_token.specs.declared.token.Token.{Token}
use Rattle.mz_token.specs.Tokens.{is_mark}
use Rattle.mz_types.specs.declared.tree.SurfaceAtom.{SurfaceAtom}
use Rattle.mz_types.specs.Grammar.{IsType, IsAtom, IsAtoms, IsClause}
use Rattle.mz_types.specs.Words.{Spelling, Low, Up, Key, Mark, number, key, mark}
use Rattle.mz_parse.specs.declared.tree.Constructor.{Constructor}
use Rattle.mz_parse.specs.declared.tree.DataDeclaration.{DataDeclaration}
use Rattle.mz_parse.specs.declared.tree.Declaration.{Declaration}
use Rattle.mz_parse.specs.declared.tree.Declaration.TheVariants as declaration
use Rattle.mz_parse.specs.declared.tree.FieldDeclaration.{FieldDeclaration}
use Rattle.mz_parse.specs.declared.tree.FunctionDeclaration.{FunctionDeclaration}
use Rattle.mz_parse.specs.declared.tree.NeedDeclaration.{NeedDeclaration}
use Rattle.mz_parse.specs.declared.tree.Parameter.{Parameter}
use Rattle.mz_parse.specs.declared.tree.SignatureDeclaration.{SignatureDeclaration}
use Rattle.mz_parse.specs.declared.bodies.Block.{Block}
use Rattle.mz_parse.specs.declared.bodies.BlockItem.{BlockItem}
use Rattle.mz_parse.specs.declared.bodies.BlockItem as item
use Rattle.mz_parse.specs.declared.bodies.Case.{Case}
use Rattle.mz_parse.specs.declared.bodies.Comparing.{Comparing}
use Rattle.mz_parse.specs.declared.bodies.Comparison.{Comparison}
use Rattle.mz_parse.specs.declared.bodies.Expression.{Expression}
use Rattle.mz_parse.specs.declared.bodies.Expression as expression
use Rattle.mz_parse.specs.declared.bodies.Factor.{Factor}
use Rattle.mz_parse.specs.declared.bodies.FieldValue.{FieldValue}
use Rattle.mz_parse.specs.declared.bodies.Postfix.{Postfix}
use Rattle.mz_parse.specs.declared.bodies.Primary.{Primary}
use Rattle.mz_parse.specs.declared.bodies.Primary as primary
use Rattle.mz_parse.specs.declared.bodies.Product.{Product}
use Rattle.mz_parse.specs.declared.bodies.Select.{Select}
use Rattle.mz_parse.specs.declared.bodies.Sum.{Sum}
use Rattle.mz_parse.specs.declared.bodies.Term.{Term}
use Rattle.mz_parse.specs.Trees.{Taken, Given, field_of, con_of, data_of, param_of, need_of, sig_of, fun_of, block_of, case_of, comparison_of, comparing_of, sum_of, term_of, product_of, factor_of, postfix_of, select_of, field_value_of, selects}

-- ---- marks of several forms

-- "*" | "/" | "%"
abbrev pub is_multiplying : Kind → Bool
is_multiplying k = is_mark 9 k || (is_mark 12 k || is_mark 13 k)

abbrev pub multiplying : Token → Bool
multiplying t = is_multiplying t.kind

-- "+" | "-"
abbrev pub is_adding : Kind → Bool
is_adding k = is_mark 10 k || is_mark 11 k

abbrev pub adding : Token → Bool
adding t = is_adding t.kind

-- "==" | "!=" | "<" | "<=" | ">" | ">="
abbrev pub is_comparing : Kind → Bool
is_comparing k = is_mark 16 k || (is_mark 17 k || (is_mark 18 k || (is_mark 19 k || (is_mark 20 k || is_mark 21 k))))

abbrev pub comparing : Token → Bool
comparing t = is_comparing t.kind

-- ---- forms of lists

-- item { separator item }
abbrev pub Separated : {A : Type 0} → (Token → Bool) → Spelling A → Spelling (List A)
Separated sep Item = Then Item (λ one. Image (λ others. one ∷ others) (Many (Then (OneToken sep) (λ separator. Item))))

-- [ item { separator item } ]
abbrev pub MaybeSeparated : {A : Type 0} → (Token → Bool) → Spelling A → Spelling (List A)
MaybeSeparated sep Item = Either (Nothing []) (Separated sep Item)

-- [ key or mark, and then items ]
abbrev pub MaybeBehind : {A : Type 0} → (Token → Bool) → Spelling (List A) → Spelling (List A)
MaybeBehind before Items = Either (Then (OneToken before) (λ word. Items)) (Nothing [])

-- those for which this holds
abbrev pub Such : {A : Type 0} → (A → Bool) → Spelling A → Spelling A
Such holds Item tokens value = Item tokens value × IsTrue (holds value)

-- ---- parts without expressions

-- "." [ up "." ] low
abbrev pub IsSelectCon : Spelling Token
IsSelectCon = Then Up (λ con. Image (λ dot. con) (Mark 7))

abbrev pub IsSelect : Spelling Select
IsSelect = Then (Mark 7) (λ dot. Then (Maybe IsSelectCon) (λ con. Image (select_of con) Low))

-- [ "giving" atoms ]
abbrev pub IsGiving : Spelling (List SurfaceAtom)
IsGiving = MaybeBehind (key 11) (IsAtoms true)

-- "retag" low "from" up "to" up
abbrev pub IsRetag : Spelling Expression
IsRetag = Then (Key 13) (λ word. Then Low (λ name. Then (Key 14) (λ begin. Then Up (λ from. Then (Key 15) (λ goal. Image (expression.Retag word name from) Up)))))

-- "give" low "to" low
abbrev pub IsGive : Spelling Expression
IsGive = Then (Key 16) (λ word. Then Low (λ name. Then (Key 15) (λ goal. Image (expression.Give word name) Low)))

-- "take" low "from" low
abbrev pub IsTake : Spelling Expression
IsTake = Then (Key 17) (λ word. Then Low (λ name. Then (Key 14) (λ begin. Image (expression.Take word name) Low)))

-- "acquire" low
abbrev pub IsAcquire : Spelling Expression
IsAcquire = Then (Key 21) (λ word. Image (expression.Acquire word) Low)

-- "release" low
abbrev pub IsRelease : Spelling Expression
IsRelease = Then (Key 22) (λ word. Image (expression.Release word) Low)

-- number
abbrev pub IsNumber : Spelling Primary
IsNumber = Image primary.Number (OneToken number)

-- low
abbrev pub IsName : Spelling Primary
IsName = Image primary.Name Low

-- "newlock" "(" atoms ")"
abbrev pub IsNewLock : Spelling Primary
IsNewLock = Then (Key 18) (λ word. Then (Mark 2) (λ opening. Then (IsAtoms false) (λ guarded. Image (λ closing. primary.NewLock word guarded) (Mark 3))))

-- ---- expressions, where X says what an expression is that stands in brackets

module _ (X : Spelling Expression) where
  -- low "(" [ expression { "," expression } ] ")"
  abbrev pub CallOver : Spelling Primary
  CallOver = Then Low (λ callee. Then (Mark 2) (λ opening. Then (MaybeSeparated (mark 6) X) (λ arguments. Image (λ closing. primary.Call callee arguments) (Mark 3))))

  -- "(" ")"
  abbrev pub UnitOver : Spelling Primary
  UnitOver = Then (Mark 2) (λ opening. Image (λ closing. primary.Unit opening) (Mark 3))

  -- "(" expression ")"
  abbrev pub GroupOver : Spelling Primary
  GroupOver = Then (Mark 2) (λ opening. Then X (λ inner. Image (λ closing. primary.Group opening inner) (Mark 3)))

  -- low "=" expression
  abbrev pub ValueOver : Spelling FieldValue
  ValueOver = Then Low (λ field. Then (Mark 8) (λ is. Image (field_value_of field) X))

  -- up "{" [ value { ";" value } ] "}"
  abbrev pub ConstructOver : Spelling Primary
  ConstructOver = Then Up (λ con. Then (Mark 0) (λ opening. Then (MaybeSeparated (mark 4) ValueOver) (λ fields. Image (λ closing. primary.Construct con fields) (Mark 1))))

  abbrev pub PrimaryOver : Spelling Primary
  PrimaryOver = Either IsNumber (Either IsName (Either CallOver (Either UnitOver (Either GroupOver (Either ConstructOver IsNewLock)))))

  -- primary { select }
  abbrev pub PostfixOver : Spelling Postfix
  PostfixOver = Then PrimaryOver (λ base. Image (postfix_of base) (Many IsSelect))

  -- postfix { ("*" | "/" | "%") postfix }
  abbrev pub FactorOver : Spelling Factor
  FactorOver = Then (OneToken multiplying) (λ mark. Image (factor_of mark) PostfixOver)

  abbrev pub ProductOver : Spelling Product
  ProductOver = Then PostfixOver (λ one. Image (product_of one) (Many FactorOver))

  -- product { ("+" | "-") product }
  abbrev pub TermOver : Spelling Term
  TermOver = Then (OneToken adding) (λ mark. Image (term_of mark) ProductOver)

  abbrev pub SumOver : Spelling Sum
  SumOver = Then ProductOver (λ one. Image (sum_of one) (Many TermOver))

  -- sum [ ("==" | "!=" | "<" | "<=" | ">" | ">=") sum ]
  abbrev pub ComparingOver : Spelling Comparing
  ComparingOver = Then (OneToken comparing) (λ mark. Image (comparing_of mark) SumOver)

  abbrev pub ComparisonOver : Spelling Comparison
  ComparisonOver = Then SumOver (λ left. Image (comparison_of left) (Maybe ComparingOver))

  -- comparison
  abbrev pub PlainOver : Spelling Expression
  PlainOver = Image expression.Plain ComparisonOver

  -- postfix "<-" comparison, where the postfix ends in a select
  abbrev pub WriteOver : Spelling Expression
  WriteOver = Then (Such selects PostfixOver) (λ target. Then (Mark 14) (λ arrow. Image (expression.Write target arrow) ComparisonOver))

  -- "print" comparison
  abbrev pub PrintOver : Spelling Expression
  PrintOver = Then (Key 24) (λ word. Image (expression.Print word) ComparisonOver)

  -- "let" low "=" expression
  abbrev pub LetOver : Spelling BlockItem
  LetOver = Then (Key 6) (λ word. Then Low (λ name. Then (Mark 8) (λ is. Image (item.Let word name) X)))

  abbrev pub ItemOver : Spelling BlockItem
  ItemOver = Either LetOver (Image item.Plain X)

  -- "{" { item ";" } [item] "}"
  abbrev pub BlockOver : Spelling Block
  BlockOver = Then (Mark 0) (λ opening. Then (Ended (mark 4) ItemOver) (λ items. Image (block_of opening items) (Mark 1)))

  -- "if" comparison "then" block "else" block ["giving" atoms]
  abbrev pub IfOver : Spelling Expression
  IfOver = Then (Key 7) (λ word. Then ComparisonOver (λ test. Then (Key 8) (λ so. Then BlockOver (λ yes. Then (Key 9) (λ otherwise. Then BlockOver (λ no. Image (expression.If word test yes no) IsGiving))))))

  -- up "->" block
  abbrev pub CaseOver : Spelling Case
  CaseOver = Then Up (λ con. Then (Mark 15) (λ arrow. Image (case_of con) BlockOver))

  -- case { case }
  abbrev pub CasesOver : Spelling (List Case)
  CasesOver = Then CaseOver (λ one. Image (λ others. one ∷ others) (Many CaseOver))

  -- "match" low "{" case { case } "}" ["giving" atoms]
  abbrev pub MatchOver : Spelling Expression
  MatchOver = Then (Key 10) (λ word. Then Low (λ name. Then (Mark 0) (λ opening. Then CasesOver (λ cases. Then (Mark 1) (λ closing. Image (expression.Match word name cases) IsGiving)))))

  -- "spawn" low "(" expression ")"
  abbrev pub SpawnOver : Spelling Expression
  SpawnOver = Then (Key 23) (λ word. Then Low (λ name. Then (Mark 2) (λ opening. Then X (λ argument. Image (λ closing. expression.Spawn word name argument) (Mark 3)))))

  abbrev pub ExpressionOver : Spelling Expression
  ExpressionOver =
      Either PlainOver
      (Either WriteOver
      (Either PrintOver
      (Either IfOver
      (Either MatchOver
      (Either IsRetag
      (Either IsGive
      (Either IsTake
      (Either IsAcquire
      (Either IsRelease
      SpawnOver)))))))))

-- an expression, with brackets in brackets as deep as may be
abbrev pub IsExpression : Spelling Expression
IsExpression = Layered ExpressionOver

abbrev pub IsBlock : Spelling Block
IsBlock = BlockOver IsExpression

-- ---- declarations

-- low ":" type
abbrev pub IsField : Spelling FieldDeclaration
IsField = Then Low (λ name. Then (Mark 5) (λ colon. Image (field_of name) (IsType false)))

-- up "{" [ field { ";" field } ] "}"
abbrev pub IsCon : Spelling Constructor
IsCon = Then Up (λ name. Then (Mark 0) (λ opening. Then (MaybeSeparated (mark 4) IsField) (λ fields. Image (λ closing. con_of name fields) (Mark 1))))

-- "data" ["mutable"] low ["adopts" low] "=" con { "|" con }
abbrev pub IsData : Spelling DataDeclaration
IsData = Then (Key 0) (λ word. Then (Maybe (Key 1)) (λ mutable. Then Low (λ name. Then (Maybe IsClause) (λ adopts. Then (Mark 8) (λ is. Image (data_of word mutable name adopts) (Separated (mark 23) IsCon))))))

-- ["consumes"] low ":" type
abbrev pub IsParam : Spelling Parameter
IsParam = Then (Maybe (Key 5)) (λ consumes. Then Low (λ name. Then (Mark 5) (λ colon. Image (param_of consumes name) (IsType false))))

-- ["consumes"] atom
abbrev pub IsNeed : Spelling NeedDeclaration
IsNeed = Then (Maybe (Key 5)) (λ consumes. Image (need_of consumes) (IsAtom false))

-- "(" [ param { "," param } ] ["|" need { "*" need }] ")"
abbrev pub IsTaken : Spelling Taken
IsTaken = Then (Mark 2) (λ opening. Then (MaybeSeparated (mark 6) IsParam) (λ params. Then (MaybeBehind (mark 23) (Separated (mark 9) IsNeed)) (λ needs. Image (λ closing. (params, needs)) (Mark 3))))

-- "(" low ":" type ["|" atoms] ")"
abbrev pub IsGiven : Spelling Given
IsGiven = Then (Mark 2) (λ opening. Then Low (λ result. Then (Mark 5) (λ colon. Then (IsType false) (λ ty. Then (MaybeBehind (mark 23) (IsAtoms false)) (λ gives. Image (λ closing. (result, ty, gives)) (Mark 3))))))

-- "sig" low "=" taken "->" given
abbrev pub IsSig : Spelling SignatureDeclaration
IsSig = Then (Key 3) (λ word. Then Low (λ name. Then (Mark 8) (λ is. Then IsTaken (λ taken. Then (Mark 15) (λ arrow. Image (sig_of word name taken) IsGiven)))))

-- "fun" low ":" low "=" block
abbrev pub IsFun : Spelling FunctionDeclaration
IsFun = Then (Key 4) (λ word. Then Low (λ name. Then (Mark 5) (λ colon. Then Low (λ sig. Then (Mark 8) (λ is. Image (fun_of word name sig) IsBlock)))))

abbrev pub IsDeclaration : Spelling Declaration
IsDeclaration = Either (Image declaration.Data IsData) (Either (Image declaration.Signature IsSig) (Image declaration.Function IsFun))

-- { data | sig | fun }
abbrev pub IsProgram : Spelling (List Declaration)
IsProgram = Many IsDeclaration
