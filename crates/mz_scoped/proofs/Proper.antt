-- What the grammar, the tokens and the limit of brackets say of the tree of a source: names that are declared are of their
-- class, numbers are in range, lists that must have a member have one, and no type has more brackets open at once than may be.
use Rattle.std.specs.Prelude.{◌≡◌, ◌≢◌, ℕ, suc, ◌^◌, ◌≤◌, ◌<◌, List, [], ◌∷◌}
use Rattle.mz_scope.specs.Syntax.{TypeTree, AtomTree, AtomTrees, Lock_tree, Block_tree, Has_tree, Same_tree, No_atom_trees, More_atom_trees, Expr, Number_expr, Unit_expr, Name_expr, Arith_expr, Call_expr, New_expr, Read_expr, Write_expr, New_lock_expr, Print_expr, If_expr, Match_expr, Retag_expr, Give_expr, Take_expr, Acquire_expr, Release_expr, Spawn_expr, Exprs, No_exprs, More_exprs, FieldValues, No_values, More_values, Block, The_block, BlockItem, Let_item, Plain_item, BlockItems, No_items, More_items, Value, No_value, The_value, Arms, No_arms, More_arms, FieldTree, ConTree, DataTree, ParamTree, NeedTree, SigTree, FunTree, Declaration, Data_declaration, Sig_declaration, Fun_declaration}
use Rattle.mz_tree.specs.Scoped.{IsLowerName, IsUpperName}

-- something holds of each member
abbrev pub AllOf : {A : Type 0} → (A → Type 0) → List A → Type 0
AllOf P [] = Unit {0}
AllOf P (a ∷ rest) = P a × AllOf P rest

-- ---- types, where so many brackets may be open at once

abbrev mutual
  pub IsProperType : ℕ → TypeTree → Type 0
  IsProperType n (Lock_tree guarded) = (m : ℕ) × (n ≡ suc m) × (guarded ≢ No_atom_trees) × AreProperAtoms m guarded
  IsProperType n (Block_tree con fields adopts) = 1 ≤ n
  IsProperType n _ = Unit {0}

  pub IsProperAtom : ℕ → AtomTree → Type 0
  IsProperAtom n (Has_tree name ty) = IsProperType n ty
  IsProperAtom n (Same_tree left right) = Unit {0}

  pub AreProperAtoms : ℕ → AtomTrees → Type 0
  AreProperAtoms n No_atom_trees = Unit {0}
  AreProperAtoms n (More_atom_trees a rest) = IsProperAtom n a × AreProperAtoms n rest

-- ---- expressions

abbrev mutual
  pub IsProperExpr : Expr → Type 0
  IsProperExpr (Number_expr value place) = value < 2 ^ 64
  IsProperExpr (Unit_expr place) = Unit {0}
  IsProperExpr (Name_expr name) = Unit {0}
  IsProperExpr (Arith_expr left operator place right) = IsProperExpr left × IsProperExpr right
  IsProperExpr (Call_expr callee arguments) = AreProperExprs arguments
  IsProperExpr (New_expr con fields) = AreProperValues fields
  IsProperExpr (Read_expr block select) = IsProperExpr block
  IsProperExpr (Write_expr block select place value) = IsProperExpr block × IsProperExpr value
  IsProperExpr (New_lock_expr place guarded) = (guarded ≢ No_atom_trees) × AreProperAtoms 199 guarded
  IsProperExpr (Print_expr place value) = IsProperExpr value
  IsProperExpr (If_expr place test one two giving) = IsProperExpr test × IsProperBlock one × IsProperBlock two × AreProperAtoms 200 giving
  IsProperExpr (Match_expr place name arms giving) = (arms ≢ No_arms) × AreProperArms arms × AreProperAtoms 200 giving
  IsProperExpr (Retag_expr place name old new) = Unit {0}
  IsProperExpr (Give_expr place name adopter) = Unit {0}
  IsProperExpr (Take_expr place name adopter) = Unit {0}
  IsProperExpr (Acquire_expr place name) = Unit {0}
  IsProperExpr (Release_expr place name) = Unit {0}
  IsProperExpr (Spawn_expr place callee argument) = IsProperExpr argument

  pub AreProperExprs : Exprs → Type 0
  AreProperExprs No_exprs = Unit {0}
  AreProperExprs (More_exprs one rest) = IsProperExpr one × AreProperExprs rest

  pub AreProperValues : FieldValues → Type 0
  AreProperValues No_values = Unit {0}
  AreProperValues (More_values field value rest) = IsProperExpr value × AreProperValues rest

  pub IsProperBlock : Block → Type 0
  IsProperBlock (The_block items value brace) = AreProperItems items × IsProperValue value

  pub IsProperItem : BlockItem → Type 0
  IsProperItem (Let_item name value) = (name.text ≢ []) × IsProperExpr value
  IsProperItem (Plain_item value) = IsProperExpr value

  pub AreProperItems : BlockItems → Type 0
  AreProperItems No_items = Unit {0}
  AreProperItems (More_items one rest) = IsProperItem one × AreProperItems rest

  pub IsProperValue : Value → Type 0
  IsProperValue No_value = Unit {0}
  IsProperValue (The_value value) = IsProperExpr value

  pub AreProperArms : Arms → Type 0
  AreProperArms No_arms = Unit {0}
  AreProperArms (More_arms con block rest) = IsProperBlock block × AreProperArms rest

-- ---- declarations

abbrev pub IsProperField : FieldTree → Type 0
IsProperField f = IsLowerName f.name.text × IsProperType 200 f.ty

abbrev pub IsProperCon : ConTree → Type 0
IsProperCon c = IsUpperName c.name.text × AllOf IsProperField c.fields

abbrev pub IsProperData : DataTree → Type 0
IsProperData x = IsLowerName x.name.text × (x.cons ≢ []) × AllOf IsProperCon x.cons

abbrev pub IsProperSig : SigTree → Type 0
IsProperSig x = IsLowerName x.name.text
    × AllOf (λ (p : ParamTree). IsProperType 200 p.ty) x.params
    × AllOf (λ (n : NeedTree). IsProperAtom 200 n.atom) x.needs
    × IsProperType 200 x.ty
    × AreProperAtoms 200 x.gives

abbrev pub IsProperFun : FunTree → Type 0
IsProperFun x = IsLowerName x.name.text × IsProperBlock x.block

abbrev pub IsProper : Declaration → Type 0
IsProper (Data_declaration x) = IsProperData x
IsProper (Sig_declaration x) = IsProperSig x
IsProper (Fun_declaration x) = IsProperFun x
