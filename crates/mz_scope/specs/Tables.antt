-- The tables of what is declared at the top level: lists in order, and maps that have the first declaration of each name.
use Rattle.std.specs.Prelude.{◌≡◌, ℕ, ◌+◌, ◌==◌, ◌||◌, not, Bool, false, Vec, List, [], ◌∷◌, ◌++◌, map, length, Option, Some, None, if◌then◌else◌, is_some}
use Rattle.std.specs.List.{list_any}
use Rattle.std.specs.Str.{bytes_eq}
use Rattle.std.specs.BTreeMap.{BTreeMap}
use Rattle.mz_scope.specs.declared.entries.TypeName.{TypeName as CodeTypeName}
use Rattle.mz_scope.specs.declared.entries.TypeName.TheVariants.{Data, Sig}
use Rattle.mz_scope.specs.declared.entries.TypeEntry.{TypeEntry as CodeTypeEntry}
use Rattle.mz_scope.specs.declared.entries.NamedType.{NamedType}
use Rattle.mz_scope.specs.declared.entries.TypeTable.{TypeTable}
use Rattle.mz_scope.specs.declared.entries.Param.{Param}
use Rattle.mz_scope.specs.declared.entries.FunEntry.{FunEntry as CodeFunEntry}
use Rattle.mz_scope.specs.declared.entries.NamedFun.{NamedFun}
use Rattle.mz_scope.specs.declared.entries.FunTable.{FunTable}
use Rattle.mz_scope.specs.declared.entries.Holder.{Holder}
use Rattle.mz_scope.specs.declared.con_entry.NamedCon.{NamedCon}
use Rattle.mz_scope.specs.declared.con_entry.ConTable.{ConTable}
use Rattle.mz_scope.specs.Syntax.{Word, ConTree, FunTree, Declaration}
use Rattle.mz_scope.specs.Names.{Names, find, TypeName, Data_name, Sig_name, TypeEntry, ConEntry, FunEntry, type_names, con_names, con_names_in, con_entry, param_count}
use Rattle.mz_scope.specs.NameMaps.{found, Maps}

-- ---- data types and signatures

abbrev pub type_name_of : CodeTypeName → TypeName
type_name_of (Data number) = Data_name number
type_name_of (Sig number) = Sig_name number

abbrev pub type_entry_of : CodeTypeEntry → TypeEntry
type_entry_of e = record { position = e.position; stands_for = type_name_of e.stands_for }

abbrev pub type_names_in : List NamedType → Names CodeTypeEntry
type_names_in list = map (λ (t : NamedType). (t.name, t.entry)) list

abbrev pub types_in : List NamedType → Names TypeEntry
types_in list = map (λ (t : NamedType). (t.name, type_entry_of t.entry)) list

abbrev pub IsTypeTable : TypeTable → Type 0
IsTypeTable t = Maps t.first.first (type_names_in t.list)

-- one more of them, the position of which is their number so far
pub record AddsType (old : TypeTable) (name : List ℕ) (stands_for : CodeTypeName) (new : TypeTable) : Type 0 where
  pub kept : IsTypeTable new
  pub list : types_in new.list ≡ types_in old.list ++ (name, record { position = length old.list; stands_for = type_name_of stands_for }) ∷ []
  pub size : length new.list ≡ length old.list + 1

-- one more declaration, where d data types and s signatures stood before
pub record AddsTypes (d s : ℕ) (old : TypeTable) (declaration : Declaration) (e t : ℕ) (new : TypeTable) : Type 0 where
  pub kept : IsTypeTable new
  pub list : length old.list ≡ d + s → (rest : List Declaration) → types_in new.list ++ type_names e t rest ≡ types_in old.list ++ type_names d s (declaration ∷ rest)
  pub size : length old.list ≡ d + s → length new.list ≡ e + t

-- ---- parameters of signatures

abbrev pub param_word : Param → Word
param_word p = record { text = p.name; place = p.place }

abbrev pub params_in : List (List Param) → List (List Word)
params_in lists = map (map param_word) lists

-- ---- functions

abbrev pub fun_entry_of : CodeFunEntry → FunEntry
fun_entry_of e = record { number = e.number; params = e.params }

abbrev pub fun_names_in : List NamedFun → Names CodeFunEntry
fun_names_in list = map (λ (f : NamedFun). (f.name, f.entry)) list

abbrev pub funs_in : List NamedFun → Names FunEntry
funs_in list = map (λ (f : NamedFun). (f.name, fun_entry_of f.entry)) list

abbrev pub IsFunTable : FunTable → Type 0
IsFunTable t = Maps t.first.first (fun_names_in t.list)

-- ---- constructors

abbrev pub cons_in : List NamedCon → Names ConEntry
cons_in list = map (λ (c : NamedCon). (c.name, c.con)) list

-- the places of names in a list, from n on
abbrev pub places_in : {A : Type 0} → ℕ → Names A → Names ℕ
places_in n [] = []
places_in n (one ∷ rest) = (one.0, n) ∷ places_in (n + 1) rest

abbrev pub has_field : List ℕ → List ℕ × ConEntry → Bool
has_field field c = is_some (find c.1.fields field)

-- the place of the first constructor with a field, and whether there is another, in a list from place n on
abbrev pub holder_from : ℕ → Names ConEntry → List ℕ → Option Holder
holder_from n [] field = None
holder_from n (c ∷ rest) field = if has_field field c then Some (record { place = n; shared = list_any (has_field field) rest }) else holder_from (n + 1) rest field

pub record IsConTable (t : ConTable) : Type 0 where
  pub first : Maps t.first.first (places_in 0 (cons_in t.list))
  pub holders : (field : List ℕ) → found t.holders.first field ≡ holder_from 0 (cons_in t.list) field

-- the constructor at place k has a field, too
abbrev pub marked : ℕ → Option Holder → Option Holder
marked k None = Some (record { place = k; shared = false })
marked k (Some h) = Some (record { place = h.place; shared = h.shared || not (h.place == k) })

abbrev pub Marks : {Y : Type 0} → BTreeMap (Vec ℕ Y) Holder → ℕ → List ℕ → BTreeMap (Vec ℕ Y) Holder → Type 0
Marks old k name new = (field : List ℕ) → found new field ≡ (if bytes_eq name field then marked k (found old field) else found old field)

-- the constructor at place k has fields of these names, too: what that makes of a field
abbrev pub marked_all : ℕ → List (List ℕ) → List ℕ → Option Holder → Option Holder
marked_all k [] field o = o
marked_all k (name ∷ rest) field o = marked_all k rest field (if bytes_eq name field then marked k o else o)

-- one more constructor, of data type d
pub record AddsCon (d : ℕ) (old : ConTable) (con : ConTree) (new : ConTable) : Type 0 where
  pub kept : IsConTable new
  pub list : cons_in new.list ≡ cons_in old.list ++ (con.name.text, con_entry d (length old.list) con) ∷ []
  pub size : length new.list ≡ length old.list + 1

-- the constructors of data type d
pub record AddsConsOf (d : ℕ) (old : ConTable) (cons : List ConTree) (new : ConTable) : Type 0 where
  pub kept : IsConTable new
  pub list : cons_in new.list ≡ cons_in old.list ++ con_names_in d (length old.list) cons
  pub size : length new.list ≡ length old.list + length cons

-- one more declaration, where d data types stood before
pub record AddsCons (d : ℕ) (old : ConTable) (declaration : Declaration) (e : ℕ) (new : ConTable) : Type 0 where
  pub kept : IsConTable new
  pub list : (rest : List Declaration) → cons_in new.list ++ con_names e (length new.list) rest ≡ cons_in old.list ++ con_names d (length old.list) (declaration ∷ rest)

-- one more function, where these types and parameters are declared
pub record AddsFun (types : Names TypeEntry) (params : List (List Word)) (old : FunTable) (function : FunTree) (new : FunTable) : Type 0 where
  pub kept : IsFunTable new
  pub list : funs_in new.list ≡ funs_in old.list ++ (function.name.text, record { number = length old.list; params = param_count types params function.sig.text }) ∷ []
  pub size : length new.list ≡ length old.list + 1
