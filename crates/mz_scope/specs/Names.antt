-- What is declared at the top level, as names with what they stand for. Where a name is declared twice, its first
-- declaration counts.
use Rattle.std.specs.Prelude.{ℕ, ◌+◌, List, [], ◌∷◌, ◌++◌, map, length, filter, Option, Some, None, is_some, slice_get, option_map, option_and_then}
pub use Rattle.mz_names.specs.Names.{Names, find}
use Rattle.mz_scope.specs.Syntax.{Word, FieldTree, ConTree, ParamTree, Declaration, Data_declaration, Sig_declaration, Fun_declaration}

-- words numbered in order, from n on
abbrev pub numbered : ℕ → List Word → Names ℕ
numbered n [] = []
numbered n (w ∷ rest) = (w.text, n) ∷ numbered (n + 1) rest

-- ---- data types and signatures are one sort of name

pub data TypeName : Type 0 where
  Data_name : (number : ℕ) → TypeName
  Sig_name : (number : ℕ) → TypeName

-- a name of that sort, and how many of that sort are declared before it
pub record TypeEntry : Type 0 where
  pub position : ℕ
  pub stands_for : TypeName

-- those of declarations, of which d data types and s signatures stand before
abbrev pub type_names : ℕ → ℕ → List Declaration → Names TypeEntry
type_names d s [] = []
type_names d s (Data_declaration x ∷ rest) = (x.name.text, record { position = d + s; stands_for = Data_name d }) ∷ type_names (d + 1) s rest
type_names d s (Sig_declaration x ∷ rest) = (x.name.text, record { position = d + s; stands_for = Sig_name s }) ∷ type_names d (s + 1) rest
type_names d s (Fun_declaration x ∷ rest) = type_names d s rest

-- the number of the data type, or of the signature, that a name stands for
abbrev pub data_of : TypeName → Option ℕ
data_of (Data_name number) = Some number
data_of (Sig_name number) = None

abbrev pub sig_of : TypeName → Option ℕ
sig_of (Data_name number) = None
sig_of (Sig_name number) = Some number

-- ---- constructors

-- a constructor: its number, that of its data type, and its fields by their places
pub record ConEntry : Type 0 where
  pub number : ℕ
  pub variety : ℕ
  pub fields : Names ℕ

abbrev pub con_entry : ℕ → ℕ → ConTree → ConEntry
con_entry d k con = record { number = k; variety = d; fields = numbered 0 (map (λ (f : FieldTree). f.name) con.fields) }

-- those of data type d, the first with the number k
abbrev pub con_names_in : ℕ → ℕ → List ConTree → Names ConEntry
con_names_in d k [] = []
con_names_in d k (con ∷ rest) = (con.name.text, con_entry d k con) ∷ con_names_in d (k + 1) rest

-- those of declarations, of which d data types and k constructors stand before
abbrev pub con_names : ℕ → ℕ → List Declaration → Names ConEntry
con_names d k [] = []
con_names d k (Data_declaration x ∷ rest) = con_names_in d k x.cons ++ con_names (d + 1) (k + length x.cons) rest
con_names d k (Sig_declaration x ∷ rest) = con_names d k rest
con_names d k (Fun_declaration x ∷ rest) = con_names d k rest

-- ---- signatures and functions

-- the parameters of each signature
abbrev pub param_lists : List Declaration → List (List Word)
param_lists [] = []
param_lists (Data_declaration x ∷ rest) = param_lists rest
param_lists (Sig_declaration x ∷ rest) = map (λ (p : ParamTree). p.name) x.params ∷ param_lists rest
param_lists (Fun_declaration x ∷ rest) = param_lists rest

-- a function: its number, and how many parameters its signature has, where that is declared
pub record FunEntry : Type 0 where
  pub number : ℕ
  pub params : Option ℕ

-- the number of the signature of this name
abbrev pub sig_number : Names TypeEntry → List ℕ → Option ℕ
sig_number types name = option_and_then (λ (t : TypeEntry). sig_of t.stands_for) (find types name)

-- how many parameters the signature of this name has
abbrev pub param_count : Names TypeEntry → List (List Word) → List ℕ → Option ℕ
param_count types params name = option_map length (option_and_then (slice_get params) (sig_number types name))

-- those of declarations, of which f functions stand before
abbrev pub fun_names : Names TypeEntry → List (List Word) → ℕ → List Declaration → Names FunEntry
fun_names types params f [] = []
fun_names types params f (Data_declaration x ∷ rest) = fun_names types params f rest
fun_names types params f (Sig_declaration x ∷ rest) = fun_names types params f rest
fun_names types params f (Fun_declaration x ∷ rest) = (x.name.text, record { number = f; params = param_count types params x.sig.text }) ∷ fun_names types params (f + 1) rest

-- ---- all that is declared at the top level, which is visible everywhere

pub record Globals : Type 0 where
  pub types : Names TypeEntry
  pub cons : Names ConEntry
  pub params : List (List Word)
  pub funs : Names FunEntry

abbrev pub globals_of : List Declaration → Globals
globals_of tree = record {
  types = type_names 0 0 tree;
  cons = con_names 0 0 tree;
  params = param_lists tree;
  funs = fun_names (type_names 0 0 tree) (param_lists tree) 0 tree;
}

-- the constructors with a field of this name; one that is declared twice counts as two
abbrev pub holders : Globals → List ℕ → List ConEntry
holders g field = filter (λ (c : ConEntry). is_some (find c.fields field)) (map (λ (c : List ℕ × ConEntry). c.1) g.cons)
