-- Declarations, and what they come to.
use Rattle.std.specs.Prelude.{ℕ, ◌+◌, ◌==◌, Bool, false, not, List, [], ◌∷◌, ◌++◌, map, length, Option, Some, None, unwrap_or, slice_get, option_map, option_and_then}
use Rattle.std.specs.List.{range_with_len}
use Rattle.mz_tree.specs.Code.{Body}
use Rattle.mz_tree.specs.Programs.{Variety, Con, Field, Need, Sig, Fun, Program}
use Rattle.mz_scope.specs.declared.fault.Cause.TheVariants.{Twice, TooMany}
use Rattle.mz_scope.specs.Syntax.{Word, FieldTree, ConTree, DataTree, ParamTree, NeedTree, SigTree, FunTree, Declaration, Data_declaration, Sig_declaration, Fun_declaration}
use Rattle.mz_scope.specs.Names.{Names, find, numbered, Globals, TypeEntry, ConEntry, FunEntry, sig_number}
use Rattle.mz_scope.specs.Making.{CoreName, Came, Came_to, Part, ◌>>=◌, ◌>>◌, give, add_fault, fault_if, declared_or}
use Rattle.mz_scope.specs.Types.{data_by_name, flat_typed, flat_atom, flat_atoms}
use Rattle.mz_scope.specs.Bodies.{flat_block}

-- ---- a name is declared as one of a sort

-- whether an earlier declaration, with another number, has the name
abbrev pub is_other : Option ℕ → ℕ → Bool
is_other None number = false
is_other (Some first) number = not (first == number)

-- it must not be declared before, and at most so many of its sort may be
abbrev pub declares : Option ℕ → ℕ → ℕ → Word → Part (Unit {0})
declares first number most name = fault_if (is_other first number) Twice name.place >> fault_if (number == most) TooMany name.place

-- the names of a signature: its parameters are visible in all of it, its result behind the arrow
abbrev pub params_of : SigTree → Names ℕ
params_of x = numbered 0 (map (λ (p : ParamTree). p.name) x.params)

abbrev pub all_of : SigTree → Names ℕ
all_of x = params_of x ++ (x.result.text, length x.params) ∷ []

-- ---- programs

abbrev pub no_program : Program
no_program = record { varieties = []; cons = []; sigs = []; funs = []; clauses = [] }

-- ---- the body of a function

pub record FunctionBody : Type 0 where
  pub body : Body
  pub names : List CoreName

abbrev pub param_name : Word → CoreName
param_name name = record { spelling = name.text; place = name.place }

abbrev pub body_made : Came Body → Came FunctionBody
body_made (Came_to body made) = Came_to (record { body = body; names = made.names }) (record made { names = [] })

-- a body whose first core names are the parameters
abbrev pub with_params : List Word → Part Body → Part FunctionBody
with_params params part = λ made. body_made (part (record made { names = map param_name params }))

-- it has at most 256 core names
abbrev pub too_many : Option CoreName → Part (Unit {0})
too_many None = give tt
too_many (Some past) = add_fault TooMany past.place

module _ (g : Globals) where
  -- ---- data types

  -- the fields of a constructor, from number i on
  abbrev pub fields_from : Names ℕ → ℕ → List FieldTree → Part (List Field)
  fields_from scope i [] = give []
  fields_from scope i (f ∷ rest) = do
    declares (find scope f.name.text) i 32 f.name
    content ← flat_typed g scope i f.ty
    others ← fields_from scope (i + 1) rest
    give (record { name = f.name.text; content = content } ∷ others)

  -- the constructors of data type d, from number k on
  abbrev pub cons_from : ℕ → ℕ → List ConTree → Part (List Con)
  cons_from d k [] = give []
  cons_from d k (con ∷ rest) = do
    declares (option_map (λ (c : ConEntry). c.number) (find g.cons con.name.text)) k 1000 con.name
    fields ← fields_from (numbered 0 (map (λ (f : FieldTree). f.name) con.fields)) 0 con.fields
    others ← cons_from d (k + 1) rest
    give (record { name = con.name.text; variety = d; fields = fields } ∷ others)

  -- what a data type adopts, if anything
  abbrev pub adopted_by : Option Word → Part (Option ℕ)
  adopted_by None = give None
  adopted_by (Some name) = do
    d ← data_by_name g name
    give (Some d)

  -- the data type that is the n-th of data types and signatures, and whose first constructor has the number k
  abbrev pub data_type : ℕ → ℕ → DataTree → Part Variety
  data_type n k x = do
    declares (option_map (λ (t : TypeEntry). t.position) (find g.types x.name.text)) n 1000 x.name
    u ← adopted_by x.adopts
    give (record { name = x.name.text; place = x.name.place; mutable = x.mutable; adopts = u; cons = range_with_len k (length x.cons) })

  -- ---- signatures

  -- what is needed for parameters, from number i on
  abbrev pub params_from : Names ℕ → ℕ → List ParamTree → Part (List Need)
  params_from scope i [] = give []
  params_from scope i (p ∷ rest) = do
    declares (find scope p.name.text) i 32 p.name
    a ← flat_typed g scope i p.ty
    others ← params_from scope (i + 1) rest
    give (record { atom = a; consumed = p.consumed } ∷ others)

  abbrev pub needs_of : Names ℕ → List NeedTree → Part (List Need)
  needs_of scope [] = give []
  needs_of scope (need ∷ rest) = do
    a ← flat_atom g scope need.atom
    others ← needs_of scope rest
    give (record { atom = a; consumed = need.consumed } ∷ others)

  -- the signature that is the n-th of data types and signatures; its result is named after its parameters
  abbrev pub signature : ℕ → SigTree → Part Sig
  signature n x = do
    declares (option_map (λ (t : TypeEntry). t.position) (find g.types x.name.text)) n 1000 x.name
    of_params ← params_from (params_of x) 0 x.params
    others ← needs_of (params_of x) x.needs
    fault_if (is_other (find (all_of x) x.result.text) (length x.params)) Twice x.result.place
    a ← flat_typed g (all_of x) (length x.params) x.ty
    gives ← flat_atoms g (all_of x) x.gives
    give (record { name = x.name.text; count = length x.params; needs = of_params ++ others; gives = a ∷ gives })

  -- ---- functions

  -- the parameters of the signature of this name
  abbrev pub params_by_name : List ℕ → List Word
  params_by_name name = unwrap_or (option_and_then (slice_get g.params) (sig_number g.types name)) []

  -- function f
  abbrev pub function : ℕ → FunTree → Part Fun
  function f x = do
    declares (option_map (λ (one : FunEntry). one.number) (find g.funs x.name.text)) f 1000 x.name
    s ← declared_or 0 (sig_number g.types x.sig.text) x.sig.place
    made ← with_params (params_by_name x.sig.text) (flat_block g (numbered 0 (params_by_name x.sig.text)) x.block)
    too_many (slice_get made.names 256)
    give (record { name = x.name.text; sig = s; body = made.body; spelling = map (λ (n : CoreName). n.spelling) made.names })

  -- ---- all declarations, before which d data types, s signatures, k constructors and f functions stand

  abbrev pub declarations : ℕ → ℕ → ℕ → ℕ → List Declaration → Part Program
  declarations d s k f [] = give no_program
  declarations d s k f (Data_declaration x ∷ rest) = do
    v ← data_type (d + s) k x
    cons ← cons_from d k x.cons
    others ← declarations (d + 1) s (k + length x.cons) f rest
    give (record others { varieties = v ∷ others.varieties; cons = cons ++ others.cons })
  declarations d s k f (Sig_declaration x ∷ rest) = do
    one ← signature (d + s) x
    others ← declarations d (s + 1) k f rest
    give (record others { sigs = one ∷ others.sigs })
  declarations d s k f (Fun_declaration x ∷ rest) = do
    one ← function f x
    others ← declarations d s k (f + 1) rest
    give (record others { funs = one ∷ others.funs })
