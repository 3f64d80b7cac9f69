-- What holds of each program that was read: its numbers are in range, its names are bound and numbered in order, its shapes
-- fit and its limits are kept. Later parts of the checker ask this of a program.
use Rattle.std.specs.Prelude.{◌≡◌, ◌≢◌, ℕ, ◌+◌, ◌^◌, ◌<◌, ◌≤◌, ◌==◌, ◌&&◌, max, true, List, [], ◌∷◌, ◌++◌, map, length, flat_map, Option, Some, None, IfSome, codes, slice_get, count_by}
use Rattle.std.specs.List.{list_any, range_with_len}
use Rattle.std.specs.Str.{bytes_eq}
use Rattle.mz_tree.specs.Plain.{Ty, Atom, Atoms, Named_type, Function_type, Block_type, Lock_type, Has_atom, Same_atom, No_atoms, More_atoms}
use Rattle.mz_tree.specs.Code.{Op, Command, Commands, Case, Cases, Body, Int_op, Unit_op, Fun_op, Copy_op, Arith_op, New_op, Read_op, Write_op, Retag_op, If_op, Match_op, Call_op, Give_op, Take_op, New_lock_op, Acquire_op, Release_op, Spawn_op, Print_op, The_command, No_commands, More_commands, The_case, No_cases, More_cases, The_body}
use Rattle.mz_tree.specs.Programs.{Variety, Con, Field, Need, Sig, Fun, Clause, Program}
use Rattle.mz_tree.specs.Shapes.{shape_of, Lower_shape, Upper_shape}
use Rattle.mz_tree.specs.Spellings.{key_texts, number_in}
use Rattle.mz_tree.specs.Main.{has_main}

-- something holds of each member with its place in the list
abbrev pub Each : {A : Type 0} → (ℕ → A → Type 0) → List A → Type 0
Each P all = (k : ℕ) (a : _) → slice_get all k ≡ Some a → P k a

-- the place of a name in a list is that of no other member with that name
abbrev pub AreApart : {A : Type 0} → (A → List ℕ) → List A → Type 0
AreApart name all = (j k : ℕ) (a b : _) → slice_get all j ≡ Some a → slice_get all k ≡ Some b → name a ≡ name b → j ≡ k

-- a lower name that is no key, of at most 64 bytes
pub record IsLowerName (name : List ℕ) : Type 0 where
  pub lower : shape_of name ≡ Some Lower_shape
  pub no_key : number_in key_texts name ≡ None
  pub short : length name ≤ 64

-- an upper name, of at most 64 bytes
pub record IsUpperName (name : List ℕ) : Type 0 where
  pub upper : shape_of name ≡ Some Upper_shape
  pub short : length name ≤ 64

-- ---- names in scope

-- a core name; a function's, where it was bound by the function's name alone, as by the callee of a call
pub record Bound : Type 0 where
  pub name : ℕ
  pub function : Option ℕ

abbrev pub Scope : Type 0
Scope = List Bound

abbrev pub IsBound : Scope → ℕ → Type 0
IsBound scope name = list_any (λ (b : Bound). b.name == name) scope ≡ true

abbrev pub AreBound : Scope → List ℕ → Type 0
AreBound scope names = Each (λ _ name. IsBound scope name) names

-- the names from 0 on
abbrev pub names_below : ℕ → Scope
names_below count = map (λ n. record { name = n; function = None }) (range_with_len 0 count)

-- ---- brackets of a type that are open at once

abbrev mutual
  pub depth_of : Ty ℕ → ℕ
  depth_of (Block_type con fields adopts) = 1
  depth_of (Lock_type guarded) = 1 + depth_in guarded
  depth_of _ = 0

  pub atom_depth : Atom ℕ → ℕ
  atom_depth (Has_atom x t) = depth_of t
  atom_depth (Same_atom x y) = 0

  pub depth_in : Atoms ℕ → ℕ
  depth_in No_atoms = 0
  depth_in (More_atoms a rest) = max (atom_depth a) (depth_in rest)

-- ---- structural types that adopt: their constructors with what they adopt

abbrev mutual
  pub adopting : Ty ℕ → List (ℕ × ℕ)
  adopting (Block_type con fields (Some d)) = (con, d) ∷ []
  adopting (Lock_type guarded) = adopting_in guarded
  adopting _ = []

  pub adopting_atom : Atom ℕ → List (ℕ × ℕ)
  adopting_atom (Has_atom x t) = adopting t
  adopting_atom (Same_atom x y) = []

  pub adopting_in : Atoms ℕ → List (ℕ × ℕ)
  adopting_in No_atoms = []
  adopting_in (More_atoms a rest) = adopting_atom a ++ adopting_in rest

abbrev pub adopting_atoms : List (Atom ℕ) → List (ℕ × ℕ)
adopting_atoms atoms = flat_map adopting_atom atoms

abbrev mutual
  pub adopting_body : Body → List (ℕ × ℕ)
  adopting_body (The_body commands value place) = adopting_commands commands

  pub adopting_commands : Commands → List (ℕ × ℕ)
  adopting_commands No_commands = []
  adopting_commands (More_commands c rest) = adopting_command c ++ adopting_commands rest

  pub adopting_command : Command → List (ℕ × ℕ)
  adopting_command (The_command to op place) = adopting_op op

  pub adopting_op : Op → List (ℕ × ℕ)
  adopting_op (If_op test one two giving) = adopting_body one ++ adopting_body two ++ adopting_atoms giving
  adopting_op (Match_op block d cases giving) = adopting_cases cases ++ adopting_atoms giving
  adopting_op (New_lock_op guarded) = adopting_atoms guarded
  adopting_op _ = []

  pub adopting_cases : Cases → List (ℕ × ℕ)
  adopting_cases No_cases = []
  adopting_cases (More_cases one rest) = adopting_case one ++ adopting_cases rest

  pub adopting_case : Case → List (ℕ × ℕ)
  adopting_case (The_case con body) = adopting_body body

abbrev pub all_adopting : Program → List (ℕ × ℕ)
all_adopting p = flat_map (λ (c : Con). flat_map (λ (f : Field). adopting_atom f.content) c.fields) p.cons
    ++ flat_map (λ (s : Sig). flat_map (λ (n : Need). adopting_atom n.atom) s.needs ++ adopting_atoms s.gives) p.sigs
    ++ flat_map (λ (f : Fun). adopting_body f.body) p.funs

abbrev pub IsPairAmong : List (ℕ × ℕ) → ℕ → ℕ → Type 0
IsPairAmong pairs con d = list_any (λ (one : ℕ × ℕ). (one.0 == con) && (one.1 == d)) pairs ≡ true

-- ---- how many core names stand before the next command: each command binds one after its bodies

abbrev mutual
  pub names_after : ℕ → Body → ℕ
  names_after n (The_body commands value place) = after_commands n commands

  pub after_commands : ℕ → Commands → ℕ
  after_commands n No_commands = n
  after_commands n (More_commands c rest) = after_commands (after_command n c) rest

  pub after_command : ℕ → Command → ℕ
  after_command n (The_command to op place) = after_op n op + 1

  pub after_op : ℕ → Op → ℕ
  after_op n (If_op test one two giving) = names_after (names_after n one) two
  after_op n (Match_op block d cases giving) = after_cases n cases
  after_op n _ = n

  pub after_cases : ℕ → Cases → ℕ
  after_cases n No_cases = n
  after_cases n (More_cases one rest) = after_cases (after_case n one) rest

  pub after_case : ℕ → Case → ℕ
  after_case n (The_case con body) = names_after n body

-- the constructors of a match's cases
abbrev pub case_cons : Cases → List ℕ
case_cons No_cases = []
case_cons (More_cases (The_case con body) rest) = con ∷ case_cons rest

module _ (p : Program) where
  -- ---- constructors

  -- a constructor with so many fields
  pub record HasFields (con count : ℕ) : Type 0 where
    pub found : Con
    pub declared : slice_get p.cons con ≡ Some found
    pub fields : length found.fields ≡ count

  -- a constructor with a field of this number
  pub record HasField (con field : ℕ) : Type 0 where
    pub found : Con
    pub declared : slice_get p.cons con ≡ Some found
    pub within : field < length found.fields

  -- two constructors with equally many fields
  pub record AreAlike (old new : ℕ) : Type 0 where
    pub count : ℕ
    pub before : HasFields old count
    pub after : HasFields new count

  -- a constructor of data type d
  pub record IsConOf (d con : ℕ) : Type 0 where
    pub found : Con
    pub declared : slice_get p.cons con ≡ Some found
    pub same : found.variety ≡ d

  -- ---- types and atoms

  -- a type fits the declarations: its numbers are declared, a block has as many fields as its constructor, a lock guards
  -- something; and each name in it is known
  abbrev mutual
    pub FitsType : (ℕ → Type 0) → Ty ℕ → Type 0
    FitsType Known (Named_type d) = d < length p.varieties
    FitsType Known (Function_type s) = s < length p.sigs
    FitsType Known (Block_type con fields adopts) = HasFields con (length fields) × Each (λ _ name. Known name) fields × IfSome adopts (λ d. d < length p.varieties)
    FitsType Known (Lock_type guarded) = (guarded ≢ No_atoms) × FitsAtoms Known guarded
    FitsType Known _ = Unit {0}

    pub FitsAtom : (ℕ → Type 0) → Atom ℕ → Type 0
    FitsAtom Known (Has_atom x t) = Known x × FitsType Known t
    FitsAtom Known (Same_atom x y) = Known x × Known y

    pub FitsAtoms : (ℕ → Type 0) → Atoms ℕ → Type 0
    FitsAtoms Known No_atoms = Unit {0}
    FitsAtoms Known (More_atoms a rest) = FitsAtom Known a × FitsAtoms Known rest

  -- a permission that fits, with at most 200 brackets open at once
  abbrev pub IsLawful : (ℕ → Type 0) → Atom ℕ → Type 0
  IsLawful Known a = FitsAtom Known a × (atom_depth a ≤ 200)

  -- the names that are known in a scope are those that are bound there
  abbrev pub IsType : Scope → Ty ℕ → Type 0
  IsType scope t = FitsType (IsBound scope) t

  abbrev pub IsAtom : Scope → Atom ℕ → Type 0
  IsAtom scope a = FitsAtom (IsBound scope) a

  abbrev pub AreGuarded : Scope → Atoms ℕ → Type 0
  AreGuarded scope guarded = FitsAtoms (IsBound scope) guarded

  -- an atom, with at most so many brackets open at once
  abbrev pub IsAtomWithin : ℕ → Scope → Atom ℕ → Type 0
  IsAtomWithin most scope a = IsAtom scope a × (atom_depth a ≤ most)

  abbrev pub AreAtomsWithin : ℕ → Scope → List (Atom ℕ) → Type 0
  AreAtomsWithin most scope atoms = Each (λ _ a. IsAtomWithin most scope a) atoms

  -- ---- bodies

  -- what the callee of a call is, where it is a function's name itself: that function's signature has so many parameters
  pub record Takes (function count : ℕ) : Type 0 where
    pub fun : Fun
    pub declared : slice_get p.funs function ≡ Some fun
    pub sig : Sig
    pub signed : slice_get p.sigs fun.sig ≡ Some sig
    pub same : sig.count ≡ count

  abbrev pub FitsBound : Bound → ℕ → Type 0
  FitsBound b count = IfSome b.function (λ f. Takes f count)

  abbrev pub FitsCall : Scope → ℕ → ℕ → Type 0
  FitsCall scope callee count = Each (λ _ (b : Bound). b.name ≡ callee → FitsBound b count) scope

  -- the cases name each constructor of data type d once, and no other
  pub record AreAll (d : ℕ) (cons : List ℕ) : Type 0 where
    pub only : Each (λ _ con. IsConOf d con) cons
    pub once : (con : ℕ) → IsConOf d con → count_by (λ k. k == con) cons ≡ 1

  -- how the source spells the names of the function
  module _ (spelling : List (List ℕ)) where
    -- a function's name that got no name of its own
    abbrev pub unspelled : Option (List ℕ) → ℕ → Option ℕ
    unspelled (Some []) f = Some f
    unspelled _ f = None

    abbrev pub function_in : ℕ → Op → Option ℕ
    function_in to (Fun_op f) = unspelled (slice_get spelling to) f
    function_in to _ = None

    abbrev pub bound_by : ℕ → Op → Bound
    bound_by to op = record { name = to; function = function_in to op }

    abbrev pub with_bound : Scope → Command → Scope
    with_bound scope (The_command to op place) = bound_by to op ∷ scope

    abbrev mutual
      -- a body in a scope, where n core names stand before its commands
      pub IsBody : Scope → ℕ → Body → Type 0
      IsBody scope n (The_body commands value place) = AreCommands scope n value commands

      -- commands, and then the body's value
      pub AreCommands : Scope → ℕ → ℕ → Commands → Type 0
      AreCommands scope n value No_commands = IsBound scope value
      AreCommands scope n value (More_commands c rest) = IsCommand scope n c × AreCommands (with_bound scope c) (after_command n c) value rest

      pub IsCommand : Scope → ℕ → Command → Type 0
      IsCommand scope n (The_command to op place) = (to ≡ after_op n op) × IsOp scope n to op

      -- what a command does that binds the name `to`; a number is a u64
      pub IsOp : Scope → ℕ → ℕ → Op → Type 0
      IsOp scope n to (Int_op value) = value < 2 ^ 64
      IsOp scope n to Unit_op = Unit {0}
      IsOp scope n to (Fun_op f) = f < length p.funs
      IsOp scope n to (Copy_op x) = IsBound scope x
      IsOp scope n to (Arith_op operator x y) = IsBound scope x × IsBound scope y
      IsOp scope n to (New_op con fields) = HasFields con (length fields) × AreBound scope fields
      IsOp scope n to (Read_op block con field) = IsBound scope block × HasField con field
      IsOp scope n to (Write_op block con field x) = IsBound scope block × HasField con field × IsBound scope x
      IsOp scope n to (Retag_op block old new) = IsBound scope block × AreAlike old new
      IsOp scope n to (If_op test one two giving) = IsBound scope test × IsBody scope n one × IsBody scope (names_after n one) two
          × AreAtomsWithin 200 (record { name = to; function = None } ∷ scope) giving
      IsOp scope n to (Match_op block d cases giving) = IsBound scope block × (d < length p.varieties) × AreAll d (case_cons cases) × AreCases scope n cases
          × AreAtomsWithin 200 (record { name = to; function = None } ∷ scope) giving
      IsOp scope n to (Call_op callee args) = IsBound scope callee × AreBound scope args × FitsCall scope callee (length args)
      IsOp scope n to (Give_op block adopter) = IsBound scope block × IsBound scope adopter
      IsOp scope n to (Take_op block adopter) = IsBound scope block × IsBound scope adopter
      IsOp scope n to (New_lock_op guarded) = (guarded ≢ []) × AreAtomsWithin 199 scope guarded
      IsOp scope n to (Acquire_op lock) = IsBound scope lock
      IsOp scope n to (Release_op lock) = IsBound scope lock
      IsOp scope n to (Spawn_op callee arg) = IsBound scope callee × IsBound scope arg × FitsCall scope callee 1
      IsOp scope n to (Print_op x) = IsBound scope x

      pub AreCases : Scope → ℕ → Cases → Type 0
      AreCases scope n No_cases = Unit {0}
      AreCases scope n (More_cases one rest) = IsCase scope n one × AreCases scope (after_case n one) rest

      pub IsCase : Scope → ℕ → Case → Type 0
      IsCase scope n (The_case con body) = IsBody scope n body

  -- ---- declarations

  -- data type d: what it adopts, and its constructors, of which it has at least one
  pub record IsVariety (d : ℕ) (v : Variety) : Type 0 where
    pub name : IsLowerName v.name
    pub adopts : IfSome v.adopts (λ u. u < length p.varieties)
    pub some : 0 < length v.cons
    pub only : Each (λ _ con. IsConOf d con) v.cons
    pub once : (con : ℕ) → IsConOf d con → count_by (λ k. k == con) v.cons ≡ 1

  pub record IsField (count : ℕ) (f : Field) : Type 0 where
    pub name : IsLowerName f.name
    pub content : IsAtomWithin 200 (names_below count) f.content

  pub record IsCon (c : Con) : Type 0 where
    pub name : IsUpperName c.name
    pub variety : c.variety < length p.varieties
    pub fields : Each (λ _ f. IsField (length c.fields) f) c.fields
    pub apart : AreApart (λ (f : Field). f.name) c.fields
    pub few : length c.fields ≤ 32

  pub record IsSig (s : Sig) : Type 0 where
    pub name : IsLowerName s.name
    pub needs : Each (λ _ (n : Need). IsAtomWithin 200 (names_below s.count) n.atom) s.needs
    pub gives : AreAtomsWithin 200 (names_below (s.count + 1)) s.gives
    pub few : s.count ≤ 32

  pub record IsFun (f : Fun) : Type 0 where
    pub name : IsLowerName f.name
    pub sig : Sig
    pub signed : slice_get p.sigs f.sig ≡ Some sig
    pub body : IsBody f.spelling (names_below sig.count) sig.count f.body
    pub spelled : length f.spelling ≡ names_after sig.count f.body
    pub few : length f.spelling ≤ 256

  -- the clauses name the constructor and what is adopted of each structural type that adopts, and of no other
  pub record AreClauses : Type 0 where
    pub written : Each (λ _ (c : Clause). IsPairAmong (all_adopting p) c.con c.adopts) p.clauses
    pub all : Each (λ _ (one : ℕ × ℕ). IsPairAmong (map (λ (c : Clause). (c.con, c.adopts)) p.clauses) one.0 one.1) (all_adopting p)

-- a program as it is read
pub record Scoped (p : Program) : Type 0 where
  pub varieties : Each (IsVariety p) p.varieties
  pub cons : Each (λ _ c. IsCon p c) p.cons
  pub sigs : Each (λ _ s. IsSig p s) p.sigs
  pub funs : Each (λ _ f. IsFun p f) p.funs
  pub clauses : AreClauses p
  -- names of one sort are different
  pub types_apart : AreApart (λ name. name) (map (λ (v : Variety). v.name) p.varieties ++ map (λ (s : Sig). s.name) p.sigs)
  pub cons_apart : AreApart (λ (c : Con). c.name) p.cons
  -- just one function is `main`, and its signature has no parameter
  pub one_main : count_by (λ (f : Fun). bytes_eq f.name (codes "main")) p.funs ≡ 1
  pub begins : has_main p ≡ true
  -- the limits
  pub few_types : length p.varieties + length p.sigs ≤ 1000
  pub few_cons : length p.cons ≤ 1000
  pub few_funs : length p.funs ≤ 1000
