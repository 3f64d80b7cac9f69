-- What the names of the top level stand for in a program, and what a part adds to what is made.
use Rattle.std.specs.Prelude.{◌≡◌, ℕ, ◌<◌, List, ◌++◌, map, length, Some}
use Rattle.mz_tree.specs.Programs.{Clause, Program}
use Rattle.mz_scope.specs.Names.{Names, find, Globals, TypeEntry, Data_name, Sig_name, ConEntry, FunEntry}
use Rattle.mz_scope.specs.Making.{Made}
use Rattle.mz_tree.specs.Scoped.{Scope, IsBound, Each, HasFields, IsConOf, Takes}

module _ (p : Program) where
  -- a constructor's entry tells its data type and its fields
  pub record IsEntry (c : ConEntry) : Type 0 where
    pub fields : HasFields p c.number (length c.fields)
    pub variety : IsConOf p c.variety c.number
    pub within : c.variety < length p.varieties
    pub places : (name : List ℕ) (i : ℕ) → find c.fields name ≡ Some i → i < length c.fields

  -- the names of the top level stand for what the program declares
  pub record Grounds (g : Globals) : Type 0 where
    pub data_types : (name : List ℕ) (t : TypeEntry) (d : ℕ) → find g.types name ≡ Some t → t.stands_for ≡ Data_name d → d < length p.varieties
    pub sigs : (name : List ℕ) (t : TypeEntry) (s : ℕ) → find g.types name ≡ Some t → t.stands_for ≡ Sig_name s → s < length p.sigs
    -- the entries of constructors are in the order of their numbers, one for each constructor
    pub cons : Each (λ k (one : List ℕ × ConEntry). (one.1.number ≡ k) × IsEntry one.1) g.cons
    pub all : length g.cons ≡ length p.cons
    pub funs : (name : List ℕ) (f : FunEntry) → find g.funs name ≡ Some f → (count : ℕ) × (f.params ≡ Some count) × Takes p f.number count

-- the names of a scope are bound
abbrev pub AreIn : Scope → Names ℕ → Type 0
AreIn here scope = (name : List ℕ) (x : ℕ) → find scope name ≡ Some x → IsBound here x

-- the constructors of clauses with what is adopted
abbrev pub pairs_of : List Clause → List (ℕ × ℕ)
pairs_of clauses = map (λ (c : Clause). (c.con, c.adopts)) clauses

-- nothing more is made but clauses with these pairs
pub record Adds (pairs : List (ℕ × ℕ)) (old new : Made) : Type 0 where
  pub commands : new.commands ≡ old.commands
  pub names : new.names ≡ old.names
  pub clauses : pairs_of new.clauses ≡ pairs_of old.clauses ++ pairs
