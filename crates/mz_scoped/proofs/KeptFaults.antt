-- No part of a source takes a fault back: where there is none after it, there was none before it.
use Rattle.std.proofs.Common.{◌≡◌, ℕ, Bool, true, List, [], ◌∷◌, Option, Some, None}
use Rattle.mz_tree.specs.declared.types.Place.{Place}
use Rattle.mz_tree.specs.Code.{Op}
use Rattle.mz_tree.specs.Programs.{Clause}
use Rattle.mz_scope.specs.Syntax.{Word, FieldName, TypeTree, AtomTree, AtomTrees, Int_tree, Unknown_tree, Dynamic_tree, Locked_tree, Equal_tree, Named_tree, Lock_tree, Block_tree, Has_tree, Same_tree, No_atom_trees, More_atom_trees}
use Rattle.mz_scope.specs.Names.{Names, find, Globals, ConEntry}
use Rattle.mz_scope.specs.Making.{Made, Came, Came_to, Part, ◌>>=◌, ◌>>◌, goes_on, give, add_command, next_name, add_clause, add_fault, fault_if, declared_or}
use Rattle.mz_scope.specs.Types.{is_field, are_fields, name_in, con_by_name, adopted, flat_field_names, flat_typed, flat_atom, flat_atoms}
use Rattle.mz_scoped.proofs.Goes.{made_in, Goes, not_so, is_declared}

-- where there is no fault after the part, there was none before it
pub record Keeps {A : Type 0} (part : Part A) : Type 0 where
  pub clean : (m : Made) → (made_in (part m)).faults ≡ [] → m.faults ≡ []

-- of such a part nothing more is known
pub kept_goes : {A : Type 0} {part : Part A} → Keeps part → Goes (λ _. Unit {0}) part (λ _ _. Unit {0})
kept_goes keeps = record {
  clean = keeps.clean;
  leads = λ m none p. tt;
}

-- ---- parts that are put together

module _ {A B : Type 0} {part : Part A} {next : A → Part B} (first : Keeps part) (rest : (a : A) → Keeps (next a)) where
  between : (c : Came A) → (made_in (goes_on next c)).faults ≡ [] → (made_in c).faults ≡ []
  between (Came_to a made) none = (rest a).clean made none

  -- one part, and then the next with its value
  pub kept_then : Keeps (part >>= next)
  kept_then = record { clean = λ m none. first.clean m (between (part m) none) }

-- one part, and then the next
pub kept_and : {A B : Type 0} {part : Part A} {next : Part B} → Keeps part → Keeps next → Keeps (part >> next)
kept_and {part = part} {next = next} first rest = record { clean = (kept_then {part = part} {next = λ _. next} first (λ _. rest)).clean }

-- ---- what parts make

-- a value alone
pub kept_give : {A : Type 0} (a : A) → Keeps (give a)
kept_give a = record { clean = λ m none. none }

-- a command
pub kept_command : (place : Place) (op : Op) → Keeps (add_command place op)
kept_command place op = record { clean = λ m none. none }

-- the next name's number
pub kept_next : Keeps next_name
kept_next = record { clean = λ m none. none }

-- an `adopts`
pub kept_clause : (c : Clause) → Keeps (add_clause c)
kept_clause c = record { clean = λ m none. none }

-- a fault, or none
pub kept_if : (b : Bool) (cause : _) (place : Place) → Keeps (fault_if b cause place)
kept_if b cause place = record { clean = (not_so {P = λ _. Unit {0}} b cause place).clean }

-- a fault more
pub kept_fault : (cause : _) (place : Place) → Keeps (add_fault cause place)
kept_fault cause place = record { clean = (not_so {P = λ _. Unit {0}} true cause place).clean }

-- a name that is declared, or a fault
pub kept_declared : {A : Type 0} (other : A) (o : Option A) (place : Place) → Keeps (declared_or other o place)
kept_declared other o place = record { clean = (is_declared {P = λ _. Unit {0}} other o place).clean }

-- ---- types and atoms

-- a name of a scope
pub kept_name_in : (scope : Names ℕ) (name : Word) → Keeps (name_in scope name)
kept_name_in scope name = kept_declared 0 (find scope name.text) name.place

-- a constructor by its name
pub kept_con : (g : Globals) (name : Word) → Keeps (con_by_name g name)
kept_con g name = kept_declared _ _ name.place

-- a written field
pub kept_field : (con : Option ConEntry) (field : Word) → Keeps (is_field con field)
kept_field None field = kept_give tt
kept_field (Some con) field = kept_if _ _ _

-- the written fields together
pub kept_fields : (con : Option ConEntry) (written : Names ℕ) (place : Place) → Keeps (are_fields con written place)
kept_fields None written place = kept_give tt
kept_fields (Some con) written place = kept_if _ _ _

module _ (g : Globals) where
  -- what a structural type adopts
  kept_adopted : (con : ℕ) (adopts : Option Word) → Keeps (adopted g con adopts)
  kept_adopted con None = kept_give None
  kept_adopted con (Some name) = kept_then (kept_declared _ _ _) (λ d. kept_and (kept_clause _) (kept_give (Some d)))

  -- the fields of a structural type
  kept_field_names : (scope : Names ℕ) (con : Option ConEntry) (fields : List FieldName) → Keeps (flat_field_names g scope con fields)
  kept_field_names scope con [] = kept_give []
  kept_field_names scope con (f ∷ rest) =
      kept_and (kept_field con f.field)
      (kept_then (kept_name_in scope f.name)
      (λ x. kept_then (kept_field_names scope con rest)
      (λ others. kept_give _)))

  mutual
    unfolding flat_typed

    -- the atom of a name at a type
    pub kept_typed : (scope : Names ℕ) (x : ℕ) (ty : TypeTree) → Keeps (flat_typed g scope x ty)
    kept_typed scope x Int_tree = kept_give _
    kept_typed scope x Unknown_tree = kept_give _
    kept_typed scope x Dynamic_tree = kept_give _
    kept_typed scope x Locked_tree = kept_give _
    kept_typed scope x (Equal_tree name) = kept_then (kept_name_in scope name) (λ y. kept_give _)
    kept_typed scope x (Named_tree name) = kept_then (kept_declared _ _ _) (λ t. kept_give _)
    kept_typed scope x (Lock_tree guarded) = kept_then (kept_atoms scope guarded) (λ p. kept_give _)
    kept_typed scope x (Block_tree name fields adopts) =
        kept_then (kept_con g name)
        (λ con. kept_then (kept_field_names scope con fields)
        (λ written. kept_and (kept_fields con written name.place)
        (kept_then (kept_adopted _ adopts)
        (λ u. kept_give _))))

    -- an atom
    pub kept_atom : (scope : Names ℕ) (one : AtomTree) → Keeps (flat_atom g scope one)
    kept_atom scope (Has_tree name ty) = kept_then (kept_name_in scope name) (λ x. kept_typed scope x ty)
    kept_atom scope (Same_tree left right) = kept_then (kept_name_in scope left) (λ x. kept_then (kept_name_in scope right) (λ y. kept_give _))

    -- atoms, one after the other
    pub kept_atoms : (scope : Names ℕ) (all : AtomTrees) → Keeps (flat_atoms g scope all)
    kept_atoms scope No_atom_trees = kept_give []
    kept_atoms scope (More_atom_trees one rest) = kept_then (kept_atom scope one) (λ a. kept_then (kept_atoms scope rest) (λ others. kept_give _))
