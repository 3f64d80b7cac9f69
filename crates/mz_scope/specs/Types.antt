-- Types and permissions as they are written, and what they come to.
use Rattle.std.specs.Prelude.{ℕ, ◌&&◌, Bool, not, List, [], ◌∷◌, map, Option, Some, None, is_some, unwrap_or, option_map, option_and_then}
use Rattle.std.specs.List.{list_all}
pub use Rattle.mz_names.specs.Fields.{is_among, are_apart, names_in}
use Rattle.mz_tree.specs.declared.types.Place.{Place}
use Rattle.mz_tree.specs.Plain.{Ty, Atom, Int_type, Unknown_type, Dynamic_type, Locked_type, Named_type, Function_type, Block_type, Lock_type, Has_atom, Same_atom, atoms_of}
use Rattle.mz_scope.specs.declared.fault.Cause.TheVariants.{Unknown, Shape}
use Rattle.mz_scope.specs.Syntax.{Word, FieldName, TypeTree, AtomTree, AtomTrees, Int_tree, Unknown_tree, Dynamic_tree, Locked_tree, Equal_tree, Named_tree, Lock_tree, Block_tree, Has_tree, Same_tree, No_atom_trees, More_atom_trees}
use Rattle.mz_scope.specs.Names.{Names, find, Globals, TypeEntry, TypeName, Data_name, Sig_name, data_of, ConEntry}
use Rattle.mz_scope.specs.Making.{Part, ◌>>=◌, ◌>>◌, give, add_clause, fault_if, declared_or}

-- ---- lists of fields, in types and in expressions alike

-- whether the written names are each declared one once
abbrev pub is_each_once : List (List ℕ) → List (List ℕ) → Bool
is_each_once declared written = are_apart written && list_all (is_among declared) written && list_all (is_among written) declared

-- the number of a constructor; one that isn't declared has none of its own
abbrev pub number_of : Option ConEntry → ℕ
number_of None = 0
number_of (Some con) = con.number

-- the values in declared order
abbrev pub in_order : Option ConEntry → Names ℕ → List ℕ
in_order None written = map (λ (one : List ℕ × ℕ). one.1) written
in_order (Some con) written = map (λ (field : List ℕ × ℕ). unwrap_or (find written field.0) 0) con.fields

-- a written field must be one of the constructor's
abbrev pub is_field : Option ConEntry → Word → Part (Unit {0})
is_field None field = give tt
is_field (Some con) field = fault_if (not (is_some (find con.fields field.text))) Unknown field.place

-- the written fields must be each declared one once
abbrev pub are_fields : Option ConEntry → Names ℕ → Place → Part (Unit {0})
are_fields None written place = give tt
are_fields (Some con) written place = fault_if (not (is_each_once (names_in con.fields) (names_in written))) Shape place

-- ---- names

-- a name of a scope
abbrev pub name_in : Names ℕ → Word → Part ℕ
name_in scope name = declared_or 0 (find scope name.text) name.place

-- a constructor
abbrev pub con_by_name : Globals → Word → Part (Option ConEntry)
con_by_name g name = declared_or None (option_map Some (find g.cons name.text)) name.place

-- a data type
abbrev pub data_by_name : Globals → Word → Part ℕ
data_by_name g name = declared_or 0 (option_and_then (λ (t : TypeEntry). data_of t.stands_for) (find g.types name.text)) name.place

-- a data type or a signature, as a type
abbrev pub type_by_name : TypeName → Ty ℕ
type_by_name (Data_name number) = Named_type number
type_by_name (Sig_name number) = Function_type number

-- ---- types and atoms

module _ (g : Globals) where
  -- what a structural type adopts, if anything
  abbrev pub adopted : ℕ → Option Word → Part (Option ℕ)
  adopted con None = give None
  adopted con (Some name) = do
    d ← data_by_name g name
    add_clause (record { place = name.place; con = con; adopts = d })
    give (Some d)

  -- the fields of a structural type with their names' numbers, as they are written
  abbrev pub flat_field_names : Names ℕ → Option ConEntry → List FieldName → Part (Names ℕ)
  flat_field_names scope con [] = give []
  flat_field_names scope con (f ∷ rest) = do
    is_field con f.field
    x ← name_in scope f.name
    others ← flat_field_names scope con rest
    give ((f.field.text, x) ∷ others)

  unfoldable mutual
    -- the atom of name x at a type
    pub flat_typed : Names ℕ → ℕ → TypeTree → Part (Atom ℕ)
    flat_typed scope x Int_tree = give (Has_atom x Int_type)
    flat_typed scope x Unknown_tree = give (Has_atom x Unknown_type)
    flat_typed scope x Dynamic_tree = give (Has_atom x Dynamic_type)
    flat_typed scope x Locked_tree = give (Has_atom x Locked_type)
    flat_typed scope x (Equal_tree name) = do
      y ← name_in scope name
      give (Same_atom x y)
    flat_typed scope x (Named_tree name) = do
      t ← declared_or (Data_name 0) (option_map (λ (t : TypeEntry). t.stands_for) (find g.types name.text)) name.place
      give (Has_atom x (type_by_name t))
    flat_typed scope x (Lock_tree guarded) = do
      p ← flat_atoms scope guarded
      give (Has_atom x (Lock_type (atoms_of p)))
    flat_typed scope x (Block_tree name fields adopts) = do
      con ← con_by_name g name
      written ← flat_field_names scope con fields
      are_fields con written name.place
      u ← adopted (number_of con) adopts
      give (Has_atom x (Block_type (number_of con) (in_order con written) u))

    pub flat_atom : Names ℕ → AtomTree → Part (Atom ℕ)
    flat_atom scope (Has_tree name ty) = do
      x ← name_in scope name
      flat_typed scope x ty
    flat_atom scope (Same_tree left right) = do
      x ← name_in scope left
      y ← name_in scope right
      give (Same_atom x y)

    pub flat_atoms : Names ℕ → AtomTrees → Part (List (Atom ℕ))
    flat_atoms scope No_atom_trees = give []
    flat_atoms scope (More_atom_trees one rest) = do
      a ← flat_atom scope one
      others ← flat_atoms scope rest
      give (a ∷ others)
