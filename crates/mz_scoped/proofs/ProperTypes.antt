-- The types and permissions of a source are proper: no more brackets are open at once than may be, and a lock holds something.
use Rattle.std.proofs.Common.{◌≢◌, ℕ, suc, ◌-◌, ◌≤◌, Bool, false, List, [], ◌∷◌, refl, sym, subst, arith}
use Rattle.mz_token.specs.declared.token.Token.{Token}
use Rattle.mz_types.specs.declared.tree.SurfaceType.{SurfaceType}
use Rattle.mz_types.specs.declared.tree.SurfaceAtom.{SurfaceAtom}
use Rattle.mz_types.specs.Words.{Spelling}
use Rattle.mz_types.specs.Grammar.{IsField, IsFields, IsClause, IsStructure, IsSingleton, HasOver, IsSame, AtomOver, AtomsOver, LockOver, TypeOver, IsType, IsAtom, IsAtoms}
use Rattle.mz_scope.specs.Syntax.{TypeTree, AtomTree, AtomTrees, Int_tree, Unknown_tree, Dynamic_tree, Locked_tree, Equal_tree, Named_tree, Lock_tree, Block_tree, Has_tree, Same_tree, No_atom_trees, More_atom_trees}
use Rattle.mz_scope.specs.Trees.{type_tree, atom_tree, atom_trees}
use Rattle.mz_scope.proofs.TypeForms.{lock_tree_is}
use Rattle.mz_scoped.proofs.Proper.{AllOf, IsProperType, IsProperAtom, AreProperAtoms}
use Rattle.mz_scoped.proofs.Spells.{Spells, then_so, weaker, behind, closed, either_spells, image_spells, nothing_spells, maybe_spells, layered_spells, low_spells, up_spells, key_spells, mark_spells, name_spells, closing_brace, closing_paren, in_braces, in_parens, others_spell}

-- ---- where more brackets may be opened

mutual
  -- a lock may hold as many more
  pub wider_type : (m n : ℕ) → m ≤ n → (t : TypeTree) → IsProperType m t → IsProperType n t
  wider_type m n le Int_tree h = tt
  wider_type m n le Unknown_tree h = tt
  wider_type m n le Dynamic_tree h = tt
  wider_type m n le Locked_tree h = tt
  wider_type m n le (Equal_tree name) h = tt
  wider_type m n le (Named_tree name) h = tt
  wider_type m n le (Lock_tree guarded) (k, e, some, atoms) =
      let more : k ≤ n - 1 = omega (arith, le, e) in
      (n - 1, omega (arith, le, e), some, wider_atoms k (n - 1) more guarded atoms)
  wider_type m n le (Block_tree con fields adopts) h = omega (arith, le, h)

  -- likewise an atom
  pub wider_atom : (m n : ℕ) → m ≤ n → (a : AtomTree) → IsProperAtom m a → IsProperAtom n a
  wider_atom m n le (Has_tree name ty) h = wider_type m n le ty h
  wider_atom m n le (Same_tree left right) h = tt

  -- likewise atoms, one by one
  pub wider_atoms : (m n : ℕ) → m ≤ n → (atoms : AtomTrees) → AreProperAtoms m atoms → AreProperAtoms n atoms
  wider_atoms m n le No_atom_trees h = tt
  wider_atoms m n le (More_atom_trees a rest) h = (wider_atom m n le a h.0, wider_atoms m n le rest h.1)

module _ (bytes : List ℕ) where
  -- where so many brackets may be opened, these are proper

  -- a type
  abbrev pub TypeAt : ℕ → SurfaceType → Type 0
  TypeAt n ty = IsProperType n (type_tree bytes ty)

  -- an atom
  abbrev pub AtomAt : ℕ → SurfaceAtom → Type 0
  AtomAt n a = IsProperAtom n (atom_tree bytes a)

  -- atoms
  abbrev pub AtomsAt : ℕ → List SurfaceAtom → Type 0
  AtomsAt n atoms = AreProperAtoms n (atom_trees bytes atoms)

  -- one atom at least
  abbrev pub SomeAtomsAt : ℕ → List SurfaceAtom → Type 0
  SomeAtomsAt n atoms = (atom_trees bytes atoms ≢ No_atom_trees) × AtomsAt n atoms

  -- a list of atoms, atom by atom
  atoms_at : (n : ℕ) (atoms : List SurfaceAtom) → AllOf (AtomAt n) atoms → AtomsAt n atoms
  atoms_at n [] h = tt
  atoms_at n (a ∷ rest) h = (h.0, atoms_at n rest h.1)

  -- a list with a member has one
  some_at : (n : ℕ) (atoms : List SurfaceAtom) → (atoms ≢ []) × AllOf (AtomAt n) atoms → SomeAtomsAt n atoms
  some_at n [] h = absurd (h.0 refl)
  some_at n (a ∷ rest) h = (λ e. cc, atoms_at n (a ∷ rest) h.1)

  -- ---- structural types

  -- low "=" low
  field_spells : Spells bytes false IsField (λ n f. Unit {0})
  field_spells = behind low_spells (λ field. behind (mark_spells 8 refl) (λ is. image_spells low_spells (λ n t low. tt)))

  -- field { ";" field }
  fields_spell : Spells bytes false IsFields (λ n fields. Unit {0})
  fields_spell = weaker (others_spell (mark_spells 4 refl) field_spells) (λ n fields all. tt)

  -- "adopts" low
  pub clause_spells : Spells bytes false IsClause (λ n t. Unit {0})
  clause_spells = behind (key_spells 2) (λ adopts. weaker low_spells (λ n t low. tt))

  -- its brace is open
  structure_spells : Spells bytes false IsStructure TypeAt
  structure_spells =
      behind up_spells (λ con. in_braces (λ opening.
      behind (either_spells (nothing_spells (λ n. tt)) fields_spell) (λ fields.
      closed closing_brace (λ closing. image_spells (maybe_spells clause_spells) (λ n adopts u k e. omega arith)))))

  -- "=" low
  singleton_spells : Spells bytes false IsSingleton TypeAt
  singleton_spells = behind (mark_spells 8 refl) (λ is. image_spells low_spells (λ n t low. tt))

  -- ---- atoms, and types over the types in them

  module _ (result : Bool) where
    -- "=" name, behind a name
    same_spells : (left : Token) → Spells bytes false (IsSame result left) AtomAt
    same_spells left = behind (mark_spells 8 refl) (λ is. image_spells (name_spells result) (λ n t u. tt))

    module _ (X : Spelling SurfaceType) (types : Spells bytes false X TypeAt) where
      -- "@" type, behind a name
      has_spells : (name : Token) → Spells bytes false (HasOver X name) AtomAt
      has_spells name = behind (mark_spells 22 refl) (λ at. image_spells types (λ n ty h. h))

      -- name "@" type | name "=" name
      atom_over : Spells bytes false (AtomOver result X) AtomAt
      atom_over = behind (name_spells result) (λ name. either_spells (has_spells name) (same_spells name))

      -- atom { "*" atom }
      atoms_over : Spells bytes false (AtomsOver result X) SomeAtomsAt
      atoms_over = weaker (others_spell (mark_spells 9 refl) atom_over) some_at

      -- what is locked stands in a bracket
      lock_over : Spells bytes false (LockOver result X) TypeAt
      lock_over =
          behind (key_spells 19) (λ word. in_parens (λ opening. then_so atoms_over (λ guarded. image_spells closing_paren (λ k closing u atoms.
          subst (IsProperType (suc k)) (sym (lock_tree_is bytes word guarded)) (k, refl, atoms.0, atoms.1)))))

      -- each alternative of a type
      type_over : Spells bytes false (TypeOver result X) TypeAt
      type_over =
          either_spells (image_spells (key_spells 25) (λ n t u. tt))
          (either_spells (image_spells (key_spells 26) (λ n t u. tt))
          (either_spells (image_spells (key_spells 27) (λ n t u. tt))
          (either_spells (image_spells (key_spells 20) (λ n t u. tt))
          (either_spells singleton_spells
          (either_spells (image_spells low_spells (λ n t u. tt))
          (either_spells lock_over
          structure_spells))))))

    -- ---- in any number of layers

    -- a type
    pub type_spells : Spells bytes false (IsType result) TypeAt
    type_spells = layered_spells type_over

    -- an atom
    pub atom_spells : Spells bytes false (IsAtom result) AtomAt
    atom_spells = atom_over (IsType result) type_spells

    -- atoms
    pub atoms_spell : Spells bytes false (IsAtoms result) SomeAtomsAt
    atoms_spell = atoms_over (IsType result) type_spells
