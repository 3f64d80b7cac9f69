-- Types and atoms that are written without a fault: they are types and atoms of the scope, and add their `adopts`.
use Rattle.std.proofs.Common.{◌≡◌, ◌≢◌, ℕ, suc, ◌+◌, ◌<◌, ◌≤◌, List, [], ◌∷◌, ◌++◌, length, Option, Some, None, arith, refl, sym, ap, subst}
use Rattle.std.specs.Prelude.{IfSome, option_map}
use Rattle.std.proofs.Math.Nat.{max-le}
use Rattle.mz_tree.specs.Plain.{Atom, Int_type, Unknown_type, Dynamic_type, Locked_type, Block_type, Lock_type, Has_atom, Same_atom, No_atoms, atoms_of}
use Rattle.mz_tree.specs.Programs.{Clause, Program}
use Rattle.mz_scope.specs.Syntax.{Word, FieldName, TypeTree, AtomTree, AtomTrees, Int_tree, Unknown_tree, Dynamic_tree, Locked_tree, Equal_tree, Named_tree, Lock_tree, Block_tree, Has_tree, Same_tree, No_atom_trees, More_atom_trees}
use Rattle.mz_scope.specs.Names.{Names, find, Globals, TypeEntry, TypeName, Data_name, Sig_name, ConEntry}
use Rattle.mz_scope.specs.Making.{Made, Part, ◌>>=◌, ◌>>◌, give, add_clause, declared_or}
use Rattle.mz_scope.specs.Types.{number_of, in_order, is_field, are_fields, name_in, con_by_name, data_by_name, type_by_name, adopted, flat_field_names, flat_typed, flat_atom, flat_atoms}
use Rattle.mz_tree.specs.Scoped.{Each, Scope, IsBound, HasFields, IsType, AreGuarded, IsAtomWithin, AreAtomsWithin, depth_in, adopting, adopting_atom, adopting_in, adopting_atoms}
use Rattle.mz_scoped.proofs.Proper.{IsProperType, IsProperAtom, AreProperAtoms}
use Rattle.mz_scoped.proofs.Goes.{Goes, first_then, weakened, framed, given, is_declared}
use Rattle.mz_scoped.proofs.Grounds.{IsEntry, Grounds, AreIn, Adds}
use Rattle.mz_scoped.proofs.Adding.{same_added, added_as, clause_goes, added_behind}
use Rattle.mz_scoped.proofs.EachMember.{each_none, each_more}
use Rattle.mz_scoped.proofs.Entries.{con_goes, data_goes}
use Rattle.mz_scoped.proofs.ScopedFields.{AreGiven, field_given, fields_given, in_order_bound, in_order_count}

-- ---- names of a scope

-- a name that is found in the scope is bound
pub name_goes : {P : Made → Type 0} (scope : Names ℕ) (here : Scope) → AreIn here scope → (name : Word) → Goes P (name_in scope name) (λ x m. IsBound here x × P m)
name_goes scope here are name = weakened (λ m p. p) (λ x m q. (are name.text x q.0, q.1)) (is_declared 0 (find scope name.text) name.place)

-- ---- atoms that stand inside a type

-- some atoms are some inside a type
some_guarded : (atoms : List (Atom ℕ)) → atoms ≢ [] → atoms_of atoms ≢ No_atoms
some_guarded [] some = absurd (some refl)
some_guarded (a ∷ rest) some = λ is. cc

-- they adopt the same inside a type
adopting_is : (atoms : List (Atom ℕ)) → adopting_atoms atoms ≡ adopting_in (atoms_of atoms)
adopting_is [] = refl
adopting_is (a ∷ rest) = ap (λ more. adopting_atom a ++ more) (adopting_is rest)

-- no bracket is open
none_open : (n : ℕ) → 0 ≤ n
none_open n = omega arith

-- one more bracket is open than inside
one_more_open : (n m k : ℕ) → n ≡ suc m → k ≤ m → 1 + k ≤ n
one_more_open n m k is most = omega (arith, is, most)

module _ (p : Program) where
  -- atoms of a scope are so inside a type, with as many brackets open
  guarded_in : (here : Scope) (n : ℕ) (atoms : List (Atom ℕ)) → AreAtomsWithin p n here atoms → AreGuarded p here (atoms_of atoms) × (depth_in (atoms_of atoms) ≤ n)
  guarded_in here n [] within = (tt, none_open n)
  guarded_in here n (a ∷ rest) within =
      let first : IsAtomWithin p n here a = within 0 a refl in
      let others : _ = guarded_in here n rest (λ k b at. within (suc k) b at) in
      ((first.0, others.0), max-le first.1 others.1)

  -- a type that is a lock is open once more
  lock_within : (here : Scope) (x n m : ℕ) (atoms : List (Atom ℕ)) → IsBound here x → n ≡ suc m → atoms ≢ [] → AreAtomsWithin p m here atoms → IsAtomWithin p n here (Has_atom x (Lock_type (atoms_of atoms)))
  lock_within here x n m atoms bound is some within =
      let inside : _ = guarded_in here m atoms within in
      ((bound, (some_guarded atoms some, inside.0)), one_more_open n m (depth_in (atoms_of atoms)) is inside.1)

module _ (p : Program) (g : Globals) (grounds : Grounds p g) where
  -- ---- data types and signatures by name

  -- what a name of a type stands for, as a type
  IsNamed : Scope → ℕ → ℕ → TypeName → Type 0
  IsNamed here n x t = IsAtomWithin p n here (Has_atom x (type_by_name t)) × (adopting_atom (Has_atom x (type_by_name t)) ≡ [])

  -- a name of this sort does
  stands : (here : Scope) (n x : ℕ) → IsBound here x → (name : List ℕ) (entry : TypeEntry) → find g.types name ≡ Some entry → (t : TypeName) → entry.stands_for ≡ t → IsNamed here n x t
  unfolding IsNamed
  stands here n x bound name entry found (Data_name d) is = (((bound, grounds.data_types name entry d found is), none_open n), refl)
  stands here n x bound name entry found (Sig_name s) is = (((bound, grounds.sigs name entry s found is), none_open n), refl)

  -- a name that is found does
  named : (here : Scope) (n x : ℕ) → IsBound here x → (name : List ℕ) (found : Option TypeEntry) → find g.types name ≡ found → (t : TypeName) → option_map (λ (t : TypeEntry). t.stands_for) found ≡ Some t → IsNamed here n x t
  named here n x bound name None here_is t is = cc
  named here n x bound name (Some entry) here_is t is =
      let same : entry.stands_for ≡ t = cc in
      stands here n x bound name entry here_is t same

  -- ---- structural types

  -- a constructor that is known
  abbrev IsKnown : Word → Option ConEntry → Type 0
  IsKnown name con = (c : ConEntry) × (con ≡ Some c) × (find g.cons name.text ≡ Some c) × IsEntry p c

  -- names that are written for fields are bound
  abbrev AreWritten : Scope → Names ℕ → Type 0
  AreWritten here written = Each (λ _ (one : List ℕ × ℕ). IsBound here one.1) written

  -- the names of the fields, by going along them
  written_goes : {P : Made → Type 0} (scope : Names ℕ) (here : Scope) → AreIn here scope → (con : Option ConEntry) (fields : List FieldName) → Goes P (flat_field_names g scope con fields) (λ written m. AreWritten here written × P m)
  written_goes scope here are con [] = given [] (λ m before. (each_none (λ (one : List ℕ × ℕ). IsBound here one.1), before))
  written_goes {P = P} scope here are con (f ∷ rest) =
      first_then (is_field con f.field) (λ _. name_in scope f.name >>= λ x. flat_field_names g scope con rest >>= λ others. give ((f.field.text, x) ∷ others))
      (field_given {P = P} con f.field)
      (λ _. first_then (name_in scope f.name) (λ x. flat_field_names g scope con rest >>= λ others. give ((f.field.text, x) ∷ others))
      (name_goes scope here are f.name)
      (λ x. first_then (flat_field_names g scope con rest) (λ others. give ((f.field.text, x) ∷ others))
      (framed (IsBound here x) (written_goes {P = P} scope here are con rest))
      (λ others. given ((f.field.text, x) ∷ others) (λ m q. (each_more (λ (one : List ℕ × ℕ). IsBound here one.1) (f.field.text, x) others q.0 q.1.0, q.1.1)))))

  -- what is adopted is a data type, and adds a clause
  adopted_goes : (con : ℕ) (fields : List ℕ) (name : Option Word) (old : Made) → Goes (λ m. m ≡ old) (adopted g con name) (λ u m. IfSome u (λ d. d < length p.varieties) × Adds (adopting (Block_type con fields u)) old m)
  adopted_goes con fields None old = given None (λ m same. (tt, same_added old m same))
  adopted_goes con fields (Some name) old =
      first_then (data_by_name g name) (λ d. add_clause (clause d) >> give (Some d))
      (data_goes p g grounds name)
      (λ d. first_then (add_clause (clause d)) (λ _. give (Some d))
      (framed (d < length p.varieties) (weakened (λ m same. same_added old m same) (λ _ m q. q) (clause_goes old [] (clause d))))
      (λ _. given (Some d) (λ m q. q)))
    where
      clause : ℕ → Clause
      clause d = record { place = name.place; con = con; adopts = d }

  -- a structural type whose fields are each declared one once
  block_known : (here : Scope) (c : ConEntry) (written : Names ℕ) (u : Option ℕ) → IsEntry p c → AreGiven (Some c) written → AreWritten here written → IfSome u (λ d. d < length p.varieties) → IsType p here (Block_type c.number (in_order (Some c) written) u)
  block_known here c written u entry once bound within =
      (subst (HasFields p c.number) (sym (in_order_count c written)) entry.fields, in_order_bound here c written once bound, within)

  -- the same by the constructor's name
  block_is : (here : Scope) (name : Word) (con : Option ConEntry) (written : Names ℕ) (u : Option ℕ) → IsKnown name con → AreGiven con written → AreWritten here written → IfSome u (λ d. d < length p.varieties) → IsType p here (Block_type (number_of con) (in_order con written) u)
  block_is here name con written u known once bound within =
      subst (λ o. IsType p here (Block_type (number_of o) (in_order o written) u)) (sym known.1) (block_known here known.0 written u known.3 (subst (λ o. AreGiven o written) known.1 once) bound within)

  -- a structural type is open once
  structure_goes : (scope : Names ℕ) (here : Scope) → AreIn here scope → (x n : ℕ) → 1 ≤ n → (name : Word) (fields : List FieldName) (adopts : Option Word) (old : Made)
      → Goes (λ m. IsBound here x × (m ≡ old)) (flat_typed g scope x (Block_tree name fields adopts)) (λ a m. IsAtomWithin p n here a × Adds (adopting_atom a) old m)
  unfolding flat_typed
  structure_goes scope here are x n one name fields adopts old =
      first_then (con_by_name g name) (λ con. flat_field_names g scope con fields >>= λ written. with_written con written)
      (con_goes p g grounds name)
      (λ con. first_then (flat_field_names g scope con fields) (λ written. with_written con written)
      (written_goes scope here are con fields)
      (λ written. first_then (are_fields con written name.place) (λ _. with_fields con written)
      (fields_given con written name.place)
      (λ _. first_then (adopted g (number_of con) adopts) (λ u. give (atom con written u))
      (framed (AreGiven con written) (framed (AreWritten here written) (framed (IsKnown name con) (framed (IsBound here x) (adopted_goes (number_of con) (in_order con written) adopts old)))))
      (λ u. given (atom con written u) (λ m q. (((q.1.1.1.0, block_is here name con written u q.1.1.0 q.0 q.1.0 q.1.1.1.1.0), one), q.1.1.1.1.1))))))
    where
      atom : Option ConEntry → Names ℕ → Option ℕ → Atom ℕ
      atom con written u = Has_atom x (Block_type (number_of con) (in_order con written) u)

      with_fields : Option ConEntry → Names ℕ → Part (Atom ℕ)
      with_fields con written = adopted g (number_of con) adopts >>= λ u. give (atom con written u)

      with_written : Option ConEntry → Names ℕ → Part (Atom ℕ)
      with_written con written = are_fields con written name.place >> with_fields con written

  -- ---- types and atoms, by going through them

  mutual
    unfolding flat_typed flat_atom flat_atoms IsNamed

    -- an atom of a bound name at a type
    typed_bound : (scope : Names ℕ) (here : Scope) → AreIn here scope → (x n : ℕ) (ty : TypeTree) → IsProperType n ty → (old : Made)
        → Goes (λ m. IsBound here x × (m ≡ old)) (flat_typed g scope x ty) (λ a m. IsAtomWithin p n here a × Adds (adopting_atom a) old m)
    typed_bound scope here are x n Int_tree proper old = given (Has_atom x Int_type) (λ m q. (((q.0, tt), none_open n), same_added old m q.1))
    typed_bound scope here are x n Unknown_tree proper old = given (Has_atom x Unknown_type) (λ m q. (((q.0, tt), none_open n), same_added old m q.1))
    typed_bound scope here are x n Dynamic_tree proper old = given (Has_atom x Dynamic_type) (λ m q. (((q.0, tt), none_open n), same_added old m q.1))
    typed_bound scope here are x n Locked_tree proper old = given (Has_atom x Locked_type) (λ m q. (((q.0, tt), none_open n), same_added old m q.1))
    typed_bound scope here are x n (Equal_tree name) proper old =
        first_then (name_in scope name) (λ y. give (Same_atom x y))
        (name_goes scope here are name)
        (λ y. given (Same_atom x y) (λ m q. (((q.1.0, q.0), none_open n), same_added old m q.1.1)))
    typed_bound scope here are x n (Named_tree name) proper old =
        first_then (declared_or (Data_name 0) (option_map (λ (t : TypeEntry). t.stands_for) (find g.types name.text)) name.place) (λ t. give (Has_atom x (type_by_name t)))
        (is_declared (Data_name 0) (option_map (λ (t : TypeEntry). t.stands_for) (find g.types name.text)) name.place)
        (λ t. given (Has_atom x (type_by_name t)) (λ m q.
        let one : IsNamed here n x t = named here n x q.1.0 name.text (find g.types name.text) refl t q.0 in
        (one.0, added_as (sym one.1) (same_added old m q.1.1))))
    typed_bound scope here are x n (Lock_tree guarded) proper old =
        first_then (flat_atoms g scope guarded) (λ atoms. give (Has_atom x (Lock_type (atoms_of atoms))))
        (framed (IsBound here x) (atoms_goes scope here are proper.0 guarded proper.3 old))
        (λ atoms. given (Has_atom x (Lock_type (atoms_of atoms))) (λ m q. (lock_within p here x n proper.0 atoms q.0 proper.1 (q.1.1 proper.2) q.1.0, added_as (adopting_is atoms) q.1.2)))
    typed_bound scope here are x n (Block_tree name fields adopts) proper old = structure_goes scope here are x n proper name fields adopts old

    -- an atom
    pub atom_goes : (scope : Names ℕ) (here : Scope) → AreIn here scope → (n : ℕ) (one : AtomTree) → IsProperAtom n one → (old : Made)
        → Goes (λ m. m ≡ old) (flat_atom g scope one) (λ a m. IsAtomWithin p n here a × Adds (adopting_atom a) old m)
    atom_goes scope here are n (Has_tree name ty) proper old =
        first_then (name_in scope name) (λ x. flat_typed g scope x ty)
        (name_goes scope here are name)
        (λ x. typed_bound scope here are x n ty proper old)
    atom_goes scope here are n (Same_tree left right) proper old =
        first_then (name_in scope left) (λ x. name_in scope right >>= λ y. give (Same_atom x y))
        (name_goes scope here are left)
        (λ x. first_then (name_in scope right) (λ y. give (Same_atom x y))
        (name_goes scope here are right)
        (λ y. given (Same_atom x y) (λ m q. (((q.1.0, q.0), none_open n), same_added old m q.1.1))))

    -- atoms; there is one, where one is written
    pub atoms_goes : (scope : Names ℕ) (here : Scope) → AreIn here scope → (n : ℕ) (all : AtomTrees) → AreProperAtoms n all → (old : Made)
        → Goes (λ m. m ≡ old) (flat_atoms g scope all) (λ atoms m. AreAtomsWithin p n here atoms × (all ≢ No_atom_trees → atoms ≢ []) × Adds (adopting_atoms atoms) old m)
    atoms_goes scope here are n No_atom_trees proper old = given [] (λ m same. (each_none (IsAtomWithin p n here), (λ some. absurd (some refl)), same_added old m same))
    atoms_goes scope here are n (More_atom_trees one rest) proper old =
        first_then (flat_atom g scope one) (λ a. flat_atoms g scope rest >>= λ others. give (a ∷ others))
        (atom_goes scope here are n one proper.0 old)
        (λ a. first_then (flat_atoms g scope rest) (λ others. give (a ∷ others))
        (framed (IsAtomWithin p n here a) (added_behind {X = λ others. AreAtomsWithin p n here others} {more = λ others. adopting_atoms others} (flat_atoms g scope rest) (adopting_atom a) old
        (λ mid. weakened (λ m same. same) (λ others m q. (q.0, q.2)) (atoms_goes scope here are n rest proper.1 mid))))
        (λ others. given (a ∷ others) (λ m q. (each_more (IsAtomWithin p n here) a others q.0 q.1.0, (λ some is. cc), q.1.1))))

  -- the same where it is known before that the name is bound
  pub typed_goes : (scope : Names ℕ) (here : Scope) → AreIn here scope → (x : ℕ) → IsBound here x → (n : ℕ) (ty : TypeTree) → IsProperType n ty → (old : Made)
      → Goes (λ m. m ≡ old) (flat_typed g scope x ty) (λ a m. IsAtomWithin p n here a × Adds (adopting_atom a) old m)
  typed_goes scope here are x bound n ty proper old = weakened (λ m same. (bound, same)) (λ a m q. q) (typed_bound scope here are x n ty proper old)
