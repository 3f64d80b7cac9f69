-- Types and atoms, part after part, as functions that read from the front of a list of tokens. d is how many brackets may be
-- opened more, and inner reads a type inside a bracket.
use Rattle.std.specs.Prelude.{ℕ, zero, suc, Bool, List, [], ◌∷◌, Ok, Err}
use Rattle.mz_grammar.specs.Reading.{Read, Wrong, ◌>>=◌, token_at, open_at, choose, maybe_at, many}
use Rattle.mz_token.specs.declared.token.Token.{Token}
use Rattle.mz_types.specs.declared.tree.FieldName.{FieldName}
use Rattle.mz_types.specs.declared.tree.SurfaceType.{SurfaceType, Int, Unknown, Dynamic, Locked, Singleton, Named, Lock, Structure}
use Rattle.mz_types.specs.declared.tree.SurfaceAtom.{SurfaceAtom, Has, Same}
use Rattle.mz_types.specs.Words.{lower, upper, key, mark, name}
use Rattle.mz_types.specs.Trees.{field_name_of}

-- ---- structural types and singletons

unfoldable pub field_at : List Token → Read Token FieldName
field_at ts = do
  field ← token_at lower ts
  is ← token_at (mark 8) field.1
  value ← token_at lower is.1
  Ok (field_name_of field.0 value.0, value.1)

unfoldable pub next_field_at : List Token → Read Token FieldName
next_field_at ts = do
  semicolon ← token_at (mark 4) ts
  field_at semicolon.1

unfoldable pub fields_at : List Token → Read Token (List FieldName)
fields_at ts = do
  one ← field_at ts
  others ← many (mark 4) next_field_at one.1
  Ok (one.0 ∷ others.0, others.1)

-- nothing before the closing brace
unfoldable pub maybe_fields_at : List Token → Read Token (List FieldName)
maybe_fields_at ts = choose (mark 1) (λ others. Ok ([], others)) fields_at ts

unfoldable pub clause_at : List Token → Read Token Token
clause_at ts = do
  adopts ← token_at (key 2) ts
  token_at lower adopts.1

unfoldable pub singleton_at : List Token → Read Token SurfaceType
singleton_at ts = do
  is ← token_at (mark 8) ts
  value ← token_at lower is.1
  Ok (Singleton is.0 value.0, value.1)

-- one token that is a type
unfoldable pub word_at : (Token → Bool) → (Token → SurfaceType) → List Token → Read Token SurfaceType
word_at test type ts = do
  word ← token_at test ts
  Ok (type word.0, word.1)

module _ (d : ℕ) where
  unfoldable pub structure_by : List Token → Read Token SurfaceType
  structure_by ts = do
    con ← token_at upper ts
    opening ← open_at (mark 0) d con.1
    fields ← maybe_fields_at opening.1
    closing ← token_at (mark 1) fields.1
    adopts ← maybe_at (key 2) clause_at closing.1
    Ok (Structure con.0 fields.0 adopts.0, adopts.1)

-- ---- atoms and types

unfoldable pub has_by : (List Token → Read Token SurfaceType) → Token → List Token → Read Token SurfaceAtom
has_by inner subject ts = do
  at ← token_at (mark 22) ts
  type ← inner at.1
  Ok (Has subject type.0, type.1)

module _ (result : Bool) where
  unfoldable pub same_at : Token → List Token → Read Token SurfaceAtom
  same_at left ts = do
    is ← token_at (mark 8) ts
    right ← token_at (name result) is.1
    Ok (Same left right.0, right.1)

  module _ (inner : List Token → Read Token SurfaceType) where
    unfoldable pub atom_by : List Token → Read Token SurfaceAtom
    atom_by ts = do
      subject ← token_at (name result) ts
      choose (mark 22) (has_by inner subject.0) (same_at subject.0) subject.1

    unfoldable pub next_atom_by : List Token → Read Token SurfaceAtom
    next_atom_by ts = do
      star ← token_at (mark 9) ts
      atom_by star.1

    unfoldable pub atoms_by : List Token → Read Token (List SurfaceAtom)
    atoms_by ts = do
      one ← atom_by ts
      others ← many (mark 9) next_atom_by one.1
      Ok (one.0 ∷ others.0, others.1)

  module _ (d : ℕ) (inner : List Token → Read Token SurfaceType) where
    unfoldable pub lock_by : List Token → Read Token SurfaceType
    lock_by ts = do
      word ← token_at (key 19) ts
      opening ← open_at (mark 2) d word.1
      guarded ← atoms_by inner opening.1
      closing ← token_at (mark 3) guarded.1
      Ok (Lock word.0 guarded.0, closing.1)

    unfoldable pub type_by : List Token → Read Token SurfaceType
    type_by ts =
        choose (key 25) (word_at (key 25) Int)
        (choose (key 26) (word_at (key 26) Unknown)
        (choose (key 27) (word_at (key 27) Dynamic)
        (choose (key 20) (word_at (key 20) Locked)
        (choose (mark 8) singleton_at
        (choose lower (word_at lower Named)
        (choose (key 19) lock_by
        (structure_by d))))))) ts

  -- a type inside brackets, of which one is counted already: inside none nothing is asked
  unfoldable pub below : ℕ → List Token → Read Token SurfaceType
  below zero ts = Err (Wrong ts)
  below (suc d) ts = type_by d (below d) ts

  -- where so many brackets may be opened: a type, an atom, atoms
  abbrev pub type_at : ℕ → List Token → Read Token SurfaceType
  type_at d = below (suc d)

  abbrev pub atom_at : ℕ → List Token → Read Token SurfaceAtom
  atom_at d = atom_by (type_at d)

  abbrev pub atoms_at : ℕ → List Token → Read Token (List SurfaceAtom)
  atoms_at d = atoms_by (type_at d)
