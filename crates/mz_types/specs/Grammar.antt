-- The grammar of types and atoms, one line for each alternative. Keys and marks stand by their numbers in the tables of the tokens.
--
--     type  = "int" | "unknown" | "dynamic" | "locked" | "=" low | low | "lock" "(" atoms ")"
--           | up "{" [ field { ";" field } ] "}" [ "adopts" low ]
--     field = low "=" low
--     atom  = name "@" type | name "=" name
--     atoms = atom { "*" atom }
--     name  = low, and "result" too where the atoms speak of a value that is called so
--
-- Where `result` may stand it may stand in the atoms of a lock too, and in no other part of a type.
use Rattle.std.specs.Prelude.{Bool, List, [], ◌∷◌}
use Rattle.mz_grammar.specs.Relations.{Nothing, Then, Either, Image, Maybe, Many, Layered}
use Rattle.mz_token.specs.declared.token.Token.{Token}
use Rattle.mz_types.specs.declared.tree.FieldName.{FieldName}
use Rattle.mz_types.specs.declared.tree.SurfaceType.{SurfaceType, Int, Unknown, Dynamic, Locked, Singleton, Named, Lock, Structure}
use Rattle.mz_types.specs.declared.tree.SurfaceAtom.{SurfaceAtom, Has, Same}
use Rattle.mz_types.specs.Words.{Spelling, Low, Up, Key, Mark, Name}
use Rattle.mz_types.specs.Trees.{field_name_of}

-- ---- structural types and singletons

-- low "=" low
abbrev pub IsField : Spelling FieldName
IsField = Then Low (λ field. Then (Mark 8) (λ is. Image (field_name_of field) Low))

-- field { ";" field }
abbrev pub IsFields : Spelling (List FieldName)
IsFields = Then IsField (λ one. Image (λ others. one ∷ others) (Many (Then (Mark 4) (λ semicolon. IsField))))

-- "adopts" low
abbrev pub IsClause : Spelling Token
IsClause = Then (Key 2) (λ adopts. Low)

-- up "{" [ field { ";" field } ] "}" [ "adopts" low ]
abbrev pub IsStructure : Spelling SurfaceType
IsStructure = Then Up (λ con. Then (Mark 0) (λ opening. Then (Either (Nothing []) IsFields) (λ fields. Then (Mark 1) (λ closing. Image (Structure con fields) (Maybe IsClause)))))

-- "=" low
abbrev pub IsSingleton : Spelling SurfaceType
IsSingleton = Then (Mark 8) (λ is. Image (Singleton is) Low)

-- ---- atoms and types, where X says what a type is that stands in an atom

-- "@" type, behind a name
abbrev pub HasOver : Spelling SurfaceType → Token → Spelling SurfaceAtom
HasOver X name = Then (Mark 22) (λ at. Image (Has name) X)

module _ (result : Bool) where
  -- "=" name, behind a name
  abbrev pub IsSame : Token → Spelling SurfaceAtom
  IsSame left = Then (Mark 8) (λ is. Image (Same left) (Name result))

  module _ (X : Spelling SurfaceType) where
    -- name "@" type | name "=" name
    abbrev pub AtomOver : Spelling SurfaceAtom
    AtomOver = Then (Name result) (λ name. Either (HasOver X name) (IsSame name))

    -- atom { "*" atom }
    abbrev pub AtomsOver : Spelling (List SurfaceAtom)
    AtomsOver = Then AtomOver (λ one. Image (λ others. one ∷ others) (Many (Then (Mark 9) (λ star. AtomOver))))

    -- "lock" "(" atoms ")"
    abbrev pub LockOver : Spelling SurfaceType
    LockOver = Then (Key 19) (λ word. Then (Mark 2) (λ opening. Then AtomsOver (λ guarded. Image (λ closing. Lock word guarded) (Mark 3))))

    abbrev pub TypeOver : Spelling SurfaceType
    TypeOver =
        Either (Image Int (Key 25))
        (Either (Image Unknown (Key 26))
        (Either (Image Dynamic (Key 27))
        (Either (Image Locked (Key 20))
        (Either IsSingleton
        (Either (Image Named Low)
        (Either LockOver
        IsStructure))))))

  -- a type, with locks in locks as deep as may be
  abbrev pub IsType : Spelling SurfaceType
  IsType = Layered TypeOver

  abbrev pub IsAtom : Spelling SurfaceAtom
  IsAtom = AtomOver IsType

  abbrev pub IsAtoms : Spelling (List SurfaceAtom)
  IsAtoms = AtomsOver IsType
