-- How the parts of a line are spelled, for a program: names, declarations by their names, types and permissions. A number is
-- spelled in decimal, without leading zero.
use Rattle.std.specs.Prelude.{ℕ, List, [], ◌∷◌, ◌++◌, Option, Some, None, codes, decimal, slice_get}
use Rattle.mz_tree.specs.Plain.{Ty, Atom, Atoms, Int_type, Unknown_type, Dynamic_type, Locked_type, Named_type, Function_type, Block_type, Lock_type, Has_atom, Same_atom, No_atoms, More_atoms}
use Rattle.mz_tree.specs.Programs.{Variety, Con, Field, Sig, Program}

-- a name: % and its number
abbrev pub name_text : ℕ → List ℕ
name_text n = 37 ∷ decimal n

-- the name of a declaration; nothing where there is none of that number
abbrev pub variety_name : Option Variety → List ℕ
variety_name None = []
variety_name (Some v) = v.name

abbrev pub sig_name : Option Sig → List ℕ
sig_name None = []
sig_name (Some s) = s.name

abbrev pub con_name : Option Con → List ℕ
con_name None = []
con_name (Some c) = c.name

-- the fields of a constructor
abbrev pub con_fields : Option Con → List Field
con_fields None = []
con_fields (Some c) = c.fields

-- each field with its name, after what stands before the first and before each other
abbrev pub fields_text : List ℕ → List Field → List ℕ → List ℕ
fields_text before [] names = []
fields_text before (f ∷ fields) [] = []
fields_text before (f ∷ fields) (n ∷ names) = before ++ (f.name ++ (codes " = " ++ (name_text n ++ fields_text (codes "; ") fields names)))

module _ (p : Program) where
  -- a data type, a signature and a constructor by their numbers
  abbrev pub data_text : ℕ → List ℕ
  data_text d = variety_name (slice_get p.varieties d)

  abbrev pub sig_text : ℕ → List ℕ
  sig_text s = sig_name (slice_get p.sigs s)

  -- what a structural type adopts
  abbrev pub adopts_text : Option ℕ → List ℕ
  adopts_text None = []
  adopts_text (Some d) = codes " adopts " ++ data_text d

  -- a structural type: a constructor with its fields in declared order
  abbrev pub block_text : ℕ → List ℕ → Option ℕ → List ℕ
  block_text con names adopts =
      con_name (slice_get p.cons con) ++ (codes " {" ++ (fields_text (codes " ") (con_fields (slice_get p.cons con)) names ++ (codes " }" ++ adopts_text adopts)))

  abbrev mutual
    pub type_text : Ty ℕ → List ℕ
    type_text Int_type = codes "int"
    type_text Unknown_type = codes "unknown"
    type_text Dynamic_type = codes "dynamic"
    type_text Locked_type = codes "locked"
    type_text (Named_type d) = data_text d
    type_text (Function_type s) = sig_text s
    type_text (Block_type con names adopts) = block_text con names adopts
    type_text (Lock_type guarded) = codes "lock (" ++ (atoms_text guarded ++ codes ")")

    pub atom_text : Atom ℕ → List ℕ
    atom_text (Has_atom x t) = name_text x ++ (codes " @ " ++ type_text t)
    atom_text (Same_atom x y) = name_text x ++ (codes " = " ++ name_text y)

    -- permissions with a star between each two
    pub atoms_text : Atoms ℕ → List ℕ
    atoms_text No_atoms = []
    atoms_text (More_atoms a rest) = atom_text a ++ more_text rest

    pub more_text : Atoms ℕ → List ℕ
    more_text No_atoms = []
    more_text (More_atoms a rest) = codes " * " ++ (atom_text a ++ more_text rest)
