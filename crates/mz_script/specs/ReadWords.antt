-- Types and permissions as functions that read from the front of bytes. d is how many brackets may be opened more, and
-- `inner` reads a type inside a bracket.
use Rattle.std.specs.Prelude.{ℕ, zero, suc, ◌==◌, Bool, List, [], ◌∷◌, map, Option, Some, None, Ok, Err, codes, slice_get, if◌then◌else◌}
use Rattle.std.specs.Str.{bytes_eq}
use Rattle.mz_grammar.specs.Reading.{Read, Wrong, ◌>>=◌, many}
use Rattle.mz_tree.specs.Plain.{Ty, Atom, Int_type, Unknown_type, Dynamic_type, Locked_type, Named_type, Function_type, Block_type, Lock_type, Has_atom, Same_atom, atoms_of}
use Rattle.mz_tree.specs.Programs.{Variety, Con, Field, Sig, Program}
use Rattle.mz_tree.specs.Spellings.{number_in}
use Rattle.mz_script.specs.Words.{con_fields}
use Rattle.mz_script.specs.Fronts.{choose_text, found_or, text_at, behind, image, word_at, name_at}

-- a bracket, where one may be opened
unfoldable pub opening_at : ℕ → List ℕ → List ℕ → Read ℕ (Unit {0})
opening_at zero text bytes = Err (Wrong bytes)
opening_at (suc d) text bytes = text_at text bytes

-- the types that are one word, whatever is declared
abbrev pub word_type : List ℕ → Option (Ty ℕ)
word_type word =
    if bytes_eq word (codes "int") then Some Int_type
    else (if bytes_eq word (codes "unknown") then Some Unknown_type
    else (if bytes_eq word (codes "dynamic") then Some Dynamic_type
    else (if bytes_eq word (codes "locked") then Some Locked_type
    else None)))

-- the first that is found
abbrev pub or_else : {A : Type 0} → Option A → Option A → Option A
or_else None b = b
or_else (Some a) b = Some a

abbrev pub as_type : (ℕ → Ty ℕ) → Option ℕ → Option (Ty ℕ)
as_type type None = None
as_type type (Some n) = Some (type n)

-- a space
abbrev pub is_space : ℕ → Bool
is_space b = b == 32

-- the name that a field has, behind the field and what stands before it
unfoldable pub field_by : List ℕ → List ℕ → List ℕ → Read ℕ ℕ
field_by before field bytes = text_at before bytes >>= λ a. text_at field a.1 >>= λ b. text_at (codes " = ") b.1 >>= λ c. name_at c.1

-- the names of a constructor's fields, each behind its field
unfoldable pub fields_at : List ℕ → List Field → List ℕ → Read ℕ (List ℕ)
fields_at before [] bytes = Ok ([], bytes)
fields_at before (f ∷ fields) bytes =
    text_at before bytes >>= λ a. text_at f.name a.1 >>= λ b. text_at (codes " = ") b.1 >>= λ c. name_at c.1 >>= λ n. fields_at (codes "; ") fields n.1 >>= λ ns. Ok (n.0 ∷ ns.0, ns.1)

-- the number of a declaration by its name
abbrev pub variety_named : List Variety → List ℕ → Option ℕ
variety_named varieties word = number_in (map (λ (v : Variety). v.name) varieties) word

abbrev pub sig_named : List Sig → List ℕ → Option ℕ
sig_named sigs word = number_in (map (λ (s : Sig). s.name) sigs) word

abbrev pub con_named : List Con → List ℕ → Option ℕ
con_named cons word = number_in (map (λ (c : Con). c.name) cons) word

module _ (p : Program) where
  unfoldable pub data_of : List ℕ → Option ℕ
  data_of word = variety_named p.varieties word

  unfoldable pub sig_of : List ℕ → Option ℕ
  sig_of word = sig_named p.sigs word

  unfoldable pub con_of : List ℕ → Option ℕ
  con_of word = con_named p.cons word

  unfoldable pub data_at : List ℕ → Read ℕ ℕ
  data_at bytes = word_at bytes >>= λ w. found_or bytes w.1 (data_of w.0)

  -- a word that is a type
  unfoldable pub known_type : List ℕ → Option (Ty ℕ)
  known_type word = or_else (word_type word) (or_else (as_type Named_type (data_of word)) (as_type Function_type (sig_of word)))

  -- what a structural type adopts
  unfoldable pub adopts_at : List ℕ → Read ℕ (Option ℕ)
  adopts_at = choose_text (codes " adopts ") (image Some data_at) (λ bytes. Ok (None, bytes))

  -- a structural type behind its constructor
  unfoldable pub block_at : ℕ → ℕ → List ℕ → Read ℕ (Ty ℕ)
  block_at d con bytes =
      opening_at d (codes " {") bytes >>= λ o. fields_at (codes " ") (con_fields (slice_get p.cons con)) o.1 >>= λ ns. text_at (codes " }") ns.1 >>= λ e.
      adopts_at e.1 >>= λ a. Ok (Block_type con ns.0 a.0, a.1)

  abbrev pub block_or : ℕ → List ℕ → List ℕ → Option ℕ → Read ℕ (Ty ℕ)
  block_or d bytes rest None = Err (Wrong bytes)
  block_or d bytes rest (Some con) = block_at d con rest

  abbrev pub known_or : ℕ → List ℕ → List ℕ → Option ℕ → Option (Ty ℕ) → Read ℕ (Ty ℕ)
  known_or d bytes rest con None = block_or d bytes rest con
  known_or d bytes rest con (Some t) = Ok (t, rest)

  module _ (inner : List ℕ → Read ℕ (Ty ℕ)) where
    -- a permission: what a name holds, or which it equals
    unfoldable pub holds_at : ℕ → List ℕ → Read ℕ (Atom ℕ)
    holds_at x = image (Has_atom x) inner

    unfoldable pub equals_at : ℕ → List ℕ → Read ℕ (Atom ℕ)
    equals_at x = behind (codes " = ") (image (Same_atom x) name_at)

    unfoldable pub atom_by : List ℕ → Read ℕ (Atom ℕ)
    atom_by bytes = name_at bytes >>= λ x. choose_text (codes " @ ") (holds_at x.0) (equals_at x.0) x.1

    unfoldable pub next_atom_by : List ℕ → Read ℕ (Atom ℕ)
    next_atom_by = behind (codes " * ") atom_by

    unfoldable pub atoms_by : List ℕ → Read ℕ (List (Atom ℕ))
    atoms_by bytes = atom_by bytes >>= λ a. many is_space next_atom_by a.1 >>= λ rest. Ok (a.0 ∷ rest.0, rest.1)

    -- a lock behind its word
    unfoldable pub lock_by : ℕ → List ℕ → Read ℕ (Ty ℕ)
    lock_by d bytes = opening_at d (codes " (") bytes >>= λ o. atoms_by o.1 >>= λ guarded. text_at (codes ")") guarded.1 >>= λ e. Ok (Lock_type (atoms_of guarded.0), e.1)

    unfoldable pub type_by : ℕ → List ℕ → Read ℕ (Ty ℕ)
    type_by d bytes = word_at bytes >>= λ w.
        if bytes_eq w.0 (codes "lock") then lock_by d w.1 else known_or d bytes w.1 (con_of w.0) (known_type w.0)

  -- a type inside brackets, of which one is counted already: inside none nothing is asked
  unfoldable pub below : ℕ → List ℕ → Read ℕ (Ty ℕ)
  below zero bytes = Err (Wrong bytes)
  below (suc d) bytes = type_by (below d) d bytes

  -- a permission of a line, and permissions
  abbrev pub atom_at : List ℕ → Read ℕ (Atom ℕ)
  atom_at = atom_by (below 201)

  abbrev pub atoms_at : List ℕ → Read ℕ (List (Atom ℕ))
  atoms_at = atoms_by (below 201)
