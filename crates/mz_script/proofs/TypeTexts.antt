-- Types and permissions that are spelled are read.
use Rattle.std.proofs.Common.{◌≡◌, ◌==◌, ◌≤◌, ◌<◌, ◌^◌, ℕ, zero, suc, Bool, true, false, List, [], ◌∷◌, ◌++◌, length, Option, Some, None, IfSome, Ok, slice_get, codes, if◌then◌else◌, refl, ap, ◌∙◌, append_assoc, arith, length-append}
use Rattle.std.specs.List.{list_all}
use Rattle.std.specs.Str.{bytes_eq}
use Rattle.mz_grammar.specs.Reading.{Read, ◌>>=◌, many, many_at}
use Rattle.mz_tree.specs.Bytes.{is_name_byte}
use Rattle.mz_tree.specs.Plain.{Ty, Atom, Atoms, Int_type, Unknown_type, Dynamic_type, Locked_type, Named_type, Function_type, Block_type, Lock_type, Has_atom, Same_atom, No_atoms, More_atoms, list_of, atoms_of}
use Rattle.mz_tree.specs.Programs.{Con, Field, Program}
use Rattle.mz_tree.specs.Scoped.{Each, HasFields, FitsType, FitsAtom, FitsAtoms, depth_of, atom_depth, depth_in}
use Rattle.mz_tree.proofs.Chains.{atoms_of_list}
use Rattle.mz_script.specs.Words.{name_text, data_text, sig_text, con_name, con_fields, fields_text, adopts_text, block_text, type_text, atom_text, more_text}
use Rattle.mz_script.specs.Fronts.{behind_text, chosen, choose_text, found_or, text_at, image, word_at, name_at}
use Rattle.mz_script.specs.ReadWords.{opening_at, fields_at, data_of, con_of, data_at, known_type, adopts_at, block_at, block_or, known_or, holds_at, equals_at, atom_by, next_atom_by, is_space, atoms_by, lock_by, type_by, below}
use Rattle.mz_script.proofs.Undoing.{NoName, goes, text_read, text_found, word_read, image_read}
use Rattle.mz_script.proofs.Numerals.{name_never}

-- what may follow a type: no byte of a name, and no clause
pub record AfterType (rest : List ℕ) : Type 0 where
  pub no_name : NoName rest
  pub no_clause : behind_text (codes " adopts ") rest ≡ None

-- what may follow the last of permissions: nor another
abbrev pub no_space : List ℕ → Bool
no_space [] = true
no_space (b ∷ rest) = if b == 32 then false else true

pub record AfterAll (rest : List ℕ) : Type 0 where
  pub after : AfterType rest
  pub no_more : no_space rest ≡ true

-- the names of a program's declarations are words, and stand for one thing alone
pub record OwnNames (p : Program) : Type 0 where
  pub data_named : (d : ℕ) → d < length p.varieties → (data_of p (data_text p d) ≡ Some d) × (list_all is_name_byte (data_text p d) ≡ true)
  pub data_known : (d : ℕ) → d < length p.varieties → (known_type p (data_text p d) ≡ Some (Named_type d)) × (bytes_eq (data_text p d) (codes "lock") ≡ false)
  pub data_no_clause : (d : ℕ) → d < length p.varieties → data_text p d ≡ codes "adopts" → ⊥
  pub sig_known : (s : ℕ) → s < length p.sigs → (known_type p (sig_text p s) ≡ Some (Function_type s)) × (bytes_eq (sig_text p s) (codes "lock") ≡ false) × (list_all is_name_byte (sig_text p s) ≡ true)
  pub con_known : (k : ℕ) (c : Con) → slice_get p.cons k ≡ Some c → (con_of p c.name ≡ Some k) × (known_type p c.name ≡ None) × (bytes_eq c.name (codes "lock") ≡ false) × (list_all is_name_byte c.name ≡ true)

-- ---- fields

fields_read : (before : List ℕ) (fields : List Field) (names rest : List ℕ) → length fields ≡ length names → Each (λ _ n. n < 2 ^ 32) names → NoName rest → fields_at before fields (fields_text before fields names ++ rest) ≡ Ok (names, rest)
unfolding fields_at
fields_read before [] [] rest same known f = refl
fields_read before [] (n ∷ names) rest same known f = absurd (omega (arith, same))
fields_read before (g ∷ fields) [] rest same known f = absurd (omega (arith, same))
fields_read before (g ∷ fields) (n ∷ names) rest same known f =
    let more : List ℕ = fields_text (codes "; ") fields names in
    let behind_name : List ℕ = more ++ rest in
    let behind_is : List ℕ = name_text n ++ behind_name in
    let behind_field : List ℕ = codes " = " ++ behind_is in
    let split : (before ++ (g.name ++ (codes " = " ++ (name_text n ++ more)))) ++ rest ≡ before ++ (g.name ++ behind_field) = simp append_assoc in
    ap (fields_at before (g ∷ fields)) split
    ∙ goes (text_at before (before ++ (g.name ++ behind_field))) (λ a. text_at g.name a.1 >>= λ b. text_at (codes " = ") b.1 >>= λ c. name_at c.1 >>= λ m. fields_at (codes "; ") fields m.1 >>= λ ns. Ok (m.0 ∷ ns.0, ns.1)) (tt, g.name ++ behind_field) (text_read before (g.name ++ behind_field))
    ∙ goes (text_at g.name (g.name ++ behind_field)) (λ b. text_at (codes " = ") b.1 >>= λ c. name_at c.1 >>= λ m. fields_at (codes "; ") fields m.1 >>= λ ns. Ok (m.0 ∷ ns.0, ns.1)) (tt, behind_field) (text_read g.name behind_field)
    ∙ goes (text_at (codes " = ") behind_field) (λ c. name_at c.1 >>= λ m. fields_at (codes "; ") fields m.1 >>= λ ns. Ok (m.0 ∷ ns.0, ns.1)) (tt, behind_is) (text_read (codes " = ") behind_is)
    ∙ goes (name_at behind_is) (λ m. fields_at (codes "; ") fields m.1 >>= λ ns. Ok (m.0 ∷ ns.0, ns.1)) (n, behind_name) (name_never.is n behind_name (known 0 n refl) (follows fields names))
    ∙ goes (fields_at (codes "; ") fields behind_name) (λ ns. Ok (n ∷ ns.0, ns.1)) (names, rest) (fields_read (codes "; ") fields names rest (omega (arith, same)) (λ k m e. known (suc k) m e) f)
  where
    follows : (fields : List Field) (names : List ℕ) → NoName (fields_text (codes "; ") fields names ++ rest)
    follows [] names = f
    follows (h ∷ fields) [] = f
    follows (h ∷ fields) (m ∷ names) = refl

module _ (p : Program) (N : OwnNames p) where
  -- ---- words

  data_read : (d : ℕ) (rest : List ℕ) → d < length p.varieties → NoName rest → data_at p (data_text p d ++ rest) ≡ Ok (d, rest)
  unfolding data_at
  data_read d rest h f =
      let it = N.data_named d h in
      goes (word_at (data_text p d ++ rest)) (λ w. found_or (data_text p d ++ rest) w.1 (data_of p w.0)) (data_text p d, rest) (word_read (data_text p d) rest it.1 f) ∙ ap (found_or (data_text p d ++ rest) rest) it.0

  adopts_read : (adopts : Option ℕ) (rest : List ℕ) → IfSome adopts (λ d. d < length p.varieties) → AfterType rest → adopts_at p (adopts_text p adopts ++ rest) ≡ Ok (adopts, rest)
  unfolding adopts_at choose_text
  adopts_read None rest h f = ap (chosen (image Some (data_at p)) (λ bytes. Ok (None, bytes)) rest) f.no_clause
  adopts_read (Some d) rest h f =
      ap (chosen (image Some (data_at p)) (λ bytes. Ok (None, bytes)) ((codes " adopts " ++ data_text p d) ++ rest)) (text_found (codes " adopts ") (data_text p d ++ rest))
      ∙ goes (data_at p (data_text p d ++ rest)) (λ x. Ok (Some x.0, x.1)) (d, rest) (data_read d rest h f.no_name)

  module _ (inner : List ℕ → Read ℕ (Ty ℕ)) (d : ℕ) where
    known_read : (word : List ℕ) (t : Ty ℕ) (rest : List ℕ) → list_all is_name_byte word ≡ true → bytes_eq word (codes "lock") ≡ false → known_type p word ≡ Some t → NoName rest → type_by p inner d (word ++ rest) ≡ Ok (t, rest)
    unfolding type_by
    known_read word t rest named no_lock known f =
        goes (word_at (word ++ rest)) (λ w. if bytes_eq w.0 (codes "lock") then lock_by p inner d w.1 else known_or p d (word ++ rest) w.1 (con_of p w.0) (known_type p w.0)) (word, rest) (word_read word rest named f)
        ∙ ap (λ b. if b then lock_by p inner d rest else known_or p d (word ++ rest) rest (con_of p word) (known_type p word)) no_lock ∙ ap (known_or p d (word ++ rest) rest (con_of p word)) known

    con_read : (k : ℕ) (c : Con) (t : Ty ℕ) (rest q : List ℕ) → slice_get p.cons k ≡ Some c → NoName rest → block_at p d k rest ≡ Ok (t, q) → type_by p inner d (c.name ++ rest) ≡ Ok (t, q)
    unfolding type_by
    con_read k c t rest q e f block =
        let it = N.con_known k c e in
        goes (word_at (c.name ++ rest)) (λ w. if bytes_eq w.0 (codes "lock") then lock_by p inner d w.1 else known_or p d (c.name ++ rest) w.1 (con_of p w.0) (known_type p w.0)) (c.name, rest) (word_read c.name rest it.3 f)
        ∙ ap (λ b. if b then lock_by p inner d rest else known_or p d (c.name ++ rest) rest (con_of p c.name) (known_type p c.name)) it.2
        ∙ ap (known_or p d (c.name ++ rest) rest (con_of p c.name)) it.1 ∙ ap (block_or p d (c.name ++ rest) rest) it.0 ∙ block

    lock_read : (t : Ty ℕ) (rest q : List ℕ) → NoName rest → lock_by p inner d rest ≡ Ok (t, q) → type_by p inner d (codes "lock" ++ rest) ≡ Ok (t, q)
    unfolding type_by
    lock_read t rest q f lock = goes (word_at (codes "lock" ++ rest)) (λ w. if bytes_eq w.0 (codes "lock") then lock_by p inner d w.1 else known_or p d (codes "lock" ++ rest) w.1 (con_of p w.0) (known_type p w.0)) (codes "lock", rest) (word_read (codes "lock") rest refl f) ∙ lock

  block_read : (d con : ℕ) (names rest : List ℕ) (adopts : Option ℕ) → HasFields p con (length names) → Each (λ _ n. n < 2 ^ 32) names → IfSome adopts (λ u. u < length p.varieties) → AfterType rest →
      block_at p (suc d) con (codes " {" ++ (fields_text (codes " ") (con_fields (slice_get p.cons con)) names ++ (codes " }" ++ (adopts_text p adopts ++ rest)))) ≡ Ok (Block_type con names adopts, rest)
  unfolding block_at opening_at
  block_read d con names rest adopts has known adopted f =
      let fields : List Field = con_fields (slice_get p.cons con) in
      let back : List ℕ = adopts_text p adopts ++ rest in
      let closing : List ℕ = codes " }" ++ back in
      let inside : List ℕ = fields_text (codes " ") fields names ++ closing in
      let count : length fields ≡ length names = ap (λ o. length (con_fields o)) has.declared ∙ has.fields in
      goes (text_at (codes " {") (codes " {" ++ inside)) (λ o. fields_at (codes " ") fields o.1 >>= λ ns. text_at (codes " }") ns.1 >>= λ e. adopts_at p e.1 >>= λ a. Ok (Block_type con ns.0 a.0, a.1)) (tt, inside) (text_read (codes " {") inside)
      ∙ goes (fields_at (codes " ") fields inside) (λ ns. text_at (codes " }") ns.1 >>= λ e. adopts_at p e.1 >>= λ a. Ok (Block_type con ns.0 a.0, a.1)) (names, closing) (fields_read (codes " ") fields names closing count known refl)
      ∙ goes (text_at (codes " }") closing) (λ e. adopts_at p e.1 >>= λ a. Ok (Block_type con names a.0, a.1)) (tt, back) (text_read (codes " }") back)
      ∙ goes (adopts_at p back) (λ a. Ok (Block_type con names a.0, a.1)) (adopts, rest) (adopts_read adopts rest adopted f)

  more_follows : (guarded : Atoms ℕ) (rest : List ℕ) → AfterType rest → AfterType (more_text p guarded ++ rest)
  more_follows No_atoms rest f = f
  more_follows (More_atoms a guarded) rest f = record { no_name = refl; no_clause = refl }

  int_known : known_type p (codes "int") ≡ Some Int_type
  unfolding known_type
  int_known = refl

  unknown_known : known_type p (codes "unknown") ≡ Some Unknown_type
  unfolding known_type
  unknown_known = refl

  dynamic_known : known_type p (codes "dynamic") ≡ Some Dynamic_type
  unfolding known_type
  dynamic_known = refl

  locked_known : known_type p (codes "locked") ≡ Some Locked_type
  unfolding known_type
  locked_known = refl

  -- each permission takes a byte at least
  enough_bytes : (guarded : Atoms ℕ) (rest : List ℕ) → length (list_of guarded) ≤ length (more_text p guarded ++ rest)
  enough_bytes No_atoms rest = omega arith
  enough_bytes (More_atoms a guarded) rest =
      let more = enough_bytes guarded rest in
      omega (arith, more, length-append (atom_text p a ++ more_text p guarded) rest, length-append (atom_text p a) (more_text p guarded), length-append (more_text p guarded) rest)

  no_others : (b : ℕ) (rest : List ℕ) (A : Type 0) (x y : A) → no_space (b ∷ rest) ≡ true → (if b == 32 then x else y) ≡ y
  no_others b rest A x y h = by_test (b == 32) h
    where
      by_test : (t : Bool) → (if t then false else true) ≡ true → (if t then x else y) ≡ y
      by_test true e = cc
      by_test false e = refl

  -- nothing more is read where no space follows
  none_more : (r : List ℕ → Read ℕ (Atom ℕ)) (n : ℕ) (rest : List ℕ) → no_space rest ≡ true → many_at is_space r n rest ≡ Ok ([], rest)
  unfolding many_at
  none_more r zero rest h = refl
  none_more r (suc n) [] h = refl
  none_more r (suc n) (b ∷ rest) h = no_others b rest _ _ _ h

  -- one and those after it
  all_from : (a : Atom ℕ) (guarded : Atoms ℕ) (d : ℕ) (rest : List ℕ) → atom_by p (below p (suc d)) (atom_text p a ++ (more_text p guarded ++ rest)) ≡ Ok (a, more_text p guarded ++ rest) →
      many_at is_space (next_atom_by p (below p (suc d))) (length (more_text p guarded ++ rest)) (more_text p guarded ++ rest) ≡ Ok (list_of guarded, rest) →
      atoms_by p (below p (suc d)) (atom_text p a ++ (more_text p guarded ++ rest)) ≡ Ok (a ∷ list_of guarded, rest)
  unfolding atoms_by
  all_from a guarded d rest one others =
      goes (atom_by p (below p (suc d)) (atom_text p a ++ (more_text p guarded ++ rest))) (λ x. many is_space (next_atom_by p (below p (suc d))) x.1 >>= λ xs. Ok (x.0 ∷ xs.0, xs.1)) (a, more_text p guarded ++ rest) one
      ∙ goes (many_at is_space (next_atom_by p (below p (suc d))) (length (more_text p guarded ++ rest)) (more_text p guarded ++ rest)) (λ xs. Ok (a ∷ xs.0, xs.1)) (list_of guarded, rest) others

  -- ---- types, by going through them: each is read where so many brackets as it needs may be opened

  mutual
    unfolding atom_by choose_text holds_at equals_at below many_at next_atom_by lock_by opening_at

    pub type_read : (t : Ty ℕ) (d : ℕ) (rest : List ℕ) → FitsType p (λ n. n < 2 ^ 32) t → depth_of t ≤ d → AfterType rest → type_by p (below p d) d (type_text p t ++ rest) ≡ Ok (t, rest)
    type_read Int_type d rest fits deep f = known_read (below p d) d (codes "int") Int_type rest refl refl int_known f.no_name
    type_read Unknown_type d rest fits deep f = known_read (below p d) d (codes "unknown") Unknown_type rest refl refl unknown_known f.no_name
    type_read Dynamic_type d rest fits deep f = known_read (below p d) d (codes "dynamic") Dynamic_type rest refl refl dynamic_known f.no_name
    type_read Locked_type d rest fits deep f = known_read (below p d) d (codes "locked") Locked_type rest refl refl locked_known f.no_name
    type_read (Named_type v) d rest fits deep f = known_read (below p d) d (data_text p v) (Named_type v) rest (N.data_named v fits).1 (N.data_known v fits).1 (N.data_known v fits).0 f.no_name
    type_read (Function_type s) d rest fits deep f = known_read (below p d) d (sig_text p s) (Function_type s) rest (N.sig_known s fits).2 (N.sig_known s fits).1 (N.sig_known s fits).0 f.no_name
    type_read (Block_type con names adopts) zero rest fits deep f = absurd (omega (arith, deep))
    type_read (Block_type con names adopts) (suc d) rest (has, known, adopted) deep f =
        let fields : List ℕ = fields_text (codes " ") (con_fields (slice_get p.cons con)) names in
        let back : List ℕ = codes " {" ++ (fields ++ (codes " }" ++ (adopts_text p adopts ++ rest))) in
        let split : block_text p con names adopts ++ rest ≡ con_name (slice_get p.cons con) ++ back = simp append_assoc in
        ap (type_by p (below p (suc d)) (suc d)) (split ∙ ap (λ o. con_name o ++ back) has.declared)
        ∙ con_read (below p (suc d)) (suc d) con has.found (Block_type con names adopts) back rest has.declared refl (block_read d con names rest adopts has known adopted f)
    type_read (Lock_type guarded) zero rest fits deep f = absurd (omega (arith, deep))
    type_read (Lock_type No_atoms) (suc d) rest (some, fits) deep f = absurd (some refl)
    type_read (Lock_type (More_atoms a guarded)) (suc d) rest (some, (first, others)) deep f =
        let back : List ℕ = codes ")" ++ rest in
        let inside : List ℕ = atom_text p a ++ (more_text p guarded ++ back) in
        let split : type_text p (Lock_type (More_atoms a guarded)) ++ rest ≡ codes "lock" ++ (codes " (" ++ inside) = simp append_assoc in
        let it : Ty ℕ = Lock_type (More_atoms a guarded) in
        ap (type_by p (below p (suc d)) (suc d)) split
        ∙ lock_read (below p (suc d)) (suc d) it (codes " (" ++ inside) rest refl
        (goes (text_at (codes " (") (codes " (" ++ inside)) (λ o. atoms_by p (below p (suc d)) o.1 >>= λ g. text_at (codes ")") g.1 >>= λ e. Ok (Lock_type (atoms_of g.0), e.1)) (tt, inside) (text_read (codes " (") inside)
        ∙ goes (atoms_by p (below p (suc d)) inside) (λ g. text_at (codes ")") g.1 >>= λ e. Ok (Lock_type (atoms_of g.0), e.1)) (a ∷ list_of guarded, back)
        (all_from a guarded d back (atom_read a d (more_text p guarded ++ back) first (omega (arith, deep)) (more_follows guarded back (record { no_name = refl; no_clause = refl })))
        (more_read guarded d (length (more_text p guarded ++ back)) back others (omega (arith, deep)) (enough_bytes guarded back) (record { after = record { no_name = refl; no_clause = refl }; no_more = refl })))
        ∙ goes (text_at (codes ")") back) (λ e. Ok (Lock_type (More_atoms a (atoms_of (list_of guarded))), e.1)) (tt, rest) (text_read (codes ")") rest)
        ∙ ap (λ g. Ok (Lock_type (More_atoms a g), rest)) (atoms_of_list guarded))

    pub atom_read : (a : Atom ℕ) (d : ℕ) (rest : List ℕ) → FitsAtom p (λ n. n < 2 ^ 32) a → atom_depth a ≤ d → AfterType rest → atom_by p (below p (suc d)) (atom_text p a ++ rest) ≡ Ok (a, rest)
    atom_read (Has_atom x t) d rest (known, fits) deep f =
        let inside : List ℕ = type_text p t ++ rest in
        let behind_is : List ℕ = codes " @ " ++ inside in
        ap (atom_by p (below p (suc d))) (append_assoc (name_text x) (codes " @ " ++ type_text p t) rest)
        ∙ goes (name_at (name_text x ++ behind_is)) (λ y. choose_text (codes " @ ") (holds_at p (below p (suc d)) y.0) (equals_at p (below p (suc d)) y.0) y.1) (x, behind_is) (name_never.is x behind_is known refl)
        ∙ goes (below p (suc d) inside) (λ y. Ok (Has_atom x y.0, y.1)) (t, rest) (type_read t d rest fits deep f)
    atom_read (Same_atom x y) d rest (known, other) deep f =
        let inside : List ℕ = name_text y ++ rest in
        let behind_is : List ℕ = codes " = " ++ inside in
        ap (atom_by p (below p (suc d))) (append_assoc (name_text x) (codes " = " ++ name_text y) rest)
        ∙ goes (name_at (name_text x ++ behind_is)) (λ z. choose_text (codes " @ ") (holds_at p (below p (suc d)) z.0) (equals_at p (below p (suc d)) z.0) z.1) (x, behind_is) (name_never.is x behind_is known refl)
        ∙ goes (text_at (codes " = ") behind_is) (λ s. image (Same_atom x) name_at s.1) (tt, inside) (text_read (codes " = ") inside)
        ∙ image_read name_never (Same_atom x) y rest other f.no_name

    pub more_read : (guarded : Atoms ℕ) (d n : ℕ) (rest : List ℕ) → FitsAtoms p (λ n. n < 2 ^ 32) guarded → depth_in guarded ≤ d → length (list_of guarded) ≤ n → AfterAll rest →
        many_at is_space (next_atom_by p (below p (suc d))) n (more_text p guarded ++ rest) ≡ Ok (list_of guarded, rest)
    more_read No_atoms d n rest fits deep enough f = none_more (next_atom_by p (below p (suc d))) n rest f.no_more
    more_read (More_atoms a guarded) d zero rest fits deep enough f = absurd (omega (arith, enough))
    more_read (More_atoms a guarded) d (suc n) rest (first, others) deep enough f =
        let back : List ℕ = more_text p guarded ++ rest in
        let inside : List ℕ = atom_text p a ++ back in
        ap (λ l. many_at is_space (next_atom_by p (below p (suc d))) (suc n) (codes " * " ++ l)) (append_assoc (atom_text p a) (more_text p guarded) rest)
        ∙ goes (next_atom_by p (below p (suc d)) (codes " * " ++ inside)) (λ x. many_at is_space (next_atom_by p (below p (suc d))) n x.1 >>= λ xs. Ok (x.0 ∷ xs.0, xs.1)) (a, back)
        (goes (text_at (codes " * ") (codes " * " ++ inside)) (λ s. atom_by p (below p (suc d)) s.1) (tt, inside) (text_read (codes " * ") inside)
        ∙ atom_read a d back first (omega (arith, deep)) (more_follows guarded rest f.after))
        ∙ goes (many_at is_space (next_atom_by p (below p (suc d))) n back) (λ xs. Ok (a ∷ xs.0, xs.1)) (list_of guarded, rest)
        (more_read guarded d n rest others (omega (arith, deep)) (omega (arith, enough)) f)

  pub all_read : (a : Atom ℕ) (guarded : Atoms ℕ) (d : ℕ) (rest : List ℕ) → FitsAtoms p (λ n. n < 2 ^ 32) (More_atoms a guarded) → depth_in (More_atoms a guarded) ≤ d → AfterAll rest →
      atoms_by p (below p (suc d)) (atom_text p a ++ (more_text p guarded ++ rest)) ≡ Ok (a ∷ list_of guarded, rest)
  all_read a guarded d rest (first, others) deep f =
      all_from a guarded d rest (atom_read a d (more_text p guarded ++ rest) first (omega (arith, deep)) (more_follows guarded rest f.after))
      (more_read guarded d (length (more_text p guarded ++ rest)) rest others (omega (arith, deep)) (enough_bytes guarded rest) f)
