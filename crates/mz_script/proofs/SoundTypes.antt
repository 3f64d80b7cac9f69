-- What is read as a type or a permission is spelled so, and names what is declared.
use Rattle.std.proofs.Common.{◌≡◌, ◌≢◌, ◌==◌, ◌≤◌, ◌<◌, ◌^◌, ◌+◌, max, ℕ, zero, suc, Bool, true, false, List, [], ◌∷◌, ◌++◌, length, map, Option, Some, None, IfSome, Ok, slice_get, codes, if◌then◌else◌, refl, sym, ap, subst, ◌∙◌, append_assoc, arith, inl, inr, decimal}
use Rattle.std.proofs.lemmas.Option.{slice_get_within}
use Rattle.std.specs.Str.{bytes_eq}
use Rattle.mz_grammar.specs.Reading.{Read, ◌>>=◌, many, many_at, choose}
use Rattle.mz_tree.specs.Plain.{Ty, Atom, Atoms, Int_type, Unknown_type, Dynamic_type, Locked_type, Named_type, Function_type, Block_type, Lock_type, Has_atom, Same_atom, No_atoms, More_atoms, list_of, atoms_of}
use Rattle.mz_tree.specs.Programs.{Con, Field, Sig, Variety, Program}
use Rattle.mz_tree.specs.Scoped.{Each, HasFields, FitsType, FitsAtom, FitsAtoms, depth_of, atom_depth, depth_in}
use Rattle.mz_script.specs.Words.{name_text, data_text, sig_text, con_name, con_fields, variety_name, sig_name, fields_text, adopts_text, block_text, type_text, atom_text, atoms_text, more_text}
use Rattle.mz_script.specs.Fronts.{behind, choose_text, image, text_at, word_at, name_at, found_or}
use Rattle.mz_script.specs.ReadWords.{opening_at, fields_at, data_of, sig_of, con_of, data_at, known_type, word_type, or_else, as_type, adopts_at, block_at, block_or, known_or, holds_at, equals_at, atom_by, next_atom_by, is_space, atoms_by, lock_by, type_by, below}
use Rattle.mz_script.proofs.Undoing.{Sound, Went, went, ok_is, text_was, word_was, choice, Behind, behind_sound, image_was, Made}
use Rattle.mz_script.proofs.Numerals.{name_sound, sound_word}
use Rattle.mz_script.proofs.Naming.{Found, number_found, same_text}

-- ---- fields

pub record FieldsRead (before : List ℕ) (fields : List Field) (names bytes rest : List ℕ) : Type 0 where
  pub split : bytes ≡ fields_text before fields names ++ rest
  pub count : length fields ≡ length names
  pub known : Each (λ _ n. n < 2 ^ 32) names

none_known : Each (λ _ n. n < 2 ^ 32) []
none_known k n e = cc

one_known : (n : ℕ) (names : List ℕ) → n < 2 ^ 32 → Each (λ _ m. m < 2 ^ 32) names → Each (λ _ m. m < 2 ^ 32) (n ∷ names)
one_known n names h more zero m e = let same : n ≡ m = cc in subst (λ k. k < 2 ^ 32) same h
one_known n names h more (suc k) m e = more k m e

fields_sound : (before : List ℕ) (fields : List Field) (names bytes rest : List ℕ) → fields_at before fields bytes ≡ Ok (names, rest) → FieldsRead before fields names bytes rest
unfolding fields_at
fields_sound before [] names bytes rest e =
    let pair = ok_is ([], bytes) (names, rest) e in
    subst (λ ns. FieldsRead before [] ns bytes rest) (ap (λ v. v.0) pair) (record { split = ap (λ v. v.1) pair; count = refl; known = none_known })
fields_sound before (f ∷ fields) names bytes rest e =
    let a = went (text_at before bytes) (λ a. text_at f.name a.1 >>= λ b. text_at (codes " = ") b.1 >>= λ c. name_at c.1 >>= λ n. fields_at (codes "; ") fields n.1 >>= λ ns. Ok (n.0 ∷ ns.0, ns.1)) (names, rest) e in
    let b = went (text_at f.name a.first.1) (λ b. text_at (codes " = ") b.1 >>= λ c. name_at c.1 >>= λ n. fields_at (codes "; ") fields n.1 >>= λ ns. Ok (n.0 ∷ ns.0, ns.1)) (names, rest) a.goes_on in
    let c = went (text_at (codes " = ") b.first.1) (λ c. name_at c.1 >>= λ n. fields_at (codes "; ") fields n.1 >>= λ ns. Ok (n.0 ∷ ns.0, ns.1)) (names, rest) b.goes_on in
    let n = went (name_at c.first.1) (λ n. fields_at (codes "; ") fields n.1 >>= λ ns. Ok (n.0 ∷ ns.0, ns.1)) (names, rest) c.goes_on in
    let ns = went (fields_at (codes "; ") fields n.first.1) (λ ns. Ok (n.first.0 ∷ ns.0, ns.1)) (names, rest) n.goes_on in
    let pair = ok_is (n.first.0 ∷ ns.first.0, ns.first.1) (names, rest) ns.goes_on in
    let one = name_sound.is c.first.1 n.first.1 n.first.0 n.is in
    let more = fields_sound (codes "; ") fields ns.first.0 n.first.1 ns.first.1 ns.is in
    let text : bytes ≡ fields_text before (f ∷ fields) (n.first.0 ∷ ns.first.0) ++ ns.first.1 =
    text_was before bytes a.first.1 a.first.0 a.is
    ∙ ap (λ l. before ++ l) (text_was f.name a.first.1 b.first.1 b.first.0 b.is ∙ ap (λ l. f.name ++ l) (text_was (codes " = ") b.first.1 c.first.1 c.first.0 c.is ∙ ap (λ l. codes " = " ++ l) (one.0 ∙ ap (λ l. name_text n.first.0 ++ l) more.split)))
    ∙ sym (simp append_assoc) in
    subst (λ ns. FieldsRead before (f ∷ fields) ns bytes rest) (ap (λ v. v.0) pair)
    (record { split = text ∙ ap (λ l. fields_text before (f ∷ fields) (n.first.0 ∷ ns.first.0) ++ l) (ap (λ v. v.1) pair); count = (let k = more.count in omega arith); known = one_known n.first.0 ns.first.0 one.1 more.known })

-- a bracket that could be opened
opening_was : (d : ℕ) (text bytes rest : List ℕ) (u : Unit {0}) → opening_at d text bytes ≡ Ok (u, rest) → (bytes ≡ text ++ rest) × (0 < d)
unfolding opening_at
opening_was zero text bytes rest u e = cc
opening_was (suc d) text bytes rest u e = (text_was text bytes rest u e, omega arith)

module _ (p : Program) where
  -- ---- words

  data_was : (word : List ℕ) (d : ℕ) → data_of p word ≡ Some d → (word ≡ data_text p d) × (d < length p.varieties)
  unfolding data_of
  data_was word d e =
      let w = number_found (λ (v : Variety). v.name) word d p.varieties e in
      let here : slice_get p.varieties d ≡ Some w.value = ap (slice_get p.varieties) (let n = w.number in omega arith) ∙ w.there in
      (w.named ∙ sym (ap variety_name here), slice_get_within p.varieties d w.value here)

  sig_was : (word : List ℕ) (s : ℕ) → sig_of p word ≡ Some s → (word ≡ sig_text p s) × (s < length p.sigs)
  unfolding sig_of
  sig_was word s e =
      let w = number_found (λ (v : Sig). v.name) word s p.sigs e in
      let here : slice_get p.sigs s ≡ Some w.value = ap (slice_get p.sigs) (let n = w.number in omega arith) ∙ w.there in
      (w.named ∙ sym (ap sig_name here), slice_get_within p.sigs s w.value here)

  pub record ConRead (word : List ℕ) (k : ℕ) : Type 0 where
    pub con : Con
    pub there : slice_get p.cons k ≡ Some con
    pub named : word ≡ con_name (slice_get p.cons k)

  con_was : (word : List ℕ) (k : ℕ) → con_of p word ≡ Some k → ConRead word k
  unfolding con_of
  con_was word k e =
      let w = number_found (λ (v : Con). v.name) word k p.cons e in
      let here : slice_get p.cons k ≡ Some w.value = ap (slice_get p.cons) (let n = w.number in omega arith) ∙ w.there in
      record { con = w.value; there = here; named = w.named ∙ sym (ap con_name here) }

  pub data_sound : Sound (data_at p) (data_text p) (λ d. d < length p.varieties)
  unfolding data_at
  data_sound = sound_word (data_at p) (data_of p) (data_text p) (λ d. d < length p.varieties) (λ bytes. refl) data_was

  -- a word that is a type
  abbrev WordIs : List ℕ → Ty ℕ → Type 0
  WordIs word t = (word ≡ type_text p t) × FitsType p (λ n. n < 2 ^ 32) t × (depth_of t ≡ 0)

  word_was_type : (word : List ℕ) (t : Ty ℕ) → word_type word ≡ Some t → WordIs word t
  word_was_type word t e = by_test (bytes_eq word (codes "int")) (bytes_eq word (codes "unknown")) (bytes_eq word (codes "dynamic")) (bytes_eq word (codes "locked")) refl refl refl refl e
    where
      by_test : (a b c d : Bool) → bytes_eq word (codes "int") ≡ a → bytes_eq word (codes "unknown") ≡ b → bytes_eq word (codes "dynamic") ≡ c → bytes_eq word (codes "locked") ≡ d →
          (if a then Some Int_type else (if b then Some Unknown_type else (if c then Some Dynamic_type else (if d then Some Locked_type else None)))) ≡ Some t → WordIs word t
      by_test true b c d i j k l h = subst (WordIs word) (let s : Int_type ≡ t = cc in s) (same_text word (codes "int") i, tt, refl)
      by_test false true c d i j k l h = subst (WordIs word) (let s : Unknown_type ≡ t = cc in s) (same_text word (codes "unknown") j, tt, refl)
      by_test false false true d i j k l h = subst (WordIs word) (let s : Dynamic_type ≡ t = cc in s) (same_text word (codes "dynamic") k, tt, refl)
      by_test false false false true i j k l h = subst (WordIs word) (let s : Locked_type ≡ t = cc in s) (same_text word (codes "locked") l, tt, refl)
      by_test false false false false i j k l h = cc

  known_was : (word : List ℕ) (t : Ty ℕ) → known_type p word ≡ Some t → WordIs word t
  unfolding known_type
  known_was word t e = by_word (word_type word) (data_of p word) (sig_of p word) refl refl refl e
    where
      by_word : (a : Option (Ty ℕ)) (b c : Option ℕ) → word_type word ≡ a → data_of p word ≡ b → sig_of p word ≡ c → or_else a (or_else (as_type Named_type b) (as_type Function_type c)) ≡ Some t → WordIs word t
      by_word (Some s) b c i j k h = word_was_type word t (i ∙ h)
      by_word None (Some d) c i j k h = let w = data_was word d j in subst (WordIs word) (let s : Named_type d ≡ t = cc in s) (w.0, w.1, refl)
      by_word None None (Some s) i j k h = let w = sig_was word s k in subst (WordIs word) (let q : Function_type s ≡ t = cc in q) (w.0, w.1, refl)
      by_word None None None i j k h = cc

  -- ---- structural types

  adopts_was : (adopts : Option ℕ) (bytes rest : List ℕ) → adopts_at p bytes ≡ Ok (adopts, rest) → (bytes ≡ adopts_text p adopts ++ rest) × IfSome adopts (λ d. d < length p.varieties)
  unfolding adopts_at
  adopts_was adopts bytes rest e = elim (choice (codes " adopts ") (image Some (data_at p)) (λ b. Ok (None, b)) bytes (adopts, rest) e) [
    | inl w ↦
        let m = image_was data_sound Some w.rest rest adopts w.reads in
        subst (λ (a : Option ℕ). (bytes ≡ adopts_text p a ++ rest) × IfSome a (λ d. d < length p.varieties)) (sym m.same)
        (w.split ∙ ap (λ l. codes " adopts " ++ l) m.split ∙ sym (append_assoc (codes " adopts ") (data_text p m.value) rest), m.lawful)
    | inr w ↦
        let pair = ok_is (None, bytes) (adopts, rest) w in
        subst (λ (a : Option ℕ). (bytes ≡ adopts_text p a ++ rest) × IfSome a (λ d. d < length p.varieties)) (ap (λ v. v.0) pair) (ap (λ v. v.1) pair, tt)
  ]

  -- what stands at the front is this type, with at most so many brackets open at once
  pub record TypeIs (d : ℕ) (bytes rest : List ℕ) (t : Ty ℕ) : Type 0 where
    pub split : bytes ≡ type_text p t ++ rest
    pub fits : FitsType p (λ n. n < 2 ^ 32) t
    pub deep : depth_of t ≤ d

  block_was : (d k : ℕ) (word bytes rest : List ℕ) (t : Ty ℕ) → ConRead word k → block_at p d k bytes ≡ Ok (t, rest) → TypeIs d (word ++ bytes) rest t
  unfolding block_at
  block_was d k word bytes rest t con e =
      let fields : List Field = con_fields (slice_get p.cons k) in
      let o = went (opening_at d (codes " {") bytes) (λ o. fields_at (codes " ") fields o.1 >>= λ ns. text_at (codes " }") ns.1 >>= λ e. adopts_at p e.1 >>= λ a. Ok (Block_type k ns.0 a.0, a.1)) (t, rest) e in
      let ns = went (fields_at (codes " ") fields o.first.1) (λ ns. text_at (codes " }") ns.1 >>= λ e. adopts_at p e.1 >>= λ a. Ok (Block_type k ns.0 a.0, a.1)) (t, rest) o.goes_on in
      let c = went (text_at (codes " }") ns.first.1) (λ e. adopts_at p e.1 >>= λ a. Ok (Block_type k ns.first.0 a.0, a.1)) (t, rest) ns.goes_on in
      let a = went (adopts_at p c.first.1) (λ a. Ok (Block_type k ns.first.0 a.0, a.1)) (t, rest) c.goes_on in
      let pair = ok_is (Block_type k ns.first.0 a.first.0, a.first.1) (t, rest) a.goes_on in
      let opened = opening_was d (codes " {") bytes o.first.1 o.first.0 o.is in
      let names = fields_sound (codes " ") fields ns.first.0 o.first.1 ns.first.1 ns.is in
      let adopted = adopts_was a.first.0 c.first.1 a.first.1 a.is in
      let count : length con.con.fields ≡ length ns.first.0 = sym (ap (λ o. length (con_fields o)) con.there) ∙ names.count in
      let text : word ++ bytes ≡ block_text p k ns.first.0 a.first.0 ++ a.first.1 =
      ap (λ l. l ++ bytes) con.named
      ∙ ap (λ l. con_name (slice_get p.cons k) ++ l) (opened.0 ∙ ap (λ l. codes " {" ++ l) (names.split ∙ ap (λ l. fields_text (codes " ") fields ns.first.0 ++ l) (text_was (codes " }") ns.first.1 c.first.1 c.first.0 c.is ∙ ap (λ l. codes " }" ++ l) adopted.0)))
      ∙ sym (simp append_assoc) in
      subst (TypeIs d (word ++ bytes) rest) (ap (λ v. v.0) pair) (record {
        split = text ∙ ap (λ l. block_text p k ns.first.0 a.first.0 ++ l) (ap (λ v. v.1) pair);
        fits = (record { found = con.con; declared = con.there; fields = count }, names.known, adopted.1);
        deep = (let some = opened.1 in omega arith);
      })

  -- ---- permissions, where types inside them have at most e brackets open at once

  pub record AtomIs (d : ℕ) (bytes rest : List ℕ) (a : Atom ℕ) : Type 0 where
    pub split : bytes ≡ atom_text p a ++ rest
    pub fits : FitsAtom p (λ n. n < 2 ^ 32) a
    pub deep : atom_depth a ≤ d

  pub record MoreAre (d : ℕ) (bytes rest : List ℕ) (atoms : List (Atom ℕ)) : Type 0 where
    pub split : bytes ≡ more_text p (atoms_of atoms) ++ rest
    pub fits : FitsAtoms p (λ n. n < 2 ^ 32) (atoms_of atoms)
    pub deep : depth_in (atoms_of atoms) ≤ d

  pub record AtomsAre (d : ℕ) (bytes rest : List ℕ) (atoms : List (Atom ℕ)) : Type 0 where
    pub split : bytes ≡ atoms_text p (atoms_of atoms) ++ rest
    pub some : atoms_of atoms ≢ No_atoms
    pub fits : FitsAtoms p (λ n. n < 2 ^ 32) (atoms_of atoms)
    pub deep : depth_in (atoms_of atoms) ≤ d

  module _ (inner : List ℕ → Read ℕ (Ty ℕ)) (d : ℕ) (I : (bytes rest : List ℕ) (t : Ty ℕ) → inner bytes ≡ Ok (t, rest) → TypeIs d bytes rest t) where
    atom_was : (bytes rest : List ℕ) (a : Atom ℕ) → atom_by p inner bytes ≡ Ok (a, rest) → AtomIs d bytes rest a
    unfolding atom_by holds_at equals_at
    atom_was bytes rest a e =
        let x = went (name_at bytes) (λ x. choose_text (codes " @ ") (holds_at p inner x.0) (equals_at p inner x.0) x.1) (a, rest) e in
        let one = name_sound.is bytes x.first.1 x.first.0 x.is in
        elim (choice (codes " @ ") (holds_at p inner x.first.0) (equals_at p inner x.first.0) x.first.1 (a, rest) x.goes_on) [
          | inl w ↦
              let t = went (inner w.rest) (λ y. Ok (Has_atom x.first.0 y.0, y.1)) (a, rest) w.reads in
              let pair = ok_is (Has_atom x.first.0 t.first.0, t.first.1) (a, rest) t.goes_on in
              let it = I w.rest t.first.1 t.first.0 t.is in
              subst (AtomIs d bytes rest) (ap (λ v. v.0) pair) (record {
                split = one.0 ∙ ap (λ l. name_text x.first.0 ++ l) (w.split ∙ ap (λ l. codes " @ " ++ l) (it.split ∙ ap (λ l. type_text p t.first.0 ++ l) (ap (λ v. v.1) pair))) ∙ sym (simp append_assoc);
                fits = (one.1, it.fits);
                deep = it.deep;
              })
          | inr w ↦
              let s = went (text_at (codes " = ") x.first.1) (λ s. image (Same_atom x.first.0) name_at s.1) (a, rest) w in
              let m = image_was name_sound (Same_atom x.first.0) s.first.1 rest a s.goes_on in
              subst (AtomIs d bytes rest) (sym m.same) (record {
                split = one.0 ∙ ap (λ l. name_text x.first.0 ++ l) (text_was (codes " = ") x.first.1 s.first.1 s.first.0 s.is ∙ ap (λ l. codes " = " ++ l) m.split) ∙ sym (simp append_assoc);
                fits = (one.1, m.lawful);
                deep = omega arith;
              })
        ]

    none_are : (bytes rest : List ℕ) (atoms : List (Atom ℕ)) → ◌≡◌ {A = Read ℕ (List (Atom ℕ))} (Ok ([], bytes)) (Ok (atoms, rest)) → MoreAre d bytes rest atoms
    none_are bytes rest atoms e =
        let pair = ok_is ([], bytes) (atoms, rest) e in
        subst (MoreAre d bytes rest) (ap (λ v. v.0) pair) (record { split = ap (λ v. v.1) pair; fits = tt; deep = omega arith })

    one_more : (n : ℕ) (bytes rest : List ℕ) (atoms : List (Atom ℕ)) → ((bytes rest : List ℕ) (atoms : List (Atom ℕ)) → many_at is_space (next_atom_by p inner) n bytes ≡ Ok (atoms, rest) → MoreAre d bytes rest atoms) →
        (next_atom_by p inner bytes >>= λ x. many_at is_space (next_atom_by p inner) n x.1 >>= λ xs. Ok (x.0 ∷ xs.0, xs.1)) ≡ Ok (atoms, rest) → MoreAre d bytes rest atoms
    unfolding next_atom_by
    one_more n bytes rest atoms others e =
        let x = went (next_atom_by p inner bytes) (λ x. many_at is_space (next_atom_by p inner) n x.1 >>= λ xs. Ok (x.0 ∷ xs.0, xs.1)) (atoms, rest) e in
        let xs = went (many_at is_space (next_atom_by p inner) n x.first.1) (λ xs. Ok (x.first.0 ∷ xs.0, xs.1)) (atoms, rest) x.goes_on in
        let pair = ok_is (x.first.0 ∷ xs.first.0, xs.first.1) (atoms, rest) xs.goes_on in
        let s = went (text_at (codes " * ") bytes) (λ s. atom_by p inner s.1) x.first x.is in
        let one = atom_was s.first.1 x.first.1 x.first.0 s.goes_on in
        let more = others x.first.1 xs.first.1 xs.first.0 xs.is in
        subst (MoreAre d bytes rest) (ap (λ v. v.0) pair) (record {
          split = text_was (codes " * ") bytes s.first.1 s.first.0 s.is ∙ ap (λ l. codes " * " ++ l) (one.split ∙ ap (λ l. atom_text p x.first.0 ++ l) (more.split ∙ ap (λ l. more_text p (atoms_of xs.first.0) ++ l) (ap (λ v. v.1) pair))) ∙ sym (simp append_assoc);
          fits = (one.fits, more.fits);
          deep = (let h = one.deep in let k = more.deep in omega arith);
        })

    many_was : (n : ℕ) (bytes rest : List ℕ) (atoms : List (Atom ℕ)) → many_at is_space (next_atom_by p inner) n bytes ≡ Ok (atoms, rest) → MoreAre d bytes rest atoms
    unfolding many_at
    many_was zero bytes rest atoms e = none_are bytes rest atoms e
    many_was (suc n) [] rest atoms e = none_are [] rest atoms e
    many_was (suc n) (b ∷ bytes) rest atoms e = by_test (is_space b) (many_was n) e
      where
        by_test : (t : Bool) → ((more left : List ℕ) (others : List (Atom ℕ)) → many_at is_space (next_atom_by p inner) n more ≡ Ok (others, left) → MoreAre d more left others) → (if t then (next_atom_by p inner (b ∷ bytes) >>= λ x. many_at is_space (next_atom_by p inner) n x.1 >>= λ xs. Ok (x.0 ∷ xs.0, xs.1)) else Ok ([], b ∷ bytes)) ≡ Ok (atoms, rest) → MoreAre d (b ∷ bytes) rest atoms
        by_test false more h = none_are (b ∷ bytes) rest atoms h
        by_test true more h = one_more n (b ∷ bytes) rest atoms more h

    atoms_were : (bytes rest : List ℕ) (atoms : List (Atom ℕ)) → atoms_by p inner bytes ≡ Ok (atoms, rest) → AtomsAre d bytes rest atoms
    unfolding atoms_by
    atoms_were bytes rest atoms e =
        let x = went (atom_by p inner bytes) (λ a. many is_space (next_atom_by p inner) a.1 >>= λ rest. Ok (a.0 ∷ rest.0, rest.1)) (atoms, rest) e in
        let xs = went (many is_space (next_atom_by p inner) x.first.1) (λ rest. Ok (x.first.0 ∷ rest.0, rest.1)) (atoms, rest) x.goes_on in
        let pair = ok_is (x.first.0 ∷ xs.first.0, xs.first.1) (atoms, rest) xs.goes_on in
        let one = atom_was bytes x.first.1 x.first.0 x.is in
        let more = many_was (length x.first.1) x.first.1 xs.first.1 xs.first.0 xs.is in
        subst (AtomsAre d bytes rest) (ap (λ v. v.0) pair) (record {
          split = one.split ∙ ap (λ l. atom_text p x.first.0 ++ l) (more.split ∙ ap (λ l. more_text p (atoms_of xs.first.0) ++ l) (ap (λ v. v.1) pair)) ∙ sym (append_assoc (atom_text p x.first.0) (more_text p (atoms_of xs.first.0)) rest);
          some = λ none. cc;
          fits = (one.fits, more.fits);
          deep = (let h = one.deep in let k = more.deep in omega arith);
        })

  -- ---- types, where so many brackets may be opened

  lock_was : (d : ℕ) (word bytes rest : List ℕ) (t : Ty ℕ) → ((e : ℕ) → d ≡ suc e → (bytes rest : List ℕ) (t : Ty ℕ) → below p d bytes ≡ Ok (t, rest) → TypeIs e bytes rest t) → word ≡ codes "lock" →
      lock_by p (below p d) d bytes ≡ Ok (t, rest) → TypeIs d (word ++ bytes) rest t
  unfolding lock_by opening_at
  lock_was zero word bytes rest t I named e = cc
  lock_was (suc d) word bytes rest t I named e =
      let o = went (text_at (codes " (") bytes) (λ o. atoms_by p (below p (suc d)) o.1 >>= λ guarded. text_at (codes ")") guarded.1 >>= λ e. Ok (Lock_type (atoms_of guarded.0), e.1)) (t, rest) e in
      let g = went (atoms_by p (below p (suc d)) o.first.1) (λ guarded. text_at (codes ")") guarded.1 >>= λ e. Ok (Lock_type (atoms_of guarded.0), e.1)) (t, rest) o.goes_on in
      let c = went (text_at (codes ")") g.first.1) (λ e. Ok (Lock_type (atoms_of g.first.0), e.1)) (t, rest) g.goes_on in
      let pair = ok_is (Lock_type (atoms_of g.first.0), c.first.1) (t, rest) c.goes_on in
      let all = atoms_were (below p (suc d)) d (I d refl) o.first.1 g.first.1 g.first.0 g.is in
      subst (TypeIs (suc d) (word ++ bytes) rest) (ap (λ v. v.0) pair) (record {
        split = ap (λ l. l ++ bytes) named
            ∙ ap (λ l. codes "lock" ++ l) (text_was (codes " (") bytes o.first.1 o.first.0 o.is ∙ ap (λ l. codes " (" ++ l) (all.split ∙ ap (λ l. atoms_text p (atoms_of g.first.0) ++ l) (text_was (codes ")") g.first.1 c.first.1 c.first.0 c.is ∙ ap (λ l. codes ")" ++ l) (ap (λ v. v.1) pair))))
            ∙ sym (simp append_assoc);
        fits = (all.some, all.fits);
        deep = (let h = all.deep in omega arith);
      })

  type_was : (d : ℕ) (bytes rest : List ℕ) (t : Ty ℕ) → ((e : ℕ) → d ≡ suc e → (bytes rest : List ℕ) (t : Ty ℕ) → below p d bytes ≡ Ok (t, rest) → TypeIs e bytes rest t) → type_by p (below p d) d bytes ≡ Ok (t, rest) → TypeIs d bytes rest t
  unfolding type_by
  type_was d bytes rest t I e =
      let w = went (word_at bytes) (λ w. if bytes_eq w.0 (codes "lock") then lock_by p (below p d) d w.1 else known_or p d bytes w.1 (con_of p w.0) (known_type p w.0)) (t, rest) e in
      let word = word_was bytes w.first.1 w.first.0 w.is in
      subst (λ l. TypeIs d l rest t) (sym word.0) (by_lock w.first.0 w.first.1 (bytes_eq w.first.0 (codes "lock")) (con_of p w.first.0) (known_type p w.first.0) refl refl refl w.goes_on)
    where
      by_lock : (word more : List ℕ) (b : Bool) (con : Option ℕ) (known : Option (Ty ℕ)) → bytes_eq word (codes "lock") ≡ b → con_of p word ≡ con → known_type p word ≡ known →
          (if b then lock_by p (below p d) d more else known_or p d bytes more con known) ≡ Ok (t, rest) → TypeIs d (word ++ more) rest t
      by_lock word more true con known i j k h = lock_was d word more rest t I (same_text word (codes "lock") i) h
      by_lock word more false con (Some s) i j k h =
          let pair = ok_is (s, more) (t, rest) h in
          let it = known_was word s k in
          subst (TypeIs d (word ++ more) rest) (ap (λ v. v.0) pair) (record { split = ap (λ l. l ++ more) it.0 ∙ ap (λ l. type_text p s ++ l) (ap (λ v. v.1) pair); fits = it.1; deep = (let n = it.2 in omega arith) })
      by_lock word more false (Some c) None i j k h = block_was d c word more rest t (con_was word c j) h
      by_lock word more false None None i j k h = cc

  pub inner_was : (d e : ℕ) → d ≡ suc e → (bytes rest : List ℕ) (t : Ty ℕ) → below p d bytes ≡ Ok (t, rest) → TypeIs e bytes rest t
  unfolding below
  inner_was zero e same bytes rest t h = absurd (omega (arith, same))
  inner_was (suc d) e same bytes rest t h = let one : d ≡ e = omega (arith, same) in subst (λ k. TypeIs k bytes rest t) one (type_was d bytes rest t (inner_was d) h)

  pub atom_sound : (bytes rest : List ℕ) (a : Atom ℕ) → atom_by p (below p 201) bytes ≡ Ok (a, rest) → AtomIs 200 bytes rest a
  atom_sound = atom_was (below p 201) 200 (inner_was 201 200 refl)

  pub atoms_sound : (bytes rest : List ℕ) (atoms : List (Atom ℕ)) → atoms_by p (below p 201) bytes ≡ Ok (atoms, rest) → AtomsAre 200 bytes rest atoms
  atoms_sound = atoms_were (below p 201) 200 (inner_was 201 200 refl)
