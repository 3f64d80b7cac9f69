-- The names of a program that was read are words, and stand for one thing alone.
use Rattle.std.proofs.Common.{◌≡◌, ◌<◌, ℕ, zero, suc, ◌+◌, Bool, true, false, List, [], ◌∷◌, ◌++◌, map, length, Option, Some, None, slice_get, codes, if◌then◌else◌, refl, sym, ap, subst, ◌∙◌, arith}
use Rattle.std.specs.List.{list_all}
use Rattle.std.specs.Str.{bytes_eq}
use Rattle.std.proofs.lemmas.Option.{slice_get_within}
use Rattle.mz_tree.specs.Bytes.{is_blank, is_inside_line, is_small, is_capital, is_digit, is_name_byte}
use Rattle.mz_tree.specs.Plain.{Ty, Int_type, Unknown_type, Dynamic_type, Locked_type, Named_type, Function_type}
use Rattle.mz_tree.specs.Shapes.{Shape, Blank_shape, Comment_shape, Lower_shape, Upper_shape, Number_shape, Mark_shape, begins, begins_comment, whole, mark_shape, shape_of}
use Rattle.mz_tree.specs.Spellings.{mark_texts, number_in}
use Rattle.mz_tree.specs.Programs.{Variety, Sig, Con, Program}
use Rattle.mz_tree.specs.Scoped.{Scoped, IsLowerName, IsUpperName}
use Rattle.mz_script.specs.Words.{data_text, sig_text, variety_name, sig_name}
use Rattle.mz_script.specs.ReadWords.{word_type, or_else, as_type, data_of, sig_of, con_of, known_type}
use Rattle.mz_script.proofs.Naming.{differ, finds, finds_none, no_key}
use Rattle.mz_script.proofs.Casing.{some_at}
use Rattle.mz_script.proofs.TypeTexts.{OwnNames}

-- ---- names are made of bytes of names

whole_is : (test : ℕ → Bool) (s r : Shape) (text : List ℕ) → whole test s text ≡ Some r → (s ≡ r) × (list_all test text ≡ true)
whole_is test s r text e = by_test (list_all test text) refl e
  where
    by_test : (b : Bool) → list_all test text ≡ b → (if b then Some s else None) ≡ Some r → (s ≡ r) × (list_all test text ≡ true)
    by_test true h g = (cc, h)
    by_test false h g = cc

-- the shape of a name
abbrev NameShape : Shape → Type 0
NameShape Lower_shape = Unit {0}
NameShape Upper_shape = Unit {0}
NameShape _ = ⊥

shape_names : (text : List ℕ) (s : Shape) → NameShape s → shape_of text ≡ Some s → list_all is_name_byte text ≡ true
shape_names text s n e = by_tests (begins is_blank text) (begins is_small text) (begins is_capital text) (begins is_digit text) (begins_comment text) e
  where
    by_mark : (o : Option ℕ) → mark_shape o ≡ Some s → list_all is_name_byte text ≡ true
    by_mark None h = cc
    by_mark (Some k) h = let same : Mark_shape k ≡ s = cc in absurd (subst NameShape (sym same) n)

    by_tests : (a b c d f : Bool) → (if a then whole is_blank Blank_shape text else (if b then whole is_name_byte Lower_shape text else (if c then whole is_name_byte Upper_shape text
        else (if d then whole is_digit Number_shape text else (if f then whole is_inside_line Comment_shape text else mark_shape (number_in mark_texts text)))))) ≡ Some s → list_all is_name_byte text ≡ true
    by_tests true b c d f h = absurd (subst NameShape (sym (whole_is is_blank Blank_shape s text h).0) n)
    by_tests false true c d f h = (whole_is is_name_byte Lower_shape s text h).1
    by_tests false false true d f h = (whole_is is_name_byte Upper_shape s text h).1
    by_tests false false false true f h = absurd (subst NameShape (sym (whole_is is_digit Number_shape s text h).0) n)
    by_tests false false false false true h = absurd (subst NameShape (sym (whole_is is_inside_line Comment_shape s text h).0) n)
    by_tests false false false false false h = by_mark (number_in mark_texts text) h

pub lower_names : (name : List ℕ) → IsLowerName name → list_all is_name_byte name ≡ true
lower_names name h = shape_names name Lower_shape tt h.lower

pub upper_names : (name : List ℕ) → IsUpperName name → list_all is_name_byte name ≡ true
upper_names name h = shape_names name Upper_shape tt h.upper

-- ---- a name is no word that types have

record NoWord (name : List ℕ) : Type 0 where
  no_int : name ≡ codes "int" → ⊥
  no_unknown : name ≡ codes "unknown" → ⊥
  no_dynamic : name ≡ codes "dynamic" → ⊥
  no_locked : name ≡ codes "locked" → ⊥
  no_lock : name ≡ codes "lock" → ⊥

lower_no_word : (name : List ℕ) → IsLowerName name → NoWord name
lower_no_word name h = record {
  no_int = no_key name (codes "int") 25 h.no_key refl;
  no_unknown = no_key name (codes "unknown") 26 h.no_key refl;
  no_dynamic = no_key name (codes "dynamic") 27 h.no_key refl;
  no_locked = no_key name (codes "locked") 20 h.no_key refl;
  no_lock = no_key name (codes "lock") 19 h.no_key refl;
}

not_upper : (name word : List ℕ) → IsUpperName name → shape_of word ≡ Some Lower_shape → name ≡ word → ⊥
not_upper name word h lower same = let bad : Some Upper_shape ≡ Some Lower_shape = sym h.upper ∙ ap shape_of same ∙ lower in cc

upper_no_word : (name : List ℕ) → IsUpperName name → NoWord name
upper_no_word name h = record {
  no_int = not_upper name (codes "int") h refl;
  no_unknown = not_upper name (codes "unknown") h refl;
  no_dynamic = not_upper name (codes "dynamic") h refl;
  no_locked = not_upper name (codes "locked") h refl;
  no_lock = not_upper name (codes "lock") h refl;
}

no_word_type : (name : List ℕ) → NoWord name → word_type name ≡ None
no_word_type name h =
    four (bytes_eq name (codes "int")) (bytes_eq name (codes "unknown")) (bytes_eq name (codes "dynamic")) (bytes_eq name (codes "locked")) (differ name (codes "int") h.no_int) (differ name (codes "unknown") h.no_unknown) (differ name (codes "dynamic") h.no_dynamic) (differ name (codes "locked") h.no_locked)
  where
    four : (a b c d : Bool) → a ≡ false → b ≡ false → c ≡ false → d ≡ false → ◌≡◌ {A = Option (Ty ℕ)} (if a then Some Int_type else (if b then Some Unknown_type else (if c then Some Dynamic_type else (if d then Some Locked_type else None)))) None
    four true b c d h i j k = cc
    four false true c d h i j k = cc
    four false false true d h i j k = cc
    four false false false true h i j k = cc
    four false false false false h i j k = refl

-- ---- places in two lists

get_map : {A B : Type 0} (f : A → B) (xs : List A) (ys : List B) (k : ℕ) (x : A) → slice_get xs k ≡ Some x → slice_get (map f xs ++ ys) k ≡ Some (f x)
get_map f [] ys k x e = cc
get_map f (y ∷ xs) ys zero x e = let same : y ≡ x = cc in ap (λ v. Some (f v)) same
get_map f (y ∷ xs) ys (suc k) x e = get_map f xs ys k x e

get_behind : {A B C : Type 0} (f : A → B) (g : C → B) (xs : List A) (zs : List C) (k : ℕ) (z : C) → slice_get zs k ≡ Some z → slice_get (map f xs ++ map g zs) (length xs + k) ≡ Some (g z)
get_behind {C = C} f g [] zs k z e = ap (slice_get (map g zs)) (let same : 0 + k ≡ k = omega arith in same) ∙ get_mapped zs k e
  where
    get_mapped : (zs : List C) (k : ℕ) → slice_get zs k ≡ Some z → slice_get (map g zs) k ≡ Some (g z)
    get_mapped [] k h = cc
    get_mapped (y ∷ zs) zero h = let same : y ≡ z = cc in ap (λ v. Some (g v)) same
    get_mapped (y ∷ zs) (suc k) h = get_mapped zs k h
get_behind f g (x ∷ xs) zs k z e = ap (slice_get (map f (x ∷ xs) ++ map g zs)) (let same : suc (length xs) + k ≡ suc (length xs + k) = omega arith in same) ∙ get_behind f g xs zs k z e

module _ (p : Program) (S : Scoped p) where
  -- a data type by its name
  data_found : (d : ℕ) (v : Variety) → slice_get p.varieties d ≡ Some v → data_of p v.name ≡ Some d
  unfolding data_of
  data_found d v e = finds (λ (u : Variety). u.name) v.name d p.varieties v e refl (λ j u g same. S.types_apart j d u.name v.name (get_map (λ (w : Variety). w.name) p.varieties _ j u g) (get_map (λ (w : Variety). w.name) p.varieties _ d v e) (sym same))

  -- a signature's name is no data type's
  sig_no_data : (k : ℕ) (s : Sig) → slice_get p.sigs k ≡ Some s → data_of p s.name ≡ None
  unfolding data_of
  sig_no_data k s e = finds_none (λ (u : Variety). u.name) s.name 0 p.varieties (λ j u g same.
      (let place : j ≡ length p.varieties + k = S.types_apart j (length p.varieties + k) u.name s.name (get_map (λ (w : Variety). w.name) p.varieties _ j u g) (get_behind (λ (w : Variety). w.name) (λ (w : Sig). w.name) p.varieties p.sigs k s e) (sym same) in
      let within = slice_get_within p.varieties j u g in omega (arith, place, within)))

  sig_found : (k : ℕ) (s : Sig) → slice_get p.sigs k ≡ Some s → sig_of p s.name ≡ Some k
  unfolding sig_of
  sig_found k s e = finds (λ (u : Sig). u.name) s.name k p.sigs s e refl (λ j u g same.
      (let place : length p.varieties + j ≡ length p.varieties + k = S.types_apart (length p.varieties + j) (length p.varieties + k) u.name s.name (get_behind (λ (w : Variety). w.name) (λ (w : Sig). w.name) p.varieties p.sigs j u g) (get_behind (λ (w : Variety). w.name) (λ (w : Sig). w.name) p.varieties p.sigs k s e) (sym same) in
      omega (arith, place)))

  con_found : (k : ℕ) (c : Con) → slice_get p.cons k ≡ Some c → con_of p c.name ≡ Some k
  unfolding con_of
  con_found k c e = finds (λ (u : Con). u.name) c.name k p.cons c e refl (λ j u g same. S.cons_apart j k u c g e (sym same))

  -- a constructor's name is neither
  not_lower : (name other : List ℕ) → IsUpperName name → IsLowerName other → name ≡ other → ⊥
  not_lower name other h l same = not_upper name other h l.lower same

  con_no_data : (k : ℕ) (c : Con) → slice_get p.cons k ≡ Some c → data_of p c.name ≡ None
  unfolding data_of
  con_no_data k c e = finds_none (λ (u : Variety). u.name) c.name 0 p.varieties (λ j u g same. (let con = S.cons k c e in let is = S.varieties j u g in not_lower c.name u.name con.name is.name same))

  con_no_sig : (k : ℕ) (c : Con) → slice_get p.cons k ≡ Some c → sig_of p c.name ≡ None
  unfolding sig_of
  con_no_sig k c e = finds_none (λ (u : Sig). u.name) c.name 0 p.sigs (λ j u g same. (let con = S.cons k c e in let is = S.sigs j u g in not_lower c.name u.name con.name is.name same))

  known_by : (word : List ℕ) (a b : Option ℕ) → word_type word ≡ None → data_of p word ≡ a → sig_of p word ≡ b → known_type p word ≡ or_else (as_type Named_type a) (as_type Function_type b)
  unfolding known_type
  known_by word a b none one two = ap (λ o. or_else o (or_else (as_type Named_type (data_of p word)) (as_type Function_type (sig_of p word)))) none ∙ ap (λ o. or_else (as_type Named_type o) (as_type Function_type (sig_of p word))) one ∙ ap (λ o. or_else (as_type Named_type a) (as_type Function_type o)) two

  data_is : (d : ℕ) (v : Variety) → slice_get p.varieties d ≡ Some v → data_text p d ≡ v.name
  data_is d v e = ap variety_name e

  sig_is : (k : ℕ) (s : Sig) → slice_get p.sigs k ≡ Some s → sig_text p k ≡ s.name
  sig_is k s e = ap sig_name e

  record DataNamed (d : ℕ) : Type 0 where
    named : (data_of p (data_text p d) ≡ Some d) × (list_all is_name_byte (data_text p d) ≡ true)
    known : (known_type p (data_text p d) ≡ Some (Named_type d)) × (bytes_eq (data_text p d) (codes "lock") ≡ false)
    no_clause : data_text p d ≡ codes "adopts" → ⊥

  data_all : (d : ℕ) → d < length p.varieties → DataNamed d
  data_all d h =
      let it = some_at p.varieties d h in
      let v : Variety = it.0 in
      let lower : IsLowerName v.name = (S.varieties d v it.1).name in
      let word = lower_no_word v.name lower in
      let is : v.name ≡ data_text p d = sym (data_is d v it.1) in
      let named : (data_of p v.name ≡ Some d) × (list_all is_name_byte v.name ≡ true) = (data_found d v it.1, lower_names v.name lower) in
      let known : (known_type p v.name ≡ Some (Named_type d)) × (bytes_eq v.name (codes "lock") ≡ false) = (known_by v.name (Some d) (sig_of p v.name) (no_word_type v.name word) (data_found d v it.1) refl, differ v.name (codes "lock") word.no_lock) in
      record {
        named = subst (λ (n : List ℕ). (data_of p n ≡ Some d) × (list_all is_name_byte n ≡ true)) is named;
        known = subst (λ (n : List ℕ). (known_type p n ≡ Some (Named_type d)) × (bytes_eq n (codes "lock") ≡ false)) is known;
        no_clause = λ same. no_key v.name (codes "adopts") 2 lower.no_key refl (is ∙ same);
      }

  sig_all : (k : ℕ) → k < length p.sigs → (known_type p (sig_text p k) ≡ Some (Function_type k)) × (bytes_eq (sig_text p k) (codes "lock") ≡ false) × (list_all is_name_byte (sig_text p k) ≡ true)
  sig_all k h =
      let it = some_at p.sigs k h in
      let s : Sig = it.0 in
      let lower : IsLowerName s.name = (S.sigs k s it.1).name in
      let word = lower_no_word s.name lower in
      let is : s.name ≡ sig_text p k = sym (sig_is k s it.1) in
      let all : (known_type p s.name ≡ Some (Function_type k)) × (bytes_eq s.name (codes "lock") ≡ false) × (list_all is_name_byte s.name ≡ true) =
      (known_by s.name None (Some k) (no_word_type s.name word) (sig_no_data k s it.1) (sig_found k s it.1), differ s.name (codes "lock") word.no_lock, lower_names s.name lower) in
      subst (λ (n : List ℕ). (known_type p n ≡ Some (Function_type k)) × (bytes_eq n (codes "lock") ≡ false) × (list_all is_name_byte n ≡ true)) is all

  con_all : (k : ℕ) (c : Con) → slice_get p.cons k ≡ Some c → (con_of p c.name ≡ Some k) × (known_type p c.name ≡ None) × (bytes_eq c.name (codes "lock") ≡ false) × (list_all is_name_byte c.name ≡ true)
  con_all k c e =
      let upper : IsUpperName c.name = (S.cons k c e).name in
      let word = upper_no_word c.name upper in
      (con_found k c e, known_by c.name None None (no_word_type c.name word) (con_no_data k c e) (con_no_sig k c e), differ c.name (codes "lock") word.no_lock, upper_names c.name upper)

  pub own_names : OwnNames p
  own_names = record {
    data_named = λ d h. (data_all d h).named;
    data_known = λ d h. (data_all d h).known;
    data_no_clause = λ d h. (data_all d h).no_clause;
    sig_known = sig_all;
    con_known = con_all;
  }
