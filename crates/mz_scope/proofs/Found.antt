-- What the tables have is what the names stand for.
use Rattle.std.proofs.Common.{◌≡◌, ℕ, zero, suc, ◌+◌, ◌-◌, ◌≤◌, Bool, true, false, cond, if◌then◌else◌, ◌||◌, List, [], ◌∷◌, map, Option, Some, None, is_some, slice_get, refl, sym, ap, ◌∙◌, arith, true≢false}
use Rattle.std.specs.Prelude.{filter}
use Rattle.std.specs.List.{list_any}
use Rattle.std.specs.Option.{option_map}
use Rattle.std.specs.Str.{bytes_eq}
use Rattle.mz_scope.specs.Names.{find, ConEntry}
use Rattle.mz_scope.specs.View.{only, any_held}
use Rattle.mz_scope.specs.declared.con_entry.NamedCon.{NamedCon}
use Rattle.mz_scope.specs.declared.entries.Holder.{Holder}
use Rattle.mz_scope.specs.Tables.{places_in, has_field, holder_from, cons_in}

-- ---- one step along a list

some_none : {A C : Type 0} {a : A} → Some a ≡ None → C
some_none e = absurd (true≢false (ap is_some e))

through_if : {A B : Type 0} (f : A → B) (b : Bool) (a : A) (o : Option A) (p : Option B) → option_map f o ≡ p → option_map f (if b then Some a else o) ≡ (if b then Some (f a) else p)
through_if f true a o p h = refl
through_if f false a o p h = h

none_if : {A B : Type 0} (b : Bool) (k : A) (o : Option A) (a : B) (p : Option B) → (if b then Some k else o) ≡ None → (o ≡ None → p ≡ None) → (if b then Some a else p) ≡ None
none_if true k o a p h rest = some_none h
none_if false k o a p h rest = rest h

-- ---- names of a list

module _ {X A B : Type 0} (name : X → List ℕ) (value : X → A) (f : A → B) where
  -- values put through a function are found as the function's values, by going along the list
  pub found_through : (list : List X) (q : List ℕ) → option_map f (find (map (λ x. (name x, value x)) list) q) ≡ find (map (λ x. (name x, f (value x))) list) q
  found_through [] q = refl
  found_through (x ∷ rest) q = through_if f (bytes_eq (name x) q) (value x) _ _ (found_through rest q)

-- ---- constructors

-- what stands at a place
abbrev pub con_at : List NamedCon → ℕ → Option ConEntry
con_at list k = option_map (λ (c : NamedCon). c.con) (slice_get list k)

-- a name without a place stands for nothing, by going along the list
pub place_of_none : (list : List NamedCon) (n : ℕ) (q : List ℕ) → find (places_in n (cons_in list)) q ≡ None → find (cons_in list) q ≡ None
place_of_none [] n q h = refl
place_of_none (c ∷ rest) n q h = none_if (bytes_eq c.name q) n _ c.con _ h (place_of_none rest (n + 1) q)

abbrev Stands : List NamedCon → ℕ → ℕ → Option ConEntry → Type 0
Stands list n k o = (n ≤ k) × (o ≡ con_at list (k - n))

stands_first : (c : NamedCon) (rest : List NamedCon) (n k : ℕ) → n ≡ k → Stands (c ∷ rest) n k (Some c.con)
stands_first c rest n k e =
    let none_before : zero ≡ k - n = omega (arith, e) in
    (omega (arith, e), ap (con_at (c ∷ rest)) none_before)

stands_later : (c : NamedCon) (rest : List NamedCon) (n k : ℕ) (o : Option ConEntry) → Stands rest (n + 1) k o → Stands (c ∷ rest) n k o
stands_later c rest n k o h =
    let before : n + 1 ≤ k = h.0 in
    let one_more : suc (k - (n + 1)) ≡ k - n = omega (arith, before) in
    (omega (arith, before), h.1 ∙ ap (con_at (c ∷ rest)) one_more)

stands_if : (b : Bool) (c : NamedCon) (rest : List NamedCon) (n k : ℕ) (o : Option ℕ) (p : Option ConEntry) → (if b then Some n else o) ≡ Some k → (o ≡ Some k → Stands rest (n + 1) k p) → Stands (c ∷ rest) n k (if b then Some c.con else p)
stands_if true c rest n k o p h later = stands_first c rest n k cc
stands_if false c rest n k o p h later = stands_later c rest n k p (later h)

-- and one with a place for what stands there
pub place_of_some : (list : List NamedCon) (n k : ℕ) (q : List ℕ) → find (places_in n (cons_in list)) q ≡ Some k → Stands list n k (find (cons_in list) q)
place_of_some [] n k q h = some_none (sym h)
place_of_some (c ∷ rest) n k q h = stands_if (bytes_eq c.name q) c rest n k _ _ h (place_of_some rest (n + 1) k q)

-- ---- the constructors with a field

only_is : {A : Type 0} (a : A) (rest : List A) → only (a ∷ rest) ≡ (if any_held rest then None else Some a)
only_is a [] = refl
only_is a (b ∷ rest) = refl

module _ (field : List ℕ) where
  abbrev pub those : List NamedCon → List ConEntry
  those list = filter (λ (c : ConEntry). is_some (find c.fields field)) (map (λ (c : List ℕ × ConEntry). c.1) (cons_in list))

  any_if : (b : Bool) (a : ConEntry) (o : Bool) (l : List ConEntry) → o ≡ any_held l → (b || o) ≡ any_held (cond b (a ∷ l) l)
  any_if true a o l h = refl
  any_if false a o l h = h

  -- some constructor has it exactly where the list of those that have it isn't empty
  any_is : (list : List NamedCon) → list_any (has_field field) (cons_in list) ≡ any_held (those list)
  any_is [] = refl
  any_is (c ∷ rest) = any_if (has_field field (c.name, c.con)) c.con _ _ (any_is rest)

  none_held : (b : Bool) (h : Holder) (o : Option Holder) (a : ConEntry) (l : List ConEntry) → (if b then Some h else o) ≡ None → (o ≡ None → l ≡ []) → cond b (a ∷ l) l ≡ []
  none_held true h o a l e rest = some_none e
  none_held false h o a l e rest = rest e

  -- where there is no first, none has it
  pub held_by_none : (list : List NamedCon) (n : ℕ) → holder_from n (cons_in list) field ≡ None → those list ≡ []
  held_by_none [] n e = refl
  held_by_none (c ∷ rest) n e = none_held (has_field field (c.name, c.con)) _ _ c.con _ e (held_by_none rest (n + 1))

  -- the first is the one, or there is another
  pub record Held (list : List NamedCon) (n : ℕ) (h : Holder) (l : List ConEntry) : Type 0 where
    pub before : n ≤ h.place
    pub some : any_held l ≡ true
    pub one : only l ≡ (if h.shared then None else con_at list (h.place - n))

  held_first : (c : NamedCon) (rest : List NamedCon) (n : ℕ) (h : Holder) → record { place = n; shared = list_any (has_field field) (cons_in rest) } ≡ h → Held (c ∷ rest) n h (c.con ∷ those rest)
  held_first c rest n h e =
      let place : n ≡ h.place = ap (λ (x : Holder). x.place) e in
      let shared : any_held (those rest) ≡ h.shared = sym (any_is rest) ∙ ap (λ (x : Holder). x.shared) e in
      let none_before : zero ≡ h.place - n = omega (arith, place) in
      record {
        before = omega (arith, place);
        some = refl;
        one = only_is c.con (those rest) ∙ ap (λ b. if b then None else Some c.con) shared ∙ ap (λ k. if h.shared then None else con_at (c ∷ rest) k) none_before;
      }

  held_later : (c : NamedCon) (rest : List NamedCon) (n : ℕ) (h : Holder) (l : List ConEntry) → Held rest (n + 1) h l → Held (c ∷ rest) n h l
  held_later c rest n h l held =
      let before : n + 1 ≤ h.place = held.before in
      let one_more : suc (h.place - (n + 1)) ≡ h.place - n = omega (arith, before) in
      record { before = omega (arith, before); some = held.some; one = held.one ∙ ap (λ k. if h.shared then None else con_at (c ∷ rest) k) one_more }

  held_if : (b : Bool) (c : NamedCon) (rest : List NamedCon) (n : ℕ) (h : Holder) (o : Option Holder)
      → (if b then Some (record { place = n; shared = list_any (has_field field) (cons_in rest) }) else o) ≡ Some h
      → (o ≡ Some h → Held rest (n + 1) h (those rest)) → Held (c ∷ rest) n h (cond b (c.con ∷ those rest) (those rest))
  held_if true c rest n h o e later = held_first c rest n h cc
  held_if false c rest n h o e later = held_later c rest n h (those rest) (later e)

  pub held_by_some : (list : List NamedCon) (n : ℕ) (h : Holder) → holder_from n (cons_in list) field ≡ Some h → Held list n h (those list)
  held_by_some [] n h e = some_none (sym e)
  held_by_some (c ∷ rest) n h e = held_if (has_field field (c.name, c.con)) c rest n h _ e (held_by_some rest (n + 1) h)

-- ---- what the look-ups of constructors answer

-- what stands at the place of a name is what the name stands for
pub con_found : (list : List NamedCon) (place : ℕ) (q : List ℕ) (o : Option NamedCon) → find (places_in 0 (cons_in list)) q ≡ Some place → o ≡ slice_get list place
    → option_map (λ (c : NamedCon). c.con) o ≡ find (cons_in list) q
con_found list place q o h e =
    let same : place ≡ place - 0 = omega arith in
    ap (option_map (λ (c : NamedCon). c.con)) e ∙ ap (con_at list) same ∙ sym (place_of_some list 0 place q h).1

-- there is another: then there isn't just one
pub shared_is : (list : List NamedCon) (h : Holder) (field : List ℕ) → holder_from 0 (cons_in list) field ≡ Some h → h.shared ≡ true → only (those field list) ≡ None
shared_is list h field e shared = (held_by_some field list 0 h e).one ∙ ap (λ b. if b then None else con_at list (h.place - 0)) shared

-- there is no other: then it is the first
pub one_is : (list : List NamedCon) (h : Holder) (field : List ℕ) (o : Option NamedCon) → holder_from 0 (cons_in list) field ≡ Some h → h.shared ≡ false → o ≡ slice_get list h.place
    → option_map (λ (c : NamedCon). c.con) o ≡ only (those field list)
one_is list h field o e shared here =
    let same : h.place ≡ h.place - 0 = omega arith in
    ap (option_map (λ (c : NamedCon). c.con)) here ∙ ap (con_at list) same ∙ sym ((held_by_some field list 0 h e).one ∙ ap (λ b. if b then None else con_at list (h.place - 0)) shared)

-- whether there is a first tells whether there is one
pub any_found : (list : List NamedCon) (field : List ℕ) (o : Option Holder) → holder_from 0 (cons_in list) field ≡ o → is_some o ≡ any_held (those field list)
any_found list field None e = sym (ap any_held (held_by_none field list 0 e))
any_found list field (Some h) e = sym (held_by_some field list 0 h e).some
