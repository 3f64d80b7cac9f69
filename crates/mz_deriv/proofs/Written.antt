-- Permissions that can be written, and states of them.
use Rattle.std.proofs.Common.{◌≡◌, inl, inr, ℕ, zero, suc, ◌+◌, ◌<◌, ◌≤◌, List, [], ◌∷◌, ◌++◌, length, Option, Some, None, slice_get, refl, sym, ap, subst, arith}
use Rattle.std.specs.Prelude.{IfSome}
use Rattle.std.proofs.lemmas.List.{length-map}
use Rattle.mz_tree.specs.Plain.{Ty, Atom, Int_type, Unknown_type, Dynamic_type, Locked_type, Named_type, Function_type, Block_type, Has_atom, Same_atom, map_atom}
use Rattle.mz_tree.specs.Programs.{Variety, Con, Field, Program}
use Rattle.mz_tree.specs.Renaming.{at_or}
use Rattle.mz_tree.specs.Scoped.{FitsAtom, HasFields, names_below, IsBound, atom_depth, Scoped}
use Rattle.mz_decl.specs.Declarations.{decls_of, clause_of, clause_in}
use Rattle.mz_decl.specs.Contents.{names_from, content, opened}
use Rattle.mz_modes.specs.Affine.{AffineAtom}
use Rattle.mz_modes.specs.Opening.{IsFresh, AreFresh, Opens}
use Rattle.mz_perm.specs.Lists.{In, Any_copy, TakesOne}
use Rattle.mz_perm.specs.Using.{UsesUp, UsesUpAll}
use Rattle.mz_perm.proofs.Orders.{used_in}
use Rattle.mz_view.specs.Spots.{names_in_atom, nameless_atom}
use Rattle.mz_deriv.specs.Spelled.{IsNumber, IsWritable}
use Rattle.mz_deriv.proofs.Membership.{in_get, in_parts, in_image, left_in, unused_in, all_unused_in}
use Rattle.mz_deriv.proofs.Bare.{FitsBare, bare_depth, depth_of_atom, bare_atom, known_atom, fits_atom, nameless_map, names_map}

-- a permission that fits but for its names, within the brackets that may be open, and its names are numbers
pub record Written (p : Program) (a : Atom ℕ) : Type 0 where
  pub bare : FitsBare p (nameless_atom a)
  pub shallow : bare_depth (nameless_atom a) ≤ 200
  pub names : (n : ℕ) → In n (names_in_atom a) → IsNumber n

-- each permission of a state is
abbrev pub AllWritten : Program → List (Atom ℕ) → Type 0
AllWritten p R = (a : Atom ℕ) → In a R → Written p a

-- names that are numbers
abbrev pub AllNumbers : List ℕ → Type 0
AllNumbers names = (n : ℕ) → In n names → IsNumber n

-- the n-th of some numbers is one
pub nth_number : (ys : List ℕ) → AllNumbers ys → (n : ℕ) → IsNumber (at_or 0 ys n)
nth_number [] all n = omega arith
nth_number (y ∷ ys) all zero = all y (inl refl)
nth_number (y ∷ ys) all (suc n) = nth_number ys (λ m i. all m (inr i)) n

names_length : (n count : ℕ) → length (names_from n count) ≡ count
names_length n zero = refl
names_length n (suc count) = ap suc (names_length (suc n) count)

-- fresh names are
pub fresh_numbers : (R : List (Atom ℕ)) (n count : ℕ) → AreFresh R n count → AllNumbers (names_from n count)
fresh_numbers R n zero f m i = absurd i
fresh_numbers R n (suc count) f m (inl e) = let h = (f 0 (omega arith)).fits in omega (arith, e, h)
fresh_numbers R n (suc count) f m (inr i) = fresh_numbers R (suc n) count (λ k l. (let e : n + suc k ≡ suc n + k = omega arith in let h : suc k < suc count = omega (arith, l) in subst (λ z. IsFresh R z) e (f (suc k) h))) m i

module _ (p : Program) where
  -- it can be written, and what can be written is such a permission
  pub writable : (a : Atom ℕ) → Written p a → IsWritable p a
  writable a w = (fits_atom p IsNumber a w.bare w.names, subst (λ n. n ≤ 200) (depth_of_atom a) w.shallow)

  pub written_from : (Known : ℕ → Type 0) (a : Atom ℕ) → FitsAtom p Known a → atom_depth a ≤ 200 → ((n : ℕ) → Known n → IsNumber n) → Written p a
  written_from Known a f d k = record { bare = bare_atom p Known a f; shallow = subst (λ n. n ≤ 200) (sym (depth_of_atom a)) d; names = λ n i. k n (known_atom p Known a f n i) }

  -- with other numbers for its names it is one again
  pub written_map : (f : ℕ → ℕ) (a : Atom ℕ) → Written p a → ((n : ℕ) → IsNumber (f n)) → Written p (map_atom f a)
  written_map f a w k = record {
    bare = subst (FitsBare p) (sym (nameless_map f a)) w.bare;
    shallow = subst (λ b. bare_depth b ≤ 200) (sym (nameless_map f a)) w.shallow;
    names = λ n i. (let r = in_image f n (names_in_atom a) (subst (λ l. In n l) (names_map f a) i) in subst IsNumber (sym r.2) (k r.0));
  }

  -- a permission that is one with other names is one where its own names are numbers
  pub written_back : (f : ℕ → ℕ) (a : Atom ℕ) → Written p (map_atom f a) → AllNumbers (names_in_atom a) → Written p a
  written_back f a w k = record { bare = subst (FitsBare p) (nameless_map f a) w.bare; shallow = subst (λ b. bare_depth b ≤ 200) (nameless_map f a) w.shallow; names = k }

  -- states: nothing, what is added, and what is left
  pub written_end : (R : List (Atom ℕ)) (a : Atom ℕ) (T : List (Atom ℕ)) → T ≡ R ++ a ∷ [] → AllWritten p R → Written p a → AllWritten p T
  written_end R a T e all w b i = elim (in_parts b R (a ∷ []) (subst (λ l. In b l) e i)) [
    | inl j ↦ all b j
    | inr j ↦ (elim j [ inl s ↦ subst (Written p) (sym s) w | inr none ↦ absurd none ])
  ]

  pub written_parts : (R S T : List (Atom ℕ)) → T ≡ R ++ S → AllWritten p R → AllWritten p S → AllWritten p T
  written_parts R S T e all more b i = elim (in_parts b R S (subst (λ l. In b l) e i)) [
    | inl j ↦ all b j
    | inr j ↦ more b j
  ]

  pub written_taken : (a : Atom ℕ) (R T : List (Atom ℕ)) → TakesOne a R T → AllWritten p R → AllWritten p T
  written_taken a R T t all b i = all b (left_in a b R T t i)

  pub written_used : (a : Atom ℕ) (R T : List (Atom ℕ)) → UsesUp (AffineAtom (decls_of p)) a R T → AllWritten p R → AllWritten p T
  written_used a R T u all b i = all b (unused_in (AffineAtom (decls_of p)) a b R T u i)

  pub written_all_used : (q R T : List (Atom ℕ)) → UsesUpAll (AffineAtom (decls_of p)) q R T → AllWritten p R → AllWritten p T
  written_all_used q R T u all b i = all b (all_unused_in (AffineAtom (decls_of p)) q b R T u i)

  -- permissions of simple types
  pub has_int : (x : ℕ) → IsNumber x → Written p (Has_atom x Int_type)
  has_int x h = record { bare = tt; shallow = omega arith; names = λ n i. elim i [ inl e ↦ subst IsNumber (sym e) h | inr none ↦ absurd none ] }

  pub has_unknown : (x : ℕ) → IsNumber x → Written p (Has_atom x Unknown_type)
  has_unknown x h = record { bare = tt; shallow = omega arith; names = λ n i. elim i [ inl e ↦ subst IsNumber (sym e) h | inr none ↦ absurd none ] }

  pub has_dynamic : (x : ℕ) → IsNumber x → Written p (Has_atom x Dynamic_type)
  has_dynamic x h = record { bare = tt; shallow = omega arith; names = λ n i. elim i [ inl e ↦ subst IsNumber (sym e) h | inr none ↦ absurd none ] }

  pub has_locked : (x : ℕ) → IsNumber x → Written p (Has_atom x Locked_type)
  has_locked x h = record { bare = tt; shallow = omega arith; names = λ n i. elim i [ inl e ↦ subst IsNumber (sym e) h | inr none ↦ absurd none ] }

  pub has_named : (x d : ℕ) → IsNumber x → d < length p.varieties → Written p (Has_atom x (Named_type d))
  has_named x d h l = record { bare = l; shallow = omega arith; names = λ n i. elim i [ inl e ↦ subst IsNumber (sym e) h | inr none ↦ absurd none ] }

  pub has_function : (x s : ℕ) → IsNumber x → s < length p.sigs → Written p (Has_atom x (Function_type s))
  has_function x s h l = record { bare = l; shallow = omega arith; names = λ n i. elim i [ inl e ↦ subst IsNumber (sym e) h | inr none ↦ absurd none ] }

  pub same_written : (x y : ℕ) → IsNumber x → IsNumber y → Written p (Same_atom x y)
  same_written x y h k = record { bare = tt; shallow = omega arith; names = λ n i. elim i [ inl e ↦ subst IsNumber (sym e) h | inr j ↦ (elim j [ inl e ↦ subst IsNumber (sym e) k | inr none ↦ absurd none ]) ] }

  -- a block with so many names as its constructor has fields
  pub has_block : (x con : ℕ) (ys : List ℕ) (adopts : Option ℕ) → IsNumber x → HasFields p con (length ys) → AllNumbers ys → IfSome adopts (λ u. u < length p.varieties) → Written p (Has_atom x (Block_type con ys adopts))
  has_block x con ys adopts h f k u = record {
    bare = (subst (λ n. HasFields p con n) (sym (length-map ys (λ _. tt))) f, u);
    shallow = omega arith;
    names = λ n i. elim i [ inl e ↦ subst IsNumber (sym e) h | inr j ↦ k n j ];
  }

  -- and what such a block says
  pub subject_number : (x : ℕ) (t : Ty ℕ) → Written p (Has_atom x t) → IsNumber x
  subject_number x t w = w.names x (inl refl)

  pub block_fields : (x con : ℕ) (ys : List ℕ) (adopts : Option ℕ) → Written p (Has_atom x (Block_type con ys adopts)) → HasFields p con (length ys)
  block_fields x con ys adopts w = subst (λ n. HasFields p con n) (length-map ys (λ _. tt)) w.bare.0

  pub block_names : (x con : ℕ) (ys : List ℕ) (adopts : Option ℕ) → Written p (Has_atom x (Block_type con ys adopts)) → AllNumbers ys
  block_names x con ys adopts w n i = w.names n (inr i)

  module _ (s : Scoped p) where
    -- what a data type adopts is declared
    pub clause_fits : (d : ℕ) → IfSome (clause_of (decls_of p) d) (λ u. u < length p.varieties)
    clause_fits d = of_variety (slice_get p.varieties d) refl
      where
        of_variety : (o : Option Variety) → slice_get p.varieties d ≡ o → IfSome (clause_in o) (λ u. u < length p.varieties)
        of_variety None e = tt
        of_variety (Some v) e = (s.varieties d v e).adopts

    pub content_written : (con : ℕ) (made : Con) (ys : List ℕ) (f : Field) → slice_get p.cons con ≡ Some made → In f made.fields → AllNumbers ys → Written p (content ys f)
    content_written con made ys f e i k =
        let g = in_get f made.fields i in
        let c = ((s.cons con made e).fields g.0 f g.1).content in
        let bare : Written p (map_atom (at_or 0 ys) f.content) = record {
          bare = subst (FitsBare p) (sym (nameless_map (at_or 0 ys) f.content)) (bare_atom p (IsBound (names_below (length made.fields))) f.content c.0);
          shallow = subst (λ b. bare_depth b ≤ 200) (sym (nameless_map (at_or 0 ys) f.content)) (subst (λ n. n ≤ 200) (sym (depth_of_atom f.content)) c.1);
          names = λ n j. (let r = in_image (at_or 0 ys) n (names_in_atom f.content) (subst (λ l. In n l) (names_map (at_or 0 ys) f.content) j) in subst IsNumber (sym r.2) (nth_number ys k r.0));
        } in
        bare

    -- a block that is opened, and the contents of its fields
    pub opens_written : (R : List (Atom ℕ)) (x d con n : ℕ) (T : List (Atom ℕ)) → Opens Any_copy (decls_of p) R x d con n T → AllWritten p R → AllWritten p T
    opens_written R x d con n T o all =
        let ys = names_from n (length o.made.fields) in
        let k = fresh_numbers R n (length o.made.fields) o.fresh in
        let h = subject_number x (Named_type d) (all (Has_atom x (Named_type d)) (used_in (AffineAtom (decls_of p)) (Has_atom x (Named_type d)) R o.rest o.used)) in
        let f : HasFields p con (length ys) = record { found = o.made; declared = o.is_con; fields = sym (names_length n (length o.made.fields)) } in
        written_parts o.rest (opened x con ys (clause_of (decls_of p) d) o.made.fields) T o.new (written_used (Has_atom x (Named_type d)) R o.rest o.used all)
        (λ b i. elim i [
          | inl e ↦ subst (Written p) (sym e) (has_block x con ys (clause_of (decls_of p) d) h f k (clause_fits d))
          | inr j ↦ (let r = in_image (content ys) b o.made.fields j in subst (Written p) (sym r.2) (content_written con o.made ys r.0 o.is_con r.1 k))
        ])
