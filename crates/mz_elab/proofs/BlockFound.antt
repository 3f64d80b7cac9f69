-- The block that a command is of, and what is made of it.
use Rattle.std.proofs.Common.{◌≡◌, ◌<◌, inl, inr, ℕ, zero, suc, List, [], ◌∷◌, ◌++◌, length, take, drop, get_or, Option, Some, None, slice_get, slice_set, refl, sym, ap, ◌∙◌, subst, arith}
use Rattle.std.proofs.lemmas.List.{append_assoc}
use Rattle.std.proofs.lemmas.Option.{slice_get_within, slice_get-get_or}
use Rattle.mz_tree.specs.Plain.{Atom, Ty, Block_type, Named_type, Unknown_type, Has_atom, Same_atom}
use Rattle.mz_tree.specs.Programs.{Con}
use Rattle.mz_decl.specs.Contents.{contents, opened, names_from}
use Rattle.mz_decl.specs.Declarations.{Decls, clause_of, only_of}
use Rattle.mz_decl.proofs.Adopters.{some_is}
use Rattle.mz_index.specs.Finding.{IsFirst, NoneFits, InClass}
use Rattle.mz_elab.specs.Acting.{BlockOf, OpensAt, Reading, Changing, Written, Retagged}
use Rattle.mz_elab.specs.Lacking.{NoBlock}
use Rattle.mz_elab.specs.Scoping.{HasField}
use Rattle.mz_elab.specs.Sought.{IsFirstAt}
use Rattle.mz_elab.specs.Finding.{BlockAt, ClosedAt, OpensFresh}
use Rattle.mz_elab.specs.Changing.{MutableAt, IsRetagged}

-- there is none: the permission that is wanting
pub no_block : (D : Decls) (R : List (Atom ℕ)) (x con number : ℕ) (made : Con) → slice_get D.cons con ≡ Some made → NoneFits (InClass R x (BlockOf D con)) R → number ≡ made.variety → ClosedAt D R x number con None → NoBlock D R x con (Has_atom x (Named_type number))
no_block D R x con number made is alone e none = record {
  made = made;
  is_con = is;
  no_block = alone;
  no_data = subst (λ d. only_of D d ≡ Some con → NoneFits (InClass R x (λ t. t ≡ Named_type d)) R) e none;
  is = ap (λ d. Has_atom x (Named_type d)) e;
}

-- what stands behind a list
at_seam : {A : Type 0} (xs ys : List A) (b : A) → slice_get (xs ++ b ∷ ys) (length xs) ≡ Some b
at_seam [] ys b = refl
at_seam (x ∷ xs) ys b = at_seam xs ys b

length_take : {A : Type 0} (xs : List A) (p : ℕ) → p < length xs → length (take p xs) ≡ p
length_take [] p h = absurd (omega (arith, h))
length_take (x ∷ xs) zero h = refl
length_take (x ∷ xs) (suc p) h = ap suc (length_take xs p (omega (arith, h)))

-- the opened block's own permission stands at its place
opened_stands : (D : Decls) (R : List (Atom ℕ)) (p d : ℕ) (b : Atom ℕ) (more S : List (Atom ℕ)) (at : ℕ) → p < length R → OpensAt D R p d (b ∷ more) S at → slice_get S at ≡ Some b
opened_stands D R p d b more S at h (inl (affine, s, e)) =
    ap (λ l. slice_get l at) (s ∙ append_assoc (take p R) (b ∷ more) (drop (suc p) R)) ∙ ap (slice_get (take p R ++ b ∷ (more ++ drop (suc p) R))) (e ∙ sym (length_take R p h)) ∙ at_seam (take p R) (more ++ drop (suc p) R) b
opened_stands D R p d b more S at h (inr (plain, s, e)) = ap (λ l. slice_get l at) s ∙ ap (slice_get (R ++ b ∷ more)) e ∙ at_seam R more b

names_count : (n count : ℕ) → length (names_from n count) ≡ count
names_count n zero = refl
names_count n (suc count) = ap suc (names_count (suc n) count)

-- it is the first of its data type, opened
pub block_opened : (D : Decls) (R : List (Atom ℕ)) (x con n : ℕ) (S : List (Atom ℕ)) (m number at spot : ℕ) → NoneFits (InClass R x (BlockOf D con)) R → ((made : Con) → slice_get D.cons con ≡ Some made → number ≡ made.variety) →
    (only_of D number ≡ Some con) × IsFirstAt R x (λ t. t ≡ Named_type number) at → OpensFresh D R at number con n S m spot → BlockAt D R x con n S m spot
block_opened D R x con n S m number at spot alone is (only, f) o =
    let e = is o.made o.is_con in
    let ys = names_from n (length o.made.fields) in
    let clause = clause_of D number in
    let first : IsFirst (InClass R x (λ t. t ≡ Named_type number)) R at (Has_atom o.name (Named_type number)) = record {
      stands = o.stands;
      fits = subst (InClass R x (λ t. t ≡ Named_type number)) (some_is f.one (Has_atom o.name (Named_type number)) (sym f.first.stands ∙ o.stands)) f.first.fits;
      before = f.first.before;
    } in
    record {
      name = o.name;
      names = ys;
      clause = clause;
      found = inr (record {
        alone = alone;
        made = o.made;
        is_con = o.is_con;
        only = subst (λ d. only_of D d ≡ Some con) e only;
        at = at;
        first = subst (λ d. IsFirst (InClass R x (λ t. t ≡ Named_type d)) R at (Has_atom o.name (Named_type d))) e first;
        names = refl;
        adopts = ap (clause_of D) e;
        numbers = o.numbers;
        state = subst (λ d. OpensAt D R at d (opened o.name con ys clause o.made.fields) S spot) e o.opens;
      });
      stands = opened_stands D R at number (Has_atom o.name (Block_type con ys clause)) (contents ys o.made.fields) S spot (slice_get_within R at (Has_atom o.name (Named_type number)) o.stands) o.opens;
      made = o.made;
      is_con = o.is_con;
      many = names_count n (length o.made.fields);
    }

module _ (D : Decls) (R : List (Atom ℕ)) (x con n : ℕ) (S : List (Atom ℕ)) (m at : ℕ) where
  -- a field of the block
  field_within : (field : ℕ) (b : BlockAt D R x con n S m at) → HasField D con field → field < length b.names
  field_within field b h = let e = ap (λ (c : Con). length c.fields) (some_is h.made b.made (sym h.is_con ∙ b.is_con)) in omega (arith, h.within, e, b.many)

  -- it is read
  pub read_done : (c field value : ℕ) (T : List (Atom ℕ)) (b : BlockAt D R x con n S m at) → HasField D con field → ((y k : ℕ) (ys : List ℕ) (clause : Option ℕ) (z : ℕ) → slice_get S at ≡ Some (Has_atom y (Block_type k ys clause)) → slice_get ys field ≡ Some z → value ≡ z) →
      T ≡ S ++ Same_atom c value ∷ [] → Reading D R n c x con field T m
  read_done c field value T b h is new =
      let z = get_or b.names field 0 in
      let there = slice_get-get_or b.names field 0 (field_within field b h) in
      record {
        place = at;
        name = b.name;
        names = b.names;
        clause = b.clause;
        state = S;
        found = b.found;
        value = value;
        at_field = there ∙ ap Some (sym (is b.name con b.names b.clause z b.stands there));
        new = new;
      }

  -- it is changed in its place
  block_changed : (c : ℕ) (becomes : List ℕ → Option ℕ → Ty ℕ → Type 0) (ty : Ty ℕ) (U T : List (Atom ℕ)) (b : MutableAt D R x con n S m at) → becomes b.block.names b.block.clause ty → U ≡ slice_set S at (Has_atom b.block.name ty) →
      T ≡ U ++ Has_atom c Unknown_type ∷ [] → Changing D R n c x con becomes T m
  block_changed c becomes ty U T b changed put new = record {
    mutable = b.mutable;
    place = at;
    name = b.block.name;
    names = b.block.names;
    clause = b.block.clause;
    state = S;
    found = b.block.found;
    ty = ty;
    changed = changed;
    new = new ∙ ap (λ l. l ++ Has_atom c Unknown_type ∷ []) put;
  }

  module _ (c : ℕ) (old new : Atom ℕ) (U T : List (Atom ℕ)) (b : MutableAt D R x con n S m at) (stands : slice_get S at ≡ Some old) (put : U ≡ slice_set S at new) (added : T ≡ U ++ Has_atom c Unknown_type ∷ []) where
    old_is : old ≡ Has_atom b.block.name (Block_type con b.block.names b.block.clause)
    old_is = some_is old (Has_atom b.block.name (Block_type con b.block.names b.block.clause)) (sym stands ∙ b.block.stands)

    -- a field is written
    pub write_done : (field z : ℕ) → HasField D con field → ((y k : ℕ) (ys : List ℕ) (clause : Option ℕ) → old ≡ Has_atom y (Block_type k ys clause) → field < length ys → new ≡ Has_atom y (Block_type k (slice_set ys field z) clause)) → Changing D R n c x con (Written con field z) T m
    write_done field z h is = block_changed c (Written con field z) (Block_type con (slice_set b.block.names field z) b.block.clause) U T b refl (put ∙ ap (slice_set S at) (is b.block.name con b.block.names b.block.clause old_is (field_within field b.block h))) added

    -- or the tag is changed
    pub retag_done : (tag : ℕ) → ((y k : ℕ) (ys : List ℕ) (clause : Option ℕ) → old ≡ Has_atom y (Block_type k ys clause) → IsRetagged D y tag ys clause new) → Changing D R n c x con (Retagged D tag) T m
    retag_done tag is =
        let r = is b.block.name con b.block.names b.block.clause old_is in
        block_changed c (Retagged D tag) (Block_type tag b.block.names r.left) U T b (r.left, r.leaves, refl) (put ∙ ap (slice_set S at) r.is) added
