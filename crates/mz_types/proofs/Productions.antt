-- Each reader of types and atoms reads what the grammar says: production by production, and then lock in lock. d and e are how
-- many brackets may be opened, outside and inside of one.
use Rattle.std.proofs.Common.{◌≡◌, ℕ, suc, Bool, true, false, List, [], ◌∷◌, Some, None, refl, sym, ap, ◌||◌, inl, inr}
use Rattle.mz_grammar.specs.Reading.{Read, passes}
use Rattle.mz_grammar.specs.Brackets.{Opens}
use Rattle.mz_grammar.specs.Relations.{Nothing, Then, Either, Image, Maybe}
use Rattle.mz_grammar.specs.Readers.{Any, Reads}
use Rattle.mz_grammar.proofs.Readers.{Starts, token_starts, then_starts, image_starts, either_starts, either_of, before, mapped}
use Rattle.mz_grammar.proofs.ManyReaders.{Ends}
use Rattle.mz_grammar.proofs.Alternatives.{OneOf, last_of, one_of, among}
use Rattle.mz_grammar.proofs.Parts.{then_any, then_sure, then_many, then_maybe, done_or, bracketed}
use Rattle.mz_grammar.proofs.Layers.{Lifts, lifts_self, lifts_const, lifts_then, lifts_either, lifts_image, lifts_many}
use Rattle.mz_token.specs.declared.token.Token.{Token}
use Rattle.mz_token.specs.declared.token.Kind.{Kind}
use Rattle.mz_token.specs.declared.token.Kind.TheVariants as kind
use Rattle.mz_token.specs.Tokens.{is_lower, is_upper, is_key, is_mark}
use Rattle.mz_types.specs.declared.tree.SurfaceType.{SurfaceType, Int, Unknown, Dynamic, Locked, Singleton, Named, Lock, Structure}
use Rattle.mz_types.specs.declared.tree.SurfaceAtom.{Has, Same}
use Rattle.mz_types.specs.Words.{Spelling, lower, upper, key, mark, turn, turn_of, Low, Up, Key, Mark, Name}
use Rattle.mz_types.specs.Trees.{field_name_of}
use Rattle.mz_types.specs.Grammar.{IsField, IsFields, IsClause, IsStructure, IsSingleton, HasOver, IsSame, AtomOver, AtomsOver, LockOver, TypeOver}
use Rattle.mz_types.specs.Reading.{field_at, next_field_at, fields_at, maybe_fields_at, clause_at, singleton_at, word_at, structure_by, has_by, same_at, atom_by, next_atom_by, atoms_by, lock_by, type_by, below}
use Rattle.mz_types.specs.Fronts.{AfterType, AfterAtoms}
use Rattle.mz_types.proofs.Sorts.{sorts, Lower_sort, Upper_sort, Key_sort, Mark_sort}
use Rattle.mz_types.proofs.Singles.{lower_has, key_has, mark_has, mark_next, sample, low_reads, up_reads, key_reads, name_reads, mark_reads}

-- ---- structural types and singletons

module _ (d : ℕ) where
  field_reads : Reads turn field_at IsField Any d d
  unfolding field_at
  field_reads = then_any (low_reads d) (λ field. then_any (mark_reads 8 d d refl) (λ is. mapped (low_reads d) (field_name_of field)))

  next_field_reads : Reads turn next_field_at (Then (Mark 4) (λ semicolon. IsField)) Any d d
  unfolding next_field_at
  next_field_reads = then_any (mark_reads 4 d d refl) (λ semicolon. field_reads)

  fields_read : Reads turn fields_at IsFields (Ends (mark 4) Any) d d
  unfolding fields_at
  fields_read = then_many (mark 4) (λ one others. one ∷ others) field_reads next_field_reads (then_starts (Mark 4) (λ semicolon. IsField) (token_starts (mark 4))) (λ o h. tt)

  fields_start : Starts IsFields lower
  fields_start = then_starts IsField _ (then_starts Low _ (token_starts lower))

  -- a closing brace is no name and no `;`
  pub maybe_fields_read : Reads turn maybe_fields_at (Either (Nothing []) IsFields) (λ o. passes (mark 1) o ≡ true) d d
  unfolding maybe_fields_at
  maybe_fields_read = done_or (mark 1) lower [] fields_read fields_start (mark_has 1 (λ k. is_lower k ≡ false) refl)
      (mark_next 1 (λ k. is_mark 4 k ≡ false) refl (Ends (mark 4) Any) (λ t w. (w, tt)))

  pub clause_reads : Reads turn clause_at IsClause Any d d
  unfolding clause_at
  clause_reads = then_any (key_reads 2 d) (λ adopts. low_reads d)

  pub singleton_reads : Reads turn singleton_at IsSingleton Any d d
  unfolding singleton_at
  singleton_reads = then_any (mark_reads 8 d d refl) (λ is. mapped (low_reads d) (Singleton is))

  pub key_type_reads : (n : ℕ) (type : Token → SurfaceType) → Reads turn (word_at (key n) type) (Image type (Key n)) Any d d
  unfolding word_at
  key_type_reads n type = mapped (key_reads n d) type

  pub named_reads : Reads turn (word_at lower Named) (Image Named Low) Any d d
  unfolding word_at
  named_reads = mapped (low_reads d) Named

-- an example of what stands behind an opening brace: the closing one
braces_end : (con : Token) (opening : Token) → (front : List Token) × (type : SurfaceType) × Then (Either (Nothing []) IsFields) (λ fields. Then (Mark 1) (λ closing. Image (Structure con fields) (Maybe IsClause))) front type
unfolding sample
braces_end con opening = (
  sample (kind.Mark 1) ∷ [],
  Structure con [] None,
  ([], [], sample (kind.Mark 1) ∷ [], refl, inl (refl, refl), (sample (kind.Mark 1), sample (kind.Mark 1) ∷ [], [], refl, (refl, refl), (None, refl, refl))),
)

-- fields, the closing brace, and perhaps what is adopted
structure_reads : (d : ℕ) → Reads turn (structure_by d) IsStructure AfterType d d
unfolding structure_by sample
structure_reads d = then_any (up_reads d) (λ con. bracketed (mark 0) (mark_has 0 (λ k. turn_of k ≡ Opens) refl) (sample (kind.Mark 0)) refl (braces_end con) d
    (λ e h opening. then_sure (mark 1) (maybe_fields_read e)
    (λ fields. then_maybe (key 2) (λ closing adopts. Structure con fields adopts) (mark_reads 1 e d (ap Some (sym h))) (clause_reads d) (then_starts (Key 2) (λ adopts. Low) (token_starts (key 2))) (λ o w. tt))
    (λ fields. then_starts (Mark 1) _ (token_starts (mark 1))) (λ o w. w)))

-- ---- atoms, over what reads the types in them

pub same_reads : (result : Bool) (e : ℕ) (left : Token) → Reads turn (same_at result left) (IsSame result left) Any e e
unfolding same_at
same_reads result e left = then_any (mark_reads 8 e e refl) (λ is. mapped (name_reads result e) (Same left))

module _ (result : Bool) (e : ℕ) (inner : List Token → Read Token SurfaceType) (X : Spelling SurfaceType) (I : Reads turn inner X AfterType e e) where
  pub has_reads : (subject : Token) → Reads turn (has_by inner subject) (HasOver X subject) AfterType e e
  unfolding has_by
  has_reads subject = then_any (mark_reads 22 e e refl) (λ at. mapped I (Has subject))

  -- `@` is no `=`
  pub atom_reads : Reads turn (atom_by result inner) (AtomOver result X) AfterType e e
  unfolding atom_by
  atom_reads = then_any (name_reads result e) (λ subject. either_of (mark 22) (mark 8) (has_reads subject) (before (same_reads result e subject) (λ o w. tt))
      (then_starts (Mark 22) _ (token_starts (mark 22))) (then_starts (Mark 8) _ (token_starts (mark 8))) (mark_has 22 (λ k. is_mark 8 k ≡ false) refl))

  pub next_atom_reads : Reads turn (next_atom_by result inner) (Then (Mark 9) (λ star. AtomOver result X)) AfterType e e
  unfolding next_atom_by
  next_atom_reads = then_any (mark_reads 9 e e refl) (λ star. atom_reads)

  -- a `*` is no `adopts`
  pub atoms_read : Reads turn (atoms_by result inner) (AtomsOver result X) AfterAtoms e e
  unfolding atoms_by
  atoms_read = then_many (mark 9) (λ one others. one ∷ others) atom_reads next_atom_reads (then_starts (Mark 9) (λ star. AtomOver result X) (token_starts (mark 9)))
      (mark_next 9 (λ k. is_key 2 k ≡ false) refl AfterType (λ t w. (w, tt)))

-- ---- types, over what stands in a lock

-- an example of what stands behind a lock's bracket: an equation and the closing one
module _ (result : Bool) (X : Spelling SurfaceType) (word : Token) where
  abbrev low_sample : Token
  low_sample = sample kind.Lower

  abbrev is_sample : Token
  is_sample = sample (kind.Mark 8)

  abbrev closing_sample : Token
  closing_sample = sample (kind.Mark 3)

  lock_ends : (opening : Token) → (front : List Token) × (type : SurfaceType) × Then (AtomsOver result X) (λ guarded. Image (λ closing. Lock word guarded) (Mark 3)) front type
  unfolding sample
  lock_ends opening = (
    low_sample ∷ is_sample ∷ low_sample ∷ closing_sample ∷ [],
    Lock word (Same low_sample low_sample ∷ []),
    (
      Same low_sample low_sample ∷ [],
      low_sample ∷ is_sample ∷ low_sample ∷ [],
      closing_sample ∷ [],
      refl,
      (
        Same low_sample low_sample,
        low_sample ∷ is_sample ∷ low_sample ∷ [],
        [],
        refl,
        (low_sample, low_sample ∷ [], is_sample ∷ low_sample ∷ [], refl, (refl, refl), inr (is_sample, is_sample ∷ [], low_sample ∷ [], refl, (refl, refl), (low_sample, (refl, refl), refl))),
        ([], refl, refl),
      ),
      (closing_sample, (refl, refl), refl),
    ),
  )

module _ (result : Bool) (d : ℕ) (inner : List Token → Read Token SurfaceType) (X : Spelling SurfaceType) (I : (e : ℕ) → d ≡ suc e → Reads turn inner X AfterType e e) where
  -- a closing bracket is no `*` and no `adopts`
  pub lock_reads : Reads turn (lock_by result d inner) (LockOver result X) Any d d
  unfolding lock_by sample
  lock_reads = then_any (key_reads 19 d) (λ word. bracketed (mark 2) (mark_has 2 (λ k. turn_of k ≡ Opens) refl) (sample (kind.Mark 2)) refl (lock_ends result X word) d
      (λ e h opening. then_sure (mark 3) (atoms_read result e inner X (I e h)) (λ guarded. mapped (mark_reads 3 e d (ap Some (sym h))) (λ closing. Lock word guarded))
      (λ guarded. image_starts (token_starts (mark 3)))
      (mark_next 3 (λ k. (is_mark 9 k ≡ false) × ((is_key 2 k ≡ false) × Unit {0})) (refl, (refl, tt)) AfterAtoms (λ t w. w))))

  -- one of those that begin apart
  over_one_of : OneOf sorts turn (Key_sort 25) (Key_sort 26 ∷ Key_sort 27 ∷ Key_sort 20 ∷ Mark_sort 8 ∷ Lower_sort ∷ Key_sort 19 ∷ Upper_sort ∷ []) (type_by result d inner) (TypeOver result X) AfterType d d
  unfolding type_by
  over_one_of =
      one_of sorts (Key_sort 25) (before (key_type_reads d 25 Int) (λ o w. tt)) (image_starts (token_starts (key 25))) refl
      (one_of sorts (Key_sort 26) (before (key_type_reads d 26 Unknown) (λ o w. tt)) (image_starts (token_starts (key 26))) refl
      (one_of sorts (Key_sort 27) (before (key_type_reads d 27 Dynamic) (λ o w. tt)) (image_starts (token_starts (key 27))) refl
      (one_of sorts (Key_sort 20) (before (key_type_reads d 20 Locked) (λ o w. tt)) (image_starts (token_starts (key 20))) refl
      (one_of sorts (Mark_sort 8) (before (singleton_reads d) (λ o w. tt)) (then_starts (Mark 8) _ (token_starts (mark 8))) refl
      (one_of sorts Lower_sort (before (named_reads d) (λ o w. tt)) (image_starts (token_starts lower)) refl
      (one_of sorts (Key_sort 19) (before lock_reads (λ o w. tt)) (then_starts (Key 19) _ (token_starts (key 19))) refl
      (last_of sorts Upper_sort (structure_reads d) (then_starts Up _ (token_starts upper)))))))))

  pub over_reads : Reads turn (type_by result d inner) (TypeOver result X) AfterType d d
  over_reads = over_one_of.reads

-- what a type begins with
abbrev pub begins_type : Token → Bool
begins_type = among sorts (Key_sort 25) (Key_sort 26 ∷ Key_sort 27 ∷ Key_sort 20 ∷ Mark_sort 8 ∷ Lower_sort ∷ Key_sort 19 ∷ Upper_sort ∷ [])

-- no bracket need be opened to see it
pub over_starts : (result : Bool) (X : Spelling SurfaceType) → Starts (TypeOver result X) begins_type
over_starts result X = (over_one_of result 0 (below result 0) X (λ e h. cc)).starts

-- ---- the knot

-- each part lifts
pub atom_lifts : (result : Bool) → Lifts (AtomOver result)
atom_lifts result = lifts_then (lifts_const (Name result)) (λ subject. lifts_either (lifts_then (lifts_const (Mark 22)) (λ at. lifts_image (Has subject) lifts_self)) (lifts_const (IsSame result subject)))

pub atoms_lift : (result : Bool) → Lifts (AtomsOver result)
atoms_lift result = lifts_then (atom_lifts result) (λ one. lifts_image (λ others. one ∷ others) (lifts_many (lifts_then (lifts_const (Mark 9)) (λ star. atom_lifts result))))

pub type_lifts : (result : Bool) → Lifts (TypeOver result)
type_lifts result =
    lifts_either (lifts_const (Image Int (Key 25)))
    (lifts_either (lifts_const (Image Unknown (Key 26)))
    (lifts_either (lifts_const (Image Dynamic (Key 27)))
    (lifts_either (lifts_const (Image Locked (Key 20)))
    (lifts_either (lifts_const IsSingleton)
    (lifts_either (lifts_const (Image Named Low))
    (lifts_either (lifts_then (lifts_const (Key 19)) (λ word. lifts_then (lifts_const (Mark 2)) (λ opening. lifts_then (atoms_lift result) (λ guarded. lifts_const (Image (λ closing. Lock word guarded) (Mark 3))))))
    (lifts_const IsStructure)))))))

-- inside a bracket it is the same reader with one bracket less: by computation
pub next_below : (result : Bool) (d : ℕ) → below result (suc d) ≡ type_by result d (below result d)
unfolding below
next_below result d = refl
