-- A type, an atom and atoms that can't go on are read, whatever comes behind them: only a structural type and what ends with one
-- looks at the next token, for its clause, and there the clause could go on.
use Rattle.std.proofs.Common.{◌≡◌, ℕ, suc, inr, Bool, false, List, [], ◌∷◌, Some, IsTrue, refl, sym, subst, ap}
use Rattle.mz_grammar.specs.Reading.{Read}
use Rattle.mz_grammar.specs.Readers.{Reads}
use Rattle.mz_grammar.specs.Relations.{Then, Maybe}
use Rattle.mz_grammar.proofs.Readers.{token_starts, then_starts, image_starts}
use Rattle.mz_grammar.proofs.Layers.{layer_from, layer_to}
use Rattle.mz_grammar.proofs.Alternatives.{one_longest, last_longest}
use Rattle.mz_grammar.proofs.Longest.{Longest, reads_never, Opens, open_never, any_longest, sure_longest, mapped_longest, maybe_longest, either_longest, viewed_longest, reads_longest, then_many_longest}
use Rattle.mz_token.specs.declared.token.Token.{Token}
use Rattle.mz_token.specs.declared.token.Kind.TheVariants as kind
use Rattle.mz_token.specs.Tokens.{is_lower, is_upper, is_key, is_mark}
use Rattle.mz_types.specs.declared.tree.SurfaceType.{SurfaceType, Int, Unknown, Dynamic, Locked, Named, Structure}
use Rattle.mz_types.specs.declared.tree.SurfaceAtom.{SurfaceAtom, Has, Same}
use Rattle.mz_types.specs.Words.{Spelling, lower, upper, key, mark, turn, Low, Up, Key, Mark, Name}
use Rattle.mz_types.specs.Grammar.{IsClause, IsStructure, AtomOver, AtomsOver, LockOver, TypeOver, HasOver, IsType, IsAtom, IsAtoms}
use Rattle.mz_types.specs.Reading.{clause_at, structure_by, has_by, atom_by, next_atom_by, atoms_by, type_by, below, type_at, atom_at, atoms_at}
use Rattle.mz_types.specs.Fronts.{AfterType}
use Rattle.mz_types.proofs.Sorts.{sorts, Lower_sort, Upper_sort, Key_sort, Mark_sort}
use Rattle.mz_types.proofs.Singles.{lower_has, key_has, mark_has, mark_next, sample, up_reads, key_reads, mark_reads, name_reads}
use Rattle.mz_types.proofs.Productions.{maybe_fields_read, clause_reads, singleton_reads, key_type_reads, named_reads, lock_reads, same_reads, atom_reads, next_atom_reads, type_lifts, next_below}
use Rattle.mz_types.proofs.TypeFronts.{type_reads}

-- an `adopts` begins a clause
clause_opens : Opens IsClause (key 2)
unfolding sample
clause_opens t is = (sample kind.Lower ∷ [], sample kind.Lower, (t, t ∷ [], sample kind.Lower ∷ [], refl, (refl, is), (refl, refl)))

-- behind the closing brace stands perhaps the clause
structure_longest : (d : ℕ) → Longest (structure_by d) IsStructure
unfolding structure_by
structure_longest d = any_longest (reads_never (up_reads d)) (λ con. any_longest (open_never (mark 0) d) (λ opening. sure_longest (mark 1) (reads_never (maybe_fields_read d)) (λ fields. then_starts (Mark 1) _ (token_starts (mark 1))) (λ o w. w)
    (λ fields. any_longest (reads_never (mark_reads 1 d (suc d) refl))
    (λ closing. mapped_longest (Structure con fields) (maybe_longest (key 2) (then_starts (Key 2) (λ adopts. Low) (token_starts (key 2))) clause_opens (reads_longest (clause_reads d)))))))

-- one of those that begin apart, of which all but the last may be followed by anything
over_longest : (result : Bool) (d : ℕ) (inner : List Token → Read Token SurfaceType) (X : Spelling SurfaceType) → ((e : ℕ) → d ≡ suc e → Reads turn inner X AfterType e e) → Longest (type_by result d inner) (TypeOver result X)
unfolding type_by
over_longest result d inner X I = (
    one_longest sorts (Key_sort 25) (reads_longest (key_type_reads d 25 Int)) (image_starts (token_starts (key 25))) refl
    (one_longest sorts (Key_sort 26) (reads_longest (key_type_reads d 26 Unknown)) (image_starts (token_starts (key 26))) refl
    (one_longest sorts (Key_sort 27) (reads_longest (key_type_reads d 27 Dynamic)) (image_starts (token_starts (key 27))) refl
    (one_longest sorts (Key_sort 20) (reads_longest (key_type_reads d 20 Locked)) (image_starts (token_starts (key 20))) refl
    (one_longest sorts (Mark_sort 8) (reads_longest (singleton_reads d)) (then_starts (Mark 8) _ (token_starts (mark 8))) refl
    (one_longest sorts Lower_sort (reads_longest (named_reads d)) (image_starts (token_starts lower)) refl
    (one_longest sorts (Key_sort 19) (reads_longest (lock_reads result d inner X I)) (then_starts (Key 19) _ (token_starts (key 19))) refl
    (last_longest sorts Upper_sort (structure_longest d) (then_starts Up _ (token_starts upper)))))))))).longest

-- ---- atoms, over what reads the types in them

module _ (result : Bool) (e : ℕ) (inner : List Token → Read Token SurfaceType) (X : Spelling SurfaceType) (I : Reads turn inner X AfterType e e) (L : Longest inner X) where
  has_longest : (subject : Token) → Longest (has_by inner subject) (HasOver X subject)
  unfolding has_by
  has_longest subject = any_longest (reads_never (mark_reads 22 e e refl)) (λ at. mapped_longest (Has subject) L)

  pub atom_longest : Longest (atom_by result inner) (AtomOver result X)
  unfolding atom_by
  atom_longest = any_longest (reads_never (name_reads result e)) (λ subject. either_longest (mark 22) (mark 8) (has_longest subject) (reads_longest (same_reads result e subject))
      (then_starts (Mark 22) _ (token_starts (mark 22))) (then_starts (Mark 8) _ (token_starts (mark 8))) (mark_has 22 (λ k. is_mark 8 k ≡ false) refl))

  next_atom_longest : Longest (next_atom_by result inner) (Then (Mark 9) (λ star. AtomOver result X))
  unfolding next_atom_by
  next_atom_longest = any_longest (reads_never (mark_reads 9 e e refl)) (λ star. atom_longest)

  abbrev low_sample : Token
  low_sample = sample kind.Lower

  abbrev is_sample : Token
  is_sample = sample (kind.Mark 8)

  -- a `*` begins another atom
  next_atom_opens : Opens (Then (Mark 9) (λ star. AtomOver result X)) (mark 9)
  unfolding sample
  next_atom_opens t is = (
    low_sample ∷ is_sample ∷ low_sample ∷ [],
    Same low_sample low_sample,
    (t, t ∷ [], low_sample ∷ is_sample ∷ low_sample ∷ [], refl, (refl, is), (low_sample, low_sample ∷ [], is_sample ∷ low_sample ∷ [], refl, (refl, refl), inr (is_sample, is_sample ∷ [], low_sample ∷ [], refl, (refl, refl), (low_sample, (refl, refl), refl)))),
  )

  pub atoms_longest : Longest (atoms_by result inner) (AtomsOver result X)
  unfolding atoms_by
  atoms_longest = then_many_longest (mark 9) (next_atom_reads result e inner X I) (then_starts (Mark 9) (λ star. AtomOver result X) (token_starts (mark 9))) (mark_next 9 (λ k. is_key 2 k ≡ false) refl AfterType (λ t w. (w, tt)))
      next_atom_opens next_atom_longest (λ one others. one ∷ others) (reads_never (atom_reads result e inner X I)) atom_longest

-- ---- with any number of locks in locks

module _ (result : Bool) where
  -- inside a lock they are read, as elsewhere
  inside : (d e : ℕ) → d ≡ suc e → Reads turn (below result d) (IsType result) AfterType e e
  inside d e h = subst (λ (n : ℕ). Reads turn (below result n) (IsType result) AfterType e e) (sym h) (type_reads result e)

  pub type_longest : (d : ℕ) → Longest (type_at result d) (IsType result)
  type_longest d = subst (λ (p : List Token → Read Token SurfaceType). Longest p (IsType result)) (sym (next_below result d))
      (viewed_longest (over_longest result d (below result d) (IsType result) (inside d)) (layer_to (TypeOver result) (type_lifts result)) (layer_from (TypeOver result) (type_lifts result)))

  pub is_atom_longest : (d : ℕ) → Longest (atom_at result d) (IsAtom result)
  is_atom_longest d = atom_longest result d (type_at result d) (IsType result) (type_reads result d) (type_longest d)

  pub are_atoms_longest : (d : ℕ) → Longest (atoms_at result d) (IsAtoms result)
  are_atoms_longest d = atoms_longest result d (type_at result d) (IsType result) (type_reads result d) (type_longest d)
