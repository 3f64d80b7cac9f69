-- Each reader of declarations reads what the grammar says: production by production. d and e are how many brackets may be
-- opened, outside and inside of one.
use Rattle.std.proofs.Common.{◌≡◌, ℕ, suc, true, false, List, [], ◌∷◌, ◌++◌, Option, Some, None, IsTrue, refl, sym, ap, subst, ◌||◌, inl, inr}
use Rattle.mz_grammar.specs.Reading.{passes, token_at, maybe_at}
use Rattle.mz_grammar.specs.Relations.{Then, Image, Maybe}
use Rattle.mz_grammar.specs.Readers.{Any, Reads}
use Rattle.mz_grammar.proofs.Readers.{Starts, token_starts, then_starts, image_starts, either_starts, either_of, reads_maybe, before, mapped}
use Rattle.mz_grammar.proofs.ManyReaders.{Ends, reads_many}
use Rattle.mz_grammar.proofs.Parts.{then_any, then_sure, or_done}
use Rattle.mz_token.specs.declared.token.Kind.{Kind}
use Rattle.mz_token.specs.declared.token.Kind.TheVariants as kind
use Rattle.mz_token.specs.declared.token.Token.{Token}
use Rattle.mz_token.specs.Tokens.{is_lower, is_key, is_mark}
use Rattle.mz_types.specs.Fronts.{AfterType, AfterAtoms}
use Rattle.mz_types.specs.Grammar.{IsType, IsAtom, IsAtoms, IsClause}
use Rattle.mz_types.specs.Reading.{below, atom_by, atoms_by, clause_at}
use Rattle.mz_types.specs.Words.{Spelling, Low, Key, Mark, lower, key, mark, name, turn}
use Rattle.mz_types.proofs.Singles.{lower_has, name_has, key_has, mark_has, mark_next, sample, low_reads, up_reads, key_reads, mark_reads}
use Rattle.mz_types.proofs.TypeFronts.{type_reads, is_atom_reads, are_atoms_read, atom_starts}
use Rattle.mz_parse.specs.declared.tree.Constructor.{Constructor}
use Rattle.mz_parse.specs.declared.tree.Declaration.TheVariants as declaration
use Rattle.mz_parse.specs.Trees.{Taken, Given, field_of, con_of, data_of, param_of, need_of, sig_of, fun_of}
use Rattle.mz_parse.specs.Grammar.{Separated, MaybeSeparated, MaybeBehind, IsField, IsCon, IsData, IsParam, IsNeed, IsTaken, IsGiven, IsSig, IsFun, IsDeclaration, IsProgram}
use Rattle.mz_parse.specs.DeclarationReading.{field_by, fields_by, param_end, param_by, params_by, need_by, needs_by, gives_by, taken_in, given_in, con_by, cons_by, data_by, taken_by, given_by, sig_by, fun_by, declaration_by, declaring, program_by}
use Rattle.mz_parse.proofs.Forms.{next_has, or_has, separated_reads, maybe_separated_reads, in_braces, in_parens, maybe_then_starts, maybe_behind_starts}
use Rattle.mz_parse.proofs.ExpressionLayers.{blocks_read}

-- ---- what stands behind the bracket of a signature

abbrev TakenIn : Spelling Taken
TakenIn = Then (MaybeSeparated (mark 6) IsParam) (λ params. Then (MaybeBehind (mark 23) (Separated (mark 9) IsNeed)) (λ needs. Image (λ closing. (params, needs)) (Mark 3)))

abbrev GivenIn : Spelling Given
GivenIn = Then Low (λ result. Then (Mark 5) (λ colon. Then (IsType false) (λ ty. Then (MaybeBehind (mark 23) (IsAtoms false)) (λ gives. Image (λ closing. (result, ty, gives)) (Mark 3)))))

-- what holds of `|` and of `)` holds of what ends parameters
param_end_has : (P : Kind → Type 0) → P (kind.Mark 23) → P (kind.Mark 3) → (t : Token) → IsTrue (param_end t) → P t.kind
param_end_has P bar closing = or_has (mark 23) (mark 3) (λ t. P t.kind) (mark_has 23 P bar) (mark_has 3 P closing)

-- ---- inside a bracket that is counted

module _ (d e : ℕ) (h : d ≡ suc e) where
  inside_type : Reads turn (below false d) (IsType false) AfterType e e
  inside_type = subst (λ (n : ℕ). Reads turn (below false n) (IsType false) AfterType e e) (sym h) (type_reads false e)

  inside_atom : Reads turn (atom_by false (below false d)) (IsAtom false) AfterType e e
  inside_atom = subst (λ (n : ℕ). Reads turn (atom_by false (below false n)) (IsAtom false) AfterType e e) (sym h) (is_atom_reads false e)

  inside_atoms : Reads turn (atoms_by false (below false d)) (IsAtoms false) AfterAtoms e e
  inside_atoms = subst (λ (n : ℕ). Reads turn (atoms_by false (below false n)) (IsAtoms false) AfterAtoms e e) (sym h) (are_atoms_read false e)

  -- a mark that is no part of a type
  ends_type : (n : ℕ) → (o : Option Token) → passes (mark n) o ≡ true → AfterType o
  ends_type n = mark_next n (λ k. is_key 2 k ≡ false) refl AfterType (λ t w. (w, tt))

  field_reads : Reads turn (field_by d) IsField AfterType e e
  unfolding field_by
  field_reads = then_any (low_reads e) (λ name. then_any (mark_reads 5 e e refl) (λ colon. mapped inside_type (field_of name)))

  fields_read : Reads turn (fields_by d) (MaybeSeparated (mark 4) IsField) (λ o. passes (mark 1) o ≡ true) e e
  unfolding fields_by
  fields_read = maybe_separated_reads (mark 1) (mark 4) lower field_reads (then_starts Low _ (token_starts lower)) (mark_reads 4 e e refl) (mark_has 1 (λ k. is_lower k ≡ false) refl) (ends_type 4)
      (mark_next 1 (λ k. (is_mark 4 k ≡ false) × ((is_key 2 k ≡ false) × Unit {0})) (refl, (refl, tt)) (Ends (mark 4) AfterType) (λ t w. w))

  -- perhaps `consumes`
  consumes_reads : Reads turn (maybe_at (key 5) (token_at (key 5))) (Maybe (Key 5)) (Ends (key 5) Any) e e
  consumes_reads = reads_maybe (key 5) (key_reads 5 e) (token_starts (key 5))

  -- a name is no `consumes`
  param_reads : Reads turn (param_by d) IsParam AfterType e e
  unfolding param_by
  param_reads = then_sure lower consumes_reads (λ consumes. then_any (low_reads e) (λ name. then_any (mark_reads 5 e e refl) (λ colon. mapped inside_type (param_of consumes name))))
      (λ consumes. then_starts Low _ (token_starts lower)) (next_has lower (Ends (key 5) Any) (λ t is. (lower_has (λ k. is_key 5 k ≡ false) refl t is, tt)))

  need_reads : Reads turn (need_by d) IsNeed AfterType e e
  unfolding need_by
  need_reads = then_sure (name false) consumes_reads (λ consumes. mapped inside_atom (need_of consumes)) (λ consumes. image_starts (atom_starts false))
      (next_has (name false) (Ends (key 5) Any) (λ t is. (name_has false (λ k. is_key 5 k ≡ false) refl refl t is, tt)))

  -- what ends parameters begins none, and is no `,`
  params_read : Reads turn (params_by d) (MaybeSeparated (mark 6) IsParam) (λ o. passes param_end o ≡ true) e e
  unfolding params_by
  params_read = maybe_separated_reads param_end (mark 6) (λ t. key 5 t || lower t) param_reads (maybe_then_starts (token_starts (key 5)) (λ consumes. then_starts Low _ (token_starts lower))) (mark_reads 6 e e refl)
      (param_end_has (λ k. (is_key 5 k || is_lower k) ≡ false) refl refl) (ends_type 6)
      (next_has param_end (Ends (mark 6) AfterType) (param_end_has (λ k. (is_mark 6 k ≡ false) × ((is_key 2 k ≡ false) × Unit {0})) (refl, (refl, tt)) (refl, (refl, tt))))

  needs_read : Reads turn (needs_by d) (MaybeBehind (mark 23) (Separated (mark 9) IsNeed)) (Ends (mark 23) (Ends (mark 9) AfterType)) e e
  unfolding needs_by
  needs_read = or_done (mark 23) [] (then_any (mark_reads 23 e e refl) (λ bar. separated_reads (mark 9) need_reads (mark_reads 9 e e refl) (ends_type 9))) (then_starts (Mark 23) (λ bar. Separated (mark 9) IsNeed) (token_starts (mark 23)))

  gives_read : Reads turn (gives_by d) (MaybeBehind (mark 23) (IsAtoms false)) (Ends (mark 23) AfterAtoms) e e
  unfolding gives_by
  gives_read = or_done (mark 23) [] (then_any (mark_reads 23 e e refl) (λ bar. inside_atoms)) (then_starts (Mark 23) (λ bar. IsAtoms false) (token_starts (mark 23)))

  -- a closing bracket goes on with neither
  taken_in_reads : Reads turn (taken_in d) TakenIn Any e d
  unfolding taken_in
  taken_in_reads = then_sure param_end params_read
      (λ params. then_sure (mark 3) needs_read (λ needs. mapped (mark_reads 3 e d (ap Some (sym h))) (λ closing. (params, needs))) (λ needs. image_starts (token_starts (mark 3)))
      (mark_next 3 (λ k. (is_mark 23 k ≡ false) × ((is_mark 9 k ≡ false) × ((is_key 2 k ≡ false) × Unit {0}))) (refl, (refl, (refl, tt))) (Ends (mark 23) (Ends (mark 9) AfterType)) (λ t w. w)))
      (λ params. maybe_behind_starts (mark 23) (Separated (mark 9) IsNeed) _ (image_starts (token_starts (mark 3)))) (λ o w. w)

  given_in_reads : Reads turn (given_in d) GivenIn Any e d
  unfolding given_in
  given_in_reads = then_any (low_reads e) (λ result. then_any (mark_reads 5 e e refl) (λ colon. then_sure param_end inside_type
      (λ ty. then_sure (mark 3) gives_read (λ gives. mapped (mark_reads 3 e d (ap Some (sym h))) (λ closing. (result, ty, gives))) (λ gives. image_starts (token_starts (mark 3)))
      (mark_next 3 (λ k. (is_mark 23 k ≡ false) × ((is_mark 9 k ≡ false) × ((is_key 2 k ≡ false) × Unit {0}))) (refl, (refl, (refl, tt))) (Ends (mark 23) AfterAtoms) (λ t w. w)))
      (λ ty. maybe_behind_starts (mark 23) (IsAtoms false) _ (image_starts (token_starts (mark 3))))
      (next_has param_end AfterType (param_end_has (λ k. (is_key 2 k ≡ false) × Unit {0}) (refl, tt) (refl, tt)))))

-- ---- examples of what stands behind a bracket: the closing one, and what must stand before it

con_ends : (name opening : Token) → (front : List Token) × (con : Constructor) × Then (MaybeSeparated (mark 4) IsField) (λ fields. Image (λ closing. con_of name fields) (Mark 1)) front con
unfolding sample
con_ends name opening =
    let closing : Token = sample (kind.Mark 1) in
    (closing ∷ [], con_of name [], ([], [], closing ∷ [], refl, inl (refl, refl), (closing, (refl, refl), refl)))

taken_ends : (opening : Token) → (front : List Token) × (taken : Taken) × TakenIn front taken
unfolding sample
taken_ends opening =
    let closing : Token = sample (kind.Mark 3) in
    (closing ∷ [], ([], []), ([], [], closing ∷ [], refl, inl (refl, refl), ([], [], closing ∷ [], refl, inr (refl, refl), (closing, (refl, refl), refl))))

given_ends : (opening : Token) → (front : List Token) × (given : Given) × GivenIn front given
unfolding sample
given_ends opening =
    let closing : Token = sample (kind.Mark 3) in
    let result : Token = sample kind.Lower in
    let colon : Token = sample (kind.Mark 5) in
    let ty = (type_reads false 0).example in (
      result ∷ colon ∷ (ty.0 ++ closing ∷ []),
      (result, ty.1, []),
      (
        result,
        result ∷ [],
        colon ∷ (ty.0 ++ closing ∷ []),
        refl,
        (refl, refl),
        (
          colon,
          colon ∷ [],
          ty.0 ++ closing ∷ [],
          refl,
          (refl, refl),
          (ty.1, ty.0, closing ∷ [], refl, ty.2, ([], [], closing ∷ [], refl, inr (refl, refl), (closing, (refl, refl), refl))),
        ),
      ),
    )

-- ---- whole declarations

module _ (d : ℕ) where
  con_reads : Reads turn (con_by d) IsCon Any d d
  unfolding con_by
  con_reads = then_any (up_reads d) (λ name. in_braces (con_ends name) d (λ e h opening. then_sure (mark 1) (fields_read d e h) (λ fields. mapped (mark_reads 1 e d (ap Some (sym h))) (λ closing. con_of name fields))
      (λ fields. image_starts (token_starts (mark 1))) (λ o w. w)))

  clause_reads : Reads turn clause_at IsClause Any d d
  unfolding clause_at
  clause_reads = then_any (key_reads 2 d) (λ adopts. low_reads d)

  -- a name is no `mutable`, and `=` no `adopts`
  data_reads : Reads turn (data_by d) IsData (Ends (mark 23) Any) d d
  unfolding data_by cons_by
  data_reads = then_any (key_reads 0 d) (λ word. then_sure lower (reads_maybe (key 1) (key_reads 1 d) (token_starts (key 1)))
      (λ mutable. then_any (low_reads d) (λ name. then_sure (mark 8) (reads_maybe (key 2) clause_reads (then_starts (Key 2) (λ adopts. Low) (token_starts (key 2))))
      (λ adopts. then_any (mark_reads 8 d d refl) (λ is. mapped (separated_reads (mark 23) con_reads (mark_reads 23 d d refl) (λ o w. tt)) (data_of word mutable name adopts)))
      (λ adopts. then_starts (Mark 8) _ (token_starts (mark 8))) (mark_next 8 (λ k. is_key 2 k ≡ false) refl (Ends (key 2) Any) (λ t w. (w, tt)))))
      (λ mutable. then_starts Low _ (token_starts lower)) (next_has lower (Ends (key 1) Any) (λ t is. (lower_has (λ k. is_key 1 k ≡ false) refl t is, tt))))

  taken_reads : Reads turn (taken_by d) IsTaken Any d d
  unfolding taken_by
  taken_reads = in_parens taken_ends d (λ e h opening. taken_in_reads d e h)

  given_reads : Reads turn (given_by d) IsGiven Any d d
  unfolding given_by
  given_reads = in_parens given_ends d (λ e h opening. given_in_reads d e h)

  sig_reads : Reads turn (sig_by d) IsSig Any d d
  unfolding sig_by
  sig_reads = then_any (key_reads 3 d) (λ word. then_any (low_reads d) (λ name. then_any (mark_reads 8 d d refl) (λ is. then_any taken_reads (λ taken. then_any (mark_reads 15 d d refl) (λ arrow. mapped given_reads (sig_of word name taken))))))

  fun_reads : Reads turn (fun_by d) IsFun Any d d
  unfolding fun_by
  fun_reads = then_any (key_reads 4 d) (λ word. then_any (low_reads d) (λ name. then_any (mark_reads 5 d d refl) (λ colon. then_any (low_reads d) (λ sig. then_any (mark_reads 8 d d refl) (λ is. mapped (blocks_read d) (fun_of word name sig))))))

  sig_starts : Starts (Image declaration.Signature IsSig) (key 3)
  sig_starts = image_starts (then_starts (Key 3) _ (token_starts (key 3)))

  fun_starts : Starts (Image declaration.Function IsFun) (key 4)
  fun_starts = image_starts (then_starts (Key 4) _ (token_starts (key 4)))

  data_starts : Starts (Image declaration.Data IsData) (key 0)
  data_starts = image_starts (then_starts (Key 0) _ (token_starts (key 0)))

  -- one of those that begin apart
  declaration_reads : Reads turn (declaration_by d) IsDeclaration (Ends (mark 23) Any) d d
  unfolding declaration_by
  declaration_reads = either_of (key 0) (λ t. key 3 t || key 4 t) (mapped data_reads declaration.Data)
      (either_of (key 3) (key 4) (before (mapped sig_reads declaration.Signature) (λ o w. tt)) (before (mapped fun_reads declaration.Function) (λ o w. tt)) sig_starts fun_starts (key_has 3 (λ k. is_key 4 k ≡ false) refl))
      data_starts (either_starts sig_starts fun_starts) (key_has 0 (λ k. (is_key 3 k || is_key 4 k) ≡ false) refl)

  -- no declaration begins with `|`
  pub program_reads : Reads turn (program_by d) IsProgram (Ends declaring (Ends (mark 23) Any)) d d
  unfolding program_by
  program_reads = reads_many declaring declaration_reads (either_starts data_starts (either_starts sig_starts fun_starts))
      (next_has declaring (Ends (mark 23) Any) (or_has (key 0) (λ t. key 3 t || key 4 t) (λ t. Ends (mark 23) Any (Some t)) (key_has 0 (λ k. (is_mark 23 k ≡ false) × Unit {0}) (refl, tt))
      (or_has (key 3) (key 4) (λ t. Ends (mark 23) Any (Some t)) (key_has 3 (λ k. (is_mark 23 k ≡ false) × Unit {0}) (refl, tt)) (key_has 4 (λ k. (is_mark 23 k ≡ false) × Unit {0}) (refl, tt)))))

-- nothing need follow a program
pub program_ends : Ends declaring (Ends (mark 23) Any) None
program_ends = (refl, (refl, tt))
