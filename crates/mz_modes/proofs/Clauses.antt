-- Where an `adopts` names an immutable data type, item by item.
use Rattle.std.proofs.Common.{◌≡◌, ◌⊎◌, inl, inr, ℕ, List, length, map, Option, Some, None, slice_get, refl, sym, ap, ◌∙◌, subst}
use Rattle.std.proofs.lemmas.Option.{slice_get_within}
use Rattle.mz_tree.specs.Programs.{Clause}
use Rattle.mz_tree.specs.View.{plain_clause}
use Rattle.mz_tree.specs.declared.types.Place.{Place}
use Rattle.mz_tree.specs.declared.program.Clause.{Clause as CodeClause}
use Rattle.mz_decl.specs.Places.{IsFirst, IsBelow, IsEarlier}
use Rattle.mz_decl.specs.Declarations.{Decls}
use Rattle.mz_decl.proofs.Adopters.{some_is, get_map}
use Rattle.mz_decl.proofs.Limits.{got}
use Rattle.mz_decl.proofs.Firsts.{first_of_same, first_of_both, first_alone}
use Rattle.mz_modes.specs.Adopted.{IsImmutable, DeclarationAdopts, StructureAdopts, IsNotExclusive, At_declaration, At_structure}

-- one clause has one place
one_structure : (D : Decls) (k : ℕ) (a b : Place) → StructureAdopts D k a → StructureAdopts D k b → b ≡ a
one_structure D k a b l r = r.here ∙ ap (λ (c : Clause). c.place) (some_is r.clause l.clause (sym r.written ∙ l.written)) ∙ sym l.here

pub structure_adopts : (D : Decls) (ws : List CodeClause) (k : ℕ) (w : CodeClause) → map plain_clause ws ≡ D.written → slice_get ws k ≡ Some w → IsImmutable D w.adopts → IsFirst (StructureAdopts D k) (Some w.place)
structure_adopts D ws k w s e i =
    let here : StructureAdopts D k w.place = record { clause = plain_clause w; written = ap (λ l. slice_get l k) (sym s) ∙ get_map plain_clause ws k w e; immutable = i; here = refl } in
    first_alone (StructureAdopts D k) w.place here (λ b r. one_structure D k w.place b here r)

-- a clause that isn't there, or names no immutable data type
pub structure_none : (D : Decls) (ws : List CodeClause) (k : ℕ) → map plain_clause ws ≡ D.written → slice_get ws k ≡ None → IsFirst (StructureAdopts D k) None
structure_none D ws k s e place r =
    let x = got plain_clause ws k r.clause (ap (λ l. slice_get l k) s ∙ r.written) in
    let clash : Some x.0 ≡ None = sym x.1 ∙ e in
    absurd (cc)

pub structure_other : (D : Decls) (ws : List CodeClause) (k : ℕ) (w : CodeClause) → map plain_clause ws ≡ D.written → slice_get ws k ≡ Some w → (IsImmutable D w.adopts → ⊥) → IsFirst (StructureAdopts D k) None
structure_other D ws k w s e n place r =
    let same : r.clause ≡ plain_clause w = some_is r.clause (plain_clause w) (sym r.written ∙ ap (λ l. slice_get l k) (sym s) ∙ get_map plain_clause ws k w e) in
    n (subst (IsImmutable D) (ap (λ (c : Clause). c.adopts) same) r.immutable)

-- each data type and each clause stands below its count, so the earlier of the first two is the first of all
pub first_fault : (D : Decls) (a b o : Option Place) → IsFirst (IsBelow (DeclarationAdopts D) (length D.varieties)) a → IsFirst (IsBelow (StructureAdopts D) (length D.written)) b → IsEarlier a b o → IsFirst (IsNotExclusive D) o
first_fault D a b o f g e =
    let P : Place → Type 0 = IsBelow (DeclarationAdopts D) (length D.varieties) in
    let Q : Place → Type 0 = IsBelow (StructureAdopts D) (length D.written) in
    first_of_same (λ place. P place ⊎ Q place) (IsNotExclusive D) o
    (λ place s. elim s [ inl s ↦ At_declaration s.k s.stands | inr s ↦ At_structure s.k s.stands ])
    (λ place s. elim s [
      | At_declaration k s ↦ inl (record { k = k; below = slice_get_within D.varieties k s.variety s.declared; stands = s })
      | At_structure k s ↦ inr (record { k = k; below = slice_get_within D.written k s.clause s.written; stands = s })
    ])
    (first_of_both P Q a b o f g e)
