-- Where an `adopts` stands on what is immutable, item by item.
use Rattle.std.proofs.Common.{◌≡◌, ◌⊎◌, inl, inr, ℕ, false, List, length, map, Option, Some, slice_get, option_map, refl, sym, ap, ◌∙◌, arith}
use Rattle.std.proofs.lemmas.List.{length-map}
use Rattle.std.proofs.lemmas.Option.{slice_get-map, slice_get_within}
use Rattle.mz_tree.specs.Programs.{Variety, Clause, Program}
use Rattle.mz_tree.specs.View.{plain_program, plain_variety, plain_con, plain_clause}
use Rattle.mz_tree.specs.declared.types.Place.{Place}
use Rattle.mz_tree.specs.declared.program.Variety.{Variety as CodeVariety}
use Rattle.mz_tree.specs.declared.program.Con.{Con as CodeCon}
use Rattle.mz_tree.specs.declared.program.Clause.{Clause as CodeClause}
use Rattle.mz_tree.specs.declared.program.Program.{Program as CodeProgram}
use Rattle.mz_decl.specs.Places.{IsFirst, IsBelow, IsEarlier}
use Rattle.mz_decl.specs.Declarations.{OnDeclaration, OnStructure, IsImmutableAdopter, At_declaration, At_structure}
use Rattle.mz_decl.proofs.Firsts.{first_of_same, first_of_both, first_alone}

-- two names for one value
pub some_is : {A : Type 0} (a b : A) → Some a ≡ Some b → a ≡ b
some_is a b e = cc

-- what a list has at a place, its image has there
pub get_map : {A B : Type 0} (f : A → B) (xs : List A) (n : ℕ) (x : A) → slice_get xs n ≡ Some x → slice_get (map f xs) n ≡ Some (f x)
get_map f xs n x e = slice_get-map f xs n ∙ ap (λ o. option_map f o) e

-- one data type has one place
one_declaration : (p : Program) (k : ℕ) (a b : Place) → OnDeclaration p k a → OnDeclaration p k b → b ≡ a
one_declaration p k a b l r = r.here ∙ ap (λ (v : Variety). v.place) (some_is r.variety l.variety (sym r.declared ∙ l.declared)) ∙ sym l.here

pub on_declaration : (p : CodeProgram) (k u : ℕ) (v : CodeVariety) → slice_get p.varieties k ≡ Some v → v.mutable ≡ false → v.adopts ≡ Some u → IsFirst (OnDeclaration (plain_program p) k) (Some v.place)
on_declaration p k u v e i a =
    let here : OnDeclaration (plain_program p) k v.place = record { variety = plain_variety v; declared = get_map plain_variety p.varieties k v e; immutable = i; adopted = u; adopts = a; here = refl } in
    first_alone (OnDeclaration (plain_program p) k) v.place here (λ b r. one_declaration (plain_program p) k v.place b here r)

-- one clause has one place
one_structure : (p : Program) (k : ℕ) (a b : Place) → OnStructure p k a → OnStructure p k b → b ≡ a
one_structure p k a b l r = r.here ∙ ap (λ (c : Clause). c.place) (some_is r.clause l.clause (sym r.written ∙ l.written)) ∙ sym l.here

pub on_structure : (p : CodeProgram) (k : ℕ) (w : CodeClause) (c : CodeCon) (v : CodeVariety) → slice_get p.clauses k ≡ Some w → slice_get p.cons w.con ≡ Some c → slice_get p.varieties c.variety ≡ Some v → v.mutable ≡ false → IsFirst (OnStructure (plain_program p) k) (Some w.place)
on_structure p k w c v e m d i =
    let here : OnStructure (plain_program p) k w.place = record { clause = plain_clause w; written = get_map plain_clause p.clauses k w e; con = plain_con c; made = get_map plain_con p.cons w.con c m; variety = plain_variety v; declared = get_map plain_variety p.varieties c.variety v d; immutable = i; here = refl } in
    first_alone (OnStructure (plain_program p) k) w.place here (λ b r. one_structure (plain_program p) k w.place b here r)

-- each data type and each clause stands below its count, so the earlier of the first two is the first of all
pub first_fault : (p : CodeProgram) (a b o : Option Place) → IsFirst (IsBelow (OnDeclaration (plain_program p)) (length p.varieties)) a → IsFirst (IsBelow (OnStructure (plain_program p)) (length p.clauses)) b → IsEarlier a b o → IsFirst (IsImmutableAdopter (plain_program p)) o
first_fault p a b o f g e =
    let P : Place → Type 0 = IsBelow (OnDeclaration (plain_program p)) (length p.varieties) in
    let Q : Place → Type 0 = IsBelow (OnStructure (plain_program p)) (length p.clauses) in
    let varieties = length-map p.varieties plain_variety in
    let clauses = length-map p.clauses plain_clause in
    first_of_same (λ place. P place ⊎ Q place) (IsImmutableAdopter (plain_program p)) o
    (λ place s. elim s [ inl s ↦ At_declaration s.k s.stands | inr s ↦ At_structure s.k s.stands ])
    (λ place s. elim s [
      | At_declaration k s ↦ inl (record { k = k; below = omega (arith, varieties, slice_get_within (map plain_variety p.varieties) k s.variety s.declared); stands = s })
      | At_structure k s ↦ inr (record { k = k; below = omega (arith, clauses, slice_get_within (map plain_clause p.clauses) k s.clause s.written); stands = s })
    ])
    (first_of_both P Q a b o f g e)
