-- The fields of a constructor as the code goes through them, one by one.
use Rattle.std.proofs.Common.{◌≡◌, ℕ, zero, suc, ◌<◌, ◌≤◌, ◌+◌, List, [], ◌∷◌, ◌++◌, length, map, drop, get_or, Ok, Err, codes, refl, sym, ap, ◌∙◌, append_assoc, append-nil, arith}
use Rattle.std.proofs.lemmas.List.{drop_more}
use Rattle.mz_grammar.specs.Reading.{Read, ◌>>=◌}
use Rattle.mz_grammar.specs.Answers.{Stopped, Stops}
use Rattle.mz_grammar.proofs.Loops.{with_front}
use Rattle.mz_tree.specs.Programs.{Field}
use Rattle.mz_tree.specs.View.{plain_field}
use Rattle.mz_tree.specs.declared.program.Field.{Field as CodeField}
use Rattle.mz_script.specs.Fronts.{text_at, name_at}
use Rattle.mz_script.specs.ReadWords.{field_by, fields_at}
use Rattle.mz_script.proofs.Bodies.{stops_then, stops_same}

-- the fields that are left begin with the next
pub next_fields : (fields : List CodeField) (i : ℕ) (f : CodeField) → i < length fields → f ≡ get_or fields i f → map plain_field (drop i fields) ≡ plain_field f ∷ map plain_field (drop (i + 1) fields)
next_fields fields i f within here = ap (map plain_field) (drop_more fields i f within) ∙ ap (λ g. plain_field g ∷ map plain_field (drop (i + 1) fields)) (sym here)

pub no_fields : (fields : List CodeField) (i : ℕ) → length fields ≤ i → map plain_field (drop i fields) ≡ []
no_fields [] zero le = refl
no_fields [] (suc i) le = refl
no_fields (f ∷ fields) zero le = absurd (omega arith)
no_fields (f ∷ fields) (suc i) le = no_fields fields i (omega arith)

-- one field, and then the others
fields_is : (before : List ℕ) (f : Field) (fields : List Field) (bytes : List ℕ) → fields_at before (f ∷ fields) bytes ≡ (field_by before f.name bytes >>= λ n. fields_at (codes "; ") fields n.1 >>= λ ns. Ok (n.0 ∷ ns.0, ns.1))
unfolding fields_at field_by
fields_is before f fields bytes = by_before (text_at before bytes)
  where
    others : ℕ × List ℕ → Read ℕ (List ℕ)
    others n = fields_at (codes "; ") fields n.1 >>= λ ns. Ok (n.0 ∷ ns.0, ns.1)

    by_equals : (r : Read ℕ (Unit {0})) → (r >>= λ c. name_at c.1 >>= others) ≡ ((r >>= λ c. name_at c.1) >>= others)
    by_equals (Err e) = refl
    by_equals (Ok x) = refl

    by_name : (r : Read ℕ (Unit {0})) → (r >>= λ b. text_at (codes " = ") b.1 >>= λ c. name_at c.1 >>= others) ≡ ((r >>= λ b. text_at (codes " = ") b.1 >>= λ c. name_at c.1) >>= others)
    by_name (Err e) = refl
    by_name (Ok x) = by_equals (text_at (codes " = ") x.1)

    by_before : (r : Read ℕ (Unit {0})) → (r >>= λ a. text_at f.name a.1 >>= λ b. text_at (codes " = ") b.1 >>= λ c. name_at c.1 >>= others) ≡ ((r >>= λ a. text_at f.name a.1 >>= λ b. text_at (codes " = ") b.1 >>= λ c. name_at c.1) >>= others)
    by_before (Err e) = refl
    by_before (Ok x) = by_name (text_at f.name x.1)

moved : (front : List ℕ) (one : ℕ) (r : Read ℕ (List ℕ)) → with_front front (r >>= λ y. Ok (one ∷ y.0, y.1)) ≡ with_front (front ++ one ∷ []) r
moved front one (Ok x) = ap (λ l. Ok (l, x.1)) (sym (append_assoc front (one ∷ []) x.0))
moved front one (Err e) = refl

-- the loop goes on with the next field
pub field_read : (before : List ℕ) (f : Field) (fields : List Field) (front : List ℕ) (one : ℕ) (bytes q : List ℕ) → field_by before f.name bytes ≡ Ok (one, q) → with_front front (fields_at before (f ∷ fields) bytes) ≡ with_front (front ++ one ∷ []) (fields_at (codes "; ") fields q)
field_read before f fields front one bytes q e = ap (with_front front) (fields_is before f fields bytes ∙ ap (λ r. r >>= λ n. fields_at (codes "; ") fields n.1 >>= λ ns. Ok (n.0 ∷ ns.0, ns.1)) e) ∙ moved front one (fields_at (codes "; ") fields q)

-- or stops in it
pub field_stops : (before : List ℕ) (f : Field) (fields : List Field) (front : List ℕ) (s : Stopped) (bytes : List ℕ) → Stops s (field_by before f.name bytes) → Stops s (with_front front (fields_at before (f ∷ fields) bytes))
field_stops before f fields front s bytes stop =
    stops_then s (fields_at before (f ∷ fields) bytes) (λ x. Ok (front ++ x.0, x.1))
    (stops_same s (field_by before f.name bytes >>= λ n. fields_at (codes "; ") fields n.1 >>= λ ns. Ok (n.0 ∷ ns.0, ns.1)) (fields_at before (f ∷ fields) bytes) (sym (fields_is before f fields bytes))
    (stops_then s (field_by before f.name bytes) (λ n. fields_at (codes "; ") fields n.1 >>= λ ns. Ok (n.0 ∷ ns.0, ns.1)) stop))

-- no field is left
pub fields_done : (before : List ℕ) (front : List ℕ) (bytes : List ℕ) → with_front front (fields_at before [] bytes) ≡ Ok (front, bytes)
unfolding fields_at
fields_done before front bytes = ap (λ l. Ok (l, bytes)) (append-nil front)
