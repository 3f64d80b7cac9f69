-- Texts that are written one part after another: a loop keeps that the text, with what is left of its list, is the whole.
use Rattle.std.proofs.Common.{◌≡◌, ◌==◌, ◌≤◌, false, ℕ, zero, suc, List, [], ◌∷◌, ◌++◌, length, drop, map, min, refl, sym, ap, ◌∙◌, append_assoc, append-nil, arith}
use Rattle.std.proofs.lemmas.List.{drop_all}
use Rattle.std.proofs.lemmas.Grind.{flat_map-append}
use Rattle.std.proofs.Math.Seq.{drop-nil}
use Rattle.mz_tree.specs.Plain.{Atom, atoms_of}
use Rattle.mz_tree.specs.Programs.{Program}
use Rattle.mz_tree.specs.View.{plain_atom, plain_atoms, plain_field, plain_fun}
use Rattle.mz_tree.specs.declared.types.Atom.{Atom as CodeAtom}
use Rattle.mz_tree.specs.declared.program.Field.{Field as CodeField}
use Rattle.mz_tree.specs.declared.program.Fun.{Fun as CodeFun}
use Rattle.mz_deriv.specs.Scripts.{script_cases_of}
use Rattle.mz_deriv.specs.View.{plain_script, plain_script_cases}
use Rattle.mz_deriv.specs.declared.script.Script.{Script as CodeScript}
use Rattle.mz_deriv.specs.declared.script.ScriptCase.{ScriptCase as CodeCase}
use Rattle.mz_script.specs.Pieces.{Piece, Join_line, case_pieces, join_pieces, fun_pieces}
use Rattle.mz_script.specs.Words.{fields_text, atom_text, more_text}
use Rattle.mz_script.specs.Lines.{line_of}
use Rattle.mz_script.specs.Parts.{lines_text}

-- no part is left
pub parts_done : {X : Type 0} (left : List X → List ℕ) (xs : List X) (i : ℕ) (out whole : List ℕ) → length xs ≤ i → out ++ left (drop i xs) ≡ whole → out ++ left [] ≡ whole
parts_done left xs i out whole h k = ap (λ ys. out ++ left ys) (sym (drop_all i xs h)) ∙ k

-- ---- the fields of a structural type

no_fields : (before : List ℕ) (fields : List CodeField) → fields_text before (map plain_field fields) [] ≡ []
no_fields before [] = refl
no_fields before (f ∷ fields) = refl

fields_left : (before : List ℕ) (fields : List CodeField) (names : List ℕ) (i : ℕ) → min (length fields) (length names) ≤ i → fields_text before (map plain_field (drop i fields)) (drop i names) ≡ []
fields_left before [] names i h = ap (λ fs. fields_text before (map plain_field fs) (drop i names)) (drop-nil i)
fields_left before (f ∷ fields) [] i h = ap (fields_text before (map plain_field (drop i (f ∷ fields)))) (drop-nil i) ∙ no_fields before (drop i (f ∷ fields))
fields_left before (f ∷ fields) (n ∷ names) zero h = absurd (omega arith)
fields_left before (f ∷ fields) (n ∷ names) (suc i) h = fields_left before fields names i (omega arith)

-- no field is left, or no name
pub fields_done : (before : List ℕ) (fields : List CodeField) (names : List ℕ) (i : ℕ) (out whole : List ℕ) → min (length fields) (length names) ≤ i →
    out ++ fields_text before (map plain_field (drop i fields)) (drop i names) ≡ whole → out ≡ whole
fields_done before fields names i out whole h k = sym (append-nil out) ∙ ap (λ l. out ++ l) (sym (fields_left before fields names i h)) ∙ k

-- ---- permissions with a star between each two

-- what stands from a permission on, with what stands before it
abbrev pub atoms_from : Program → List ℕ → List CodeAtom → List ℕ
atoms_from p before [] = []
atoms_from p before (a ∷ rest) = before ++ (atom_text p (plain_atom a) ++ more_text p (atoms_of (plain_atoms rest)))

-- ---- cases

lines_append : (p : Program) (xs ys : List Piece) → lines_text p (xs ++ ys) ≡ lines_text p xs ++ lines_text p ys
lines_append p xs ys = flat_map-append (line_of p) xs ys

-- a list that isn't empty
pub has_some : {X : Type 0} (xs : List X) → (length xs == 0) ≡ false → xs ≡ [] → ⊥
has_some [] h e = cc
has_some (x ∷ xs) h e = cc

-- where there is a case the join stands behind the last
pub with_join : (p : Program) (cases : List CodeCase) (join : List (Atom ℕ)) (out : List ℕ) → (cases ≡ [] → ⊥) →
    (out ++ lines_text p (case_pieces (script_cases_of (plain_script_cases cases)))) ++ line_of p (Join_line join) ≡ out ++ lines_text p (case_pieces (script_cases_of (plain_script_cases cases)) ++ join_pieces (script_cases_of (plain_script_cases cases)) join)
with_join p [] join out h = absurd (h refl)
with_join p (c ∷ rest) join out h =
    let before : List Piece = case_pieces (script_cases_of (plain_script_cases (c ∷ rest))) in
    append_assoc out (lines_text p before) (line_of p (Join_line join)) ∙ ap (λ l. out ++ (lines_text p before ++ l)) (sym (append-nil (line_of p (Join_line join)))) ∙ ap (λ l. out ++ l) (sym (lines_append p before (Join_line join ∷ [])))

-- ---- functions

no_scripts : (funs : List CodeFun) → fun_pieces (map plain_fun funs) [] ≡ []
no_scripts [] = refl
no_scripts (f ∷ funs) = refl

funs_left : (funs : List CodeFun) (scripts : List CodeScript) (i : ℕ) → min (length funs) (length scripts) ≤ i → fun_pieces (map plain_fun (drop i funs)) (map plain_script (drop i scripts)) ≡ []
funs_left [] scripts i h = ap (λ fs. fun_pieces (map plain_fun fs) (map plain_script (drop i scripts))) (drop-nil i)
funs_left (f ∷ funs) [] i h = ap (λ ss. fun_pieces (map plain_fun (drop i (f ∷ funs))) (map plain_script ss)) (drop-nil i) ∙ no_scripts (drop i (f ∷ funs))
funs_left (f ∷ funs) (s ∷ scripts) zero h = absurd (omega arith)
funs_left (f ∷ funs) (s ∷ scripts) (suc i) h = funs_left funs scripts i (omega arith)

-- no function is left, or no script
pub funs_done : (p : Program) (funs : List CodeFun) (scripts : List CodeScript) (i : ℕ) (out whole : List ℕ) → min (length funs) (length scripts) ≤ i →
    out ++ lines_text p (fun_pieces (map plain_fun (drop i funs)) (map plain_script (drop i scripts))) ≡ whole → out ≡ whole
funs_done p funs scripts i out whole h k = sym (append-nil out) ∙ ap (λ l. out ++ lines_text p l) (sym (funs_left funs scripts i h)) ∙ k
