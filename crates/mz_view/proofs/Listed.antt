-- What stands where in lists of fields, names, permissions and equations.
use Rattle.std.proofs.Common.{◌≡◌, inl, inr, ℕ, zero, suc, ◌+◌, ◌<◌, ◌≤◌, List, [], ◌∷◌, ◌++◌, length, map, drop, get_or, Some, slice_get, append_assoc, append-nil, refl, sym, ap, ◌∙◌, subst, arith}
use Rattle.std.proofs.lemmas.Bool.{cases_eq}
use Rattle.std.proofs.lemmas.List.{length-map}
use Rattle.std.proofs.lemmas.Option.{slice_get-get_or}
use Rattle.mz_tree.specs.Plain.{Ty, Atom, Has_atom, Same_atom}
use Rattle.mz_tree.specs.Programs.{Field}
use Rattle.mz_tree.specs.View.{plain_atom, plain_atoms, plain_field}
use Rattle.mz_tree.specs.declared.types.Atom.{Atom as CodeAtom}
use Rattle.mz_tree.specs.declared.program.Field.{Field as CodeField}
use Rattle.mz_decl.specs.Declarations.{Decls}
use Rattle.mz_decl.proofs.Adopters.{get_map}
use Rattle.mz_modes.specs.Affine.{ExclusiveTy}
use Rattle.mz_perm.specs.Lists.{In}
use Rattle.mz_perm.proofs.Taking.{is_in}
use Rattle.mz_perm.proofs.Remaining.{drop_at, drop_all}
use Rattle.mz_decl.specs.Contents.{content, contents}
use Rattle.mz_view.specs.Equations.{equations}
use Rattle.mz_view.specs.Rules.{HoldsExclusive}
use Rattle.mz_view.specs.Answers.{IsExclusive}

-- what is read at a place stands there
pub at_place : {A : Type 0} (xs : List A) (i : ℕ) (x : A) → i < length xs → x ≡ get_or xs i x → slice_get xs i ≡ Some x
at_place xs i x h e = slice_get-get_or xs i x h ∙ ap Some (sym e)

-- the content of a field stands at the field's place
pub content_at : (ys : List ℕ) (fields : List CodeField) (i : ℕ) (f : CodeField) (part : Atom ℕ) → i < length fields → part ≡ content ys (plain_field (get_or fields i f)) → slice_get (contents ys (map plain_field fields)) i ≡ Some part
content_at ys fields i f part h p = get_map (content ys) (map plain_field fields) i (plain_field (get_or fields i f)) (get_map plain_field fields i (get_or fields i f) (slice_get-get_or fields i f h)) ∙ ap Some (sym p)

-- and past the last field there is none
pub contents_past : (ys : List ℕ) (fields : List CodeField) (i : ℕ) → length fields ≤ i → length (contents ys (map plain_field fields)) ≤ i
contents_past ys fields i h = let long = length-map (map plain_field fields) (content ys) in let code = length-map fields plain_field in omega (arith, long, code, h)

-- names and no names have no equations
pub no_equations : (ys : List ℕ) → equations ys [] ≡ []
no_equations [] = refl
no_equations (y ∷ ys) = refl

-- one equation more: what is added and what is still to be added stay the same
pub equations_next : (M N T : List (Atom ℕ)) (ys zs : List ℕ) (i y z : ℕ) → slice_get ys i ≡ Some y → slice_get zs i ≡ Some z → N ≡ M ++ Same_atom y z ∷ [] → M ++ equations (drop i ys) (drop i zs) ≡ T → N ++ equations (drop (i + 1) ys) (drop (i + 1) zs) ≡ T
equations_next M N T ys zs i y z ey ez en e =
    ap (λ l. l ++ equations (drop (i + 1) ys) (drop (i + 1) zs)) en ∙ append_assoc M (Same_atom y z ∷ []) (equations (drop (i + 1) ys) (drop (i + 1) zs))
    ∙ ap (λ l. M ++ equations l (z ∷ drop (i + 1) zs)) (sym (drop_at ys i y ey)) ∙ ap (λ l. M ++ equations (drop i ys) l) (sym (drop_at zs i z ez)) ∙ e

-- past the end of the second there is none more
pub equations_past : (M T : List (Atom ℕ)) (ys zs : List ℕ) (i : ℕ) → length zs ≤ i → M ++ equations (drop i ys) (drop i zs) ≡ T → M ++ equations (drop (i + 1) ys) (drop (i + 1) zs) ≡ T
equations_past M T ys zs i h e =
    ap (λ l. M ++ equations (drop (i + 1) ys) l) (drop_all zs (i + 1) (omega arith)) ∙ ap (λ l. M ++ l) (no_equations (drop (i + 1) ys))
    ∙ ap (λ l. M ++ l) (sym (no_equations (drop i ys))) ∙ ap (λ l. M ++ equations (drop i ys) l) (sym (drop_all zs i h)) ∙ e

-- past the end of the first all are added
pub equations_done : (M T : List (Atom ℕ)) (ys zs : List ℕ) (i : ℕ) → length ys ≤ i → M ++ equations (drop i ys) (drop i zs) ≡ T → M ≡ T
equations_done M T ys zs i h e = sym (append-nil M) ∙ ap (λ l. M ++ equations l (drop i zs)) (sym (drop_all ys i h)) ∙ e

-- a permission that says that x has an exclusive type is one by which x is held at one
exclusive_in : (D : Decls) (x : ℕ) (a : Atom ℕ) (R : List (Atom ℕ)) → In a R → IsExclusive D x a → HoldsExclusive D R x
exclusive_in D x (Has_atom y t) R i e = record { ty = t; held = subst (λ n. In (Has_atom n t) R) e.0 i; exclusive = e.1 }
exclusive_in D x (Same_atom y z) R i e = absurd e

pub exclusive_at : (D : Decls) (atoms : List CodeAtom) (i x : ℕ) (a : CodeAtom) → i < length atoms → a ≡ get_or atoms i a → IsExclusive D x (plain_atom a) → HoldsExclusive D (plain_atoms atoms) x
exclusive_at D atoms i x a h e is = exclusive_in D x (plain_atom a) (plain_atoms atoms) (is_in plain_atom a atoms i (at_place atoms i a h e)) is

-- where the first says no such thing, one of the rest does
exclusive_rest : (D : Decls) (x : ℕ) (a : Atom ℕ) (R : List (Atom ℕ)) → (IsExclusive D x a → ⊥) → HoldsExclusive D (a ∷ R) x → HoldsExclusive D R x
exclusive_rest D x a R n h = elim h.held [
  | inl e ↦ absurd (n (subst (λ b. IsExclusive D x b) e (refl, h.exclusive)))
  | inr i ↦ record { ty = h.ty; held = i; exclusive = h.exclusive }
]

pub exclusive_next : (D : Decls) (atoms : List CodeAtom) (i x : ℕ) (a : CodeAtom) → i < length atoms → a ≡ get_or atoms i a → (IsExclusive D x (plain_atom a) → ⊥) → (HoldsExclusive D (plain_atoms atoms) x → HoldsExclusive D (plain_atoms (drop i atoms)) x) → HoldsExclusive D (plain_atoms atoms) x → HoldsExclusive D (plain_atoms (drop (i + 1) atoms)) x
exclusive_next D atoms i x a h e n before all = exclusive_rest D x (plain_atom a) (plain_atoms (drop (i + 1) atoms)) n (subst (λ l. HoldsExclusive D (plain_atoms l) x) (drop_at atoms i a (at_place atoms i a h e)) (before all))

pub exclusive_none : (D : Decls) (atoms : List CodeAtom) (i x : ℕ) → length atoms ≤ i → (HoldsExclusive D (plain_atoms atoms) x → HoldsExclusive D (plain_atoms (drop i atoms)) x) → HoldsExclusive D (plain_atoms atoms) x → ⊥
exclusive_none D atoms i x h before all = let none : HoldsExclusive D [] x = subst (λ l. HoldsExclusive D (plain_atoms l) x) (drop_all atoms i h) (before all) in absurd none.held
