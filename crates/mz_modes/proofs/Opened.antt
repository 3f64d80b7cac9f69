-- When a data type is opened.
use Rattle.std.proofs.Common.{◌≡◌, ℕ, zero, suc, ◌+◌, List, [], ◌∷◌, ◌++◌, length, Option, Some, slice_get, append_assoc, sym, ap, ◌∙◌, subst, arith}
use Rattle.mz_tree.specs.Plain.{Atom, Named_type, Block_type, Has_atom}
use Rattle.mz_tree.specs.Programs.{Con}
use Rattle.mz_decl.specs.Contents.{contents, opened, names_from}
use Rattle.mz_decl.specs.Declarations.{Decls, clause_of}
use Rattle.mz_perm.specs.Lists.{First_copy}
use Rattle.mz_perm.specs.Using.{UsesUp, UsesUpBy}
use Rattle.mz_modes.specs.Affine.{AffineAtom}
use Rattle.mz_modes.specs.Opening.{AreFresh, Opens}
use Rattle.mz_modes.specs.Answers.{LeadsNowhere}

-- one name more
names_suc : (n i : ℕ) → names_from n (suc i) ≡ names_from n i ++ (n + i) ∷ []
names_suc n zero = let e : n ≡ n + 0 = omega arith in ap (λ m. m ∷ []) e
names_suc n (suc i) = let e : suc n + i ≡ n + suc i = omega arith in ap (λ l. n ∷ l) (names_suc (suc n) i ∙ ap (λ m. names_from (suc n) i ++ m ∷ []) e)

pub names_next : (n i : ℕ) → names_from n (i + 1) ≡ names_from n i ++ (n + i) ∷ []
names_next n i = let e : i + 1 ≡ suc i = omega arith in ap (names_from n) e ∙ names_suc n i

-- what isn't there isn't opened
pub not_opens : (D : Decls) (R S : List (Atom ℕ)) (x d con n : ℕ) → S ≡ R → ((T : List (Atom ℕ)) → UsesUp (AffineAtom D) (Has_atom x (Named_type d)) S T → ⊥) → LeadsNowhere (λ which. Opens which D R x d con n)
not_opens D R S x d con n s none_so = λ T o. none_so o.rest (subst (λ l. UsesUp (AffineAtom D) (Has_atom x (Named_type d)) l o.rest) (sym s) o.used)

-- what is there is, with a fresh name for each field
pub opens : (D : Decls) (R S Q M T : List (Atom ℕ)) (x d con n count : ℕ) (made : Con) (names : List ℕ) (clause : Option ℕ) → slice_get D.cons con ≡ Some made → AreFresh R n count → count ≡ length made.fields → S ≡ R → UsesUpBy First_copy (AffineAtom D) (Has_atom x (Named_type d)) S Q →
    names ≡ names_from n count → clause ≡ clause_of D d → M ≡ Q ++ Has_atom x (Block_type con names clause) ∷ [] → T ≡ M ++ contents names made.fields → Opens First_copy D R x d con n T
opens D R S Q M T x d con n count made names clause is fresh long s u en ec em et =
    let all : names ≡ names_from n (length made.fields) = en ∙ ap (names_from n) long in
    record {
      made = made;
      is_con = is;
      fresh = subst (λ k. AreFresh R n k) long fresh;
      rest = Q;
      used = subst (λ l. UsesUpBy First_copy (AffineAtom D) (Has_atom x (Named_type d)) l Q) s u;
      new = et ∙ ap (λ l. l ++ contents names made.fields) em ∙ append_assoc Q (Has_atom x (Block_type con names clause) ∷ []) (contents names made.fields)
          ∙ ap (λ ys. Q ++ opened x con ys clause made.fields) all ∙ ap (λ c. Q ++ opened x con (names_from n (length made.fields)) c made.fields) ec;
    }
