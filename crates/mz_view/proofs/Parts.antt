-- When a data type unfolds, and when a block folds.
use Rattle.std.proofs.Common.{◌≡◌, ◌⊎◌, ℕ, List, [], ◌∷◌, ◌++◌, length, Option, Some, None, slice_get, append_assoc, sym, ap, ◌∙◌, subst}
use Rattle.mz_tree.specs.Plain.{Atom, Named_type, Block_type, Has_atom}
use Rattle.mz_tree.specs.Programs.{Con}
use Rattle.mz_decl.specs.Contents.{contents}
use Rattle.mz_decl.specs.Declarations.{Decls, clause_of, only_of}
use Rattle.mz_modes.specs.Affine.{AffineAtom}
use Rattle.mz_modes.specs.Answers.{LeadsNowhere}
use Rattle.mz_modes.specs.Opening.{Opens}
use Rattle.mz_perm.specs.Lists.{Any_copy, First_copy}
use Rattle.mz_perm.specs.Using.{UsesUp, UsesUpAll, UsesUpBy, UsesUpAllBy}
use Rattle.mz_perm.proofs.Firsts.{uses_any}
use Rattle.mz_perm.proofs.Orders.{uses_unique, all_same}
use Rattle.mz_view.specs.Rules.{Unfolds, Folds}

some_is : {A : Type 0} (a b : A) → Some a ≡ Some b → a ≡ b
some_is a b e = cc

-- the block itself is missing
pub not_block : (D : Decls) (R S : List (Atom ℕ)) (a : Atom ℕ) (x con : ℕ) (ys : List ℕ) (clause : Option ℕ) → a ≡ Has_atom x (Block_type con ys clause) → S ≡ R → ((T : List (Atom ℕ)) → UsesUp (AffineAtom D) a S T → ⊥) → LeadsNowhere (λ which. Folds which D R x con ys clause)
not_block D R S a x con ys clause e s n = λ T f. n f.used.0 (subst (λ b. UsesUp (AffineAtom D) b S f.used.0) (sym e) (subst (λ l. UsesUp (AffineAtom D) (Has_atom x (Block_type con ys clause)) l f.used.0) (sym s) f.used.1))

-- the content of a field is missing, whichever copy of the block has gone
pub not_contents : (D : Decls) (R S Q : List (Atom ℕ)) (a : Atom ℕ) (x con : ℕ) (ys : List ℕ) (clause : Option ℕ) (made : Con) → a ≡ Has_atom x (Block_type con ys clause) → S ≡ R → slice_get D.cons con ≡ Some made → UsesUpBy First_copy (AffineAtom D) a S Q →
    ((T : List (Atom ℕ)) → UsesUpAll (AffineAtom D) (contents ys made.fields) Q T → ⊥) → LeadsNowhere (λ which. Folds which D R x con ys clause)
not_contents D R S Q a x con ys clause made e s is u n = λ T f.
    let used : UsesUp (AffineAtom D) (Has_atom x (Block_type con ys clause)) R Q = subst (λ l. UsesUp (AffineAtom D) (Has_atom x (Block_type con ys clause)) l Q) s (subst (λ b. UsesUp (AffineAtom D) b S Q) e (uses_any (AffineAtom D) a S Q u)) in
    let one : f.made ≡ made = some_is f.made made (sym f.is_con ∙ is) in
    let rest : UsesUpAll (AffineAtom D) (contents ys made.fields) f.used.0 f.rest = subst (λ (c : Con). UsesUpAll (AffineAtom D) (contents ys c.fields) f.used.0 f.rest) one f.used.2 in
    let z = all_same (AffineAtom D) (contents ys made.fields) f.used.0 Q f.rest (uses_unique (AffineAtom D) (Has_atom x (Block_type con ys clause)) R f.used.0 Q f.used.1 used) rest in
    n z.0 z.1

pub folds : (D : Decls) (R S Q P T : List (Atom ℕ)) (a : Atom ℕ) (x con : ℕ) (ys : List ℕ) (clause : Option ℕ) (made : Con) → a ≡ Has_atom x (Block_type con ys clause) → S ≡ R → slice_get D.cons con ≡ Some made → length ys ≡ length made.fields → (clause ≡ None) ⊎ (clause ≡ clause_of D made.variety) →
    UsesUpBy First_copy (AffineAtom D) a S Q → UsesUpAllBy First_copy (AffineAtom D) (contents ys made.fields) Q P → T ≡ P ++ Has_atom x (Named_type made.variety) ∷ [] → Folds First_copy D R x con ys clause T
folds D R S Q P T a x con ys clause made e s is each adopts u all new = record {
  made = made;
  is_con = is;
  each = each;
  adopts = adopts;
  rest = P;
  used = (Q, subst (λ l. UsesUpBy First_copy (AffineAtom D) (Has_atom x (Block_type con ys clause)) l Q) s (subst (λ b. UsesUpBy First_copy (AffineAtom D) b S Q) e u), all);
  new = new;
}

-- what unfolds opens at the only constructor, so where nothing opens, nothing unfolds
pub not_unfolds : (D : Decls) (R : List (Atom ℕ)) (x d con n : ℕ) → only_of D d ≡ Some con → LeadsNowhere (λ which. Opens which D R x d con n) → LeadsNowhere (λ which. Unfolds which D R x d n)
not_unfolds D R x d con n only nowhere = λ T u. nowhere T (subst (λ k. Opens Any_copy D R x d k n T) (some_is u.con con (sym u.only ∙ only)) u.opens)
