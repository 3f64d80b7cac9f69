-- Where a view step leads if the first of equal copies goes, it leads if any may go.
use Rattle.std.proofs.Common.{ℕ, List, ◌∷◌, Option}
use Rattle.mz_tree.specs.Plain.{Ty, Atom, Int_type, Unknown_type, Dynamic_type, Locked_type, Named_type, Function_type, Block_type, Lock_type, Has_atom, Same_atom}
use Rattle.mz_decl.specs.Contents.{contents}
use Rattle.mz_decl.specs.Declarations.{Decls}
use Rattle.mz_modes.specs.Affine.{AffineAtom}
use Rattle.mz_modes.proofs.Firsts.{opens_any}
use Rattle.mz_perm.specs.Lists.{Any_copy, First_copy}
use Rattle.mz_perm.proofs.Firsts.{takes_any, uses_any, uses_all_any}
use Rattle.mz_view.specs.Steps.{Step, Drop_step, Copy_step, Unfold_step, Fold_step, Rename_step, Equal_step, Dynamic_step, Clause_step, Unknown_step, Meet_step, Field_step, Lock_step}
use Rattle.mz_view.specs.Rules.{ViewBy, OnBlock, Exchanges, Folds, SetsClause, SetsField}

-- one permission for another
exchange_any : (D : Decls) (R : List (Atom ℕ)) (a b : Atom ℕ) (T : List (Atom ℕ)) → Exchanges First_copy D R a b T → Exchanges Any_copy D R a b T
exchange_any D R a b T e = record { rest = e.rest; used = uses_any (AffineAtom D) a R e.rest e.used; new = e.new }

-- what holds of the parts of a structural permission may be weakened
weaker : (a : Atom ℕ) (P Q : ℕ → ℕ → List ℕ → Option ℕ → Type 0) → ((x con : ℕ) (ys : List ℕ) (clause : Option ℕ) → P x con ys clause → Q x con ys clause) → OnBlock a P → OnBlock a Q
weaker (Has_atom x (Block_type con ys clause)) P Q f h = f x con ys clause h
weaker (Has_atom x Int_type) P Q f h = absurd h
weaker (Has_atom x Unknown_type) P Q f h = absurd h
weaker (Has_atom x Dynamic_type) P Q f h = absurd h
weaker (Has_atom x Locked_type) P Q f h = absurd h
weaker (Has_atom x (Named_type d)) P Q f h = absurd h
weaker (Has_atom x (Function_type s)) P Q f h = absurd h
weaker (Has_atom x (Lock_type p)) P Q f h = absurd h
weaker (Same_atom x y) P Q f h = absurd h

fold_any : (D : Decls) (R T : List (Atom ℕ)) (x con : ℕ) (ys : List ℕ) (clause : Option ℕ) → Folds First_copy D R x con ys clause T → Folds Any_copy D R x con ys clause T
fold_any D R T x con ys clause f = record {
  made = f.made;
  is_con = f.is_con;
  each = f.each;
  adopts = f.adopts;
  rest = f.rest;
  used = uses_all_any (AffineAtom D) (Has_atom x (Block_type con ys clause) ∷ contents ys f.made.fields) R f.rest f.used;
  new = f.new;
}

pub view_any : (D : Decls) (R : List (Atom ℕ)) (step : Step) (T : List (Atom ℕ)) → ViewBy First_copy D R step T → ViewBy Any_copy D R step T
view_any D R (Drop_step a) T v = takes_any a R T v
view_any D R (Copy_step a) T v = v
view_any D R (Unfold_step x d n) T v = record { con = v.con; only = v.only; opens = opens_any D R x d v.con n T v.opens }
view_any D R (Fold_step a) T v = weaker a (λ x con ys clause. Folds First_copy D R x con ys clause T) (λ x con ys clause. Folds Any_copy D R x con ys clause T) (fold_any D R T) v
view_any D R (Rename_step a z) T v = record { equal = v.equal; changes = exchange_any D R a _ T v.changes }
view_any D R (Equal_step x y) T v = v
view_any D R (Dynamic_step x) T v = v
view_any D R (Clause_step a u) T v = weaker a (λ x con ys clause. SetsClause First_copy D R u x con ys clause T) (λ x con ys clause. SetsClause Any_copy D R u x con ys clause T)
    (λ x con ys clause c. record { none = c.none; mutable = c.mutable; adopted = c.adopted; changes = exchange_any D R _ _ T c.changes }) v
view_any D R (Unknown_step x) T v = v
view_any D R (Meet_step a b) T v = v
view_any D R (Field_step a i z) T v = weaker a (λ x con ys clause. SetsField First_copy D R i z x con ys clause T) (λ x con ys clause. SetsField Any_copy D R i z x con ys clause T)
    (λ x con ys clause c. record { name = c.name; is_name = c.is_name; equal = c.equal; changes = exchange_any D R _ _ T c.changes }) v
view_any D R (Lock_step a k z) T v = v
