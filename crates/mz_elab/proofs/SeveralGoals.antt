-- Several goals, one after the other.
use Rattle.std.proofs.Common.{◌≡◌, ◌<◌, ◌≤◌, inl, inr, ℕ, ◌+◌, Bool, true, false, List, [], ◌∷◌, ◌++◌, length, take, drop, Some, slice_get, refl, sym, ap, subst}
use Rattle.std.proofs.lemmas.List.{take_all, drop_all}
use Rattle.mz_tree.specs.Plain.{Atom}
use Rattle.mz_tree.specs.View.{plain_atom, plain_atoms}
use Rattle.mz_tree.specs.declared.types.Atom.{Atom as CodeAtom}
use Rattle.mz_decl.specs.Declarations.{Decls}
use Rattle.mz_deriv.specs.Scripts.{Item}
use Rattle.mz_goal.specs.Needs.{Needs, Unmet, FirstUnmet}
use Rattle.mz_elab.specs.Joining.{Writes, MeetsGoal}
use Rattle.mz_elab.proofs.EachWritten.{writes_after, writes_none}
use Rattle.mz_elab.proofs.AllGiving.{plain_more, plain_left}

module _ (D : Decls) (K : ℕ → Type 0) (R : List (Atom ℕ)) (goals : List CodeAtom) (before : List Item) where
  -- the first i are met: what is said of the others is said of all
  pub record Several (i : ℕ) (now : List (Atom ℕ)) (items : List Item) : Type 0 where
    pub needs : (T : List (Atom ℕ)) → Needs D now (plain_atoms (drop i goals)) T → Needs D R (plain_atoms goals) T
    pub lacks : (a : Atom ℕ) → FirstUnmet D now (plain_atoms (drop i goals)) a → FirstUnmet D R (plain_atoms goals) a
    pub written : Writes D K R before items (now ++ plain_atoms (take i goals))

  pub several_start : Several 0 R before
  several_start = record { needs = λ T n. n; lacks = λ a l. l; written = writes_none D K R before }

  pub several_next : (i : ℕ) (a : CodeAtom) (now next : List (Atom ℕ)) (items more : List Item) → Several i now items → slice_get goals i ≡ Some a → i < length goals → MeetsGoal true D K now (plain_atom a) next items more → Several (i + 1) next more
  several_next i a now next items more v is h m = record {
    needs = λ T n. v.needs T (subst (λ l. Needs D now l T) (sym (plain_left goals i a is)) (next, m.0, n));
    lacks = λ b l. v.lacks b (subst (λ x. FirstUnmet D now x b) (sym (plain_left goals i a is)) (inr (next, m.0, l)));
    written = subst (λ l. Writes D K R before more (next ++ l)) (sym (plain_more goals i a is h)) (writes_after D K R now next (plain_atoms (take i goals)) (plain_atom a ∷ []) before items more v.written m.1);
  }

  pub several_lacks : (i : ℕ) (a : CodeAtom) (now : List (Atom ℕ)) (items : List Item) (b : Atom ℕ) → Several i now items → slice_get goals i ≡ Some a → Unmet D now (plain_atom a) → b ≡ plain_atom a → FirstUnmet D R (plain_atoms goals) b
  several_lacks i a now items b v is u e = v.lacks b (subst (λ x. FirstUnmet D now x b) (sym (plain_left goals i a is)) (inl (u, e)))

  pub several_end : (i : ℕ) (now : List (Atom ℕ)) (items : List Item) → Several i now items → length goals ≤ i → Needs D R (plain_atoms goals) now × Writes D K R before items (now ++ plain_atoms goals)
  several_end i now items v h = (v.needs now (subst (λ l. Needs D now (plain_atoms l) now) (sym (drop_all i goals h)) refl), subst (λ l. Writes D K R before items (now ++ plain_atoms l)) (take_all i goals h) v.written)

  pub several_met : (b : Bool) (i : ℕ) (a : CodeAtom) (now next : List (Atom ℕ)) (items more : List Item) → b ≡ true → Several i now items → slice_get goals i ≡ Some a → i < length goals → MeetsGoal b D K now (plain_atom a) next items more → Several (i + 1) next more
  several_met true i a now next items more e v is h m = several_next i a now next items more v is h m
  several_met false i a now next items more e v is h m = absurd (cc)

  pub several_unmet : (b : Bool) (i : ℕ) (a c : CodeAtom) (now next : List (Atom ℕ)) (items more : List Item) → b ≡ false → Several i now items → slice_get goals i ≡ Some a → MeetsGoal b D K now (plain_atom a) next items more → c ≡ a → FirstUnmet D R (plain_atoms goals) (plain_atom c)
  several_unmet true i a c now next items more e v is m s = absurd (cc)
  several_unmet false i a c now next items more e v is m s = several_lacks i a now items (plain_atom c) v is m.0 (ap plain_atom s)
