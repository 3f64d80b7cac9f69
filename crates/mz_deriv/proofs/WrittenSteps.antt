-- A view step that leads from permissions that can be written can be written, and so can those to which it leads.
use Rattle.std.proofs.Common.{◌≡◌, inl, inr, ℕ, zero, suc, ◌+◌, ◌<◌, ◌≤◌, List, [], ◌∷◌, length, Option, Some, slice_set, refl, sym, ap, subst}
use Rattle.std.proofs.lemmas.Option.{slice_get_within}
use Rattle.mz_tree.specs.Plain.{Atom, Atoms, Unknown_type, Dynamic_type, Named_type, Block_type, Lock_type, Has_atom, Same_atom}
use Rattle.mz_tree.specs.Programs.{Program}
use Rattle.mz_tree.specs.Scoped.{HasFields, Scoped}
use Rattle.mz_decl.specs.Declarations.{decls_of}
use Rattle.mz_decl.specs.Contents.{contents}
use Rattle.mz_modes.specs.Affine.{AffineAtom}
use Rattle.mz_perm.specs.Lists.{In, Any_copy}
use Rattle.mz_perm.proofs.Orders.{used_in, in_of}
use Rattle.mz_view.specs.Equations.{equations}
use Rattle.mz_view.specs.Spots.{names_in}
use Rattle.mz_view.specs.Steps.{Step, Drop_step, Copy_step, Unfold_step, Fold_step, Rename_step, Equal_step, Dynamic_step, Clause_step, Unknown_step, Meet_step, Field_step, Lock_step}
use Rattle.mz_view.specs.Rules.{View, Folds, SetsClause, Meets, SetsField, SetsSpot, with_subject}
use Rattle.mz_deriv.specs.Spelled.{IsNumber, StepSpelled}
use Rattle.mz_deriv.specs.Numbers.{StepNumbers}
use Rattle.mz_deriv.proofs.Membership.{in_set, all_used_in}
use Rattle.mz_deriv.proofs.Bare.{FitsBare, bare_depth_in}
use Rattle.mz_deriv.proofs.Written.{Written, AllWritten, AllNumbers, writable, written_end, written_parts, written_taken, written_used, written_all_used, has_unknown, has_dynamic, has_named, has_block, same_written, subject_number, block_fields, block_names, opens_written}

-- a place that is set leaves the list as long as it was
pub set_length : {A : Type 0} (xs : List A) (k : ℕ) (z : A) → length (slice_set xs k z) ≡ length xs
set_length [] k z = refl
set_length (x ∷ xs) zero z = refl
set_length (x ∷ xs) (suc k) z = ap suc (set_length xs k z)

-- what the step says can be written, and so can all to which it leads
abbrev pub StepWritten : Program → Step → List (Atom ℕ) → Type 0
StepWritten p step T = StepSpelled p step × AllWritten p T

module _ (p : Program) (s : Scoped p) where
  -- with another subject a permission is one again
  renamed : (z : ℕ) (a : Atom ℕ) → IsNumber z → Written p a → Written p (with_subject z a)
  renamed z (Has_atom x t) k w = record { bare = w.bare; shallow = w.shallow; names = λ n i. elim i [ inl e ↦ subst IsNumber (sym e) k | inr j ↦ w.names n (inr j) ] }
  renamed z (Same_atom x y) k w = record { bare = w.bare; shallow = w.shallow; names = λ n i. elim i [ inl e ↦ subst IsNumber (sym e) k | inr j ↦ w.names n (inr j) ] }

  -- the right side of an equation that is held is a number
  right_number : (x z : ℕ) → Written p (Same_atom x z) → IsNumber z
  right_number x z w = w.names z (inr (inl refl))

  equations_written : (ys zs : List ℕ) → AllNumbers ys → AllNumbers zs → AllWritten p (equations ys zs)
  equations_written [] zs h k a i = absurd i
  equations_written (y ∷ ys) [] h k a i = absurd i
  equations_written (y ∷ ys) (z ∷ zs) h k a (inl e) = subst (Written p) (sym e) (same_written p y z (h y (inl refl)) (k z (inl refl)))
  equations_written (y ∷ ys) (z ∷ zs) h k a (inr i) = equations_written ys zs (λ n j. h n (inr j)) (λ n j. k n (inr j)) a i

  folded : (R : List (Atom ℕ)) (x con : ℕ) (ys : List ℕ) (clause : Option ℕ) (T : List (Atom ℕ)) → Folds Any_copy (decls_of p) R x con ys clause T → AllWritten p R → StepWritten p (Fold_step (Has_atom x (Block_type con ys clause))) T
  folded R x con ys clause T v all =
      let a = Has_atom x (Block_type con ys clause) in
      let w = all a (all_used_in (AffineAtom (decls_of p)) (a ∷ contents ys v.made.fields) a R v.rest v.used (inl refl)) in (
        writable p a w,
        written_end p v.rest (Has_atom x (Named_type v.made.variety)) T v.new (written_all_used p (a ∷ contents ys v.made.fields) R v.rest v.used all)
            (has_named p x v.made.variety (subject_number p x (Block_type con ys clause) w) (s.cons con v.made v.is_con).variety),
      )

  clause_set : (R : List (Atom ℕ)) (u x con : ℕ) (ys : List ℕ) (clause : Option ℕ) (T : List (Atom ℕ)) → SetsClause Any_copy (decls_of p) R u x con ys clause T → AllWritten p R → StepWritten p (Clause_step (Has_atom x (Block_type con ys clause)) u) T
  clause_set R u x con ys clause T v all =
      let a = Has_atom x (Block_type con ys clause) in
      let w = all a (used_in (AffineAtom (decls_of p)) a R v.changes.rest v.changes.used) in
      let l : u < length p.varieties = slice_get_within p.varieties u v.adopted.variety v.adopted.declared in (
        (writable p a w, l),
        written_end p v.changes.rest (Has_atom x (Block_type con ys (Some u))) T v.changes.new (written_used p a R v.changes.rest v.changes.used all)
            (has_block p x con ys (Some u) (subject_number p x (Block_type con ys clause) w) (block_fields p x con ys clause w) (block_names p x con ys clause w) l),
      )

  field_set : (R : List (Atom ℕ)) (i z x con : ℕ) (ys : List ℕ) (clause : Option ℕ) (T : List (Atom ℕ)) → SetsField Any_copy (decls_of p) R i z x con ys clause T → AllWritten p R → IsNumber i × IsNumber z →
      StepWritten p (Field_step (Has_atom x (Block_type con ys clause)) i z) T
  field_set R i z x con ys clause T v all k =
      let a = Has_atom x (Block_type con ys clause) in
      let w = all a (used_in (AffineAtom (decls_of p)) a R v.changes.rest v.changes.used) in (
        (writable p a w, k.0, k.1),
        written_end p v.changes.rest (Has_atom x (Block_type con (slice_set ys i z) clause)) T v.changes.new (written_used p a R v.changes.rest v.changes.used all)
            (has_block p x con (slice_set ys i z) clause (subject_number p x (Block_type con ys clause) w) (subst (λ n. HasFields p con n) (sym (set_length ys i z)) (block_fields p x con ys clause w))
            (λ n j. elim (in_set ys i z n j) [ inl o ↦ block_names p x con ys clause w n o | inr e ↦ subst IsNumber (sym e) k.1 ]) w.bare.1),
      )

  spot_set : (R : List (Atom ℕ)) (k z l : ℕ) (q : Atoms ℕ) (T : List (Atom ℕ)) → SetsSpot R k z l q T → AllWritten p R → IsNumber k × IsNumber z → StepWritten p (Lock_step (Has_atom l (Lock_type q)) k z) T
  spot_set R k z l q T v all h =
      let a = Has_atom l (Lock_type q) in
      let w = all a v.held in
      let fits = FitsBare p in (
        (writable p a w, h.0, h.1),
        written_end p R (Has_atom l (Lock_type v.guarded)) T v.new all (record {
          bare = subst (λ g. fits (Has_atom tt (Lock_type g))) (sym v.puts.rest) w.bare;
          shallow = subst (λ g. 1 + bare_depth_in g ≤ 200) (sym v.puts.rest) w.shallow;
          names = λ n i. elim i [
            | inl e ↦ w.names n (inl e)
            | inr j ↦ (elim (in_set (names_in q) k z n (subst (λ m. In n m) v.puts.names j)) [ inl o ↦ w.names n (inr o) | inr e ↦ subst IsNumber (sym e) h.1 ])
          ];
        }),
      )

  met : (R : List (Atom ℕ)) (x con : ℕ) (ys : List ℕ) (clause : Option ℕ) (y other : ℕ) (zs : List ℕ) (another : Option ℕ) (T : List (Atom ℕ)) → Meets (decls_of p) R x con ys clause y other zs another T → AllWritten p R →
      StepWritten p (Meet_step (Has_atom x (Block_type con ys clause)) (Has_atom y (Block_type other zs another))) T
  met R x con ys clause y other zs another T v all =
      let a = Has_atom x (Block_type con ys clause) in
      let b = Has_atom y (Block_type other zs another) in
      let w = all a v.left in
      let z = all b v.right in
      ((writable p a w, writable p b z), written_parts p R (equations ys zs) T v.new all (equations_written ys zs (block_names p x con ys clause w) (block_names p y other zs another z)))

  -- each step
  pub step_written : (step : Step) (R T : List (Atom ℕ)) → View (decls_of p) R step T → AllWritten p R → StepNumbers step → StepWritten p step T
  step_written (Drop_step a) R T v all k = (writable p a (all a (in_of a R T v)), written_taken p a R T v all)
  step_written (Copy_step a) R T v all k = (writable p a (all a v.held), written_end p R a T v.new all (all a v.held))
  step_written (Unfold_step x d n) R T v all k =
      let w = all (Has_atom x (Named_type d)) (used_in (AffineAtom (decls_of p)) (Has_atom x (Named_type d)) R v.opens.rest v.opens.used) in
      ((k.0, w.bare, k.2), opens_written p s R x d v.con n T v.opens all)
  step_written (Fold_step (Has_atom x (Block_type con ys clause))) R T v all k = folded R x con ys clause T v all
  step_written (Fold_step (Same_atom x y)) R T v all k = absurd v
  step_written (Fold_step (Has_atom x t)) R T v all k = absurd v
  step_written (Rename_step a z) R T v all k =
      let w = all a (used_in (AffineAtom (decls_of p)) a R v.changes.rest v.changes.used) in
      ((writable p a w, k), written_end p v.changes.rest (with_subject z a) T v.changes.new (written_used p a R v.changes.rest v.changes.used all) (renamed z a k w))
  step_written (Equal_step x y) R T v all k = (k, written_end p R (Same_atom y x) T v.new all (same_written p y x k.1 k.0))
  step_written (Dynamic_step x) R T v all k = (k, written_end p R (Has_atom x Dynamic_type) T v.new all (has_dynamic p x k))
  step_written (Clause_step (Has_atom x (Block_type con ys clause)) u) R T v all k = clause_set R u x con ys clause T v all
  step_written (Clause_step (Same_atom x y) u) R T v all k = absurd v
  step_written (Clause_step (Has_atom x t) u) R T v all k = absurd v
  step_written (Unknown_step x) R T v all k = (k, written_end p R (Has_atom x Unknown_type) T v all (has_unknown p x k))
  step_written (Meet_step (Has_atom x (Block_type con ys clause)) (Has_atom y (Block_type other zs another))) R T v all k = met R x con ys clause y other zs another T v all
  step_written (Meet_step (Has_atom x (Block_type con ys clause)) (Same_atom y z)) R T v all k = absurd v
  step_written (Meet_step (Has_atom x (Block_type con ys clause)) (Has_atom y t)) R T v all k = absurd v
  step_written (Meet_step (Same_atom x y) b) R T v all k = absurd v
  step_written (Meet_step (Has_atom x t) b) R T v all k = absurd v
  step_written (Field_step (Has_atom x (Block_type con ys clause)) i z) R T v all k = field_set R i z x con ys clause T v all k
  step_written (Field_step (Same_atom x y) i z) R T v all k = absurd v
  step_written (Field_step (Has_atom x t) i z) R T v all k = absurd v
  step_written (Lock_step (Has_atom l (Lock_type q)) n z) R T v all k = spot_set R n z l q T v all k
  step_written (Lock_step (Same_atom x y) n z) R T v all k = absurd v
  step_written (Lock_step (Has_atom x t) n z) R T v all k = absurd v
