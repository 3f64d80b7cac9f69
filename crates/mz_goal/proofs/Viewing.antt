-- The laws of goals, from the modes of the declarations.
use Rattle.std.proofs.Common.{◌≡◌, ◌⊎◌, inl, inr, ℕ, zero, suc, Bool, true, false, List, [], ◌∷◌, ◌++◌, map, Some, slice_get, sym, subst, refl}
use Rattle.mz_tree.specs.Plain.{Atom, Int_type, Unknown_type, Dynamic_type, Locked_type, Named_type, Function_type, Block_type, Lock_type, Has_atom, Same_atom}
use Rattle.mz_decl.specs.Declarations.{Decls}
use Rattle.mz_modes.specs.Affine.{AffineAtom}
use Rattle.mz_modes.specs.Modes.{AreModes}
use Rattle.mz_modes.specs.declared.mode.Modes.{Modes}
use Rattle.mz_goal.specs.Goals.{atoms, unused}
use Rattle.mz_goal.specs.Leads.{Leads}
use Rattle.mz_goal.specs.Needs.{Need}
use Rattle.mz_goal.specs.Laws.{Viewed}
use Rattle.mz_goal.proofs.Frames.{Known}
use Rattle.mz_goal.proofs.Meeting.{meets_leads, atoms_unused}

-- there is a mark at the place or there isn't
is_marked : (marks : List Bool) (n : ℕ) → (slice_get marks n ≡ Some true) ⊎ (slice_get marks n ≡ Some true → ⊥)
is_marked [] n = inr (λ e. absurd (cc))
is_marked (true ∷ marks) zero = inl refl
is_marked (false ∷ marks) zero = inr (λ e. absurd (cc))
is_marked (b ∷ marks) (suc n) = is_marked marks n

-- so with modes it is known of each permission whether it is affine
pub known : (D : Decls) (m : Modes) → AreModes D m → Known D
known D m modes = record { affine = by_atom }
  where
    by_atom : (a : Atom ℕ) → AffineAtom D a ⊎ (AffineAtom D a → ⊥)
    by_atom (Same_atom x y) = inr (λ a. a)
    by_atom (Has_atom x Int_type) = inr (λ a. a)
    by_atom (Has_atom x Unknown_type) = inr (λ a. a)
    by_atom (Has_atom x Dynamic_type) = inr (λ a. a)
    by_atom (Has_atom x Locked_type) = inl tt
    by_atom (Has_atom x (Named_type d)) = elim (is_marked m.affine d) [ inl e ↦ inl (modes.affine_yes d e) | inr n ↦ inr (λ a. n (modes.affine_all d a)) ]
    by_atom (Has_atom x (Function_type s)) = inr (λ a. a)
    by_atom (Has_atom x (Block_type con ys c)) = elim (is_marked m.mutable_cons con) [ inl e ↦ inl (modes.mutable_cons.yes con e) | inr n ↦ inr (λ a. n (modes.mutable_cons.all con a)) ]
    by_atom (Has_atom x (Lock_type p)) = inr (λ a. a)

-- the steps of the goal that is met from entries without marks
pub viewed : (D : Decls) (m : Modes) → AreModes D m → (R : List (Atom ℕ)) (g : Atom ℕ) (T : List (Atom ℕ)) → Need D R g T → Viewed D R g T
viewed D m modes R g T n =
    let v = meets_leads D (known D m modes) (map unused R) g n.left n.meets in
    record { steps = v.0; leads = subst (λ l. Leads D R v.0 (l ++ g ∷ [])) (sym n.is) (subst (λ l. Leads D l v.0 (atoms n.left ++ g ∷ [])) (atoms_unused R) v.1) }
