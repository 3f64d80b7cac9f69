-- Steps that are left out, from the last to the first.
use Rattle.std.proofs.Common.{◌≡◌, inl, inr, ℕ, Bool, true, false, List, [], ◌∷◌, ◌++◌, map, reverse, refl, sym, ap, ◌∙◌, subst, append_assoc, append-nil}
use Rattle.std.proofs.lemmas.List.{map-append, reverse-append}
use Rattle.mz_tree.specs.Saying.{Says, Denies}
use Rattle.mz_tree.specs.View.{plain_atom}
use Rattle.mz_tree.specs.declared.types.Atom.{Atom as CodeAtom}
use Rattle.mz_decl.specs.Declarations.{Decls}
use Rattle.mz_modes.specs.Affine.{AffineAtom}
use Rattle.mz_view.specs.Steps.{Step, Drop_step, Copy_step, Unfold_step, Fold_step, Rename_step, Equal_step, Dynamic_step, Clause_step, Unknown_step, Meet_step, Field_step, Lock_step, plain_step, plain_steps}
use Rattle.mz_view.specs.declared.step.ViewStep.{ViewStep}
use Rattle.mz_view.specs.declared.step.ViewStep.TheVariants.{Drop as DropCode}
use Rattle.mz_deriv.specs.Scripts.{See_item}
use Rattle.mz_deriv.specs.View.{plain_item}
use Rattle.mz_deriv.specs.declared.script.Item.{Item as CodeItem, Step as StepItem}
use Rattle.mz_elab.specs.Standing.{OfAtom}
use Rattle.mz_elab.specs.Scripting.{Thinned, Thin_none, Thin_kept, Thin_copy, Thin_drop}
use Rattle.mz_elab.specs.Thinning.{IsSilent, KeepsOne, KeepsThin, WritesThin}

module _ (D : Decls) (K : ℕ → Type 0) where
  -- a step in front
  silent_thin : (s : Step) (p q : List Step) → IsSilent D K s → Thinned D K p q → Thinned D K (s ∷ p) q
  silent_thin (Copy_step a) p q h t = Thin_copy a p q t
  silent_thin (Drop_step a) p q h t = Thin_drop a p q h.0 h.1 t
  silent_thin (Unfold_step x d n) p q h t = absurd h
  silent_thin (Fold_step a) p q h t = absurd h
  silent_thin (Rename_step a z) p q h t = absurd h
  silent_thin (Equal_step x y) p q h t = absurd h
  silent_thin (Dynamic_step x) p q h t = absurd h
  silent_thin (Clause_step a u) p q h t = absurd h
  silent_thin (Unknown_step x) p q h t = absurd h
  silent_thin (Meet_step a b) p q h t = absurd h
  silent_thin (Field_step a i z) p q h t = absurd h
  silent_thin (Lock_step a k z) p q h t = absurd h

  -- what was left of the end of the steps
  pub record Keeping (whole left : List ViewStep) (kept : List CodeItem) : Type 0 where
    pub done : List ViewStep
    pub split : whole ≡ left ++ done
    pub keeps : KeepsThin D K (plain_steps done) kept

  pub keeping_start : (whole : List ViewStep) → Keeping whole whole []
  keeping_start whole = record { done = []; split = sym (append-nil whole); keeps = record { left = []; thin = Thin_none; is = refl } }

  pub keeping_silent : (whole left next : List ViewStep) (s : ViewStep) (kept : List CodeItem) → Keeping whole left kept → left ≡ next ++ s ∷ [] → IsSilent D K (plain_step s) → Keeping whole next kept
  keeping_silent whole left next s kept k e h = record {
    done = s ∷ k.done;
    split = k.split ∙ ap (λ l. l ++ k.done) e ∙ append_assoc next (s ∷ []) k.done;
    keeps = record { left = k.keeps.left; thin = silent_thin (plain_step s) (plain_steps k.done) k.keeps.left h k.keeps.thin; is = k.keeps.is };
  }

  pub keeping_kept : (whole left next : List ViewStep) (s : ViewStep) (kept : List CodeItem) → Keeping whole left kept → left ≡ next ++ s ∷ [] → Keeping whole next (kept ++ StepItem s ∷ [])
  keeping_kept whole left next s kept k e = record {
    done = s ∷ k.done;
    split = k.split ∙ ap (λ l. l ++ k.done) e ∙ append_assoc next (s ∷ []) k.done;
    keeps = record {
      left = plain_step s ∷ k.keeps.left;
      thin = Thin_kept (plain_step s) (plain_steps k.done) k.keeps.left k.keeps.thin;
      is = ap (map plain_item) (reverse-append kept (StepItem s ∷ [])) ∙ ap (λ l. See_item (plain_step s) ∷ l) k.keeps.is;
    };
  }

  pub keeping_next : (whole left next : List ViewStep) (s : ViewStep) (kept after : List CodeItem) → Keeping whole left kept → left ≡ next ++ s ∷ [] → KeepsOne D K s kept after → Keeping whole next after
  keeping_next whole left next s kept after k e (inl h) = subst (Keeping whole next) (sym h) (keeping_kept whole left next s kept k e)
  keeping_next whole left next s kept after k e (inr h) = subst (Keeping whole next) (sym h.1) (keeping_silent whole left next s kept k e h.0)

  pub keeping_end : (whole : List ViewStep) (left : List ViewStep) (kept : List CodeItem) → Keeping whole left kept → left ≡ [] → KeepsThin D K (plain_steps whole) kept
  keeping_end whole left kept k e = subst (λ l. KeepsThin D K (plain_steps l) kept) (sym (k.split ∙ ap (λ l. l ++ k.done) e)) k.keeps

  pub written : (p : List Step) (kept before after : List CodeItem) → KeepsThin D K p kept → after ≡ before ++ reverse kept → WritesThin D K p (map plain_item before) (map plain_item after)
  written p kept before after k e = record { left = k.left; thin = k.thin; is = ap (map plain_item) e ∙ map-append plain_item before (reverse kept) ∙ ap (λ l. map plain_item before ++ l) k.is }

-- a duplicable permission of known names
pub dropped : (D : Decls) (K : ℕ → Type 0) (a : CodeAtom) (s : ViewStep) (b c : Bool) → s ≡ DropCode a → b ≡ true → Denies b (AffineAtom D (plain_atom a)) → c ≡ true → Says c (OfAtom K (plain_atom a)) → IsSilent D K (plain_step s)
dropped D K a s true true e f h g o = subst (λ z. IsSilent D K (plain_step z)) (sym e) (h, o)
dropped D K a s false c e f h g o = absurd (cc)
dropped D K a s true false e f h g o = absurd (cc)
