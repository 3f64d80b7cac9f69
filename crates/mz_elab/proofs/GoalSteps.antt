-- What is written for one goal.
use Rattle.std.proofs.Common.{◌≡◌, inl, inr, ℕ, Bool, true, false, List, [], ◌∷◌, ◌++◌, map, refl, sym, ap, ◌∙◌, subst, append-nil}
use Rattle.mz_tree.specs.Plain.{Atom, Unknown_type, Has_atom, Same_atom}
use Rattle.mz_tree.specs.Saying.{Says}
use Rattle.mz_decl.specs.Declarations.{Decls}
use Rattle.mz_perm.specs.Lists.{In}
use Rattle.mz_view.specs.Rules.{subject_of}
use Rattle.mz_view.specs.Steps.{Copy_step, Unknown_step, plain_steps}
use Rattle.mz_view.specs.declared.step.ViewStep.{ViewStep}
use Rattle.mz_view.specs.declared.step.ViewStep.TheVariants.{Unknown as UnknownCode}
use Rattle.mz_deriv.specs.Scripts.{Item}
use Rattle.mz_deriv.specs.View.{plain_item}
use Rattle.mz_deriv.specs.declared.script.Item.{Item as CodeItem, Step as StepItem}
use Rattle.std.proofs.lemmas.List.{map-append}
use Rattle.mz_goal.specs.Goals.{unused, Unknown_met}
use Rattle.mz_goal.specs.Needs.{Need}
use Rattle.mz_goal.specs.Answers.{MeetsNeed}
use Rattle.mz_goal.proofs.Frames.{leads_one}
use Rattle.mz_goal.proofs.Meeting.{atoms_unused}
use Rattle.mz_elab.specs.Scripting.{Thinned, Thin_none, Thin_kept, Thin_copy}
use Rattle.mz_elab.specs.Thinning.{WritesThin}
use Rattle.mz_elab.specs.Joining.{MeetsGoal, IsUnknownGoal, SaysUnknown}

pub said_so : (g : Atom ℕ) (b : Bool) → b ≡ true → Says b (IsUnknownGoal g) → IsUnknownGoal g
said_so g true e s = s
said_so g false e s = absurd (cc)

module _ (D : Decls) (K : ℕ → Type 0) where
  -- steps of the goal were written
  pub goal_met : (R : List (Atom ℕ)) (g : Atom ℕ) (T : List (Atom ℕ)) (none steps : List ViewStep) (before after : List Item) → none ≡ [] → MeetsNeed true D R g T none steps → WritesThin D K (plain_steps steps) before after → MeetsGoal true D K R g T before after
  goal_met R g T none steps before after e m w = (
    m.0,
    record {
      steps = w.left;
      is = w.is;
      shown = record { whole = m.1.added; leads = m.1.leads; thin = subst (λ p. Thinned D K p w.left) (m.1.is ∙ ap (λ l. plain_steps l ++ m.1.added) e) w.thin };
    },
  )

  -- of a name nothing is said
  unknown_need : (R : List (Atom ℕ)) (x : ℕ) → Need D R (Has_atom x Unknown_type) R
  unknown_need R x = record { left = map unused R; meets = Unknown_met (map unused R) x; is = sym (atoms_unused R) }

  pub unknown_held : (R : List (Atom ℕ)) (g : Atom ℕ) (before : List Item) → IsUnknownGoal g → In g R → MeetsGoal true D K R g R before before
  unknown_held R (Same_atom x y) before u i = absurd u
  unknown_held R (Has_atom x t) before u i = subst (λ s. MeetsGoal true D K R (Has_atom x s) R before before) (sym u) (
    unknown_need R x,
    record {
      steps = [];
      is = sym (append-nil before);
      shown = record {
        whole = Copy_step (Has_atom x Unknown_type) ∷ [];
        leads = leads_one D R (R ++ Has_atom x Unknown_type ∷ []) (Copy_step (Has_atom x Unknown_type)) tt (record { held = subst (λ s. In (Has_atom x s) R) u i; duplicable = λ f. f; new = refl });
        thin = Thin_copy (Has_atom x Unknown_type) [] [] Thin_none;
      };
    },
  )

  pub unknown_said : (R : List (Atom ℕ)) (g : Atom ℕ) (before after : List CodeItem) → IsUnknownGoal g → after ≡ before ++ StepItem (UnknownCode (subject_of g)) ∷ [] → MeetsGoal true D K R g R (map plain_item before) (map plain_item after)
  unknown_said R (Same_atom x y) before after u e = absurd u
  unknown_said R (Has_atom x t) before after u e = subst (λ s. MeetsGoal true D K R (Has_atom x s) R (map plain_item before) (map plain_item after)) (sym u) (
    unknown_need R x,
    record {
      steps = Unknown_step x ∷ [];
      is = ap (map plain_item) e ∙ map-append plain_item before (StepItem (UnknownCode x) ∷ []);
      shown = record {
        whole = Unknown_step x ∷ [];
        leads = leads_one D R (R ++ Has_atom x Unknown_type ∷ []) (Unknown_step x) tt refl;
        thin = Thin_kept (Unknown_step x) [] [] Thin_none;
      };
    },
  )

  pub unknown_met : (R S : List (Atom ℕ)) (g : Atom ℕ) (before after : List CodeItem) → IsUnknownGoal g → S ≡ R → SaysUnknown R g before after → MeetsGoal true D K R g S (map plain_item before) (map plain_item after)
  unknown_met R S g before after u s (inl h) = subst (λ z. MeetsGoal true D K R g z (map plain_item before) (map plain_item after)) (sym s) (subst (λ z. MeetsGoal true D K R g R (map plain_item before) (map plain_item z)) (sym h.1) (unknown_held R g (map plain_item before) u h.0))
  unknown_met R S g before after u s (inr h) = subst (λ z. MeetsGoal true D K R g z (map plain_item before) (map plain_item after)) (sym s) (unknown_said R g before after u h)
