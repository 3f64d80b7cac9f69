-- What is written for each branch: nothing, one list of permissions after another, one permission less.
use Rattle.std.proofs.Common.{◌≡◌, ℕ, List, [], ◌∷◌, ◌++◌, map, append-nil, append_assoc, refl, sym, ap, ◌∙◌, subst}
use Rattle.std.proofs.lemmas.List.{map-append}
use Rattle.mz_tree.specs.Plain.{Atom, map_atom}
use Rattle.mz_decl.specs.Declarations.{Decls}
use Rattle.mz_perm.proofs.Orders.{perm_is}
use Rattle.mz_deriv.specs.Scripts.{Item}
use Rattle.mz_deriv.specs.Walks.{in_place_of}
use Rattle.mz_elab.specs.Scripting.{sees}
use Rattle.mz_elab.specs.Joins.{for_value}
use Rattle.mz_elab.specs.Joining.{plain_end, items_at, Writes, EachWrites}
use Rattle.mz_elab.specs.declared.ends.End.{End as CodeEnd}
use Rattle.mz_elab.proofs.Showing.{shown_none, shown_after, sees_join}

module _ (D : Decls) (K : ℕ → Type 0) where
  pub writes_after : (R S T l m : List (Atom ℕ)) (p q r : List Item) → Writes D K R p q (S ++ l) → Writes D K S q r (T ++ m) → Writes D K R p r (T ++ (l ++ m))
  writes_after R S T l m p q r v w = record {
    steps = v.steps ++ w.steps;
    is = w.is ∙ ap (λ x. x ++ sees w.steps) v.is ∙ append_assoc p (sees v.steps) (sees w.steps) ∙ ap (λ x. p ++ x) (sym (sees_join v.steps w.steps));
    shown = shown_after D K R S T l m v.steps w.steps v.shown w.shown;
  }

  pub writes_none : (R : List (Atom ℕ)) (p : List Item) → Writes D K R p p (R ++ [])
  writes_none R p = record { steps = []; is = sym (append-nil p); shown = shown_none D K R (R ++ []) (perm_is R (R ++ []) (sym (append-nil R))) }

  pub each_none : (c : ℕ) (ends : List CodeEnd) → EachWrites D K c [] ends ends
  each_none c [] = refl
  each_none c (e ∷ ends) = (refl, refl, writes_none e.state (items_at e), each_none c ends)

  -- a value stands for the command's name, whatever else the end has
  value_same : (c : ℕ) (e f : CodeEnd) (l : List (Atom ℕ)) → f.value ≡ e.value → map (for_value c (plain_end f)) l ≡ map (for_value c (plain_end e)) l
  value_same c e f l h = ap (λ v. map (λ a. map_atom (in_place_of c v) a) l) h

  pub each_then : (c : ℕ) (l m : List (Atom ℕ)) (ends mid after : List CodeEnd) → EachWrites D K c l ends mid → EachWrites D K c m mid after → EachWrites D K c (l ++ m) ends after
  each_then c l m [] mid after v w = by mid v w
    where
      by : (mid : List CodeEnd) → mid ≡ [] → EachWrites D K c m mid after → after ≡ []
      by [] e w = w
      by (x ∷ xs) e w = absurd (cc)
  each_then c l m (e ∷ ends) [] after v w = absurd v
  each_then c l m (e ∷ ends) (f ∷ mid) [] v w = absurd w
  each_then c l m (e ∷ ends) (f ∷ mid) (g ∷ after) v w =
      let joined = writes_after e.state f.state g.state (map (for_value c (plain_end e)) l) (map (for_value c (plain_end e)) m) (items_at e) (items_at f) (items_at g) v.2 (subst (λ x. Writes D K f.state (items_at f) (items_at g) (g.state ++ x)) (value_same c e f m v.0) w.2) in
      (w.0 ∙ v.0, w.1 ∙ v.1, subst (λ x. Writes D K e.state (items_at e) (items_at g) (g.state ++ x)) (sym (map-append (for_value c (plain_end e)) l m)) joined, each_then c l m ends mid after v.3 w.3)
