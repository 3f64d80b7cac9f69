-- Steps that change the permission at the end of a state.
use Rattle.std.proofs.Common.{◌≡◌, inl, inr, ℕ, Result, Ok, Err, IfOk, List, [], ◌∷◌, ◌++◌, append_assoc, refl, ap, ◌∙◌, subst}
use Rattle.mz_tree.specs.Plain.{Ty, Atom, Has_atom, Same_atom}
use Rattle.mz_decl.specs.Declarations.{Decls}
use Rattle.mz_perm.proofs.Lists.{in_end}
use Rattle.mz_perm.proofs.Orders.{perm_refl, takes_before}
use Rattle.mz_view.specs.Steps.{Step, Drop_step}
use Rattle.mz_goal.specs.Leads.{Leads, to_name}
use Rattle.mz_goal.specs.Added.{Added}
use Rattle.mz_goal.specs.Changing.{DropsKept}
use Rattle.mz_goal.proofs.Frames.{takes_end, perm_beside, leads_one, leads_front, leads_same}
use Rattle.mz_goal.proofs.Paths.{renamed_after}
use Rattle.mz_goal.proofs.Reached.{added_none, added_then, added_by}

-- a permission that goes when it is used, or is dropped afterwards, under another name
pub moved : (D : Decls) (S : List (Atom ℕ)) (x y : ℕ) (t : Ty ℕ) (p q r s : List Step) → Added D S p q (S ++ Same_atom x y ∷ []) → r ≡ q ++ to_name (Has_atom y t) x y → DropsKept D (Has_atom y t) r s → Added D (S ++ Has_atom y t ∷ []) p s (S ++ Has_atom x t ∷ [])
moved D S x y t p q r s a e d =
    let old = Has_atom y t in
    let new = Has_atom x t in
    let xy = Same_atom x y ∷ [] in
    let R = S ++ old ∷ [] in
    let beside : Leads D R a.added (R ++ xy) = leads_same D R ((S ++ xy) ++ old ∷ []) (R ++ xy) a.added (leads_front D S (S ++ xy) (old ∷ []) a.added a.leads) (perm_beside S xy (old ∷ [])) in
    let is : r ≡ p ++ (a.added ++ to_name old x y) = e ∙ ap (λ l. l ++ to_name old x y) a.is ∙ append_assoc p a.added (to_name old x y) in
    elim d [
      | inl f ↦ added_by D R (S ++ new ∷ []) p s (a.added ++ to_name old x y) (f.1 ∙ is) (renamed_after D R S a.added old x y beside refl (inl (f.0, takes_end old S)))
      | inr f ↦ (
          let next : Added D R p r (R ++ new ∷ []) = added_by D R (R ++ new ∷ []) p r (a.added ++ to_name old x y) is (renamed_after D R R a.added old x y beside refl (inr (f.0, in_end old S, refl))) in
          let gone : Added D (R ++ new ∷ []) r s (S ++ new ∷ []) = added_by D (R ++ new ∷ []) (S ++ new ∷ []) r s (Drop_step old ∷ []) f.1 (leads_one D (R ++ new ∷ []) (S ++ new ∷ []) (Drop_step old) tt (takes_before old R S (new ∷ []) (takes_end old S))) in
          added_then D R (R ++ new ∷ []) (S ++ new ∷ []) p r s next gone)
    ]

pub not_moved : (D : Decls) (S : List (Atom ℕ)) (x y : ℕ) (t : Ty ℕ) (p : List Step) → y ≡ x → Added D (S ++ Has_atom y t ∷ []) p p (S ++ Has_atom x t ∷ [])
not_moved D S x y t p e = subst (λ n. Added D (S ++ Has_atom y t ∷ []) p p (S ++ Has_atom n t ∷ [])) e (added_none D (S ++ Has_atom y t ∷ []) (S ++ Has_atom y t ∷ []) p (perm_refl (S ++ Has_atom y t ∷ [])))

pub moved_ok : {E : Type 0} (o : Result (Unit {0}) E) (D : Decls) (S : List (Atom ℕ)) (x y : ℕ) (t : Ty ℕ) (p q r s : List Step) → Added D S p q (S ++ Same_atom x y ∷ []) → r ≡ q ++ to_name (Has_atom y t) x y → IfOk o (λ _. DropsKept D (Has_atom y t) r s) → IfOk o (λ _. Added D (S ++ Has_atom y t ∷ []) p s (S ++ Has_atom x t ∷ []))
moved_ok (Err e) D S x y t p q r s a is d = tt
moved_ok (Ok u) D S x y t p q r s a is d = moved D S x y t p q r s a is d
