-- Steps that are shown, one after the other and beside other permissions.
use Rattle.std.proofs.Common.{◌≡◌, ℕ, List, [], ◌∷◌, ◌++◌, append_assoc, refl, ap, subst}
use Rattle.mz_tree.specs.Plain.{Atom}
use Rattle.mz_decl.specs.Declarations.{Decls}
use Rattle.mz_perm.specs.Lists.{SameUpToOrder}
use Rattle.mz_view.specs.Steps.{Step}
use Rattle.mz_deriv.specs.Scripts.{See_item}
use Rattle.mz_goal.specs.Leads.{Nameless}
use Rattle.mz_view.specs.Rules.{View}
use Rattle.mz_goal.proofs.Frames.{leads_none, leads_one, leads_then, leads_front, leads_same, leads_from, perm_beside}
use Rattle.mz_elab.specs.Scripting.{Thinned, Thin_none, Thin_kept, Thin_copy, Thin_drop, Shown, sees}

-- all steps may be kept
pub thin_all : (D : Decls) (K : ℕ → Type 0) (p : List Step) → Thinned D K p p
thin_all D K [] = Thin_none
thin_all D K (s ∷ p) = Thin_kept s p p (thin_all D K p)

pub thin_join : {D : Decls} {K : ℕ → Type 0} {p q : List Step} (r s : List Step) → Thinned D K p q → Thinned D K r s → Thinned D K (p ++ r) (q ++ s)
thin_join r s Thin_none u = u
thin_join r s (Thin_kept x p q t) u = Thin_kept x (p ++ r) (q ++ s) (thin_join r s t u)
thin_join r s (Thin_copy a p q t) u = Thin_copy a (p ++ r) (q ++ s) (thin_join r s t u)
thin_join r s (Thin_drop a p q d k t) u = Thin_drop a (p ++ r) (q ++ s) d k (thin_join r s t u)

module _ (D : Decls) (K : ℕ → Type 0) where
  pub shown_none : (R T : List (Atom ℕ)) → SameUpToOrder R T → Shown D K R [] T
  shown_none R T p = record { whole = []; leads = leads_none D R T p; thin = Thin_none }

  pub shown_one : (R T : List (Atom ℕ)) (s : Step) → Nameless s → View D R s T → Shown D K R (s ∷ []) T
  shown_one R T s n v = record { whole = s ∷ []; leads = leads_one D R T s n v; thin = thin_all D K (s ∷ []) }

  pub shown_then : (R S T : List (Atom ℕ)) (p q : List Step) → Shown D K R p S → Shown D K S q T → Shown D K R (p ++ q) T
  shown_then R S T p q v w = record { whole = v.whole ++ w.whole; leads = leads_then D R S T v.whole w.whole v.leads w.leads; thin = thin_join w.whole q v.thin w.thin }

  pub shown_front : (R T l : List (Atom ℕ)) (p : List Step) → Shown D K R p T → Shown D K (R ++ l) p (T ++ l)
  shown_front R T l p v = record { whole = v.whole; leads = leads_front D R T l v.whole v.leads; thin = v.thin }

  pub shown_same : (R S T : List (Atom ℕ)) (p : List Step) → Shown D K R p S → SameUpToOrder S T → Shown D K R p T
  shown_same R S T p v q = record { whole = v.whole; leads = leads_same D R S T v.whole v.leads q; thin = v.thin }

  pub shown_from : (R S T : List (Atom ℕ)) (p : List Step) → SameUpToOrder R S → Shown D K R p T → Shown D K S p T
  shown_from R S T p q v = record { whole = v.whole; leads = leads_from D R S T v.whole q v.leads; thin = v.thin }

  -- two lists of goals, the second from what the first leaves
  pub shown_after : (R S T l m : List (Atom ℕ)) (p q : List Step) → Shown D K R p (S ++ l) → Shown D K S q (T ++ m) → Shown D K R (p ++ q) (T ++ (l ++ m))
  shown_after R S T l m p q v w =
      let beside = shown_front S (T ++ m) l q w in
      let turned = shown_same (S ++ l) ((T ++ m) ++ l) (T ++ (l ++ m)) q beside (subst (λ x. SameUpToOrder ((T ++ m) ++ l) x) (append_assoc T l m) (perm_beside T m l)) in
      shown_then R (S ++ l) (T ++ (l ++ m)) p q v turned

-- items of two lists of steps
pub sees_join : (p q : List Step) → sees (p ++ q) ≡ sees p ++ sees q
sees_join [] q = refl
sees_join (s ∷ p) q = ap (λ l. See_item s ∷ l) (sees_join p q)
