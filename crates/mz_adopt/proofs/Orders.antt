-- The rules of adoption and the order of a state: what a rule asks of it doesn't hang on its order.
use Rattle.std.proofs.Common.{◌≡◌, ℕ, List, [], ◌∷◌, ◌++◌, Some, refl, sym, ap, ◌∙◌, subst}
use Rattle.mz_tree.specs.Plain.{Atom, Unknown_type, Dynamic_type, Named_type, Block_type, Has_atom, Same_atom}
use Rattle.mz_tree.specs.Code.{Give_op, Take_op}
use Rattle.mz_decl.specs.Declarations.{Decls}
use Rattle.mz_perm.specs.Lists.{TakesOne, SameUpToOrder}
use Rattle.mz_perm.proofs.Orders.{perm_takes, perm_append, perm_in, perm_is, takes_unique}
use Rattle.mz_adopt.specs.Adopting.{IsAdopter}
use Rattle.mz_adopt.specs.Laws.{OrderIsFree, LeadsToOne}

-- two lists behind what is the same up to order
same_ends : (A B l m T : List (Atom ℕ)) → T ≡ (A ++ l) ++ m → SameUpToOrder A B → SameUpToOrder T ((B ++ l) ++ m)
same_ends A B l m T e p = subst (λ z. SameUpToOrder z ((B ++ l) ++ m)) (sym e) (perm_append (A ++ l) (B ++ l) m (perm_append A B l p))

-- each rule leads from the one state as from the other: what it takes out or asks for is in both
pub order_free : OrderIsFree
order_free D R S T c (Give_op x y) (Some a) p r =
    let u = perm_takes (Has_atom x (Named_type r.adopted)) R S r.rest p r.taken in
    record {
      after = (u.0 ++ Has_atom x Dynamic_type ∷ []) ++ Has_atom c Unknown_type ∷ [];
      leads = record { adopted = r.adopted; adopter = r.adopter; rest = u.0; taken = u.1; held = perm_in a r.rest u.0 u.2 r.held; new = refl };
      alike = same_ends r.rest u.0 (Has_atom x Dynamic_type ∷ []) (Has_atom c Unknown_type ∷ []) T r.new u.2;
    }
order_free D R S T c (Take_op x y) (Some a) p r = record {
  after = (S ++ Has_atom x (Named_type r.adopted) ∷ []) ++ Has_atom c Unknown_type ∷ [];
  leads = record { adopted = r.adopted; adopter = r.adopter; held = perm_in a R S p r.held; may_ask = perm_in (Has_atom x Dynamic_type) R S p r.may_ask; new = refl };
  alike = same_ends R S (Has_atom x (Named_type r.adopted) ∷ []) (Has_atom c Unknown_type ∷ []) T r.new p;
}
order_free D R S T c op uses p r = absurd r

some_is : {A : Type 0} {a b : A} → Some a ≡ Some b → a ≡ b
some_is e = cc

-- a permission says of one data type alone that it is adopted
pub adopted_one : (D : Decls) (y u v : ℕ) (a : Atom ℕ) → IsAdopter D y u a → IsAdopter D y v a → u ≡ v
adopted_one D y u v (Has_atom x (Block_type con ys c)) t w = some_is (sym t.1 ∙ w.1)
adopted_one D y u v (Has_atom x (Named_type d)) t w = some_is (sym t.1 ∙ w.1)
adopted_one D y u v (Has_atom x t) i w = absurd i.1
adopted_one D y u v (Same_atom x z) t w = absurd t

-- so each rule leads to one state, order aside: whichever copy is taken out, what is left is the same
pub one_state : LeadsToOne
one_state D R T U c (Give_op x y) (Some a) t u =
    let e = adopted_one D y t.adopted u.adopted a t.adopter u.adopter in
    let taken = subst (λ n. TakesOne (Has_atom x (Named_type n)) R u.rest) (sym e) u.taken in
    let l = Has_atom x Dynamic_type ∷ [] in
    let m = Has_atom c Unknown_type ∷ [] in
    subst (λ z. SameUpToOrder T z) (sym u.new) (same_ends t.rest u.rest l m T t.new (takes_unique (Has_atom x (Named_type t.adopted)) R t.rest u.rest t.taken taken))
one_state D R T U c (Take_op x y) (Some a) t u =
    let e = adopted_one D y t.adopted u.adopted a t.adopter u.adopter in
    perm_is T U (t.new ∙ ap (λ n. (R ++ Has_atom x (Named_type n) ∷ []) ++ Has_atom c Unknown_type ∷ []) e ∙ sym u.new)
one_state D R T U c op uses t u = absurd t
