-- Steps without new names may be made beside other permissions, and from each state that is the same up to order.
use Rattle.std.proofs.Common.{◌≡◌, ◌⊎◌, inl, inr, ℕ, List, [], ◌∷◌, ◌++◌, Some, slice_set, append-nil, refl, sym, ap, subst}
use Rattle.mz_tree.specs.Plain.{Atom, Unknown_type, Dynamic_type, Named_type, Block_type, Lock_type, Has_atom, Same_atom}
use Rattle.mz_decl.specs.Declarations.{Decls}
use Rattle.mz_modes.specs.Affine.{AffineAtom}
use Rattle.mz_perm.specs.Lists.{TakesOne, Any_copy, SameUpToOrder}
use Rattle.mz_perm.proofs.Lists.{in_front}
use Rattle.mz_perm.proofs.Orders.{perm_refl, perm_sym, perm_trans, perm_append, perm_is, takes_before, uses_front, all_front}
use Rattle.mz_decl.specs.Contents.{contents}
use Rattle.mz_view.specs.Equations.{equations}
use Rattle.mz_view.specs.Steps.{Step, Drop_step, Copy_step, Unfold_step, Fold_step, Rename_step, Equal_step, Dynamic_step, Clause_step, Unknown_step, Meet_step, Field_step, Lock_step}
use Rattle.mz_view.specs.Rules.{View, OnBlock, OnLock, Exchanges, Folds, SetsClause, SetsField, SetsSpot, Meets, with_subject}
use Rattle.mz_view.proofs.Orderless.{order_free}
use Rattle.mz_goal.proofs.Parts.{on_block, of_block, on_lock}
use Rattle.mz_goal.specs.Leads.{Views, Nameless, AllNameless, Leads}

-- lists beside one another
pub takes_middle : {A : Type 0} (a : A) (xs l : List A) → TakesOne a (xs ++ a ∷ l) (xs ++ l)
takes_middle a [] l = inl (refl, refl)
takes_middle a (x ∷ xs) l = inr (xs ++ l, refl, takes_middle a xs l)

pub takes_end : {A : Type 0} (a : A) (xs : List A) → TakesOne a (xs ++ a ∷ []) xs
takes_end a [] = inl (refl, refl)
takes_end a (x ∷ xs) = inr (xs, refl, takes_end a xs)

pub perm_cons : {A : Type 0} (a : A) (xs ys : List A) → SameUpToOrder xs ys → SameUpToOrder (a ∷ xs) (a ∷ ys)
perm_cons a xs ys p = (ys, inl (refl, refl), p)

pub perm_turn : {A : Type 0} (xs ys : List A) → SameUpToOrder (xs ++ ys) (ys ++ xs)
perm_turn [] ys = perm_is ys (ys ++ []) (sym (append-nil ys))
perm_turn (x ∷ xs) ys = (ys ++ xs, takes_middle x ys xs, perm_turn xs ys)

pub perm_beside : {A : Type 0} (xs l k : List A) → SameUpToOrder ((xs ++ l) ++ k) ((xs ++ k) ++ l)
perm_beside [] l k = perm_turn l k
perm_beside (x ∷ xs) l k = perm_cons x _ _ (perm_beside xs l k)

-- what is added beside others
beside : {A : Type 0} (xs ys l k : List A) → ys ≡ xs ++ k → SameUpToOrder ((xs ++ l) ++ k) (ys ++ l)
beside xs ys l k e = subst (λ s. SameUpToOrder ((xs ++ l) ++ k) (s ++ l)) (sym e) (perm_beside xs l k)

exchange_front : (D : Decls) (R T l : List (Atom ℕ)) (a b : Atom ℕ) → Exchanges Any_copy D R a b T → (V : List (Atom ℕ)) × Exchanges Any_copy D (R ++ l) a b V × SameUpToOrder V (T ++ l)
exchange_front D R T l a b e = ((e.rest ++ l) ++ b ∷ [], record { rest = e.rest ++ l; used = uses_front (AffineAtom D) a R e.rest l e.used; new = refl }, beside e.rest T l (b ∷ []) e.new)

-- a step beside other permissions
pub view_front : (D : Decls) (R T l : List (Atom ℕ)) (s : Step) → Nameless s → View D R s T → (V : List (Atom ℕ)) × View D (R ++ l) s V × SameUpToOrder V (T ++ l)
view_front D R T l (Drop_step a) n v = (T ++ l, takes_before a R T l v, perm_refl (T ++ l))
view_front D R T l (Copy_step a) n v = ((R ++ l) ++ a ∷ [], record { held = in_front a R l v.held; duplicable = v.duplicable; new = refl }, beside R T l (a ∷ []) v.new)
view_front D R T l (Unfold_step x d k) n v = absurd n
view_front D R T l (Fold_step a) n v =
    let b = on_block a (λ x con ys clause. Folds Any_copy D R x con ys clause T) v in
    let f = b.holds in
    let V : List (Atom ℕ) = (f.rest ++ l) ++ Has_atom b.x (Named_type f.made.variety) ∷ [] in
    let leads : Folds Any_copy D (R ++ l) b.x b.con b.ys b.clause V = record { made = f.made; is_con = f.is_con; each = f.each; adopts = f.adopts; rest = f.rest ++ l; used = all_front (AffineAtom D) (Has_atom b.x (Block_type b.con b.ys b.clause) ∷ contents b.ys f.made.fields) R f.rest l f.used; new = refl } in
    (V, of_block a b.x b.con b.ys b.clause (λ x con ys clause. Folds Any_copy D (R ++ l) x con ys clause V) b.is leads, beside f.rest T l (Has_atom b.x (Named_type f.made.variety) ∷ []) f.new)
view_front D R T l (Rename_step a z) n v = let e = exchange_front D R T l a (with_subject z a) v.changes in (e.0, record { equal = in_front _ R l v.equal; changes = e.1 }, e.2)
view_front D R T l (Equal_step x y) n v = ((R ++ l) ++ Same_atom y x ∷ [], record { equal = elim v.equal [ inl e ↦ inl e | inr i ↦ inr (in_front _ R l i) ]; new = refl }, beside R T l (Same_atom y x ∷ []) v.new)
view_front D R T l (Dynamic_step x) n v = ((R ++ l) ++ Has_atom x Dynamic_type ∷ [], record { exclusive = record { ty = v.exclusive.ty; held = in_front _ R l v.exclusive.held; exclusive = v.exclusive.exclusive }; new = refl }, beside R T l (Has_atom x Dynamic_type ∷ []) v.new)
view_front D R T l (Clause_step a u) n v =
    let b = on_block a (λ x con ys clause. SetsClause Any_copy D R u x con ys clause T) v in
    let c = b.holds in
    let e = exchange_front D R T l (Has_atom b.x (Block_type b.con b.ys b.clause)) (Has_atom b.x (Block_type b.con b.ys (Some u))) c.changes in
    let leads : SetsClause Any_copy D (R ++ l) u b.x b.con b.ys b.clause e.0 = record { none = c.none; mutable = c.mutable; adopted = c.adopted; changes = e.1 } in
    (e.0, of_block a b.x b.con b.ys b.clause (λ x con ys clause. SetsClause Any_copy D (R ++ l) u x con ys clause e.0) b.is leads, e.2)
view_front D R T l (Unknown_step x) n v = ((R ++ l) ++ Has_atom x Unknown_type ∷ [], refl, beside R T l (Has_atom x Unknown_type ∷ []) v)
view_front D R T l (Meet_step a c) n v =
    let b = on_block a (λ x con ys clause. OnBlock c (λ y other zs another. Meets D R x con ys clause y other zs another T)) v in
    let d = on_block c (λ y other zs another. Meets D R b.x b.con b.ys b.clause y other zs another T) b.holds in
    let m = d.holds in
    let V : List (Atom ℕ) = (R ++ l) ++ equations b.ys d.ys in
    let leads : Meets D (R ++ l) b.x b.con b.ys b.clause d.x d.con d.ys d.clause V = record { same_subject = m.same_subject; same_con = m.same_con; immutable = m.immutable; left = in_front (Has_atom b.x (Block_type b.con b.ys b.clause)) R l m.left; right = in_front (Has_atom d.x (Block_type d.con d.ys d.clause)) R l m.right; new = refl } in
    let inner = of_block c d.x d.con d.ys d.clause (λ y other zs another. Meets D (R ++ l) b.x b.con b.ys b.clause y other zs another V) d.is leads in
    (V, of_block a b.x b.con b.ys b.clause (λ x con ys clause. OnBlock c (λ y other zs another. Meets D (R ++ l) x con ys clause y other zs another V)) b.is inner, beside R T l (equations b.ys d.ys) m.new)
view_front D R T l (Field_step a i z) n v =
    let b = on_block a (λ x con ys clause. SetsField Any_copy D R i z x con ys clause T) v in
    let c = b.holds in
    let e = exchange_front D R T l (Has_atom b.x (Block_type b.con b.ys b.clause)) (Has_atom b.x (Block_type b.con (slice_set b.ys i z) b.clause)) c.changes in
    let leads : SetsField Any_copy D (R ++ l) i z b.x b.con b.ys b.clause e.0 = record { name = c.name; is_name = c.is_name; equal = in_front _ R l c.equal; changes = e.1 } in
    (e.0, of_block a b.x b.con b.ys b.clause (λ x con ys clause. SetsField Any_copy D (R ++ l) i z x con ys clause e.0) b.is leads, e.2)
view_front D R T l (Lock_step a k z) n v =
    let b = on_lock a (λ x q. SetsSpot R k z x q T) v in
    let c = b.holds in
    let V : List (Atom ℕ) = (R ++ l) ++ Has_atom b.l (Lock_type c.guarded) ∷ [] in
    let leads : SetsSpot (R ++ l) k z b.l b.p V = record { held = in_front _ R l c.held; name = c.name; is_name = c.is_name; equal = in_front _ R l c.equal; guarded = c.guarded; puts = c.puts; new = refl } in
    (V, subst (λ q. OnLock q (λ x p. SetsSpot (R ++ l) k z x p V)) (sym b.is) leads, beside R T l (Has_atom b.l (Lock_type c.guarded) ∷ []) c.new)

-- a list of steps from a state that is the same
pub views_same : (D : Decls) (p : List Step) (R S T : List (Atom ℕ)) → SameUpToOrder R S → Views D R p T → (V : List (Atom ℕ)) × Views D S p V × SameUpToOrder T V
views_same D [] R S T q v = (S, refl, subst (λ l. SameUpToOrder l S) (sym v) q)
views_same D (s ∷ p) R S T q v = let a = order_free D R S v.0 s q v.1 in let b = views_same D p v.0 a.after T a.alike v.2 in (b.0, (a.after, a.leads, b.1), b.2)

pub views_front : (D : Decls) (p : List Step) (R T l : List (Atom ℕ)) → AllNameless p → Views D R p T → (V : List (Atom ℕ)) × Views D (R ++ l) p V × SameUpToOrder V (T ++ l)
views_front D [] R T l n v = (R ++ l, refl, subst (λ s. SameUpToOrder (R ++ l) (s ++ l)) (sym v) (perm_refl (R ++ l)))
views_front D (s ∷ p) R T l n v =
    let a = view_front D R v.0 l s n.0 v.1 in
    let b = views_front D p v.0 T l n.1 v.2 in
    let c = views_same D p (v.0 ++ l) a.0 b.0 (perm_sym a.0 (v.0 ++ l) a.2) b.1 in
    (c.0, (a.0, a.1, c.1), perm_trans c.0 b.0 (T ++ l) (perm_sym b.0 c.0 c.2) b.2)

pub views_join : (D : Decls) (p q : List Step) (R S T : List (Atom ℕ)) → Views D R p S → Views D S q T → Views D R (p ++ q) T
views_join D [] q R S T v w = subst (λ s. Views D s q T) v w
views_join D (s ∷ p) q R S T v w = (v.0, v.1, views_join D p q v.0 S T v.2 w)

nameless_join : (p q : List Step) → AllNameless p → AllNameless q → AllNameless (p ++ q)
nameless_join [] q n m = m
nameless_join (s ∷ p) q n m = (n.0, nameless_join p q n.1 m)

-- the algebra of steps
pub leads_none : (D : Decls) (R T : List (Atom ℕ)) → SameUpToOrder R T → Leads D R [] T
leads_none D R T p = record { nameless = tt; last = R; views = refl; same = p }

pub leads_one : (D : Decls) (R T : List (Atom ℕ)) (s : Step) → Nameless s → View D R s T → Leads D R (s ∷ []) T
leads_one D R T s n v = record { nameless = (n, tt); last = T; views = (T, v, refl); same = perm_refl T }

pub leads_then : (D : Decls) (R S T : List (Atom ℕ)) (p q : List Step) → Leads D R p S → Leads D S q T → Leads D R (p ++ q) T
leads_then D R S T p q v w =
    let a = views_same D q S v.last w.last (perm_sym v.last S v.same) w.views in
    record { nameless = nameless_join p q v.nameless w.nameless; last = a.0; views = views_join D p q R v.last a.0 v.views a.1; same = perm_trans a.0 w.last T (perm_sym w.last a.0 a.2) w.same }

pub leads_front : (D : Decls) (R T l : List (Atom ℕ)) (p : List Step) → Leads D R p T → Leads D (R ++ l) p (T ++ l)
leads_front D R T l p v = let a = views_front D p R v.last l v.nameless v.views in record { nameless = v.nameless; last = a.0; views = a.1; same = perm_trans a.0 (v.last ++ l) (T ++ l) a.2 (perm_append v.last T l v.same) }

pub leads_same : (D : Decls) (R S T : List (Atom ℕ)) (p : List Step) → Leads D R p S → SameUpToOrder S T → Leads D R p T
leads_same D R S T p v q = record { nameless = v.nameless; last = v.last; views = v.views; same = perm_trans v.last S T v.same q }

pub leads_from : (D : Decls) (R S T : List (Atom ℕ)) (p : List Step) → SameUpToOrder R S → Leads D R p T → Leads D S p T
leads_from D R S T p q v = let a = views_same D p R S v.last q v.views in record { nameless = v.nameless; last = a.0; views = a.1; same = perm_trans a.0 v.last T (perm_sym v.last a.0 a.2) v.same }

pub slide : {A : Type 0} (xs : List A) (a : A) (l : List A) → xs ++ a ∷ l ≡ (xs ++ a ∷ []) ++ l
slide [] a l = refl
slide (x ∷ xs) a l = ap (λ s. x ∷ s) (slide xs a l)

pub middle : {A : Type 0} (xs l : List A) (a : A) → SameUpToOrder ((xs ++ l) ++ a ∷ []) (xs ++ a ∷ l)
middle xs l a = subst (λ s. SameUpToOrder ((xs ++ l) ++ a ∷ []) s) (sym (slide xs a l)) (perm_beside xs l (a ∷ []))

-- one after the other, each set aside
pub beside_leads : (D : Decls) (S T p : List (Atom ℕ)) (a : Atom ℕ) (q : List Step) → Leads D S q (T ++ p) → Leads D (S ++ a ∷ []) q (T ++ a ∷ p)
beside_leads D S T p a q v = leads_same D (S ++ a ∷ []) ((T ++ p) ++ a ∷ []) (T ++ a ∷ p) q (leads_front D S (T ++ p) (a ∷ []) q v) (middle T p a)

-- what callers know of the declarations: whether a permission is affine
pub record Known (D : Decls) : Type 0 where
  pub affine : (a : Atom ℕ) → AffineAtom D a ⊎ (AffineAtom D a → ⊥)

-- what stands at the end can be dropped
pub drops_lead : (D : Decls) (T p : List (Atom ℕ)) → (q : List Step) × Leads D (T ++ p) q T
drops_lead D T [] = ([], leads_none D (T ++ []) T (perm_is (T ++ []) T (append-nil T)))
drops_lead D T (a ∷ p) = let r = drops_lead D T p in (Drop_step a ∷ r.0, leads_then D (T ++ a ∷ p) (T ++ p) T (Drop_step a ∷ []) r.0 (leads_one D (T ++ a ∷ p) (T ++ p) (Drop_step a) tt (takes_middle a T p)) r.1)
