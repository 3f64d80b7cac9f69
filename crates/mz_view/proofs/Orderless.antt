-- View steps don't look at the order of a state, and lead to one state but for its order.
use Rattle.std.proofs.Common.{◌≡◌, inl, inr, ℕ, ◌+◌, List, [], ◌∷◌, ◌++◌, length, Option, Some, slice_get, slice_set, refl, sym, ap, ◌∙◌, subst}
use Rattle.mz_tree.specs.Plain.{Ty, Atom, Atoms, Int_type, Unknown_type, Dynamic_type, Locked_type, Named_type, Function_type, Block_type, Lock_type, Has_atom, Same_atom}
use Rattle.mz_tree.specs.Programs.{Con}
use Rattle.mz_decl.specs.Declarations.{Decls, clause_of}
use Rattle.mz_modes.specs.Affine.{AffineAtom}
use Rattle.mz_perm.specs.Lists.{In, Any_copy, SameUpToOrder}
use Rattle.mz_perm.specs.Using.{UsesUpAll}
use Rattle.mz_perm.specs.Occurrence.{in_atom}
use Rattle.mz_perm.proofs.Orders.{perm_is, perm_append, perm_takes, takes_unique, perm_in, perm_any, uses_same, uses_unique, all_same, all_unique}
use Rattle.mz_decl.specs.Contents.{contents, opened, names_from}
use Rattle.mz_modes.specs.Opening.{AreFresh, Opens}
use Rattle.mz_view.specs.Equations.{equations}
use Rattle.mz_view.specs.Steps.{Step, Drop_step, Copy_step, Unfold_step, Fold_step, Rename_step, Equal_step, Dynamic_step, Clause_step, Unknown_step, Meet_step, Field_step, Lock_step}
use Rattle.mz_view.specs.Rules.{View, OnBlock, OnLock, Exchanges, Folds, SetsClause, SetsField, SetsSpot, Meets, with_subject}
use Rattle.mz_view.specs.Laws.{LeadsAlike}
use Rattle.mz_view.proofs.Named.{put_unique}

some_is : {A : Type 0} (a b : A) → Some a ≡ Some b → a ≡ b
some_is a b e = cc

-- a structural permission with what holds of its parts
record Block (a : Atom ℕ) (P : ℕ → ℕ → List ℕ → Option ℕ → Type 0) : Type 0 where
  x : ℕ
  con : ℕ
  ys : List ℕ
  clause : Option ℕ
  is : a ≡ Has_atom x (Block_type con ys clause)
  holds : P x con ys clause

on_block : (a : Atom ℕ) (P : ℕ → ℕ → List ℕ → Option ℕ → Type 0) → OnBlock a P → Block a P
on_block (Has_atom x (Block_type con ys clause)) P h = record { x = x; con = con; ys = ys; clause = clause; is = refl; holds = h }
on_block (Has_atom x Int_type) P h = absurd h
on_block (Has_atom x Unknown_type) P h = absurd h
on_block (Has_atom x Dynamic_type) P h = absurd h
on_block (Has_atom x Locked_type) P h = absurd h
on_block (Has_atom x (Named_type d)) P h = absurd h
on_block (Has_atom x (Function_type s)) P h = absurd h
on_block (Has_atom x (Lock_type p)) P h = absurd h
on_block (Same_atom x y) P h = absurd h

of_block : (a : Atom ℕ) (x con : ℕ) (ys : List ℕ) (clause : Option ℕ) (P : ℕ → ℕ → List ℕ → Option ℕ → Type 0) → a ≡ Has_atom x (Block_type con ys clause) → P x con ys clause → OnBlock a P
of_block a x con ys clause P e h = subst (λ b. OnBlock b P) (sym e) h

the_block : (a : Atom ℕ) (x con : ℕ) (ys : List ℕ) (clause : Option ℕ) (P : ℕ → ℕ → List ℕ → Option ℕ → Type 0) → a ≡ Has_atom x (Block_type con ys clause) → OnBlock a P → P x con ys clause
the_block a x con ys clause P e h = subst (λ b. OnBlock b P) e h

-- a lock's permission with what holds of its parts
record Lock (a : Atom ℕ) (P : ℕ → Atoms ℕ → Type 0) : Type 0 where
  l : ℕ
  p : Atoms ℕ
  is : a ≡ Has_atom l (Lock_type p)
  holds : P l p

on_lock : (a : Atom ℕ) (P : ℕ → Atoms ℕ → Type 0) → OnLock a P → Lock a P
on_lock (Has_atom l (Lock_type p)) P h = record { l = l; p = p; is = refl; holds = h }
on_lock (Has_atom x Int_type) P h = absurd h
on_lock (Has_atom x Unknown_type) P h = absurd h
on_lock (Has_atom x Dynamic_type) P h = absurd h
on_lock (Has_atom x Locked_type) P h = absurd h
on_lock (Has_atom x (Named_type d)) P h = absurd h
on_lock (Has_atom x (Function_type s)) P h = absurd h
on_lock (Has_atom x (Block_type con ys clause)) P h = absurd h
on_lock (Same_atom x y) P h = absurd h

-- the same added to what is the same
added : (R S T l : List (Atom ℕ)) → SameUpToOrder R S → T ≡ R ++ l → SameUpToOrder T (S ++ l)
added R S T l p e = subst (λ t. SameUpToOrder t (S ++ l)) (sym e) (perm_append R S l p)

both_added : (R S T U l k : List (Atom ℕ)) → SameUpToOrder R S → T ≡ R ++ l → U ≡ S ++ k → l ≡ k → SameUpToOrder T U
both_added R S T U l k p t u e = subst (λ v. SameUpToOrder T v) (ap (λ m. S ++ m) e ∙ sym u) (added R S T l p t)

-- from states that are the same
exchange_alike : (D : Decls) (R S T : List (Atom ℕ)) (a b : Atom ℕ) → SameUpToOrder R S → Exchanges Any_copy D R a b T → (U : List (Atom ℕ)) × Exchanges Any_copy D S a b U × SameUpToOrder T U
exchange_alike D R S T a b p e = let r = uses_same (AffineAtom D) a R S e.rest p e.used in (r.0 ++ b ∷ [], record { rest = r.0; used = r.1; new = refl }, added e.rest r.0 T (b ∷ []) r.2 e.new)

fresh_alike : (R S : List (Atom ℕ)) (n k : ℕ) → SameUpToOrder R S → AreFresh R n k → AreFresh S n k
fresh_alike R S n k p f = λ m h. let one = f m h in record { not_core = one.not_core; fits = one.fits; unused = sym (perm_any (in_atom (n + m)) R S p) ∙ one.unused }

opens_alike : (D : Decls) (R S T : List (Atom ℕ)) (x d con n : ℕ) → SameUpToOrder R S → Opens Any_copy D R x d con n T → (U : List (Atom ℕ)) × Opens Any_copy D S x d con n U × SameUpToOrder T U
opens_alike D R S T x d con n p o =
    let r = uses_same (AffineAtom D) (Has_atom x (Named_type d)) R S o.rest p o.used in
    let l = opened x con (names_from n (length o.made.fields)) (clause_of D d) o.made.fields in
    (r.0 ++ l, record { made = o.made; is_con = o.is_con; fresh = fresh_alike R S n (length o.made.fields) p o.fresh; rest = r.0; used = r.1; new = refl }, added o.rest r.0 T l r.2 o.new)

folds_alike : (D : Decls) (R S T : List (Atom ℕ)) (x con : ℕ) (ys : List ℕ) (clause : Option ℕ) → SameUpToOrder R S → Folds Any_copy D R x con ys clause T → (U : List (Atom ℕ)) × Folds Any_copy D S x con ys clause U × SameUpToOrder T U
folds_alike D R S T x con ys clause p f =
    let r = all_same (AffineAtom D) (Has_atom x (Block_type con ys clause) ∷ contents ys f.made.fields) R S f.rest p f.used in
    let l : List (Atom ℕ) = Has_atom x (Named_type f.made.variety) ∷ [] in
    (r.0 ++ l, record { made = f.made; is_con = f.is_con; each = f.each; adopts = f.adopts; rest = r.0; used = r.1; new = refl }, added f.rest r.0 T l r.2 f.new)

pub order_free : (D : Decls) (R S T : List (Atom ℕ)) (step : Step) → SameUpToOrder R S → View D R step T → LeadsAlike D S step T
order_free D R S T (Drop_step a) p v = let r = perm_takes a R S T p v in record { after = r.0; leads = r.1; alike = r.2 }
order_free D R S T (Copy_step a) p v = record { after = S ++ a ∷ []; leads = record { held = perm_in a R S p v.held; duplicable = v.duplicable; new = refl }; alike = added R S T (a ∷ []) p v.new }
order_free D R S T (Unfold_step x d n) p v = let r = opens_alike D R S T x d v.con n p v.opens in record { after = r.0; leads = record { con = v.con; only = v.only; opens = r.1 }; alike = r.2 }
order_free D R S T (Fold_step a) p v =
    let b = on_block a (λ x con ys clause. Folds Any_copy D R x con ys clause T) v in
    let r = folds_alike D R S T b.x b.con b.ys b.clause p b.holds in
    record { after = r.0; leads = of_block a b.x b.con b.ys b.clause (λ x con ys clause. Folds Any_copy D S x con ys clause r.0) b.is r.1; alike = r.2 }
order_free D R S T (Rename_step a z) p v = let r = exchange_alike D R S T a (with_subject z a) p v.changes in record { after = r.0; leads = record { equal = perm_in _ R S p v.equal; changes = r.1 }; alike = r.2 }
order_free D R S T (Equal_step x y) p v = record { after = S ++ Same_atom y x ∷ []; leads = record { equal = elim v.equal [ inl e ↦ inl e | inr i ↦ inr (perm_in _ R S p i) ]; new = refl }; alike = added R S T (Same_atom y x ∷ []) p v.new }
order_free D R S T (Dynamic_step x) p v = record { after = S ++ Has_atom x Dynamic_type ∷ []; leads = record { exclusive = record { ty = v.exclusive.ty; held = perm_in _ R S p v.exclusive.held; exclusive = v.exclusive.exclusive }; new = refl }; alike = added R S T (Has_atom x Dynamic_type ∷ []) p v.new }
order_free D R S T (Clause_step a u) p v =
    let b = on_block a (λ x con ys clause. SetsClause Any_copy D R u x con ys clause T) v in
    let c = b.holds in
    let r = exchange_alike D R S T (Has_atom b.x (Block_type b.con b.ys b.clause)) (Has_atom b.x (Block_type b.con b.ys (Some u))) p c.changes in
    let leads : SetsClause Any_copy D S u b.x b.con b.ys b.clause r.0 = record { none = c.none; mutable = c.mutable; adopted = c.adopted; changes = r.1 } in
    record { after = r.0; leads = of_block a b.x b.con b.ys b.clause (λ x con ys clause. SetsClause Any_copy D S u x con ys clause r.0) b.is leads; alike = r.2 }
order_free D R S T (Unknown_step x) p v = record { after = S ++ Has_atom x Unknown_type ∷ []; leads = refl; alike = added R S T (Has_atom x Unknown_type ∷ []) p v }
order_free D R S T (Meet_step a c) p v =
    let b = on_block a (λ x con ys clause. OnBlock c (λ y other zs another. Meets D R x con ys clause y other zs another T)) v in
    let d = on_block c (λ y other zs another. Meets D R b.x b.con b.ys b.clause y other zs another T) b.holds in
    let m = d.holds in
    let U : List (Atom ℕ) = S ++ equations b.ys d.ys in
    let leads : Meets D S b.x b.con b.ys b.clause d.x d.con d.ys d.clause U = record { same_subject = m.same_subject; same_con = m.same_con; immutable = m.immutable; left = perm_in _ R S p m.left; right = perm_in _ R S p m.right; new = refl } in
    let inner = of_block c d.x d.con d.ys d.clause (λ y other zs another. Meets D S b.x b.con b.ys b.clause y other zs another U) d.is leads in
    record { after = U; leads = of_block a b.x b.con b.ys b.clause (λ x con ys clause. OnBlock c (λ y other zs another. Meets D S x con ys clause y other zs another U)) b.is inner; alike = added R S T (equations b.ys d.ys) p m.new }
order_free D R S T (Field_step a i z) p v =
    let b = on_block a (λ x con ys clause. SetsField Any_copy D R i z x con ys clause T) v in
    let c = b.holds in
    let r = exchange_alike D R S T (Has_atom b.x (Block_type b.con b.ys b.clause)) (Has_atom b.x (Block_type b.con (slice_set b.ys i z) b.clause)) p c.changes in
    let leads : SetsField Any_copy D S i z b.x b.con b.ys b.clause r.0 = record { name = c.name; is_name = c.is_name; equal = perm_in _ R S p c.equal; changes = r.1 } in
    record { after = r.0; leads = of_block a b.x b.con b.ys b.clause (λ x con ys clause. SetsField Any_copy D S i z x con ys clause r.0) b.is leads; alike = r.2 }
order_free D R S T (Lock_step a k z) p v =
    let b = on_lock a (λ l q. SetsSpot R k z l q T) v in
    let c = b.holds in
    let U : List (Atom ℕ) = S ++ Has_atom b.l (Lock_type c.guarded) ∷ [] in
    let leads : SetsSpot S k z b.l b.p U = record { held = perm_in _ R S p c.held; name = c.name; is_name = c.is_name; equal = perm_in _ R S p c.equal; guarded = c.guarded; puts = c.puts; new = refl } in
    record { after = U; leads = subst (λ q. OnLock q (λ l q. SetsSpot S k z l q U)) (sym b.is) leads; alike = added R S T (Has_atom b.l (Lock_type c.guarded) ∷ []) p c.new }

-- from one state
exchange_unique : (D : Decls) (R T U : List (Atom ℕ)) (a b : Atom ℕ) → Exchanges Any_copy D R a b T → Exchanges Any_copy D R a b U → SameUpToOrder T U
exchange_unique D R T U a b e f = both_added e.rest f.rest T U (b ∷ []) (b ∷ []) (uses_unique (AffineAtom D) a R e.rest f.rest e.used f.used) e.new f.new refl

opens_unique : (D : Decls) (R T U : List (Atom ℕ)) (x d con n : ℕ) → Opens Any_copy D R x d con n T → Opens Any_copy D R x d con n U → SameUpToOrder T U
opens_unique D R T U x d con n e f =
    let one : e.made ≡ f.made = some_is e.made f.made (sym e.is_con ∙ f.is_con) in
    both_added e.rest f.rest T U _ _ (uses_unique (AffineAtom D) (Has_atom x (Named_type d)) R e.rest f.rest e.used f.used) e.new f.new (ap (λ (m : Con). opened x con (names_from n (length m.fields)) (clause_of D d) m.fields) one)

folds_unique : (D : Decls) (R T U : List (Atom ℕ)) (x con : ℕ) (ys : List ℕ) (clause : Option ℕ) → Folds Any_copy D R x con ys clause T → Folds Any_copy D R x con ys clause U → SameUpToOrder T U
folds_unique D R T U x con ys clause e f =
    let one : e.made ≡ f.made = some_is e.made f.made (sym e.is_con ∙ f.is_con) in
    let parts : Con → List (Atom ℕ) = λ (m : Con). Has_atom x (Block_type con ys clause) ∷ contents ys m.fields in
    let used = subst (λ (m : Con). UsesUpAll (AffineAtom D) (Has_atom x (Block_type con ys clause) ∷ contents ys m.fields) R e.rest) one e.used in
    both_added e.rest f.rest T U _ _ (all_unique (AffineAtom D) (Has_atom x (Block_type con ys clause) ∷ contents ys f.made.fields) R e.rest f.rest used f.used) e.new f.new (ap (λ (m : Con). Has_atom x (Named_type m.variety) ∷ []) one)

pub one_state : (D : Decls) (R T U : List (Atom ℕ)) (step : Step) → View D R step T → View D R step U → SameUpToOrder T U
one_state D R T U (Drop_step a) v w = takes_unique a R T U v w
one_state D R T U (Copy_step a) v w = perm_is T U (v.new ∙ sym w.new)
one_state D R T U (Unfold_step x d n) v w = opens_unique D R T U x d w.con n (subst (λ con. Opens Any_copy D R x d con n T) (some_is v.con w.con (sym v.only ∙ w.only)) v.opens) w.opens
one_state D R T U (Fold_step a) v w =
    let b = on_block a (λ x con ys clause. Folds Any_copy D R x con ys clause T) v in
    folds_unique D R T U b.x b.con b.ys b.clause b.holds (the_block a b.x b.con b.ys b.clause (λ x con ys clause. Folds Any_copy D R x con ys clause U) b.is w)
one_state D R T U (Rename_step a z) v w = exchange_unique D R T U a (with_subject z a) v.changes w.changes
one_state D R T U (Equal_step x y) v w = perm_is T U (v.new ∙ sym w.new)
one_state D R T U (Dynamic_step x) v w = perm_is T U (v.new ∙ sym w.new)
one_state D R T U (Clause_step a u) v w =
    let b = on_block a (λ x con ys clause. SetsClause Any_copy D R u x con ys clause T) v in
    let c = the_block a b.x b.con b.ys b.clause (λ x con ys clause. SetsClause Any_copy D R u x con ys clause U) b.is w in
    exchange_unique D R T U (Has_atom b.x (Block_type b.con b.ys b.clause)) (Has_atom b.x (Block_type b.con b.ys (Some u))) b.holds.changes c.changes
one_state D R T U (Unknown_step x) v w = perm_is T U (v ∙ sym w)
one_state D R T U (Meet_step a c) v w =
    let b = on_block a (λ x con ys clause. OnBlock c (λ y other zs another. Meets D R x con ys clause y other zs another T)) v in
    let d = on_block c (λ y other zs another. Meets D R b.x b.con b.ys b.clause y other zs another T) b.holds in
    let outer = the_block a b.x b.con b.ys b.clause (λ x con ys clause. OnBlock c (λ y other zs another. Meets D R x con ys clause y other zs another U)) b.is w in
    let inner = the_block c d.x d.con d.ys d.clause (λ y other zs another. Meets D R b.x b.con b.ys b.clause y other zs another U) d.is outer in
    perm_is T U (d.holds.new ∙ sym inner.new)
one_state D R T U (Field_step a i z) v w =
    let b = on_block a (λ x con ys clause. SetsField Any_copy D R i z x con ys clause T) v in
    let c = the_block a b.x b.con b.ys b.clause (λ x con ys clause. SetsField Any_copy D R i z x con ys clause U) b.is w in
    exchange_unique D R T U (Has_atom b.x (Block_type b.con b.ys b.clause)) (Has_atom b.x (Block_type b.con (slice_set b.ys i z) b.clause)) b.holds.changes c.changes
one_state D R T U (Lock_step a k z) v w =
    let b = on_lock a (λ l q. SetsSpot R k z l q T) v in
    let c : SetsSpot R k z b.l b.p U = subst (λ q. OnLock q (λ l q. SetsSpot R k z l q U)) b.is w in
    perm_is T U (b.holds.new ∙ ap (λ q. R ++ Has_atom b.l (Lock_type q) ∷ []) (put_unique z k b.p b.holds.guarded c.guarded b.holds.puts c.puts) ∙ sym c.new)
