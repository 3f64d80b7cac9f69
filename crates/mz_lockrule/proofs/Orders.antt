-- The rules of locks and threads and the order of a state: what a rule asks of it doesn't hang on its order.
use Rattle.std.proofs.Common.{◌≡◌, ℕ, List, [], ◌∷◌, ◌++◌, Some, None, slice_get, refl, sym, ap, ◌∙◌, subst}
use Rattle.mz_tree.specs.Plain.{Atom, Unknown_type, Locked_type, Function_type, Lock_type, Has_atom, Same_atom, atoms_of}
use Rattle.mz_tree.specs.Programs.{Sig}
use Rattle.mz_tree.specs.Code.{New_lock_op, Acquire_op, Release_op, Spawn_op}
use Rattle.mz_decl.specs.Declarations.{Decls}
use Rattle.mz_decl.specs.Signatures.{needed, at_args}
use Rattle.mz_modes.specs.Affine.{AffineAtom}
use Rattle.mz_modes.specs.Calling.{IsCallee}
use Rattle.mz_perm.specs.Lists.{SameUpToOrder}
use Rattle.mz_perm.specs.Using.{UsesUpAll}
use Rattle.mz_perm.proofs.Orders.{perm_append, perm_in, perm_is, all_same, all_unique}
use Rattle.mz_lockrule.specs.Locking.{IsLock}
use Rattle.mz_lockrule.specs.Laws.{OrderIsFree, LeadsToOne}

-- a state that is the same up to order, with the same behind
same_end : (A B l T : List (Atom ℕ)) → T ≡ A ++ l → SameUpToOrder A B → SameUpToOrder T (B ++ l)
same_end A B l T e p = subst (λ z. SameUpToOrder z (B ++ l)) (sym e) (perm_append A B l p)

-- a callee is one in every state that is the same
abbrev callee_alike : (D : Decls) (R S : List (Atom ℕ)) (g count : ℕ) (a : Atom ℕ) → SameUpToOrder R S → IsCallee D R g count a → IsCallee D S g count a
callee_alike D R S g count a p c = record { number = c.number; function = c.function; held = perm_in a R S p c.held; sig = c.sig; declared = c.declared; many = c.many }

-- each rule leads from the one state as from the other: what it uses up or asks for is in both
pub order_free : OrderIsFree
order_free D R S T c (New_lock_op guarded) None p r =
    let u = all_same (AffineAtom D) guarded R S r.rest p r.used in
    let l = Has_atom c (Lock_type (atoms_of guarded)) ∷ [] in
    record { after = u.0 ++ l; leads = record { rest = u.0; used = u.1; new = refl }; alike = same_end r.rest u.0 l T r.new u.2 }
order_free D R S T c (Acquire_op l) (Some a) p r =
    let m = r.guarded ++ Has_atom l Locked_type ∷ [] in
    let done = Has_atom c Unknown_type ∷ [] in
    record { after = (S ++ m) ++ done; leads = record { guarded = r.guarded; lock = r.lock; held = perm_in a R S p r.held; new = refl }; alike = same_end (R ++ m) (S ++ m) done T r.new (perm_append R S m p) }
order_free D R S T c (Release_op l) (Some a) p r =
    let u = all_same (AffineAtom D) (r.guarded ++ Has_atom l Locked_type ∷ []) R S r.rest p r.used in
    let done = Has_atom c Unknown_type ∷ [] in
    record { after = u.0 ++ done; leads = record { guarded = r.guarded; lock = r.lock; held = perm_in a R S p r.held; rest = u.0; used = u.1; new = refl }; alike = same_end r.rest u.0 done T r.new u.2 }
order_free D R S T c (Spawn_op g y) (Some a) p r =
    let u = all_same (AffineAtom D) (at_args (y ∷ []) (needed r.callee.sig.needs)) R S r.rest p r.used in
    let done = Has_atom c Unknown_type ∷ [] in
    record { after = u.0 ++ done; leads = record { callee = callee_alike D R S g 1 a p r.callee; rest = u.0; used = u.1; new = refl }; alike = same_end r.rest u.0 done T r.new u.2 }
order_free D R S T c op uses p r = absurd r

-- a permission says of one list alone that a lock guards it
pub guarded_one : (l : ℕ) (a : Atom ℕ) (p q : List (Atom ℕ)) → IsLock l a p → IsLock l a q → p ≡ q
guarded_one l (Has_atom x (Lock_type g)) p q t u = t.1 ∙ sym u.1
guarded_one l (Has_atom x t) p q i u = absurd i.1
guarded_one l (Same_atom x y) p q t u = absurd t

some_is : {A : Type 0} {a b : A} → Some a ≡ Some b → a ≡ b
some_is e = cc

function_is : {a : Atom ℕ} {g n m : ℕ} → a ≡ Has_atom g (Function_type n) → a ≡ Has_atom g (Function_type m) → n ≡ m
function_is e f = cc

-- and a callee has one signature
pub callee_one : (D : Decls) (R : List (Atom ℕ)) (g count : ℕ) (a : Atom ℕ) (t u : IsCallee D R g count a) → t.sig ≡ u.sig
callee_one D R g count a t u = some_is (sym t.declared ∙ subst (λ n. slice_get D.sigs n ≡ Some u.sig) (function_is u.function t.function) u.declared)

-- behind what is the same up to order one list stands
ends_alike : (A B l T U : List (Atom ℕ)) → T ≡ A ++ l → U ≡ B ++ l → SameUpToOrder A B → SameUpToOrder T U
ends_alike A B l T U e f p = subst (λ z. SameUpToOrder T z) (sym f) (same_end A B l T e p)

-- so each rule leads to one state, order aside: whichever copies are used up, what is left is the same
pub one_state : LeadsToOne
one_state D R T U c (New_lock_op guarded) None t u =
    ends_alike t.rest u.rest (Has_atom c (Lock_type (atoms_of guarded)) ∷ []) T U t.new u.new (all_unique (AffineAtom D) guarded R t.rest u.rest t.used u.used)
one_state D R T U c (Acquire_op l) (Some a) t u =
    let e = guarded_one l a t.guarded u.guarded t.lock u.lock in
    perm_is T U (t.new ∙ ap (λ g. (R ++ (g ++ Has_atom l Locked_type ∷ [])) ++ Has_atom c Unknown_type ∷ []) e ∙ sym u.new)
one_state D R T U c (Release_op l) (Some a) t u =
    let e = guarded_one l a t.guarded u.guarded t.lock u.lock in
    let used = subst (λ g. UsesUpAll (AffineAtom D) (g ++ Has_atom l Locked_type ∷ []) R u.rest) (sym e) u.used in
    ends_alike t.rest u.rest (Has_atom c Unknown_type ∷ []) T U t.new u.new (all_unique (AffineAtom D) (t.guarded ++ Has_atom l Locked_type ∷ []) R t.rest u.rest t.used used)
one_state D R T U c (Spawn_op g y) (Some a) t u =
    let e = callee_one D R g 1 a t.callee u.callee in
    let used = subst (λ (s : Sig). UsesUpAll (AffineAtom D) (at_args (y ∷ []) (needed s.needs)) R u.rest) (sym e) u.used in
    ends_alike t.rest u.rest (Has_atom c Unknown_type ∷ []) T U t.new u.new (all_unique (AffineAtom D) (at_args (y ∷ []) (needed t.callee.sig.needs)) R t.rest u.rest t.used used)
one_state D R T U c op uses t u = absurd t
