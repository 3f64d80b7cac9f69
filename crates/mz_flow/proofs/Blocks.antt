-- When a permission for a block is changed, and what becomes of it.
use Rattle.std.proofs.Common.{◌≡◌, ◌<◌, inl, inr, ℕ, zero, suc, List, [], ◌∷◌, ◌++◌, length, Option, Some, slice_get, slice_set, refl, sym, ap, ◌∙◌, subst, arith}
use Rattle.mz_tree.specs.Plain.{Atom, Unknown_type, Block_type, Has_atom}
use Rattle.mz_decl.specs.Declarations.{Decls}
use Rattle.mz_modes.specs.Affine.{IsMutableCon}
use Rattle.mz_perm.specs.Lists.{In, Which, Any_copy, First_copy, TakesFirst}
use Rattle.mz_perm.proofs.Orders.{in_of}
use Rattle.mz_flow.specs.Commands.{Replaces, Writes, LeavesAdopts, Retags}

-- what isn't held can't be replaced
pub not_replaced : (a b : Atom ℕ) (R N : List (Atom ℕ)) (c : ℕ) → N ≡ R → (In a N → ⊥) → (T : List (Atom ℕ)) → Replaces Any_copy a b R c T → ⊥
not_replaced a b R N c e n T r = n (subst (λ l. In a l) (sym e) (in_of a R r.rest r.taken))

-- the first copy is replaced
pub replaced : (a b : Atom ℕ) (R N rest M T : List (Atom ℕ)) (c : ℕ) → N ≡ R → TakesFirst a N rest → M ≡ rest ++ b ∷ [] → T ≡ M ++ Has_atom c Unknown_type ∷ [] → Replaces First_copy a b R c T
replaced a b R N rest M T c e t m n = record {
  rest = rest;
  taken = subst (λ l. TakesFirst a l rest) e t;
  new = n ∙ ap (λ l. l ++ Has_atom c Unknown_type ∷ []) m;
}

-- a block has one list of fields, and adopts one data type at most
pub same_fields : (a : Atom ℕ) (y con : ℕ) (f g : List ℕ) (u v : Option ℕ) → a ≡ Has_atom y (Block_type con f u) → a ≡ Has_atom y (Block_type con g v) → f ≡ g
same_fields a y con f g u v e h = cc

same_adopts : (a : Atom ℕ) (y con : ℕ) (f g : List ℕ) (u v : Option ℕ) → a ≡ Has_atom y (Block_type con f u) → a ≡ Has_atom y (Block_type con g v) → u ≡ v
same_adopts a y con f g u v e h = cc

-- where the conditions of a write are met, it replaces the block's permission by the written one
pub writes_to : (which : Which) (D : Decls) (R : List (Atom ℕ)) (c y con field z : ℕ) (a b : Atom ℕ) (fields : List ℕ) (adopts : Option ℕ) → a ≡ Has_atom y (Block_type con fields adopts) → b ≡ Has_atom y (Block_type con (slice_set fields field z) adopts) → IsMutableCon D con → field < length fields → (S : List (Atom ℕ)) → Replaces which a b R c S → Writes which D R c y con field z a S
writes_to which D R c y con field z a b fields adopts e w m h S r = record { fields = fields; adopts = adopts; block = e; mutable = m; within = h; changed = subst (λ x. Replaces which a x R c S) w r }

pub writes_from : (which : Which) (D : Decls) (R : List (Atom ℕ)) (c y con field z : ℕ) (a b : Atom ℕ) (fields : List ℕ) (adopts : Option ℕ) → a ≡ Has_atom y (Block_type con fields adopts) → b ≡ Has_atom y (Block_type con (slice_set fields field z) adopts) → (S : List (Atom ℕ)) → Writes which D R c y con field z a S → Replaces which a b R c S
writes_from which D R c y con field z a b fields adopts e w S r =
    let f : r.fields ≡ fields = same_fields a y con r.fields fields r.adopts adopts r.block e in
    let u : r.adopts ≡ adopts = same_adopts a y con r.fields fields r.adopts adopts r.block e in
    let x : Has_atom y (Block_type con (slice_set r.fields field z) r.adopts) ≡ b = ap (λ l. Has_atom y (Block_type con (slice_set l field z) r.adopts)) f ∙ ap (λ o. Has_atom y (Block_type con (slice_set fields field z) o)) u ∙ sym w in
    subst (λ k. Replaces which a k R c S) x r.changed

-- a constructor leaves one clause: it is mutable or it isn't
leaves_one : (D : Decls) (con : ℕ) (u v w : Option ℕ) → LeavesAdopts D con u v → LeavesAdopts D con u w → v ≡ w
leaves_one D con u v w (inl p) (inl q) = p.1 ∙ sym q.1
leaves_one D con u v w (inl p) (inr q) = absurd (q.0 p.0)
leaves_one D con u v w (inr p) (inl q) = absurd (p.0 q.0)
leaves_one D con u v w (inr p) (inr q) = p.1 ∙ sym q.1

-- within a list something stands at each place
pub stands_at : {A : Type 0} (xs : List A) (n : ℕ) → n < length xs → (x : A) × (slice_get xs n ≡ Some x)
stands_at [] n h = absurd (omega arith)
stands_at (x ∷ xs) zero h = (x, refl)
stands_at (x ∷ xs) (suc n) h = stands_at xs n (omega arith)

-- where the conditions of a change of tag are met, it replaces the block's permission by that of the other constructor
pub retags_to : (which : Which) (D : Decls) (R : List (Atom ℕ)) (c y old new : ℕ) (a b : Atom ℕ) (fields : List ℕ) (adopts left : Option ℕ) → a ≡ Has_atom y (Block_type old fields adopts) → b ≡ Has_atom y (Block_type new fields left) → IsMutableCon D old → new < length D.cons → LeavesAdopts D new adopts left → (S : List (Atom ℕ)) → Replaces which a b R c S → Retags which D R c y old new a S
retags_to which D R c y old new a b fields adopts left e w m h l S r =
    let made = stands_at D.cons new h in
    record { fields = fields; adopts = adopts; block = e; mutable = m; con = made.0; declared = made.1; left = left; adopts_left = l; changed = subst (λ x. Replaces which a x R c S) w r }

pub retags_from : (which : Which) (D : Decls) (R : List (Atom ℕ)) (c y old new : ℕ) (a b : Atom ℕ) (fields : List ℕ) (adopts left : Option ℕ) → a ≡ Has_atom y (Block_type old fields adopts) → b ≡ Has_atom y (Block_type new fields left) → LeavesAdopts D new adopts left → (S : List (Atom ℕ)) → Retags which D R c y old new a S → Replaces which a b R c S
retags_from which D R c y old new a b fields adopts left e w l S r =
    let f : r.fields ≡ fields = same_fields a y old r.fields fields r.adopts adopts r.block e in
    let u : r.adopts ≡ adopts = same_adopts a y old r.fields fields r.adopts adopts r.block e in
    let v : r.left ≡ left = leaves_one D new adopts r.left left (subst (λ o. LeavesAdopts D new o r.left) u r.adopts_left) l in
    let x : Has_atom y (Block_type new r.fields r.left) ≡ b = ap (λ k. Has_atom y (Block_type new k r.left)) f ∙ ap (λ o. Has_atom y (Block_type new fields o)) v ∙ sym w in
    subst (λ k. Replaces which a k R c S) x r.changed
