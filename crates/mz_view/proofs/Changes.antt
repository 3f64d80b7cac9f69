-- One permission changed for another, and the rules that do so.
use Rattle.std.proofs.Common.{◌≡◌, inl, inr, ℕ, Bool, true, false, List, [], ◌∷◌, ◌++◌, Option, Some, None, Result, Ok, Err, is_some, slice_get, slice_set, refl, sym, ap, ◌∙◌, subst}
use Rattle.mz_tree.specs.Plain.{Atom, Block_type, Has_atom, Same_atom}
use Rattle.mz_decl.specs.Declarations.{Decls}
use Rattle.mz_modes.specs.Affine.{IsMutable, IsMutableCon, AffineAtom}
use Rattle.mz_perm.specs.Lists.{In, Which, Any_copy, First_copy, TakesFirst, Removes}
use Rattle.mz_perm.proofs.Lists.{in_front, takes_front, removes_in}
use Rattle.mz_perm.proofs.Orders.{used_in}
use Rattle.mz_view.specs.Steps.{plain_step}
use Rattle.mz_view.specs.Rules.{ViewBy, OnBlock, Exchanges, Renames, SetsClause, SetsField, Meets, subject_of, with_subject}
use Rattle.mz_view.specs.Answers.{Becomes, HasEqual}
use Rattle.mz_view.specs.declared.step.ViewStep.{ViewStep}
use Rattle.mz_view.specs.declared.step.ViewFault.{ViewFault}
use Rattle.mz_view.specs.declared.step.ViewFault.TheVariants.{NotAnInstance, Memory}

-- what is added stands behind, so of what was there the first copy goes
pub exchanged : (D : Decls) (R M T : List (Atom ℕ)) (a b : Atom ℕ) (r : Bool) → In a R → M ≡ R ++ b ∷ [] → AffineAtom D a → Removes r a M T → Exchanges First_copy D R a b T
exchanged D R M T a b r i e f taken =
    let t : TakesFirst a M T = removes_in r a M T (subst (λ l. In a l) (sym e) (in_front a R (b ∷ []) i)) taken in
    let q = takes_front a R (b ∷ []) T i (subst (λ l. TakesFirst a l T) e t) in
    record { rest = q.0; used = inl (f, q.1); new = q.2 }

-- what isn't there isn't changed
pub not_exchanged : (D : Decls) (R T : List (Atom ℕ)) (a b : Atom ℕ) → (In a R → ⊥) → Exchanges Any_copy D R a b T → ⊥
not_exchanged D R T a b n e = n (used_in (AffineAtom D) a R e.rest e.used)

-- rules with the same instances have the same answers
pub becomes_alike : {A : Type 0} (P Q : Which → List (Atom ℕ) → Type 0) (R T : List (Atom ℕ)) (r : Result A ViewFault) → ((which : Which) (S : List (Atom ℕ)) → P which S → Q which S) → ((which : Which) (S : List (Atom ℕ)) → Q which S → P which S) → Becomes P R T r → Becomes Q R T r
becomes_alike P Q R T (Ok done) f g h = f First_copy T h
becomes_alike P Q R T (Err NotAnInstance) f g h = (λ S q. h.0 S (g Any_copy S q), h.1)
becomes_alike P Q R T (Err Memory) f g h = h

pub renames : {A : Type 0} (D : Decls) (R T : List (Atom ℕ)) (a b e : Atom ℕ) (z : ℕ) (r : Result A ViewFault) → e ≡ Same_atom (subject_of a) z → In e R → b ≡ with_subject z a → Becomes (λ which. Exchanges which D R a b) R T r → Becomes (λ which. Renames which D R a z) R T r
renames D R T a b e z r is held to = becomes_alike _ (λ which. Renames which D R a z) R T r
    (λ which S x. record { equal = subst (λ q. In q R) is held; changes = subst (λ q. Exchanges which D R a q S) to x })
    (λ which S v. subst (λ q. Exchanges which D R a q S) (sym to) v.changes)

-- an option that isn't some is none
pub none_is : {A : Type 0} (o : Option A) → is_some o ≡ false → o ≡ None
none_is None e = refl
none_is (Some x) e = absurd (cc)

pub sets_clause : {A : Type 0} (D : Decls) (R T : List (Atom ℕ)) (a b : Atom ℕ) (x con u : ℕ) (ys : List ℕ) (clause : Option ℕ) (r : Result A ViewFault) → a ≡ Has_atom x (Block_type con ys clause) → clause ≡ None → IsMutableCon D con → IsMutable D u → b ≡ Has_atom x (Block_type con ys (Some u)) →
    Becomes (λ which. Exchanges which D R a b) R T r → Becomes (λ which S. OnBlock a (λ x con ys clause. SetsClause which D R u x con ys clause S)) R T r
sets_clause D R T a b x con u ys clause r is none mutable adopted to h = subst (λ q. Becomes (λ which S. OnBlock q (λ x con ys clause. SetsClause which D R u x con ys clause S)) R T r) (sym is)
    (becomes_alike _ (λ which. SetsClause which D R u x con ys clause) R T r
    (λ which S c. record { none = none; mutable = mutable; adopted = adopted; changes = subst (λ q. Exchanges which D R q (Has_atom x (Block_type con ys (Some u))) S) is (subst (λ q. Exchanges which D R a q S) to c) })
    (λ which S v. subst (λ q. Exchanges which D R a q S) (sym to) (subst (λ q. Exchanges which D R q (Has_atom x (Block_type con ys (Some u))) S) (sym is) v.changes))
    h)

pub sets_field : {A : Type 0} (D : Decls) (R T : List (Atom ℕ)) (a b : Atom ℕ) (x con i z : ℕ) (ys : List ℕ) (clause : Option ℕ) (r : Result A ViewFault) → a ≡ Has_atom x (Block_type con ys clause) → HasEqual R ys i z → b ≡ Has_atom x (Block_type con (slice_set ys i z) clause) →
    Becomes (λ which. Exchanges which D R a b) R T r → Becomes (λ which S. OnBlock a (λ x con ys clause. SetsField which D R i z x con ys clause S)) R T r
sets_field D R T a b x con i z ys clause r is equal to h = subst (λ q. Becomes (λ which S. OnBlock q (λ x con ys clause. SetsField which D R i z x con ys clause S)) R T r) (sym is)
    (becomes_alike _ (λ which. SetsField which D R i z x con ys clause) R T r
    (λ which S c. record { name = equal.name; is_name = equal.is_name; equal = equal.equal; changes = subst (λ q. Exchanges which D R q (Has_atom x (Block_type con (slice_set ys i z) clause)) S) is (subst (λ q. Exchanges which D R a q S) to c) })
    (λ which S v. subst (λ q. Exchanges which D R a q S) (sym to) (subst (λ q. Exchanges which D R q (Has_atom x (Block_type con (slice_set ys i z) clause)) S) (sym is) v.changes))
    h)

-- the left permission's parts
pub meets : {A : Type 0} (D : Decls) (R T : List (Atom ℕ)) (a b : Atom ℕ) (x con : ℕ) (ys slice : List ℕ) (clause : Option ℕ) (r : Result A ViewFault) → a ≡ Has_atom x (Block_type con ys clause) → slice ≡ ys → Becomes (λ which S. OnBlock b (λ y other zs another. Meets D R x con slice clause y other zs another S)) R T r →
    Becomes (λ which S. OnBlock a (λ x con ys clause. OnBlock b (λ y other zs another. Meets D R x con ys clause y other zs another S))) R T r
meets D R T a b x con ys slice clause r is s h = subst (λ q. Becomes (λ which S. OnBlock q (λ x con ys clause. OnBlock b (λ y other zs another. Meets D R x con ys clause y other zs another S))) R T r) (sym is)
    (subst (λ l. Becomes (λ which S. OnBlock b (λ y other zs another. Meets D R x con l clause y other zs another S)) R T r) s h)

-- a step that is this one
pub at_step : {A : Type 0} (D : Decls) (R T : List (Atom ℕ)) (s step : ViewStep) (r : Result A ViewFault) → s ≡ step → Becomes (λ which. ViewBy which D R (plain_step step)) R T r → Becomes (λ which. ViewBy which D R (plain_step s)) R T r
at_step D R T s step r is h = subst (λ (q : ViewStep). Becomes (λ which. ViewBy which D R (plain_step q)) R T r) (sym is) h
