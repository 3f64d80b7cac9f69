-- Calls and the order of a state: from states that are the same up to order a call leads to states that are.
use Rattle.std.proofs.Common.{◌≡◌, inl, inr, ℕ, List, [], ◌∷◌, ◌++◌, length, Some, slice_get, refl, sym, ap, ◌∙◌, subst}
use Rattle.mz_tree.specs.Plain.{Atom, Function_type, Has_atom}
use Rattle.mz_tree.specs.Programs.{Need, Sig}
use Rattle.mz_decl.specs.Declarations.{Decls}
use Rattle.mz_decl.specs.Signatures.{needed, at_args, given}
use Rattle.mz_modes.specs.Affine.{AffineAtom}
use Rattle.mz_modes.specs.Calling.{IsCallee, GivesBack}
use Rattle.mz_perm.specs.Lists.{Any_copy, First_copy, SameUpToOrder}
use Rattle.mz_perm.specs.Using.{UsesUpAll}
use Rattle.mz_perm.proofs.Orders.{perm_append, perm_in, all_same, all_unique}
use Rattle.mz_flow.specs.Commands.{Calls}
use Rattle.mz_flow.specs.Spending.{Spends}
use Rattle.mz_flow.specs.Laws.{LeadsAlike}

-- a state that is the same, with the same behind
same_end : (A B l T : List (Atom ℕ)) → T ≡ A ++ l → SameUpToOrder A B → SameUpToOrder T (B ++ l)
same_end A B l T e p = subst (λ z. SameUpToOrder z (B ++ l)) (sym e) (perm_append A B l p)

-- the callee is held in the one as in the other
abbrev callee_alike : (D : Decls) (R S : List (Atom ℕ)) (g count : ℕ) (a : Atom ℕ) → SameUpToOrder R S → IsCallee D R g count a → IsCallee D S g count a
callee_alike D R S g count a p c = record { number = c.number; function = c.function; held = perm_in a R S p c.held; sig = c.sig; declared = c.declared; many = c.many }

pub calls_alike : (D : Decls) (R S : List (Atom ℕ)) (c g : ℕ) (ys : List ℕ) (a : Atom ℕ) (T : List (Atom ℕ)) → SameUpToOrder R S → Calls Any_copy D R c g ys a T → LeadsAlike (Calls Any_copy D S c g ys a) T
calls_alike D R S c g ys a T p r =
    let u = all_same (AffineAtom D) (at_args ys (needed r.callee.sig.needs)) R S r.rest p r.used in
    record {
      after = u.0 ++ given ys c r.back r.callee.sig.gives;
      leads = record { callee = callee_alike D R S g (length ys) a p r.callee; rest = u.0; used = u.1; back = r.back; gives_back = r.gives_back; new = refl };
      alike = same_end r.rest u.0 (given ys c r.back r.callee.sig.gives) T r.new u.2;
    }

some_is : {A : Type 0} {a b : A} → Some a ≡ Some b → a ≡ b
some_is e = cc

function_is : {a : Atom ℕ} {g n m : ℕ} → a ≡ Has_atom g (Function_type n) → a ≡ Has_atom g (Function_type m) → n ≡ m
function_is e f = cc

-- a permission for a function names one signature
pub callee_one : (D : Decls) (R : List (Atom ℕ)) (g count : ℕ) (a : Atom ℕ) (t u : IsCallee D R g count a) → t.sig ≡ u.sig
callee_one D R g count a t u = some_is (sym t.declared ∙ subst (λ n. slice_get D.sigs n ≡ Some u.sig) (function_is u.function t.function) u.declared)

-- what a call gives back is one list: each need is given back or isn't
pub back_one : (D : Decls) (needs : List Need) (b d : List (Atom ℕ)) → GivesBack D needs b → GivesBack D needs d → b ≡ d
back_one D [] b d t u = t ∙ sym u
back_one D (n ∷ needs) b d (inl t) (inl u) = t.1.1 ∙ ap (λ l. n.atom ∷ l) (back_one D needs t.1.0 u.1.0 t.1.2 u.1.2) ∙ sym u.1.1
back_one D (n ∷ needs) b d (inl t) (inr u) = absurd (u.0 t.0)
back_one D (n ∷ needs) b d (inr t) (inl u) = absurd (t.0 u.0)
back_one D (n ∷ needs) b d (inr t) (inr u) = back_one D needs b d t.1 u.1

pub calls_one : (D : Decls) (R : List (Atom ℕ)) (c g : ℕ) (ys : List ℕ) (a : Atom ℕ) (T U : List (Atom ℕ)) → Calls Any_copy D R c g ys a T → Calls Any_copy D R c g ys a U → SameUpToOrder T U
calls_one D R c g ys a T U t u =
    let e = callee_one D R g (length ys) a t.callee u.callee in
    let used = subst (λ (s : Sig). UsesUpAll (AffineAtom D) (at_args ys (needed s.needs)) R u.rest) (sym e) u.used in
    let back = back_one D t.callee.sig.needs t.back u.back t.gives_back (subst (λ (s : Sig). GivesBack D s.needs u.back) (sym e) u.gives_back) in
    let more : given ys c t.back t.callee.sig.gives ≡ given ys c u.back u.callee.sig.gives = ap (λ b. given ys c b t.callee.sig.gives) back ∙ ap (λ (s : Sig). given ys c u.back s.gives) e in
    let alike = all_unique (AffineAtom D) (at_args ys (needed t.callee.sig.needs)) R t.rest u.rest t.used used in
    subst (λ z. SameUpToOrder T z) (sym u.new) (subst (λ z. SameUpToOrder T (u.rest ++ z)) more (same_end t.rest u.rest (given ys c t.back t.callee.sig.gives) T t.new alike))

-- a call is made where its callee is found and what is held pays for it
pub calls_to : (D : Decls) (R : List (Atom ℕ)) (c g count : ℕ) (ys : List ℕ) (a : Atom ℕ) (sig : Sig) → count ≡ length ys → (callee : IsCallee D R g count a) → callee.sig ≡ sig → (S : List (Atom ℕ)) → Spends First_copy D R c sig ys S → Calls First_copy D R c g ys a S
calls_to D R c g count ys a sig n callee e S s =
    let paid = subst (λ (k : Sig). Spends First_copy D R c k ys S) (sym e) s in
    record {
      callee = record { number = callee.number; function = callee.function; held = callee.held; sig = callee.sig; declared = callee.declared; many = sym n ∙ callee.many };
      rest = paid.rest;
      used = paid.used;
      back = paid.back;
      gives_back = paid.gives_back;
      new = paid.new;
    }

-- and no other way
pub calls_from : (D : Decls) (R : List (Atom ℕ)) (c g count : ℕ) (ys : List ℕ) (a : Atom ℕ) (sig : Sig) → count ≡ length ys → (callee : IsCallee D R g count a) → callee.sig ≡ sig → (S : List (Atom ℕ)) → Calls Any_copy D R c g ys a S → Spends Any_copy D R c sig ys S
calls_from D R c g count ys a sig n callee e S s =
    let k = s.callee in
    let other : IsCallee D R g count a = record { number = k.number; function = k.function; held = k.held; sig = k.sig; declared = k.declared; many = n ∙ k.many } in
    subst (λ (z : Sig). Spends Any_copy D R c z ys S) (callee_one D R g count a other callee ∙ e) (record { rest = s.rest; used = s.used; back = s.back; gives_back = s.gives_back; new = s.new })

-- where no callee is found there is no call
pub not_called : (D : Decls) (R : List (Atom ℕ)) (c g count : ℕ) (ys : List ℕ) (a : Atom ℕ) → count ≡ length ys → (IsCallee D R g count a → ⊥) → (S : List (Atom ℕ)) → Calls Any_copy D R c g ys a S → ⊥
not_called D R c g count ys a n none S s = let k = s.callee in none (record { number = k.number; function = k.function; held = k.held; sig = k.sig; declared = k.declared; many = n ∙ k.many })
