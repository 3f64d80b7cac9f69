-- The rules of commands and the order of a state: what a rule asks of it doesn't hang on its order.
use Rattle.std.proofs.Common.{◌≡◌, ℕ, List, [], ◌∷◌, ◌++◌, Some, None, slice_get, slice_set, refl, sym, ap, ◌∙◌, subst}
use Rattle.mz_tree.specs.Plain.{Atom, Int_type, Unknown_type, Function_type, Block_type, Has_atom, Same_atom}
use Rattle.mz_tree.specs.Code.{Int_op, Unit_op, Fun_op, Copy_op, Arith_op, New_op, Read_op, Write_op, Retag_op, Call_op, Print_op}
use Rattle.mz_perm.specs.Lists.{Any_copy, SameUpToOrder}
use Rattle.mz_perm.proofs.Orders.{perm_takes, perm_append, perm_in, perm_is, takes_unique}
use Rattle.mz_flow.specs.Commands.{Adds, Replaces, NamesFunction, Computes, Prints, Reads, Writes, Retags}
use Rattle.mz_flow.specs.Laws.{LeadsAlike, OrderIsFree, LeadsToOne}
use Rattle.mz_flow.proofs.Blocks.{same_fields, writes_from, retags_from}
use Rattle.mz_flow.proofs.Calls.{calls_alike, calls_one}

-- what leads further from each state does so from that one
further : (Leads Other : List (Atom ℕ) → Type 0) (T : List (Atom ℕ)) → ((U : List (Atom ℕ)) → Leads U → Other U) → LeadsAlike Leads T → LeadsAlike Other T
further Leads Other T f x = record { after = x.after; leads = f x.after x.leads; alike = x.alike }

-- what is added is added to either
adds_alike : (a : Atom ℕ) (R S T : List (Atom ℕ)) → SameUpToOrder R S → Adds a R T → LeadsAlike (Adds a S) T
adds_alike a R S T p e = record { after = S ++ a ∷ []; leads = refl; alike = subst (λ l. SameUpToOrder l (S ++ a ∷ [])) (sym e) (perm_append R S (a ∷ []) p) }

-- what is replaced in one can be replaced in the other
replaces_alike : (a b : Atom ℕ) (R S : List (Atom ℕ)) (c : ℕ) (T : List (Atom ℕ)) → SameUpToOrder R S → Replaces Any_copy a b R c T → LeadsAlike (Replaces Any_copy a b S c) T
replaces_alike a b R S c T p r =
    let t = perm_takes a R S r.rest p r.taken in
    let last = Has_atom c Unknown_type in
    record {
      after = (t.0 ++ b ∷ []) ++ last ∷ [];
      leads = record { rest = t.0; taken = t.1; new = refl };
      alike = subst (λ l. SameUpToOrder l ((t.0 ++ b ∷ []) ++ last ∷ [])) (sym r.new) (perm_append (r.rest ++ b ∷ []) (t.0 ++ b ∷ []) (last ∷ []) (perm_append r.rest t.0 (b ∷ []) t.2));
    }

-- each rule leads from the one as from the other
pub order_free : OrderIsFree
order_free D R S T c (Int_op n) None p r = adds_alike (Has_atom c Int_type) R S T p r
order_free D R S T c Unit_op None p r = adds_alike (Has_atom c Unknown_type) R S T p r
order_free D R S T c (Fun_op function) None p r = further (Adds (Has_atom c (Function_type r.sig)) S) (NamesFunction D S c function) T (λ U a. record { sig = r.sig; declared = r.declared; new = a }) (adds_alike (Has_atom c (Function_type r.sig)) R S T p r.new)
order_free D R S T c (Copy_op y) None p r = adds_alike (Same_atom c y) R S T p r
order_free D R S T c (Arith_op operator y z) None p r = further (Adds (Has_atom c Int_type) S) (Computes S c y z) T (λ U a. record { left = perm_in (Has_atom y Int_type) R S p r.left; right = perm_in (Has_atom z Int_type) R S p r.right; new = a }) (adds_alike (Has_atom c Int_type) R S T p r.new)
order_free D R S T c (New_op con fields) None p r = adds_alike (Has_atom c (Block_type con fields None)) R S T p r
order_free D R S T c (Read_op y con field) (Some a) p r = further (Adds (Same_atom c r.name) S) (Reads S c y con field a) T (λ U new. record { fields = r.fields; adopts = r.adopts; block = r.block; held = perm_in a R S p r.held; name = r.name; at_field = r.at_field; new = new }) (adds_alike (Same_atom c r.name) R S T p r.new)
order_free D R S T c (Write_op y con field z) (Some a) p r =
    let b = Has_atom y (Block_type con (slice_set r.fields field z) r.adopts) in
    further (Replaces Any_copy a b S c) (Writes Any_copy D S c y con field z a) T (λ U changed. record { fields = r.fields; adopts = r.adopts; block = r.block; mutable = r.mutable; within = r.within; changed = changed }) (replaces_alike a b R S c T p r.changed)
order_free D R S T c (Retag_op y old new) (Some a) p r =
    let b = Has_atom y (Block_type new r.fields r.left) in
    further (Replaces Any_copy a b S c) (Retags Any_copy D S c y old new a) T (λ U changed. record { fields = r.fields; adopts = r.adopts; block = r.block; mutable = r.mutable; con = r.con; declared = r.declared; left = r.left; adopts_left = r.adopts_left; changed = changed }) (replaces_alike a b R S c T p r.changed)
order_free D R S T c (Call_op g ys) (Some a) p r = calls_alike D R S c g ys a T p r
order_free D R S T c (Print_op y) None p r = further (Adds (Has_atom c Unknown_type) S) (Prints S c y) T (λ U a. record { held = perm_in (Has_atom y Int_type) R S p r.held; new = a }) (adds_alike (Has_atom c Unknown_type) R S T p r.new)
order_free D R S T c op uses p r = absurd r

-- what is added is one state
adds_one : (a b : Atom ℕ) (R T U : List (Atom ℕ)) → a ≡ b → Adds a R T → Adds b R U → SameUpToOrder T U
adds_one a b R T U e t u = perm_is T U (t ∙ ap (λ x. R ++ x ∷ []) e ∙ sym u)

-- whichever copy is replaced, what comes of it is the same
replaces_one : (a b : Atom ℕ) (R : List (Atom ℕ)) (c : ℕ) (T U : List (Atom ℕ)) → Replaces Any_copy a b R c T → Replaces Any_copy a b R c U → SameUpToOrder T U
replaces_one a b R c T U t u =
    let last = Has_atom c Unknown_type in
    let same = perm_append (t.rest ++ b ∷ []) (u.rest ++ b ∷ []) (last ∷ []) (perm_append t.rest u.rest (b ∷ []) (takes_unique a R t.rest u.rest t.taken u.taken)) in
    subst (λ l. SameUpToOrder l U) (sym t.new) (subst (λ l. SameUpToOrder ((t.rest ++ b ∷ []) ++ last ∷ []) l) (sym u.new) same)

some_is : {A : Type 0} (a b : A) → Some a ≡ Some b → a ≡ b
some_is a b e = cc

-- each rule leads to one state, order aside: what it adds hangs on the command and on the permission that it uses alone
pub one_state : LeadsToOne
one_state D R T U c (Int_op n) None t u = adds_one (Has_atom c Int_type) (Has_atom c Int_type) R T U refl t u
one_state D R T U c Unit_op None t u = adds_one (Has_atom c Unknown_type) (Has_atom c Unknown_type) R T U refl t u
one_state D R T U c (Fun_op function) None t u = adds_one (Has_atom c (Function_type t.sig)) (Has_atom c (Function_type u.sig)) R T U (ap (λ s. Has_atom c (Function_type s)) (some_is t.sig u.sig (sym t.declared ∙ u.declared))) t.new u.new
one_state D R T U c (Copy_op y) None t u = adds_one (Same_atom c y) (Same_atom c y) R T U refl t u
one_state D R T U c (Arith_op operator y z) None t u = adds_one (Has_atom c Int_type) (Has_atom c Int_type) R T U refl t.new u.new
one_state D R T U c (New_op con fields) None t u = let a = Has_atom c (Block_type con fields None) in adds_one a a R T U refl t u
one_state D R T U c (Read_op y con field) (Some a) t u =
    let fields : t.fields ≡ u.fields = same_fields a y con t.fields u.fields t.adopts u.adopts t.block u.block in
    let name : t.name ≡ u.name = some_is t.name u.name (sym t.at_field ∙ ap (λ l. slice_get l field) fields ∙ u.at_field) in
    adds_one (Same_atom c t.name) (Same_atom c u.name) R T U (ap (Same_atom c) name) t.new u.new
one_state D R T U c (Write_op y con field z) (Some a) t u =
    let b = Has_atom y (Block_type con (slice_set t.fields field z) t.adopts) in
    replaces_one a b R c T U t.changed (writes_from Any_copy D R c y con field z a b t.fields t.adopts t.block refl U u)
one_state D R T U c (Retag_op y old new) (Some a) t u =
    let b = Has_atom y (Block_type new t.fields t.left) in
    replaces_one a b R c T U t.changed (retags_from Any_copy D R c y old new a b t.fields t.adopts t.left t.block refl t.adopts_left U u)
one_state D R T U c (Call_op g ys) (Some a) t u = calls_one D R c g ys a T U t u
one_state D R T U c (Print_op y) None t u = adds_one (Has_atom c Unknown_type) (Has_atom c Unknown_type) R T U refl t.new u.new
one_state D R T U c op uses t u = absurd t
