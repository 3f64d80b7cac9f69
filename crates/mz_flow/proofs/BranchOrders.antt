-- Branches and the order of a state: where a branch begins doesn't hang on it.
use Rattle.std.proofs.Common.{◌≡◌, ℕ, ◌+◌, List, ◌++◌, length, Option, Some, None, refl, sym, ap, ◌∙◌, subst}
use Rattle.mz_tree.specs.Plain.{Ty, Atom, Int_type, Named_type, Block_type, Has_atom, Same_atom}
use Rattle.mz_tree.specs.Programs.{Con}
use Rattle.mz_tree.specs.Code.{Op, Case, If_op, Match_op, to_of, op_of, con_of, case_list}
use Rattle.mz_decl.specs.Declarations.{Decls, clause_of}
use Rattle.mz_decl.specs.Contents.{opened, names_from}
use Rattle.mz_modes.specs.Affine.{AffineAtom}
use Rattle.mz_modes.specs.Opening.{AreFresh, Opens}
use Rattle.mz_perm.specs.Lists.{Any_copy, SameUpToOrder}
use Rattle.mz_perm.specs.Occurrence.{in_atom}
use Rattle.mz_perm.proofs.Orders.{perm_append, perm_in, perm_any, perm_is, uses_same, uses_unique}
use Rattle.mz_flow.specs.Branches.{StartsTest, StartsKnown, StartsAt, StartsMatch, StartsBy}
use Rattle.mz_flow.specs.Laws.{LeadsAlike, BranchOrderIsFree, BranchLeadsToOne}

fresh_alike : (R S : List (Atom ℕ)) (n k : ℕ) → SameUpToOrder R S → AreFresh R n k → AreFresh S n k
fresh_alike R S n k p f = λ m h. let one = f m h in record { not_core = one.not_core; fits = one.fits; unused = sym (perm_any (in_atom (n + m)) R S p) ∙ one.unused }

-- what is opened in the one is opened in the other
opens_alike : (D : Decls) (R S T : List (Atom ℕ)) (x d con n : ℕ) → SameUpToOrder R S → Opens Any_copy D R x d con n T → LeadsAlike (Opens Any_copy D S x d con n) T
opens_alike D R S T x d con n p o =
    let r = uses_same (AffineAtom D) (Has_atom x (Named_type d)) R S o.rest p o.used in
    let l = opened x con (names_from n (length o.made.fields)) (clause_of D d) o.made.fields in
    record {
      after = r.0 ++ l;
      leads = record { made = o.made; is_con = o.is_con; fresh = fresh_alike R S n (length o.made.fields) p o.fresh; rest = r.0; used = r.1; new = refl };
      alike = subst (λ z. SameUpToOrder z (r.0 ++ l)) (sym o.new) (perm_append o.rest r.0 l r.2);
    }

some_is : {A : Type 0} (a b : A) → Some a ≡ Some b → a ≡ b
some_is a b e = cc

opens_one : (D : Decls) (R T U : List (Atom ℕ)) (x d con n : ℕ) → Opens Any_copy D R x d con n T → Opens Any_copy D R x d con n U → SameUpToOrder T U
opens_one D R T U x d con n e f =
    let one : e.made ≡ f.made = some_is e.made f.made (sym e.is_con ∙ f.is_con) in
    let l = opened x con (names_from n (length e.made.fields)) (clause_of D d) e.made.fields in
    let whole : f.rest ++ l ≡ U = ap (λ (m : Con). f.rest ++ opened x con (names_from n (length m.fields)) (clause_of D d) m.fields) one ∙ sym f.new in
    let same = perm_append e.rest f.rest l (uses_unique (AffineAtom D) (Has_atom x (Named_type d)) R e.rest f.rest e.used f.used) in
    subst (λ z. SameUpToOrder T z) whole (subst (λ z. SameUpToOrder z (f.rest ++ l)) (sym e.new) same)

-- a branch that begins with all that is known begins so in either
test_alike : (R S : List (Atom ℕ)) (y fresh : ℕ) (T : List (Atom ℕ)) → SameUpToOrder R S → StartsTest R y fresh T → LeadsAlike (StartsTest S y fresh) T
test_alike R S y fresh T p s = record {
  after = S;
  leads = record { held = perm_in (Has_atom y Int_type) R S p s.held; no_name = s.no_name; same = refl };
  alike = subst (λ z. SameUpToOrder z S) (sym s.same) p;
}

known_alike : (D : Decls) (R S : List (Atom ℕ)) (d con : ℕ) (a : Atom ℕ) (cases : List Case) (fresh : ℕ) (T : List (Atom ℕ)) → SameUpToOrder R S → StartsKnown D R d con a cases fresh T → LeadsAlike (StartsKnown D S d con a cases fresh) T
known_alike D R S d con a cases fresh T p s = record {
  after = S;
  leads = record { held = perm_in a R S p s.held; made = s.made; is_con = s.is_con; of_type = s.of_type; known = s.known; one = s.one; no_name = s.no_name; same = refl };
  alike = subst (λ z. SameUpToOrder z S) (sym s.same) p;
}

at_alike : (D : Decls) (R S : List (Atom ℕ)) (y d : ℕ) (a : Atom ℕ) (t : Ty ℕ) (cases : List Case) (k fresh : ℕ) (T : List (Atom ℕ)) → SameUpToOrder R S → StartsAt Any_copy D R y d a t cases k fresh T → LeadsAlike (StartsAt Any_copy D S y d a t cases k fresh) T
at_alike D R S y d a (Block_type con fields adopts) cases k fresh T p s = known_alike D R S d con a cases fresh T p s
at_alike D R S y d a (Named_type other) cases k fresh T p s =
    let o = opens_alike D R S T y d (con_of s.case) fresh p s.opens in
    record { after = o.after; leads = record { same_type = s.same_type; case = s.case; is_case = s.is_case; opens = o.leads }; alike = o.alike }
at_alike D R S y d a t cases k fresh T p s = absurd s

match_alike : (D : Decls) (R S : List (Atom ℕ)) (y d : ℕ) (a : Atom ℕ) (cases : List Case) (k fresh : ℕ) (T : List (Atom ℕ)) → SameUpToOrder R S → StartsMatch Any_copy D R y d a cases k fresh T → LeadsAlike (StartsMatch Any_copy D S y d a cases k fresh) T
match_alike D R S y d (Has_atom x t) cases k fresh T p s =
    let o = at_alike D R S y d (Has_atom x t) t cases k fresh T p s.1 in
    record { after = o.after; leads = (s.0, o.leads); alike = o.alike }
match_alike D R S y d (Same_atom x z) cases k fresh T p s = absurd s

starts_alike : (D : Decls) (R S : List (Atom ℕ)) (op : Op) (uses : Option (Atom ℕ)) (k fresh : ℕ) (T : List (Atom ℕ)) → SameUpToOrder R S → StartsBy Any_copy D R op uses k fresh T → LeadsAlike (StartsBy Any_copy D S op uses k fresh) T
starts_alike D R S (If_op y on_true on_false giving) None k fresh T p s = test_alike R S y fresh T p s
starts_alike D R S (Match_op y d cases giving) (Some a) k fresh T p s = match_alike D R S y d a (case_list cases) k fresh T p s
starts_alike D R S op uses k fresh T p s = absurd s

-- so a branch does, as a name is new in both
pub branch_order_free : BranchOrderIsFree
branch_order_free D R S T command uses k fresh body p b =
    let x = starts_alike D R S (op_of command) uses k fresh T p b.starts in
    record { after = x.after; leads = record { new = sym (perm_any (in_atom (to_of command)) R S p) ∙ b.new; walked = b.walked; starts = x.leads }; alike = x.alike }

-- a branch that opens the block has one case by its number
at_one : (D : Decls) (R : List (Atom ℕ)) (y d : ℕ) (a : Atom ℕ) (t : Ty ℕ) (cases : List Case) (k fresh : ℕ) (T U : List (Atom ℕ)) → StartsAt Any_copy D R y d a t cases k fresh T → StartsAt Any_copy D R y d a t cases k fresh U → SameUpToOrder T U
at_one D R y d a (Block_type con fields adopts) cases k fresh T U s t = perm_is T U (s.same ∙ sym t.same)
at_one D R y d a (Named_type other) cases k fresh T U s t =
    let one : s.case ≡ t.case = some_is s.case t.case (sym s.is_case ∙ t.is_case) in
    opens_one D R T U y d (con_of t.case) fresh (subst (λ c. Opens Any_copy D R y d (con_of c) fresh T) one s.opens) t.opens
at_one D R y d a ty cases k fresh T U s t = absurd s

match_one : (D : Decls) (R : List (Atom ℕ)) (y d : ℕ) (a : Atom ℕ) (cases : List Case) (k fresh : ℕ) (T U : List (Atom ℕ)) → StartsMatch Any_copy D R y d a cases k fresh T → StartsMatch Any_copy D R y d a cases k fresh U → SameUpToOrder T U
match_one D R y d (Has_atom x ty) cases k fresh T U s t = at_one D R y d (Has_atom x ty) ty cases k fresh T U s.1 t.1
match_one D R y d (Same_atom x z) cases k fresh T U s t = absurd s

starts_one : (D : Decls) (R : List (Atom ℕ)) (op : Op) (uses : Option (Atom ℕ)) (k fresh : ℕ) (T U : List (Atom ℕ)) → StartsBy Any_copy D R op uses k fresh T → StartsBy Any_copy D R op uses k fresh U → SameUpToOrder T U
starts_one D R (If_op y on_true on_false giving) None k fresh T U s t = perm_is T U (s.same ∙ sym t.same)
starts_one D R (Match_op y d cases giving) (Some a) k fresh T U s t = match_one D R y d a (case_list cases) k fresh T U s t
starts_one D R op uses k fresh T U s t = absurd s

-- and a branch begins in one state, order aside
pub branch_one_state : BranchLeadsToOne
branch_one_state D R T U command uses k fresh body other s t = starts_one D R (op_of command) uses k fresh T U s.starts t.starts
