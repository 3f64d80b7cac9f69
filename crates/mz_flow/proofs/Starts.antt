-- Where the branches of a match start, as the code finds it.
use Rattle.std.proofs.Common.{◌≡◌, ℕ, List, [], ◌∷◌, length, Option, Some, None, slice_get, option_map, Result, refl, sym, ap, ◌∙◌, subst, arith}
use Rattle.std.proofs.lemmas.Option.{slice_get-map}
use Rattle.mz_tree.specs.Plain.{Atom}
use Rattle.mz_tree.specs.Programs.{Con}
use Rattle.mz_tree.specs.Code.{Case, Match_op, con_of, cases_of}
use Rattle.mz_tree.specs.View.{plain_atoms, plain_op, plain_case, plain_cases}
use Rattle.mz_tree.specs.declared.types.Atom.{Atom as CodeAtom}
use Rattle.mz_tree.specs.declared.code.Op.{Op as CodeOp, Match}
use Rattle.mz_tree.specs.declared.code.Case.{Case as CodeCase, out-Case}
use Rattle.mz_tree.proofs.Chains.{list_of_cases}
use Rattle.mz_tree.proofs.CodeViews.{plain_match, plain_case_is}
use Rattle.mz_decl.specs.Declarations.{Decls}
use Rattle.mz_modes.specs.Answers.{Gives, LeadsNowhere}
use Rattle.mz_modes.specs.Opening.{Opens}
use Rattle.mz_modes.specs.declared.fault.RuleFault.{RuleFault}
use Rattle.mz_perm.specs.Lists.{In, Any_copy, First_copy}
use Rattle.mz_flow.specs.Branches.{cases_at, StartsKnown, StartsOpened, StartsMatch, StartsBy}
use Rattle.mz_flow.proofs.Answering.{gives_alike}

some_is : {A : Type 0} (a b : A) → Some a ≡ Some b → a ≡ b
some_is a b e = cc

-- a list of one is that one
one_of : {A : Type 0} (xs : List A) → length xs ≡ 1 → (x : A) × (xs ≡ x ∷ [])
one_of [] e = absurd (omega arith)
one_of (x ∷ []) e = (x, refl)
one_of (x ∷ y ∷ more) e = absurd (omega arith)

-- the one case of a constructor that is known starts with all that is known
pub known_starts : (D : Decls) (R : List (Atom ℕ)) (d con count : ℕ) (a : Atom ℕ) (cases : List Case) (fresh : ℕ) (made : Con) (S : List (Atom ℕ)) → In a R → slice_get D.cons con ≡ Some made → made.variety ≡ d → count ≡ length (cases_at con cases) → count ≡ 1 → fresh ≡ 0 → S ≡ R → StartsKnown D R d con a cases fresh S
known_starts D R d con count a cases fresh made S held is_con of_type n one no_name same =
    let c = one_of (cases_at con cases) (sym n ∙ one) in
    record { held = held; made = made; is_con = is_con; of_type = of_type; known = c.0; one = c.1; no_name = no_name; same = same }

-- a case is seen at its place, with its constructor
case_at : (cases : List CodeCase) (k : ℕ) (one : CodeCase) → slice_get cases k ≡ Some one → slice_get (plain_cases cases) k ≡ Some (plain_case one)
case_at cases k one e = slice_get-map plain_case cases k ∙ ap (λ o. option_map plain_case o) e

-- the case at this place opens the block at its constructor
pub opened_starts : (D : Decls) (R : List (Atom ℕ)) (y d : ℕ) (cases : List CodeCase) (k fresh : ℕ) (one : CodeCase) (result : Result (List (Atom ℕ)) RuleFault) → slice_get cases k ≡ Some one → Gives (λ which. Opens which D R y d (out-Case one).con fresh) result → Gives (λ which. StartsOpened which D R y d d (plain_cases cases) k fresh) result
opened_starts D R y d cases k fresh one result e g =
    let con : con_of (plain_case one) ≡ (out-Case one).con = ap con_of (plain_case_is one) in
    gives_alike (λ which. Opens which D R y d (out-Case one).con fresh) (λ which. StartsOpened which D R y d d (plain_cases cases) k fresh) result
    (λ S o. record { same_type = refl; case = plain_case one; is_case = case_at cases k one e; opens = subst (λ n. Opens First_copy D R y d n fresh S) (sym con) o })
    (λ S s. subst (λ n. Opens Any_copy D R y d n fresh S) (ap con_of (some_is s.case (plain_case one) (sym s.is_case ∙ case_at cases k one e)) ∙ con) s.opens)
    g

-- past the last case none is opened
pub none_opened : (D : Decls) (R : List (Atom ℕ)) (y d : ℕ) (cases : List CodeCase) (k fresh : ℕ) → slice_get cases k ≡ None → LeadsNowhere (λ which. StartsOpened which D R y d d (plain_cases cases) k fresh)
none_opened D R y d cases k fresh e S s = let n : slice_get (plain_cases cases) k ≡ None = slice_get-map plain_case cases k ∙ ap (λ o. option_map plain_case o) e in no_some s.case (sym s.is_case ∙ n)
  where
    no_some : {A : Type 0} (a : A) → Some a ≡ None → ⊥
    no_some a e = absurd (cc)

-- the branches of a match start by its cases
pub match_starts : (D : Decls) (R : List (Atom ℕ)) (op : CodeOp) (block d : ℕ) (cases slice : List CodeCase) (giving : List CodeAtom) (a : Atom ℕ) (uses : Option (Atom ℕ)) (k fresh : ℕ) (result : Result (List (Atom ℕ)) RuleFault) → op ≡ Match block d cases giving → slice ≡ cases → uses ≡ Some a → Gives (λ which. StartsMatch which D R block d a (plain_cases slice) k fresh) result → Gives (λ which. StartsBy which D R (plain_op op) uses k fresh) result
match_starts D R op block d cases slice giving a uses k fresh result e s u g =
    let by_cases = subst (λ l. Gives (λ which. StartsMatch which D R block d a (plain_cases l) k fresh) result) s g in
    let listed : Gives (λ which. StartsBy which D R (Match_op block d (cases_of (plain_cases cases)) (plain_atoms giving)) (Some a) k fresh) result = subst (λ l. Gives (λ which. StartsMatch which D R block d a l k fresh) result) (sym (list_of_cases (plain_cases cases))) by_cases in
    let of_op = subst (λ o. Gives (λ which. StartsBy which D R o (Some a) k fresh) result) (sym (ap plain_op e ∙ plain_match block d cases giving)) listed in
    subst (λ o. Gives (λ which. StartsBy which D R (plain_op op) o k fresh) result) (sym u) of_op
