-- The cases of a scoped match.
use Rattle.std.proofs.Common.{◌≡◌, inl, inr, ℕ, zero, suc, List, [], ◌∷◌, Some, slice_get, sym, ap, subst}
use Rattle.mz_tree.specs.Plain.{Atom}
use Rattle.mz_tree.specs.Code.{Case, Command, Match_op, The_command, The_case, body_of, cases_of, con_of, op_of}
use Rattle.mz_tree.specs.View.{plain_body, plain_case, plain_cases}
use Rattle.mz_tree.specs.declared.code.Case.{Case as CodeCase, out-Case}
use Rattle.mz_tree.proofs.CodeViews.{plain_case_is}
use Rattle.mz_decl.specs.Declarations.{Decls}
use Rattle.mz_decl.proofs.Adopters.{some_is, get_map}
use Rattle.mz_perm.specs.Lists.{In}
use Rattle.mz_elab.specs.Scoping.{AreCasesOf, IsConOf, ScopedBody, ScopedCases, ScopedCommand, ScopedOp}
use Rattle.mz_elab.specs.Walking.{EachScoped, MatchScoped}
use Rattle.mz_elab.proofs.Matched.{cases_listed}

each_scoped : (D : Decls) (names : List ℕ) (cases : List Case) → ScopedCases D names (cases_of cases) → EachScoped D names cases
each_scoped D names [] s i c e = absurd (cc)
each_scoped D names (The_case con body ∷ cases) s zero c e = subst (λ (k : Case). ScopedBody D names (body_of k)) (some_is (The_case con body) c e) s.0
each_scoped D names (k ∷ cases) s (suc i) c e = each_scoped D names cases s.1 i c e

pub match_scoped : (D : Decls) (names : List ℕ) (c : Command) (y d : ℕ) (cases : List Case) (giving : List (Atom ℕ)) → ScopedCommand D names c → op_of c ≡ Match_op y d (cases_of cases) giving → MatchScoped D names d cases
match_scoped D names (The_command to op place) y d cases giving s is =
    let t : ScopedOp D names to (Match_op y d (cases_of cases) giving) = subst (ScopedOp D names to) is s.2 in
    record { cases_of = subst (AreCasesOf D d) (cases_listed cases) t.1; bodies = each_scoped D names cases t.2 }

-- a place of a list holds a member
member_of : {A : Type 0} (xs : List A) (i : ℕ) (x : A) → slice_get xs i ≡ Some x → In x xs
member_of [] i x e = absurd (cc)
member_of (y ∷ xs) zero x e = inl (sym (some_is y x e))
member_of (y ∷ xs) (suc i) x e = inr (member_of xs i x e)

module _ (D : Decls) (names : List ℕ) (d : ℕ) (cases : List CodeCase) (i : ℕ) (x : CodeCase) (s : MatchScoped D names d (plain_cases cases)) (here : slice_get cases i ≡ Some x) where
  pub case_body : ScopedBody D names (body_of (plain_case x))
  case_body = s.bodies i (plain_case x) (get_map plain_case cases i x here)

  pub case_own : ScopedBody D names (plain_body (out-Case x).body)
  case_own = subst (ScopedBody D names) (ap body_of (plain_case_is x)) case_body

  pub case_con : IsConOf D d (con_of (plain_case x))
  case_con = s.cases_of.only (plain_case x) (member_of (plain_cases cases) i (plain_case x) (get_map plain_case cases i x here))
