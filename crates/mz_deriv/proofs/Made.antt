-- When a command without branches is made as its item says, and when one with branches is.
use Rattle.std.proofs.Common.{◌≡◌, ℕ, Bool, true, false, List, [], ◌∷◌, length, Option, Result, Ok, Err, refl, sym, subst, arith}
use Rattle.mz_tree.specs.Plain.{Atom}
use Rattle.mz_tree.specs.Code.{Command, to_of, op_of, op_branches, place_of}
use Rattle.mz_tree.specs.View.{plain_atoms}
use Rattle.mz_tree.specs.declared.types.Place.{Place}
use Rattle.mz_tree.specs.declared.types.Atom.{Atom as CodeAtom}
use Rattle.mz_decl.specs.Declarations.{Decls}
use Rattle.mz_deriv.specs.Scripts.{Item, ScriptCases, Do_item, No_script_cases, script_cases_of}
use Rattle.mz_deriv.specs.View.{plain_script_cases}
use Rattle.mz_deriv.specs.Rules.{Does, Branch, Branches}
use Rattle.mz_deriv.specs.Walks.{NamesOuter}
use Rattle.mz_deriv.specs.Refused.{IsMade, Made_by_rule, Made_in_branches, Refuses, Do_refused, BranchesRefuse, Branch_refused}
use Rattle.mz_deriv.specs.Parts.{SameNames, MakesByRule, GoesStraight, Forks, BranchesLead, Makes, By_rule}
use Rattle.mz_deriv.specs.declared.script.ScriptCase.{ScriptCase as CodeCase}
use Rattle.mz_deriv.specs.declared.fault.DerivFault.{DerivFault}
use Rattle.mz_deriv.specs.declared.fault.DerivFault.TheVariants.{BadStep, BadCommand, BadJoin, Memory}
use Rattle.mz_deriv.proofs.Forking.{rule_is_straight, no_bodies}

-- ---- a command without branches

module _ (D : Decls) (R : List (Atom ℕ)) (c : Command) (uses : Option (Atom ℕ)) (straight : op_branches (op_of c) ≡ false) where
  -- what is made is made by a rule
  by_rule : (cases : ScriptCases) (join : List (Atom ℕ)) → IsMade D R c uses cases join → (S : List (Atom ℕ)) × MakesByRule D R c uses cases join S
  by_rule cases join (Made_by_rule S does) = (S, record { no_cases = refl; no_join = refl; does = does })
  by_rule cases join (Made_in_branches _ _ branches b) = absurd (b.some (no_bodies (op_of c) uses straight))

  -- cases that are seen as none are none
  none_seen : (cases : List CodeCase) → script_cases_of (plain_script_cases cases) ≡ No_script_cases → length cases ≡ 0
  none_seen [] e = refl
  none_seen (x ∷ cases) e = absurd (cc)

  -- and so are permissions
  nothing_seen : (atoms : List CodeAtom) → plain_atoms atoms ≡ [] → length atoms ≡ 0
  nothing_seen [] e = refl
  nothing_seen (a ∷ atoms) e = absurd (cc)

  -- with a case nothing is made
  pub no_case : (cases : List CodeCase) (join : List (Atom ℕ)) → (length cases ≡ 0 → ⊥) → IsMade D R c uses (script_cases_of (plain_script_cases cases)) join → ⊥
  no_case cases join n m = n (none_seen cases (by_rule _ join m).1.no_cases)

  -- nor with a join
  pub no_join : (cases : ScriptCases) (join : List CodeAtom) → (length join ≡ 0 → ⊥) → IsMade D R c uses cases (plain_atoms join) → ⊥
  no_join cases join n m = n (nothing_seen join (by_rule cases _ m).1.no_join)

  -- nor without an instance of the rule
  pub no_rule : (cases : ScriptCases) (join : List (Atom ℕ)) → ((S : List (Atom ℕ)) → Does D R c uses S → ⊥) → IsMade D R c uses cases join → ⊥
  no_rule cases join n m = let r = by_rule cases join m in n r.0 r.1.does

-- with an instance of its rule, and without cases and a join, a command is made by its rule
pub made : (D : Decls) (R T : List (Atom ℕ)) (c : Command) (uses : Option (Atom ℕ)) (cases : List CodeCase) (join : List CodeAtom) → length cases ≡ 0 → length join ≡ 0 → Does D R c uses T →
    MakesByRule D R c uses (script_cases_of (plain_script_cases cases)) (plain_atoms join) T
made D R T c uses [] [] e f d = record { no_cases = refl; no_join = refl; does = d }
made D R T c uses [] (a ∷ join) e f d = absurd (omega arith)
made D R T c uses (x ∷ cases) join e f d = absurd (omega arith)

-- ---- a command with branches

module _ (D : Decls) (R : List (Atom ℕ)) (c : Command) (uses : Option (Atom ℕ)) (forks : op_branches (op_of c) ≡ true) where
  -- without them it isn't made
  pub not_forked : (cases : ScriptCases) (join : List (Atom ℕ)) → ((branches : List Branch) → Branches D R c uses cases branches → ⊥) → IsMade D R c uses cases join → ⊥
  not_forked cases join n (Made_by_rule S d) = both (op_branches (op_of c)) forks (rule_is_straight D R (to_of c) (op_of c) uses S d.rule)
    where
      both : (b : Bool) → b ≡ true → b ≡ false → ⊥
      both true e f = absurd (cc)
      both false e f = absurd (cc)
  not_forked cases join n (Made_in_branches _ _ branches b) = n branches b

-- ---- the item of a command is refused, whatever follows

module _ (D : Decls) (bound : List ℕ) (R : List (Atom ℕ)) (c : Command) (uses : Option (Atom ℕ)) (cases : ScriptCases) (join : List (Atom ℕ)) where
  -- what can't be made is refused
  not_made : (T : List (Atom ℕ)) (fault : DerivFault) → (IsMade D R c uses cases join → ⊥) → fault ≡ BadCommand (place_of c) → Makes {A = Unit {0}} D bound R c uses cases join T (Err fault)
  not_made T fault n e = subst (λ f. Makes {A = Unit {0}} D bound R c uses cases join T (Err f)) (sym e) (λ names h commands items brace made. Do_refused n)

  pub goes_straight : (T : List (Atom ℕ)) (result : Result (Unit {0}) DerivFault) → GoesStraight D R c uses cases join T result → Makes D bound R c uses cases join T result
  goes_straight T (Ok done) g = λ names h. By_rule g
  goes_straight T (Err (BadStep p n)) g = not_made T (BadStep p n) g.0 g.1
  goes_straight T (Err (BadCommand p)) g = not_made T (BadCommand p) g.0 g.1
  goes_straight T (Err (BadJoin p)) g = not_made T (BadJoin p) g.0 g.1
  goes_straight T (Err Memory) g = tt

  pub fork_refused : (T : List (Atom ℕ)) (fault : DerivFault) → op_branches (op_of c) ≡ true → Forks {A = Unit {0}} D R c uses cases (Err fault) → Makes {A = Unit {0}} D bound R c uses cases join T (Err fault)
  fork_refused T (BadStep p n) e f = not_made T (BadStep p n) (not_forked D R c uses e cases join f.0) f.1
  fork_refused T (BadCommand p) e f = not_made T (BadCommand p) (not_forked D R c uses e cases join f.0) f.1
  fork_refused T (BadJoin p) e f = not_made T (BadJoin p) (not_forked D R c uses e cases join f.0) f.1
  fork_refused T Memory e f = tt

  -- a point in one of the branches
  branch_refused : (T : List (Atom ℕ)) (fault : DerivFault) → ((names : List ℕ) → SameNames bound names → NamesOuter names R c join) →
      ((names : List ℕ) → SameNames bound names → (branches : List Branch) × Branches D R c uses cases branches × BranchesRefuse D names c join branches fault) →
      (names : List ℕ) → SameNames bound names → (commands : List Command) (items : List Item) (brace : Place) (made : ℕ) → Refuses D names R (c ∷ commands) (Do_item uses cases join ∷ items) brace made fault
  branch_refused T fault o r names h commands items brace made = let q = r names h in Branch_refused q.1 (o names h) q.2

  pub branches_refused : (T : List (Atom ℕ)) (fault : DerivFault) → ((names : List ℕ) → SameNames bound names → NamesOuter names R c join) → BranchesLead {A = Unit {0}} D bound R c uses cases join (Err fault) → Makes {A = Unit {0}} D bound R c uses cases join T (Err fault)
  branches_refused T (BadStep p n) o f = branch_refused T (BadStep p n) o f
  branches_refused T (BadCommand p) o f = branch_refused T (BadCommand p) o f
  branches_refused T (BadJoin p) o f = branch_refused T (BadJoin p) o f
  branches_refused T Memory o f = tt
