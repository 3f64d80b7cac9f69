-- Branches from states that are the same up to order are the same but for the order of the states in which they begin.
use Rattle.std.proofs.Common.{◌≡◌, inl, inr, ℕ, suc, List, [], ◌∷◌, Option, refl, sym, ◌∙◌, subst}
use Rattle.mz_tree.specs.Plain.{Atom}
use Rattle.mz_tree.specs.Code.{Command, Body, to_of, op_of}
use Rattle.mz_decl.specs.Declarations.{Decls}
use Rattle.mz_perm.specs.Lists.{SameUpToOrder}
use Rattle.mz_perm.specs.Occurrence.{in_atom}
use Rattle.mz_perm.proofs.Orders.{perm_any}
use Rattle.mz_flow.specs.Branches.{walked_bodies}
use Rattle.mz_deriv.specs.Scripts.{ScriptCases, Script_case, No_script_cases, More_script_cases, item_list}
use Rattle.mz_deriv.specs.Rules.{Does, Branch, BeginEach, Branches}
use Rattle.mz_deriv.specs.Walks.{NamesOuter}
use Rattle.mz_deriv.specs.Refused.{IsMade, Made_by_rule, Made_in_branches}
use Rattle.mz_deriv.proofs.RuleOrders.{Orders, does_order, begins_alike}
use Rattle.mz_deriv.proofs.Forking.{rule_is_straight, no_bodies}

-- branches with the same bodies and scripts, from states that are the same
abbrev pub BranchesAlike : List Branch → List Branch → Type 0
BranchesAlike [] [] = Unit {0}
BranchesAlike (b ∷ bs) (c ∷ cs) = SameUpToOrder b.start c.start × (b.body ≡ c.body) × (b.script ≡ c.script) × BranchesAlike bs cs
BranchesAlike _ _ = ⊥

-- the branches of a state that is the same
pub record Others (Each : List Branch → Type 0) (branches : List Branch) : Type 0 where
  pub those : List Branch
  pub begin : Each those
  pub alike : BranchesAlike branches those

-- a join that names what is known outside does so in each state that is the same
pub outer_alike : (R S : List (Atom ℕ)) (names : List ℕ) (c : Command) (join : List (Atom ℕ)) → SameUpToOrder R S → NamesOuter names R c join → NamesOuter names S c join
outer_alike R S names c join p o n e = elim (o n e) [
  | inl same ↦ inl same
  | inr known ↦ (
      elim known [
        | inl bound ↦ inr (inl bound)
        | inr made ↦ inr (inr (made.0, sym (perm_any (in_atom n) R S p) ∙ made.1))
      ]
      )
]

-- a command isn't made by a rule and in branches too
pub not_both : (D : Decls) (R R' S : List (Atom ℕ)) (c : Command) (uses : Option (Atom ℕ)) (cases : ScriptCases) (branches : List Branch) → Does D R c uses S → Branches D R' c uses cases branches → ⊥
not_both D R R' S c uses cases branches d b = b.some (no_bodies (op_of c) uses (rule_is_straight D R (to_of c) (op_of c) uses S d.rule))

module _ (o : Orders) (D : Decls) where
  -- each branch begins in a state that is the same
  each_other : (R S : List (Atom ℕ)) (c : Command) (uses : Option (Atom ℕ)) (k : ℕ) (bodies : List Body) (cases : ScriptCases) (branches : List Branch) → SameUpToOrder R S → BeginEach D R c uses k bodies cases branches → Others (BeginEach D S c uses k bodies cases) branches
  each_other R S c uses k [] No_script_cases branches p e = record { those = []; begin = refl; alike = subst (λ l. BranchesAlike l []) (sym e) tt }
  each_other R S c uses k [] (More_script_cases case cases) branches p e = absurd e
  each_other R S c uses k (body ∷ bodies) No_script_cases branches p e = absurd e
  each_other R S c uses k (body ∷ bodies) (More_script_cases (Script_case fresh items) cases) branches p e =
      let l = o.branch D R S e.0 c uses k fresh body p e.2 in
      let m = each_other R S c uses (suc k) bodies cases e.1 p e.4 in
      let b : Branch = record { start = l.after; body = body; script = item_list items } in
      record { those = b ∷ m.those; begin = (l.after, m.those, l.leads, refl, m.begin); alike = subst (λ l. BranchesAlike l (b ∷ m.those)) (sym e.3) (l.alike, refl, refl, m.alike) }

  pub branches_other : (R S : List (Atom ℕ)) (c : Command) (uses : Option (Atom ℕ)) (cases : ScriptCases) (branches : List Branch) → SameUpToOrder R S → Branches D R c uses cases branches → Others (Branches D S c uses cases) branches
  branches_other R S c uses cases branches p b =
      let m = each_other R S c uses 0 (walked_bodies (op_of c) uses) cases branches p b.begin in
      record { those = m.those; begin = record { some = b.some; begin = m.begin }; alike = m.alike }

  -- and so two such lists of branches are alike
  each_alike : (R S : List (Atom ℕ)) (c : Command) (uses : Option (Atom ℕ)) (k : ℕ) (bodies : List Body) (cases : ScriptCases) (branches those : List Branch) → SameUpToOrder R S →
      BeginEach D R c uses k bodies cases branches → BeginEach D S c uses k bodies cases those → BranchesAlike branches those
  each_alike R S c uses k [] No_script_cases branches those p e f = subst (λ l. BranchesAlike l those) (sym e) (subst (λ l. BranchesAlike [] l) (sym f) tt)
  each_alike R S c uses k [] (More_script_cases case cases) branches those p e f = absurd e
  each_alike R S c uses k (body ∷ bodies) No_script_cases branches those p e f = absurd e
  each_alike R S c uses k (body ∷ bodies) (More_script_cases (Script_case fresh items) cases) branches those p e f =
      let b : Branch = record { start = e.0; body = body; script = item_list items } in
      let d : Branch = record { start = f.0; body = body; script = item_list items } in
      let all : BranchesAlike (b ∷ e.1) (d ∷ f.1) = (begins_alike o D R S e.0 f.0 c uses k fresh body p e.2 f.2, refl, refl, each_alike R S c uses (suc k) bodies cases e.1 f.1 p e.4 f.4) in
      subst (λ l. BranchesAlike l those) (sym e.3) (subst (λ l. BranchesAlike (b ∷ e.1) l) (sym f.3) all)

  pub branches_alike : (R S : List (Atom ℕ)) (c : Command) (uses : Option (Atom ℕ)) (cases : ScriptCases) (branches those : List Branch) → SameUpToOrder R S → Branches D R c uses cases branches → Branches D S c uses cases those → BranchesAlike branches those
  branches_alike R S c uses cases branches those p b d = each_alike R S c uses 0 (walked_bodies (op_of c) uses) cases branches those p b.begin d.begin

  -- a command that can be made in a state can be made in one that is the same
  pub made_alike : (R S : List (Atom ℕ)) (c : Command) (uses : Option (Atom ℕ)) (cases : ScriptCases) (join : List (Atom ℕ)) → SameUpToOrder R S → IsMade D R c uses cases join → IsMade D S c uses cases join
  made_alike R S c uses cases join p (Made_by_rule T d) = let l = does_order o D R S T c uses p d in Made_by_rule l.after l.leads
  made_alike R S c uses _ _ p (Made_in_branches cases join branches b) = let l = branches_other R S c uses cases branches p b in Made_in_branches cases join l.those l.begin
