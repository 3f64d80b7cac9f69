-- The laws of order of each rule, and of the rules of all commands: they don't look at the order of a state, and lead to one
-- state but for its order.
use Rattle.std.proofs.Common.{ℕ, List, Option, sym, ◌∙◌}
use Rattle.mz_tree.specs.Plain.{Atom}
use Rattle.mz_tree.specs.Code.{Op, Command, Body, Give_op, Take_op, New_lock_op, Acquire_op, Release_op, Spawn_op, to_of, op_of}
use Rattle.mz_decl.specs.Declarations.{Decls}
use Rattle.mz_perm.specs.Lists.{Any_copy, SameUpToOrder}
use Rattle.mz_perm.specs.Occurrence.{in_atom}
use Rattle.mz_perm.proofs.Orders.{perm_trans, perm_any}
use Rattle.mz_view.specs.Steps.{Step}
use Rattle.mz_view.specs.Rules.{View}
use Rattle.mz_view.specs.Laws.{OrderIsFree as ViewOrder, LeadsToOne as ViewOne}
use Rattle.mz_flow.specs.Branches.{Begins}
use Rattle.mz_flow.specs.Laws.{LeadsAlike, OrderIsFree as PlainOrder, LeadsToOne as PlainOne, BranchOrderIsFree, BranchLeadsToOne}
use Rattle.mz_adopt.specs.Laws.{OrderIsFree as AdoptionOrder, LeadsToOne as AdoptionOne}
use Rattle.mz_lockrule.specs.Laws.{OrderIsFree as LockOrder, LeadsToOne as LockOne}
use Rattle.mz_deriv.specs.Rules.{Rule, Does}

-- the laws of order on which walks stand
pub record Orders : Type 0 where
  pub view : ViewOrder
  pub view_one : ViewOne
  pub plain : PlainOrder
  pub plain_one : PlainOne
  pub branch : BranchOrderIsFree
  pub branch_one : BranchLeadsToOne
  pub adoption : AdoptionOrder
  pub adoption_one : AdoptionOne
  pub lock : LockOrder
  pub lock_one : LockOne

module _ (o : Orders) (D : Decls) where
  -- the rule of each command, by the law of its kind
  rule_order : (R S T : List (Atom ℕ)) (c : ℕ) (op : Op) (uses : Option (Atom ℕ)) → SameUpToOrder R S → Rule D R c op uses T → LeadsAlike (Rule D S c op uses) T
  rule_order R S T c (Give_op x y) uses p r = let l = o.adoption D R S T c (Give_op x y) uses p r in record { after = l.after; leads = l.leads; alike = l.alike }
  rule_order R S T c (Take_op x y) uses p r = let l = o.adoption D R S T c (Take_op x y) uses p r in record { after = l.after; leads = l.leads; alike = l.alike }
  rule_order R S T c (New_lock_op q) uses p r = let l = o.lock D R S T c (New_lock_op q) uses p r in record { after = l.after; leads = l.leads; alike = l.alike }
  rule_order R S T c (Acquire_op x) uses p r = let l = o.lock D R S T c (Acquire_op x) uses p r in record { after = l.after; leads = l.leads; alike = l.alike }
  rule_order R S T c (Release_op x) uses p r = let l = o.lock D R S T c (Release_op x) uses p r in record { after = l.after; leads = l.leads; alike = l.alike }
  rule_order R S T c (Spawn_op g y) uses p r = let l = o.lock D R S T c (Spawn_op g y) uses p r in record { after = l.after; leads = l.leads; alike = l.alike }
  rule_order R S T c op uses p r = o.plain D R S T c op uses p r

  rule_one : (R T U : List (Atom ℕ)) (c : ℕ) (op : Op) (uses : Option (Atom ℕ)) → Rule D R c op uses T → Rule D R c op uses U → SameUpToOrder T U
  rule_one R T U c (Give_op x y) uses r q = o.adoption_one D R T U c (Give_op x y) uses r q
  rule_one R T U c (Take_op x y) uses r q = o.adoption_one D R T U c (Take_op x y) uses r q
  rule_one R T U c (New_lock_op l) uses r q = o.lock_one D R T U c (New_lock_op l) uses r q
  rule_one R T U c (Acquire_op l) uses r q = o.lock_one D R T U c (Acquire_op l) uses r q
  rule_one R T U c (Release_op l) uses r q = o.lock_one D R T U c (Release_op l) uses r q
  rule_one R T U c (Spawn_op g y) uses r q = o.lock_one D R T U c (Spawn_op g y) uses r q
  rule_one R T U c op uses r q = o.plain_one D R T U c op uses r q

  -- the same of a command, whose name is new in both states
  pub does_order : (R S T : List (Atom ℕ)) (c : Command) (uses : Option (Atom ℕ)) → SameUpToOrder R S → Does D R c uses T → LeadsAlike (Does D S c uses) T
  does_order R S T c uses p d =
      let l = rule_order R S T (to_of c) (op_of c) uses p d.rule in
      record { after = l.after; leads = record { new = sym (perm_any (in_atom (to_of c)) R S p) ∙ d.new; rule = l.leads }; alike = l.alike }

  -- two commands from states that are the same lead to states that are
  pub does_alike : (R R' S S' : List (Atom ℕ)) (c : Command) (uses : Option (Atom ℕ)) → SameUpToOrder R R' → Does D R c uses S → Does D R' c uses S' → SameUpToOrder S S'
  does_alike R R' S S' c uses p d e =
      let l = does_order R R' S c uses p d in
      perm_trans S l.after S' l.alike (rule_one R' l.after S' (to_of c) (op_of c) uses l.leads.rule e.rule)

  -- and so do two view steps
  pub step_alike : (R R' S S' : List (Atom ℕ)) (s : Step) → SameUpToOrder R R' → View D R s S → View D R' s S' → SameUpToOrder S S'
  step_alike R R' S S' s p v w = let l = o.view D R R' S s p v in perm_trans S l.after S' l.alike (o.view_one D R' l.after S' s l.leads w)

  -- and two branches begin in such states
  pub begins_alike : (R R' S S' : List (Atom ℕ)) (c : Command) (uses : Option (Atom ℕ)) (k fresh : ℕ) (body : Body) → SameUpToOrder R R' → Begins Any_copy D R c uses k fresh body S → Begins Any_copy D R' c uses k fresh body S' → SameUpToOrder S S'
  begins_alike R R' S S' c uses k fresh body p b e =
      let l = o.branch D R R' S c uses k fresh body p b in
      perm_trans S l.after S' l.alike (o.branch_one D R' l.after S' c uses k fresh body body l.leads e)
