-- One command: by its rule, or through its branches.
use Rattle.std.proofs.Common.{◌≡◌, ℕ, ◌+◌, List, [], ◌∷◌, Result, Ok, Err, sym, subst, arith}
use Rattle.mz_tree.specs.Plain.{Atom}
use Rattle.mz_tree.specs.Code.{Body, Command, to_of, op_of, place_of, commands_in}
use Rattle.mz_tree.specs.View.{plain_atom}
use Rattle.mz_tree.specs.declared.types.Place.{Place}
use Rattle.mz_decl.specs.Declarations.{Decls}
use Rattle.mz_elab.specs.Doing.{ActsOr}
use Rattle.mz_elab.specs.Opening.{Opening, OpensIn, giving_of}
use Rattle.mz_elab.specs.Joins.{End}
use Rattle.mz_elab.specs.Joining.{plain_end}
use Rattle.mz_elab.specs.Guided.{GuidedAll, Guided_acts, Guided_branches, Guided_none, Guided_one}
use Rattle.mz_elab.specs.Lacking.{Lacks, LacksIn, LacksOp, Lacks_here, Lacks_later, Lacks_inside, Lacks_given, Lacks_after, Lacks_first, Lacks_next}
use Rattle.mz_elab.specs.Walking.{GoesOver, WalksTo, JoinsOr}
use Rattle.mz_elab.specs.declared.ends.End.{End as CodeEnd}
use Rattle.mz_elab.specs.declared.fault.ElabFault.{ElabFault}
use Rattle.mz_elab.specs.declared.fault.ElabFault.TheVariants.{NoPermission, Memory}

module _ (D : Decls) (names : List ℕ) (R : List (Atom ℕ)) (n : ℕ) (c : Command) where
  -- a command without branches
  pub goes_straight : {A : Type 0} (S : List (Atom ℕ)) (k : ℕ) (result : Result A ElabFault) → ActsOr D R n (to_of c) (op_of c) (place_of c) S k result → GoesOver D names R n c S k result
  goes_straight S k (Ok done) a = λ rest. record {
    guided = λ T m g. Guided_acts names R n c rest S k T m a g;
    lacks = λ place b l. Lacks_later names R n c rest S k place b a l;
  }
  goes_straight S k (Err (NoPermission place b)) l = λ rest. subst (λ p. Lacks D names R n (c ∷ rest) p (plain_atom b)) (sym l.0) (Lacks_here names R n c rest (plain_atom b) l.1)
  goes_straight S k (Err Memory) l = record {}

  -- what it lacks before its branches
  pub lacks_here : (a : Atom ℕ) → LacksOp D R (op_of c) a → (rest : List Command) → Lacks D names R n (c ∷ rest) (place_of c) a
  lacks_here a l rest = Lacks_here names R n c rest a l

  module _ (branches : List Opening) (opens : OpensIn D R (op_of c) branches) where
    -- what one of its branches lacks
    pub lacks_inside : (place : Place) (a : Atom ℕ) → LacksIn D names n branches place a → (rest : List Command) → Lacks D names R n (c ∷ rest) place a
    lacks_inside place a l rest = Lacks_inside names R n c rest branches place a opens l

    -- the branches join
    pub goes_joined : {A : Type 0} (ends : List End) (k : ℕ) (J : List (Atom ℕ)) (result : Result A ElabFault) → GuidedAll D names n branches ends k → JoinsOr D names R (to_of c) (giving_of (op_of c)) ends J result → GoesOver D names R n c J k result
    goes_joined ends k J (Ok done) g j = λ rest. record {
      guided = λ T m x. Guided_branches names R n c rest branches ends k J T m opens g j x;
      lacks = λ place a x. Lacks_after names R n c rest branches ends k J place a opens g j x;
    }
    goes_joined ends k J (Err (NoPermission place a)) g l = λ rest. Lacks_given names R n c rest branches ends k place (plain_atom a) opens g l
    goes_joined ends k J (Err Memory) g l = record {}

-- the first branch, and those after it
module _ (D : Decls) (names : List ℕ) (n : ℕ) (b : Opening) (branches : List Opening) where
  pub first_walked : (k : ℕ) (e : CodeEnd) (ends : List End) (m : ℕ) → WalksTo D names (b.begins n) (n + b.takes) b.body k e → GuidedAll D names k branches ends m → GuidedAll D names n (b ∷ branches) (plain_end e ∷ ends) m
  first_walked k e ends m w g = subst (λ x. GuidedAll D names n (b ∷ branches) (x ∷ ends) m) (sym w.is) (Guided_one names n b branches e.state k ends m w.guided g)

  pub first_lacks : (place : Place) (a : Atom ℕ) → Lacks D names (b.begins n) (n + b.takes) (commands_in b.body) place a → LacksIn D names n (b ∷ branches) place a
  first_lacks place a l = Lacks_first names n b branches place a l

  pub next_lacks : (k : ℕ) (e : CodeEnd) (place : Place) (a : Atom ℕ) → WalksTo D names (b.begins n) (n + b.takes) b.body k e → LacksIn D names k branches place a → LacksIn D names n (b ∷ branches) place a
  next_lacks k e place a w l = Lacks_next names n b branches e.state k place a w.guided l

-- one branch alone
pub one_walked : (D : Decls) (names : List ℕ) (n : ℕ) (b : Opening) (k : ℕ) (e : CodeEnd) → WalksTo D names (b.begins n) (n + b.takes) b.body k e → GuidedAll D names n (b ∷ []) (plain_end e ∷ []) k
one_walked D names n b k e w = first_walked D names n b [] k e [] k w (Guided_none names k)

pub one_lacks : (D : Decls) (names : List ℕ) (n : ℕ) (b : Opening) (place : Place) (a : Atom ℕ) → Lacks D names (b.begins n) (n + b.takes) (commands_in b.body) place a → LacksIn D names n (b ∷ []) place a
one_lacks D names n b place a l = first_lacks D names n b [] place a l

-- a branch that takes no names as it begins
pub takes_none : (D : Decls) (names : List ℕ) (R : List (Atom ℕ)) (n : ℕ) (body : Body) (k : ℕ) (e : CodeEnd) → WalksTo D names R n body k e → WalksTo D names R (n + 0) body k e
takes_none D names R n body k e w = let z : n ≡ n + 0 = omega arith in subst (λ m. WalksTo D names R m body k e) z w

pub takes_none_lacks : (D : Decls) (names : List ℕ) (R : List (Atom ℕ)) (n : ℕ) (commands : List Command) (place : Place) (a : Atom ℕ) → Lacks D names R n commands place a → Lacks D names R (n + 0) commands place a
takes_none_lacks D names R n commands place a l = let z : n ≡ n + 0 = omega arith in subst (λ m. Lacks D names R m commands place a) z l
