-- Each match of a program that was read has a case, so that a command with branches has a script for one.
use Rattle.std.proofs.Common.{◌≡◌, ◌==◌, ℕ, zero, suc, ◌<◌, Bool, true, false, List, [], ◌∷◌, map, length, Option, Some, slice_get, if◌then◌else◌, arith, refl, sym, subst}
use Rattle.mz_tree.specs.Plain.{Atom}
use Rattle.mz_tree.specs.Code.{Op, Commands, Case, Cases, Body, The_command, No_commands, More_commands, The_case, No_cases, More_cases, The_body, If_op, Match_op, Int_op, Unit_op, Fun_op, Copy_op, Arith_op, New_op, Read_op, Write_op, Retag_op, Call_op, Give_op, Take_op, New_lock_op, Acquire_op, Release_op, Spawn_op, Print_op, case_list, body_of, op_branches}
use Rattle.mz_tree.specs.Programs.{Program, Fun}
use Rattle.mz_tree.specs.Scoped.{Scoped, Scope, IsBody, AreCommands, IsOp, AreCases, AreAll, names_below, with_bound, after_command, after_case, names_after, case_cons}
use Rattle.mz_flow.specs.Branches.{cases_at, known_cases, walked_cases, walked_bodies}
use Rattle.mz_deriv.specs.Scripts.{ScriptCases, No_script_cases, More_script_cases}
use Rattle.mz_deriv.specs.Spelled.{CasesSpelled, Cases_end, has_number}
use Rattle.mz_script.specs.Places.{Walked, All_cases, Of_con, walked_by}
use Rattle.mz_script.proofs.Spelling.{filtered, walked_is}

-- there is a case
abbrev pub SomeCase : Cases → Type 0
SomeCase No_cases = ⊥
SomeCase (More_cases c rest) = Unit {0}

-- each match in these commands has a case
abbrev mutual
  pub HasCases : Commands → Type 0
  HasCases No_commands = Unit {0}
  HasCases (More_commands (The_command to op place) rest) = OpCases op × HasCases rest

  pub OpCases : Op → Type 0
  OpCases (If_op test one two giving) = BodyCases one × BodyCases two
  OpCases (Match_op block data_type all giving) = SomeCase all × AllCases all
  OpCases _ = Unit {0}

  pub BodyCases : Body → Type 0
  BodyCases (The_body all value place) = HasCases all

  pub AllCases : Cases → Type 0
  AllCases No_cases = Unit {0}
  AllCases (More_cases (The_case con body) rest) = BodyCases body × AllCases rest

-- and so in these bodies
abbrev pub BodiesCases : List Body → Type 0
BodiesCases [] = Unit {0}
BodiesCases (body ∷ bodies) = BodyCases body × BodiesCases bodies

-- ---- the bodies that are walked are some of the command's

all_bodies : (all : Cases) → AllCases all → BodiesCases (map body_of (case_list all))
all_bodies No_cases h = tt
all_bodies (More_cases (The_case con body) rest) (one, more) = (one, all_bodies rest more)

bodies_at : (con : ℕ) (all : Cases) → AllCases all → BodiesCases (map body_of (cases_at con (case_list all)))
bodies_at con No_cases h = tt
bodies_at con (More_cases (The_case k body) rest) (one, more) = by_test (k == con) (bodies_at con rest more)
  where
    by_test : (b : Bool) → BodiesCases (map body_of (cases_at con (case_list rest))) → BodiesCases (map body_of (if b then The_case k body ∷ cases_at con (case_list rest) else cases_at con (case_list rest)))
    by_test true others = (one, others)
    by_test false others = others

pub walked_have : (op : Op) (uses : Option (Atom ℕ)) → OpCases op → BodiesCases (walked_bodies op uses)
walked_have (If_op test one two giving) uses (a, b) = (a, (b, tt))
walked_have (Match_op block data_type all giving) uses (some, h) = subst (λ (l : List Case). BodiesCases (map body_of l)) (sym (walked_is uses all)) (by_walked (walked_by uses all))
  where
    by_walked : (walked : Walked) → BodiesCases (map body_of (filtered walked (case_list all)))
    by_walked All_cases = all_bodies all h
    by_walked (Of_con con) = bodies_at con all h
walked_have (Int_op n) uses h = tt
walked_have (Unit_op) uses h = tt
walked_have (Fun_op f) uses h = tt
walked_have (Copy_op x) uses h = tt
walked_have (Arith_op o x y) uses h = tt
walked_have (New_op con fields) uses h = tt
walked_have (Read_op x con f) uses h = tt
walked_have (Write_op x con f y) uses h = tt
walked_have (Retag_op x old new) uses h = tt
walked_have (Call_op f args) uses h = tt
walked_have (Give_op x y) uses h = tt
walked_have (Take_op x y) uses h = tt
walked_have (New_lock_op guarded) uses h = tt
walked_have (Acquire_op l) uses h = tt
walked_have (Release_op l) uses h = tt
walked_have (Spawn_op f x) uses h = tt
walked_have (Print_op x) uses h = tt

-- ---- where there is no case there is nothing to join

abbrev pub JoinFits : ScriptCases → List (Atom ℕ) → Type 0
JoinFits No_script_cases join = join ≡ []
JoinFits (More_script_cases c rest) join = Unit {0}

module _ (p : Program) where
  no_bodies : {numbered : Bool} {bodies : List Body} → CasesSpelled p numbered bodies No_script_cases → bodies ≡ []
  no_bodies Cases_end = refl

  some_walked : (c : Case) (rest known : List Case) → map body_of (walked_cases (c ∷ rest) known) ≡ [] → ⊥
  some_walked c rest [] e = cc
  some_walked c rest (k ∷ known) e = cc

  pub joins_fit : (op : Op) (uses : Option (Atom ℕ)) (cs : ScriptCases) (join : List (Atom ℕ)) → OpCases op → op_branches op ≡ true → CasesSpelled p (has_number op uses) (walked_bodies op uses) cs → JoinFits cs join
  joins_fit op uses (More_script_cases c rest) join h is walked = tt
  joins_fit op uses No_script_cases join h is walked = absurd (none op h is (no_bodies walked))
    where
      none : (o : Op) → OpCases o → op_branches o ≡ true → walked_bodies o uses ≡ [] → ⊥
      none (If_op test one two giving) k i e = cc
      none (Match_op block data_type No_cases giving) (some, k) i e = some
      none (Match_op block data_type (More_cases c rest) giving) k i e = some_walked c (case_list rest) (known_cases uses (c ∷ case_list rest)) e
      none (Int_op n) k i e = cc
      none (Unit_op) k i e = cc
      none (Fun_op f) k i e = cc
      none (Copy_op x) k i e = cc
      none (Arith_op o x y) k i e = cc
      none (New_op con fields) k i e = cc
      none (Read_op x con f) k i e = cc
      none (Write_op x con f y) k i e = cc
      none (Retag_op x old new) k i e = cc
      none (Call_op f args) k i e = cc
      none (Give_op x y) k i e = cc
      none (Take_op x y) k i e = cc
      none (New_lock_op guarded) k i e = cc
      none (Acquire_op l) k i e = cc
      none (Release_op l) k i e = cc
      none (Spawn_op f x) k i e = cc
      none (Print_op x) k i e = cc

-- ---- a program that was read

pub some_at : {A : Type 0} (xs : List A) (k : ℕ) → k < length xs → (x : A) × (slice_get xs k ≡ Some x)
some_at [] k h = absurd (omega arith)
some_at (x ∷ xs) zero h = (x, refl)
some_at (x ∷ xs) (suc k) h = some_at xs k (omega arith)

module _ (p : Program) (S : Scoped p) where
  some_case : (d : ℕ) (all : Cases) → d < length p.varieties → AreAll p d (case_cons all) → SomeCase all
  some_case d No_cases h cons =
      let v = some_at p.varieties d h in
      let is = S.varieties d v.0 v.1 in
      let con = some_at v.0.cons 0 is.some in
      let one : 0 ≡ 1 = cons.once con.0 (is.only 0 con.0 con.1) in
      absurd (omega (arith, one))
  some_case d (More_cases c rest) h cons = tt

  module _ (spelling : List (List ℕ)) where
    mutual
      pub body_cases : (scope : Scope) (n : ℕ) (body : Body) → IsBody p spelling scope n body → BodyCases body
      body_cases scope n (The_body all value place) h = commands_cases scope n value all h

      commands_cases : (scope : Scope) (n value : ℕ) (all : Commands) → AreCommands p spelling scope n value all → HasCases all
      commands_cases scope n value No_commands h = tt
      commands_cases scope n value (More_commands (The_command to op place) rest) ((same, is), more) =
          (op_cases scope n to op is, commands_cases (with_bound p spelling scope (The_command to op place)) (after_command n (The_command to op place)) value rest more)

      op_cases : (scope : Scope) (n to : ℕ) (op : Op) → IsOp p spelling scope n to op → OpCases op
      op_cases scope n to (If_op test one two giving) h = (body_cases scope n one h.1, body_cases scope (names_after n one) two h.2)
      op_cases scope n to (Match_op block d all giving) h = (some_case d all h.1 h.2, all_cases scope n all h.3)
      op_cases scope n to (Int_op k) h = tt
      op_cases scope n to (Unit_op) h = tt
      op_cases scope n to (Fun_op f) h = tt
      op_cases scope n to (Copy_op x) h = tt
      op_cases scope n to (Arith_op o x y) h = tt
      op_cases scope n to (New_op con fields) h = tt
      op_cases scope n to (Read_op x con f) h = tt
      op_cases scope n to (Write_op x con f y) h = tt
      op_cases scope n to (Retag_op x old new) h = tt
      op_cases scope n to (Call_op f args) h = tt
      op_cases scope n to (Give_op x y) h = tt
      op_cases scope n to (Take_op x y) h = tt
      op_cases scope n to (New_lock_op guarded) h = tt
      op_cases scope n to (Acquire_op l) h = tt
      op_cases scope n to (Release_op l) h = tt
      op_cases scope n to (Spawn_op f x) h = tt
      op_cases scope n to (Print_op x) h = tt

      all_cases : (scope : Scope) (n : ℕ) (all : Cases) → AreCases p spelling scope n all → AllCases all
      all_cases scope n No_cases h = tt
      all_cases scope n (More_cases (The_case con body) rest) (one, more) = (body_cases scope n body one, all_cases scope (after_case n (The_case con body)) rest more)

  pub fun_cases : (k : ℕ) (f : Fun) → slice_get p.funs k ≡ Some f → BodyCases f.body
  fun_cases k f e = let is = S.funs k f e in body_cases f.spelling (names_below is.sig.count) is.sig.count f.body is.body
