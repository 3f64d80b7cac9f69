-- What stands in the code where a frame stands.
use Rattle.std.proofs.Common.{◌≡◌, ◌==◌, ◌<◌, inl, inr, ℕ, zero, suc, ◌+◌, List, [], ◌∷◌, ◌++◌, length, Option, Some, None, Bool, true, false, refl, sym, ap, ◌∙◌, subst, arith, length-append, append_assoc, eq-eqb, ne_eqb}
use Rattle.std.specs.Prelude.{slice_get, if◌then◌else◌}
use Rattle.std.proofs.Math.Seq.{get_or-append_seam}
use Rattle.std.proofs.lemmas.Bool.{cases_eq}
use Rattle.std.proofs.lemmas.Option.{slice_get-get_or, slice_get_past}
use Rattle.mz_tree.specs.Plain.{Atom}
use Rattle.mz_tree.specs.Programs.{Program, Fun, Sig}
use Rattle.mz_words.specs.declared.code.Start.{Start}
use Rattle.mz_tree.specs.declared.types.Place.{Place}
use Rattle.mz_tree.specs.Code.{Op, If_op, Match_op, Command, The_command, Commands, No_commands, More_commands, Case, Cases, No_cases, More_cases, The_case, Body, The_body, case_list, result_of, brace_of}
use Rattle.mz_words.specs.declared.code.Act.TheVariants.{Copy, Jump, Return, Branch, Switch}
use Rattle.mz_words.specs.declared.code.Instr.{Instr}
use Rattle.mz_words.specs.Steps.{case_at}
use Rattle.mz_tree.proofs.Chains.{commands_of_list}
use Rattle.mz_named.specs.Machine.{Rest, Level, rest_of, body_in, body_for}
use Rattle.mz_lower.specs.Layout.{instr, size_body, size_commands, size_command, size_op, size_cases, size_case, lay_body, lay_commands, lay_command, lay_op, lay_branch, lay_cases, lay_case, branch_end, cons_in, targets_in, size_fun, lay_fun, lay_funs, start_of, starts_of, code_of}
use Rattle.mz_lower.specs.Addresses.{HasAt, StandsAt, Before_return, Before_join, BindsBelow, CasesBelow, CommandBelow, CommandsBelow, RestBelow, size_rest, lay_rest}

-- of two lists that stand there one behind the other the first stands there
pub has_front : (code : List Instr) (address : ℕ) (a b : List Instr) → HasAt code address (a ++ b) → HasAt code address a
has_front code address [] b h = tt
has_front code address (i ∷ a) b h = (h.0, has_front code (address + 1) a b h.1)

-- and the second stands behind it
pub has_back : (code : List Instr) (address n : ℕ) (a b : List Instr) → length a ≡ n → HasAt code address (a ++ b) → HasAt code (address + n) b
has_back code address n [] b e h = let q : address ≡ address + n = omega (arith, e) in subst (λ m. HasAt code m b) q h
has_back code address n (i ∷ a) b e h =
    let q : address + 1 + length a ≡ address + n = omega (arith, e) in
    subst (λ m. HasAt code m b) q (has_back code (address + 1) (length a) a b refl h.1)

mutual
  -- what is laid is as long as its size says
  pub long_body : (address : ℕ) (b : Body) → length (lay_body address b) ≡ size_body b
  long_body address (The_body commands value brace) = long_commands address commands

  long_commands : (address : ℕ) (cs : Commands) → length (lay_commands address cs) ≡ size_commands cs
  long_commands address No_commands = refl
  long_commands address (More_commands c rest) = omega (arith, length-append (lay_command address c) (lay_commands (address + size_command c) rest), long_command address c, long_commands (address + size_command c) rest)

  pub long_command : (address : ℕ) (c : Command) → length (lay_command address c) ≡ size_command c
  long_command address (The_command to op place) = long_op address to place op

  long_op : (address to : ℕ) (place : Place) (op : Op) → length (lay_op address to place op) ≡ size_op op
  long_op address to place (If_op test one two giving) =
      let end = address + size_op (If_op test one two giving) in
      omega (
        arith,
        length-append (lay_branch (address + 1) to place end one) (lay_branch (address + 1 + (size_body one + 2)) to place end two),
        length-append (lay_body (address + 1) one) (branch_end place to (result_of one) end),
        long_body (address + 1) one,
        length-append (lay_body (address + 1 + (size_body one + 2)) two) (branch_end place to (result_of two) end),
        long_body (address + 1 + (size_body one + 2)) two,
      )
  long_op address to place (Match_op x d cases giving) = omega (arith, long_cases (address + 1) to place (address + (1 + size_cases cases)) cases)
  long_op address to place op = refl

  long_cases : (address to : ℕ) (place : Place) (end : ℕ) (cs : Cases) → length (lay_cases address to place end cs) ≡ size_cases cs
  long_cases address to place end No_cases = refl
  long_cases address to place end (More_cases c rest) = omega (arith, length-append (lay_case address to place end c) (lay_cases (address + size_case c) to place end rest), long_case address to place end c, long_cases (address + size_case c) to place end rest)

  pub long_case : (address to : ℕ) (place : Place) (end : ℕ) (c : Case) → length (lay_case address to place end c) ≡ size_case c
  long_case address to place end (The_case con body) = omega (arith, length-append (lay_body address body) (branch_end place to (result_of body) end), long_body address body)

-- a branch has two instructions more than its body
pub long_branch : (address to : ℕ) (place : Place) (end : ℕ) (b : Body) → length (lay_branch address to place end b) ≡ size_body b + 2
long_branch address to place end b = omega (arith, length-append (lay_body address b) (branch_end place to (result_of b) end), long_body address b)

-- a function has one more than its body
pub long_fun : (address : ℕ) (f : Fun) → length (lay_fun address f) ≡ size_fun f
long_fun address f = omega (arith, length-append (lay_body address f.body) (instr (brace_of f.body) (Return (result_of f.body)) ∷ []), long_body address f.body)

pub some_inj : {A : Type 0} {a b : A} → Some a ≡ Some b → a ≡ b
some_inj e = cc

pub none_some : {A : Type 0} {o : Option A} {a : A} → o ≡ None → o ≡ Some a → ⊥
none_some e f = absurd (cc)

-- a test that holds
pub if_true : {A : Type 0} (b : Bool) → b ≡ true → (x y : A) → (if b then x else y) ≡ x
if_true b e x y = ap (λ c. if c then x else y) e

-- a test that fails
pub if_false : {A : Type 0} (b : Bool) → b ≡ false → (x y : A) → (if b then x else y) ≡ y
if_false b e x y = ap (λ c. if c then x else y) e

-- what is left of a body
abbrev pub remaining : List Command → ℕ → Rest
remaining commands value = record { commands = commands; value = value }

-- all of a body is left where it begins
pub rest_laid : (address : ℕ) (body : Body) → lay_body address body ≡ lay_rest address (rest_of body)
rest_laid address (The_body commands value brace) = ap (lay_commands address) (sym (commands_of_list commands))

-- all of a body has its size
pub rest_size : (body : Body) → size_body body ≡ size_rest (rest_of body)
rest_size (The_body commands value brace) = ap size_commands (sym (commands_of_list commands))

-- and its names fit where those of the body do
pub rest_binds : (n : ℕ) (body : Body) → BindsBelow n body → RestBelow n (rest_of body)
rest_binds n (The_body commands value brace) b = subst (λ (x : Commands). CommandsBelow n x) (sym (commands_of_list commands)) b

-- the next command's code, and the place behind it
pub head_of : (code : List Instr) (n address : ℕ) (c : Command) (rest : List Command) (value : ℕ) (outer : List Level)
    → StandsAt code n address (remaining (c ∷ rest) value) outer
    → HasAt code address (lay_command address c) × CommandBelow n c × StandsAt code n (address + size_command c) (remaining rest value) outer
head_of code n address c rest value outer (Before_return _ _ place h b r) = (
  has_front code address (lay_command address c) _ h,
  b.0,
  Before_return (address + size_command c) (remaining rest value) place (has_back code address (size_command c) (lay_command address c) _ (long_command address c) h) b.1
      (subst (λ m. slice_get code m ≡ Some (instr place (Return value))) (omega arith) r),
)
head_of code n address c rest value outer (Before_join _ end to place _ after outer2 h b l p j s) = (
  has_front code address (lay_command address c) _ h,
  b.0,
  Before_join (address + size_command c) end to place (remaining rest value) after outer2 (has_back code address (size_command c) (lay_command address c) _ (long_command address c) h) b.1 l
      (subst (λ m. slice_get code m ≡ Some (instr place (Copy to value))) (omega arith) p)
      (subst (λ m. slice_get code m ≡ Some (instr place (Jump end))) (omega arith) j) s,
)

-- a branch that is laid stands for its body
pub branch_stands : (code : List Instr) (n address to : ℕ) (place : Place) (end : ℕ) (body : Body) (after : Rest) (outer : List Level) → HasAt code address (lay_branch address to place end body)
    → BindsBelow n body → to < n → StandsAt code n end after outer → StandsAt code n address (rest_of body) (record { to = to; after = after } ∷ outer)
branch_stands code n address to place end body after outer h b l s =
    let back = has_back code address (size_body body) (lay_body address body) (branch_end place to (result_of body) end) (long_body address body) h in
    Before_join address end to place (rest_of body) after outer (subst (λ (x : List Instr). HasAt code address x) (rest_laid address body) (has_front code address (lay_body address body) _ h)) (rest_binds n body b) l
    (subst (λ m. slice_get code (address + m) ≡ Some (instr place (Copy to (result_of body)))) (rest_size body) back.0)
    (subst (λ m. slice_get code (address + m + 1) ≡ Some (instr place (Jump end))) (rest_size body) back.1.0) s

-- an If: its instruction, and where its branches stand
pub if_place : (code : List Instr) (n address to test : ℕ) (one two : Body) (giving : List (Atom ℕ)) (place : Place) (rest : List Command) (value : ℕ) (outer : List Level)
    → StandsAt code n address (remaining (The_command to (If_op test one two giving) place ∷ rest) value) outer
    → (slice_get code address ≡ Some (instr place (Branch test (address + 1 + (size_body one + 2)))))
    × StandsAt code n (address + 1) (rest_of one) (record { to = to; after = remaining rest value } ∷ outer)
    × StandsAt code n (address + 1 + (size_body one + 2)) (rest_of two) (record { to = to; after = remaining rest value } ∷ outer)
if_place code n address to test one two giving place rest value outer s =
    let h = head_of code n address (The_command to (If_op test one two giving) place) rest value outer s in
    let end = address + size_op (If_op test one two giving) in
    let first = lay_branch (address + 1) to place end one in
    let second = lay_branch (address + 1 + (size_body one + 2)) to place end two in (
      h.0.0,
      branch_stands code n (address + 1) to place end one (remaining rest value) outer (has_front code (address + 1) first second h.0.1) h.1.1.0 h.1.0 h.2,
      branch_stands code n (address + 1 + (size_body one + 2)) to place end two (remaining rest value) outer (has_back code (address + 1) (size_body one + 2) first second (long_branch (address + 1) to place end one) h.0.1) h.1.1.1 h.1.0 h.2,
    )

-- the case of a constructor: the target that its tag has, and where its body stands
pub record CasePlace (code : List Instr) (n address : ℕ) (con to : ℕ) (cases : Cases) (body : Body) (after : Rest) (outer : List Level) : Type 0 where
  pub target : ℕ
  pub found : case_at (cons_in cases) (targets_in address cases) (con + 1) ≡ Some target
  pub stands : StandsAt code n target (rest_of body) (record { to = to; after = after } ∷ outer)

-- by going along the cases: those before it fill the code up to where it stands
pub case_place : (code : List Instr) (n address con to : ℕ) (place : Place) (end : ℕ) (cases : Cases) (body : Body) (after : Rest) (outer : List Level)
    → HasAt code address (lay_cases address to place end cases) → CasesBelow n cases → to < n → StandsAt code n end after outer
    → body_for con (case_list cases) ≡ Some body → CasePlace code n address con to cases body after outer
case_place code n address con to place end No_cases body after outer h b l s e = absurd (cc)
case_place code n address con to place end (More_cases (The_case other first) rest) body after outer h b l s e = elim (cases_eq other con) [
  | inl q ↦ (let same : first ≡ body = some_inj (sym (ap (λ z. body_in z first (body_for con (case_list rest))) (eq-eqb other con q)) ∙ e) in
      record {
        target = address;
        found = if_true (other + 1 == con + 1) (eq-eqb (other + 1) (con + 1) (omega (arith, q))) (Some address) (case_at (cons_in rest) (targets_in (address + (size_body first + 2)) rest) (con + 1));
        stands = subst (λ (x : Body). StandsAt code n address (rest_of x) (record { to = to; after = after } ∷ outer)) same
            (branch_stands code n address to place end first after outer (has_front code address (lay_branch address to place end first) (lay_cases (address + (size_body first + 2)) to place end rest) h) b.0 l s);
      })
  | inr q ↦ (let later = case_place code n (address + (size_body first + 2)) con to place end rest body after outer back b.1 l s (sym (ap (λ z. body_in z first (body_for con (case_list rest))) (ne_eqb other con q)) ∙ e) in
      record {
        target = later.target;
        found = if_false (other + 1 == con + 1) (ne_eqb (other + 1) (con + 1) (λ z. q (omega (arith, z)))) (Some address) (case_at (cons_in rest) (targets_in (address + (size_body first + 2)) rest) (con + 1)) ∙ later.found;
        stands = later.stands;
      })
]
  where
    back : HasAt code (address + (size_body first + 2)) (lay_cases (address + (size_body first + 2)) to place end rest)
    back = has_back code address (size_body first + 2) (lay_branch address to place end first) (lay_cases (address + (size_body first + 2)) to place end rest) (long_branch address to place end first) h

-- a Match: its instruction, and where the body of a case stands
pub match_place : (code : List Instr) (n address to x d : ℕ) (cases : Cases) (giving : List (Atom ℕ)) (place : Place) (rest : List Command) (value : ℕ) (outer : List Level) (con : ℕ) (body : Body)
    → StandsAt code n address (remaining (The_command to (Match_op x d cases giving) place ∷ rest) value) outer
    → body_for con (case_list cases) ≡ Some body
    → (slice_get code address ≡ Some (instr place (Switch x (cons_in cases) (targets_in (address + 1) cases))))
    × CasePlace code n (address + 1) con to cases body (remaining rest value) outer
match_place code n address to x d cases giving place rest value outer con body s e =
    let h = head_of code n address (The_command to (Match_op x d cases giving) place) rest value outer s in
    (h.0.0, case_place code n (address + 1) con to place (address + (1 + size_cases cases)) cases body (remaining rest value) outer h.0.1 h.1.1 h.1.0 h.2 e)

-- the end of a branch: a Copy and a Jump, and where the command's body goes on
pub record BranchEnd (code : List Instr) (n address value to : ℕ) (after : Rest) (outer : List Level) : Type 0 where
  pub place : Place
  pub end : ℕ
  pub copy : slice_get code address ≡ Some (instr place (Copy to value))
  pub jump : slice_get code (address + 1) ≡ Some (instr place (Jump end))
  pub bound : to < n
  pub stands : StandsAt code n end after outer

-- where nothing is left of a branch its two last instructions follow
pub branch_end_place : (code : List Instr) (n address value : ℕ) (level : Level) (outer : List Level)
    → StandsAt code n address (remaining [] value) (level ∷ outer) → BranchEnd code n address value level.to level.after outer
branch_end_place code n address value level outer (Before_join _ end to place _ after _ h b l p j s) = record {
  place = place;
  end = end;
  copy = subst (λ m. slice_get code m ≡ Some (instr place (Copy to value))) (omega arith) p;
  jump = subst (λ m. slice_get code m ≡ Some (instr place (Jump end))) (omega arith) j;
  bound = l;
  stands = s;
}

-- the end of a function
pub return_place : (code : List Instr) (n address value : ℕ) → StandsAt code n address (remaining [] value) [] → (place : Place) × (slice_get code address ≡ Some (instr place (Return value)))
return_place code n address value (Before_return _ _ place h b r) = (place, subst (λ m. slice_get code m ≡ Some (instr place (Return value))) (omega arith) r)

-- ---- functions

has_all : (pre is : List Instr) → HasAt (pre ++ is) (length pre) is
has_all pre [] = tt
has_all pre (i ∷ is) =
    let within : length pre < length (pre ++ i ∷ is) = omega (arith, length-append pre (i ∷ is)) in
    let here = slice_get-get_or (pre ++ i ∷ is) (length pre) i within ∙ ap Some (get_or-append_seam pre i is i) in
    let n : length (pre ++ i ∷ []) ≡ length pre + 1 = omega (arith, length-append pre (i ∷ [])) in
    let rest' = subst (λ (l : List Instr). HasAt l (length (pre ++ i ∷ [])) is) (append_assoc pre (i ∷ []) is) (has_all (pre ++ i ∷ []) is) in
    (here, subst (λ m. HasAt (pre ++ i ∷ is) m is) n rest')

-- where function f begins, and what stands there
pub record FunPlace (code : List Instr) (starts : List Start) (sigs : List Sig) (f : ℕ) (fun : Fun) : Type 0 where
  pub first : ℕ
  pub found : slice_get starts f ≡ Some (start_of sigs first fun)
  pub stands : HasAt code first (lay_fun first fun)

fun_in : (code : List Instr) (sigs : List Sig) (address : ℕ) (funs : List Fun) (f : ℕ) (fun : Fun) → HasAt code address (lay_funs address funs) → slice_get funs f ≡ Some fun → FunPlace code (starts_of sigs address funs) sigs f fun
fun_in code sigs address [] f fun h e = absurd (none_some (slice_get_past [] f (omega arith)) e)
fun_in code sigs address (one ∷ rest) zero fun h e =
    let same : one ≡ fun = some_inj e in
    record {
      first = address;
      found = ap (λ (x : Fun). Some (start_of sigs address x)) same;
      stands = subst (λ (x : Fun). HasAt code address (lay_fun address x)) same (has_front code address (lay_fun address one) (lay_funs (address + size_fun one) rest) h);
    }
fun_in code sigs address (one ∷ rest) (suc f) fun h e =
    let later = fun_in code sigs (address + size_fun one) rest f fun (has_back code address (size_fun one) (lay_fun address one) (lay_funs (address + size_fun one) rest) (long_fun address one) h) e in
    record { first = later.first; found = later.found; stands = later.stands }

-- each function of a program stands at its first instruction, at the start of its body
pub fun_place : (p : Program) (f : ℕ) (fun : Fun) → slice_get p.funs f ≡ Some fun → FunPlace (code_of p).instrs (code_of p).entries p.sigs f fun
fun_place p f fun e = fun_in (lay_funs 0 p.funs) p.sigs 0 p.funs f fun (has_all [] (lay_funs 0 p.funs)) e

-- at its first instruction all of a function is left
pub body_stands : (code : List Instr) (starts : List Start) (sigs : List Sig) (f : ℕ) (fun : Fun) (q : FunPlace code starts sigs f fun) → BindsBelow (length fun.spelling) fun.body → StandsAt code (length fun.spelling) q.first (rest_of fun.body) []
body_stands code starts sigs f fun q b =
    Before_return q.first (rest_of fun.body) (brace_of fun.body) (subst (λ (x : List Instr). HasAt code q.first x) (rest_laid q.first fun.body) (has_front code q.first (lay_body q.first fun.body) (last_of fun) q.stands)) (rest_binds (length fun.spelling) fun.body b)
    (subst (λ m. slice_get code (q.first + m) ≡ Some (instr (brace_of fun.body) (Return (result_of fun.body)))) (rest_size fun.body) (has_back code q.first (size_body fun.body) (lay_body q.first fun.body) (last_of fun) (long_body q.first fun.body) q.stands).0)
  where
    last_of : Fun → List Instr
    last_of x = instr (brace_of x.body) (Return (result_of x.body)) ∷ []
