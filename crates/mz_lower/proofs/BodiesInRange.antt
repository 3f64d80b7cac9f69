-- What is laid for a body whose names fit is in range.
use Rattle.std.proofs.Common.{◌≡◌, ◌<◌, ◌≤◌, ℕ, suc, ◌+◌, List, [], ◌∷◌, ◌++◌, length, refl, ap, subst, arith}
use Rattle.mz_tree.specs.declared.types.Place.{Place}
use Rattle.mz_tree.specs.Code.{Op, Int_op, Unit_op, Fun_op, Copy_op, Arith_op, New_op, Read_op, Write_op, Retag_op, If_op, Match_op, Call_op, Give_op, Take_op, New_lock_op, Acquire_op, Release_op, Spawn_op, Print_op, Command, The_command, Commands, No_commands, More_commands, Case, Cases, No_cases, More_cases, The_case, Body, The_body, result_of}
use Rattle.mz_words.specs.declared.code.Instr.{Instr}
use Rattle.mz_lower.specs.Layout.{size_body, size_commands, size_command, size_op, size_cases, size_case, lay_body, lay_commands, lay_command, lay_op, lay_cases, lay_case, lay_branch, branch_end, cons_in, targets_in}
use Rattle.mz_words.specs.InRange.{RegistersBelow, TargetsAhead, AllInRange}
use Rattle.mz_lower.proofs.Addresses.{long_body, long_command, long_case, long_branch}

-- each name that a body uses is below n, and no block is too long
abbrev mutual
  -- each name that a body uses is below n, and so is its value
  pub BodyFits : ℕ → Body → Type 0
  BodyFits n (The_body commands value place) = CommandsFit n commands × (value < n)

  pub CommandsFit : ℕ → Commands → Type 0
  CommandsFit n No_commands = Unit {0}
  CommandsFit n (More_commands c rest) = CommandFits n c × CommandsFit n rest

  pub CommandFits : ℕ → Command → Type 0
  CommandFits n (The_command to op place) = (to < n) × OpFits n op

  pub OpFits : ℕ → Op → Type 0
  OpFits n (Int_op m) = Unit {0}
  OpFits n Unit_op = Unit {0}
  OpFits n (Fun_op f) = Unit {0}
  OpFits n (Copy_op x) = x < n
  OpFits n (Arith_op operator x y) = (x < n) × (y < n)
  OpFits n (New_op con ys) = RegistersBelow n ys × (length ys ≤ 32)
  OpFits n (Read_op x con i) = x < n
  OpFits n (Write_op x con i y) = (x < n) × (y < n)
  OpFits n (Retag_op x old new) = x < n
  OpFits n (If_op x one two giving) = (x < n) × BodyFits n one × BodyFits n two
  OpFits n (Match_op x d cases giving) = (x < n) × CasesFit n cases
  OpFits n (Call_op callee args) = (callee < n) × RegistersBelow n args
  OpFits n (Give_op x y) = (x < n) × (y < n)
  OpFits n (Take_op x y) = (x < n) × (y < n)
  OpFits n (New_lock_op guarded) = Unit {0}
  OpFits n (Acquire_op x) = x < n
  OpFits n (Release_op x) = x < n
  OpFits n (Spawn_op callee arg) = (callee < n) × (arg < n)
  OpFits n (Print_op x) = x < n

  pub CasesFit : ℕ → Cases → Type 0
  CasesFit n No_cases = Unit {0}
  CasesFit n (More_cases c rest) = CaseFits n c × CasesFit n rest

  pub CaseFits : ℕ → Case → Type 0
  CaseFits n (The_case con body) = BodyFits n body

-- two lists in range, one behind the other
pub range_append : (n address last m : ℕ) (a b : List Instr) → length a ≡ m → AllInRange n address last a → AllInRange n (address + m) last b → AllInRange n address last (a ++ b)
range_append n address last m [] b e h k = let q : address + m ≡ address = omega (arith, e) in subst (λ x. AllInRange n x last b) q k
range_append n address last m (i ∷ a) b e h k =
    let q : address + m ≡ address + 1 + length a = omega (arith, e) in
    (h.0, range_append n (address + 1) last (length a) a b refl h.1 (subst (λ x. AllInRange n x last b) q k))

-- the value of a body that fits
pub value_fits : (n : ℕ) (b : Body) → BodyFits n b → result_of b < n
value_fits n (The_body commands value place) f = f.1

targets_many : (address : ℕ) (cs : Cases) → length (cons_in cs) ≡ length (targets_in address cs)
targets_many address No_cases = refl
targets_many address (More_cases (The_case con body) rest) = ap suc (targets_many (address + (size_body body + 2)) rest)

targets_ahead : (address at last : ℕ) (cs : Cases) → address < at → at + size_cases cs ≤ last → TargetsAhead address last (targets_in at cs)
targets_ahead address at last No_cases l h = tt
targets_ahead address at last (More_cases (The_case con body) rest) l h = (l, omega (arith, h), targets_ahead address (at + (size_body body + 2)) last rest (omega (arith, l)) (omega (arith, h)))

-- a branch whose body is in range, with the two instructions that end it
branch_range : (n address to last : ℕ) (place : Place) (end : ℕ) (b : Body) → to < n → result_of b < n → AllInRange n address last (lay_body address b) → address + (size_body b + 2) ≤ end → end ≤ last → AllInRange n address last (lay_body address b ++ branch_end place to (result_of b) end)
branch_range n address to last place end b t v h e l =
    range_append n address last (size_body b) (lay_body address b) (branch_end place to (result_of b) end) (long_body address b) h
    ((t, v), ((omega (arith, e), l), tt))

mutual
  -- what is laid for a body that fits is in range, where the function's last instruction is behind it
  pub body_range : (n address last : ℕ) (b : Body) → BodyFits n b → address + size_body b ≤ last → AllInRange n address last (lay_body address b)
  body_range n address last (The_body commands value place) f l = commands_range n address last commands f.0 l

  commands_range : (n address last : ℕ) (cs : Commands) → CommandsFit n cs → address + size_commands cs ≤ last → AllInRange n address last (lay_commands address cs)
  commands_range n address last No_commands f l = tt
  commands_range n address last (More_commands c rest) f l =
      range_append n address last (size_command c) (lay_command address c) (lay_commands (address + size_command c) rest) (long_command address c)
      (command_range n address last c f.0 (omega (arith, l))) (commands_range n (address + size_command c) last rest f.1 (omega (arith, l)))

  command_range : (n address last : ℕ) (c : Command) → CommandFits n c → address + size_command c ≤ last → AllInRange n address last (lay_command address c)
  command_range n address last (The_command to op place) f l = op_range n address to last place op f.0 f.1 l

  op_range : (n address to last : ℕ) (place : Place) (op : Op) → to < n → OpFits n op → address + size_op op ≤ last → AllInRange n address last (lay_op address to place op)
  op_range n address to last place (Int_op m) t f l = (t, tt)
  op_range n address to last place Unit_op t f l = (t, tt)
  op_range n address to last place (Fun_op m) t f l = (t, tt)
  op_range n address to last place (Copy_op x) t f l = ((t, f), tt)
  op_range n address to last place (Arith_op operator x y) t f l = ((t, f.0, f.1), tt)
  op_range n address to last place (New_op con ys) t f l = ((t, f.0, f.1), tt)
  op_range n address to last place (Read_op x con i) t f l = ((t, f), tt)
  op_range n address to last place (Write_op x con i y) t f l = ((t, f.0, f.1), tt)
  op_range n address to last place (Retag_op x old new) t f l = ((t, f), tt)
  op_range n address to last place (If_op x one two giving) t f l =
      let end = address + size_op (If_op x one two giving) in (
        (f.0, omega arith, omega (arith, l)),
        range_append n (address + 1) last (size_body one + 2) (lay_branch (address + 1) to place end one) (lay_branch (address + 1 + (size_body one + 2)) to place end two) (long_branch (address + 1) to place end one)
            (branch_range n (address + 1) to last place end one t (value_fits n one f.1) (body_range n (address + 1) last one f.1 (omega (arith, l))) (omega arith) (omega (arith, l)))
            (branch_range n (address + 1 + (size_body one + 2)) to last place end two t (value_fits n two f.2) (body_range n (address + 1 + (size_body one + 2)) last two f.2 (omega (arith, l))) (omega arith) (omega (arith, l))),
      )
  op_range n address to last place (Match_op x d cases giving) t f l = (
    (f.0, targets_many (address + 1) cases, targets_ahead address (address + 1) last cases (omega arith) (omega (arith, l))),
    cases_range n (address + 1) to last place (address + (1 + size_cases cases)) cases t f.1 (omega arith) (omega (arith, l)),
  )
  op_range n address to last place (Call_op callee args) t f l = ((t, f.0, f.1), tt)
  op_range n address to last place (Give_op x y) t f l = ((t, f.0, f.1), tt)
  op_range n address to last place (Take_op x y) t f l = ((t, f.0, f.1), tt)
  op_range n address to last place (New_lock_op guarded) t f l = (t, tt)
  op_range n address to last place (Acquire_op x) t f l = ((t, f), tt)
  op_range n address to last place (Release_op x) t f l = ((t, f), tt)
  op_range n address to last place (Spawn_op callee arg) t f l = ((t, f.0, f.1), tt)
  op_range n address to last place (Print_op x) t f l = ((t, f), tt)

  cases_range : (n address to last : ℕ) (place : Place) (end : ℕ) (cs : Cases) → to < n → CasesFit n cs → address + size_cases cs ≤ end → end ≤ last → AllInRange n address last (lay_cases address to place end cs)
  cases_range n address to last place end No_cases t f e l = tt
  cases_range n address to last place end (More_cases c rest) t f e l =
      range_append n address last (size_case c) (lay_case address to place end c) (lay_cases (address + size_case c) to place end rest) (long_case address to place end c)
      (case_range n address to last place end c t f.0 (omega (arith, e)) l) (cases_range n (address + size_case c) to last place end rest t f.1 (omega (arith, e)) l)

  case_range : (n address to last : ℕ) (place : Place) (end : ℕ) (c : Case) → to < n → CaseFits n c → address + size_case c ≤ end → end ≤ last → AllInRange n address last (lay_case address to place end c)
  case_range n address to last place end (The_case con body) t f e l = branch_range n address to last place end body t (value_fits n body f) (body_range n address last body f (omega (arith, e, l))) e l
