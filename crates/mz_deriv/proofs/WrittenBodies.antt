-- Bodies as they are read: the names that are bound in them, and those of the bodies that a command walks.
use Rattle.std.proofs.Common.{◌≡◌, inl, inr, ◌==◌, ℕ, zero, suc, ◌+◌, ◌<◌, ◌≤◌, Bool, true, false, List, [], ◌∷◌, map, Option, Some, None, sym, subst, arith}
use Rattle.std.specs.Prelude.{if◌then◌else◌}
use Rattle.std.specs.List.{list_any, range_with_len}
use Rattle.mz_tree.specs.Plain.{Atom, Block_type, Has_atom, Same_atom}
use Rattle.mz_tree.specs.Programs.{Program}
use Rattle.mz_tree.specs.Code.{Op, Command, Commands, Case, Cases, Body, If_op, Match_op, The_command, No_commands, More_commands, The_case, No_cases, More_cases, The_body, to_of, op_of, body_of, con_of, commands_in, command_list, case_list}
use Rattle.mz_tree.specs.Scoped.{Scope, IsBound, Bound, names_below, names_after, after_commands, after_command, after_op, after_cases, after_case, with_bound, IsBody, AreCommands, IsCommand, IsOp, AreCases}
use Rattle.mz_perm.specs.Lists.{In}
use Rattle.mz_flow.specs.Branches.{cases_at, known_cases, walked_cases, walked_bodies}
use Rattle.mz_deriv.specs.Spelled.{IsNumber}
use Rattle.mz_deriv.proofs.Membership.{in_image}
use Rattle.mz_deriv.proofs.WrittenNames.{either, is_same}
use Rattle.mz_deriv.proofs.WrittenRules.{ScopeNumbers}

-- ---- names that are bound

-- commands bind more and more names
mutual
  pub grows_body : (n : ℕ) (b : Body) → n ≤ names_after n b
  grows_body n (The_body commands value place) = grows_commands n commands

  grows_commands : (n : ℕ) (cs : Commands) → n ≤ after_commands n cs
  grows_commands n No_commands = omega arith
  grows_commands n (More_commands c rest) = let h = grows_command n c in let k = grows_commands (after_command n c) rest in omega (arith, h, k)

  pub grows_command : (n : ℕ) (c : Command) → n ≤ after_command n c
  grows_command n (The_command to op place) = let h = grows_op n op in omega (arith, h)

  grows_op : (n : ℕ) (op : Op) → n ≤ after_op n op
  grows_op n (If_op test one two giving) = let h = grows_body n one in let k = grows_body (names_after n one) two in omega (arith, h, k)
  grows_op n (Match_op block d cases giving) = grows_cases n cases
  grows_op n op = omega arith

  grows_cases : (n : ℕ) (cs : Cases) → n ≤ after_cases n cs
  grows_cases n No_cases = omega arith
  grows_cases n (More_cases one rest) = let h = grows_case n one in let k = grows_cases (after_case n one) rest in omega (arith, h, k)

  grows_case : (n : ℕ) (c : Case) → n ≤ after_case n c
  grows_case n (The_case con body) = grows_body n body

below_from : (a n x : ℕ) → IsBound (map (λ m. record { name = m; function = None }) (range_with_len a n)) x → x < a + n
below_from a zero x o = absurd (cc)
below_from a (suc n) x o = elim (either (a == x) (list_any (λ (b : Bound). b.name == x) (map (λ m. record { name = m; function = None }) (range_with_len (a + 1) n))) o) [
  | inl e ↦ (let q = is_same a x e in omega (arith, q))
  | inr q ↦ (let r = below_from (a + 1) n x q in omega (arith, r))
]

-- the names below a small number are numbers
pub first_names : (n : ℕ) → n ≤ 256 → ScopeNumbers (names_below n)
first_names n h x o = let r = below_from 0 n x o in omega (arith, h, r)

-- and with one more they are
more_names : (p : Program) (spelling : List (List ℕ)) (scope : Scope) (c : Command) → IsNumber (to_of c) → ScopeNumbers scope → ScopeNumbers (with_bound p spelling scope c)
more_names p spelling scope (The_command to op place) h k x o = elim (either (to == x) (list_any (λ (b : Bound). b.name == x) scope) o) [
  | inl e ↦ subst IsNumber (is_same to x e) h
  | inr q ↦ k x q
]

module _ (p : Program) (spelling : List (List ℕ)) where
  -- a command as it is read, among the 256 names of its function
  pub record IsRead (c : Command) : Type 0 where
    pub scope : Scope
    pub before : ℕ
    pub bound : ScopeNumbers scope
    pub read : IsCommand p spelling scope before c
    pub few : after_command before c ≤ 256

  abbrev pub AreRead : List Command → Type 0
  AreRead commands = (c : Command) → In c commands → IsRead c

  pub record BodyRead (b : Body) : Type 0 where
    pub scope : Scope
    pub before : ℕ
    pub bound : ScopeNumbers scope
    pub read : IsBody p spelling scope before b
    pub few : names_after before b ≤ 256

  -- its name is a number, and what it does is read
  pub to_number : (c : Command) → IsRead c → IsNumber (to_of c)
  to_number (The_command to op place) r = let e = r.read.0 in let h = r.few in omega (arith, e, h)

  pub op_read : (c : Command) (r : IsRead c) → IsOp p spelling r.scope r.before (to_of c) (op_of c)
  op_read (The_command to op place) r = r.read.1

  commands_read : (scope : Scope) (n value : ℕ) (cs : Commands) → ScopeNumbers scope → AreCommands p spelling scope n value cs → after_commands n cs ≤ 256 → AreRead (command_list cs)
  commands_read scope n value No_commands k r f c i = absurd i
  commands_read scope n value (More_commands d rest) k r f c (inl e) =
      let h = grows_commands (after_command n d) rest in
      subst IsRead (sym e) (record { scope = scope; before = n; bound = k; read = r.0; few = omega (arith, f, h) })
  commands_read scope n value (More_commands d rest) k r f c (inr i) =
      let h = grows_commands (after_command n d) rest in
      let one : IsRead d = record { scope = scope; before = n; bound = k; read = r.0; few = omega (arith, f, h) } in
      commands_read (with_bound p spelling scope d) (after_command n d) value rest (more_names p spelling scope d (to_number d one) k) r.1 f c i

  pub body_commands : (b : Body) → BodyRead b → AreRead (commands_in b)
  body_commands (The_body cs value place) r = commands_read r.scope r.before value cs r.bound r.read r.few

  -- ---- the bodies that are walked

  abbrev pub BodiesRead : List Body → Type 0
  BodiesRead bodies = (b : Body) → In b bodies → BodyRead b

  cases_read : (scope : Scope) (n : ℕ) (cs : Cases) → ScopeNumbers scope → AreCases p spelling scope n cs → after_cases n cs ≤ 256 → (c : Case) → In c (case_list cs) → BodyRead (body_of c)
  cases_read scope n No_cases k r f c i = absurd i
  cases_read scope n (More_cases (The_case con body) rest) k r f c (inl e) =
      let h = grows_cases (names_after n body) rest in
      subst (λ z. BodyRead (body_of z)) (sym e) (record { scope = scope; before = n; bound = k; read = r.0; few = omega (arith, f, h) })
  cases_read scope n (More_cases (The_case con body) rest) k r f c (inr i) = cases_read scope (names_after n body) rest k r.1 f c i

  found_case : (con : ℕ) (all : List Case) (c : Case) → In c (cases_at con all) → In c all
  found_case con [] c i = absurd i
  found_case con (d ∷ all) c i = of_test (con_of d == con) (λ j. found_case con all c j) i
    where
      of_test : (b : Bool) → (In c (cases_at con all) → In c all) → In c (if b then d ∷ cases_at con all else cases_at con all) → In c (d ∷ all)
      of_test true more (inl e) = inl e
      of_test true more (inr j) = inr (more j)
      of_test false more j = inr (more j)

  -- each body that is walked is one of the command's
  walked_in : (all known : List Case) (b : Body) → ((c : Case) → In c known → In c all) → In b (map body_of (walked_cases all known)) → (c : Case) × In c all × (b ≡ body_of c)
  walked_in all [] b h i = in_image body_of b all i
  walked_in all (k ∷ known) b h i = let r = in_image body_of b (k ∷ known) i in (r.0, h r.0 r.1, r.2)

  known_in : (uses : Option (Atom ℕ)) (all : List Case) (c : Case) → In c (known_cases uses all) → In c all
  known_in None all c i = absurd i
  known_in (Some (Has_atom x (Block_type con fields adopts))) all c i = found_case con all c i
  known_in (Some (Has_atom x t)) all c i = absurd i
  known_in (Some (Same_atom x y)) all c i = absurd i

  bodies_read : (scope : Scope) (n to : ℕ) (op : Op) (uses : Option (Atom ℕ)) → ScopeNumbers scope → IsOp p spelling scope n to op → after_op n op ≤ 256 → BodiesRead (walked_bodies op uses)
  bodies_read scope n to (If_op test one two giving) uses k o f b (inl e) =
      let h = grows_body (names_after n one) two in
      subst BodyRead (sym e) (record { scope = scope; before = n; bound = k; read = o.1; few = omega (arith, f, h) })
  bodies_read scope n to (If_op test one two giving) uses k o f b (inr (inl e)) = subst BodyRead (sym e) (record { scope = scope; before = names_after n one; bound = k; read = o.2; few = f })
  bodies_read scope n to (If_op test one two giving) uses k o f b (inr (inr i)) = absurd i
  bodies_read scope n to (Match_op block d cases giving) uses k o f b i =
      let r = walked_in (case_list cases) (known_cases uses (case_list cases)) b (known_in uses (case_list cases)) i in
      subst BodyRead (sym r.2) (cases_read scope n cases k o.3 f r.0 r.1)
  bodies_read scope n to op uses k o f b i = absurd i

  pub command_bodies : (c : Command) (uses : Option (Atom ℕ)) → IsRead c → BodiesRead (walked_bodies (op_of c) uses)
  command_bodies (The_command to op place) uses r = let h = r.few in bodies_read r.scope r.before to op uses r.bound r.read.1 (omega (arith, h))
