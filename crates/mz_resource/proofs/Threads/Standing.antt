-- Where a frame stands, by its script: at a command with a rule, at one that goes on in branches, at the end of a branch, at the
-- end of its body. And what one more name does to shares and environments.
use Rattle.std.specs.Prelude.{if◌then◌else◌}
use Rattle.std.proofs.Common.{◌≡◌, ◌⊎◌, inl, inr, ◌==◌, ℕ, ◌<◌, ◌≤◌, Bool, true, false, List, [], ◌∷◌, map, Option, Some, refl, sym, ap, ◌∙◌, subst, arith}
use Rattle.std.proofs.lemmas.Bool.{cases_eq}
use Rattle.mz_tree.specs.Plain.{Atom, map_atom}
use Rattle.mz_tree.specs.Code.{Command, Commands, Case, Body, The_command, No_commands, More_commands, The_body, to_of, op_of, con_of, body_of, command_list, commands_in, result_of}
use Rattle.mz_decl.specs.Declarations.{Decls}
use Rattle.mz_perm.specs.Using.{UsesUpAll}
use Rattle.mz_perm.specs.Occurrence.{occurs}
use Rattle.mz_modes.specs.Affine.{AffineAtom}
use Rattle.mz_flow.specs.Branches.{cases_at}
use Rattle.mz_deriv.specs.Rules.{Does, Branch, Branches}
use Rattle.mz_deriv.specs.Scripts.{Item, ScriptCases, Do_item, No_script_cases}
use Rattle.mz_deriv.specs.Walks.{joined, in_place_of, Walks, BranchesWalk, Walk_ends, Walk_step, Walk_does, Walk_branches, Branch_walks}
use Rattle.mz_named.specs.Bodies.{body_for, body_in, Binds}
use Rattle.mz_named.specs.Configurations.{Value, Environment, Level}
use Rattle.mz_resource.specs.Names.{AreArgs, CoreBody, CoreChain, CoreCommand, CoreOp, CoreCommands}
use Rattle.mz_resource.specs.Frames.{HasArgs, FrameWalks, Last_walks, Level_walks, Behind}
use Rattle.mz_resource.specs.Following.{AtCommand}
use Rattle.mz_resource.proofs.Meaning.Names.{share_agree, cons_is}
use Rattle.mz_resource.proofs.Meaning.Spending.{true_false}
use Rattle.mz_resource.proofs.Threads.Quiet.{at_only, at_it, at_others}

module _ (D : Decls) (owes : ℕ → List (Atom ℕ)) where
  -- at a command with a rule: the state after it, from which the rest walks
  pub record Doing (R : List (Atom ℕ)) (c : Command) (rest : List Command) (value : ℕ) (outer : List Level) (script : List Item) (scripts : List Behind) : Type 0 where
    pub uses : Option (Atom ℕ)
    pub state : List (Atom ℕ)
    pub items : List Item
    pub script_is : script ≡ Do_item uses No_script_cases [] ∷ items
    pub does : Does D R c uses state
    pub walks : FrameWalks D owes state rest value outer items scripts

  -- at one that goes on in branches
  pub record Branching (R : List (Atom ℕ)) (c : Command) (rest : List Command) (value : ℕ) (outer : List Level) (script : List Item) (scripts : List Behind) : Type 0 where
    pub uses : Option (Atom ℕ)
    pub cases : ScriptCases
    pub branches : List Branch
    pub join : List (Atom ℕ)
    pub names : List ℕ
    pub items : List Item
    pub script_is : script ≡ Do_item uses cases join ∷ items
    pub rule : Branches D R c uses cases branches
    pub inside : BranchesWalk D names c join branches
    pub walks : FrameWalks D owes join rest value outer items scripts

  pub at_command : {R : List (Atom ℕ)} {c : Command} {rest : List Command} {value : ℕ} {outer : List Level} {items : List Item} {scripts : List Behind} → AtCommand items → FrameWalks D owes R (c ∷ rest) value outer items scripts → Doing R c rest value outer items scripts ⊎ Branching R c rest value outer items scripts
  at_command at (Last_walks left (Walk_step v k) u) = absurd at
  at_command at (Last_walks left (Walk_does d k) u) = inl (record { uses = _; state = _; items = _; script_is = refl; does = d; walks = Last_walks left k u })
  at_command at (Last_walks left (Walk_branches b n i k) u) = inr (record { uses = _; cases = _; branches = _; join = _; names = _; items = _; script_is = refl; rule = b; inside = i; walks = Last_walks left k u })
  at_command at (Level_walks left (Walk_step v k) u more) = absurd at
  at_command at (Level_walks left (Walk_does d k) u more) = inl (record { uses = _; state = _; items = _; script_is = refl; does = d; walks = Level_walks left k u more })
  at_command at (Level_walks left (Walk_branches b n i k) u more) = inr (record { uses = _; cases = _; branches = _; join = _; names = _; items = _; script_is = refl; rule = b; inside = i; walks = Level_walks left k u more })

  -- at the end of a branch
  pub record Joining (R : List (Atom ℕ)) (value : ℕ) (level : Level) (outer : List Level) (script : List Item) (scripts : List Behind) : Type 0 where
    pub done : script ≡ []
    pub behind : Behind
    pub others : List Behind
    pub scripts_are : scripts ≡ behind ∷ others
    pub left : List (Atom ℕ)
    pub uses : UsesUpAll (AffineAtom D) (map (map_atom (in_place_of level.to value)) behind.join) R left
    pub walks : FrameWalks D owes behind.join level.after.commands level.after.value outer behind.script others

  pub at_join : {R : List (Atom ℕ)} {value : ℕ} {level : Level} {outer : List Level} {items : List Item} {scripts : List Behind} → AtCommand items → FrameWalks D owes R [] value (level ∷ outer) items scripts → Joining R value level outer items scripts
  at_join at (Level_walks left (Walk_step v k) u more) = absurd at
  at_join at (Level_walks left Walk_ends u more) = record { done = refl; behind = _; others = _; scripts_are = refl; left = left; uses = u; walks = more }

  -- at the end of the body
  pub at_return : {R : List (Atom ℕ)} {value : ℕ} {items : List Item} {scripts : List Behind} → AtCommand items → FrameWalks D owes R [] value [] items scripts → (left : List (Atom ℕ)) × UsesUpAll (AffineAtom D) (owes value) R left × (items ≡ [])
  at_return at (Last_walks left (Walk_step v k) u) = absurd at
  at_return at (Last_walks left Walk_ends u) = (left, u, refl)

  -- into a branch
  pub into_branch : (c : Command) (body : Body) (left : List (Atom ℕ)) {start last join : List (Atom ℕ)} {rest : List Command} {value : ℕ} {outer : List Level} {names : List ℕ} {script items : List Item} {scripts : List Behind} →
      Walks D names start (commands_in body) script last → UsesUpAll (AffineAtom D) (joined c body join) last left → FrameWalks D owes join rest value outer items scripts →
      FrameWalks D owes start (commands_in body) (result_of body) (record { to = to_of c; after = record { commands = rest; value = value } } ∷ outer) script (record { join = join; script = items } ∷ scripts)
  into_branch c body left k u more = Level_walks left k u more

pub record OneBranch (D : Decls) (names : List ℕ) (c : Command) (join : List (Atom ℕ)) (b : Branch) (branches : List Branch) : Type 0 where
  pub last : List (Atom ℕ)
  pub left : List (Atom ℕ)
  pub walks : Walks D names b.start (commands_in b.body) b.script last
  pub uses : UsesUpAll (AffineAtom D) (joined c b.body join) last left
  pub others : BranchesWalk D names c join branches

pub one_branch : {D : Decls} {names : List ℕ} {c : Command} {join : List (Atom ℕ)} {b : Branch} {branches : List Branch} → BranchesWalk D names c join (b ∷ branches) → OneBranch D names c join b branches
one_branch (Branch_walks left k u more) = record { last = _; left = left; walks = k; uses = u; others = more }

-- ---- names of commands

pub core_of : (D : Decls) (low : ℕ) (c : Command) → CoreCommand D low c → (low ≤ to_of c) × (to_of c < 256) × CoreOp D low (to_of c) (op_of c)
core_of D low (The_command to op place) k = k

pub core_chain : (D : Decls) (low : ℕ) (cs : Commands) → CoreChain D low cs → CoreCommands D low (command_list cs)
core_chain D low No_commands k = k
core_chain D low (More_commands c rest) k = (k.0, core_chain D low rest k.1)

pub core_body : (D : Decls) (low : ℕ) (b : Body) → CoreBody D low b → CoreCommands D low (commands_in b) × (result_of b < 256)
core_body D low (The_body cs value place) k = (core_chain D low cs k.0, k.1)

-- ---- a name that is bound

-- the share under one more binding of a name that doesn't occur in it
pub bound_share : (names : ℕ → Value) (to : ℕ) (v : Value) (R : List (Atom ℕ)) → occurs to R ≡ false → map (map_atom (at_only to v names)) R ≡ map (map_atom names) R
bound_share names to v R fresh = share_agree _ _ R (λ x o. at_others to x v names (λ e. true_false (subst (λ n. occurs n R ≡ true) (sym e) o) fresh))

pub bound_env : (names : ℕ → Value) (e e' : Environment) (to : ℕ) (v w : Value) → v ≡ w → ((m : ℕ) → m < 256 → names m ≡ e m) → Binds e to w e' → (m : ℕ) → m < 256 → at_only to v names m ≡ e' m
bound_env names e e' to v w vw same b m l = elim (cases_eq to m) [
  | inl q ↦ subst (λ n. at_only to v names n ≡ e' n) q (at_it to v names ∙ vw ∙ sym b.bound)
  | inr q ↦ at_others to m v names q ∙ same m l ∙ sym (b.others m (λ d. q (sym d)))
]

-- the arguments stay where the name is no parameter's
pub bound_args : (count : ℕ) (args : List Value) (e e' : Environment) (to : ℕ) (v : Value) → count ≤ to → HasArgs count args e → Binds e to v e' → HasArgs count args e'
bound_args count args e e' to v le h b = record { many = h.many; each = λ m l. b.others m (λ q. omega (arith, q, le, l)) ∙ h.each m l }

-- names of arguments have the values of the environment
pub args_values : (names : ℕ → Value) (e : Environment) (to : ℕ) (ys : List ℕ) → ((m : ℕ) → m < 256 → names m ≡ e m) → AreArgs to ys → map names ys ≡ map e ys
args_values names e to [] same a = refl
args_values names e to (y ∷ ys) same a = cons_is (same y a.0.0) (args_values names e to ys same a.1)

-- the one case of a constructor has its body
pub case_body : (con : ℕ) (all : List Case) (c : Case) → cases_at con all ≡ c ∷ [] → body_for con all ≡ Some (body_of c)
case_body con [] c e = absurd (cc)
case_body con (k ∷ all) c e = by (con_of k == con) e (λ q. case_body con all c q)
  where
    by : (b : Bool) → (if b then k ∷ cases_at con all else cases_at con all) ≡ c ∷ [] → (cases_at con all ≡ c ∷ [] → body_for con all ≡ Some (body_of c)) → body_in b (body_of k) (body_for con all) ≡ Some (body_of c)
    by true e again = ap (λ x. Some (body_of x)) (heads e)
      where
        heads : {a b : Case} {as' bs : List Case} → a ∷ as' ≡ b ∷ bs → a ≡ b
        heads e = cc
    by false e again = again e
