-- How a script leads through a body, from the permissions with which the body begins to those at its end.
--
-- A walk goes along the commands of one body and the items of its script at once: a view step changes what is known and
-- leaves the commands, and each command is made by its rule where the script says so. A command that goes on in branches
-- is walked inside each of them, and what follows goes on from the permissions in which they join. `names` are the core
-- names that are bound where the walk stands: the parameters, and the names of the commands before
-- it, in its own body and in the bodies round it, each as often as it is bound; only whether a name is among them counts.
use Rattle.std.specs.Prelude.{◌≡◌, ◌⊎◌, ◌≤◌, ◌==◌, if◌then◌else◌, true, ℕ, List, [], ◌∷◌, map, Option}
use Rattle.mz_tree.specs.Plain.{Atom, map_atom}
use Rattle.mz_tree.specs.Code.{Command, Body, to_of, commands_in, result_of}
use Rattle.mz_decl.specs.Declarations.{Decls}
use Rattle.mz_modes.specs.Affine.{AffineAtom}
use Rattle.mz_perm.specs.Lists.{In}
use Rattle.mz_perm.specs.Occurrence.{occurs}
use Rattle.mz_perm.specs.Using.{UsesUpAll}
use Rattle.mz_view.specs.Steps.{Step}
use Rattle.mz_view.specs.Rules.{View}
use Rattle.mz_deriv.specs.Scripts.{Item, ScriptCases, See_item, Do_item, No_script_cases}
use Rattle.mz_deriv.specs.Rules.{Does, Branch, Branches}

-- a name is known outside of the branches of a command: a core name that is bound before it, or, of the names that view
-- steps make, one that occurs in the state before it
abbrev pub IsOuter : List ℕ → List (Atom ℕ) → ℕ → Type 0
IsOuter names R n = In n names ⊎ ((256 ≤ n) × (occurs n R ≡ true))

-- a join names what is known outside, and the command's own name
abbrev pub NamesOuter : List ℕ → List (Atom ℕ) → Command → List (Atom ℕ) → Type 0
NamesOuter names R c join = (n : ℕ) → occurs n join ≡ true → (n ≡ to_of c) ⊎ IsOuter names R n

-- one name for another
abbrev pub in_place_of : ℕ → ℕ → ℕ → ℕ
in_place_of old new n = if n == old then new else n

-- what the end of a branch uses up: the join, with the branch's value for the command's name
abbrev pub joined : Command → Body → List (Atom ℕ) → List (Atom ℕ)
joined c body join = map (map_atom (in_place_of (to_of c) (result_of body))) join

mutual
  -- the items lead through the commands from the one state to the other
  pub data Walks (D : Decls) : List ℕ → List (Atom ℕ) → List Command → List Item → List (Atom ℕ) → Type 0 where
    -- there are no more commands and no more items
    Walk_ends : {names : List ℕ} {R : List (Atom ℕ)} → Walks D names R [] [] R
    -- a view step, and then the rest
    Walk_step : {names : List ℕ} {R S T : List (Atom ℕ)} {s : Step} {commands : List Command} {items : List Item} →
        View D R s S → Walks D names S commands items T → Walks D names R commands (See_item s ∷ items) T
    -- a command by its rule, and then the rest
    Walk_does : {names : List ℕ} {R S T : List (Atom ℕ)} {c : Command} {uses : Option (Atom ℕ)} {commands : List Command} {items : List Item} →
        Does D R c uses S → Walks D (to_of c ∷ names) S commands items T → Walks D names R (c ∷ commands) (Do_item uses No_script_cases [] ∷ items) T
    -- a command that goes on in branches, each of them, and then the rest from where they join
    Walk_branches : {names : List ℕ} {R T join : List (Atom ℕ)} {c : Command} {uses : Option (Atom ℕ)} {cases : ScriptCases} {branches : List Branch} {commands : List Command} {items : List Item} →
        Branches D R c uses cases branches → NamesOuter names R c join → BranchesWalk D names c join branches →
        Walks D (to_of c ∷ names) join commands items T → Walks D names R (c ∷ commands) (Do_item uses cases join ∷ items) T

  -- each branch is walked through, and its end uses up what it joins in
  pub data BranchesWalk (D : Decls) : List ℕ → Command → List (Atom ℕ) → List Branch → Type 0 where
    No_branch_walks : {names : List ℕ} {c : Command} {join : List (Atom ℕ)} → BranchesWalk D names c join []
    Branch_walks : {names : List ℕ} {c : Command} {join last : List (Atom ℕ)} (rest : List (Atom ℕ)) {b : Branch} {branches : List Branch} →
        Walks D names b.start (commands_in b.body) b.script last → UsesUpAll (AffineAtom D) (joined c b.body join) last rest →
        BranchesWalk D names c join branches → BranchesWalk D names c join (b ∷ branches)
