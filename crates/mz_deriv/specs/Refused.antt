-- The first point, in script order, at which a script has no instance: its place, and the number of the view step.
use Rattle.std.specs.Prelude.{◌≡◌, ◌<◌, ◌+◌, ℕ, List, [], ◌∷◌, Option, Some, slice_get, Result, Ok, Err}
use Rattle.mz_tree.specs.Plain.{Atom}
use Rattle.mz_tree.specs.Code.{Command, to_of, place_of, commands_in, result_of, brace_of}
use Rattle.mz_tree.specs.Programs.{Sig, Fun, Program}
use Rattle.mz_tree.specs.declared.types.Place.{Place}
use Rattle.mz_decl.specs.Declarations.{Decls, decls_of}
use Rattle.mz_modes.specs.Affine.{AffineAtom}
use Rattle.mz_perm.specs.Using.{UsesUpAll}
use Rattle.mz_decl.specs.Signatures.{parameters, needed, owed}
use Rattle.mz_view.specs.Steps.{Step}
use Rattle.mz_view.specs.Rules.{View}
use Rattle.mz_deriv.specs.Scripts.{Item, ScriptCases, See_item, Do_item, No_script_cases}
use Rattle.mz_deriv.specs.Rules.{Does, Branch, Branches}
use Rattle.mz_deriv.specs.Walks.{NamesOuter, joined, Walks, BranchesWalk}
use Rattle.mz_deriv.specs.Derivable.{FunWalks, Derivable}
use Rattle.mz_deriv.specs.declared.fault.DerivFault.{DerivFault}
use Rattle.mz_deriv.specs.declared.fault.DerivFault.TheVariants.{BadStep, BadCommand, BadJoin, Memory}

-- where the next command stands, or the closing brace where there is none
abbrev pub next_place : List Command → Place → Place
next_place [] brace = brace
next_place (c ∷ commands) brace = place_of c

-- a command can be made as its item says: by its rule, without cases and a join, or by going on in branches with these
-- cases
pub data IsMade (D : Decls) (R : List (Atom ℕ)) (c : Command) (uses : Option (Atom ℕ)) : ScriptCases → List (Atom ℕ) → Type 0 where
  Made_by_rule : (S : List (Atom ℕ)) → Does D R c uses S → IsMade D R c uses No_script_cases []
  Made_in_branches : (cases : ScriptCases) (join : List (Atom ℕ)) (branches : List Branch) → Branches D R c uses cases branches → IsMade D R c uses cases join

mutual
  -- these items, over these commands up to that brace, have their first such point here, `made` view steps having been
  -- made since the last command
  pub data Refuses (D : Decls) : List ℕ → List (Atom ℕ) → List Command → List Item → Place → ℕ → DerivFault → Type 0 where
    -- the view step has no instance
    Step_refused : {names : List ℕ} {R : List (Atom ℕ)} {s : Step} {commands : List Command} {items : List Item} {brace : Place} {made : ℕ} →
        ((S : List (Atom ℕ)) → View D R s S → ⊥) → Refuses D names R commands (See_item s ∷ items) brace made (BadStep (next_place commands brace) (made + 1))
    -- it has one, and the point stands behind it
    Step_passed : {names : List ℕ} {R S : List (Atom ℕ)} {s : Step} {commands : List Command} {items : List Item} {brace : Place} {made : ℕ} {fault : DerivFault} →
        View D R s S → Refuses D names S commands items brace (made + 1) fault → Refuses D names R commands (See_item s ∷ items) brace made fault
    -- the items are at their end, and a command is left
    Do_missing : {names : List ℕ} {R : List (Atom ℕ)} {c : Command} {commands : List Command} {brace : Place} {made : ℕ} →
        Refuses D names R (c ∷ commands) [] brace made (BadCommand (place_of c))
    -- the commands are at their end, and a `do` is left
    Do_left : {names : List ℕ} {R join : List (Atom ℕ)} {uses : Option (Atom ℕ)} {cases : ScriptCases} {items : List Item} {brace : Place} {made : ℕ} →
        Refuses D names R [] (Do_item uses cases join ∷ items) brace made (BadCommand brace)
    -- the command can't be made so
    Do_refused : {names : List ℕ} {R join : List (Atom ℕ)} {c : Command} {uses : Option (Atom ℕ)} {cases : ScriptCases} {commands : List Command} {items : List Item} {brace : Place} {made : ℕ} →
        (IsMade D R c uses cases join → ⊥) → Refuses D names R (c ∷ commands) (Do_item uses cases join ∷ items) brace made (BadCommand (place_of c))
    -- it is made by its rule, and the point stands behind it
    Do_passed : {names : List ℕ} {R S : List (Atom ℕ)} {c : Command} {uses : Option (Atom ℕ)} {commands : List Command} {items : List Item} {brace : Place} {made : ℕ} {fault : DerivFault} →
        Does D R c uses S → Refuses D (to_of c ∷ names) S commands items brace 0 fault → Refuses D names R (c ∷ commands) (Do_item uses No_script_cases [] ∷ items) brace made fault
    -- it goes on in branches, and the join names what isn't known outside of them
    Join_refused : {names : List ℕ} {R join : List (Atom ℕ)} {c : Command} {uses : Option (Atom ℕ)} {cases : ScriptCases} (branches : List Branch) {commands : List Command} {items : List Item} {brace : Place} {made : ℕ} →
        Branches D R c uses cases branches → (NamesOuter names R c join → ⊥) → Refuses D names R (c ∷ commands) (Do_item uses cases join ∷ items) brace made (BadJoin (place_of c))
    -- the point stands in a branch
    Branch_refused : {names : List ℕ} {R join : List (Atom ℕ)} {c : Command} {uses : Option (Atom ℕ)} {cases : ScriptCases} {branches : List Branch} {commands : List Command} {items : List Item} {brace : Place} {made : ℕ} {fault : DerivFault} →
        Branches D R c uses cases branches → NamesOuter names R c join → BranchesRefuse D names c join branches fault → Refuses D names R (c ∷ commands) (Do_item uses cases join ∷ items) brace made fault
    -- all branches are walked through, and it stands behind them
    Branches_passed : {names : List ℕ} {R join : List (Atom ℕ)} {c : Command} {uses : Option (Atom ℕ)} {cases : ScriptCases} {branches : List Branch} {commands : List Command} {items : List Item} {brace : Place} {made : ℕ} {fault : DerivFault} →
        Branches D R c uses cases branches → NamesOuter names R c join → BranchesWalk D names c join branches → Refuses D (to_of c ∷ names) join commands items brace 0 fault →
        Refuses D names R (c ∷ commands) (Do_item uses cases join ∷ items) brace made fault

  -- these branches, one after the other, have it
  pub data BranchesRefuse (D : Decls) : List ℕ → Command → List (Atom ℕ) → List Branch → DerivFault → Type 0 where
    -- in the first of them
    Inside_refused : {names : List ℕ} {c : Command} {join : List (Atom ℕ)} {b : Branch} {branches : List Branch} {fault : DerivFault} →
        Refuses D names b.start (commands_in b.body) b.script (brace_of b.body) 0 fault → BranchesRefuse D names c join (b ∷ branches) fault
    -- at its end, which lacks a permission of the join
    End_refused : {names : List ℕ} {c : Command} {join last : List (Atom ℕ)} {b : Branch} {branches : List Branch} →
        Walks D names b.start (commands_in b.body) b.script last → ((rest : List (Atom ℕ)) → UsesUpAll (AffineAtom D) (joined c b.body join) last rest → ⊥) →
        BranchesRefuse D names c join (b ∷ branches) (BadJoin (brace_of b.body))
    -- in a later one
    Later_refused : {names : List ℕ} {c : Command} {join last : List (Atom ℕ)} (rest : List (Atom ℕ)) {b : Branch} {branches : List Branch} {fault : DerivFault} →
        Walks D names b.start (commands_in b.body) b.script last → UsesUpAll (AffineAtom D) (joined c b.body join) last rest →
        BranchesRefuse D names c join branches fault → BranchesRefuse D names c join (b ∷ branches) fault

-- the script of a function has it: in the body, or at its end, which lacks a permission that the body owes
pub data FunRefused (D : Decls) (f : Fun) (script : List Item) : DerivFault → Type 0 where
  Body_refused : (sig : Sig) {fault : DerivFault} → slice_get D.sigs f.sig ≡ Some sig →
      Refuses D (parameters sig) (needed sig.needs) (commands_in f.body) script (brace_of f.body) 0 fault → FunRefused D f script fault
  Owed_refused : (sig : Sig) {last : List (Atom ℕ)} → slice_get D.sigs f.sig ≡ Some sig →
      Walks D (parameters sig) (needed sig.needs) (commands_in f.body) script last → ((rest : List (Atom ℕ)) → UsesUpAll (AffineAtom D) (owed sig (result_of f.body)) last rest → ⊥) →
      FunRefused D f script (BadCommand (brace_of f.body))

-- the scripts of a program have it: those of the functions before lead through their bodies, and this one has it
pub record RefusedAt (p : Program) (scripts : List (List Item)) (fault : DerivFault) : Type 0 where
  pub k : ℕ
  pub fun : Fun
  pub declared : slice_get p.funs k ≡ Some fun
  pub script : List Item
  pub scripted : slice_get scripts k ≡ Some script
  pub before : (m : ℕ) (f : Fun) (s : List Item) → m < k → slice_get p.funs m ≡ Some f → slice_get scripts m ≡ Some s → FunWalks (decls_of p) f s
  pub refused : FunRefused (decls_of p) fun script fault

-- a derivation is one of the program, or else it is refused at the first point without an instance, or memory is wanting
abbrev pub Checks : {A : Type 0} → Program → List (List Item) → Result A DerivFault → Type 0
Checks p scripts (Ok done) = Derivable p scripts
Checks p scripts (Err Memory) = Unit {0}
Checks p scripts (Err fault) = RefusedAt p scripts fault
