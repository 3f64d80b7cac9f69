-- The loop over a script's items, by the views of what it reads.
use Rattle.std.proofs.Common.{◌≡◌, ℕ, ◌+◌, ◌<◌, ◌≤◌, List, [], ◌∷◌, ◌++◌, length, map, drop, get_or, Option, Err, sym, ap, ◌∙◌, subst}
use Rattle.std.specs.Prelude.{option_map}
use Rattle.mz_tree.specs.Plain.{Atom}
use Rattle.mz_tree.specs.Code.{Body, commands_in, brace_of}
use Rattle.mz_tree.specs.View.{plain_atom, plain_atoms, plain_command, plain_commands}
use Rattle.mz_tree.specs.declared.types.Place.{Place}
use Rattle.mz_tree.specs.declared.types.Atom.{Atom as CodeAtom}
use Rattle.mz_tree.specs.declared.code.Command.{Command as CodeCommand}
use Rattle.mz_decl.specs.Declarations.{Decls}
use Rattle.mz_view.specs.Steps.{plain_step}
use Rattle.mz_view.specs.Rules.{View}
use Rattle.mz_view.specs.declared.step.ViewStep.{ViewStep}
use Rattle.mz_deriv.specs.Scripts.{See_item, Do_item, script_cases_of}
use Rattle.mz_deriv.specs.View.{plain_item, plain_script_cases}
use Rattle.mz_deriv.specs.Walks.{Walks}
use Rattle.mz_deriv.specs.Refused.{Refuses, next_place}
use Rattle.mz_deriv.specs.Parts.{SameNames, Sees, Passes, Makes, Leads}
use Rattle.mz_deriv.specs.declared.fault.DerivFault.{DerivFault}
use Rattle.mz_deriv.specs.declared.fault.DerivFault.TheVariants.{BadStep, BadCommand, BadJoin, Memory}
use Rattle.mz_deriv.specs.declared.script.ScriptCase.{ScriptCase as CodeCase}
use Rattle.mz_deriv.specs.declared.script.Item.{Item as CodeItem, Step, Do}
use Rattle.mz_deriv.proofs.Lists.{next_of, none_of}
use Rattle.mz_deriv.proofs.Views.{plain_do}
use Rattle.mz_deriv.proofs.Leading.{Led, led_step, led_do, no_step, no_do, too_many, too_few, at_end}

-- the loop stands before item i, with so many commands done, and so many view steps made since the last of them
abbrev pub At : Decls → Body → List ℕ → List (Atom ℕ) → List CodeItem → List CodeCommand → List ℕ → List (Atom ℕ) → ℕ → ℕ → ℕ → Type 0
At D body from R items commands now S i done made = Led D (brace_of body) from R (commands_in body) (map plain_item items) now S (plain_commands (drop done commands)) (map plain_item (drop i items)) made

-- the item is a view step
pub record IsStep (items : List CodeItem) (i : ℕ) (step : ViewStep) : Type 0 where
  pub item : CodeItem
  pub within : i < length items
  pub here : item ≡ get_or items i item
  pub is : item ≡ Step step

-- the item is one for a command
pub record IsDo (items : List CodeItem) (i : ℕ) (uses : Option CodeAtom) (cases : List CodeCase) (join : List CodeAtom) : Type 0 where
  pub item : CodeItem
  pub within : i < length items
  pub here : item ≡ get_or items i item
  pub is : item ≡ Do uses cases join

-- the command that is next
pub record IsNext (commands : List CodeCommand) (done : ℕ) (command : CodeCommand) : Type 0 where
  pub within : done < length commands
  pub here : command ≡ get_or commands done command

-- what is left begins with the view step
step_left : (items : List CodeItem) (i : ℕ) (step : ViewStep) → IsStep items i step → map plain_item (drop i items) ≡ See_item (plain_step step) ∷ map plain_item (drop (i + 1) items)
step_left items i step s = next_of plain_item items i s.item s.within s.here ∙ ap (λ x. plain_item x ∷ map plain_item (drop (i + 1) items)) s.is

-- or with the item for a command
do_left : (items : List CodeItem) (i : ℕ) (uses : Option CodeAtom) (cases : List CodeCase) (join : List CodeAtom) → IsDo items i uses cases join →
    map plain_item (drop i items) ≡ Do_item (option_map plain_atom uses) (script_cases_of (plain_script_cases cases)) (plain_atoms join) ∷ map plain_item (drop (i + 1) items)
do_left items i uses cases join s = next_of plain_item items i s.item s.within s.here ∙ ap (λ x. plain_item x ∷ map plain_item (drop (i + 1) items)) s.is ∙ ap (λ x. x ∷ map plain_item (drop (i + 1) items)) (plain_do uses cases join)

module _ (D : Decls) (body : Body) (from : List ℕ) (R : List (Atom ℕ)) (items : List CodeItem) (commands : List CodeCommand) (now : List ℕ) (S : List (Atom ℕ)) (i done made : ℕ) where
  -- where the item is a view step
  step_led : (step : ViewStep) → At D body from R items commands now S i done made → IsStep items i step →
      Led D (brace_of body) from R (commands_in body) (map plain_item items) now S (plain_commands (drop done commands)) (See_item (plain_step step) ∷ map plain_item (drop (i + 1) items)) made
  step_led step l s = subst (λ q. Led D (brace_of body) from R (commands_in body) (map plain_item items) now S (plain_commands (drop done commands)) q made) (step_left items i step s) l

  -- where it is one for the next command
  do_led : (uses : Option CodeAtom) (cases : List CodeCase) (join : List CodeAtom) (command : CodeCommand) → At D body from R items commands now S i done made → IsDo items i uses cases join → IsNext commands done command →
      Led D (brace_of body) from R (commands_in body) (map plain_item items) now S (plain_command command ∷ plain_commands (drop (done + 1) commands)) (Do_item (option_map plain_atom uses) (script_cases_of (plain_script_cases cases)) (plain_atoms join) ∷ map plain_item (drop (i + 1) items)) made
  do_led uses cases join command l s n =
      subst
      (λ cs. Led D (brace_of body) from R (commands_in body) (map plain_item items) now S cs (Do_item (option_map plain_atom uses) (script_cases_of (plain_script_cases cases)) (plain_atoms join) ∷ map plain_item (drop (i + 1) items)) made)
      (next_of plain_command commands done command n.within n.here)
      (subst (λ q. Led D (brace_of body) from R (commands_in body) (map plain_item items) now S (plain_commands (drop done commands)) q made) (do_left items i uses cases join s) l)

  -- a view step was made
  pub stepped : (step : ViewStep) (U : List (Atom ℕ)) → At D body from R items commands now S i done made → IsStep items i step → View D S (plain_step step) U → At D body from R items commands now U (i + 1) done (made + 1)
  stepped step U l s v = led_step D (brace_of body) from R (commands_in body) (map plain_item items) now S U (plain_step step) (plain_commands (drop done commands)) (map plain_item (drop (i + 1) items)) made (step_led step l s) v

  -- a view step was refused
  step_fault : (step : ViewStep) (place : Place) (fault : DerivFault) → At D body from R items commands now S i done made → IsStep items i step → place ≡ next_place (plain_commands (drop done commands)) (brace_of body) →
      ((U : List (Atom ℕ)) → View D S (plain_step step) U → ⊥) × (fault ≡ BadStep place (made + 1)) → (names : List ℕ) → SameNames from names → Refuses D names R (commands_in body) (map plain_item items) (brace_of body) 0 fault
  step_fault step place fault l s e h = no_step D (brace_of body) from R (commands_in body) (map plain_item items) now S (plain_step step) (plain_commands (drop done commands)) (map plain_item (drop (i + 1) items)) made fault (step_led step l s) h.0 (h.1 ∙ ap (λ p. BadStep p (made + 1)) e)

  pub step_refused : (step : ViewStep) (place : Place) (U T : List (Atom ℕ)) (fault : DerivFault) → At D body from R items commands now S i done made → IsStep items i step → place ≡ next_place (plain_commands (drop done commands)) (brace_of body) →
      Sees {A = Unit {0}} D S (plain_step step) place (made + 1) U (Err fault) → Leads {A = Unit {0}} D from R body (map plain_item items) T (Err fault)
  step_refused step place U T (BadStep p n) l s e h = step_fault step place (BadStep p n) l s e h
  step_refused step place U T (BadCommand p) l s e h = step_fault step place (BadCommand p) l s e h
  step_refused step place U T (BadJoin p) l s e h = step_fault step place (BadJoin p) l s e h
  step_refused step place U T Memory l s e h = tt

  -- the next command was made
  pub done_one : (uses : Option CodeAtom) (cases : List CodeCase) (join : List CodeAtom) (command : CodeCommand) (U : List (Atom ℕ)) → At D body from R items commands now S i done made → IsDo items i uses cases join → IsNext commands done command →
      ((names : List ℕ) → SameNames now names → Passes D names S (plain_command command) (option_map plain_atom uses) (script_cases_of (plain_script_cases cases)) (plain_atoms join) U) → At D body from R items commands (now ++ command.to ∷ []) U (i + 1) (done + 1) 0
  done_one uses cases join command U l s n m = led_do D (brace_of body) from R (commands_in body) (map plain_item items) now S U (plain_command command) (option_map plain_atom uses) (script_cases_of (plain_script_cases cases)) (plain_atoms join) (plain_commands (drop (done + 1) commands)) (map plain_item (drop (i + 1) items)) made (do_led uses cases join command l s n) m

  -- it was refused
  pub do_refused : (uses : Option CodeAtom) (cases : List CodeCase) (join : List CodeAtom) (command : CodeCommand) (U T : List (Atom ℕ)) (fault : DerivFault) → At D body from R items commands now S i done made → IsDo items i uses cases join → IsNext commands done command →
      Makes {A = Unit {0}} D now S (plain_command command) (option_map plain_atom uses) (script_cases_of (plain_script_cases cases)) (plain_atoms join) U (Err fault) → Leads {A = Unit {0}} D from R body (map plain_item items) T (Err fault)
  do_refused uses cases join command U T (BadStep p k) l s n h = no_do D (brace_of body) from R (commands_in body) (map plain_item items) now S (plain_command command) (option_map plain_atom uses) (script_cases_of (plain_script_cases cases)) (plain_atoms join) (plain_commands (drop (done + 1) commands)) (map plain_item (drop (i + 1) items)) made (BadStep p k) (do_led uses cases join command l s n) h
  do_refused uses cases join command U T (BadCommand p) l s n h = no_do D (brace_of body) from R (commands_in body) (map plain_item items) now S (plain_command command) (option_map plain_atom uses) (script_cases_of (plain_script_cases cases)) (plain_atoms join) (plain_commands (drop (done + 1) commands)) (map plain_item (drop (i + 1) items)) made (BadCommand p) (do_led uses cases join command l s n) h
  do_refused uses cases join command U T (BadJoin p) l s n h = no_do D (brace_of body) from R (commands_in body) (map plain_item items) now S (plain_command command) (option_map plain_atom uses) (script_cases_of (plain_script_cases cases)) (plain_atoms join) (plain_commands (drop (done + 1) commands)) (map plain_item (drop (i + 1) items)) made (BadJoin p) (do_led uses cases join command l s n) h
  do_refused uses cases join command U T Memory l s n h = tt

  -- all commands are done, and an item for one is there
  pub one_too_many : (uses : Option CodeAtom) (cases : List CodeCase) (join : List CodeAtom) → At D body from R items commands now S i done made → IsDo items i uses cases join → length commands ≤ done →
      (names : List ℕ) → SameNames from names → Refuses D names R (commands_in body) (map plain_item items) (brace_of body) 0 (BadCommand (brace_of body))
  one_too_many uses cases join l s h =
      too_many D (brace_of body) from R (commands_in body) (map plain_item items) now S (option_map plain_atom uses) (script_cases_of (plain_script_cases cases)) (plain_atoms join) (map plain_item (drop (i + 1) items)) made
      (subst
      (λ cs. Led D (brace_of body) from R (commands_in body) (map plain_item items) now S cs (Do_item (option_map plain_atom uses) (script_cases_of (plain_script_cases cases)) (plain_atoms join) ∷ map plain_item (drop (i + 1) items)) made)
      (none_of plain_command commands done h)
      (subst (λ q. Led D (brace_of body) from R (commands_in body) (map plain_item items) now S (plain_commands (drop done commands)) q made) (do_left items i uses cases join s) l))

  -- the items are at their end
  ended : At D body from R items commands now S i done made → length items ≤ i → Led D (brace_of body) from R (commands_in body) (map plain_item items) now S (plain_commands (drop done commands)) [] made
  ended l h = subst (λ q. Led D (brace_of body) from R (commands_in body) (map plain_item items) now S (plain_commands (drop done commands)) q made) (none_of plain_item items i h) l

  -- and a command is there
  pub one_too_few : (command : CodeCommand) → At D body from R items commands now S i done made → length items ≤ i → IsNext commands done command →
      (names : List ℕ) → SameNames from names → Refuses D names R (commands_in body) (map plain_item items) (brace_of body) 0 (BadCommand command.place)
  one_too_few command l h n =
      too_few D (brace_of body) from R (commands_in body) (map plain_item items) now S (plain_command command) (plain_commands (drop (done + 1) commands)) made
      (subst (λ cs. Led D (brace_of body) from R (commands_in body) (map plain_item items) now S cs [] made) (next_of plain_command commands done command n.within n.here) (ended l h))

  -- and none is
  pub walked : At D body from R items commands now S i done made → length items ≤ i → length commands ≤ done → (names : List ℕ) → SameNames from names → Walks D names R (commands_in body) (map plain_item items) S
  walked l h k =
      at_end D (brace_of body) from R (commands_in body) (map plain_item items) now S made
      (subst (λ cs. Led D (brace_of body) from R (commands_in body) (map plain_item items) now S cs [] made) (none_of plain_command commands done k) (ended l h))

-- where the loop stands may be told by equal values
pub moved : (D : Decls) (body : Body) (from : List ℕ) (R : List (Atom ℕ)) (items : List CodeItem) (commands : List CodeCommand) (now now' : List ℕ) (S U : List (Atom ℕ)) (i done done' made made' : ℕ) → now ≡ now' → S ≡ U → done ≡ done' → made ≡ made' →
    At D body from R items commands now' U i done' made' → At D body from R items commands now S i done made
moved D body from R items commands now now' S U i done done' made made' n s d m l =
    subst (λ k. At D body from R items commands now S i done k) (sym m) (subst (λ k. At D body from R items commands now S i k made') (sym d) (subst (λ q. At D body from R items commands now q i done' made') (sym s) (subst (λ k. At D body from R items commands k U i done' made') (sym n) l)))
