-- The run of a program of the first form along the commands of its `main`, as the code has them.
use Rattle.std.proofs.Common.{◌≡◌, ℕ, suc, ◌+◌, ◌<◌, ◌≤◌, List, [], ◌∷◌, length, Some, None, get_or, sym, ap, ◌∙◌, subst, slice_get, option_map, arith}
use Rattle.std.proofs.lemmas.List.{length-map}
use Rattle.std.proofs.lemmas.Option.{slice_get-get_or, slice_get-map}
use Rattle.mz_tree.specs.declared.code.Command.{Command as CodeCommand}
use Rattle.mz_tree.specs.declared.code.Body.{Body as CodeBody, out-Body}
use Rattle.mz_tree.specs.Code.{commands_in}
use Rattle.mz_tree.specs.Programs.{Program}
use Rattle.mz_tree.specs.View.{plain_body, plain_command}
use Rattle.mz_tree.proofs.CodeViews.{commands_in_body}
use Rattle.mz_named.specs.Machine.{Config, IsOpening}
use Rattle.mz_named.specs.Answering.{Answers}
use Rattle.mz_named.specs.View.{cells_of}
use Rattle.mz_named.specs.declared.config.Cell.{Cell as CodeCell}
use Rattle.mz_named.specs.declared.turn.NamedTurn.{NamedTurn}
use Rattle.mz_named.specs.declared.turn.NamedTurn.TheVariants as turn
use Rattle.mz_cli.specs.declared.run.Ending.TheVariants as ending
use Rattle.mz_cli.specs.Mains.{IsMain}
use Rattle.mz_cli.specs.Answered.{IsReady, RunsTo}
use Rattle.mz_cli.proofs.Cells.{main_is, kinded_main}
use Rattle.mz_cli.proofs.Ready.{cells, safe, few_commands}
use Rattle.mz_cli.proofs.Standing.{Fits, fits_at, IsStanding, stands_first, goes_on, stops_here, no_other, ends_here, no_other_end}

-- where nothing stands at the first name, there are no cells
pub no_cells : (items : List CodeCell) → cells_of items 0 ≡ None → length items ≤ 0
no_cells [] none = omega arith
no_cells (x ∷ items) none = cc

module _ (program : Program) (ready : IsReady program) (body : CodeBody) (main : IsMain program (plain_body body)) (commands : List CodeCommand) (same : commands ≡ (out-Body body).commands) where
  as_many : length (commands_in (plain_body body)) ≡ length commands
  as_many = ap length (commands_in_body body) ∙ length-map (out-Body body).commands plain_command ∙ ap length (sym same)

  pub few : length commands ≤ 256
  few = subst (λ n. n ≤ 256) as_many (few_commands program ready (plain_body body) main)

  -- at the opening the thread stands before the first command
  pub stands_in : (w : Config) → IsOpening program w → IsStanding program (plain_body body) 0 w
  stands_in w opening = subst (λ b. IsStanding program b 0 w) (sym (main_is program (plain_body body) (cells program ready) main)) (stands_first program w (cells program ready) opening)

  module _ (i : ℕ) (w w' : Config) (s : IsStanding program (plain_body body) i w) (command : CodeCommand) (within : i < length commands) (is : command ≡ get_or commands i command) where
    here : slice_get (commands_in (plain_body body)) i ≡ Some (plain_command command)
    here =
        let stands : slice_get commands i ≡ Some command = slice_get-get_or commands i command within ∙ ap Some (sym is) in
        ap (λ l. slice_get l i) (commands_in_body body) ∙ slice_get-map plain_command (out-Body body).commands i ∙ ap (option_map plain_command) (ap (λ l. slice_get l i) (sym same) ∙ stands)

    fits : Fits (plain_command command)
    fits = fits_at [] (commands_in (plain_body body)) i (plain_command command) (kinded_main program (plain_body body) (cells program ready) main) here

    -- after its step the thread stands before the next command
    pub next_stands : Answers program w 0 turn.Stepped w' → IsStanding program (plain_body body) (i + 1) w'
    next_stands on =
        let next : suc i ≡ i + 1 = omega arith in
        subst (λ n. IsStanding program (plain_body body) n w') next (goes_on program (plain_body body) i w w' s (plain_command command) here fits on)

    -- where it stops, the run has stopped at this command
    pub run_stops : Answers program w 0 turn.Arith w' → RunsTo program (ending.Stopped command.place) w'.prints
    run_stops (stop, by) = stops_here program (plain_body body) i w w' s (plain_command command) here fits stop by

    pub only_these : (answer : NamedTurn) → Answers program w 0 answer w' → (answer ≡ turn.Stepped → ⊥) → (answer ≡ turn.Arith → ⊥) → ⊥
    only_these = no_other program (plain_body body) i w w' s (plain_command command) here fits (safe program ready)

  module _ (i : ℕ) (w w' : Config) (s : IsStanding program (plain_body body) i w) (past : length commands ≤ i) where
    all_past : length (commands_in (plain_body body)) ≤ i
    all_past = subst (λ n. n ≤ i) (sym as_many) past

    -- behind the last command the run ends
    pub run_ends : Answers program w 0 turn.Ended w' → RunsTo program ending.Ended w'.prints
    run_ends = ends_here program (plain_body body) i w w' s all_past

    pub only_end : (answer : NamedTurn) → Answers program w 0 answer w' → (answer ≡ turn.Ended → ⊥) → ⊥
    only_end = no_other_end program (plain_body body) i w w' s all_past (safe program ready)
