use Rattle.std.proofs.Common.{ℕ, List, Bor, [], ◌∷◌, ◌++◌, map, drop, ◌+◌, Ok, Err, option_map, sym, ap, subst, ◌∙◌, arith}
use Rattle.std.proofs.lemmas.Result.{err_from_is_err_and}
use Rattle.mz_tree.specs.Code.{Body, cases_of, commands_of}
use Rattle.mz_tree.specs.View.{plain_atom, plain_atoms, plain_cases, plain_commands, plain_op}
use Rattle.mz_tree.proofs.CodeViews.{plain_body_is}
use Rattle.mz_script.specs.Cutting.{lines}
use Rattle.mz_deriv.specs.Scripts.{script_cases_of}
use Rattle.mz_deriv.specs.View.{plain_item, plain_script_case, plain_script_cases}
use Rattle.mz_script.specs.ReadLines.{piece_of}
use Rattle.mz_tree.specs.View.{plain_program}
use Rattle.mz_script.specs.Stops.{cause}
use Rattle.mz_grammar.specs.Answers.{Stops}
use Rattle.mz_grammar.proofs.Loops.{with_front}
use Rattle.mz_tree.specs.declared.code.Body.{out-Body}
use Rattle.mz_script.specs.Reading.{case_by, cases_by, commands_by}
use Rattle.mz_script.proofs.Spelling.{map_append}
use Rattle.mz_deriv.proofs.Views.{plain_do}
use Rattle.mz_script.proofs.Bodies.{case_done, case_stops, point_done, stops_same, hands_on, next_commands, no_commands, command_read, command_stops, last_done, last_unseen, last_unended}
use Rattle.mz_script.specs.Places.{walked_of}
use Rattle.mz_script.proofs.CaseLoops.{next_case, no_case_left, with_cases, case_read, case_stopped, case_passed, cases_done}
use Rattle.mz_script.specs.Reading.{match_by, op_by}
use Rattle.mz_script.specs.Stops.{Gives}
use Rattle.mz_tree.proofs.CodeViews.{plain_match}
use Rattle.mz_script.proofs.CaseLoops.{match_is}
use Rattle.mz_script.proofs.read.bodies.+bodies.Goals as goal
use Rattle.mz_script.proofs.read.bodies.+bodies.Goals.{some_cases-then-has_script+in_ok-script+in_ok-push, some_cases-else-has_script}

pub case-returns-in_err-items : goal.case-returns-in_err-items
case-returns-in_err-items t c =
    let p = err_from_is_err_and c.from_residual-in_err-items.result c.from_residual-in_err-items.ensures.1 in
    let s = cause c.in_err-items.field-0.0 in
    let stop : Stops s (commands_by (piece_of (plain_program c.args.program.now)) (commands_of (plain_commands (out-Body c.args.body.now).commands)) (lines c.in_ok-fresh.rest.now)) =
    stops_same s _ _ (ap (λ l. commands_by (piece_of (plain_program c.args.program.now)) (commands_of (plain_commands l)) (lines c.in_ok-fresh.rest.now)) c.as_slice.ensures) c.in_err-items.ensures in
    hands_on _ c.from_residual-in_err-items.result c.in_err-items.field-0.0 _ (p.1 ∙ ap Err p.2)
    (stops_same s _ _ (ap (λ (b : Body). case_by (piece_of (plain_program c.args.program.now)) c.args.numbered b (lines c.args.bytes.now)) (sym (plain_body_is c.args.body.now)))
    (case_stops (piece_of (plain_program c.args.program.now)) c.args.numbered _ _ _ s (lines c.args.bytes.now) (lines c.in_ok-fresh.rest.now) c.in_ok-fresh.fresh c.in_ok-fresh.ensures stop))

pub case-returns : goal.case-returns
case-returns t c =
    ap (λ (b : Body). case_by (piece_of (plain_program c.args.program.now)) c.args.numbered b (lines c.args.bytes.now)) (plain_body_is c.args.body.now)
    ∙ case_done (piece_of (plain_program c.args.program.now)) c.args.numbered _ _ _ (lines c.args.bytes.now) (lines c.in_ok-fresh.rest.now) (lines c.in_ok-items.rest.now) c.in_ok-fresh.fresh (map plain_item c.in_ok-items.items) c.in_ok-fresh.ensures
    (ap (λ l. commands_by (piece_of (plain_program c.args.program.now)) (commands_of (plain_commands l)) (lines c.in_ok-fresh.rest.now)) (sym c.as_slice.ensures) ∙ c.in_ok-items.ensures)

pub point-returns : goal.point-returns
point-returns t c =
    point_done (piece_of (plain_program c.args.program.now)) (plain_op c.args.command.now.op) (lines c.args.bytes.now) (lines c.in_ok-items.rest.now) (lines c.in_ok-uses.rest.now) (lines c.in_ok-cases.rest.now) (map plain_item c.in_ok-items.items) (option_map plain_atom c.in_ok-uses.uses)
    (script_cases_of (plain_script_cases c.in_ok-cases.cases), plain_atoms c.in_ok-cases.join) c.in_ok-items.ensures c.in_ok-uses.ensures c.in_ok-cases.ensures
    ∙ ap (λ l. Ok (l, lines c.in_ok-cases.rest.now)) (sym (ap (map plain_item) c.in_ok-push.ensures.ok ∙ map_append plain_item c.in_ok-items.items _ ∙ ap (λ i. map plain_item c.in_ok-items.items ++ i ∷ []) (plain_do c.in_ok-uses.uses c.in_ok-cases.cases c.in_ok-cases.join)))

pub commands-returns-in_err-front : goal.commands-returns-in_err-front
commands-returns-in_err-front t c =
    let p = err_from_is_err_and c.from_residual.result c.from_residual.ensures.1 in
    let s = cause c.in_err-front.field-0.0 in
    let next = next_commands c.args.commands.now c.loop-i.i c.index-commands-i.result c.loop-i-test.true c.index-commands-i.is in
    hands_on _ c.from_residual.result c.in_err-front.field-0.0 _ (p.1 ∙ ap Err p.2)
    (stops_same s _ _ (ap (λ l. with_front (map plain_item c.loop-i.items) (commands_by (piece_of (plain_program c.args.program.now)) l (lines c.loop-i.rest.now))) (sym next) ∙ c.loop-i.invariant)
    (command_stops (piece_of (plain_program c.args.program.now)) _ _ _ _ (map plain_item c.loop-i.items) s (lines c.loop-i.rest.now) c.in_err-front.ensures))

pub commands-loop-i-preserved : goal.commands-loop-i-preserved
commands-loop-i-preserved t c =
    let next = next_commands c.args.commands.now c.loop-i.i c.index-commands-i.result c.loop-i-test.true c.index-commands-i.is in
    let read = command_read (piece_of (plain_program c.args.program.now)) _ _ _ (commands_of (plain_commands (drop (c.loop-i.i + 1) c.args.commands.now))) (map plain_item c.loop-i.items) (map plain_item c.in_ok-front.front) (lines c.loop-i.rest.now) (lines c.in_ok-front.more.now) c.in_ok-front.ensures in
    ap (λ l. with_front l (commands_by (piece_of (plain_program c.args.program.now)) (commands_of (plain_commands (drop (c.loop-i.i + 1) c.args.commands.now))) (lines c.in_ok-front.more.now))) (ap (map plain_item) c.in_ok-append.ensures ∙ map_append plain_item c.loop-i.items c.in_ok-front.front)
    ∙ sym read ∙ ap (λ l. with_front (map plain_item c.loop-i.items) (commands_by (piece_of (plain_program c.args.program.now)) l (lines c.loop-i.rest.now))) (sym next) ∙ c.loop-i.invariant

pub commands-returns-in_err-front-2 : goal.commands-returns-in_err-front-2
commands-returns-in_err-front-2 t c =
    let p = err_from_is_err_and c.from_residual-in_err-front-2.result c.from_residual-in_err-front-2.ensures.1 in
    let s = cause c.in_err-front-2.field-0.0 in
    let none = no_commands c.args.commands.now c.loop-i.i (omega arith) in
    hands_on _ c.from_residual-in_err-front-2.result c.in_err-front-2.field-0.0 _ (p.1 ∙ ap Err p.2)
    (stops_same s _ _ (ap (λ l. with_front (map plain_item c.loop-i.items) (commands_by (piece_of (plain_program c.args.program.now)) l (lines c.loop-i.rest.now))) (sym none) ∙ c.loop-i.invariant)
    (last_unseen (piece_of (plain_program c.args.program.now)) (map plain_item c.loop-i.items) s (lines c.loop-i.rest.now) c.in_err-front-2.ensures))

pub commands-returns-in_err-more : goal.commands-returns-in_err-more
commands-returns-in_err-more t c =
    let p = err_from_is_err_and c.from_residual-in_err-more.result c.from_residual-in_err-more.ensures.1 in
    let s = cause c.in_err-more.field-0.0 in
    let none = no_commands c.args.commands.now c.loop-i.i (omega arith) in
    hands_on _ c.from_residual-in_err-more.result c.in_err-more.field-0.0 _ (p.1 ∙ ap Err p.2)
    (stops_same s _ _ (ap (λ l. with_front (map plain_item c.loop-i.items) (commands_by (piece_of (plain_program c.args.program.now)) l (lines c.loop-i.rest.now))) (sym none) ∙ c.loop-i.invariant)
    (last_unended (piece_of (plain_program c.args.program.now)) (map plain_item c.loop-i.items) (map plain_item c.in_ok-front-2.front) s (lines c.loop-i.rest.now) (lines c.in_ok-front-2.more.now) c.in_ok-front-2.ensures c.in_err-more.ensures))

pub commands-returns : goal.commands-returns
commands-returns t c =
    let none = no_commands c.args.commands.now c.loop-i.i (omega arith) in
    sym c.loop-i.invariant ∙ ap (λ l. with_front (map plain_item c.loop-i.items) (commands_by (piece_of (plain_program c.args.program.now)) l (lines c.loop-i.rest.now))) none
    ∙ last_done (piece_of (plain_program c.args.program.now)) (map plain_item c.loop-i.items) (map plain_item c.in_ok-front-2.front) (lines c.loop-i.rest.now) (lines c.in_ok-front-2.more.now) (lines c.in_ok-more.more.now) c.in_ok-front-2.ensures c.in_ok-more.ensures
    ∙ ap (λ l. Ok (l, lines c.in_ok-more.more.now)) (sym (ap (map plain_item) c.in_ok-append-2.ensures ∙ map_append plain_item c.loop-i.items c.in_ok-front-2.front))

pub some_cases-returns-in_err-script : goal.some_cases-returns-in_err-script
some_cases-returns-in_err-script t c =
    let p = err_from_is_err_and c.from_residual.result c.from_residual.ensures.1 in
    let s = cause c.in_err-script.field-0.0 in
    let next = next_case c.args.cases.now c.loop-i.i c.index-cases-i.result c.loop-i-test.true c.index-cases-i.is in
    hands_on _ c.from_residual.result c.in_err-script.field-0.0 _ (p.1 ∙ ap Err p.2)
    (stops_same s _ _ (ap (λ l. with_cases (map plain_script_case c.loop-i.scripts) (cases_by (piece_of (plain_program c.args.program.now)) c.args.numbered (walked_of c.args.walked) l (lines c.loop-i.rest.now))) (sym next) ∙ c.loop-i.invariant)
    (case_stopped (piece_of (plain_program c.args.program.now)) c.args.numbered (walked_of c.args.walked) _ _ _ (map plain_script_case c.loop-i.scripts) s (lines c.loop-i.rest.now) (sym c.has_script.ensures ∙ c.if-has_script.true) c.in_err-script.ensures))

pub some_cases-returns : goal.some_cases-returns
some_cases-returns t c =
    let none = no_case_left c.args.cases.now c.loop-i.i (omega arith) in
    sym c.loop-i.invariant ∙ ap (λ l. with_cases (map plain_script_case c.loop-i.scripts) (cases_by (piece_of (plain_program c.args.program.now)) c.args.numbered (walked_of c.args.walked) l (lines c.loop-i.rest.now))) none
    ∙ cases_done (piece_of (plain_program c.args.program.now)) c.args.numbered (walked_of c.args.walked) (map plain_script_case c.loop-i.scripts) (lines c.loop-i.rest.now)

pub brought-returns-in-Match : goal.brought-returns-in-Match
brought-returns-in-Match t c =
    let p = piece_of (plain_program c.args.program.now) in
    let uses = option_map plain_atom c.args.uses.now in
    subst (λ r. Gives (λ x. ((script_cases_of (map plain_script_case x.0), plain_atoms x.1), lines x.2.now)) c.match_cases.result r)
    (sym (ap (λ o. op_by p (plain_op o) uses (lines c.args.bytes.now)) c.in-Match.is ∙ ap (λ o. op_by p o uses (lines c.args.bytes.now)) (plain_match _ _ c.in-Match.cases _) ∙ match_is p _ _ _ _ uses (lines c.args.bytes.now) ∙ ap (λ l. match_by p uses (cases_of (plain_cases l)) (lines c.args.bytes.now)) (sym c.as_slice.ensures)))
    c.match_cases.ensures

pub some_cases-loop-i-preserved : goal.some_cases-loop-i-preserved
some_cases-loop-i-preserved t c =
    let piece = piece_of (plain_program c.args.program.now) in
    let walked = walked_of c.args.walked in
    let left = cases_of (plain_cases (drop (c.loop-i.i + 1) c.args.cases.now)) in
    let next = next_case c.args.cases.now c.loop-i.i c.index-cases-i.result c.loop-i-test.true c.index-cases-i.is in
    let before = ap (λ l. with_cases (map plain_script_case c.loop-i.scripts) (cases_by piece c.args.numbered walked l (lines c.loop-i.rest.now))) (sym next) ∙ c.loop-i.invariant in
    elim c.if-has_script.branch [
      | some_cases-then-has_script+in_ok-script+in_ok-push w ↦ (
          let read = case_read piece c.args.numbered walked _ _ left (map plain_script_case c.loop-i.scripts) (plain_script_case w.in_ok-script.script) (lines c.loop-i.rest.now) (lines w.in_ok-script.more.now) (sym c.has_script.ensures ∙ w.if-has_script.true) w.in_ok-script.ensures in
          ap (λ s. with_cases (map plain_script_case s) (cases_by piece c.args.numbered walked left (lines c.if-has_script.rest.now))) w.scripts-is
          ∙ ap (λ (r : Bor (List ℕ)). with_cases (map plain_script_case w.push.new.self) (cases_by piece c.args.numbered walked left (lines r.now))) w.rest-is
          ∙ ap (λ l. with_cases l (cases_by piece c.args.numbered walked left (lines w.in_ok-script.more.now))) (ap (map plain_script_case) w.in_ok-push.ensures.ok ∙ map_append plain_script_case c.loop-i.scripts _)
          ∙ sym read ∙ before
          )
      | some_cases-else-has_script w ↦ (
          let passed = case_passed piece c.args.numbered walked _ _ left (lines c.loop-i.rest.now) (sym c.has_script.ensures ∙ w.if-has_script.false) in
          ap (λ s. with_cases (map plain_script_case s) (cases_by piece c.args.numbered walked left (lines c.if-has_script.rest.now))) w.scripts-is
          ∙ ap (λ (r : Bor (List ℕ)). with_cases (map plain_script_case c.loop-i.scripts) (cases_by piece c.args.numbered walked left (lines r.now))) w.rest-is
          ∙ ap (with_cases (map plain_script_case c.loop-i.scripts)) (sym passed) ∙ before
          )
    ]
