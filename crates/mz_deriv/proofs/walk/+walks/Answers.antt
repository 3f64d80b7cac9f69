use Rattle.std.proofs.Common.{◌≡◌, ◌+◌, ◌∷◌, [], ◌++◌, ℕ, List, true, map, drop, option_map, Err, Ok, sym, ap, ◌∙◌, arith, subst}
use Rattle.std.proofs.lemmas.Result.{err_from_is_err_and}
use Rattle.mz_tree.specs.Plain.{Atom, map_atom}
use Rattle.mz_tree.specs.Code.{commands_in, brace_of, op_branches}
use Rattle.mz_tree.specs.View.{plain_atom, plain_atoms, plain_op, plain_body, plain_command, plain_commands}
use Rattle.mz_tree.specs.declared.code.Command.{Command as CodeCommand}
use Rattle.mz_tree.specs.declared.code.Body.{out-Body}
use Rattle.mz_tree.proofs.CodeViews.{commands_in_body, brace_of_body, result_of_body}
use Rattle.mz_decl.specs.View.{plain_decls}
use Rattle.mz_decl.proofs.Limits.{item_at}
use Rattle.mz_modes.specs.Affine.{AffineAtom}
use Rattle.mz_modes.specs.Answers.{Answers}
use Rattle.mz_perm.specs.Using.{UsesUpAll, UsesUpAllBy}
use Rattle.mz_perm.proofs.Firsts.{uses_all_any}
use Rattle.mz_deriv.specs.Scripts.{script_cases_of}
use Rattle.mz_deriv.specs.Outer.{is_outer, all_in}
use Rattle.mz_deriv.specs.Walks.{in_place_of}
use Rattle.mz_deriv.specs.View.{plain_item, plain_script_cases}
use Rattle.mz_deriv.specs.Refused.{Refuses, Join_refused, BranchesRefuse, next_place}
use Rattle.mz_deriv.specs.Parts.{Leads, Makes, Through_branches, BranchLeads, BranchesLead}
use Rattle.mz_deriv.specs.declared.fault.DerivFault.TheVariants.{BadCommand, BadJoin}
use Rattle.mz_deriv.proofs.Leading.{Led, led_start}
use Rattle.mz_deriv.proofs.Loops.{IsStep, IsDo, IsNext, stepped, step_refused, done_one, do_refused, one_too_many, one_too_few, walked, moved}
use Rattle.mz_deriv.proofs.Made.{goes_straight, fork_refused, branches_refused}
use Rattle.mz_deriv.proofs.Outers.{outer_names, not_outer}
use Rattle.mz_deriv.proofs.Branching.{PassesAt, cases_seen, branch_at, pass_next, all_walk, one_refused_at}
use Rattle.mz_deriv.proofs.BranchAnswers.{inside_refused, branch_ends, end_refused}
use Rattle.mz_deriv.proofs.walk.+walks.Goals as goal
use Rattle.mz_deriv.proofs.walk.+walks.Goals.{walk-in-Step+in_ok-see-in-Step, walk-in-Do+else-done-commands+in_ok-make-in-Do+in_ok-bind-in-Do}

-- a join with this name for that one
abbrev joined_with : ℕ → ℕ → List (Atom ℕ) → List (Atom ℕ)
joined_with to value join = map (map_atom (in_place_of to value)) join

-- ---- one command

pub make-returns-then-not-branches : goal.make-returns-then-not-branches
make-returns-then-not-branches t c =
    goes_straight (plain_decls c.args.decls.now) c.args.bound.now c.args.state.now (plain_command c.args.command.now) (option_map plain_atom c.args.uses.now) (script_cases_of (plain_script_cases c.args.cases.now)) (plain_atoms c.args.join.now) c.go_straight.new.state c.go_straight.result c.go_straight.ensures

pub make-returns-in_err-fork : goal.make-returns-in_err-fork
make-returns-in_err-fork t c =
    let D = plain_decls c.args.decls.now in
    let k = plain_command c.args.command.now in
    let p = err_from_is_err_and c.from_residual.result c.from_residual.ensures.1 in
    let forks : op_branches (plain_op c.args.command.now.op) ≡ true = sym c.branches.ensures ∙ c.if-not-branches.false in
    subst (λ r. Makes {A = Unit {0}} D c.args.bound.now c.args.state.now k (option_map plain_atom c.args.uses.now) (script_cases_of (plain_script_cases c.args.cases.now)) (plain_atoms c.args.join.now) c.args.state.now r) (sym (p.1 ∙ ap Err p.2))
    (fork_refused D c.args.bound.now c.args.state.now k (option_map plain_atom c.args.uses.now) (script_cases_of (plain_script_cases c.args.cases.now)) (plain_atoms c.args.join.now) c.args.state.now c.in_err-fork.field-0.0 forks c.in_err-fork.ensures)

pub make-returns-then-not-names_outer : goal.make-returns-then-not-names_outer
make-returns-then-not-names_outer t c = λ names h commands items brace made.
    let k = plain_command c.args.command.now in
    let join = plain_atoms c.args.join.now in
    let no = sym (ap (λ l. all_in (is_outer c.args.bound.now c.args.state.now c.args.command.now.to) (plain_atoms l)) c.as_slice.ensures) ∙ sym c.names_outer.ensures ∙ c.if-not-names_outer.true in
    Join_refused c.in_ok-fork.ensures.0 c.in_ok-fork.ensures.1 (not_outer c.args.bound.now c.args.state.now k join names h no)

pub make-returns-in_err-walk_branches : goal.make-returns-in_err-walk_branches
make-returns-in_err-walk_branches t c =
    let D = plain_decls c.args.decls.now in
    let k = plain_command c.args.command.now in
    let u = option_map plain_atom c.args.uses.now in
    let cases = script_cases_of (plain_script_cases c.args.cases.now) in
    let join = plain_atoms c.args.join.now in
    let p = err_from_is_err_and c.from_residual-in_err-walk_branches.result c.from_residual-in_err-walk_branches.ensures.1 in
    let yes = sym (ap (λ l. all_in (is_outer c.args.bound.now c.args.state.now c.args.command.now.to) (plain_atoms l)) c.as_slice.ensures) ∙ sym c.names_outer.ensures ∙ c.if-not-names_outer.false in
    let refused = subst (λ l. BranchesLead {A = Unit {0}} D c.args.bound.now c.args.state.now k u (script_cases_of (plain_script_cases l)) join (Err c.in_err-walk_branches.field-0.0)) c.as_slice-2.ensures c.in_err-walk_branches.ensures in
    subst (λ r. Makes {A = Unit {0}} D c.args.bound.now c.args.state.now k u cases join c.args.state.now r) (sym (p.1 ∙ ap Err p.2))
    (branches_refused D c.args.bound.now c.args.state.now k u cases join c.args.state.now c.in_err-walk_branches.field-0.0 (λ names h. outer_names c.args.bound.now c.args.state.now k join names h yes) refused)

pub make-returns : goal.make-returns
make-returns t c = λ names h.
    let D = plain_decls c.args.decls.now in
    let k = plain_command c.args.command.now in
    let u = option_map plain_atom c.args.uses.now in
    let join = plain_atoms c.args.join.now in
    let yes = sym (ap (λ l. all_in (is_outer c.args.bound.now c.args.state.now c.args.command.now.to) (plain_atoms l)) c.as_slice.ensures) ∙ sym c.names_outer.ensures ∙ c.if-not-names_outer.false in
    let r = subst (λ l. BranchesLead {A = Unit {0}} D c.args.bound.now c.args.state.now k u (script_cases_of (plain_script_cases l)) join (Ok tt)) c.as_slice-2.ensures c.in_ok-walk_branches.ensures names h in
    Through_branches r.0 r.1 (outer_names c.args.bound.now c.args.state.now k join names h yes) r.2 (c.in_ok-state.ensures ∙ ap plain_atoms c.as_slice-3.ensures)

-- ---- a body

pub walk-loop-i-init : goal.walk-loop-i-init
walk-loop-i-init t c =
    let D = plain_decls c.args.decls.now in
    let b = plain_body c.args.body.now in
    let q = map plain_item c.args.items.now in
    let from = c.args.bound.now in record {
      led = subst (λ n. Led D (brace_of b) from c.args.state.now (commands_in b) q n c.args.state.now (plain_commands c.as_slice-commands.result.now) q 0) (sym c.in_ok-names.ensures)
          (subst (λ cs. Led D (brace_of b) from c.args.state.now (commands_in b) q from c.args.state.now cs q 0) (commands_in_body c.args.body.now ∙ ap plain_commands (sym c.as_slice-commands.ensures)) (led_start D (brace_of b) from c.args.state.now (commands_in b) q));
      within = omega arith;
      few = omega arith;
    }

pub walk-returns-in_err-see-in-Step : goal.walk-returns-in_err-see-in-Step
walk-returns-in_err-see-in-Step t c =
    let D = plain_decls c.args.decls.now in
    let b = plain_body c.args.body.now in
    let p = err_from_is_err_and c.from_residual-in_err-see-in-Step.result c.from_residual-in_err-see-in-Step.ensures.1 in
    let s : IsStep c.args.items.now c.loop-i.i c.in-Step.step = record { item = c.index-items-i.result; within = c.loop-i-test.true; here = c.index-items-i.is; is = c.in-Step.is } in
    let place = c.next_place-place.ensures ∙ ap (next_place (plain_commands (drop c.loop-i.done c.as_slice-commands.result.now))) (sym (brace_of_body c.args.body.now)) in
    let refused = step_refused D b c.args.bound.now c.args.state.now c.args.items.now c.as_slice-commands.result.now c.loop-i.names c.loop-i.state c.loop-i.i c.loop-i.done c.loop-i.made c.in-Step.step c.next_place-place.result c.see.new.state c.see.new.state c.in_err-see-in-Step.field-0.0 c.loop-i.invariant.led s place c.in_err-see-in-Step.ensures in
    subst (λ r. Leads {A = Unit {0}} D c.args.bound.now c.args.state.now b (map plain_item c.args.items.now) c.see.new.state r) (sym (p.1 ∙ ap Err p.2)) refused

pub walk-returns-then-done-commands : goal.walk-returns-then-done-commands
walk-returns-then-done-commands t c =
    let D = plain_decls c.args.decls.now in
    let b = plain_body c.args.body.now in
    let s : IsDo c.args.items.now c.loop-i.i c.in-Do.uses c.in-Do.cases c.in-Do.join = record { item = c.index-items-i.result; within = c.loop-i-test.true; here = c.index-items-i.is; is = c.in-Do.is } in
    λ names h. subst (λ place. Refuses D names c.args.state.now (commands_in b) (map plain_item c.args.items.now) (brace_of b) 0 (BadCommand place)) (brace_of_body c.args.body.now)
    (one_too_many D b c.args.bound.now c.args.state.now c.args.items.now c.as_slice-commands.result.now c.loop-i.names c.loop-i.state c.loop-i.i c.loop-i.done c.loop-i.made c.in-Do.uses c.in-Do.cases c.in-Do.join c.loop-i.invariant.led s (omega arith) names h)

pub walk-returns-in_err-make-in-Do : goal.walk-returns-in_err-make-in-Do
walk-returns-in_err-make-in-Do t c =
    let D = plain_decls c.args.decls.now in
    let b = plain_body c.args.body.now in
    let p = err_from_is_err_and c.from_residual-in_err-make-in-Do.result c.from_residual-in_err-make-in-Do.ensures.1 in
    let s : IsDo c.args.items.now c.loop-i.i c.in-Do.uses c.in-Do.cases c.in-Do.join = record { item = c.index-items-i.result; within = c.loop-i-test.true; here = c.index-items-i.is; is = c.in-Do.is } in
    let n : IsNext c.as_slice-commands.result.now c.loop-i.done c.index-commands-done.result = record { within = omega arith; here = c.index-commands-done.is } in
    let refused = do_refused D b c.args.bound.now c.args.state.now c.args.items.now c.as_slice-commands.result.now c.loop-i.names c.loop-i.state c.loop-i.i c.loop-i.done c.loop-i.made c.in-Do.uses c.in-Do.cases c.in-Do.join c.index-commands-done.result c.make.new.state c.make.new.state c.in_err-make-in-Do.field-0.0 c.loop-i.invariant.led s n c.in_err-make-in-Do.ensures in
    subst (λ r. Leads {A = Unit {0}} D c.args.bound.now c.args.state.now b (map plain_item c.args.items.now) c.make.new.state r) (sym (p.1 ∙ ap Err p.2)) refused

pub walk-loop-i-preserved : goal.walk-loop-i-preserved
walk-loop-i-preserved t c =
    let D = plain_decls c.args.decls.now in
    let b = plain_body c.args.body.now in
    elim c.match-items-i.branch [
      | walk-in-Step+in_ok-see-in-Step w ↦ (
          let s : IsStep c.args.items.now c.loop-i.i w.in-Step.step = record { item = c.index-items-i.result; within = c.loop-i-test.true; here = c.index-items-i.is; is = w.in-Step.is } in
          let next = stepped D b c.args.bound.now c.args.state.now c.args.items.now c.as_slice-commands.result.now c.loop-i.names c.loop-i.state c.loop-i.i c.loop-i.done c.loop-i.made w.in-Step.step w.see.new.state c.loop-i.invariant.led s w.in_ok-see-in-Step.ensures in
          record {
            led = moved D b c.args.bound.now c.args.state.now c.args.items.now c.as_slice-commands.result.now c.match-items-i.names c.loop-i.names c.match-items-i.state w.see.new.state (c.loop-i.i + 1) c.match-items-i.done c.loop-i.done c.match-items-i.made (c.loop-i.made + 1) w.names-is w.state-is w.done-is w.made-is next;
            within = omega arith;
            few = omega arith;
          }
          )
      | walk-in-Do+else-done-commands+in_ok-make-in-Do+in_ok-bind-in-Do w ↦ (
          let s : IsDo c.args.items.now c.loop-i.i w.in-Do.uses w.in-Do.cases w.in-Do.join = record { item = c.index-items-i.result; within = c.loop-i-test.true; here = c.index-items-i.is; is = w.in-Do.is } in
          let n : IsNext c.as_slice-commands.result.now c.loop-i.done w.index-commands-done.result = record { within = omega arith; here = w.index-commands-done.is } in
          let next = done_one D b c.args.bound.now c.args.state.now c.args.items.now c.as_slice-commands.result.now c.loop-i.names c.loop-i.state c.loop-i.i c.loop-i.done c.loop-i.made w.in-Do.uses w.in-Do.cases w.in-Do.join w.index-commands-done.result w.make.new.state c.loop-i.invariant.led s n w.in_ok-make-in-Do.ensures in
          record {
            led = moved D b c.args.bound.now c.args.state.now c.args.items.now c.as_slice-commands.result.now c.match-items-i.names (c.loop-i.names ++ w.index-commands-done.result.to ∷ []) c.match-items-i.state w.make.new.state (c.loop-i.i + 1) c.match-items-i.done (c.loop-i.done + 1) c.match-items-i.made 0 (w.names-is ∙ w.in_ok-bind-in-Do.ensures) w.state-is w.done-is w.made-is next;
            within = omega arith;
            few = omega arith;
          }
          )
    ]

pub walk-returns-then-done-commands-2 : goal.walk-returns-then-done-commands-2
walk-returns-then-done-commands-2 t c =
    let k = c.index-commands-done-then-done-commands-2.result in
    let n : IsNext c.as_slice-commands.result.now c.loop-i.done k = record { within = omega arith; here = c.index-commands-done-then-done-commands-2.is } in
    λ names h.
    subst (λ (x : CodeCommand). Refuses (plain_decls c.args.decls.now) names c.args.state.now (commands_in (plain_body c.args.body.now)) (map plain_item c.args.items.now) (brace_of (plain_body c.args.body.now)) 0 (BadCommand x.place)) c.index-commands-done-then-done-commands-2.is
    (one_too_few (plain_decls c.args.decls.now) (plain_body c.args.body.now) c.args.bound.now c.args.state.now c.args.items.now c.as_slice-commands.result.now c.loop-i.names c.loop-i.state c.loop-i.i c.loop-i.done c.loop-i.made k c.loop-i.invariant.led (omega arith) n names h)

pub walk-returns : goal.walk-returns
walk-returns t c = walked (plain_decls c.args.decls.now) (plain_body c.args.body.now) c.args.bound.now c.args.state.now c.args.items.now c.as_slice-commands.result.now c.loop-i.names c.loop-i.state c.loop-i.i c.loop-i.done c.loop-i.made c.loop-i.invariant.led (omega arith) (omega arith)

-- ---- one branch

pub walk_branch-returns-in_err-walk : goal.walk_branch-returns-in_err-walk
walk_branch-returns-in_err-walk t c =
    let D = plain_decls c.args.decls.now in
    let p = err_from_is_err_and c.from_residual.result c.from_residual.ensures.1 in
    subst (λ r. BranchLeads {A = Unit {0}} D c.args.bound.now c.args.state.now (plain_command c.args.command.now) (plain_body c.args.body.now) (map plain_item c.args.items.now) (plain_atoms c.args.join.now) r) (sym (p.1 ∙ ap Err p.2))
    (inside_refused D c.args.bound.now c.args.state.now (plain_command c.args.command.now) (plain_body c.args.body.now) (map plain_item c.args.items.now) (plain_atoms c.args.join.now) c.walk.new.state c.in_err-walk.field-0.0 c.in_err-walk.ensures)

pub walk_branch-returns-in-Ok : goal.walk_branch-returns-in-Ok
walk_branch-returns-in-Ok t c =
    let D = plain_decls c.args.decls.now in
    let b = plain_body c.args.body.now in
    let k = plain_command c.args.command.now in
    let join = plain_atoms c.args.join.now in
    let wanted = c.in_ok-wanted.ensures ∙ ap (λ l. joined_with c.args.command.now.to (out-Body c.args.body.now).result (plain_atoms l)) c.as_slice.ensures ∙ ap (λ v. joined_with c.args.command.now.to v join) (sym (result_of_body c.args.body.now)) in
    let used = uses_all_any (AffineAtom D) _ c.walk.new.state c.end_rule.new.state (c.in-Ok.ensures D c.requires.modes) in
    branch_ends D c.args.bound.now c.args.state.now k b (map plain_item c.args.items.now) join c.walk.new.state c.end_rule.new.state c.in_ok-walk.ensures (subst (λ q. UsesUpAll (AffineAtom D) q c.walk.new.state c.end_rule.new.state) wanted used)

pub walk_branch-returns-in-Err-NoInstance : goal.walk_branch-returns-in-Err-NoInstance
walk_branch-returns-in-Err-NoInstance t c =
    let D = plain_decls c.args.decls.now in
    let b = plain_body c.args.body.now in
    let k = plain_command c.args.command.now in
    let join = plain_atoms c.args.join.now in
    let wanted = c.in_ok-wanted.ensures ∙ ap (λ l. joined_with c.args.command.now.to (out-Body c.args.body.now).result (plain_atoms l)) c.as_slice.ensures ∙ ap (λ v. joined_with c.args.command.now.to v join) (sym (result_of_body c.args.body.now)) in
    let refused = subst (λ f. Answers {A = Unit {0}} (λ which. UsesUpAllBy which (AffineAtom D) (plain_atoms c.in_ok-wanted.wanted) c.walk.new.state) c.walk.new.state c.end_rule.new.state (Err f)) c.in-Err-NoInstance.field-0-is (c.in-Err-NoInstance.ensures D c.requires.modes) in
    λ names h later. subst (λ place. BranchesRefuse D names k join (record { start = c.args.state.now; body = b; script = map plain_item c.args.items.now } ∷ later) (BadJoin place)) (brace_of_body c.args.body.now)
    (end_refused D c.args.bound.now c.args.state.now k b (map plain_item c.args.items.now) join c.walk.new.state c.in_ok-walk.ensures (λ rest u. refused.0 rest (subst (λ q. UsesUpAll (AffineAtom D) q c.walk.new.state rest) (sym wanted) u)) names h later)

-- ---- all branches

pub walk_branches-loop-k-init : goal.walk_branches-loop-k-init
walk_branches-loop-k-init t c = λ names h m l b x v g. absurd (omega (arith, l))

pub walk_branches-branch_start-requires-clause-begins : goal.walk_branches-branch_start-requires-clause-begins
walk_branches-branch_start-requires-clause-begins t c =
    let D = plain_decls c.args.decls.now in
    let here = item_at c.args.cases.now c.loop-k.k c.index-cases-k.result c.loop-k-test.true c.index-cases-k.is in
    let r = branch_at D c.args.state.now (plain_command c.args.command.now) (option_map plain_atom c.args.uses.now) c.args.cases.now c.requires.forks.0 c.requires.forks.1 c.loop-k.k c.index-cases-k.result here in
    (r.2.0, (r.0, r.2.1))

pub walk_branches-returns-in_err-walk_branch : goal.walk_branches-returns-in_err-walk_branch
walk_branches-returns-in_err-walk_branch t c =
    let D = plain_decls c.args.decls.now in
    let k = plain_command c.args.command.now in
    let u = option_map plain_atom c.args.uses.now in
    let join = plain_atoms c.args.join.now in
    let x = c.index-cases-k.result in
    let p = err_from_is_err_and c.from_residual-in_err-walk_branch.result c.from_residual-in_err-walk_branch.ensures.1 in
    let here = item_at c.args.cases.now c.loop-k.k x c.loop-k-test.true c.index-cases-k.is in
    let refused = subst (λ l. BranchLeads {A = Unit {0}} D c.args.bound.now c.in_ok-start.start k (plain_body c.in_ok-start.body.now) (map plain_item l) join (Err c.in_err-walk_branch.field-0.0)) c.as_slice-items.ensures c.in_err-walk_branch.ensures in
    subst (λ r. BranchesLead {A = Unit {0}} D c.args.bound.now c.args.state.now k u (cases_seen c.args.cases.now) join r) (sym (p.1 ∙ ap Err p.2))
    (one_refused_at D c.args.state.now k u c.args.bound.now join c.args.cases.now c.requires.forks.0 c.loop-k.k (plain_body c.in_ok-start.body.now) x c.requires.forks.1 here c.loop-k.invariant c.in_ok-start.start c.in_ok-start.ensures c.in_err-walk_branch.field-0.0 refused)

pub walk_branches-loop-k-preserved : goal.walk_branches-loop-k-preserved
walk_branches-loop-k-preserved t c = λ names h.
    let D = plain_decls c.args.decls.now in
    let k = plain_command c.args.command.now in
    let u = option_map plain_atom c.args.uses.now in
    let join = plain_atoms c.args.join.now in
    let x = c.index-cases-k.result in
    let body = plain_body c.in_ok-start.body.now in
    let here = item_at c.args.cases.now c.loop-k.k x c.loop-k-test.true c.index-cases-k.is in
    let e = subst (λ l. BranchLeads {A = Unit {0}} D c.args.bound.now c.in_ok-start.start k body (map plain_item l) join (Ok tt)) c.as_slice-items.ensures c.in_ok-walk_branch.ensures names h in
    let one : PassesAt D c.args.state.now k u names join c.loop-k.k body x = record { start = c.in_ok-start.start; begins = c.in_ok-start.ensures; last = e.last; walks = e.walks; rest = e.rest; ends = e.ends } in
    pass_next D c.args.state.now k u names join c.args.cases.now c.loop-k.k body x c.in_ok-start.ensures.walked here (c.loop-k.invariant names h) one

pub walk_branches-returns : goal.walk_branches-returns
walk_branches-returns t c = λ names h.
    all_walk (plain_decls c.args.decls.now) c.args.state.now (plain_command c.args.command.now) (option_map plain_atom c.args.uses.now) names (plain_atoms c.args.join.now) c.args.cases.now c.requires.forks.0 c.requires.forks.1 (λ m l b x v g. c.loop-k.invariant names h m (omega (arith, l)) b x v g)
