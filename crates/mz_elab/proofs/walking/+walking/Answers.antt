use Rattle.std.proofs.Common.{◌≡◌, ◌≤◌, Ok, Err, refl, ap, ◌∙◌, sym, subst, reverse, length, [], ◌∷◌, map}
use Rattle.std.proofs.lemmas.Result.{err_from_is_err_and}
use Rattle.mz_tree.specs.Plain.{Has_atom, Named_type}
use Rattle.mz_tree.specs.Code.{Case, Match_op, The_command, body_of, cases_of, con_of}
use Rattle.mz_tree.specs.View.{plain_atom, plain_atoms, plain_body, plain_case, plain_cases, plain_command, plain_op}
use Rattle.mz_tree.specs.declared.code.Body.{out-Body}
use Rattle.mz_tree.specs.declared.code.Case.{out-Case}
use Rattle.mz_tree.proofs.CodeViews.{plain_match, plain_case_is}
use Rattle.mz_decl.specs.View.{plain_decls}
use Rattle.mz_decl.proofs.Adopters.{get_map}
use Rattle.mz_index.specs.Finding.{IsFirst}
use Rattle.mz_deriv.specs.View.{plain_item}
use Rattle.mz_goal.specs.Needs.{Needs}
use Rattle.mz_goal.proofs.Viewing.{known}
use Rattle.mz_elab.specs.Standing.{IsKnown}
use Rattle.mz_elab.specs.Sought.{FirstAt}
use Rattle.mz_elab.specs.Guided.{GuidedAll}
use Rattle.mz_elab.specs.Opening.{open_case}
use Rattle.mz_elab.specs.Joining.{plain_end, plain_ends}
use Rattle.mz_elab.specs.Walking.{BodyOr, BranchesOr, GoesOver, JoinsOr, OpensCon, PutsIn, WalksTo}
use Rattle.mz_elab.proofs.AllGiving.{at_index}
use Rattle.mz_elab.proofs.Walked.{Stands, walk_start, walk_next, walk_fault, walk_end, end_is, bound_more}
use Rattle.mz_elab.proofs.Forked.{goes_straight}
use Rattle.mz_elab.proofs.Tested.{test_fault, first_fault, second_fault, test_joined}
use Rattle.mz_elab.proofs.Matched.{known_block, known_fault, known_joined, match_lacks, each_fault, each_joined, own_is, puts_of, same_cases, case_walked, cases_fault, cases_next, cases_end, seen_cases}
use Rattle.mz_elab.proofs.walking.+walking.Goals as goal

pub go-returns-in_err-meet_goals-in-If : goal.go-returns-in_err-meet_goals-in-If
go-returns-in_err-meet_goals-in-If t c =
    let D = plain_decls c.args.decls.now in
    let names = reverse c.args.bound.now in
    let p = err_from_is_err_and c.from_residual-in_err-meet_goals-in-If.result c.from_residual-in_err-meet_goals-in-If.ensures.1 in
    let goals = ap plain_atoms c.as_slice.ensures ∙ c.in_ok-goals-in-If.ensures ∙ ap (λ a. a ∷ []) c.number.ensures in
    subst (λ r. GoesOver {A = Unit {0}} D names c.args.state.now c.args.next.now (plain_command c.args.command.now) c.meet_goals.new.state c.args.next.now r) (sym (p.1 ∙ ap Err p.2))
    (test_fault D names c.args.state.now c.args.next.now (plain_command c.args.command.now) c.in-If.test (plain_body c.in-If.yes) (plain_body c.in-If.other) (plain_atoms c.in-If.giving) (ap plain_op c.in-If.is) (IsKnown c.args.bound.now c.args.next.now) (plain_atoms c.as_slice.result.now) c.meet_goals.new.state c.meet_goals.new.state
    (map plain_item c.args.items.now) (map plain_item c.meet_goals.new.items) c.args.next.now c.in_err-meet_goals-in-If.field-0.0 goals c.in_err-meet_goals-in-If.ensures)

pub go-returns-in_err-first-in-If : goal.go-returns-in_err-first-in-If
go-returns-in_err-first-in-If t c =
    let D = plain_decls c.args.decls.now in
    let names = reverse c.args.bound.now in
    let p = err_from_is_err_and c.from_residual-in_err-first-in-If.result c.from_residual-in_err-first-in-If.ensures.1 in
    let goals = ap plain_atoms c.as_slice.ensures ∙ c.in_ok-goals-in-If.ensures ∙ ap (λ a. a ∷ []) c.number.ensures in
    let needs = subst (λ l. Needs D c.args.state.now l c.meet_goals.new.state) goals c.in_ok-meet_goals-in-If.ensures.0 in
    subst (λ r. GoesOver {A = Unit {0}} D names c.args.state.now c.args.next.now (plain_command c.args.command.now) c.meet_goals.new.state c.walk.new.next r) (sym (p.1 ∙ ap Err p.2))
    (first_fault D names c.args.state.now c.args.next.now (plain_command c.args.command.now) c.in-If.test (plain_body c.in-If.yes) (plain_body c.in-If.other) (plain_atoms c.in-If.giving) (ap plain_op c.in-If.is) c.meet_goals.new.state needs c.walk.new.next c.walk.new.next c.meet_goals.new.state c.in_err-first-in-If.field-0.0
    (subst (λ L. BodyOr D names L c.args.next.now (plain_body c.in-If.yes) c.walk.new.next (Err c.in_err-first-in-If.field-0.0)) c.in_ok-left-in-If.ensures c.in_err-first-in-If.ensures))

pub go-match_is_scoped-requires-clause-is : goal.go-match_is_scoped-requires-clause-is
go-match_is_scoped-requires-clause-is t c =
    ap plain_op c.in-Match.is ∙ plain_match c.in-Match.block c.in-Match.variety c.in-Match.cases c.in-Match.giving
    ∙ ap (λ l. Match_op c.in-Match.block c.in-Match.variety (cases_of (plain_cases l)) (plain_atoms c.in-Match.giving)) (sym c.as_slice-cases.ensures)
    ∙ ap (λ l. Match_op c.in-Match.block c.in-Match.variety (cases_of (plain_cases c.as_slice-cases.result.now)) (plain_atoms l)) (sym c.as_slice-giving.ensures)

pub go-returns-in_default : goal.go-returns-in_default
go-returns-in_default t c = goes_straight (plain_decls c.args.decls.now) (reverse c.args.bound.now) c.args.state.now c.args.next.now (plain_command c.args.command.now) c.act.new.state c.act.new.next c.act.result c.act.ensures

pub go-returns-in_err-second-in-If : goal.go-returns-in_err-second-in-If
go-returns-in_err-second-in-If t c =
    let D = plain_decls c.args.decls.now in
    let names = reverse c.args.bound.now in
    let p = err_from_is_err_and c.from_residual-in_err-second-in-If.result c.from_residual-in_err-second-in-If.ensures.1 in
    let goals = ap plain_atoms c.as_slice.ensures ∙ c.in_ok-goals-in-If.ensures ∙ ap (λ a. a ∷ []) c.number.ensures in
    let needs = subst (λ l. Needs D c.args.state.now l c.meet_goals.new.state) goals c.in_ok-meet_goals-in-If.ensures.0 in
    let first = subst (λ L. WalksTo D names L c.args.next.now (plain_body c.in-If.yes) c.walk.new.next c.in_ok-first-in-If.first) c.in_ok-left-in-If.ensures c.in_ok-first-in-If.ensures in
    subst (λ r. GoesOver {A = Unit {0}} D names c.args.state.now c.args.next.now (plain_command c.args.command.now) c.meet_goals.new.state c.walk-in-If.new.next r) (sym (p.1 ∙ ap Err p.2))
    (second_fault D names c.args.state.now c.args.next.now (plain_command c.args.command.now) c.in-If.test (plain_body c.in-If.yes) (plain_body c.in-If.other) (plain_atoms c.in-If.giving) (ap plain_op c.in-If.is) c.meet_goals.new.state needs c.walk.new.next c.in_ok-first-in-If.first first
    c.walk-in-If.new.next c.walk-in-If.new.next c.meet_goals.new.state c.in_err-second-in-If.field-0.0
    (subst (λ L. BodyOr D names L c.walk.new.next (plain_body c.in-If.other) c.walk-in-If.new.next (Err c.in_err-second-in-If.field-0.0)) c.in_ok-left-in-If-2.ensures c.in_err-second-in-If.ensures))

pub go-returns-in_ok-ends-in-If : goal.go-returns-in_ok-ends-in-If
go-returns-in_ok-ends-in-If t c =
    let D = plain_decls c.args.decls.now in
    let names = reverse c.args.bound.now in
    let goals = ap plain_atoms c.as_slice.ensures ∙ c.in_ok-goals-in-If.ensures ∙ ap (λ a. a ∷ []) c.number.ensures in
    let needs = subst (λ l. Needs D c.args.state.now l c.meet_goals.new.state) goals c.in_ok-meet_goals-in-If.ensures.0 in
    let first = subst (λ L. WalksTo D names L c.args.next.now (plain_body c.in-If.yes) c.walk.new.next c.in_ok-first-in-If.first) c.in_ok-left-in-If.ensures c.in_ok-first-in-If.ensures in
    let second = subst (λ L. WalksTo D names L c.walk.new.next (plain_body c.in-If.other) c.walk-in-If.new.next c.in_ok-second-in-If.second) c.in_ok-left-in-If-2.ensures c.in_ok-second-in-If.ensures in
    let joins =
    subst (λ R. JoinsOr D names R c.args.command.now.to (plain_atoms c.in-If.giving) (plain_end c.in_ok-first-in-If.first ∷ plain_end c.in_ok-second-in-If.second ∷ []) c.join_in.new.state c.join_in.result) c.in_ok-before-in-If.ensures
    (subst (λ l. JoinsOr D names c.in_ok-before-in-If.before c.args.command.now.to (plain_atoms l) (plain_end c.in_ok-first-in-If.first ∷ plain_end c.in_ok-second-in-If.second ∷ []) c.join_in.new.state c.join_in.result) c.as_slice-in-If.ensures
    (subst (λ l. JoinsOr D names c.in_ok-before-in-If.before c.args.command.now.to (plain_atoms c.as_slice-in-If.result.now) (plain_ends l) c.join_in.new.state c.join_in.result) c.in_ok-ends-in-If.ensures c.join_in.ensures)) in
    test_joined D names c.args.state.now c.args.next.now (plain_command c.args.command.now) c.in-If.test (plain_body c.in-If.yes) (plain_body c.in-If.other) (plain_atoms c.in-If.giving) (ap plain_op c.in-If.is) c.meet_goals.new.state needs c.walk.new.next c.in_ok-first-in-If.first first
    c.walk-in-If.new.next c.in_ok-second-in-If.second c.join_in.new.state c.join_in.result second joins

pub go-returns-in-Match : goal.go-returns-in-Match
go-returns-in-Match t c =
    let D = plain_decls c.args.decls.now in
    let is =
    ap plain_op c.in-Match.is ∙ plain_match c.in-Match.block c.in-Match.variety c.in-Match.cases c.in-Match.giving
    ∙ ap (λ l. Match_op c.in-Match.block c.in-Match.variety (cases_of (plain_cases l)) (plain_atoms c.in-Match.giving)) (sym c.as_slice-cases.ensures)
    ∙ ap (λ l. Match_op c.in-Match.block c.in-Match.variety (cases_of (plain_cases c.as_slice-cases.result.now)) (plain_atoms l)) (sym c.as_slice-giving.ensures) in
    subst (λ op. GoesOver D (reverse c.args.bound.now) c.args.state.now c.args.next.now (The_command c.args.command.now.to op c.args.command.now.place) c.go_match.new.state c.go_match.new.next c.go_match.result) (sym is) c.go_match.ensures

pub match_closed-returns-in-None : goal.match_closed-returns-in-None
match_closed-returns-in-None t c =
    let D = plain_decls c.args.decls.now in
    match_lacks D (reverse c.args.bound.now) c.args.state.now c.args.next.now c.args.to c.args.block c.args.variety (plain_cases c.args.cases.now) (plain_atoms c.args.giving.now) c.args.place c.requires.alone
    (subst (FirstAt c.args.state.now c.args.block (λ ty. ty ≡ Named_type c.args.variety)) c.in-None.is c.in_ok-first_of.ensures)

pub match_each-returns-in_err-ends : goal.match_each-returns-in_err-ends
match_each-returns-in_err-ends t c =
    let D = plain_decls c.args.decls.now in
    let names = reverse c.args.bound.now in
    let cases = plain_cases c.args.cases.now in
    let R = c.args.state.now in
    let p = err_from_is_err_and c.from_residual-in_err-ends.result c.from_residual-in_err-ends.ensures.1 in
    let f = c.requires.first in
    let own = c.subject-own.ensures ∙ own_is c.in_ok-before.before R c.args.block c.args.at (λ ty. ty ≡ Named_type c.args.variety) (plain_atom c.at.result.now) f c.in_ok-before.ensures c.at.ensures in
    let puts = puts_of D R c.args.at c.args.variety ((known D c.args.modes.now c.requires.modes).affine (Has_atom 0 (Named_type c.args.variety))) in
    subst (λ r. GoesOver {A = Unit {0}} D names R c.args.next.now (The_command c.args.to (Match_op c.args.block c.args.variety (cases_of cases) (plain_atoms c.args.giving.now)) c.args.place) R c.each_case.new.next r) (sym (p.1 ∙ ap Err p.2))
    (each_fault D names R c.args.next.now c.args.to c.args.block c.args.variety cases (plain_atoms c.args.giving.now) c.args.place c.requires.alone c.args.at f puts.0 puts.1 c.each_case.new.next c.each_case.new.next R c.in_err-ends.field-0.0
    (same_cases D names c.args.next.now c.args.at c.args.variety cases c.each_case.new.next (Err c.in_err-ends.field-0.0) c.in_ok-before.before R c.subject-own.result f.first.fits.name c.in_ok-before.ensures own c.in_err-ends.ensures puts.0 puts.1))

pub match_each-returns : goal.match_each-returns
match_each-returns t c =
    let D = plain_decls c.args.decls.now in
    let names = reverse c.args.bound.now in
    let cases = plain_cases c.args.cases.now in
    let R = c.args.state.now in
    let f = c.requires.first in
    let own = c.subject-own.ensures ∙ own_is c.in_ok-before.before R c.args.block c.args.at (λ ty. ty ≡ Named_type c.args.variety) (plain_atom c.at.result.now) f c.in_ok-before.ensures c.at.ensures in
    let puts = puts_of D R c.args.at c.args.variety ((known D c.args.modes.now c.requires.modes).affine (Has_atom 0 (Named_type c.args.variety))) in
    let guided = same_cases D names c.args.next.now c.args.at c.args.variety cases c.each_case.new.next (Ok c.in_ok-ends.ends) c.in_ok-before.before R c.subject-own.result f.first.fits.name c.in_ok-before.ensures own c.in_ok-ends.ensures puts.0 puts.1 in
    each_joined D names R c.args.next.now c.args.to c.args.block c.args.variety cases (plain_atoms c.args.giving.now) c.args.place c.requires.alone c.args.at f puts.0 puts.1 c.each_case.new.next (plain_ends c.in_ok-ends.ends.items) c.join_in.new.state c.join_in.result guided
    (subst (λ S. JoinsOr D names S c.args.to (plain_atoms c.args.giving.now) (plain_ends c.in_ok-ends.ends.items) c.join_in.new.state c.join_in.result) c.in_ok-before.ensures c.join_in.ensures)

pub one_case-returns : goal.one_case-returns
one_case-returns t c = λ put p.
    let D = plain_decls c.args.decls.now in
    let x = c.args.case.now in
    let opens = c.in_ok-next.ensures put (subst (λ R. PutsIn D R c.args.at c.args.variety put) (sym c.in_ok-begun.ensures) p) in
    case_walked D (reverse c.args.bound.now) c.args.own c.args.variety c.args.next.now put c.args.state.now (plain_case x) c.open_con.new.state c.in_ok-next.field-0 c.walk.new.next (plain_body (out-Case x).body) c.walk.result
    (subst (λ con. OpensCon D c.args.own c.args.variety con c.args.next.now put c.open_con.new.state c.in_ok-next.field-0) (sym (ap con_of (plain_case_is x))) opens) (ap body_of (plain_case_is x)) c.walk.ensures

pub each_case-returns-in_err-end : goal.each_case-returns-in_err-end
each_case-returns-in_err-end t c = λ put p.
    let D = plain_decls c.args.decls.now in
    let names = reverse c.args.bound.now in
    let start = open_case D c.args.own c.args.variety put c.args.state.now in
    let q = err_from_is_err_and c.from_residual.result c.from_residual.ensures.1 in
    subst (λ r. BranchesOr D names c.args.next.now (map start (plain_cases c.args.cases.now)) c.one_case.new.next r) (sym (q.1 ∙ ap Err q.2))
    (subst (λ bs. BranchesOr D names c.args.next.now bs c.one_case.new.next (Err c.in_err-end.field-0.0)) (seen_cases start c.args.cases.now)
    (cases_fault D names c.args.next.now (λ k. start (plain_case k)) c.args.cases.now c.loop-i.ends.items c.loop-i.i c.loop-i.next c.index-cases-i.result c.loop-i-test.true c.index-cases-i.is (c.loop-i.invariant put p) c.one_case.new.next c.in_err-end.field-0.0 (c.in_err-end.ensures put p)))

pub each_case-loop-i-preserved : goal.each_case-loop-i-preserved
each_case-loop-i-preserved t c = λ put p.
    let D = plain_decls c.args.decls.now in
    let names = reverse c.args.bound.now in
    let start = open_case D c.args.own c.args.variety put c.args.state.now in
    cases_next D names c.args.next.now (λ k. start (plain_case k)) c.args.cases.now c.loop-i.ends.items c.loop-i.i c.loop-i.next c.index-cases-i.result c.loop-i-test.true c.index-cases-i.is (c.loop-i.invariant put p) c.one_case.new.next c.in_ok-end.end c.add_end.new.ends.items (c.in_ok-end.ensures put p) c.in_ok-add_end.ensures

pub each_case-returns : goal.each_case-returns
each_case-returns t c = λ put p.
    let D = plain_decls c.args.decls.now in
    let names = reverse c.args.bound.now in
    let start = open_case D c.args.own c.args.variety put c.args.state.now in
    subst (λ bs. GuidedAll D names c.args.next.now bs (plain_ends c.loop-i.ends.items) c.loop-i.next) (seen_cases start c.args.cases.now)
    (cases_end D names c.args.next.now (λ k. start (plain_case k)) c.args.cases.now c.loop-i.ends.items c.loop-i.i c.loop-i.next c.loop-i-test.false (c.loop-i.invariant put p))

pub match_known-returns-in_err-end : goal.match_known-returns-in_err-end
match_known-returns-in_err-end t c =
    let D = plain_decls c.args.decls.now in
    let names = reverse c.args.bound.now in
    let cases = plain_cases c.args.cases.now in
    let R = c.args.state.now in
    let x = c.index-cases-number.result in
    let f = c.requires.first in
    let here = get_map plain_case c.args.cases.now c.case_of-number.result x (at_index c.args.cases.now c.case_of-number.result x c.case_of-number.ensures.within c.index-cases-number.is) in
    let con = c.con_at.ensures f.first.fits.name f.first.fits.fits.con f.first.fits.fits.names f.first.fits.fits.adopts (known_block D c.in_ok-before.before R c.args.block c.args.variety c.args.at f c.in_ok-before.ensures) in
    let its = subst (λ k. IsFirst (λ (a : Case). con_of a ≡ k) cases c.case_of-number.result (plain_case x)) con (c.case_of-number.ensures.first (plain_case x) here) in
    let p = err_from_is_err_and c.from_residual-in_err-end.result c.from_residual-in_err-end.ensures.1 in
    subst (λ r. GoesOver {A = Unit {0}} D names R c.args.next.now (The_command c.args.to (Match_op c.args.block c.args.variety (cases_of cases) (plain_atoms c.args.giving.now)) c.args.place) R c.walk.new.next r) (sym (p.1 ∙ ap Err p.2))
    (known_fault D names R c.args.next.now c.args.to c.args.block c.args.variety cases (plain_atoms c.args.giving.now) c.args.place c.args.at f c.case_of-number.result (plain_case x) its c.walk.new.next c.walk.new.next R c.in_err-end.field-0.0
    (subst (λ b. BodyOr D names R c.args.next.now b c.walk.new.next (Err c.in_err-end.field-0.0)) (sym (ap body_of (plain_case_is x)))
    (subst (λ L. BodyOr D names L c.args.next.now (plain_body (out-Case x).body) c.walk.new.next (Err c.in_err-end.field-0.0)) c.in_ok-left.ensures c.in_err-end.ensures)))

pub match_known-returns : goal.match_known-returns
match_known-returns t c =
    let D = plain_decls c.args.decls.now in
    let names = reverse c.args.bound.now in
    let cases = plain_cases c.args.cases.now in
    let R = c.args.state.now in
    let x = c.index-cases-number.result in
    let f = c.requires.first in
    let here = get_map plain_case c.args.cases.now c.case_of-number.result x (at_index c.args.cases.now c.case_of-number.result x c.case_of-number.ensures.within c.index-cases-number.is) in
    let con = c.con_at.ensures f.first.fits.name f.first.fits.fits.con f.first.fits.fits.names f.first.fits.fits.adopts (known_block D c.in_ok-before.before R c.args.block c.args.variety c.args.at f c.in_ok-before.ensures) in
    let its = subst (λ k. IsFirst (λ (a : Case). con_of a ≡ k) cases c.case_of-number.result (plain_case x)) con (c.case_of-number.ensures.first (plain_case x) here) in
    let walked =
    subst (λ b. WalksTo D names R c.args.next.now b c.walk.new.next c.in_ok-end.end) (sym (ap body_of (plain_case_is x)))
    (subst (λ L. WalksTo D names L c.args.next.now (plain_body (out-Case x).body) c.walk.new.next c.in_ok-end.end) c.in_ok-left.ensures c.in_ok-end.ensures) in
    known_joined D names R c.args.next.now c.args.to c.args.block c.args.variety cases (plain_atoms c.args.giving.now) c.args.place c.args.at f c.case_of-number.result (plain_case x) its c.walk.new.next c.in_ok-end.end c.join_in.new.state c.join_in.result walked
    (subst (λ S. JoinsOr D names S c.args.to (plain_atoms c.args.giving.now) (plain_end c.in_ok-end.end ∷ []) c.join_in.new.state c.join_in.result) c.in_ok-before.ensures
    (subst (λ l. JoinsOr D names c.in_ok-before.before c.args.to (plain_atoms c.args.giving.now) (plain_ends l) c.join_in.new.state c.join_in.result) c.in_ok-ends.ensures c.join_in.ensures))

pub walk-loop-i-init : goal.walk-loop-i-init
walk-loop-i-init t c =
    let D = plain_decls c.args.decls.now in
    subst (λ cs. Stands D (reverse c.args.bound.now) c.args.begun c.args.next.now cs 0 c.in_ok-names.names c.args.begun c.args.next.now) (sym c.as_slice-commands.ensures)
    (walk_start D (reverse c.args.bound.now) c.args.begun c.args.next.now c.args.body.now c.in_ok-names.names c.requires.scoped (ap reverse c.in_ok-names.ensures))

pub walk-returns-in_err-go : goal.walk-returns-in_err-go
walk-returns-in_err-go t c =
    let D = plain_decls c.args.decls.now in
    let p = err_from_is_err_and c.from_residual-in_err-go.result c.from_residual-in_err-go.ensures.1 in
    subst (λ r. BodyOr D (reverse c.args.bound.now) c.args.begun c.args.next.now (plain_body c.args.body.now) c.go.new.next r) (sym (p.1 ∙ ap Err p.2))
    (walk_fault D (reverse c.args.bound.now) c.args.begun c.args.next.now c.as_slice-commands.result.now c.loop-i.i c.loop-i.names c.loop-i.state c.loop-i.next c.index-commands-i.result c.args.body.now c.go.new.state c.go.new.next c.go.new.next c.in_err-go.field-0.0
    c.as_slice-commands.ensures c.loop-i-test.true c.index-commands-i.is c.loop-i.invariant
    (subst (λ l. GoesOver {A = Unit {0}} D (reverse l) c.loop-i.state c.loop-i.next (plain_command c.index-commands-i.result) c.go.new.state c.go.new.next (Err c.in_err-go.field-0.0)) c.as_slice.ensures c.in_err-go.ensures))

pub walk-loop-i-preserved : goal.walk-loop-i-preserved
walk-loop-i-preserved t c =
    let D = plain_decls c.args.decls.now in
    walk_next D (reverse c.args.bound.now) c.args.begun c.args.next.now c.as_slice-commands.result.now c.loop-i.i c.loop-i.names c.loop-i.state c.loop-i.next c.index-commands-i.result c.go.new.state c.go.new.next c.bind.new.names
    c.loop-i-test.true c.index-commands-i.is c.loop-i.invariant (bound_more c.loop-i.names c.bind.new.names c.index-commands-i.result.to c.in_ok-bind.ensures)
    (subst (λ l. GoesOver {A = Unit {0}} D (reverse l) c.loop-i.state c.loop-i.next (plain_command c.index-commands-i.result) c.go.new.state c.go.new.next (Ok tt)) c.as_slice.ensures c.in_ok-go.ensures)

pub walk-returns : goal.walk-returns
walk-returns t c =
    let D = plain_decls c.args.decls.now in
    let names = reverse c.args.bound.now in
    let so = subst (λ cs. Stands D names c.args.begun c.args.next.now cs c.loop-i.i c.loop-i.names c.loop-i.state c.loop-i.next) c.as_slice-commands.ensures c.loop-i.invariant in
    let all = subst (λ cs. length cs ≤ c.loop-i.i) c.as_slice-commands.ensures c.loop-i-test.false in
    record {
      guided = walk_end D names c.args.begun c.args.next.now c.args.body.now c.loop-i.i c.loop-i.names c.loop-i.state c.loop-i.next all so;
      is = end_is c.args.body.now c.loop-i.state (record { state = c.loop-i.state; value = (out-Body c.args.body.now).result; brace = (out-Body c.args.body.now).place }) refl refl refl;
    }
