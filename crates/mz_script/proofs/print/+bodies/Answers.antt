use Rattle.std.proofs.Common.{◌≡◌, ◌++◌, OnOk, List, [], ap, sym, subst, option_map, ◌∙◌, append_assoc, append-nil, arith}
use Rattle.mz_tree.specs.View.{plain_atom, plain_atoms, plain_program}
use Rattle.mz_tree.specs.declared.types.Atom.{Atom as CodeAtom}
use Rattle.mz_deriv.specs.Scripts.{Do_item, script_cases_of}
use Rattle.mz_deriv.specs.View.{plain_item, plain_script_cases}
use Rattle.mz_deriv.proofs.Views.{plain_do}
use Rattle.mz_script.specs.Pieces.{Do_line, Join_line, case_pieces, join_pieces}
use Rattle.mz_script.specs.Lines.{line_of}
use Rattle.mz_script.specs.Parts.{item_pieces, lines_text}
use Rattle.mz_script.proofs.Printing.{has_some, parts_done, with_join}
use Rattle.mz_script.proofs.print.+bodies.Goals as goal

pub branches-returns : goal.branches-returns
branches-returns t c =
    let p = plain_program c.args.program.now in
    let cases = c.args.cases.now in
    let join = plain_atoms c.args.join.now in
    let start : List _ = c.args.out.now.items in
    let written : c.loop-k.out.items ++ [] ≡ start ++ lines_text p (case_pieces (script_cases_of (plain_script_cases cases))) = parts_done (λ cs. lines_text p (case_pieces (script_cases_of (plain_script_cases cs)))) cases c.loop-k.k c.loop-k.out.items (start ++ lines_text p (case_pieces (script_cases_of (plain_script_cases cases)))) (omega arith) c.loop-k.invariant in
    let some : cases ≡ [] → ⊥ = has_some cases (sym c.is_empty.ensures ∙ c.if-is_empty.false) in
    let whole = ap (λ l. l ++ line_of p (Join_line join)) (sym (append-nil c.loop-k.out.items) ∙ written) ∙ with_join p cases join start some in
    subst (λ l. OnOk c.join_line.result (c.join_line.new.out.items ≡ l)) whole c.join_line.ensures

pub item-returns-in_ok-do_line-in-Do : goal.item-returns-in_ok-do_line-in-Do
item-returns-in_ok-do_line-in-Do t c =
    let p = plain_program c.args.program.now in
    let start : List _ = c.args.out.now.items in
    let uses = option_map plain_atom c.in-Do.uses in
    let cases : List _ = c.in-Do.cases in
    let join : List CodeAtom = c.in-Do.join in
    let is : plain_item c.args.item.now ≡ Do_item uses (script_cases_of (plain_script_cases cases)) (plain_atoms join) = ap plain_item c.in-Do.is ∙ plain_do c.in-Do.uses cases join in
    let front : c.do_line.new.out.items ≡ start ++ line_of p (Do_line uses) = c.in_ok-do_line-in-Do.ensures in
    let more = λ (cs : List _) (js : List CodeAtom). lines_text p (case_pieces (script_cases_of (plain_script_cases cs)) ++ join_pieces (script_cases_of (plain_script_cases cs)) (plain_atoms js)) in
    let same : c.do_line.new.out.items ++ more c.as_slice.result.now c.as_slice-in-Do.result.now ≡ start ++ lines_text p (item_pieces (plain_item c.args.item.now)) =
    ap (λ l. l ++ more c.as_slice.result.now c.as_slice-in-Do.result.now) front ∙ ap (λ cs. (start ++ line_of p (Do_line uses)) ++ more cs c.as_slice-in-Do.result.now) c.as_slice.ensures
    ∙ ap (λ js. (start ++ line_of p (Do_line uses)) ++ more cases js) c.as_slice-in-Do.ensures ∙ append_assoc start (line_of p (Do_line uses)) (more cases join)
    ∙ ap (λ i. start ++ lines_text p (item_pieces i)) (sym is) in
    subst (λ l. OnOk c.branches.result (c.branches.new.out.items ≡ l)) same c.branches.ensures
