use Rattle.std.proofs.Common.{◌+◌, [], ◌∷◌, ◌++◌, drop, take, map, get_or, Some, sym, ap, ap₂, ◌∙◌, arith, reverse}
use Rattle.std.specs.Prelude.{option_map, unwrap_or}
use Rattle.std.specs.Option.{option_copied}
use Rattle.std.proofs.lemmas.List.{take_all, take_more}
use Rattle.mz_tree.specs.Code.{Unit_op, Arith_op, Write_op, If_op, Match_op, The_case, cases_of}
use Rattle.mz_tree.specs.View.{plain_op, plain_atoms, plain_body, plain_case, plain_cases, plain_commands}
use Rattle.mz_tree.specs.declared.code.Op.{Match as MatchCode}
use Rattle.mz_tree.specs.declared.code.Case.{roll-Case, rolls-Case'}
use Rattle.mz_tree.proofs.CodeViews.{plain_match}
use Rattle.mz_parse.specs.declared.bodies.Comparison.{out-Comparison}
use Rattle.mz_parse.specs.declared.bodies.Comparing.{out-Comparing}
use Rattle.mz_parse.specs.declared.bodies.Product.{out-Product}
use Rattle.mz_parse.specs.declared.bodies.Sum.{out-Sum}
use Rattle.mz_parse.specs.declared.bodies.Term.{out-Term}
use Rattle.mz_parse.specs.declared.bodies.Block.{out-Block}
use Rattle.mz_scope.specs.declared.fault.Cause.TheVariants.{Shape, NotExhaustive}
use Rattle.mz_scope.specs.Syntax.{Call_expr, New_expr, If_expr, Match_expr, Spawn_expr}
use Rattle.mz_scope.specs.Making.{add_command, fault_if}
use Rattle.mz_scope.specs.Bodies.{flat_expression, flat_expressions, flat_values, flat_cases, flat_items, is_misplaced}
use Rattle.mz_scope.specs.Trees.{word_of, operator_in, select_of, selected, write_to, primary_tree, product_tree, sum_tree, comparison_tree, expr_tree, item_tree, items_of, block_tree, atom_trees}
use Rattle.mz_scope.specs.Lists.{postfix_tree, factors_on, terms_on, compared_with, exprs_of, values_of, arms_of}
use Rattle.mz_scope.specs.Kinds.{flat_end}
use Rattle.mz_scope.specs.View.{made_of, as_is}
use Rattle.mz_scope.proofs.Lists.{list_step, list_end, take_here, drop_here}
use Rattle.mz_scope.proofs.TreeForms.{product_tree_is, sum_tree_is, term_tree_is, comparing_tree_is, comparison_tree_is, call_tree_is, group_tree_is, construct_tree_is, if_tree_is, match_tree_is, spawn_tree_is}
use Rattle.mz_scope.proofs.TreeLists.{no_select, selected_more, write_to_last, factors_more, terms_more}
use Rattle.mz_scope.proofs.Steps.{read_leads, write_leads, arith_leads, if_leads, match_leads, expressions_more, values_more, items_more, no_expressions_came, no_values_came, no_cases_came, block_came, end_let, end_plain, end_none}
use Rattle.mz_scope.proofs.Ends.{comes_after, cases_step}
use Rattle.mz_scope.proofs.bodies.+bodies.Goals as goal

pub postfix-loop-i-preserved : goal.postfix-loop-i-preserved
postfix-loop-i-preserved t c =
    let g = c.args.source.now.globals.now in
    let bytes = c.args.source.now.text.now in
    let scope = c.args.scope.now in
    let m0 = made_of c.args.making.now in
    let e = primary_tree bytes c.args.base.now in
    let selects = c.args.selects.now in
    let s = get_or selects c.loop-i.i no_select in
    let front = take c.loop-i.i selects in
    ap (λ l. flat_expression g scope (selected bytes e l) m0) (take_more selects c.loop-i.i no_select (omega arith))
    ∙ ap (λ x. flat_expression g scope x m0) (selected_more bytes e front s)
    ∙ read_leads g scope (selected bytes e front) (select_of bytes s) c.loop-i.value m0 (made_of c.loop-i.making) c.loop-i.invariant
    ∙ c.in_ok-value-2.ensures

pub product-loop-i-preserved : goal.product-loop-i-preserved
product-loop-i-preserved t c =
    let g = c.args.source.now.globals.now in
    let bytes = c.args.source.now.text.now in
    let scope = c.args.scope.now in
    let m0 = made_of c.args.making.now in
    let m1 = made_of c.loop-i.making in
    let m2 = made_of c.postfix-in-loop-i.new.making in
    let e = postfix_tree bytes (out-Product c.args.product.now).first in
    let factors = c.as_slice-factors.result.now in
    let f = c.index-factors-i.result in
    let front = take c.loop-i.i factors in
    ap (λ l. flat_expression g scope (factors_on bytes e l) m0) (take_here factors c.loop-i.i f (omega arith) c.index-factors-i.is)
    ∙ ap (λ x. flat_expression g scope x m0) (factors_more bytes e front f)
    ∙ arith_leads g scope (factors_on bytes e front) (postfix_tree bytes f.part) (operator_in f.mark.kind) f.mark.place c.loop-i.left c.in_ok-right.right m0 m1 m2 c.loop-i.invariant
    (ap (λ l. flat_expression g scope (selected bytes (primary_tree bytes f.part.base) l) m1) (sym c.as_slice-in-loop-i.ensures) ∙ c.in_ok-right.ensures)
    ∙ ap (λ o. add_command f.mark.place (Arith_op o c.loop-i.left c.in_ok-right.right) m2) (sym c.operator.ensures)
    ∙ c.in_ok-left-2.ensures

pub product-returns : goal.product-returns
product-returns t c =
    let bytes = c.args.source.now.text.now in
    let p = c.args.product.now in
    ap (λ x. flat_expression c.args.source.now.globals.now c.args.scope.now x (made_of c.args.making.now))
    (product_tree_is bytes p ∙ ap (factors_on bytes (postfix_tree bytes (out-Product p).first)) (sym c.as_slice-factors.ensures ∙ sym (take_all c.loop-i.i c.as_slice-factors.result.now (omega arith))))
    ∙ c.loop-i.invariant

pub sum-loop-i-preserved : goal.sum-loop-i-preserved
sum-loop-i-preserved t c =
    let g = c.args.source.now.globals.now in
    let bytes = c.args.source.now.text.now in
    let scope = c.args.scope.now in
    let m0 = made_of c.args.making.now in
    let m1 = made_of c.loop-i.making in
    let m2 = made_of c.product-in-loop-i.new.making in
    let e = product_tree bytes (out-Sum c.args.sum.now).first in
    let terms = c.as_slice-terms.result.now in
    let term = c.index-terms-i.result in
    let mark = (out-Term term).mark in
    let front = take c.loop-i.i terms in
    ap (λ l. flat_expression g scope (terms_on bytes e l) m0) (take_here terms c.loop-i.i term (omega arith) c.index-terms-i.is)
    ∙ ap (λ x. flat_expression g scope x m0) (terms_more bytes e front term ∙ term_tree_is bytes (terms_on bytes e front) term)
    ∙ arith_leads g scope (terms_on bytes e front) (product_tree bytes (out-Term term).product) (operator_in mark.kind) mark.place c.loop-i.left c.in_ok-right.right m0 m1 m2 c.loop-i.invariant c.in_ok-right.ensures
    ∙ ap (λ o. add_command mark.place (Arith_op o c.loop-i.left c.in_ok-right.right) m2) (sym c.operator.ensures)
    ∙ c.in_ok-left-2.ensures

pub sum-returns : goal.sum-returns
sum-returns t c =
    let bytes = c.args.source.now.text.now in
    let s = c.args.sum.now in
    ap (λ x. flat_expression c.args.source.now.globals.now c.args.scope.now x (made_of c.args.making.now))
    (sum_tree_is bytes s ∙ ap (terms_on bytes (product_tree bytes (out-Sum s).first)) (sym c.as_slice-terms.ensures ∙ sym (take_all c.loop-i.i c.as_slice-terms.result.now (omega arith))))
    ∙ c.loop-i.invariant

pub comparison-returns-in_ok-right-in-Some : goal.comparison-returns-in_ok-right-in-Some
comparison-returns-in_ok-right-in-Some t c =
    let g = c.args.source.now.globals.now in
    let bytes = c.args.source.now.text.now in
    let scope = c.args.scope.now in
    let m0 = made_of c.args.making.now in
    let m1 = made_of c.sum.new.making in
    let m2 = made_of c.sum-in-Some.new.making in
    let x = c.args.comparison.now in
    let left = sum_tree bytes (out-Comparison x).left in
    let comparing = c.get-comparing.result.now in
    let mark = (out-Comparing comparing).mark in
    comes_after as_is (flat_expression g scope (comparison_tree bytes x)) (add_command mark.place (Arith_op c.operator.result c.in_ok-left.left c.in_ok-right-in-Some.right)) c.args.making.now c.sum-in-Some.new.making c.command.new.self c.command.result
    (ap (λ y. flat_expression g scope y m0) (comparison_tree_is bytes x ∙ ap (compared_with bytes left) (c.in-Some.is ∙ ap Some (sym c.get-comparing.ensures)) ∙ comparing_tree_is bytes left comparing)
    ∙ arith_leads g scope left (sum_tree bytes (out-Comparing comparing).right) (operator_in mark.kind) mark.place c.in_ok-left.left c.in_ok-right-in-Some.right m0 m1 m2 c.in_ok-left.ensures c.in_ok-right-in-Some.ensures
    ∙ ap (λ o. add_command mark.place (Arith_op o c.in_ok-left.left c.in_ok-right-in-Some.right) m2) (sym c.operator.ensures))
    c.command.ensures

pub expressions-loop-i-preserved : goal.expressions-loop-i-preserved
expressions-loop-i-preserved t c =
    let g = c.args.source.now.globals.now in
    let bytes = c.args.source.now.text.now in
    let scope = c.args.scope.now in
    let all = c.args.all.now in
    let e = c.index-all-i.result in
    list_step (λ l. flat_expressions g scope (exprs_of bytes l)) all c.loop-i.i e c.loop-i.values c.push.new.self c.in_ok-expression.field-0 (flat_expressions g scope (exprs_of bytes all) (made_of c.args.making.now)) (made_of c.loop-i.making) (made_of c.expression.new.making)
    c.loop-i.invariant (omega arith) c.index-all-i.is
    (expressions_more g scope c.loop-i.values (expr_tree bytes e) (exprs_of bytes (drop (c.loop-i.i + 1) all)) c.in_ok-expression.field-0 (made_of c.loop-i.making) (made_of c.expression.new.making) c.in_ok-expression.ensures)
    c.in_ok-push.ensures.ok

pub expressions-returns : goal.expressions-returns
expressions-returns t c =
    let g = c.args.source.now.globals.now in
    let bytes = c.args.source.now.text.now in
    let scope = c.args.scope.now in
    list_end (λ l. flat_expressions g scope (exprs_of bytes l)) c.args.all.now c.loop-i.i c.loop-i.values (flat_expressions g scope (exprs_of bytes c.args.all.now) (made_of c.args.making.now)) (made_of c.loop-i.making)
    (no_expressions_came g scope (made_of c.loop-i.making)) c.loop-i.invariant (omega arith)

pub values-loop-i-preserved : goal.values-loop-i-preserved
values-loop-i-preserved t c =
    let g = c.args.source.now.globals.now in
    let bytes = c.args.source.now.text.now in
    let scope = c.args.scope.now in
    let fields = c.args.fields.now in
    let con = option_copied c.args.con in
    let v = c.index-fields-i.result in
    list_step (λ l. flat_values g scope con (values_of bytes l)) fields c.loop-i.i v c.loop-i.written c.push.new.self ((word_of bytes v.field).text, c.in_ok-value.value) (flat_values g scope con (values_of bytes fields) (made_of c.args.making.now)) (made_of c.loop-i.making) (made_of c.expression.new.making)
    c.loop-i.invariant (omega arith) c.index-fields-i.is
    (values_more g scope con c.loop-i.written (word_of bytes v.field) (expr_tree bytes v.value) (values_of bytes (drop (c.loop-i.i + 1) fields)) c.in_ok-value.value (made_of c.loop-i.making) (made_of c.is_field.new.making) (made_of c.expression.new.making) c.in_ok-is_field.ensures c.in_ok-value.ensures)
    (c.in_ok-push.ensures ∙ ap (λ s. c.loop-i.written ++ (s, c.in_ok-value.value) ∷ []) c.spelled.ensures)

pub values-returns : goal.values-returns
values-returns t c =
    let g = c.args.source.now.globals.now in
    let bytes = c.args.source.now.text.now in
    let scope = c.args.scope.now in
    let con = option_copied c.args.con in
    list_end (λ l. flat_values g scope con (values_of bytes l)) c.args.fields.now c.loop-i.i c.loop-i.written (flat_values g scope con (values_of bytes c.args.fields.now) (made_of c.args.making.now)) (made_of c.loop-i.making)
    (no_values_came g scope con (made_of c.loop-i.making)) c.loop-i.invariant (omega arith)

pub cases-loop-i-preserved : goal.cases-loop-i-preserved
cases-loop-i-preserved t c =
    let g = c.args.source.now.globals.now in
    let bytes = c.args.source.now.text.now in
    let scope = c.args.scope.now in
    let all = c.args.all.now in
    let a = c.index-all-i.result in
    let con = option_copied c.in_ok-con.con in
    let m1 = made_of c.con_by_name.new.making in
    let pushed = roll-Case (record { con = c.number_of.result; body = c.in_ok-body.body }) in
    cases_step g scope bytes c.args.variety all c.loop-i.i a c.loop-i.earlier c.add_number.new.numbers c.loop-i.cases c.push.new.self pushed con c.in_ok-body.body (flat_cases g scope c.args.variety [] (arms_of bytes all) (made_of c.args.making.now)) (made_of c.loop-i.making) m1 (made_of c.fault_if.new.self) (made_of c.block.new.making)
    c.loop-i.invariant (omega arith) c.index-all-i.is c.in_ok-con.ensures
    (ap (λ b. fault_if b Shape a.con.place m1) (sym (c.is_misplaced-misplaced.ensures ∙ ap (λ l. is_misplaced c.args.variety (reverse l) con) c.as_slice.ensures)) ∙ c.in_ok-fault_if.ensures)
    c.in_ok-body.ensures
    (ap plain_case (rolls-Case' (record { con = c.number_of.result; body = c.in_ok-body.body })) ∙ ap (λ n. The_case n (plain_body c.in_ok-body.body)) c.number_of.ensures)
    c.in_ok-push.ensures.ok c.in_ok-add_number.ensures

pub cases-returns : goal.cases-returns
cases-returns t c =
    let g = c.args.source.now.globals.now in
    let bytes = c.args.source.now.text.now in
    let scope = c.args.scope.now in
    list_end (λ l. flat_cases g scope c.args.variety (reverse c.loop-i.earlier) (arms_of bytes l)) c.args.all.now c.loop-i.i (plain_cases c.loop-i.cases) (flat_cases g scope c.args.variety [] (arms_of bytes c.args.all.now) (made_of c.args.making.now)) (made_of c.loop-i.making)
    (no_cases_came g scope c.args.variety (reverse c.loop-i.earlier) (made_of c.loop-i.making)) c.loop-i.invariant (omega arith)

pub choose-returns : goal.choose-returns
choose-returns t c =
    let g = c.args.source.now.globals.now in
    let bytes = c.args.source.now.text.now in
    let scope = c.args.scope.now in
    let name = word_of bytes c.args.name.now in
    let arms = arms_of bytes c.args.all.now in
    let giving = atom_trees bytes c.args.giving.now in
    let m0 = made_of c.args.making.now in
    let m1 = made_of c.name_value.new.making in
    let m2 = made_of c.fault_if.new.self in
    let m3 = made_of c.cases.new.making in
    let m4 = made_of c.given.new.making in
    let x = c.in_ok-matched.matched in
    let cases = c.in_ok-cases.cases in
    let atoms = c.in_ok-giving.giving in
    comes_after as_is (flat_expression g scope (Match_expr c.args.key name arms giving)) (add_command c.args.key (plain_op (MatchCode x c.unwrap_or.result cases atoms))) c.args.making.now c.given.new.making c.command.new.self c.command.result
    (match_leads g scope c.args.key name arms giving x (plain_cases cases) (plain_atoms atoms) m0 m1 m2 m3 m4 c.in_ok-matched.ensures
    (ap (λ b. fault_if b NotExhaustive c.args.key m1) (sym c.in_ok-lacks.ensures) ∙ c.in_ok-fault_if.ensures)
    (ap (λ d. flat_cases g scope d [] arms m2) (sym c.match_data-variety.ensures) ∙ c.in_ok-cases.ensures)
    c.in_ok-giving.ensures
    ∙ ap (λ v. add_command c.args.key (Match_op x v (cases_of (plain_cases cases)) (plain_atoms atoms)) m4) (sym (c.unwrap_or.ensures ∙ ap (λ d. unwrap_or d 0) c.match_data-variety.ensures))
    ∙ ap (λ o. add_command c.args.key o m4) (sym (plain_match x c.unwrap_or.result cases atoms)))
    c.command.ensures

pub primary-returns-in-Call : goal.primary-returns-in-Call
primary-returns-in-Call t c =
    let g = c.args.source.now.globals.now in
    let bytes = c.args.source.now.text.now in
    let scope = c.args.scope.now in
    let callee = word_of bytes c.in-Call.callee in
    comes_after as_is (flat_expression g scope (primary_tree bytes c.args.primary.now)) (flat_expression g scope (Call_expr callee (exprs_of bytes c.as_slice.result.now))) c.args.making.now c.args.making.now c.call.new.making c.call.result
    (ap (λ x. flat_expression g scope x (made_of c.args.making.now)) (ap (primary_tree bytes) c.in-Call.is ∙ call_tree_is bytes c.in-Call.callee c.in-Call.arguments ∙ ap (λ l. Call_expr callee (exprs_of bytes l)) (sym c.as_slice.ensures)))
    c.call.ensures

pub primary-returns-in-Construct : goal.primary-returns-in-Construct
primary-returns-in-Construct t c =
    let g = c.args.source.now.globals.now in
    let bytes = c.args.source.now.text.now in
    let scope = c.args.scope.now in
    let con = word_of bytes c.in-Construct.con in
    comes_after as_is (flat_expression g scope (primary_tree bytes c.args.primary.now)) (flat_expression g scope (New_expr con (values_of bytes c.as_slice-in-Construct.result.now))) c.args.making.now c.args.making.now c.construct.new.making c.construct.result
    (ap (λ x. flat_expression g scope x (made_of c.args.making.now)) (ap (primary_tree bytes) c.in-Construct.is ∙ construct_tree_is bytes c.in-Construct.con c.in-Construct.fields ∙ ap (λ l. New_expr con (values_of bytes l)) (sym c.as_slice-in-Construct.ensures)))
    c.construct.ensures

pub primary-returns-in-Group : goal.primary-returns-in-Group
primary-returns-in-Group t c =
    let g = c.args.source.now.globals.now in
    let bytes = c.args.source.now.text.now in
    let scope = c.args.scope.now in
    comes_after as_is (flat_expression g scope (primary_tree bytes c.args.primary.now)) (flat_expression g scope (expr_tree bytes c.get.result.now)) c.args.making.now c.args.making.now c.expression.new.making c.expression.result
    (ap (λ x. flat_expression g scope x (made_of c.args.making.now)) (ap (primary_tree bytes) c.in-Group.is ∙ group_tree_is bytes c.in-Group.open c.in-Group.inner ∙ ap (expr_tree bytes) (sym c.get.ensures)))
    c.expression.ensures

pub expression-returns-in-Match : goal.expression-returns-in-Match
expression-returns-in-Match t c =
    let g = c.args.source.now.globals.now in
    let bytes = c.args.source.now.text.now in
    let scope = c.args.scope.now in
    let key = c.in-Match.key.place in
    let name = word_of bytes c.in-Match.name in
    comes_after as_is (flat_expression g scope (expr_tree bytes c.args.expression.now)) (flat_expression g scope (Match_expr key name (arms_of bytes c.as_slice-in-Match.result.now) (atom_trees bytes c.as_slice-in-Match-2.result.now))) c.args.making.now c.args.making.now c.choose.new.making c.choose.result
    (ap (λ x. flat_expression g scope x (made_of c.args.making.now)) (ap (expr_tree bytes) c.in-Match.is ∙ match_tree_is bytes c.in-Match.key c.in-Match.name c.in-Match.cases c.in-Match.giving
    ∙ ap₂ (λ a p. Match_expr key name (arms_of bytes a) (atom_trees bytes p)) (sym c.as_slice-in-Match.ensures) (sym c.as_slice-in-Match-2.ensures)))
    c.choose.ensures

pub expression-returns-in-Spawn : goal.expression-returns-in-Spawn
expression-returns-in-Spawn t c =
    let g = c.args.source.now.globals.now in
    let bytes = c.args.source.now.text.now in
    let scope = c.args.scope.now in
    let key = c.in-Spawn.key.place in
    let name = word_of bytes c.in-Spawn.name in
    comes_after as_is (flat_expression g scope (expr_tree bytes c.args.expression.now)) (flat_expression g scope (Spawn_expr key name (expr_tree bytes c.get-in-Spawn.result.now))) c.args.making.now c.args.making.now c.spawn.new.making c.spawn.result
    (ap (λ x. flat_expression g scope x (made_of c.args.making.now)) (ap (expr_tree bytes) c.in-Spawn.is ∙ spawn_tree_is bytes c.in-Spawn.key c.in-Spawn.name c.in-Spawn.argument ∙ ap (λ e. Spawn_expr key name (expr_tree bytes e)) (sym c.get-in-Spawn.ensures)))
    c.spawn.ensures

pub items-loop-i-preserved : goal.items-loop-i-preserved
items-loop-i-preserved t c behind =
    let g = c.args.source.now.globals.now in
    let bytes = c.args.source.now.text.now in
    let scope = c.loop-i.scope in
    let all = c.args.all.now in
    let one = c.index-all-i.result in
    c.loop-i.invariant behind
    ∙ ap (λ l. flat_items g scope (items_of bytes (map (item_tree bytes) l) behind) (made_of c.loop-i.making)) (drop_here all c.loop-i.i one (omega arith) c.index-all-i.is)
    ∙ items_more g scope (item_tree bytes one) (items_of bytes (map (item_tree bytes) (drop (c.loop-i.i + 1) all)) behind) c.item.new.scope (made_of c.loop-i.making) (made_of c.item.new.making) c.in_ok-item.ensures

pub ending-returns-in_default : goal.ending-returns-in_default
ending-returns-in_default t c =
    let g = c.args.source.now.globals.now in
    let bytes = c.args.source.now.text.now in
    let scope = c.args.scope.now in
    comes_after as_is (flat_end g scope c.args.brace (option_map (item_tree bytes) c.args.last.now)) (add_command c.args.brace Unit_op) c.args.making.now c.args.making.now c.command.new.self c.command.result
    (ap (λ l. flat_end g scope c.args.brace (option_map (item_tree bytes) l) (made_of c.args.making.now)) c.in_default.is ∙ end_none g scope c.args.brace (made_of c.args.making.now))
    c.command.ensures

pub ending-returns-in-Plain : goal.ending-returns-in-Plain
ending-returns-in-Plain t c =
    let g = c.args.source.now.globals.now in
    let bytes = c.args.source.now.text.now in
    let scope = c.args.scope.now in
    let value = c.in-Plain.value in
    comes_after as_is (flat_end g scope c.args.brace (option_map (item_tree bytes) c.args.last.now)) (flat_expression g scope (expr_tree bytes value)) c.args.making.now c.args.making.now c.expression.new.making c.expression.result
    (ap (λ l. flat_end g scope c.args.brace (option_map (item_tree bytes) l) (made_of c.args.making.now)) (c.in-Some.is ∙ ap Some (sym c.get.ensures ∙ c.in-Plain.is)) ∙ end_plain g scope (expr_tree bytes value) c.args.brace (made_of c.args.making.now))
    c.expression.ensures

pub ending-returns-in_ok-bind-in-Let : goal.ending-returns-in_ok-bind-in-Let
ending-returns-in_ok-bind-in-Let t c =
    let g = c.args.source.now.globals.now in
    let bytes = c.args.source.now.text.now in
    let scope = c.args.scope.now in
    let name = word_of bytes c.in-Let.name in
    let value = expr_tree bytes c.in-Let.value in
    comes_after as_is (flat_end g scope c.args.brace (option_map (item_tree bytes) c.args.last.now)) (add_command c.args.brace Unit_op) c.args.making.now c.bind.new.making c.command-in-Let.new.self c.command-in-Let.result
    (ap (λ l. flat_end g scope c.args.brace (option_map (item_tree bytes) l) (made_of c.args.making.now)) (c.in-Some.is ∙ ap Some (sym c.get.ensures ∙ c.in-Let.is))
    ∙ end_let g scope name value c.args.brace c.bind.new.scope (made_of c.args.making.now) (made_of c.bind.new.making) c.in_ok-bind-in-Let.ensures)
    c.command-in-Let.ensures

pub block-returns : goal.block-returns
block-returns t c =
    let g = c.args.source.now.globals.now in
    let bytes = c.args.source.now.text.now in
    let scope = c.args.scope.now in
    let b = out-Block c.args.block.now in
    let m1 = made_of c.begin-before.new.self in
    block_came g scope bytes (map (item_tree bytes) b.items) (option_map (item_tree bytes) b.last) b.close.place c.items.new.scope (plain_commands c.begin-before.result) c.in_ok-value.value (plain_body c.end.result)
    (made_of c.args.making.now) m1 (made_of c.items.new.making) (made_of c.ending.new.making) (made_of c.end.new.self)
    c.begin-before.ensures.0 c.begin-before.ensures.1
    (λ behind. ap₂ (λ s l. flat_items g s (items_of bytes (map (item_tree bytes) l) behind) m1) (sym c.in_ok-inner.ensures) (sym c.as_slice.ensures) ∙ c.in_ok-items.ensures behind)
    c.in_ok-value.ensures c.end.ensures

pub expression-returns-in_ok-from-in-Write : goal.expression-returns-in_ok-from-in-Write
expression-returns-in_ok-from-in-Write t c =
    let g = c.args.source.now.globals.now in
    let bytes = c.args.source.now.text.now in
    let scope = c.args.scope.now in
    let m0 = made_of c.args.making.now in
    let m4 = made_of c.comparison-in-Write.new.making in
    let base = primary_tree bytes c.in-Write.target.base in
    let place = c.in-Write.mark.place in
    let value = comparison_tree bytes c.in-Write.value in
    let front = c.in-Some.front.now in
    let last = c.in-Some.last.now in
    let con = option_copied c.in_ok-con-in-Write.con in
    let block = c.in_ok-block-in-Write.block in
    let field = c.in_ok-field-in-Write.field in
    let from = c.in_ok-from-in-Write.from in
    comes_after as_is (flat_expression g scope (expr_tree bytes c.args.expression.now)) (add_command place (Write_op block c.number_of.result field from)) c.args.making.now c.comparison-in-Write.new.making c.command-in-Write.new.self c.command-in-Write.result
    (ap (λ x. flat_expression g scope x m0) (ap (expr_tree bytes) c.in-Write.is ∙ ap (λ l. write_to bytes base l place value) (sym c.as_slice.ensures ∙ c.in-Some.ensures) ∙ write_to_last bytes base front last place value)
    ∙ write_leads g scope (selected bytes base front) value (select_of bytes last) place block con field from m0 (made_of c.postfix.new.making) (made_of c.select_con.new.making) (made_of c.field_in.new.making) m4
    c.in_ok-block-in-Write.ensures c.in_ok-con-in-Write.ensures c.in_ok-field-in-Write.ensures c.in_ok-from-in-Write.ensures
    ∙ ap (λ n. add_command place (Write_op block n field from) m4) (sym c.number_of.ensures))
    c.command-in-Write.ensures

pub expression-returns-in_ok-giving-in-If : goal.expression-returns-in_ok-giving-in-If
expression-returns-in_ok-giving-in-If t c =
    let g = c.args.source.now.globals.now in
    let bytes = c.args.source.now.text.now in
    let scope = c.args.scope.now in
    let m0 = made_of c.args.making.now in
    let key = c.in-If.key.place in
    let test = comparison_tree bytes c.in-If.test in
    let one = block_tree bytes c.get.result.now in
    let two = block_tree bytes c.get-in-If.result.now in
    let giving = atom_trees bytes c.as_slice-in-If.result.now in
    let x = c.in_ok-test-in-If.test in
    let yes = plain_body c.in_ok-yes-in-If.yes in
    let other = plain_body c.in_ok-other-in-If.other in
    let atoms = plain_atoms c.in_ok-giving-in-If.giving in
    comes_after as_is (flat_expression g scope (expr_tree bytes c.args.expression.now)) (add_command key (If_op x yes other atoms)) c.args.making.now c.given.new.making c.command-in-If.new.self c.command-in-If.result
    (ap (λ e. flat_expression g scope e m0) (ap (expr_tree bytes) c.in-If.is ∙ if_tree_is bytes c.in-If.key c.in-If.test c.in-If.yes c.in-If.no c.in-If.giving
    ∙ ap₂ (λ a b. If_expr key test (block_tree bytes a) (block_tree bytes b) (atom_trees bytes c.in-If.giving)) (sym c.get.ensures) (sym c.get-in-If.ensures)
    ∙ ap (λ l. If_expr key test one two (atom_trees bytes l)) (sym c.as_slice-in-If.ensures))
    ∙ if_leads g scope key test one two giving x yes other atoms m0 (made_of c.comparison-in-If.new.making) (made_of c.block.new.making) (made_of c.block-in-If.new.making) (made_of c.given.new.making)
    c.in_ok-test-in-If.ensures c.in_ok-yes-in-If.ensures c.in_ok-other-in-If.ensures c.in_ok-giving-in-If.ensures)
    c.command-in-If.ensures
