use Rattle.std.proofs.Common.{sym, ◌∙◌, refl, Err, option_map, subst}
use Rattle.std.specs.Option.{option_copied}
use Rattle.mz_tree.specs.View.{plain_atom, plain_atoms, plain_command}
use Rattle.mz_decl.specs.View.{plain_decls}
use Rattle.mz_deriv.specs.Scripts.{script_cases_of}
use Rattle.mz_deriv.specs.Rules.{Does}
use Rattle.mz_deriv.specs.Parts.{Follows}
use Rattle.mz_deriv.specs.View.{plain_script_cases}
use Rattle.mz_deriv.proofs.Made.{no_case, no_join, no_rule, made}
use Rattle.mz_deriv.proofs.rule.go_straight.Goals as goal

pub returns-then-len-ne0 : goal.returns-then-len-ne0
returns-then-len-ne0 c = (no_case (plain_decls c.args.decls.now) c.args.state.now (plain_command c.args.command.now) (option_map plain_atom c.args.uses.now) c.requires.straight c.args.cases.now (plain_atoms c.args.join.now) (λ e. c.if-len-ne0.true (c.len.ensures ∙ e)), refl)

pub returns-then-len-ne0-2 : goal.returns-then-len-ne0-2
returns-then-len-ne0-2 c = (no_join (plain_decls c.args.decls.now) c.args.state.now (plain_command c.args.command.now) (option_map plain_atom c.args.uses.now) c.requires.straight (script_cases_of (plain_script_cases c.args.cases.now)) c.args.join.now (λ e. c.if-len-ne0-2.true (c.len-2.ensures ∙ e)), refl)

pub returns-in-Err-NoInstance : goal.returns-in-Err-NoInstance
returns-in-Err-NoInstance c =
    let D = plain_decls c.args.decls.now in
    let k = plain_command c.args.command.now in
    let refused = subst (λ f. Follows {A = Unit {0}} D c.args.state.now k (option_map plain_atom (option_copied c.as_ref.result)) c.follow.new.state (Err f)) c.in-Err-NoInstance.field-0-is c.in-Err-NoInstance.ensures in (
      no_rule D c.args.state.now k (option_map plain_atom c.args.uses.now) c.requires.straight (script_cases_of (plain_script_cases c.args.cases.now)) (plain_atoms c.args.join.now) (λ S d. refused S (subst (λ o. Does D c.args.state.now k (option_map plain_atom o) S) (sym c.as_ref.ensures.value) d)),
      refl,
    )

pub returns-in-Ok : goal.returns-in-Ok
returns-in-Ok c =
    let D = plain_decls c.args.decls.now in
    let k = plain_command c.args.command.now in
    made D c.args.state.now c.follow.new.state k (option_map plain_atom c.args.uses.now) c.args.cases.now c.args.join.now (sym c.len.ensures ∙ c.if-len-ne0.false) (sym c.len-2.ensures ∙ c.if-len-ne0-2.false)
    (subst (λ o. Does D c.args.state.now k (option_map plain_atom o) c.follow.new.state) c.as_ref.ensures.value c.in-Ok.ensures)
