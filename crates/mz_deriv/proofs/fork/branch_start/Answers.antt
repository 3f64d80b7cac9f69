use Rattle.std.proofs.Common.{◌≡◌, Some, Err, option_map, slice_get, sym, ap, ◌∙◌, subst}
use Rattle.std.specs.Option.{option_copied}
use Rattle.mz_tree.specs.View.{plain_atom, plain_op, plain_body, plain_command}
use Rattle.mz_decl.specs.View.{plain_decls}
use Rattle.mz_modes.specs.Answers.{Gives}
use Rattle.mz_perm.specs.Lists.{Any_copy, First_copy}
use Rattle.mz_flow.specs.Branches.{walked_bodies}
use Rattle.mz_flow.specs.Starting.{BeginsSome}
use Rattle.mz_deriv.proofs.BranchAnswers.{begins_here}
use Rattle.mz_deriv.proofs.fork.branch_start.Goals as goal

pub unreachable-requires : goal.unreachable-requires
unreachable-requires c =
    let D = plain_decls c.args.decls.now in
    let k = plain_command c.args.command.now in
    let refused = subst (λ f. Gives (λ which. BeginsSome which D c.args.state.now k (option_map plain_atom (option_copied c.as_ref.result)) c.in_ok-number.number c.args.fresh) (Err f)) c.in-Err-NoInstance.field-0-is c.in-Err-NoInstance.ensures in
    refused c.requires.begins.0
    (subst (λ o. BeginsSome Any_copy D c.args.state.now k (option_map plain_atom o) c.in_ok-number.number c.args.fresh c.requires.begins.0) (sym c.as_ref.ensures.value) (subst (λ n. BeginsSome Any_copy D c.args.state.now k (option_map plain_atom c.args.uses.now) n c.args.fresh c.requires.begins.0) (sym c.in_ok-number.ensures) c.requires.begins.1))

pub returns-in-Some : goal.returns-in-Some
returns-in-Some c =
    let D = plain_decls c.args.decls.now in
    let k = plain_command c.args.command.now in
    let u = option_map plain_atom c.args.uses.now in
    let begins = subst (λ n. BeginsSome First_copy D c.args.state.now k u n c.args.fresh c.in-Ok.start) c.in_ok-number.ensures (subst (λ o. BeginsSome First_copy D c.args.state.now k (option_map plain_atom o) c.in_ok-number.number c.args.fresh c.in-Ok.start) c.as_ref.ensures.value c.in-Ok.ensures) in
    let walked : slice_get (walked_bodies (plain_op c.args.command.now.op) u) c.args.k ≡ Some (plain_body c.in-Some.body.now) =
    ap (slice_get (walked_bodies (plain_op c.args.command.now.op) u)) (sym c.in_ok-number.ensures) ∙ ap (λ o. slice_get (walked_bodies (plain_op c.args.command.now.op) (option_map plain_atom o)) c.in_ok-number.number) (sym c.as_ref-in-Ok.ensures.value) ∙ sym c.in-Some.ensures in
    begins_here D c.args.state.now k u c.args.k c.args.fresh (plain_body c.in-Some.body.now) c.in-Ok.start walked begins
