use Rattle.std.proofs.Common.{◌≡◌, Err, length, option_map, refl, sym, ap, ◌∙◌, subst, arith}
use Rattle.std.specs.Option.{option_copied}
use Rattle.mz_tree.specs.View.{plain_atom, plain_op, plain_command}
use Rattle.mz_decl.specs.View.{plain_decls}
use Rattle.mz_decl.proofs.Limits.{item_at}
use Rattle.mz_modes.specs.Answers.{Gives}
use Rattle.mz_perm.specs.Lists.{Any_copy, First_copy}
use Rattle.mz_flow.specs.Branches.{walked_bodies}
use Rattle.mz_flow.specs.Starting.{BeginsSome}
use Rattle.mz_flow.proofs.Firsts.{begins_any}
use Rattle.mz_deriv.specs.Rules.{Branches}
use Rattle.mz_deriv.proofs.Branching.{cases_seen, branch_at, branches_many, no_branches, all_begin, begins_next}
use Rattle.mz_deriv.proofs.fork.fork.Goals as goal

pub returns-then-len-eq0 : goal.returns-then-len-eq0
returns-then-len-eq0 c = (no_branches (plain_decls c.args.decls.now) c.args.state.now (plain_command c.args.command.now) (option_map plain_atom c.args.uses.now) c.args.cases.now (sym c.len.ensures ∙ c.if-len-eq0.true), refl)

pub returns-then-len-walked : goal.returns-then-len-walked
returns-then-len-walked c = (
  (λ branches b. c.if-len-walked.true (c.len-2.ensures ∙ sym (branches_many (plain_decls c.args.decls.now) c.args.state.now (plain_command c.args.command.now) (option_map plain_atom c.args.uses.now) c.args.cases.now branches b)
      ∙ ap (λ o. length (walked_bodies (plain_op c.args.command.now.op) (option_map plain_atom o))) (sym c.as_ref.ensures.value) ∙ sym c.walked.ensures)),
  refl,
)

pub loop-k-init : goal.loop-k-init
loop-k-init c = λ m l x g. absurd (omega (arith, l))

pub returns-in-Err-NoInstance : goal.returns-in-Err-NoInstance
returns-in-Err-NoInstance c =
    let D = plain_decls c.args.decls.now in
    let k = plain_command c.args.command.now in
    let u = option_map plain_atom c.args.uses.now in
    let x = c.index-all-k.result in
    let refused = subst (λ f. Gives (λ which. BeginsSome which D c.args.state.now k (option_map plain_atom (option_copied c.as_ref-in-loop-k.result)) c.in_ok-number.number x.fresh) (Err f)) c.in-Err-NoInstance.field-0-is c.in-Err-NoInstance.ensures in (
      (λ branches b. (
          let here = item_at c.as_slice-all.result.now c.loop-k.k x c.loop-k-test.true c.index-all-k.is in
          let r = branch_at D c.args.state.now k u c.as_slice-all.result.now branches (subst (λ l. Branches D c.args.state.now k u (cases_seen l) branches) (sym c.as_slice-all.ensures) b) c.loop-k.k x here in
          refused r.2.0 (subst (λ o. BeginsSome Any_copy D c.args.state.now k (option_map plain_atom o) c.in_ok-number.number x.fresh r.2.0) (sym c.as_ref-in-loop-k.ensures.value) (subst (λ n. BeginsSome Any_copy D c.args.state.now k u n x.fresh r.2.0) (sym c.in_ok-number.ensures) (r.0, r.2.1)))
          )),
      refl,
    )

pub loop-k-preserved : goal.loop-k-preserved
loop-k-preserved c =
    let D = plain_decls c.args.decls.now in
    let k = plain_command c.args.command.now in
    let u = option_map plain_atom c.args.uses.now in
    let x = c.index-all-k.result in
    let begins = subst (λ n. BeginsSome First_copy D c.args.state.now k u n x.fresh c.in-Ok.field-0) c.in_ok-number.ensures (subst (λ o. BeginsSome First_copy D c.args.state.now k (option_map plain_atom o) c.in_ok-number.number x.fresh c.in-Ok.field-0) c.as_ref-in-loop-k.ensures.value c.in-Ok.ensures) in
    begins_next D c.args.state.now k u c.as_slice-all.result.now c.loop-k.k x (item_at c.as_slice-all.result.now c.loop-k.k x c.loop-k-test.true c.index-all-k.is) c.in-Ok.field-0 (begins.0, begins_any D c.args.state.now k u c.loop-k.k x.fresh begins.0 c.in-Ok.field-0 begins.1) c.loop-k.invariant

pub returns : goal.returns
returns c =
    let D = plain_decls c.args.decls.now in
    let k = plain_command c.args.command.now in
    let u = option_map plain_atom c.args.uses.now in
    let cases = c.as_slice-all.result.now in
    let many : length (walked_bodies (plain_op c.args.command.now.op) u) ≡ length cases = sym (ap length c.as_slice-all.ensures ∙ sym c.len-2.ensures ∙ c.if-len-walked.false ∙ c.walked.ensures ∙ ap (λ o. length (walked_bodies (plain_op c.args.command.now.op) (option_map plain_atom o))) c.as_ref.ensures.value) in
    let some : length cases ≡ 0 → ⊥ = λ e. c.if-len-eq0.false (c.len.ensures ∙ sym (ap length c.as_slice-all.ensures) ∙ e) in
    let all = all_begin D c.args.state.now k u cases many some (λ m l x g. c.loop-k.invariant m (omega (arith, l)) x g) in
    (all.0, subst (λ l. Branches D c.args.state.now k u (cases_seen l) all.0) c.as_slice-all.ensures all.1)
