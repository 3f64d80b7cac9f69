use Rattle.std.proofs.Common.{◌+◌, ◌-◌, ◌<◌, length, subst, arith}
use Rattle.std.proofs.lemmas.Option.{slice_get_within}
use Rattle.mz_tree.specs.Saying.{Says}
use Rattle.mz_tree.specs.View.{plain_atom}
use Rattle.mz_decl.specs.View.{plain_decls}
use Rattle.mz_index.specs.Questions.{plain_test, FirstFrom}
use Rattle.mz_elab.specs.Sought.{IsSought, OfTy, plain_sought}
use Rattle.mz_elab.proofs.Sorts.{yet_none, yet_again, yet_found}
use Rattle.mz_goal.proofs.Offering.{is_none}
use Rattle.mz_elab.proofs.finding.first_by.Goals as goal

pub returns-then-suits : goal.returns-then-suits
returns-then-suits c =
    let D = plain_decls c.args.decls.now in
    let s = plain_sought c.args.sought.now in
    let test = plain_test c.args.test.now in
    let found = subst (FirstFrom c.args.state.now c.args.name c.loop-place.from test) c.in-Some.is c.in_ok-place.ensures in
    yet_found D s c.args.state.now c.args.name c.loop-place.from c.in-Some.place test (plain_atom c.at.result.now) c.requires.test c.loop-place.invariant found c.at.ensures (subst (λ b. Says b (OfTy (IsSought D s) (plain_atom c.at.result.now))) c.if-suits.true c.suits.ensures)

pub overflow_add-from : goal.overflow_add-from
overflow_add-from c =
    let test = plain_test c.args.test.now in
    let found = subst (FirstFrom c.args.state.now c.args.name c.loop-place.from test) c.in-Some.is c.in_ok-place.ensures in
    let h = slice_get_within c.args.state.now c.in-Some.place found.one found.stands in
    omega (arith, h)

pub loop-place-smaller : goal.loop-place-smaller
loop-place-smaller c =
    let test = plain_test c.args.test.now in
    let found = subst (FirstFrom c.args.state.now c.args.name c.loop-place.from test) c.in-Some.is c.in_ok-place.ensures in
    let h = slice_get_within c.args.state.now c.in-Some.place found.one found.stands in
    let g = found.at_least in
    let less : length c.args.state.now - (c.in-Some.place + 1) < length c.args.state.now - c.loop-place.from = omega (arith, h, g) in
    less

pub loop-place-preserved : goal.loop-place-preserved
loop-place-preserved c =
    let D = plain_decls c.args.decls.now in
    let s = plain_sought c.args.sought.now in
    let test = plain_test c.args.test.now in
    let found = subst (FirstFrom c.args.state.now c.args.name c.loop-place.from test) c.in-Some.is c.in_ok-place.ensures in
    yet_again D s c.args.state.now c.args.name c.loop-place.from c.in-Some.place test (plain_atom c.at.result.now) c.requires.test c.loop-place.invariant found c.at.ensures (subst (λ b. Says b (OfTy (IsSought D s) (plain_atom c.at.result.now))) c.if-suits.false c.suits.ensures)

pub returns : goal.returns
returns c =
    let D = plain_decls c.args.decls.now in
    let s = plain_sought c.args.sought.now in
    let test = plain_test c.args.test.now in
    let none = is_none c.in_ok-place.field-0 c.in_default.not-Some in
    yet_none D s c.args.state.now c.args.name c.loop-place.from test c.requires.test c.loop-place.invariant (subst (FirstFrom c.args.state.now c.args.name c.loop-place.from test) none c.in_ok-place.ensures)
