use Rattle.std.proofs.Common.{◌+◌, ◌-◌, ◌<◌, length, subst, arith}
use Rattle.mz_tree.specs.Saying.{Says}
use Rattle.mz_tree.specs.View.{plain_atom}
use Rattle.mz_decl.specs.View.{plain_decls}
use Rattle.mz_index.specs.Questions.{plain_test, FirstFrom}
use Rattle.mz_goal.specs.Goals.{Mark, Entry}
use Rattle.mz_goal.specs.Marked.{plain_mark, entries}
use Rattle.mz_goal.specs.Offering.{IsOffer, plain_wanted}
use Rattle.mz_goal.proofs.Offering.{offers_none, offers_again, offers_found, found_class, found_within, is_none}
use Rattle.mz_goal.proofs.offers.first_by.Goals as goal

pub returns-then-suits : goal.returns-then-suits
returns-then-suits c =
    let D = plain_decls c.args.decls.now in
    let R = c.args.state.now in
    let M = c.args.marks.now in
    let x = c.args.name in
    let w = plain_wanted c.args.wanted.now in
    let n = c.in-Some.place in
    let a = plain_atom c.at.result.now in
    let one : Entry = record { atom = a; mark = plain_mark c.mark_at-mark.result } in
    let test = plain_test c.args.test.now in
    let found = subst (FirstFrom R x c.loop-place.from test) c.in-Some.is c.in_ok-place.ensures in
    let said = c.suits.ensures (entries R M) x (found_class D R M x w c.loop-place.from n test a c.requires.test found c.at.ensures) in
    let yes_said = subst (λ b. Says b (IsOffer D (entries R M) x w one)) c.if-suits.true said in
    offers_found D R M x w c.loop-place.from n test a c.requires.test c.loop-place.invariant found c.at.ensures (subst (λ (m : Mark). IsOffer D (entries R M) x w (record { atom = a; mark = m })) c.mark_at-mark.ensures yes_said)

pub overflow_add-from : goal.overflow_add-from
overflow_add-from c =
    let test = plain_test c.args.test.now in
    let found = subst (FirstFrom c.args.state.now c.args.name c.loop-place.from test) c.in-Some.is c.in_ok-place.ensures in
    let h = found_within c.args.state.now c.args.name c.loop-place.from c.in-Some.place test found in
    omega (arith, h)

pub loop-place-smaller : goal.loop-place-smaller
loop-place-smaller c =
    let test = plain_test c.args.test.now in
    let found = subst (FirstFrom c.args.state.now c.args.name c.loop-place.from test) c.in-Some.is c.in_ok-place.ensures in
    let h = found_within c.args.state.now c.args.name c.loop-place.from c.in-Some.place test found in
    let g = found.at_least in
    let less : length c.args.state.now - (c.in-Some.place + 1) < length c.args.state.now - c.loop-place.from = omega (arith, h, g) in
    less

pub loop-place-preserved : goal.loop-place-preserved
loop-place-preserved c =
    let D = plain_decls c.args.decls.now in
    let R = c.args.state.now in
    let M = c.args.marks.now in
    let x = c.args.name in
    let w = plain_wanted c.args.wanted.now in
    let n = c.in-Some.place in
    let a = plain_atom c.at.result.now in
    let one : Entry = record { atom = a; mark = plain_mark c.mark_at-mark.result } in
    let test = plain_test c.args.test.now in
    let found = subst (FirstFrom R x c.loop-place.from test) c.in-Some.is c.in_ok-place.ensures in
    let said = c.suits.ensures (entries R M) x (found_class D R M x w c.loop-place.from n test a c.requires.test found c.at.ensures) in
    let no_said = subst (λ b. Says b (IsOffer D (entries R M) x w one)) c.if-suits.false said in
    offers_again D R M x w c.loop-place.from n test a c.requires.test c.loop-place.invariant found c.at.ensures (subst (λ (m : Mark). IsOffer D (entries R M) x w (record { atom = a; mark = m }) → ⊥) c.mark_at-mark.ensures no_said)

pub returns : goal.returns
returns c =
    let D = plain_decls c.args.decls.now in
    let R = c.args.state.now in
    let M = c.args.marks.now in
    let x = c.args.name in
    let w = plain_wanted c.args.wanted.now in
    let test = plain_test c.args.test.now in
    let none = is_none c.in_ok-place.field-0 c.in_default.not-Some in
    offers_none D R M x w c.loop-place.from test c.requires.test c.loop-place.invariant (subst (FirstFrom R x c.loop-place.from test) none c.in_ok-place.ensures)
