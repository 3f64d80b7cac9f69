use Rattle.std.proofs.Common.{◌≡◌, ℕ, Option, Some, None, refl, ap, ◌∙◌}
use Rattle.mz_named.proofs.OneCell.{take_acts, take_fails}
use Rattle.mz_named.proofs.changing.take.Goals as goal

pub set_adopter-requires : goal.set_adopter-requires
set_adopter-requires c = (c.in-Some.taken.con, c.in-Some.taken.adopter, c.in-Some.taken.fields.now, c.in-Some.ensures.stands)

none_some : {o : Option ℕ} {n : ℕ} → o ≡ None → o ≡ Some n → ⊥
none_some e f = cc

somes : {o : Option ℕ} {m n : ℕ} → o ≡ Some m → o ≡ Some n → m ≡ n
somes e f = cc

pub returns-in-None-clause-does : goal.returns-in-None-clause-does
returns-in-None-clause-does c prints = (
  take_fails c.args.cells.now.items c.args.cells.now.items prints c.args.values.now c.args.block c.in-Some.taken.name c.in-Some.taken.con c.in-Some.taken.adopter c.in-Some.taken.fields.now c.in-Some.ensures
      c.args.adopter c.in-Some-block_of.pool.name c.in-Some-block_of.pool.con c.in-Some-block_of.pool.adopter c.in-Some-block_of.pool.fields.now c.in-Some-block_of.ensures (none_some c.in-None.is),
  refl,
  refl,
)

pub returns-then-holder-by-clause-does : goal.returns-then-holder-by-clause-does
returns-then-holder-by-clause-does c prints = (
  take_fails c.args.cells.now.items c.args.cells.now.items prints c.args.values.now c.args.block c.in-Some.taken.name c.in-Some.taken.con c.in-Some.taken.adopter c.in-Some.taken.fields.now c.in-Some.ensures
      c.args.adopter c.in-Some-block_of.pool.name c.in-Some-block_of.pool.con c.in-Some-block_of.pool.adopter c.in-Some-block_of.pool.fields.now c.in-Some-block_of.ensures (λ its. c.if-holder-by.true (somes c.in-Some-adopter.is its)),
  refl,
  refl,
)

pub returns-else-holder-by-clause-does : goal.returns-else-holder-by-clause-does
returns-else-holder-by-clause-does c prints =
    take_acts c.args.cells.now.items c.set_adopter.new.cells.items prints c.args.values.now c.args.block c.in-Some.taken.name c.in-Some.taken.con c.in-Some.taken.adopter c.in-Some.taken.fields.now c.in-Some.ensures
    c.args.adopter c.in-Some-block_of.pool.name c.in-Some-block_of.pool.con c.in-Some-block_of.pool.adopter c.in-Some-block_of.pool.fields.now c.in-Some-block_of.ensures (c.in-Some-adopter.is ∙ ap Some c.if-holder-by.false)
    (c.set_adopter.ensures.set c.in-Some.taken.con c.in-Some.taken.adopter c.in-Some.taken.fields.now c.in-Some.ensures.stands)
