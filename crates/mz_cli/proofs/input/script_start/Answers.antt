use Rattle.std.proofs.Common.{rules, ◌≡◌, ◌∙◌, suc, ◌+◌, ◌-◌, length, take, drop, refl, sym, slice_index_or, arith}
use Rattle.mz_cli.specs.Inputs.{head_line}
use Rattle.mz_cli.proofs.Parts.{moved, not_ten, scanned_none, scanned_more, scanned_line, begins_here, begins_never}
use Rattle.mz_cli.proofs.input.script_start.Goals.{then-bytes-at-eq10+else-eq, else-bytes-at-eq10}
use Rattle.mz_cli.proofs.input.script_start.Goals as goal

pub loop-at-init : goal.loop-at-init
loop-at-init c = scanned_none c.args.bytes.now

pub slice_bounds-eq-count : goal.slice_bounds-eq-count
slice_bounds-eq-count c = (let long = c.loop-at.invariant.long in omega (arith, long))

pub returns-then-eq-clause-source : goal.returns-then-eq-clause-source
returns-then-eq-clause-source c =
    let same : take (c.loop-at.at + 1 - c.loop-at.start) (drop c.loop-at.start c.args.bytes.now) ≡ head_line = search rules in
    let begins = begins_here c.args.bytes.now c.loop-at.start c.loop-at.at 10 (sym c.if-bytes-at-eq10.true) c.loop-at-test.true refl same c.loop-at.invariant in
    begins.source

pub returns-then-eq-clause-script : goal.returns-then-eq-clause-script
returns-then-eq-clause-script c =
    let same : take (c.loop-at.at + 1 - c.loop-at.start) (drop c.loop-at.start c.args.bytes.now) ≡ head_line = search rules in
    let begins = begins_here c.args.bytes.now c.loop-at.start c.loop-at.at 10 (sym c.if-bytes-at-eq10.true) c.loop-at-test.true refl same c.loop-at.invariant in
    begins.script

pub loop-at-preserved : goal.loop-at-preserved
loop-at-preserved c = elim c.if-bytes-at-eq10.branch [
  | then-bytes-at-eq10+else-eq w ↦ (
      let never : take (c.loop-at.at + 1 - c.loop-at.start) (drop c.loop-at.start c.args.bytes.now) ≡ head_line → ⊥ = λ same. search rules in
      let next : suc c.loop-at.at ≡ c.loop-at.at + 1 = omega arith in
      moved c.args.bytes.now (suc c.loop-at.at) (suc c.loop-at.at) c.if-bytes-at-eq10.start (c.loop-at.at + 1) (next ∙ sym w.start-is) next
      (scanned_line c.args.bytes.now c.loop-at.start c.loop-at.at 10 (sym w.if-bytes-at-eq10.true) c.loop-at-test.true refl never c.loop-at.invariant)
      )
  | else-bytes-at-eq10 w ↦ (
      let next : suc c.loop-at.at ≡ c.loop-at.at + 1 = omega arith in
      moved c.args.bytes.now c.loop-at.start (suc c.loop-at.at) c.if-bytes-at-eq10.start (c.loop-at.at + 1) (sym w.start-is) next
      (scanned_more c.args.bytes.now c.loop-at.start c.loop-at.at (slice_index_or c.args.bytes.now c.loop-at.at 0) refl c.loop-at-test.true (not_ten (slice_index_or c.args.bytes.now c.loop-at.at 0) w.if-bytes-at-eq10.false) c.loop-at.invariant)
      )
]

pub returns-clause-source : goal.returns-clause-source
returns-clause-source c =
    let most = c.loop-at.auto.at-end in
    let least = c.loop-at-test.false in
    let last : c.loop-at.at ≡ length c.args.bytes.now = omega (arith, most, least) in
    let begins = begins_never c.args.bytes.now c.loop-at.start c.loop-at.at last c.loop-at.invariant in
    begins.source

pub returns-clause-script : goal.returns-clause-script
returns-clause-script c =
    let most = c.loop-at.auto.at-end in
    let least = c.loop-at-test.false in
    let last : c.loop-at.at ≡ length c.args.bytes.now = omega (arith, most, least) in
    let begins = begins_never c.args.bytes.now c.loop-at.start c.loop-at.at last c.loop-at.invariant in
    begins.script
