use Rattle.std.proofs.Common.{◌≡◌, true, suc, Ok, length, ◌-◌, ◌+◌, sym, ap, ◌∙◌, arith, rules}
use Rattle.mz_grammar.specs.Answers.{begin}
use Rattle.mz_grammar.proofs.Loops.{many_more, rounds_more, body_last, body_err, body_spent}
use Rattle.mz_types.specs.Stops.{cause}
use Rattle.mz_types.specs.Words.{upper, mark}
use Rattle.mz_parse.specs.Grammar.{multiplying, adding}
use Rattle.mz_parse.specs.BodyReading.{next_at, argument_by, value_by, case_by, round_by, items_by, factor_by, term_by, within}
use Rattle.mz_parse.specs.Rounds.{round_of}
use Rattle.mz_parse.proofs.expressions.+expressions.Goals as goal

-- a loop goes on with one more
pub next_arguments-loop-i-preserved : goal.next_arguments-loop-i-preserved
next_arguments-loop-i-preserved t c =
    let next : begin (mark 6) c.loop-i.rest.now ≡ true = search rules in
    let more = many_more (mark 6) (next_at (mark 6) (argument_by (within (suc c.args.inside)))) c.loop-i.items (length c.args.tokens.now - c.loop-i.i) (length c.args.tokens.now - (c.loop-i.i + 1)) c.loop-i.rest.now c.in_ok-item.more.now c.in_ok-item.item next c.in_ok-item.ensures (omega arith) in
    rw c.in_ok-push.ensures.ok (sym more ∙ c.loop-i.invariant)

pub next_values-loop-i-preserved : goal.next_values-loop-i-preserved
next_values-loop-i-preserved t c =
    let next : begin (mark 4) c.loop-i.rest.now ≡ true = search rules in
    let more = many_more (mark 4) (next_at (mark 4) (value_by (within (suc c.args.inside)))) c.loop-i.items (length c.args.tokens.now - c.loop-i.i) (length c.args.tokens.now - (c.loop-i.i + 1)) c.loop-i.rest.now c.in_ok-item.more.now c.in_ok-item.item next c.in_ok-item.ensures (omega arith) in
    rw c.in_ok-push.ensures.ok (sym more ∙ c.loop-i.invariant)

pub factors-loop-i-preserved : goal.factors-loop-i-preserved
factors-loop-i-preserved t c =
    let next : begin multiplying c.loop-i.rest.now ≡ true = search rules in
    let more = many_more multiplying (factor_by c.args.depth (within c.args.depth)) c.loop-i.items (length c.args.tokens.now - c.loop-i.i) (length c.args.tokens.now - (c.loop-i.i + 1)) c.loop-i.rest.now c.in_ok-item.more.now c.in_ok-item.item next c.in_ok-item.ensures (omega arith) in
    rw c.in_ok-push.ensures.ok (sym more ∙ c.loop-i.invariant)

pub terms-loop-i-preserved : goal.terms-loop-i-preserved
terms-loop-i-preserved t c =
    let next : begin adding c.loop-i.rest.now ≡ true = search rules in
    let more = many_more adding (term_by c.args.depth (within c.args.depth)) c.loop-i.items (length c.args.tokens.now - c.loop-i.i) (length c.args.tokens.now - (c.loop-i.i + 1)) c.loop-i.rest.now c.in_ok-item.more.now c.in_ok-item.item next c.in_ok-item.ensures (omega arith) in
    rw c.in_ok-push.ensures.ok (sym more ∙ c.loop-i.invariant)

pub next_cases-loop-i-preserved : goal.next_cases-loop-i-preserved
next_cases-loop-i-preserved t c =
    let next : begin upper c.loop-i.rest.now ≡ true = search rules in
    let more = many_more upper (case_by (within (suc c.args.inside))) c.loop-i.items (length c.args.tokens.now - c.loop-i.i) (length c.args.tokens.now - (c.loop-i.i + 1)) c.loop-i.rest.now c.in_ok-item.more.now c.in_ok-item.item next c.in_ok-item.ensures (omega arith) in
    rw c.in_ok-push.ensures.ok (sym more ∙ c.loop-i.invariant)

-- ---- the items of a block

-- a round stopped
pub items-returns-in-Err : goal.items-returns-in-Err
unfolding items_by
items-returns-in-Err t c = body_err (round_by (within (suc c.args.inside))) c.loop-i.items (length c.args.tokens.now - c.loop-i.i) c.loop-i.rest.now _ c.loop-i.invariant
    (length c.args.tokens.now - (c.loop-i.i + 1)) (cause c.in-Err.stop) c.in-Err.ensures (omega arith)

-- no round is left
pub items-returns : goal.items-returns
unfolding items_by
items-returns t c = body_spent (round_by (within (suc c.args.inside))) c.loop-i.items (length c.args.tokens.now - c.loop-i.i) c.loop-i.rest.now _ c.loop-i.invariant (omega arith)

-- a round was the last
pub items-returns-in-Last : goal.items-returns-in-Last
unfolding items_by
items-returns-in-Last t c = body_last (round_by (within (suc c.args.inside))) c.loop-i.items (length c.args.tokens.now - c.loop-i.i) c.loop-i.rest.now _ c.loop-i.invariant
    (length c.args.tokens.now - (c.loop-i.i + 1)) c.in-Ok.read.1.now c.in-Last.last (c.in-Ok.ensures ∙ ap (λ u. Ok (round_of u, c.in-Ok.read.1.now)) c.in-Last.is) (omega arith)

-- a round goes on
pub items-loop-i-preserved : goal.items-loop-i-preserved
items-loop-i-preserved t c =
    let more = rounds_more (round_by (within (suc c.args.inside))) c.loop-i.items (length c.args.tokens.now - c.loop-i.i) (length c.args.tokens.now - (c.loop-i.i + 1)) c.loop-i.rest.now
    c.in-Ok.read.1.now c.in-More.item (c.in-Ok.ensures ∙ ap (λ u. Ok (round_of u, c.in-Ok.read.1.now)) c.in-More.is) (omega arith) in
    rw c.in_ok-push-in-More.ensures.ok (sym more ∙ c.loop-i.invariant)
