use Rattle.std.proofs.Common.{◌≡◌, true, suc, length, ◌-◌, ◌+◌, sym, ◌∙◌, arith, rules}
use Rattle.mz_grammar.specs.Answers.{begin}
use Rattle.mz_grammar.proofs.Loops.{many_more}
use Rattle.mz_types.specs.Words.{mark}
use Rattle.mz_parse.specs.BodyReading.{next_at}
use Rattle.mz_parse.specs.DeclarationReading.{field_by}
use Rattle.mz_parse.proofs.declarations.next_fields.Goals as goal

-- the loop goes on with one more
pub loop-i-preserved : goal.loop-i-preserved
loop-i-preserved c =
    let next : begin (mark 4) c.loop-i.rest.now ≡ true = search rules in
    let more = many_more (mark 4) (next_at (mark 4) (field_by (suc c.args.inside))) c.loop-i.items (length c.args.tokens.now - c.loop-i.i) (length c.args.tokens.now - (c.loop-i.i + 1)) c.loop-i.rest.now
    c.in_ok-item.more.now c.in_ok-item.item next c.in_ok-item.ensures (omega arith) in
    rw c.in_ok-push.ensures.ok (sym more ∙ c.loop-i.invariant)
