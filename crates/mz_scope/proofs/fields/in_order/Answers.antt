use Rattle.std.proofs.Common.{sym, ap, ◌∙◌, arith}
use Rattle.std.specs.Option.{option_copied}
use Rattle.mz_scope.specs.Types.{in_order}
use Rattle.mz_scope.proofs.FieldLists.{all_in_order}
use Rattle.mz_scope.proofs.fields.in_order.Goals as goal

pub returns : goal.returns
returns c =
    all_in_order c.in-Some.con.now c.args.written.now c.fields-fields.result.now c.loop-i.values c.loop-i.i c.fields-fields.ensures (omega arith) c.loop-i.invariant
    ∙ ap (λ k. in_order k c.args.written.now) (sym (ap option_copied c.in-Some.is))
