use Rattle.std.proofs.Common.{sym, ap, ◌∙◌, arith}
use Rattle.mz_scope.specs.declared.making.CoreName.{CoreName}
use Rattle.mz_scope.specs.Making.{CoreName as PlainName}
use Rattle.mz_scope.specs.View.{core_name_of}
use Rattle.mz_scope.proofs.Walks.{take_walk, take_end, map_map}
use Rattle.mz_scope.proofs.functions.spellings.Goals as goal

pub loop-i-preserved : goal.loop-i-preserved
loop-i-preserved c =
    take_walk (λ (n : CoreName). n.spelling) c.args.names.now c.loop-i.i c.index-names-i.result c.loop-i.texts c.push.new.self c.in_ok-copy.field-0 c.loop-i.invariant (omega arith) c.index-names-i.is (c.in_ok-copy.ensures ∙ ap (λ (n : CoreName). n.spelling) (sym c.index-names-i.is)) c.in_ok-push.ensures.ok

pub returns : goal.returns
returns c =
    take_end (λ (n : CoreName). n.spelling) c.args.names.now c.loop-i.i c.loop-i.texts c.loop-i.invariant (omega arith) ∙ map_map core_name_of (λ (n : PlainName). n.spelling) c.args.names.now
