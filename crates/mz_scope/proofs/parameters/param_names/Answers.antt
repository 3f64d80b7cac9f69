use Rattle.std.proofs.Common.{◌∙◌, arith}
use Rattle.mz_scope.specs.declared.entries.Param.{Param}
use Rattle.mz_scope.specs.Declarations.{param_name}
use Rattle.mz_scope.specs.Tables.{param_word}
use Rattle.mz_scope.specs.View.{core_name_of}
use Rattle.mz_scope.proofs.Walks.{view_walk, view_end, map_map}
use Rattle.mz_scope.proofs.parameters.param_names.Goals as goal

pub loop-i-preserved : goal.loop-i-preserved
loop-i-preserved c =
    view_walk core_name_of (λ (p : Param). param_name (param_word p)) c.args.params.now c.loop-i.i c.index-params-i.result c.loop-i.names c.push.new.self c.in_ok-param_name.field-0 c.loop-i.invariant (omega arith) c.index-params-i.is c.in_ok-param_name.ensures c.in_ok-push.ensures.ok

pub returns : goal.returns
returns c =
    view_end core_name_of (λ (p : Param). param_name (param_word p)) c.args.params.now c.loop-i.i c.loop-i.names c.loop-i.invariant (omega arith) ∙ map_map param_word param_name c.args.params.now
