use Rattle.std.proofs.Common.{◌≡◌, take, map}
use Rattle.mz_scope.specs.Declarations.{param_name}
use Rattle.mz_scope.specs.Tables.{param_word}
use Rattle.mz_scope.specs.View.{core_name_of}
use Rattle.mz_scope.specs.declared.entries.Param.{Param}
use Rattle.mz_scope.proofs.parameters.param_names.Given as goal

abbrev pub invariant-loop-i : goal.invariant-loop-i
invariant-loop-i l = map core_name_of l.names ≡ map (λ (p : Param). param_name (param_word p)) (take l.i l.params)
