use Rattle.std.proofs.Common.{◌≡◌, ◌&&◌, drop, map, slice_get, codes}
use Rattle.std.specs.List.{list_any}
use Rattle.std.specs.Str.{bytes_eq}
use Rattle.mz_tree.specs.Programs.{Fun}
use Rattle.mz_tree.specs.View.{plain_fun, plain_program}
use Rattle.mz_tree.specs.Main.{has_no_param, has_main}
use Rattle.mz_scope.proofs.resolution.has_main.Given as goal

abbrev pub invariant-loop-i : goal.invariant-loop-i
invariant-loop-i l = has_main (plain_program l.program)
    ≡ list_any (λ (f : Fun). bytes_eq f.name (codes "main") && has_no_param (slice_get (plain_program l.program).sigs f.sig)) (map plain_fun (drop l.i l.funs))
