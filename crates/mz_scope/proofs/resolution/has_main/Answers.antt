use Rattle.std.proofs.Common.{◌&&◌, map, slice_get, codes, sym, ap, ◌∙◌, arith}
use Rattle.std.specs.List.{list_any}
use Rattle.std.specs.Str.{bytes_eq}
use Rattle.std.proofs.Math.ListN.{drop_of_length-le}
use Rattle.mz_tree.specs.Programs.{Fun}
use Rattle.mz_tree.specs.View.{plain_fun, plain_program}
use Rattle.mz_tree.specs.Main.{has_no_param}
use Rattle.mz_scope.proofs.resolution.has_main.Goals as goal

pub returns : goal.returns
returns c =
    sym (c.loop-i.invariant
    ∙ ap (λ l. list_any (λ (f : Fun). bytes_eq f.name (codes "main") && has_no_param (slice_get (plain_program c.args.program.now).sigs f.sig)) (map plain_fun l)) (drop_of_length-le c.as_slice-funs.result.now (omega arith)))
