-- The function that a program begins with.
use Rattle.std.specs.Prelude.{◌==◌, ◌&&◌, Bool, false, Option, Some, None, codes, slice_get}
use Rattle.std.specs.List.{list_any}
use Rattle.std.specs.Str.{bytes_eq}
use Rattle.mz_tree.specs.Programs.{Sig, Fun, Program}

abbrev pub has_no_param : Option Sig → Bool
has_no_param None = false
has_no_param (Some sig) = sig.count == 0

-- whether there is a function `main` whose signature has no parameter
abbrev pub has_main : Program → Bool
has_main p = list_any (λ (f : Fun). bytes_eq f.name (codes "main") && has_no_param (slice_get p.sigs f.sig)) p.funs
