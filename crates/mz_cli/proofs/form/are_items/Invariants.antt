use Rattle.std.proofs.Common.{◌≡◌, drop}
use Rattle.std.specs.List.{list_all}
use Rattle.mz_cli.specs.FirstForm.{is_item}
use Rattle.mz_cli.proofs.form.are_items.Given as goal

abbrev pub invariant-loop-i : goal.invariant-loop-i
invariant-loop-i l = list_all is_item l.items ≡ list_all is_item (drop l.i l.items)
