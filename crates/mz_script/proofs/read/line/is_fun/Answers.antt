use Rattle.std.proofs.Common.{sym, ap, ◌∙◌}
use Rattle.mz_script.specs.Places.{begins_fun, same_name}
use Rattle.mz_script.specs.Said.{plain_line}
use Rattle.mz_script.proofs.ReadFronts.{names_same}
use Rattle.mz_script.proofs.read.line.is_fun.Goals as goal

pub returns-in-Fun : goal.returns-in-Fun
returns-in-Fun c = c.eq.ensures ∙ names_same c.args.name.now _ ∙ ap (same_name c.args.name.now) c.as_slice.ensures ∙ ap (λ l. begins_fun c.args.name.now (plain_line l)) (sym c.in-Fun.is)
