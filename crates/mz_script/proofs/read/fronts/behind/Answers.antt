use Rattle.std.proofs.Common.{Some, sym, ap, ◌∙◌}
use Rattle.std.proofs.lemmas.List.{take_rest}
use Rattle.mz_script.proofs.ReadFronts.{front_is, front_no}
use Rattle.mz_script.proofs.read.fronts.behind.Goals as goal

pub returns-then-starts_with : goal.returns-then-starts_with
returns-then-starts_with c = ap Some (take_rest c.args.bytes.now _) ∙ sym (front_is c.args.text.now c.args.bytes.now (sym c.starts_with.ensures.value ∙ c.if-starts_with.true))

pub returns-else-starts_with : goal.returns-else-starts_with
returns-else-starts_with c = sym (front_no c.args.text.now c.args.bytes.now (sym c.starts_with.ensures.value ∙ c.if-starts_with.false))
