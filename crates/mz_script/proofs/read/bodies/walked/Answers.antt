use Rattle.std.proofs.Common.{sym, ◌∙◌}
use Rattle.mz_script.proofs.ReaderParts.{walked_known, walked_all}
use Rattle.mz_script.proofs.read.bodies.walked.Goals as goal

pub returns-then-has_case : goal.returns-then-has_case
returns-then-has_case c = walked_known _ _ c.in-Some.con (sym c.known_con.ensures ∙ c.in-Some.is) (sym c.has_case.ensures ∙ c.if-has_case.true)

pub returns-else-has_case : goal.returns-else-has_case
returns-else-has_case c = walked_all _ _ c.in-Some.con (sym c.known_con.ensures ∙ c.in-Some.is) (sym c.has_case.ensures ∙ c.if-has_case.false)
