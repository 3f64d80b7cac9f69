use Rattle.mz_parse.proofs.WholeSources.{right_stop, only_stop, right_end, only_end, right_more, only_more}
use Rattle.mz_parse.proofs.whole.all_declarations.Goals as goal

-- the reader stopped
pub returns-in-Err-clause-right : goal.returns-in-Err-clause-right
returns-in-Err-clause-right c = right_stop _ c.in-Err.stop c.in-Err.ensures

pub returns-in-Err-clause-only : goal.returns-in-Err-clause-only
returns-in-Err-clause-only c = only_stop _ c.in-Err.stop c.in-Err.ensures

-- it read all
pub returns-then-rest-eq0-clause-right : goal.returns-then-rest-eq0-clause-right
returns-then-rest-eq0-clause-right c = right_end _ _ _ c.if-rest-eq0.true c.in-Ok.ensures

pub returns-then-rest-eq0-clause-only : goal.returns-then-rest-eq0-clause-only
returns-then-rest-eq0-clause-only c = only_end _ _ _ c.in-Ok.ensures

-- it left some
pub returns-else-rest-eq0-clause-right : goal.returns-else-rest-eq0-clause-right
returns-else-rest-eq0-clause-right c = right_more _ _ _ c.if-rest-eq0.false c.in-Ok.ensures

pub returns-else-rest-eq0-clause-only : goal.returns-else-rest-eq0-clause-only
returns-else-rest-eq0-clause-only c = only_more _ _ _ c.if-rest-eq0.false c.in-Ok.ensures
