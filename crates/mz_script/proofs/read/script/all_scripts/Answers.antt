use Rattle.mz_tree.specs.View.{plain_program}
use Rattle.mz_script.proofs.Settling.{settled_stop, settled_end, settled_more, some_lines}
use Rattle.mz_script.proofs.read.script.all_scripts.Goals as goal

-- the reader stopped
pub returns-in-Err : goal.returns-in-Err
returns-in-Err c = settled_stop (plain_program c.args.program.now) c.requires.scoped c.args.bytes.now c.in-Err.stop c.in-Err.ensures

-- it read all
pub returns-then-rest-eq0 : goal.returns-then-rest-eq0
returns-then-rest-eq0 c = settled_end (plain_program c.args.program.now) c.requires.scoped c.args.bytes.now c.in-Ok.rest.now _ c.if-rest-eq0.true c.in-Ok.ensures

-- it left some
pub returns-else-rest-eq0 : goal.returns-else-rest-eq0
returns-else-rest-eq0 c = settled_more (plain_program c.args.program.now) c.requires.scoped c.args.bytes.now c.in-Ok.rest.now _ _ (some_lines c.in-Ok.rest.now c.if-rest-eq0.false) c.count.ensures c.in-Ok.ensures
