use Rattle.mz_tree.specs.View.{plain_program}
use Rattle.mz_script.proofs.Settling.{is_text, gives_it, no_text, stop_cause, stop_gives, stop_tells}
use Rattle.mz_script.proofs.read.script.read_script.Goals as goal

pub returns-in-Ok-clause-text : goal.returns-in-Ok-clause-text
returns-in-Ok-clause-text c = is_text (plain_program c.args.program.now) c.requires.scoped c.args.bytes.now c.in-Ok.scripts c.in-Ok.ensures

pub returns-in-Ok-clause-gives : goal.returns-in-Ok-clause-gives
returns-in-Ok-clause-gives c scripts is = gives_it (plain_program c.args.program.now) c.requires.scoped c.args.bytes.now _ scripts (is_text (plain_program c.args.program.now) c.requires.scoped c.args.bytes.now c.in-Ok.scripts c.in-Ok.ensures) is

pub returns-in-Ok-clause-tells : goal.returns-in-Ok-clause-tells
returns-in-Ok-clause-tells c n w = no_text (plain_program c.args.program.now) c.requires.scoped c.args.bytes.now n _ w (is_text (plain_program c.args.program.now) c.requires.scoped c.args.bytes.now c.in-Ok.scripts c.in-Ok.ensures)

pub returns-in-Err-clause-cause : goal.returns-in-Err-clause-cause
returns-in-Err-clause-cause c = stop_cause (plain_program c.args.program.now) c.requires.scoped c.args.bytes.now c.in-Err.stop c.fault.result c.in-Err.ensures c.fault.ensures

pub returns-in-Err-clause-gives : goal.returns-in-Err-clause-gives
returns-in-Err-clause-gives c scripts is = stop_gives (plain_program c.args.program.now) c.requires.scoped c.args.bytes.now c.in-Err.stop c.fault.result c.in-Err.ensures c.fault.ensures scripts is

pub returns-in-Err-clause-tells : goal.returns-in-Err-clause-tells
returns-in-Err-clause-tells c n w = stop_tells (plain_program c.args.program.now) c.requires.scoped c.args.bytes.now c.in-Err.stop c.fault.result c.in-Err.ensures c.fault.ensures n w
