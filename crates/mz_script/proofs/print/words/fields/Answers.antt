use Rattle.std.proofs.Common.{◌++◌, codes, map, arith}
use Rattle.mz_tree.specs.View.{plain_field}
use Rattle.mz_script.specs.Words.{fields_text}
use Rattle.mz_script.proofs.Printing.{fields_done}
use Rattle.mz_script.proofs.print.words.fields.Goals as goal

pub returns : goal.returns
returns c = fields_done c.loop-i.before.now c.args.fields.now c.args.names.now c.loop-i.i c.loop-i.out.items (c.args.out.now.items ++ fields_text (codes " ") (map plain_field c.args.fields.now) c.args.names.now) (omega arith) c.loop-i.invariant
