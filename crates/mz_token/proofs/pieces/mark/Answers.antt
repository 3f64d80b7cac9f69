use Rattle.std.proofs.Common.{sym}
use Rattle.mz_token.proofs.Marks.{one_found, two_found, none_found}
use Rattle.mz_token.proofs.pieces.mark.Goals as goal

pub returns-in-Some : goal.returns-in-Some
returns-in-Some c = two_found c.args.bytes.now c.in-Some.number c.requires.other c.in-Some.ensures.some.0 c.in-Some.ensures.some.1

pub returns-in-Some-mark : goal.returns-in-Some-mark
returns-in-Some-mark c = one_found c.args.bytes.now c.in-Some-mark.number c.requires.other c.requires.some c.in-None.ensures.none (sym c.in-Some-mark.ensures)

pub returns-in-None-mark : goal.returns-in-None-mark
returns-in-None-mark c = none_found c.args.bytes.now c.requires.other c.requires.some c.in-None.ensures.none (sym c.in-None-mark.ensures)
