use Rattle.std.proofs.Common.{sym, subst}
use Rattle.mz_tree.specs.View.{plain_atoms, plain_program}
use Rattle.mz_script.specs.Cutting.{lines}
use Rattle.mz_script.specs.ReadLines.{piece_of}
use Rattle.mz_script.specs.Stops.{Gives}
use Rattle.mz_script.proofs.ReaderParts.{join_some}
use Rattle.mz_script.proofs.read.bodies.maybe_join.Goals as goal

pub returns : goal.returns
returns c = subst (λ r. Gives (λ x. (plain_atoms x.0, lines x.1.now)) c.join_line.result r) (sym (join_some (piece_of (plain_program c.args.program.now)) c.args.cases.now (lines c.args.bytes.now) c.if-cases-eq0.false)) c.join_line.ensures
