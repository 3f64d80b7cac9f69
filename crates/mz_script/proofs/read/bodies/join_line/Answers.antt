use Rattle.std.proofs.Common.{[], option_map, refl, sym, ap, subst, ◌∙◌}
use Rattle.mz_script.specs.Cutting.{lines}
use Rattle.mz_script.specs.Said.{Tells}
use Rattle.mz_script.specs.ReadLines.{piece_of}
use Rattle.mz_script.specs.Said.{plain_line}
use Rattle.mz_tree.specs.View.{plain_program}
use Rattle.mz_script.specs.Reading.{join_at}
use Rattle.mz_script.proofs.Walking.{join_none, join_found, join_other}
use Rattle.mz_script.proofs.read.bodies.join_line.Goals as goal

pub returns-in-None : goal.returns-in-None
returns-in-None c =
    let none = subst (λ o. Tells (piece_of (plain_program c.args.program.now)) (option_map (λ x. (plain_line x.0, x.1.now)) o) c.args.bytes.now) c.in-None.is c.in_ok-next.ensures in
    ([], ap (λ b. join_at (piece_of (plain_program c.args.program.now)) (lines b)) none ∙ join_none (piece_of (plain_program c.args.program.now)), refl)

pub returns-in-None-as_join : goal.returns-in-None-as_join
returns-in-None-as_join c =
    let it = subst (λ o. Tells (piece_of (plain_program c.args.program.now)) (option_map (λ x. (plain_line x.0, x.1.now)) o) c.args.bytes.now) c.in-Some.is c.in_ok-next.ensures in
    (lines c.args.bytes.now, join_other (piece_of (plain_program c.args.program.now)) (lines c.args.bytes.now) (lines c.in-Some.rest.now) it.0 (plain_line c.in-Some.line) it.1 it.2 (sym c.in-None-as_join.ensures), c.count.ensures)

pub returns-in-Some-as_join : goal.returns-in-Some-as_join
returns-in-Some-as_join c =
    let it = subst (λ o. Tells (piece_of (plain_program c.args.program.now)) (option_map (λ x. (plain_line x.0, x.1.now)) o) c.args.bytes.now) c.in-Some.is c.in_ok-next.ensures in
    join_found (piece_of (plain_program c.args.program.now)) (lines c.args.bytes.now) (lines c.in-Some.rest.now) it.0 (plain_line c.in-Some.line) _ it.1 it.2 (sym c.in-Some-as_join.ensures)
