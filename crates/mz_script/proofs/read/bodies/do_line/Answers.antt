use Rattle.std.proofs.Common.{[], option_map, refl, sym, ap, subst, ◌∙◌}
use Rattle.mz_script.specs.Cutting.{lines}
use Rattle.mz_script.specs.Said.{Tells}
use Rattle.mz_script.specs.ReadLines.{piece_of}
use Rattle.mz_script.specs.Said.{plain_line}
use Rattle.mz_tree.specs.View.{plain_program}
use Rattle.mz_script.specs.Reading.{do_at}
use Rattle.mz_script.proofs.Walking.{do_found, do_other, do_none}
use Rattle.mz_script.proofs.read.bodies.do_line.Goals as goal

pub returns-in-None : goal.returns-in-None
returns-in-None c =
    let none = subst (λ o. Tells (piece_of (plain_program c.args.program.now)) (option_map (λ x. (plain_line x.0, x.1.now)) o) c.args.bytes.now) c.in-None.is c.in_ok-next.ensures in
    ([], ap (λ b. do_at (piece_of (plain_program c.args.program.now)) (lines b)) none ∙ do_none (piece_of (plain_program c.args.program.now)), refl)

pub returns-in-None-as_do : goal.returns-in-None-as_do
returns-in-None-as_do c =
    let it = subst (λ o. Tells (piece_of (plain_program c.args.program.now)) (option_map (λ x. (plain_line x.0, x.1.now)) o) c.args.bytes.now) c.in-Some.is c.in_ok-next.ensures in
    (lines c.args.bytes.now, do_other (piece_of (plain_program c.args.program.now)) (lines c.args.bytes.now) (lines c.in-Some.rest.now) it.0 (plain_line c.in-Some.line) it.1 it.2 (sym c.in-None-as_do.ensures), c.count.ensures)

pub returns-in-Some-as_do : goal.returns-in-Some-as_do
returns-in-Some-as_do c =
    let it = subst (λ o. Tells (piece_of (plain_program c.args.program.now)) (option_map (λ x. (plain_line x.0, x.1.now)) o) c.args.bytes.now) c.in-Some.is c.in_ok-next.ensures in
    do_found (piece_of (plain_program c.args.program.now)) (lines c.args.bytes.now) (lines c.in-Some.rest.now) it.0 (plain_line c.in-Some.line) _ it.1 it.2 (sym c.in-Some-as_do.ensures)
