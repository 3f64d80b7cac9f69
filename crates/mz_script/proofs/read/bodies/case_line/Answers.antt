use Rattle.std.proofs.Common.{[], option_map, refl, sym, ap, subst, ◌∙◌}
use Rattle.mz_script.specs.Cutting.{lines}
use Rattle.mz_script.specs.Said.{Tells}
use Rattle.mz_script.specs.ReadLines.{piece_of}
use Rattle.mz_script.specs.Said.{plain_line}
use Rattle.mz_tree.specs.View.{plain_program}
use Rattle.mz_script.specs.Reading.{case_at}
use Rattle.mz_script.proofs.Walking.{case_none, case_found, case_bad, case_other}
use Rattle.mz_script.proofs.read.bodies.case_line.Goals as goal

pub returns-in-None : goal.returns-in-None
returns-in-None c =
    let none = subst (λ o. Tells (piece_of (plain_program c.args.program.now)) (option_map (λ x. (plain_line x.0, x.1.now)) o) c.args.bytes.now) c.in-None.is c.in_ok-next.ensures in
    ([], ap (λ b. case_at (piece_of (plain_program c.args.program.now)) c.args.numbered (lines b)) none ∙ case_none (piece_of (plain_program c.args.program.now)) c.args.numbered, refl)

pub returns-in-None-as_case : goal.returns-in-None-as_case
returns-in-None-as_case c =
    let it = subst (λ o. Tells (piece_of (plain_program c.args.program.now)) (option_map (λ x. (plain_line x.0, x.1.now)) o) c.args.bytes.now) c.in-Some.is c.in_ok-next.ensures in
    (lines c.args.bytes.now, case_other (piece_of (plain_program c.args.program.now)) c.args.numbered (lines c.args.bytes.now) (lines c.in-Some.rest.now) it.0 (plain_line c.in-Some.line) it.1 it.2 (sym c.in-None-as_case.ensures), c.count.ensures)

pub returns-then-not-fits : goal.returns-then-not-fits
returns-then-not-fits c =
    let it = subst (λ o. Tells (piece_of (plain_program c.args.program.now)) (option_map (λ x. (plain_line x.0, x.1.now)) o) c.args.bytes.now) c.in-Some.is c.in_ok-next.ensures in
    (lines c.args.bytes.now, case_bad (piece_of (plain_program c.args.program.now)) c.args.numbered (lines c.args.bytes.now) (lines c.in-Some.rest.now) it.0 (plain_line c.in-Some.line) c.in-Some-as_case.number it.1 it.2 (sym c.in-Some-as_case.ensures) (sym c.fits.ensures ∙ c.if-not-fits.true), c.count-then-not-fits.ensures)

pub returns-else-not-fits : goal.returns-else-not-fits
returns-else-not-fits c =
    let it = subst (λ o. Tells (piece_of (plain_program c.args.program.now)) (option_map (λ x. (plain_line x.0, x.1.now)) o) c.args.bytes.now) c.in-Some.is c.in_ok-next.ensures in
    case_found (piece_of (plain_program c.args.program.now)) c.args.numbered (lines c.args.bytes.now) (lines c.in-Some.rest.now) it.0 (plain_line c.in-Some.line) c.in-Some-as_case.number it.1 it.2 (sym c.in-Some-as_case.ensures) (sym c.fits.ensures ∙ c.if-not-fits.false)
