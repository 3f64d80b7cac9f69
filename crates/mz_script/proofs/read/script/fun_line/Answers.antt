use Rattle.std.proofs.Common.{[], option_map, refl, sym, ap, subst, ◌∙◌}
use Rattle.mz_tree.specs.View.{plain_program}
use Rattle.mz_script.specs.Cutting.{lines}
use Rattle.mz_script.specs.ReadLines.{piece_of}
use Rattle.mz_script.specs.Said.{Tells, plain_line}
use Rattle.mz_script.specs.Reading.{fun_at}
use Rattle.mz_script.proofs.Walking.{fun_none, fun_found, fun_other}
use Rattle.mz_script.proofs.read.script.fun_line.Goals as goal

pub returns-in-None : goal.returns-in-None
returns-in-None c =
    let none = subst (λ o. Tells (piece_of (plain_program c.args.program.now)) (option_map (λ x. (plain_line x.0, x.1.now)) o) c.args.bytes.now) c.in-None.is c.in_ok-next.ensures in
    ([], ap (λ b. fun_at (piece_of (plain_program c.args.program.now)) c.args.name.now (lines b)) none ∙ fun_none (piece_of (plain_program c.args.program.now)) c.args.name.now, refl)

pub returns-then-not-is_fun : goal.returns-then-not-is_fun
returns-then-not-is_fun c =
    let it = subst (λ o. Tells (piece_of (plain_program c.args.program.now)) (option_map (λ x. (plain_line x.0, x.1.now)) o) c.args.bytes.now) c.in-Some.is c.in_ok-next.ensures in
    (lines c.args.bytes.now, fun_other (piece_of (plain_program c.args.program.now)) c.args.name.now (lines c.args.bytes.now) (lines c.in-Some.rest.now) it.0 (plain_line c.in-Some.line) it.1 it.2 (sym c.is_fun.ensures ∙ c.if-not-is_fun.true), c.count.ensures)

pub returns-else-not-is_fun : goal.returns-else-not-is_fun
returns-else-not-is_fun c =
    let it = subst (λ o. Tells (piece_of (plain_program c.args.program.now)) (option_map (λ x. (plain_line x.0, x.1.now)) o) c.args.bytes.now) c.in-Some.is c.in_ok-next.ensures in
    fun_found (piece_of (plain_program c.args.program.now)) c.args.name.now (lines c.args.bytes.now) (lines c.in-Some.rest.now) it.0 (plain_line c.in-Some.line) it.1 it.2 (sym c.is_fun.ensures ∙ c.if-not-is_fun.false)
