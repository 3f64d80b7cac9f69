use Rattle.std.proofs.Common.{Some, sym, subst}
use Rattle.mz_tree.specs.View.{plain_program}
use Rattle.mz_decl.specs.View.{plain_decls}
use Rattle.mz_decl.specs.Places.{IsFirst}
use Rattle.mz_decl.specs.Declarations.{IsImmutableAdopter}
use Rattle.mz_cli.proofs.Reading.{declared_by}
use Rattle.mz_cli.proofs.first.declare.Goals as goal

pub returns-in-Ok : goal.returns-in-Ok
returns-in-Ok c = declared_by (plain_program c.args.program.now) (plain_decls c.in-Ok.decls) c.are_exclusive.result c.in-Ok.ensures.0 c.in-Ok.ensures.1 c.are_exclusive.ensures

pub returns-in-Err-ImmutableAdopter : goal.returns-in-Err-ImmutableAdopter
returns-in-Err-ImmutableAdopter c =
    let here = IsFirst (IsImmutableAdopter (plain_program c.args.program.now)) in
    let first : here (Some c.in-Err-ImmutableAdopter.place) = rw c.in-Err-ImmutableAdopter.field-0-is at c.in-Err-ImmutableAdopter.ensures in
    subst (λ p. here (Some p)) (sym c.in-Err-ImmutableAdopter.place-is) first
