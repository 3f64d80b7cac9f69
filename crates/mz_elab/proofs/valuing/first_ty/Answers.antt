use Rattle.std.proofs.Common.{refl}
use Rattle.mz_decl.specs.View.{plain_decls}
use Rattle.mz_elab.specs.Sought.{Held_sought, IsSought}
use Rattle.mz_elab.proofs.Valued.{held_in, held_within, held_none, held_some}
use Rattle.mz_elab.proofs.valuing.first_ty.Goals as goal

pub type_at-requires : goal.type_at-requires
type_at-requires c = held_within (IsSought (plain_decls c.args.decls.now) (Held_sought c.args.outer.now)) c.args.end.now.state c.args.end.now.value c.in-Some.place c.in_ok-first_held.field-0 c.in-Some.is c.in_ok-first_held.ensures

pub returns-in-None : goal.returns-in-None
returns-in-None c = λ names R o. held_none names R c.args.end.now.state c.args.end.now.value c.in_ok-first_held.field-0 c.in-None.is (held_in (plain_decls c.args.decls.now) c.args.outer.now c.args.outer.now names R c.args.end.now.state c.args.end.now.value c.in_ok-first_held.field-0 refl o c.in_ok-first_held.ensures)

pub returns-in_ok-ty-in-Some : goal.returns-in_ok-ty-in-Some
returns-in_ok-ty-in-Some c = λ names R o. held_some names R c.args.end.now.state c.args.end.now.value c.in-Some.place c.in_ok-first_held.field-0 c.in_ok-ty-in-Some.ty c.in-Some.is c.in_ok-ty-in-Some.ensures (held_in (plain_decls c.args.decls.now) c.args.outer.now c.args.outer.now names R c.args.end.now.state c.args.end.now.value c.in_ok-first_held.field-0 refl o c.in_ok-first_held.ensures)
