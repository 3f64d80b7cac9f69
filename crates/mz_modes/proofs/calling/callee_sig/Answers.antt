use Rattle.std.proofs.Common.{refl, sym, ap, ◌∙◌}
use Rattle.mz_tree.specs.Plain.{Function_type, Has_atom}
use Rattle.mz_tree.specs.View.{plain_ty, plain_atom, plain_sig}
use Rattle.mz_modes.proofs.calling.callee_sig.Goals as goal

pub returns-then-sig-count : goal.returns-then-sig-count
returns-then-sig-count c = (
  record {
    number = c.in-Function.number;
    function = ap plain_atom c.in-Has.is ∙ ap (λ t. Has_atom c.in-Has.subject (plain_ty t)) c.in-Function.is ∙ ap (λ x. Has_atom x (Function_type c.in-Function.number)) c.if-subject-name.false;
    held = c.has.ensures.0 c.if-not-has.false;
    sig = plain_sig c.in-Some.sig.now;
    declared = c.in-Some.ensures;
    many = sym c.if-sig-count.true;
  },
  refl,
)
