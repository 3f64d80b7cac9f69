use Rattle.std.proofs.Common.{sym, ap, ◌∙◌, arith}
use Rattle.mz_cli.specs.FirstForm.{is_new}
use Rattle.mz_cli.proofs.Passing.{one_of, new_is, one_here, none_here, more_here}
use Rattle.mz_cli.proofs.form.is_new.Goals as goal

pub returns-in-len1 : goal.returns-in-len1
returns-in-len1 c =
    c.is_value.ensures ∙ sym (ap is_new c.in-Construct.is ∙ new_is c.in-Construct.con c.in-Construct.fields ∙ ap one_of (sym c.as_slice.ensures) ∙ one_here c.as_slice.result.now c.field-item.result (omega (arith, c.in-len1.len_at_least)) (omega (arith, c.in-len1.len_below)) c.field-item.is)

pub returns-in_default-as_slice : goal.returns-in_default-as_slice
returns-in_default-as_slice c =
    sym (ap is_new c.in-Construct.is ∙ new_is c.in-Construct.con c.in-Construct.fields ∙ ap one_of (sym c.as_slice.ensures) ∙ none_here c.as_slice.result.now (omega (arith, c.in_default-as_slice.len_below)))

pub returns-in_default-as_slice-2 : goal.returns-in_default-as_slice-2
returns-in_default-as_slice-2 c =
    sym (ap is_new c.in-Construct.is ∙ new_is c.in-Construct.con c.in-Construct.fields ∙ ap one_of (sym c.as_slice.ensures) ∙ more_here c.as_slice.result.now (omega (arith, c.in_default-as_slice.len_at_least)))
