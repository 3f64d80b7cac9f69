use Rattle.std.proofs.Common.{◌≡◌, length, slice_get, sym, ap, ◌∙◌, subst, ◌<◌}
use Rattle.mz_names.specs.NumberedFields.{fields_in}
use Rattle.mz_names.specs.Fields.{numbers_in}
use Rattle.mz_names.proofs.FieldLists.{number_there}
use Rattle.mz_names.proofs.field_list.FieldList.number_at.Goals as goal

pub returns : goal.returns
returns c =
    let seen : fields_in c.as_slice.result.now ≡ c.args.self.now = ap fields_in c.as_slice.ensures ∙ c.self.view_is in
    ap (λ l. slice_get (numbers_in l) c.args.i) (sym seen) ∙ number_there c.as_slice.result.now c.args.i c.index-as_slice-i.result (subst (λ l. c.args.i < length l) (sym seen) c.requires)
