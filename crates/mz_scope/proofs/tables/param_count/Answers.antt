use Rattle.std.proofs.Common.{Some, None, sym, ap, ◌∙◌}
use Rattle.mz_scope.proofs.NameTables.{none_some}
use Rattle.mz_scope.proofs.Filled.{count_none, count_data, count_sig}
use Rattle.mz_scope.proofs.tables.param_count.Goals as goal

pub returns-in_default : goal.returns-in_default
returns-in_default c = count_none c.args.types.now.list c.args.params.now c.args.name.now (sym (c.get.ensures ∙ c.requires.kept c.args.name.now) ∙ none_some _ c.in_default.not-Some)

pub returns-in-Data : goal.returns-in-Data
returns-in-Data c = count_data c.args.types.now.list c.args.params.now c.args.name.now c.in-Some.entry (sym (c.get.ensures ∙ c.requires.kept c.args.name.now) ∙ c.in-Some.is) c.in-Data.field-0 c.in-Data.is

pub returns-in-None : goal.returns-in-None
returns-in-None c = count_sig c.args.types.now.list c.args.params.now c.args.name.now c.in-Some.entry (sym (c.get.ensures ∙ c.requires.kept c.args.name.now) ∙ c.in-Some.is) c.in-Sig.number None c.in-Sig.is c.in-None.ensures

pub returns-in_ok-in_32_bits-in-Some-at : goal.returns-in_ok-in_32_bits-in-Some-at
returns-in_ok-in_32_bits-in-Some-at c = ap Some (c.in_ok-in_32_bits-in-Some-at.ensures ∙ c.len.ensures)
    ∙ count_sig c.args.types.now.list c.args.params.now c.args.name.now c.in-Some.entry (sym (c.get.ensures ∙ c.requires.kept c.args.name.now) ∙ c.in-Some.is) c.in-Sig.number (Some c.in-Some-at.all.now) c.in-Sig.is c.in-Some-at.ensures
