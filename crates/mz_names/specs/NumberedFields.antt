-- Fields with their numbers, as the code holds them.
use Rattle.std.specs.Prelude.{ℕ, List, map}
use Rattle.mz_names.specs.Names.{Names}
use Rattle.mz_names.specs.declared.field_list.NumberedField.{NumberedField}

abbrev pub fields_in : List NumberedField → Names ℕ
fields_in fields = map (λ (f : NumberedField). (f.text, f.number)) fields
