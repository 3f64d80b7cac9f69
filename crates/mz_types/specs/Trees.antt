-- Parts of the tree, by what they are made of.
use Rattle.mz_token.specs.declared.token.Token.{Token}
use Rattle.mz_types.specs.declared.tree.FieldName.{FieldName}

abbrev pub field_name_of : Token → Token → FieldName
field_name_of field name = record { field = field; name = name }
