-- The body of a function with its core names, and the signature that it is of, by themselves.
use Rattle.std.specs.Prelude.{ℕ, map}
use Rattle.mz_tree.specs.View.{plain_body}
use Rattle.mz_scope.specs.declared.functions.FunctionParts.{FunctionParts}
use Rattle.mz_scope.specs.Syntax.{Word, Block}
use Rattle.mz_scope.specs.Names.{Globals, numbered, sig_number}
use Rattle.mz_scope.specs.Making.{Part, declared_or}
use Rattle.mz_scope.specs.Bodies.{flat_block}
use Rattle.mz_scope.specs.Declarations.{FunctionBody, with_params, params_by_name}
use Rattle.mz_scope.specs.View.{core_name_of}

abbrev pub function_body_of : FunctionParts → FunctionBody
function_body_of p = record { body = plain_body p.body; names = map core_name_of p.names }

-- the body of a function of the signature of a name
abbrev pub body_part : Globals → Word → Block → Part FunctionBody
body_part g sig block = with_params (params_by_name g sig.text) (flat_block g (numbered 0 (params_by_name g sig.text)) block)

-- the number of that signature
abbrev pub sig_by_name : Globals → Word → Part ℕ
sig_by_name g name = declared_or 0 (sig_number g.types name.text) name.place
