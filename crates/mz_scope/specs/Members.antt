-- One member of a declaration by itself, as the code reads it: a field, a constructor, a parameter or a need.
use Rattle.std.specs.Prelude.{ℕ, map, option_map}
use Rattle.mz_tree.specs.Programs.{Con, Field, Need}
use Rattle.mz_scope.specs.Syntax.{FieldTree, ConTree, ParamTree, NeedTree}
use Rattle.mz_scope.specs.Names.{Names, find, numbered, Globals, ConEntry}
use Rattle.mz_scope.specs.Making.{Part, ◌>>=◌, ◌>>◌, give}
use Rattle.mz_scope.specs.Types.{flat_typed, flat_atom}
use Rattle.mz_scope.specs.Declarations.{declares, fields_from}

module _ (g : Globals) where
  abbrev pub one_field : Names ℕ → ℕ → FieldTree → Part Field
  one_field scope i f = do
    declares (find scope f.name.text) i 32 f.name
    content ← flat_typed g scope i f.ty
    give (record { name = f.name.text; content = content })

  abbrev pub one_con : ℕ → ℕ → ConTree → Part Con
  one_con d k con = do
    declares (option_map (λ (c : ConEntry). c.number) (find g.cons con.name.text)) k 1000 con.name
    fields ← fields_from g (numbered 0 (map (λ (f : FieldTree). f.name) con.fields)) 0 con.fields
    give (record { name = con.name.text; variety = d; fields = fields })

  abbrev pub one_param : Names ℕ → ℕ → ParamTree → Part Need
  one_param scope i p = do
    declares (find scope p.name.text) i 32 p.name
    a ← flat_typed g scope i p.ty
    give (record { atom = a; consumed = p.consumed })

  abbrev pub one_need : Names ℕ → NeedTree → Part Need
  one_need scope need = do
    a ← flat_atom g scope need.atom
    give (record { atom = a; consumed = need.consumed })
