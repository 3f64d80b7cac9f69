-- One more field, constructor, parameter or need came, and then those behind it.
use Rattle.std.proofs.Common.{◌≡◌, ℕ, ◌+◌, List, ◌∷◌, map, ap, ◌∙◌}
use Rattle.std.specs.Prelude.{option_map}
use Rattle.mz_tree.specs.Programs.{Con, Field, Need}
use Rattle.mz_scope.specs.Syntax.{FieldTree, ConTree, ParamTree, NeedTree}
use Rattle.mz_scope.specs.Names.{Names, find, numbered, Globals, ConEntry}
use Rattle.mz_scope.specs.Making.{Made, Came_to, goes_on, give}
use Rattle.mz_scope.specs.Types.{flat_typed, flat_atom}
use Rattle.mz_scope.specs.Declarations.{declares, fields_from, cons_from, params_from, needs_of}
use Rattle.mz_scope.specs.Members.{one_field, one_con, one_param, one_need}
use Rattle.mz_scope.proofs.Walks.{came_then, came_behind, behind_one}

module _ (g : Globals) where
  pub fields_more : (scope : Names ℕ) (i : ℕ) (f : FieldTree) (rest : List FieldTree) (x : Field) (m m1 : Made) → one_field g scope i f m ≡ Came_to x m1
      → fields_from g scope i (f ∷ rest) m ≡ goes_on (λ others. give (x ∷ others)) (fields_from g scope (i + 1) rest m1)
  fields_more scope i f rest x m m1 h =
      came_behind (flat_typed g scope i f.ty) (λ content. record { name = f.name.text; content = content }) (behind_one (fields_from g scope (i + 1) rest)) (declares (find scope f.name.text) i 32 f.name m)
      ∙ ap (goes_on (behind_one (fields_from g scope (i + 1) rest))) h

  pub cons_more : (d k next : ℕ) (con : ConTree) (rest : List ConTree) (x : Con) (m m1 : Made) → k + 1 ≡ next → one_con g d k con m ≡ Came_to x m1
      → cons_from g d k (con ∷ rest) m ≡ goes_on (λ others. give (x ∷ others)) (cons_from g d next rest m1)
  cons_more d k next con rest x m m1 e h =
      came_behind (fields_from g (numbered 0 (map (λ (f : FieldTree). f.name) con.fields)) 0 con.fields) (λ fields. record { name = con.name.text; variety = d; fields = fields }) (behind_one (cons_from g d (k + 1) rest))
      (declares (option_map (λ (c : ConEntry). c.number) (find g.cons con.name.text)) k 1000 con.name m)
      ∙ ap (goes_on (behind_one (cons_from g d (k + 1) rest))) h
      ∙ ap (λ n. goes_on (λ others. give (x ∷ others)) (cons_from g d n rest m1)) e

  pub params_more : (scope : Names ℕ) (i : ℕ) (p : ParamTree) (rest : List ParamTree) (x : Need) (m m1 : Made) → one_param g scope i p m ≡ Came_to x m1
      → params_from g scope i (p ∷ rest) m ≡ goes_on (λ others. give (x ∷ others)) (params_from g scope (i + 1) rest m1)
  params_more scope i p rest x m m1 h =
      came_behind (flat_typed g scope i p.ty) (λ a. record { atom = a; consumed = p.consumed }) (behind_one (params_from g scope (i + 1) rest)) (declares (find scope p.name.text) i 32 p.name m)
      ∙ ap (goes_on (behind_one (params_from g scope (i + 1) rest))) h

  pub needs_more : (scope : Names ℕ) (need : NeedTree) (rest : List NeedTree) (x : Need) (m m1 : Made) → one_need g scope need m ≡ Came_to x m1
      → needs_of g scope (need ∷ rest) m ≡ goes_on (λ others. give (x ∷ others)) (needs_of g scope rest m1)
  needs_more scope need rest x m m1 h =
      came_then (λ a. record { atom = a; consumed = need.consumed }) (behind_one (needs_of g scope rest)) (flat_atom g scope need.atom m)
      ∙ ap (goes_on (behind_one (needs_of g scope rest))) h
