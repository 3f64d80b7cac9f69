-- The parts of a constructor and of a data type came one after the other, and so these.
use Rattle.std.proofs.Common.{◌≡◌, ℕ, Bool, List, Option, map, length, refl, sym, ap, ◌∙◌, subst}
use Rattle.std.specs.Prelude.{option_map}
use Rattle.std.specs.List.{range_with_len}
use Rattle.mz_tree.specs.Programs.{Con, Field, Variety}
use Rattle.mz_scope.specs.Syntax.{FieldTree, ConTree, DataTree}
use Rattle.mz_scope.specs.Names.{Names, find, numbered, Globals, TypeEntry, ConEntry}
use Rattle.mz_scope.specs.Making.{Made, Came, Came_to}
use Rattle.mz_scope.specs.Declarations.{declares, fields_from, adopted_by, data_type}
use Rattle.mz_scope.specs.Members.{one_con}
use Rattle.mz_scope.proofs.Lists.{next_came}

module _ (g : Globals) where
  abbrev pub first_con : List ℕ → Option ℕ
  first_con name = option_map (λ (c : ConEntry). c.number) (find g.cons name)

  abbrev pub first_type : List ℕ → Option ℕ
  first_type name = option_map (λ (t : TypeEntry). t.position) (find g.types name)

  abbrev pub field_names_of : ConTree → Names ℕ
  field_names_of con = numbered 0 (map (λ (f : FieldTree). f.name) con.fields)

  pub con_came : (d k : ℕ) (con : ConTree) (first : Option ℕ) (scope : Names ℕ) (all : List FieldTree) (fields : List Field) (name : List ℕ) (m m1 m2 : Made)
      → first ≡ first_con con.name.text → declares first k 1000 con.name m ≡ Came_to tt m1
      → scope ≡ field_names_of con → all ≡ con.fields → fields_from g scope 0 all m1 ≡ Came_to fields m2 → name ≡ con.name.text
      → one_con g d k con m ≡ Came_to (record { name = name; variety = d; fields = fields }) m2
  con_came d k con first scope all fields name m m1 m2 e1 h1 e2 e3 h2 e4 =
      let made : Came Con = Came_to (record { name = con.name.text; variety = d; fields = fields }) m2 in
      let declared : declares (first_con con.name.text) k 1000 con.name m ≡ Came_to tt m1 = subst (λ o. declares o k 1000 con.name m ≡ Came_to tt m1) e1 h1 in
      let there : fields_from g (field_names_of con) 0 all m1 ≡ Came_to fields m2 = subst (λ s. fields_from g s 0 all m1 ≡ Came_to fields m2) e2 h2 in
      let came : fields_from g (field_names_of con) 0 con.fields m1 ≡ Came_to fields m2 = subst (λ l. fields_from g (field_names_of con) 0 l m1 ≡ Came_to fields m2) e3 there in
      next_came _ (declares (first_con con.name.text) k 1000 con.name m) tt m1 made declared
      (next_came _ (fields_from g (field_names_of con) 0 con.fields m1) fields m2 made came refl)
      ∙ ap (λ t. Came_to (record { name = t; variety = d; fields = fields }) m2) (sym e4)

  pub data_type_came : (n k : ℕ) (x : DataTree) (first adopts : Option ℕ) (name : List ℕ) (mutable : Bool) (cons : List ℕ) (m m1 m2 : Made)
      → first ≡ first_type x.name.text → declares first n 1000 x.name m ≡ Came_to tt m1 → adopted_by g x.adopts m1 ≡ Came_to adopts m2
      → name ≡ x.name.text → mutable ≡ x.mutable → cons ≡ range_with_len k (length x.cons)
      → data_type g n k x m ≡ Came_to (record { name = name; place = x.name.place; mutable = mutable; adopts = adopts; cons = cons }) m2
  data_type_came n k x first adopts name mutable cons m m1 m2 e1 h1 h2 e2 e3 e4 =
      let made : Came Variety = Came_to (record { name = x.name.text; place = x.name.place; mutable = x.mutable; adopts = adopts; cons = range_with_len k (length x.cons) }) m2 in
      let declared : declares (first_type x.name.text) n 1000 x.name m ≡ Came_to tt m1 = subst (λ o. declares o n 1000 x.name m ≡ Came_to tt m1) e1 h1 in
      next_came _ (declares (first_type x.name.text) n 1000 x.name m) tt m1 made declared (next_came _ (adopted_by g x.adopts m1) adopts m2 made h2 refl)
      ∙ ap (λ t. Came_to (record { name = t; place = x.name.place; mutable = x.mutable; adopts = adopts; cons = range_with_len k (length x.cons) }) m2) (sym e2)
      ∙ ap (λ b. Came_to (record { name = name; place = x.name.place; mutable = b; adopts = adopts; cons = range_with_len k (length x.cons) }) m2) (sym e3)
      ∙ ap (λ l. Came_to (record { name = name; place = x.name.place; mutable = mutable; adopts = adopts; cons = l }) m2) (sym e4)
