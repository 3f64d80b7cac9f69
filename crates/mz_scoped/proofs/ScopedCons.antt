-- Fields and constructors that are declared without a fault.
use Rattle.std.proofs.Common.{◌≡◌, ℕ, suc, ◌+◌, ◌<◌, ◌≤◌, List, [], ◌∷◌, ◌++◌, map, length, Option, refl, sym, ap, subst, ◌∙◌, arith, append_assoc}
use Rattle.std.proofs.lemmas.List.{append-nil, length-map}
use Rattle.std.specs.Prelude.{option_map, flat_map}
use Rattle.mz_tree.specs.Programs.{Con, Field, Program}
use Rattle.mz_scope.specs.Syntax.{Word, FieldTree, ConTree}
use Rattle.mz_scope.specs.Names.{Names, find, numbered, Globals, ConEntry, con_names_in}
use Rattle.mz_scope.specs.Types.{flat_typed}
use Rattle.mz_scope.specs.Declarations.{fields_from, cons_from}
use Rattle.mz_tree.specs.Scoped.{Each, AreApart, names_below, IsAtomWithin, adopting_atom, IsField, IsCon}
use Rattle.mz_scoped.proofs.Proper.{AllOf, IsProperField, IsProperCon}
use Rattle.mz_scoped.proofs.Grounds.{Grounds, AreIn}
use Rattle.mz_scoped.proofs.Goes.{Goes, first_then, first_and, framed, given}
use Rattle.mz_scoped.proofs.InOrder.{EachFrom, each_at, few_members, same_place}
use Rattle.mz_scoped.proofs.FirstNames.{IsNew, declares_goes, find_some, names_apart}
use Rattle.mz_scoped.proofs.AddedPairs.{HasPairs, paired}
use Rattle.mz_scoped.proofs.BoundBelow.{bound_below, words_in}
use Rattle.mz_scoped.proofs.ScopedTypes.{typed_goes}

-- what structural types of fields adopt
abbrev pub field_pairs : List Field → List (ℕ × ℕ)
field_pairs fields = flat_map (λ (f : Field). adopting_atom f.content) fields

-- and those of constructors
abbrev pub con_pairs : List Con → List (ℕ × ℕ)
con_pairs cons = flat_map (λ (c : Con). flat_map (λ (f : Field). adopting_atom f.content) c.fields) cons

-- the number that a constructor's name stands for
abbrev pub con_first : Globals → List ℕ → Option ℕ
con_first g name = option_map (λ (c : ConEntry). c.number) (find g.cons name)

module _ (p : Program) where
  -- fields from number i on
  pub record FieldsDone (count : ℕ) (scope : Names ℕ) (i : ℕ) (rest : List FieldTree) (fields : List Field) : Type 0 where
    pub each : EachFrom (λ k (f : Field). IsField p count f × IsNew (find scope f.name) k 32) i fields
    pub names : map (λ (f : Field). f.name) fields ≡ map (λ (one : List ℕ × ℕ). one.0) (numbered i (map (λ (f : FieldTree). f.name) rest))
    pub long : length fields ≡ length rest

  -- the fields of a constructor are apart, and there are not too many
  con_is : (count : ℕ) (trees : List FieldTree) (c : Con) → count ≡ length trees → FieldsDone count (numbered 0 (map (λ (f : FieldTree). f.name) trees)) 0 trees c.fields → AreApart (λ (f : Field). f.name) c.fields × (length c.fields ≤ 32) × Each (λ _ f. IsField p (length c.fields) f) c.fields
  con_is count trees c counted done =
      let scope : Names ℕ = numbered 0 (map (λ (f : FieldTree). f.name) trees) in
      let each : Each (λ k (f : Field). IsField p count f × IsNew (find scope f.name) k 32) c.fields = each_at (λ k (f : Field). IsField p count f × IsNew (find scope f.name) k 32) c.fields done.each in
      let long : count ≡ length c.fields = counted ∙ sym done.long in (
        names_apart (λ (f : Field). f.name) (find scope) c.fields (λ k f at.
            let there : _ = same_place (λ (f : Field). f.name) (λ (one : List ℕ × ℕ). one.0) c.fields scope done.names k f at in
            let found : _ = find_some scope k there.0 there.1 in
            (found.0, ap (find scope) there.2 ∙ found.1)) (λ k f at. (each k f at).1.0),
        few_members (λ k (f : Field). IsField p count f × IsNew (find scope f.name) k 32) 32 (λ k f is. is.1.1) c.fields done.each,
        λ k f at. subst (λ n. IsField p n f) long (each k f at).0,
      )

module _ (p : Program) (g : Globals) (grounds : Grounds p g) where
  -- fields without a fault
  pub fields_go : (count : ℕ) (scope : Names ℕ) → AreIn (names_below count) scope → (i : ℕ) (rest : List FieldTree) → AllOf IsProperField rest → i + length rest ≤ count → (some : List (ℕ × ℕ))
      → Goes (HasPairs some) (fields_from g scope i rest) (λ fields m. FieldsDone p count scope i rest fields × HasPairs (some ++ field_pairs fields) m)
  fields_go count scope are i [] proper within some = given [] (λ m before. (record { each = tt; names = refl; long = refl }, before ∙ sym (append-nil some)))
  fields_go count scope are i (f ∷ rest) proper within some =
      let here : i < count = omega (arith, within) in
      let later : i + 1 + length rest ≤ count = omega (arith, within) in
      first_and _ _ (declares_goes (find scope f.name.text) i 32 f.name)
      (first_then _ _ (framed (IsNew (find scope f.name.text) i 32) (paired (flat_typed g scope i f.ty) some (typed_goes p g grounds scope (names_below count) are i (bound_below count i here) 200 f.ty proper.0.1)))
      (λ content. first_then _ _ (framed (IsNew (find scope f.name.text) i 32) (framed (IsAtomWithin p 200 (names_below count) content) (fields_go count scope are (i + 1) rest proper.1 later (some ++ adopting_atom content))))
      (λ others. given (record { name = f.name.text; content = content } ∷ others) (λ m q. (
        record {
          each = ((record { name = proper.0.0; content = q.1.0 }, q.0), q.1.1.0.each);
          names = ap (λ (l : List (List ℕ)). f.name.text ∷ l) q.1.1.0.names;
          long = ap suc q.1.1.0.long;
        },
        q.1.1.1 ∙ append_assoc some (adopting_atom content) (field_pairs others),
      )))))

  -- constructors of data type d, from number k on
  pub record ConsDone (d k : ℕ) (rest : List ConTree) (cons : List Con) : Type 0 where
    pub each : EachFrom (λ k (c : Con). (d < length p.varieties → IsCon p c) × IsNew (con_first g c.name) k 1000) k cons
    pub names : map (λ (c : Con). c.name) cons ≡ map (λ (one : List ℕ × ConEntry). one.0) (con_names_in d k rest)
    pub long : length cons ≡ length rest

  -- constructors without a fault
  pub cons_go : (d k : ℕ) (rest : List ConTree) → AllOf IsProperCon rest → (some : List (ℕ × ℕ))
      → Goes (HasPairs some) (cons_from g d k rest) (λ cons m. ConsDone d k rest cons × HasPairs (some ++ con_pairs cons) m)
  cons_go d k [] proper some = given [] (λ m before. (record { each = tt; names = refl; long = refl }, before ∙ sym (append-nil some)))
  cons_go d k (con ∷ rest) proper some =
      let words : List Word = map (λ (f : FieldTree). f.name) con.fields in
      let count : ℕ = length con.fields in
      let few : length words ≤ count = omega (arith, length-map con.fields (λ (f : FieldTree). f.name)) in
      let within : 0 + length con.fields ≤ count = omega arith in
      first_and _ _ (declares_goes (con_first g con.name.text) k 1000 con.name)
      (first_then _ _ (framed (IsNew (con_first g con.name.text) k 1000) (fields_go count (numbered 0 words) (words_in count words few) 0 con.fields proper.0.1 within some))
      (λ fields. first_then _ _ (framed (IsNew (con_first g con.name.text) k 1000) (framed (FieldsDone p count (numbered 0 words) 0 con.fields fields) (cons_go d (k + 1) rest proper.1 (some ++ field_pairs fields))))
      (λ others. given (record { name = con.name.text; variety = d; fields = fields } ∷ others) (λ m q.
      let one : Con = record { name = con.name.text; variety = d; fields = fields } in
      let is : AreApart (λ (f : Field). f.name) one.fields × (length one.fields ≤ 32) × Each (λ _ f. IsField p (length one.fields) f) one.fields = con_is p count con.fields one refl q.1.0 in (
        record {
          each = ((λ declared. record { name = proper.0.0; variety = declared; fields = is.2; apart = is.0; few = is.1 }, q.0), q.1.1.0.each);
          names = ap (λ (l : List (List ℕ)). con.name.text ∷ l) q.1.1.0.names;
          long = ap suc q.1.1.0.long;
        },
        q.1.1.1 ∙ append_assoc some (field_pairs fields) (con_pairs others),
      )))))
