-- What a select, a change of tags and a call name is declared, and has as many fields or parameters as it must have.
use Rattle.std.proofs.Common.{◌≡◌, ℕ, ◌==◌, false, not, ◌&&◌, List, [], ◌∷◌, ◌++◌, length, Option, Some, None, is_some, option_and_then, refl, sym, ap, ◌∙◌, subst, arith}
use Rattle.std.proofs.lemmas.Bool.{not-false}
use Rattle.std.proofs.lemmas.Bool.Decides.{Decides-eqb}
use Rattle.mz_tree.specs.Programs.{Program}
use Rattle.mz_scope.specs.Syntax.{Word}
use Rattle.mz_scope.specs.Names.{Names, find, Globals, ConEntry, FunEntry, holders}
use Rattle.mz_scope.specs.Making.{Made}
use Rattle.mz_scope.specs.Bodies.{differs, has_other_count, differ_in_fields, field_in, the_holder, select_con}
use Rattle.mz_tree.specs.Scoped.{HasFields, HasField, AreAlike, Takes}
use Rattle.mz_scoped.proofs.Proper.{AllOf}
use Rattle.mz_scoped.proofs.Grounds.{IsEntry, Grounds}
use Rattle.mz_scoped.proofs.Goes.{Goes, weakened, given, is_declared}
use Rattle.mz_scoped.proofs.Entries.{con_goes}
use Rattle.mz_scoped.proofs.Numbers.{all_values, all_kept}

-- a fault more is a fault
fault_there : {X : Type 0} (faults : List X) (x : X) → faults ++ x ∷ [] ≡ [] → ⊥
fault_there [] x is = cc
fault_there (y ∷ faults) x is = cc

module _ (p : Program) (g : Globals) (grounds : Grounds p g) where
  -- ---- selects

  -- the one constructor that has a field
  holder_goes : {P : Made → Type 0} (those : List ConEntry) (field : Word) → AllOf (IsEntry p) those → Goes P (the_holder those field) (λ o m. ((c : ConEntry) × (o ≡ Some c) × IsEntry p c) × P m)
  holder_goes [] field all = record {
    clean = λ m none. absurd (fault_there _ _ none);
    leads = λ m none before. absurd (fault_there _ _ none);
  }
  holder_goes (c ∷ []) field all = given (Some c) (λ m before. ((c, refl, all.0), before))
  holder_goes (c ∷ d ∷ rest) field all = record {
    clean = λ m none. absurd (fault_there _ _ none);
    leads = λ m none before. absurd (fault_there _ _ none);
  }

  -- a select names a constructor
  pub select_goes : {P : Made → Type 0} (con : Option Word) (field : Word) → Goes P (select_con g con field) (λ o m. ((c : ConEntry) × (o ≡ Some c) × IsEntry p c) × P m)
  select_goes None field = holder_goes (holders g field.text) field (all_kept (IsEntry p) (λ (c : ConEntry). is_some (find c.fields field.text)) _ (all_values (IsEntry p) g.cons (λ k one at. (grounds.cons k one at).1)))
  select_goes (Some con) field = weakened (λ m before. before) (λ o m is. ((is.0.0, is.0.1, is.0.3), is.1)) (con_goes p g grounds con)

  field_of : (c : ConEntry) (name : List ℕ) (i : ℕ) → IsEntry p c → find c.fields name ≡ Some i → HasField p c.number i
  field_of c name i entry is = record {
    found = entry.fields.found;
    declared = entry.fields.declared;
    within = omega (arith, entry.fields.fields, entry.places name i is);
  }

  -- and its field is one of this constructor
  pub field_goes : {P : Made → Type 0} (c : ConEntry) (field : Word) → IsEntry p c → Goes P (field_in (Some c) field) (λ i m. HasField p c.number i × P m)
  field_goes c field entry = weakened (λ m before. before) (λ i m is. (field_of c field.text i entry is.0, is.1)) (is_declared 0 (find c.fields field.text) field.place)

  -- ---- changes of tags

  -- a change of tags keeps the number of fields
  pub alike : (a b : ConEntry) → IsEntry p a → IsEntry p b → differ_in_fields (Some a) (Some b) ≡ false → AreAlike p a.number b.number
  alike a b old new same =
      let count : length a.fields ≡ length b.fields = (Decides-eqb (length a.fields) (length b.fields)).0 (not-false (length a.fields == length b.fields) same) in
      record { count = length a.fields; before = old.fields; after = subst (HasFields p b.number) (sym count) new.fields }

  -- ---- calls

  -- a function that is called by its name has as many parameters as the call has arguments
  pub takes : (scope : Names ℕ) (name : List ℕ) (f : FunEntry) (count : ℕ) → find scope name ≡ None → find g.funs name ≡ Some f → has_other_count g scope name count ≡ false → Takes p f.number count
  takes scope name f count none found same =
      let own = grounds.funs name f found in
      let counts : has_other_count g scope name count ≡ differs (Some own.0) count =
      ap (λ (o : Option ℕ). not (is_some o) && differs (option_and_then (λ (h : FunEntry). h.params) (find g.funs name)) count) none
      ∙ ap (λ (o : Option FunEntry). differs (option_and_then (λ (h : FunEntry). h.params) o) count) found ∙ ap (λ (o : Option ℕ). differs o count) own.1 in
      let fits : own.0 ≡ count = (Decides-eqb own.0 count).0 (not-false (own.0 == count) (sym counts ∙ same)) in
      subst (Takes p f.number) fits own.2
