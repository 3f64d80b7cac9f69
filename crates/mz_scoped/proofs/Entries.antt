-- What a name of the top level stands for in the program: a constructor, or a data type.
use Rattle.std.proofs.Common.{◌≡◌, ℕ, ◌<◌, List, length, Option, Some, None, refl, ap, subst}
use Rattle.std.specs.Prelude.{option_map, option_and_then}
use Rattle.mz_tree.specs.Programs.{Program}
use Rattle.mz_scope.specs.Syntax.{Word}
use Rattle.mz_scope.specs.Names.{Names, find, Globals, TypeEntry, TypeName, Data_name, Sig_name, data_of, ConEntry}
use Rattle.mz_scope.specs.Making.{Made}
use Rattle.mz_scope.specs.Types.{con_by_name, data_by_name}
use Rattle.mz_tree.specs.Scoped.{Each}
use Rattle.mz_scoped.proofs.Goes.{Goes, weakened, is_declared}
use Rattle.mz_scoped.proofs.TopLists.{found_at}
use Rattle.mz_scoped.proofs.Grounds.{IsEntry, Grounds}

-- ---- what holds of each member of a list holds of what is found in it

-- at the place where it was found
pub found_holds : {A : Type 0} (P : A → Type 0) (list : Names A) (name : List ℕ) (a : A) → Each (λ _ (one : List ℕ × A). P one.1) list → find list name ≡ Some a → P a
found_holds P list name a all is =
    let found = found_at list name a is in
    subst P found.value (all found.place found.one found.there)

-- ---- one that is looked up

-- a constructor's entry stands in the option that is handed on
some_entry : {A : Type 0} (found : Option A) (o : Option A) → option_map Some found ≡ Some o → (a : A) × (o ≡ Some a) × (found ≡ Some a)
some_entry None o is = cc
some_entry (Some a) o is =
    let same : o ≡ Some a = cc in
    (a, same, refl)

-- a name of a data type is that of this number
data_name : (t : TypeName) (d : ℕ) → data_of t ≡ Some d → t ≡ Data_name d
data_name (Data_name number) d is =
    let same : number ≡ d = cc in
    ap Data_name same
data_name (Sig_name number) d is = cc

module _ (p : Program) (g : Globals) (grounds : Grounds p g) where
  -- a constructor that is found has an entry
  pub entry_found : (name : List ℕ) (c : ConEntry) → find g.cons name ≡ Some c → IsEntry p c
  entry_found name c is = found_holds (IsEntry p) g.cons name c (λ k one at. (grounds.cons k one at).1) is

  -- the same, as it is looked up
  con_found : (name : List ℕ) (o : Option ConEntry) → option_map Some (find g.cons name) ≡ Some o → (c : ConEntry) × (o ≡ Some c) × (find g.cons name ≡ Some c) × IsEntry p c
  con_found name o is =
      let one : _ = some_entry (find g.cons name) o is in
      (one.0, one.1, one.2, entry_found name one.0 one.2)

  -- a constructor that is named without a fault
  pub con_goes : {P : Made → Type 0} (name : Word) → Goes P (con_by_name g name) (λ o m. ((c : ConEntry) × (o ≡ Some c) × (find g.cons name.text ≡ Some c) × IsEntry p c) × P m)
  con_goes name = weakened (λ m before. before) (λ o m is. (con_found name.text o is.0, is.1)) (is_declared None (option_map Some (find g.cons name.text)) name.place)

  -- a name that is found as a data type's is one of the program
  data_found : (name : List ℕ) (found : Option TypeEntry) (d : ℕ) → find g.types name ≡ found → option_and_then (λ (t : TypeEntry). data_of t.stands_for) found ≡ Some d → d < length p.varieties
  data_found name None d here is = cc
  data_found name (Some t) d here is = grounds.data_types name t d here (data_name t.stands_for d is)

  -- a data type that is named without a fault
  pub data_goes : {P : Made → Type 0} (name : Word) → Goes P (data_by_name g name) (λ d m. (d < length p.varieties) × P m)
  data_goes name = weakened (λ m before. before) (λ d m is. (data_found name.text _ d refl is.0, is.1)) (is_declared 0 (option_and_then (λ (t : TypeEntry). data_of t.stands_for) (find g.types name.text)) name.place)
