-- The names of the top level stand for what the program declares.
use Rattle.std.proofs.Common.{◌≡◌, ℕ, ◌+◌, ◌<◌, ◌≤◌, ◌==◌, List, [], map, length, Option, Some, slice_get, option_map, count_by, refl, sym, ap, ◌∙◌, subst, arith, zero-add}
use Rattle.std.specs.List.{range_with_len}
use Rattle.std.proofs.lemmas.Option.{same_Some, slice_get_within}
use Rattle.std.proofs.lemmas.List.{length-map}
use Rattle.mz_tree.specs.Programs.{Variety, Con, Sig, Fun, Program}
use Rattle.mz_scope.specs.Syntax.{Declaration}
use Rattle.mz_scope.specs.Names.{Names, find, globals_of, TypeEntry, type_names, Sig_name, ConEntry, con_names, param_lists, FunEntry, fun_names}
use Rattle.mz_scope.specs.Making.{Came, Came_to, nothing_made}
use Rattle.mz_scope.specs.Flattening.{flattened, program_in, flat_program, faults_in, faults_of}
use Rattle.mz_scope.proofs.Lists.{map_at}
use Rattle.mz_tree.specs.Scoped.{Each, HasFields, IsConOf, Takes}
use Rattle.mz_scoped.proofs.Goes.{value_in, made_in}
use Rattle.mz_scoped.proofs.Grounds.{IsEntry, Grounds}
use Rattle.mz_scoped.proofs.TopLists.{all_at, all_found, FoundAt, found_at, Comes_from, comes_from, Stands, stands, order_at, range_at, once_in_row}
use Rattle.mz_scoped.proofs.TopNames.{con_rows, fun_sigs, IsDataBelow, data_below, IsSigBelow, sigs_below, sigs_there, number_in_row, cons_order, IsOuter, outer_entries, IsJust, IsRow, rows, fun_number, funs_order, counted, funs_params}
use Rattle.mz_scoped.proofs.ProgramLists.{con_shape, entry_shape, IsListed, listed, funs_go}

module _ (p : Program) (tree : List Declaration) (lists : IsListed 0 0 tree p) where
  -- as many data types, signatures and constructors as are declared
  varieties_many : length p.varieties ≡ length (con_rows 0 tree)
  varieties_many = sym (length-map p.varieties (λ (v : Variety). v.cons)) ∙ ap length lists.varieties

  sigs_many : length p.sigs ≡ length (param_lists tree)
  sigs_many = sym (length-map p.sigs (λ (s : Sig). s.count)) ∙ ap length lists.sigs ∙ length-map (param_lists tree) length

  cons_many : length (con_names 0 0 tree) ≡ length p.cons
  cons_many = sym (length-map (con_names 0 0 tree) entry_shape) ∙ sym (ap length lists.cons) ∙ length-map p.cons con_shape

  -- ---- constructors

  -- the constructor of an entry has its data type and its number of fields
  record Declares (k : ℕ) (c : ConEntry) : Type 0 where
    found : Con
    there : slice_get p.cons k ≡ Some found
    variety : found.variety ≡ c.variety
    fields : length found.fields ≡ length c.fields

  -- so it is at each place
  declares : (k : ℕ) (one : List ℕ × ConEntry) → slice_get (con_names 0 0 tree) k ≡ Some one → Declares k one.1
  declares k one at =
      let from : Comes_from con_shape p.cons k (entry_shape one) = comes_from con_shape p.cons k (entry_shape one) (ap (λ l. slice_get l k) lists.cons ∙ map_at entry_shape (con_names 0 0 tree) k one at) in
      record {
        found = from.member;
        there = from.there;
        variety = ap (λ (s : ℕ × ℕ). s.0) from.same;
        fields = ap (λ (s : ℕ × ℕ). s.1) from.same;
      }

  -- an entry's place is its number
  number_is : (k : ℕ) (one : List ℕ × ConEntry) → slice_get (con_names 0 0 tree) k ≡ Some one → one.1.number ≡ k
  number_is k one at = order_at number_in_row 0 (con_names 0 0 tree) k one (cons_order 0 0 tree) at ∙ zero-add k

  -- an entry tells its constructor
  entry_is : (k : ℕ) (one : List ℕ × ConEntry) → slice_get (con_names 0 0 tree) k ≡ Some one → (one.1.number ≡ k) × IsEntry p one.1
  entry_is k one at = (
    number_is k one at,
    record {
      fields = subst (λ n. HasFields p n (length one.1.fields)) (sym (number_is k one at)) (record { found = it.found; declared = it.there; fields = it.fields });
      variety = subst (λ n. IsConOf p one.1.variety n) (sym (number_is k one at)) (record { found = it.found; declared = it.there; same = it.variety });
      within = subst (λ n. one.1.variety < n) (sym varieties_many) outer.below;
      places = outer.places;
    },
  )
    where
      it : Declares k one.1
      it = declares k one at

      outer : IsOuter 0 (length (con_rows 0 tree)) 0 one.1
      outer = all_at (λ (one : List ℕ × ConEntry). IsOuter 0 (length (con_rows 0 tree)) 0 one.1) (con_names 0 0 tree) k one (outer_entries 0 (length (con_rows 0 tree)) 0 tree (omega arith)) at

  -- ---- the constructors of a data type

  -- these are the constructors of data type d, each once
  abbrev AreItsOwn : ℕ → List ℕ → Type 0
  AreItsOwn d cons = Each (λ _ con. IsConOf p d con) cons × ((con : ℕ) → IsConOf p d con → count_by (λ k. k == con) cons ≡ 1)

  -- what the row of a data type says of an entry
  just_at : (d : ℕ) (cons : List ℕ) (row : IsRow 0 0 tree d cons) (con : ℕ) (one : List ℕ × ConEntry) → slice_get (con_names 0 0 tree) con ≡ Some one → IsJust row.first row.count d one.1
  just_at d cons row con one at = all_at (λ (one : List ℕ × ConEntry). IsJust row.first row.count d one.1) (con_names 0 0 tree) con one row.just at

  -- a number of the row is a constructor of the data type
  only_its : (d : ℕ) (cons : List ℕ) (row : IsRow 0 0 tree d cons) (con : ℕ) → row.first ≤ con → con < row.first + row.count → IsConOf p d con
  only_its d cons row con from below =
      let within = row.within in
      let at : Stands (con_names 0 0 tree) con = stands (con_names 0 0 tree) con (omega (arith, below, within)) in
      let it = declares con at.member at.there in
      let number = number_is con at.member at.there in
      record {
        found = it.found;
        declared = it.there;
        same = it.variety ∙ (just_at d cons row con at.member at.there).only (omega (arith, from, number)) (omega (arith, below, number));
      }

  -- a constructor of the data type is once in the row
  its_once : (d : ℕ) (cons : List ℕ) (row : IsRow 0 0 tree d cons) (con : ℕ) → IsConOf p d con → count_by (λ k. k == con) (range_with_len row.first row.count) ≡ 1
  its_once d cons row con is =
      let among = slice_get_within p.cons con is.found is.declared in
      let many = cons_many in
      let at : Stands (con_names 0 0 tree) con = stands (con_names 0 0 tree) con (omega (arith, among, many)) in
      let it = declares con at.member at.there in
      let number = number_is con at.member at.there in
      let same_con : is.found ≡ it.found = same_Some is.found it.found (sym is.declared ∙ it.there) in
      let variety : at.member.1.variety ≡ d = sym it.variety ∙ sym (ap (λ (c : Con). c.variety) same_con) ∙ is.same in
      let row_has = (just_at d cons row con at.member at.there).within variety in
      let from = row_has.0 in
      let below = row_has.1 in
      once_in_row con row.first row.count (omega (arith, from, number)) (omega (arith, below, number))

  -- so a row has just these
  its_own : (d : ℕ) (cons : List ℕ) → IsRow 0 0 tree d cons → AreItsOwn d cons
  its_own d cons row = subst (AreItsOwn d) (sym row.is) (
    λ k con at. (
        let place = range_at row.first row.count k con at in
        let is = place.0 in
        let below = place.1 in
        only_its d cons row con (omega (arith, is)) (omega (arith, is, below))
        ),
    its_once d cons row,
  )

  -- and so has each data type
  pub variety_own : (d : ℕ) (v : Variety) → slice_get p.varieties d ≡ Some v → AreItsOwn d v.cons
  variety_own d v at =
      let row : IsRow 0 0 tree (0 + d) v.cons = rows 0 0 tree d v.cons (sym (ap (λ l. slice_get l d) lists.varieties) ∙ map_at (λ (v : Variety). v.cons) p.varieties d v at) in
      its_own d v.cons (subst (λ n. IsRow 0 0 tree n v.cons) (zero-add d) row)

  -- ---- functions

  module _ (funs : map (λ (one : Fun). Some one.sig) p.funs ≡ fun_sigs (type_names 0 0 tree) tree) where
    abbrev types : Names TypeEntry
    types = type_names 0 0 tree

    abbrev fun_entries : Names FunEntry
    fun_entries = fun_names types (param_lists tree) 0 tree

    -- a name that stands for a signature stands for one that is declared
    sigs_known : (name : List ℕ) (t : TypeEntry) (s : ℕ) → find types name ≡ Some t → t.stands_for ≡ Sig_name s → s < length (param_lists tree)
    sigs_known name t s found = all_found (IsSigBelow (length (param_lists tree))) types name t (sigs_below (length (param_lists tree)) 0 0 tree (omega arith)) found s

    -- the function at a place has a signature with as many parameters as its entry says
    record Signed (k : ℕ) (params : Option ℕ) : Type 0 where
      count : ℕ
      are : params ≡ Some count
      takes : Takes p k count

    -- so it is at each place
    signed : (k : ℕ) (one : List ℕ × FunEntry) → slice_get fun_entries k ≡ Some one → Signed k one.1.params
    signed k one at = record {
      count = length words.member;
      are = sym from.same ∙ ap (counted (param_lists tree)) (sym fun.same) ∙ ap (option_map length) words.there;
      takes = record { fun = fun.member; declared = fun.there; sig = sig.member; signed = sig.there; same = sig.same };
    }
      where
        from : Comes_from (counted (param_lists tree)) (map (λ (one : Fun). Some one.sig) p.funs) k one.1.params
        from = comes_from (counted (param_lists tree)) (map (λ (one : Fun). Some one.sig) p.funs) k one.1.params (
            ap (λ l. slice_get (map (counted (param_lists tree)) l) k) funs
            ∙ ap (λ l. slice_get l k) (sym (funs_params types (param_lists tree) 0 tree))
            ∙ map_at (λ (one : List ℕ × FunEntry). one.1.params) fun_entries k one at
            )

        fun : Comes_from (λ (one : Fun). Some one.sig) p.funs k from.member
        fun = comes_from (λ (one : Fun). Some one.sig) p.funs k from.member from.there

        within : fun.member.sig < length (param_lists tree)
        within = all_at (λ (o : Option ℕ). (s : ℕ) → o ≡ Some s → s < length (param_lists tree)) (fun_sigs types tree) k from.member
            (sigs_there (length (param_lists tree)) types (sigs_below (length (param_lists tree)) 0 0 tree (omega arith)) tree)
            (ap (λ l. slice_get l k) (sym funs) ∙ from.there) fun.member.sig (sym fun.same)

        words : Stands (param_lists tree) fun.member.sig
        words = stands (param_lists tree) fun.member.sig within

        sig : Comes_from (λ (s : Sig). s.count) p.sigs fun.member.sig (length words.member)
        sig = comes_from (λ (s : Sig). s.count) p.sigs fun.member.sig (length words.member) (ap (λ l. slice_get l fun.member.sig) lists.sigs ∙ map_at length (param_lists tree) fun.member.sig words.member words.there)

    -- a name that stands for a function
    fun_found : (name : List ℕ) (f : FunEntry) → find fun_entries name ≡ Some f → (count : ℕ) × (f.params ≡ Some count) × Takes p f.number count
    fun_found name f found =
        let at : FoundAt fun_entries f = found_at fun_entries name f found in
        let it : Signed at.place at.one.1.params = signed at.place at.one at.there in
        let number : f.number ≡ at.place = ap (λ (e : FunEntry). e.number) (sym at.value) ∙ order_at fun_number 0 fun_entries at.place at.one (funs_order types (param_lists tree) 0 tree) at.there ∙ zero-add at.place in
        (it.count, ap (λ (e : FunEntry). e.params) (sym at.value) ∙ it.are, subst (λ n. Takes p n it.count) (sym number) it.takes)

    -- all of it together
    pub grounds : Grounds p (globals_of tree)
    grounds = record {
      data_types = λ name t d found is. subst (λ n. d < n) (sym varieties_many) (all_found (IsDataBelow (length (con_rows 0 tree))) types name t (data_below (length (con_rows 0 tree)) 0 0 0 tree (omega arith)) found d is);
      sigs = λ name t s found is. subst (λ n. s < n) (sym sigs_many) (sigs_known name t s found is);
      cons = entry_is;
      all = cons_many;
      funs = fun_found;
    }

-- ---- the program of a tree

-- clauses change none of these lists
with_clauses : (tree : List Declaration) (c : Came Program) → IsListed 0 0 tree (value_in c) → IsListed 0 0 tree (program_in c)
with_clauses tree (Came_to p made) lists = record { cons = lists.cons; varieties = lists.varieties; sigs = lists.sigs }

-- the lists of the program of a tree
program_lists : (tree : List Declaration) → IsListed 0 0 tree (flat_program tree)
program_lists tree = with_clauses tree (flattened tree) ((listed (globals_of tree) 0 0 0 0 tree).value nothing_made)

-- its faults and its functions are those that were made
same_faults : (c : Came Program) → faults_in c ≡ [] → (made_in c).faults ≡ []
same_faults (Came_to p made) none = none

same_funs : (c : Came Program) → (program_in c).funs ≡ (value_in c).funs
same_funs (Came_to p made) = refl

-- the names of the top level stand for what the program declares
pub grounds_of : (tree : List Declaration) → faults_of tree ≡ [] → Grounds (flat_program tree) (globals_of tree)
grounds_of tree none = grounds (flat_program tree) tree (program_lists tree) (
    ap (map (λ (one : Fun). Some one.sig)) (same_funs (flattened tree)) ∙ (funs_go (globals_of tree) 0 0 0 0 tree).leads nothing_made (same_faults (flattened tree) none) tt
    )

-- a data type has just its constructors, each once
pub variety_cons : (tree : List Declaration) (d : ℕ) (v : Variety) → slice_get (flat_program tree).varieties d ≡ Some v → Each (λ _ con. IsConOf (flat_program tree) d con) v.cons × ((con : ℕ) → IsConOf (flat_program tree) d con → count_by (λ k. k == con) v.cons ≡ 1)
variety_cons tree = variety_own (flat_program tree) tree (program_lists tree)
