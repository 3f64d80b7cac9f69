-- The tables go on being right as declarations are added to them.
use Rattle.std.proofs.Common.{◌≡◌, ℕ, ◌+◌, ◌==◌, ◌||◌, not, is_some, Bool, true, false, if◌then◌else◌, List, [], ◌∷◌, ◌++◌, map, length, drop, slice_get, zero, suc, true≢false, Option, Some, None, refl, sym, ap, subst, ◌∙◌, arith, length-append}
use Rattle.std.specs.List.{list_any}
use Rattle.std.specs.Option.{option_or, option_map, option_and_then}
use Rattle.std.proofs.lemmas.Bool.{eq-eqb, ne_eqb}
use Rattle.std.specs.Str.{bytes_eq}
use Rattle.std.specs.BTreeMap.{BTreeMap}
use Rattle.std.specs.Prelude.{Vec}
use Rattle.std.proofs.lemmas.List.{map-append, length-map}
use Rattle.mz_scope.specs.declared.entries.TypeName.{TypeName as CodeTypeName}
use Rattle.mz_scope.specs.declared.entries.TypeName.TheVariants.{Data, Sig}
use Rattle.mz_scope.specs.declared.entries.Param.{Param}
use Rattle.mz_scope.specs.declared.entries.TypeEntry.{TypeEntry as CodeTypeEntry}
use Rattle.mz_scope.specs.declared.entries.NamedType.{NamedType}
use Rattle.mz_scope.specs.declared.entries.TypeTable.{TypeTable}
use Rattle.mz_scope.specs.Names.{Names, find, TypeEntry, ConEntry, con_entry, param_count, sig_of}
use Rattle.mz_scope.specs.NameMaps.{found, Adds, Maps}
use Rattle.mz_scope.proofs.Found.{found_through}
use Rattle.mz_scope.specs.Tables.{type_names_in, types_in, type_entry_of, IsTypeTable, AddsType, cons_in, places_in, has_field, holder_from, IsConTable, marked, marked_all, Marks, AddsCon, type_name_of, param_word, params_in, fun_names_in, funs_in, fun_entry_of, IsFunTable, AddsFun}
use Rattle.mz_scope.specs.Syntax.{Word, ConTree, FunTree}
use Rattle.mz_scope.specs.Types.{names_in}
use Rattle.mz_scope.specs.declared.con_entry.NamedCon.{NamedCon}
use Rattle.mz_scope.specs.declared.con_entry.ConTable.{ConTable}
use Rattle.mz_scope.specs.declared.entries.Holder.{Holder}
use Rattle.mz_scope.specs.declared.entries.FunEntry.{FunEntry as CodeFunEntry}
use Rattle.mz_scope.specs.declared.entries.NamedFun.{NamedFun}
use Rattle.mz_scope.specs.declared.entries.FunTable.{FunTable}

-- ---- one more name

push_if : {A : Type 0} (b : Bool) (a : A) (o p q : Option A) → o ≡ option_or p q → (if b then Some a else o) ≡ option_or (if b then Some a else p) q
push_if true a o p q h = refl
push_if false a o p q h = h

-- a name at the end stands for something only where it didn't before, by going along the list
find_push : {A : Type 0} (names : Names A) (name : List ℕ) (value : A) (other : List ℕ) → find (names ++ (name, value) ∷ []) other ≡ option_or (find names other) (if bytes_eq name other then Some value else None)
find_push [] name value other = refl
find_push (one ∷ rest) name value other = push_if (bytes_eq one.0 other) one.1 _ _ _ (find_push rest name value other)

-- a map goes on having what the names stand for
pub maps_push : {A Y : Type 0} (old new : BTreeMap (Vec ℕ Y) A) (names : Names A) (name : List ℕ) (value : A) → Maps old names → Adds old name value new → Maps new (names ++ (name, value) ∷ [])
maps_push old new names name value maps adds other = adds other ∙ ap (λ o. option_or o (if bytes_eq name other then Some value else None)) (maps other) ∙ sym (find_push names name value other)

-- one at the end is one more
pub length_more : {A : Type 0} (all : List A) (one : A) → length (all ++ one ∷ []) ≡ length all + 1
length_more all one = length-append all (one ∷ [])

-- ---- data types and signatures

pub type_added : (old : TypeTable) (name text : List ℕ) (stands_for : CodeTypeName) (n : ℕ) (new : TypeTable)
    → IsTypeTable old → n ≡ length old.list → text ≡ name → new.list ≡ old.list ++ record { name = text; entry = record { position = n; stands_for = stands_for } } ∷ []
    → Adds old.first.first name (record { position = n; stands_for = stands_for }) new.first.first → AddsType old name stands_for new
type_added old name text stands_for n new kept count same pushed adds =
    let entry : CodeTypeEntry = record { position = n; stands_for = stands_for } in
    record {
      kept = subst (Maps new.first.first)
          (ap (λ t. type_names_in old.list ++ (t, entry) ∷ []) (sym same) ∙ sym (map-append (λ (t : NamedType). (t.name, t.entry)) old.list (record { name = text; entry = entry } ∷ [])) ∙ ap type_names_in (sym pushed))
          (maps_push old.first.first new.first.first (type_names_in old.list) name entry kept adds);
      list = ap types_in pushed ∙ map-append (λ (t : NamedType). (t.name, type_entry_of t.entry)) old.list (record { name = text; entry = entry } ∷ [])
          ∙ ap (λ t. types_in old.list ++ (t, type_entry_of entry) ∷ []) same
          ∙ ap (λ k. types_in old.list ++ (name, type_entry_of (record { position = k; stands_for = stands_for })) ∷ []) count;
      size = ap length pushed ∙ length_more old.list _;
    }

-- ---- constructors

and_none : (n : ℕ) → n ≡ n + 0
and_none n = omega arith

cons_size : (list : List NamedCon) → length (cons_in list) ≡ length list
cons_size list = length-map {B = List ℕ × ConEntry} list (λ (c : NamedCon). (c.name, c.con))

-- the places of names with one more at the end, by going along the list
places_push : {A : Type 0} (n : ℕ) (names : Names A) (one : List ℕ × A) → places_in n (names ++ one ∷ []) ≡ places_in n names ++ (one.0, n + length names) ∷ []
places_push n [] one = ap (λ k. (one.0, k) ∷ []) (and_none n)
places_push n (x ∷ rest) one = ap (λ l. (x.0, n) ∷ l) (places_push (n + 1) rest one ∙ ap (λ k. places_in (n + 1) rest ++ (one.0, k) ∷ []) further)
  where
    further : n + 1 + length rest ≡ n + length (x ∷ rest)
    further = omega arith

-- a mark at the same place changes no more
marked_twice : (k : ℕ) (o : Option Holder) → marked k (marked k o) ≡ marked k o
marked_twice k None = ap (λ b. Some (record { place = k; shared = false || not b })) (eq-eqb k k refl)
marked_twice k (Some h) = ap (λ b. Some (record { place = h.place; shared = b })) (twice h.shared (not (h.place == k)))
  where
    twice : (a b : Bool) → ((a || b) || b) ≡ (a || b)
    twice true b = refl
    twice false true = refl
    twice false false = refl

-- marks for all fields are one mark where one of them has the name, by going along the list
marked_if : (k : ℕ) (b rest : Bool) (o : Option Holder) → (if rest then marked k (if b then marked k o else o) else (if b then marked k o else o)) ≡ (if b || rest then marked k o else o)
marked_if k true true o = marked_twice k o
marked_if k true false o = refl
marked_if k false rest o = refl

marked_all_is : (k : ℕ) (names : List (List ℕ)) (field : List ℕ) (o : Option Holder) → marked_all k names field o ≡ (if list_any (λ name. bytes_eq name field) names then marked k o else o)
marked_all_is k [] field o = refl
marked_all_is k (name ∷ rest) field o = marked_all_is k rest field (if bytes_eq name field then marked k o else o) ∙ marked_if k (bytes_eq name field) _ o

-- a constructor has a field where one of its fields has the name
some_if : {A : Type 0} (b : Bool) (a : A) (o : Option A) (rest : Bool) → rest ≡ is_some o → (b || rest) ≡ is_some (if b then Some a else o)
some_if true a o rest h = refl
some_if false a o rest h = h

has_is : {A : Type 0} (names : Names A) (field : List ℕ) → list_any (λ name. bytes_eq name field) (names_in names) ≡ is_some (find names field)
has_is [] field = refl
has_is (one ∷ rest) field = some_if (bytes_eq one.0 field) one.1 _ _ (has_is rest field)

any_push : {A : Type 0} (test : A → Bool) (all : List A) (one : A) → list_any test (all ++ one ∷ []) ≡ (list_any test all || test one)
any_push test [] one = or_false (test one)
  where
    or_false : (b : Bool) → (b || false) ≡ (false || b)
    or_false true = refl
    or_false false = refl
any_push test (a ∷ rest) one = ap (λ b. test a || b) (any_push test rest one) ∙ regroup (test a) (list_any test rest) (test one)
  where
    regroup : (a b c : Bool) → (a || (b || c)) ≡ ((a || b) || c)
    regroup true b c = refl
    regroup false b c = refl

-- with one more constructor at the end: the first that has a field stays, and is marked where the new one has it, too
shared_if : (n k : ℕ) (b : Bool) (rest : Bool) → not (n == k) ≡ true → Some (record { place = n; shared = rest || b }) ≡ (if b then marked k (Some (record { place = n; shared = rest })) else Some (record { place = n; shared = rest }))
shared_if n k true rest differs = ap (λ d. Some (record { place = n; shared = rest || d })) (sym differs)
shared_if n k false rest differs = ap (λ d. Some (record { place = n; shared = d })) (or_false rest)
  where
    or_false : (b : Bool) → (b || false) ≡ b
    or_false true = refl
    or_false false = refl

holder_if : (n k : ℕ) (has new any more : Bool) (o p : Option Holder) → not (n == k) ≡ true → more ≡ (any || new) → p ≡ (if new then marked k o else o)
    → (if has then Some (record { place = n; shared = more }) else p) ≡ (if new then marked k (if has then Some (record { place = n; shared = any }) else o) else (if has then Some (record { place = n; shared = any }) else o))
holder_if n k true new any more o p differs e h = ap (λ b. Some (record { place = n; shared = b })) e ∙ shared_if n k new any differs
holder_if n k false new any more o p differs e h = h

holder_push : (n : ℕ) (names : Names ConEntry) (c : List ℕ × ConEntry) (field : List ℕ)
    → holder_from n (names ++ c ∷ []) field ≡ (if has_field field c then marked (n + length names) (holder_from n names field) else holder_from n names field)
holder_push n [] c field = ap (λ k. if has_field field c then Some (record { place = k; shared = false }) else None) (and_none n)
holder_push n (x ∷ rest) c field =
    let further : n + 1 + length rest ≡ n + length (x ∷ rest) = omega arith in
    let differs : (n == n + length (x ∷ rest)) ≡ false = ne_eqb n (n + length (x ∷ rest)) (λ e. omega (arith, e)) in
    holder_if n (n + length (x ∷ rest)) (has_field field x) (has_field field c) _ _ _ _ (ap not differs) (any_push (has_field field) rest c)
    (holder_push (n + 1) rest c field ∙ ap (λ k. if has_field field c then marked k (holder_from (n + 1) rest field) else holder_from (n + 1) rest field) further)

-- what stands at a place begins what is left from there, by going along the list
pub drop_there : {A : Type 0} (all : List A) (i : ℕ) (one : A) → slice_get all i ≡ Some one → drop i all ≡ one ∷ drop (i + 1) all
drop_there [] i one h = absurd (true≢false (sym (ap is_some h)))
drop_there (a ∷ rest) zero one h = cc
drop_there (a ∷ rest) (suc i) one h = drop_there rest i one h ∙ ap (λ k. one ∷ drop k (a ∷ rest)) more
  where
    more : suc (i + 1) ≡ suc i + 1
    more = omega arith

-- one mark, and then those of the rest
pub mark_step : {Y : Type 0} (k : ℕ) (names : List (List ℕ)) (i : ℕ) (name : List ℕ) (old new : BTreeMap (Vec ℕ Y) Holder) (field : List ℕ) (all : Option Holder)
    → slice_get names i ≡ Some name → Marks old k name new → marked_all k (drop i names) field (found old field) ≡ all → marked_all k (drop (i + 1) names) field (found new field) ≡ all
mark_step k names i name old new field all there marks h = ap (marked_all k (drop (i + 1) names) field) (marks field) ∙ sym (ap (λ l. marked_all k l field (found old field)) (drop_there names i name there)) ∙ h

pub con_added : (d : ℕ) (old : ConTable) (con : ConTree) (name : List ℕ) (k : ℕ) (fields : Names ℕ) (new : ConTable)
    → IsConTable old → k ≡ length old.list → name ≡ con.name.text → fields ≡ (con_entry d k con).fields
    → new.list ≡ old.list ++ record { name = name; con = record { number = k; variety = d; fields = fields } } ∷ []
    → Adds old.first.first con.name.text k new.first.first
    → ((field : List ℕ) → found new.holders.first field ≡ marked_all k (names_in fields) field (found old.holders.first field))
    → AddsCon d old con new
con_added d old con name k fields new kept count same listed pushed adds marks = record {
  kept = record {
    first = subst (Maps new.first.first) (sym places) (maps_push old.first.first new.first.first (places_in 0 (cons_in old.list)) con.name.text k kept.first adds);
    holders = λ field. marks field ∙ ap (marked_all k (names_in fields) field) (kept.holders field) ∙ marked_all_is k (names_in fields) field (holder_from 0 (cons_in old.list) field)
        ∙ ap (λ b. if b then marked k (holder_from 0 (cons_in old.list) field) else holder_from 0 (cons_in old.list) field) (has_is fields field)
        ∙ ap (λ j. if is_some (find fields field) then marked j (holder_from 0 (cons_in old.list) field) else holder_from 0 (cons_in old.list) field) place
        ∙ sym (ap (λ l. holder_from 0 l field) whole ∙ holder_push 0 (cons_in old.list) (name, record { number = k; variety = d; fields = fields }) field);
  };
  list = whole ∙ ap (λ t. cons_in old.list ++ (t, record { number = k; variety = d; fields = fields }) ∷ []) same
      ∙ ap (λ f. cons_in old.list ++ (con.name.text, record { number = k; variety = d; fields = f }) ∷ []) listed
      ∙ ap (λ j. cons_in old.list ++ (con.name.text, con_entry d j con) ∷ []) count;
  size = ap length pushed ∙ length_more old.list _;
}
  where
    whole : cons_in new.list ≡ cons_in old.list ++ (name, record { number = k; variety = d; fields = fields }) ∷ []
    whole = ap cons_in pushed ∙ map-append (λ (c : NamedCon). (c.name, c.con)) old.list (record { name = name; con = record { number = k; variety = d; fields = fields } } ∷ [])

    place : k ≡ 0 + length (cons_in old.list)
    place = omega (arith, count, cons_size old.list)

    places : places_in 0 (cons_in new.list) ≡ places_in 0 (cons_in old.list) ++ (con.name.text, k) ∷ []
    places = ap (places_in 0) whole ∙ places_push 0 (cons_in old.list) (name, record { number = k; variety = d; fields = fields })
        ∙ ap (λ t. places_in 0 (cons_in old.list) ++ (t, 0 + length (cons_in old.list)) ∷ []) same
        ∙ ap (λ j. places_in 0 (cons_in old.list) ++ (con.name.text, j) ∷ []) (sym place)

-- ---- functions

pub fun_added : (types : Names TypeEntry) (params : List (List Word)) (old : FunTable) (function : FunTree) (name : List ℕ) (n : ℕ) (count : Option ℕ) (new : FunTable)
    → IsFunTable old → n ≡ length old.list → name ≡ function.name.text → count ≡ param_count types params function.sig.text
    → new.list ≡ old.list ++ record { name = name; entry = record { number = n; params = count } } ∷ []
    → Adds old.first.first function.name.text (record { number = n; params = count }) new.first.first → AddsFun types params old function new
fun_added types params old function name n count new kept number same counted pushed adds =
    let entry : CodeFunEntry = record { number = n; params = count } in
    record {
      kept = subst (Maps new.first.first)
          (ap (λ t. fun_names_in old.list ++ (t, entry) ∷ []) (sym same) ∙ sym (map-append (λ (f : NamedFun). (f.name, f.entry)) old.list (record { name = name; entry = entry } ∷ [])) ∙ ap fun_names_in (sym pushed))
          (maps_push old.first.first new.first.first (fun_names_in old.list) function.name.text entry kept adds);
      list = ap funs_in pushed ∙ map-append (λ (f : NamedFun). (f.name, fun_entry_of f.entry)) old.list (record { name = name; entry = entry } ∷ [])
          ∙ ap (λ t. funs_in old.list ++ (t, fun_entry_of entry) ∷ []) same
          ∙ ap (λ k. funs_in old.list ++ (function.name.text, fun_entry_of (record { number = k; params = count })) ∷ []) number
          ∙ ap (λ o. funs_in old.list ++ (function.name.text, fun_entry_of (record { number = length old.list; params = o })) ∷ []) counted;
      size = ap length pushed ∙ length_more old.list _;
    }

-- ---- how many parameters a signature has

-- what stands at a place of a list put through a function, by going along the list
pub get_mapped : {A B : Type 0} (f : A → B) (all : List A) (i : ℕ) → slice_get (map f all) i ≡ option_map f (slice_get all i)
get_mapped f [] i = refl
get_mapped f (a ∷ rest) zero = refl
get_mapped f (a ∷ rest) (suc i) = get_mapped f rest i

module _ (list : List NamedType) (params : List (List Param)) (name : List ℕ) where
  abbrev count_by_entry : Option TypeEntry → Option ℕ
  count_by_entry found = option_map length (option_and_then (slice_get (params_in params)) (option_and_then (λ (t : TypeEntry). sig_of t.stands_for) found))

  count_is : (o : Option CodeTypeEntry) → find (type_names_in list) name ≡ o → count_by_entry (option_map type_entry_of o) ≡ param_count (types_in list) (params_in params) name
  count_is o e = ap count_by_entry (ap (option_map type_entry_of) (sym e) ∙ found_through (λ (t : NamedType). t.name) (λ (t : NamedType). t.entry) type_entry_of list name)

  -- the name stands for nothing
  pub count_none : find (type_names_in list) name ≡ None → None ≡ param_count (types_in list) (params_in params) name
  count_none e = count_is None e

  module _ (entry : CodeTypeEntry) (there : find (type_names_in list) name ≡ Some entry) where
    -- it stands for a data type
    pub count_data : (d : ℕ) → entry.stands_for ≡ Data d → None ≡ param_count (types_in list) (params_in params) name
    count_data d e = sym (ap (λ t. option_map length (option_and_then (slice_get (params_in params)) (sig_of (type_name_of t)))) e) ∙ count_is (Some entry) there

    -- it stands for a signature
    pub count_sig : (s : ℕ) (o : Option (List Param)) → entry.stands_for ≡ Sig s → o ≡ slice_get params s → option_map length o ≡ param_count (types_in list) (params_in params) name
    count_sig s o e at =
        lengths o
        ∙ ap (option_map length) (ap (option_map (map param_word)) at ∙ sym (get_mapped (map param_word) params s))
        ∙ sym (ap (λ t. option_map length (option_and_then (slice_get (params_in params)) (sig_of (type_name_of t)))) e) ∙ count_is (Some entry) there
      where
        lengths : (o : Option (List Param)) → option_map length o ≡ option_map length (option_map (map param_word) o)
        lengths None = refl
        lengths (Some all) = ap Some (sym (length-map all param_word))
