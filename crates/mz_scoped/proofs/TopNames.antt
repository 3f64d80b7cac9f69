-- What the names of declarations stand for: which numbers data types, constructors, signatures and functions have, in order.
use Rattle.std.proofs.Common.{◌≡◌, ℕ, zero, suc, ◌+◌, ◌<◌, ◌≤◌, List, [], ◌∷◌, map, length, Option, Some, slice_get, option_map, option_and_then, refl, sym, ap, ◌∙◌, subst, arith, length-append}
use Rattle.std.specs.List.{range_with_len}
use Rattle.std.proofs.lemmas.Option.{none-some, same_Some, option_and_then_some}
use Rattle.std.proofs.lemmas.List.{length-map}
use Rattle.mz_scope.specs.Syntax.{Word, FieldTree, ConTree, Declaration, Data_declaration, Sig_declaration, Fun_declaration}
use Rattle.mz_scope.specs.Names.{Names, find, numbered, TypeName, Data_name, Sig_name, TypeEntry, type_names, sig_of, ConEntry, con_entry, con_names_in, con_names, param_lists, FunEntry, sig_number, fun_names}
use Rattle.mz_scoped.proofs.Proper.{AllOf}
use Rattle.mz_scoped.proofs.TopLists.{all_together, all_weaker, all_found, InOrder, order_together}

-- ---- what declarations have, of which k constructors stand before

-- the constructors of each data type, by their numbers
abbrev pub con_rows : ℕ → List Declaration → List (List ℕ)
con_rows k [] = []
con_rows k (Data_declaration x ∷ rest) = range_with_len k (length x.cons) ∷ con_rows (k + length x.cons) rest
con_rows k (Sig_declaration x ∷ rest) = con_rows k rest
con_rows k (Fun_declaration x ∷ rest) = con_rows k rest

-- the signature of each function, where it is declared
abbrev pub fun_sigs : Names TypeEntry → List Declaration → List (Option ℕ)
fun_sigs types [] = []
fun_sigs types (Data_declaration x ∷ rest) = fun_sigs types rest
fun_sigs types (Sig_declaration x ∷ rest) = fun_sigs types rest
fun_sigs types (Fun_declaration x ∷ rest) = sig_number types x.sig.text ∷ fun_sigs types rest

-- ---- data types and signatures

-- where it is a data type, its number is below n
abbrev pub IsDataBelow : ℕ → TypeEntry → Type 0
IsDataBelow n t = (i : ℕ) → t.stands_for ≡ Data_name i → i < n

-- where it is a signature, its number is below n
abbrev pub IsSigBelow : ℕ → TypeEntry → Type 0
IsSigBelow n t = (i : ℕ) → t.stands_for ≡ Sig_name i → i < n

same_data : (d i : ℕ) → Data_name d ≡ Data_name i → d ≡ i
same_data d i is = cc

same_sig : (s i : ℕ) → Sig_name s ≡ Sig_name i → s ≡ i
same_sig s i is = cc

no_data : (s i : ℕ) → Sig_name s ≡ Data_name i → ⊥
no_data s i is = cc

no_sig : (d i : ℕ) → Data_name d ≡ Sig_name i → ⊥
no_sig d i is = cc

-- a data type's number is below their number
pub data_below : (n d s k : ℕ) (tree : List Declaration) → d + length (con_rows k tree) ≤ n → AllOf (λ (one : List ℕ × TypeEntry). IsDataBelow n one.1) (type_names d s tree)
data_below n d s k [] within = tt
data_below n d s k (Data_declaration x ∷ rest) within =
    (λ i is. let same = same_data d i is in omega (arith, within, same), data_below n (d + 1) s (k + length x.cons) rest (omega (arith, within)))
data_below n d s k (Sig_declaration x ∷ rest) within = (λ i is. absurd (no_data s i is), data_below n d (s + 1) k rest within)
data_below n d s k (Fun_declaration x ∷ rest) within = data_below n d s k rest within

-- a signature's number is below their number
pub sigs_below : (n d s : ℕ) (tree : List Declaration) → s + length (param_lists tree) ≤ n → AllOf (λ (one : List ℕ × TypeEntry). IsSigBelow n one.1) (type_names d s tree)
sigs_below n d s [] within = tt
sigs_below n d s (Data_declaration x ∷ rest) within = (λ i is. absurd (no_sig d i is), sigs_below n (d + 1) s rest within)
sigs_below n d s (Sig_declaration x ∷ rest) within = (λ i is. let same = same_sig s i is in omega (arith, within, same), sigs_below n d (s + 1) rest (omega (arith, within)))
sigs_below n d s (Fun_declaration x ∷ rest) within = sigs_below n d s rest within

-- what has a signature's number is a signature
sig_is : (t : TypeName) (s : ℕ) → sig_of t ≡ Some s → t ≡ Sig_name s
sig_is (Data_name i) s is = absurd (none-some s is)
sig_is (Sig_name i) s is = ap Sig_name (same_Some i s is)

-- the signature of a function that is declared is one of them
pub sigs_there : (n : ℕ) (types : Names TypeEntry) → AllOf (λ (one : List ℕ × TypeEntry). IsSigBelow n one.1) types → (tree : List Declaration) → AllOf (λ (o : Option ℕ). (s : ℕ) → o ≡ Some s → s < n) (fun_sigs types tree)
sigs_there n types below [] = tt
sigs_there n types below (Data_declaration x ∷ rest) = sigs_there n types below rest
sigs_there n types below (Sig_declaration x ∷ rest) = sigs_there n types below rest
sigs_there n types below (Fun_declaration x ∷ rest) = (
  λ s is. option_and_then_some (λ (t : TypeEntry). sig_of t.stands_for) (find types x.sig.text) s is (λ t found stands. all_found (IsSigBelow n) types x.sig.text t below found s (sig_is t.stands_for s stands)),
  sigs_there n types below rest,
)

-- ---- fields

-- words are numbered each once
pub numbered_length : (i : ℕ) (words : List Word) → length (numbered i words) ≡ length words
numbered_length i [] = refl
numbered_length i (w ∷ rest) = ap suc (numbered_length (i + 1) rest)

-- their numbers are below their end
numbered_below : (n i : ℕ) (words : List Word) → i + length words ≤ n → AllOf (λ (one : List ℕ × ℕ). one.1 < n) (numbered i words)
numbered_below n i [] within = tt
numbered_below n i (w ∷ rest) within = (omega (arith, within), numbered_below n (i + 1) rest (omega (arith, within)))

-- a field's place is below the number of fields
abbrev pub HasPlaces : ConEntry → Type 0
HasPlaces c = (name : List ℕ) (i : ℕ) → find c.fields name ≡ Some i → i < length c.fields

-- so it is of numbered words
places_of : (words : List Word) (name : List ℕ) (i : ℕ) → find (numbered 0 words) name ≡ Some i → i < length (numbered 0 words)
places_of words name i found =
    let many = numbered_length 0 words in
    all_found (λ n. n < length (numbered 0 words)) (numbered 0 words) name i (numbered_below (length (numbered 0 words)) 0 words (omega (arith, many))) found

-- an entry has the fields of its declaration
pub fields_length : (d k : ℕ) (con : ConTree) → length (con_entry d k con).fields ≡ length con.fields
fields_length d k con = numbered_length 0 (map (λ (f : FieldTree). f.name) con.fields) ∙ length-map con.fields (λ (f : FieldTree). f.name)

-- ---- constructors

-- the number of an entry
abbrev pub number_in_row : List ℕ × ConEntry → ℕ
number_in_row one = one.1.number

-- a data type has as many entries as constructors
inner_length : (d k : ℕ) (cons : List ConTree) → length (con_names_in d k cons) ≡ length cons
inner_length d k [] = refl
inner_length d k (con ∷ rest) = ap suc (inner_length d (k + 1) rest)

-- they are numbered in order
inner_order : (d k : ℕ) (cons : List ConTree) → InOrder number_in_row k (con_names_in d k cons)
inner_order d k [] = tt
inner_order d k (con ∷ rest) = (refl, inner_order d (k + 1) rest)

-- constructors are numbered in order
pub cons_order : (d k : ℕ) (tree : List Declaration) → InOrder number_in_row k (con_names d k tree)
cons_order d k [] = tt
cons_order d k (Data_declaration x ∷ rest) =
    order_together number_in_row k (con_names_in d k x.cons) (con_names (d + 1) (k + length x.cons) rest) (inner_order d k x.cons)
    (subst (λ n. InOrder number_in_row (k + n) (con_names (d + 1) (k + length x.cons) rest)) (sym (inner_length d k x.cons)) (cons_order (d + 1) (k + length x.cons) rest))
cons_order d k (Sig_declaration x ∷ rest) = cons_order d k rest
cons_order d k (Fun_declaration x ∷ rest) = cons_order d k rest

-- a constructor of data type d, numbered from k on, below n
record IsInner (d k n : ℕ) (c : ConEntry) : Type 0 where
  variety : c.variety ≡ d
  from : k ≤ c.number
  below : c.number < n
  places : HasPlaces c

-- the entries of one data type are so
inner_entries : (d k n : ℕ) (cons : List ConTree) → k + length cons ≤ n → AllOf (λ (one : List ℕ × ConEntry). IsInner d k n one.1) (con_names_in d k cons)
inner_entries d k n [] within = tt
inner_entries d k n (con ∷ rest) within = (
  record { variety = refl; from = omega arith; below = omega (arith, within); places = places_of (map (λ (f : FieldTree). f.name) con.fields) },
  all_weaker (λ (one : List ℕ × ConEntry). IsInner d (k + 1) n one.1) (λ (one : List ℕ × ConEntry). IsInner d k n one.1) (λ one is. earlier one.1 is) (con_names_in d (k + 1) rest) (inner_entries d (k + 1) n rest (omega (arith, within))),
)
  where
    earlier : (c : ConEntry) → IsInner d (k + 1) n c → IsInner d k n c
    earlier c is = record { variety = is.variety; from = (let from = is.from in omega (arith, from)); below = is.below; places = is.places }

-- a constructor, numbered from k on, of a data type from d on, below n
pub record IsOuter (d n k : ℕ) (c : ConEntry) : Type 0 where
  pub after : d ≤ c.variety
  pub below : c.variety < n
  pub from : k ≤ c.number
  pub places : HasPlaces c

-- the entries of all declarations are so
pub outer_entries : (d n k : ℕ) (tree : List Declaration) → d + length (con_rows k tree) ≤ n → AllOf (λ (one : List ℕ × ConEntry). IsOuter d n k one.1) (con_names d k tree)
outer_entries d n k [] within = tt
outer_entries d n k (Data_declaration x ∷ rest) within =
    all_together (λ (one : List ℕ × ConEntry). IsOuter d n k one.1) (con_names_in d k x.cons) (con_names (d + 1) (k + length x.cons) rest)
    (all_weaker (λ (one : List ℕ × ConEntry). IsInner d k (k + length x.cons) one.1) (λ (one : List ℕ × ConEntry). IsOuter d n k one.1) (λ one is. here one.1 is) (con_names_in d k x.cons) (inner_entries d k (k + length x.cons) x.cons (omega arith)))
    (all_weaker (λ (one : List ℕ × ConEntry). IsOuter (d + 1) n (k + length x.cons) one.1) (λ (one : List ℕ × ConEntry). IsOuter d n k one.1) (λ one is. later one.1 is) (con_names (d + 1) (k + length x.cons) rest) (outer_entries (d + 1) n (k + length x.cons) rest (omega (arith, within))))
  where
    here : (c : ConEntry) → IsInner d k (k + length x.cons) c → IsOuter d n k c
    here c is = let variety = is.variety in record { after = omega (arith, variety); below = omega (arith, variety, within); from = is.from; places = is.places }

    later : (c : ConEntry) → IsOuter (d + 1) n (k + length x.cons) c → IsOuter d n k c
    later c is = let after = is.after in let from = is.from in record { after = omega (arith, after); below = is.below; from = omega (arith, from); places = is.places }
outer_entries d n k (Sig_declaration x ∷ rest) within = outer_entries d n k rest within
outer_entries d n k (Fun_declaration x ∷ rest) within = outer_entries d n k rest within

-- ---- the constructors of a data type are in a row

-- a constructor is of data type v just where its number is within the row
pub record IsJust (first count v : ℕ) (c : ConEntry) : Type 0 where
  pub within : c.variety ≡ v → (first ≤ c.number) × (c.number < first + count)
  pub only : first ≤ c.number → c.number < first + count → c.variety ≡ v

-- the constructors of data type v are a row of numbers, and no other constructor's number is in it
pub record IsRow (d k : ℕ) (tree : List Declaration) (v : ℕ) (cons : List ℕ) : Type 0 where
  pub first : ℕ
  pub count : ℕ
  pub is : cons ≡ range_with_len first count
  pub from : k ≤ first
  pub within : first + count ≤ k + length (con_names d k tree)
  pub just : AllOf (λ (one : List ℕ × ConEntry). IsJust first count v one.1) (con_names d k tree)

-- the same of a name's entry
abbrev Just : ℕ → ℕ → ℕ → List ℕ × ConEntry → Type 0
Just first count v one = IsJust first count v one.1

-- the rows of the data types from d on
pub rows : (d k : ℕ) (tree : List Declaration) (i : ℕ) (cons : List ℕ) → slice_get (con_rows k tree) i ≡ Some cons → IsRow d k tree (d + i) cons
rows d k [] i cons at = absurd (none-some cons at)
rows d k (Data_declaration x ∷ rest) zero cons at = record {
  first = k;
  count = length x.cons;
  is = sym (same_Some (range_with_len k (length x.cons)) cons at);
  from = omega arith;
  within = (
      let many = length-append (con_names_in d k x.cons) (con_names (d + 1) (k + length x.cons) rest) in
      let here = inner_length d k x.cons in
      omega (arith, many, here)
      );
  just = all_together (Just k (length x.cons) (d + 0)) (con_names_in d k x.cons) (con_names (d + 1) (k + length x.cons) rest)
      (all_weaker (λ (one : List ℕ × ConEntry). IsInner d k (k + length x.cons) one.1) (Just k (length x.cons) (d + 0)) (λ one is. here one.1 is) (con_names_in d k x.cons) (inner_entries d k (k + length x.cons) x.cons (omega arith)))
      (all_weaker (λ (one : List ℕ × ConEntry). IsOuter (d + 1) (d + 1 + length (con_rows (k + length x.cons) rest)) (k + length x.cons) one.1) (Just k (length x.cons) (d + 0)) (λ one is. later one.1 is) (con_names (d + 1) (k + length x.cons) rest) (outer_entries (d + 1) (d + 1 + length (con_rows (k + length x.cons) rest)) (k + length x.cons) rest (omega arith)));
}
  where
    here : (c : ConEntry) → IsInner d k (k + length x.cons) c → IsJust k (length x.cons) (d + 0) c
    here c is = let variety = is.variety in record { within = λ same. (is.from, is.below); only = λ from below. omega (arith, variety) }

    later : (c : ConEntry) → IsOuter (d + 1) (d + 1 + length (con_rows (k + length x.cons) rest)) (k + length x.cons) c → IsJust k (length x.cons) (d + 0) c
    later c is = let after = is.after in let from = is.from in record { within = λ same. absurd (omega (arith, after, same)); only = λ low below. absurd (omega (arith, from, below)) }
rows d k (Data_declaration x ∷ rest) (suc i) cons at =
    let row : IsRow (d + 1) (k + length x.cons) rest (d + 1 + i) cons = rows (d + 1) (k + length x.cons) rest i cons at in
    let from = row.from in
    record {
      first = row.first;
      count = row.count;
      is = row.is;
      from = omega (arith, from);
      within = (
          let many = length-append (con_names_in d k x.cons) (con_names (d + 1) (k + length x.cons) rest) in
          let front = inner_length d k x.cons in
          let within = row.within in
          omega (arith, many, front, within)
          );
      just = all_together (Just row.first row.count (d + suc i)) (con_names_in d k x.cons) (con_names (d + 1) (k + length x.cons) rest)
          (all_weaker (λ (one : List ℕ × ConEntry). IsInner d k (k + length x.cons) one.1) (Just row.first row.count (d + suc i)) (λ one is. here row.first row.count from one.1 is) (con_names_in d k x.cons) (inner_entries d k (k + length x.cons) x.cons (omega arith)))
          (subst (λ v. AllOf (Just row.first row.count v) (con_names (d + 1) (k + length x.cons) rest)) (one_more d i) row.just);
    }
  where
    one_more : (d i : ℕ) → d + 1 + i ≡ d + suc i
    one_more d i = omega arith

    here : (first count : ℕ) → k + length x.cons ≤ first → (c : ConEntry) → IsInner d k (k + length x.cons) c → IsJust first count (d + suc i) c
    here first count from c is = let variety = is.variety in let below = is.below in record { within = λ same. absurd (omega (arith, variety, same)); only = λ low high. absurd (omega (arith, from, below, low)) }
rows d k (Sig_declaration x ∷ rest) i cons at = let row = rows d k rest i cons at in record { first = row.first; count = row.count; is = row.is; from = row.from; within = row.within; just = row.just }
rows d k (Fun_declaration x ∷ rest) i cons at = let row = rows d k rest i cons at in record { first = row.first; count = row.count; is = row.is; from = row.from; within = row.within; just = row.just }

-- ---- functions

-- the number of a function's entry
abbrev pub fun_number : List ℕ × FunEntry → ℕ
fun_number one = one.1.number

-- functions are numbered in order
pub funs_order : (types : Names TypeEntry) (params : List (List Word)) (f : ℕ) (tree : List Declaration) → InOrder fun_number f (fun_names types params f tree)
funs_order types params f [] = tt
funs_order types params f (Data_declaration x ∷ rest) = funs_order types params f rest
funs_order types params f (Sig_declaration x ∷ rest) = funs_order types params f rest
funs_order types params f (Fun_declaration x ∷ rest) = (refl, funs_order types params (f + 1) rest)

-- how many parameters a signature has
abbrev pub counted : List (List Word) → Option ℕ → Option ℕ
counted params sig = option_map length (option_and_then (slice_get params) sig)

-- a function has the parameters of its signature
pub funs_params : (types : Names TypeEntry) (params : List (List Word)) (f : ℕ) (tree : List Declaration) → map (λ (one : List ℕ × FunEntry). one.1.params) (fun_names types params f tree) ≡ map (counted params) (fun_sigs types tree)
funs_params types params f [] = refl
funs_params types params f (Data_declaration x ∷ rest) = funs_params types params f rest
funs_params types params f (Sig_declaration x ∷ rest) = funs_params types params f rest
funs_params types params f (Fun_declaration x ∷ rest) = ap (λ l. counted params (sig_number types x.sig.text) ∷ l) (funs_params types params (f + 1) rest)
