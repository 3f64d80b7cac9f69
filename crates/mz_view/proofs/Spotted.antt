-- The name at a place of what a lock guards, and another put there, permission by permission.
use Rattle.std.proofs.Common.{◌≡◌, ℕ, zero, suc, ◌+◌, ◌<◌, ◌≤◌, List, [], ◌∷◌, ◌++◌, length, map, Option, Result, Ok, Err, IfOk, take, drop, get_or, Some, slice_get, slice_set, refl, sym, ap, ◌∙◌, subst, arith}
use Rattle.mz_tree.specs.Plain.{Ty, Atom, Atoms, Block_type, Lock_type, Has_atom, No_atoms, More_atoms, atoms_of}
use Rattle.mz_tree.specs.View.{plain_ty, plain_atom, plain_atoms}
use Rattle.mz_tree.specs.declared.types.Ty.{Ty as CodeTy, Block, Lock}
use Rattle.mz_tree.specs.declared.types.Atom.{Atom as CodeAtom, Has}
use Rattle.mz_tree.proofs.Views.{plain_lock}
use Rattle.mz_perm.proofs.Remaining.{drop_at, drop_all}
use Rattle.mz_view.specs.Spots.{names_in, names_in_atom, names_in_type, nameless, nameless_atom, nameless_type, Puts, PutsAtom, PutsType}
use Rattle.mz_view.specs.Answers.{IsSpot}
use Rattle.mz_view.specs.declared.spots.Spot.{Spot}
use Rattle.mz_view.specs.declared.spots.Spot.TheVariants.{At, Past}
use Rattle.mz_view.proofs.Listed.{at_place}

-- the names of a list of permissions
abbrev names_of : List CodeAtom → List ℕ
names_of atoms = names_in (atoms_of (plain_atoms atoms))

get_front : {A : Type 0} (xs ys : List A) (k : ℕ) (x : A) → slice_get xs k ≡ Some x → slice_get (xs ++ ys) k ≡ Some x
get_front [] ys k x e = absurd (cc)
get_front (y ∷ xs) ys zero x e = e
get_front (y ∷ xs) ys (suc k) x e = get_front xs ys k x e

get_behind : {A : Type 0} (xs ys : List A) (m : ℕ) → slice_get (xs ++ ys) (length xs + m) ≡ slice_get ys m
get_behind [] ys m = let e : 0 + m ≡ m = omega arith in ap (slice_get ys) e
get_behind (x ∷ xs) ys m = let e : suc (length xs) + m ≡ suc (length xs + m) = omega arith in ap (slice_get (x ∷ (xs ++ ys))) e ∙ get_behind xs ys m

-- a place among the first names
pub spot_front : (s : Spot) (xs ys : List ℕ) (k name : ℕ) → IsSpot (At name) xs k → IsSpot (At name) (xs ++ ys) k
spot_front s xs ys k name e = get_front xs ys k name e

-- a place behind them
spot_behind : (s : Spot) (xs ys : List ℕ) (k m : ℕ) → k ≡ length xs + m → IsSpot s ys m → IsSpot s (xs ++ ys) k
spot_behind (At name) xs ys k m e h = ap (slice_get (xs ++ ys)) e ∙ get_behind xs ys m ∙ h
spot_behind (Past more) xs ys k m e h = let long : length (xs ++ ys) ≡ length xs + length ys = length_both xs ys in omega (arith, e, h, long)
  where
    length_both : (xs ys : List ℕ) → length (xs ++ ys) ≡ length xs + length ys
    length_both [] ys = omega arith
    length_both (x ∷ xs) ys = let rest = length_both xs ys in omega (arith, rest)

-- the loop over the permissions
pub spot_found : (atoms : List CodeAtom) (i k left name : ℕ) (a : CodeAtom) → i < length atoms → a ≡ get_or atoms i a → IsSpot (At name) (names_in_atom (plain_atom a)) left → ((s : Spot) → IsSpot s (names_of (drop i atoms)) left → IsSpot s (names_of atoms) k) → IsSpot (At name) (names_of atoms) k
spot_found atoms i k left name a h e is before = before (At name) (subst (λ l. IsSpot (At name) (names_of l) left) (sym (drop_at atoms i a (at_place atoms i a h e))) (get_front (names_in_atom (plain_atom a)) (names_of (drop (i + 1) atoms)) left name is))

pub spot_next : (atoms : List CodeAtom) (i k left more : ℕ) (a : CodeAtom) → i < length atoms → a ≡ get_or atoms i a → IsSpot (Past more) (names_in_atom (plain_atom a)) left → ((s : Spot) → IsSpot s (names_of (drop i atoms)) left → IsSpot s (names_of atoms) k) → (s : Spot) → IsSpot s (names_of (drop (i + 1) atoms)) more → IsSpot s (names_of atoms) k
spot_next atoms i k left more a h e is before s rest = before s (subst (λ l. IsSpot s (names_of l) left) (sym (drop_at atoms i a (at_place atoms i a h e))) (spot_behind s (names_in_atom (plain_atom a)) (names_of (drop (i + 1) atoms)) left more is rest))

pub spot_past : (atoms : List CodeAtom) (i k left : ℕ) → length atoms ≤ i → ((s : Spot) → IsSpot s (names_of (drop i atoms)) left → IsSpot s (names_of atoms) k) → IsSpot (Past left) (names_of atoms) k
spot_past atoms i k left h before = let none : left ≡ 0 + left = omega arith in before (Past left) (subst (λ l. IsSpot (Past left) (names_of l) left) (sym (drop_all atoms i h)) none)

-- a lock's type has the names of what it guards
pub lock_names : (atoms slice : List CodeAtom) (ty : _) → slice ≡ atoms → ty ≡ Lock atoms → names_of slice ≡ names_in_type (plain_ty ty)
lock_names atoms slice ty s t = ap names_of s ∙ sym (ap names_in_type (plain_lock atoms)) ∙ sym (ap (λ u. names_in_type (plain_ty u)) t)

-- a name put among the first, or behind them
set_front : {A : Type 0} (xs ys : List A) (k : ℕ) (x z : A) → slice_get xs k ≡ Some x → slice_set (xs ++ ys) k z ≡ slice_set xs k z ++ ys
set_front [] ys k x z e = absurd (cc)
set_front (y ∷ xs) ys zero x z e = refl
set_front (y ∷ xs) ys (suc k) x z e = ap (λ l. y ∷ l) (set_front xs ys k x z e)

set_behind : {A : Type 0} (xs ys : List A) (m : ℕ) (z : A) → slice_set (xs ++ ys) (length xs + m) z ≡ xs ++ slice_set ys m z
set_behind [] ys m z = let e : 0 + m ≡ m = omega arith in ap (λ k. slice_set ys k z) e
set_behind (x ∷ xs) ys m z = let e : suc (length xs) + m ≡ suc (length xs + m) = omega arith in ap (λ k. slice_set (x ∷ (xs ++ ys)) k z) e ∙ ap (λ l. x ∷ l) (set_behind xs ys m z)

set_past : {A : Type 0} (xs : List A) (m : ℕ) (z : A) → slice_set xs (length xs + m) z ≡ xs
set_past [] m z = refl
set_past (x ∷ xs) m z = let e : suc (length xs) + m ≡ suc (length xs + m) = omega arith in ap (λ k. slice_set (x ∷ xs) k z) e ∙ ap (λ l. x ∷ l) (set_past xs m z)

-- a permission changed at its place
put_names : (atoms : List CodeAtom) (i left z name : ℕ) (a b : CodeAtom) → slice_get atoms i ≡ Some a → slice_get (names_in_atom (plain_atom a)) left ≡ Some name → PutsAtom left z (plain_atom a) (plain_atom b) → names_of (slice_set atoms i b) ≡ slice_set (names_of atoms) (length (names_of (take i atoms)) + left) z
put_names [] i left z name a b e s p = absurd (cc)
put_names (x ∷ atoms) zero left z name a b e s p =
    let is : x ≡ a = some_is x a e in
    let n : 0 + left ≡ left = omega arith in
    ap (λ l. l ++ names_of atoms) p.names
    ∙ sym (set_front (names_in_atom (plain_atom a)) (names_of atoms) left name z s)
    ∙ ap (λ k. slice_set (names_in_atom (plain_atom a) ++ names_of atoms) k z) (sym n)
    ∙ ap (λ c. slice_set (names_in_atom (plain_atom c) ++ names_of atoms) (0 + left) z) (sym is)
  where
    some_is : (a b : CodeAtom) → Some a ≡ Some b → a ≡ b
    some_is a b e = cc
put_names (x ∷ atoms) (suc i) left z name a b e s p =
    let n : length (names_in_atom (plain_atom x)) + (length (names_of (take i atoms)) + left) ≡ length (names_in_atom (plain_atom x) ++ names_of (take i atoms)) + left = (let both = length_both (names_in_atom (plain_atom x)) (names_of (take i atoms)) in omega (arith, both)) in
    ap (λ l. names_in_atom (plain_atom x) ++ l) (put_names atoms i left z name a b e s p)
    ∙ sym (set_behind (names_in_atom (plain_atom x)) (names_of atoms) (length (names_of (take i atoms)) + left) z)
    ∙ ap (λ k. slice_set (names_in_atom (plain_atom x) ++ names_of atoms) k z) n
  where
    length_both : (xs ys : List ℕ) → length (xs ++ ys) ≡ length xs + length ys
    length_both [] ys = omega arith
    length_both (x ∷ xs) ys = let rest = length_both xs ys in omega (arith, rest)

put_nameless : (atoms : List CodeAtom) (i : ℕ) (a b : CodeAtom) → slice_get atoms i ≡ Some a → nameless_atom (plain_atom b) ≡ nameless_atom (plain_atom a) → nameless (atoms_of (plain_atoms (slice_set atoms i b))) ≡ nameless (atoms_of (plain_atoms atoms))
put_nameless [] i a b e r = absurd (cc)
put_nameless (x ∷ atoms) zero a b e r =
    let is : x ≡ a = some_is x a e in
    ap (λ c. More_atoms c (nameless (atoms_of (plain_atoms atoms)))) (r ∙ ap (λ c. nameless_atom (plain_atom c)) (sym is))
  where
    some_is : (a b : CodeAtom) → Some a ≡ Some b → a ≡ b
    some_is a b e = cc
put_nameless (x ∷ atoms) (suc i) a b e r = ap (More_atoms (nameless_atom (plain_atom x))) (put_nameless atoms i a b e r)

pub put_at : (atoms all done : List CodeAtom) (i k left z name : ℕ) (a b : CodeAtom) → i < length atoms → a ≡ get_or atoms i a → k ≡ length (names_of (take i atoms)) + left → IsSpot (At name) (names_in_atom (plain_atom a)) left → PutsAtom left z (plain_atom a) (plain_atom b) → all ≡ atoms → done ≡ slice_set all i b →
    Puts k z (atoms_of (plain_atoms atoms)) (atoms_of (plain_atoms done))
put_at atoms all done i k left z name a b h e n is p same set =
    let whole : done ≡ slice_set atoms i b = set ∙ ap (λ l. slice_set l i b) same in
    record {
      names = ap names_of whole ∙ put_names atoms i left z name a b (at_place atoms i a h e) is p ∙ ap (λ m. slice_set (names_of atoms) m z) (sym n);
      rest = ap (λ l. nameless (atoms_of (plain_atoms l))) whole ∙ put_nameless atoms i a b (at_place atoms i a h e) p.rest;
    }

-- one permission more without the place
pub put_next : (atoms : List CodeAtom) (i k left more : ℕ) (a : CodeAtom) → i < length atoms → a ≡ get_or atoms i a → k ≡ length (names_of (take i atoms)) + left → IsSpot (Past more) (names_in_atom (plain_atom a)) left → k ≡ length (names_of (take (i + 1) atoms)) + more
put_next atoms i k left more a h e n past = let count = counted atoms i a (at_place atoms i a h e) in omega (arith, n, past, count)
  where
    length_both : (xs ys : List ℕ) → length (xs ++ ys) ≡ length xs + length ys
    length_both [] ys = omega arith
    length_both (x ∷ xs) ys = let rest = length_both xs ys in omega (arith, rest)

    some_is : (a b : CodeAtom) → Some a ≡ Some b → a ≡ b
    some_is a b e = cc

    counted_suc : (atoms : List CodeAtom) (i : ℕ) (a : CodeAtom) → slice_get atoms i ≡ Some a → length (names_of (take (suc i) atoms)) ≡ length (names_of (take i atoms)) + length (names_in_atom (plain_atom a))
    counted_suc [] i a e = absurd (cc)
    counted_suc (x ∷ atoms) zero a e =
        let one : length (names_in_atom (plain_atom x)) ≡ length (names_in_atom (plain_atom a)) = ap (λ c. length (names_in_atom (plain_atom c))) (some_is x a e) in
        let both = length_both (names_in_atom (plain_atom x)) [] in
        let none : length (names_of []) ≡ 0 = refl in
        omega (arith, one, both, none)
    counted_suc (x ∷ atoms) (suc i) a e =
        let rest = counted_suc atoms i a e in
        let more = length_both (names_in_atom (plain_atom x)) (names_of (take (suc i) atoms)) in
        let fewer = length_both (names_in_atom (plain_atom x)) (names_of (take i atoms)) in
        omega (arith, rest, more, fewer)

    counted : (atoms : List CodeAtom) (i : ℕ) (a : CodeAtom) → slice_get atoms i ≡ Some a → length (names_of (take (i + 1) atoms)) ≡ length (names_of (take i atoms)) + length (names_in_atom (plain_atom a))
    counted atoms i a e = let n : i + 1 ≡ suc i = omega arith in ap (λ k. length (names_of (take k atoms))) n ∙ counted_suc atoms i a e

-- past the last permission nothing is changed
pub put_past : {E : Type 0} (atoms : List CodeAtom) (r : Result (List CodeAtom) E) (i k left z : ℕ) → length atoms ≤ i → k ≡ length (names_of (take i atoms)) + left → IfOk r (λ all. all ≡ atoms) → IfOk r (λ all. Puts k z (atoms_of (plain_atoms atoms)) (atoms_of (plain_atoms all)))
put_past atoms (Err e) i k left z h n same = tt
put_past atoms (Ok all) i k left z h n same =
    let whole : take i atoms ≡ atoms = take_whole atoms i h in
    let at : k ≡ length (names_of atoms) + left = n ∙ ap (λ l. length (names_of l) + left) whole in
    record {
      names = ap names_of same ∙ sym (ap (λ m. slice_set (names_of atoms) m z) at ∙ set_past (names_of atoms) left z);
      rest = ap (λ l. nameless (atoms_of (plain_atoms l))) same;
    }
  where
    take_whole : (xs : List CodeAtom) (i : ℕ) → length xs ≤ i → take i xs ≡ xs
    take_whole [] zero h = refl
    take_whole [] (suc i) h = refl
    take_whole (x ∷ xs) zero h = absurd (omega arith)
    take_whole (x ∷ xs) (suc i) h = ap (λ l. x ∷ l) (take_whole xs i (omega arith))

-- a name put into what a lock guards is put into the lock's type
pub put_lock : (atoms slice it : List CodeAtom) (ty : _) (k z : ℕ) → slice ≡ atoms → ty ≡ Lock atoms → Puts k z (atoms_of (plain_atoms slice)) (atoms_of (plain_atoms it)) → PutsType k z (plain_ty ty) (plain_ty (Lock it))
put_lock atoms slice it ty k z s t p =
    let is : plain_ty ty ≡ Lock_type (atoms_of (plain_atoms slice)) = ap plain_ty t ∙ plain_lock atoms ∙ ap (λ l. Lock_type (atoms_of (plain_atoms l))) (sym s) in
    record {
      names = ap names_in_type (plain_lock it) ∙ p.names ∙ ap (λ u. slice_set (names_in_type u) k z) (sym is);
      rest = ap nameless_type (plain_lock it) ∙ ap Lock_type p.rest ∙ ap nameless_type (sym is);
    }

-- a name put into a block's names
blank_set : (ys : List ℕ) (k z : ℕ) → map {B = Unit {0}} (λ _. tt) (slice_set ys k z) ≡ map (λ _. tt) ys
blank_set [] k z = refl
blank_set (y ∷ ys) zero z = refl
blank_set (y ∷ ys) (suc k) z = ap (λ l. tt ∷ l) (blank_set ys k z)

pub put_block : (fields names : List ℕ) (con k z : ℕ) (adopts : Option ℕ) (ty : _) → ty ≡ Block con fields adopts → names ≡ slice_set fields k z → PutsType k z (plain_ty ty) (Block_type con names adopts)
put_block fields names con k z adopts ty t e =
    let is : plain_ty ty ≡ Block_type con fields adopts = ap plain_ty t in
    record {
      names = e ∙ ap (λ u. slice_set (names_in_type u) k z) (sym is);
      rest = ap (λ l. Block_type con (map (λ _. tt) l) adopts) e ∙ ap (λ l. Block_type con l adopts) (blank_set fields k z) ∙ ap nameless_type (sym is);
    }

-- a lock's permission guards what its type does
pub lock_atom : (atom : CodeAtom) (name : ℕ) (ty : CodeTy) (atoms slice : List CodeAtom) → atom ≡ Has name ty → ty ≡ Lock atoms → slice ≡ atoms → plain_atom atom ≡ Has_atom name (Lock_type (atoms_of (plain_atoms slice)))
lock_atom atom name ty atoms slice a t s = ap plain_atom a ∙ ap (λ u. Has_atom name (plain_ty u)) t ∙ ap (Has_atom name) (plain_lock atoms) ∙ ap (λ l. Has_atom name (Lock_type (atoms_of (plain_atoms l)))) (sym s)
