-- The program of a proper tree without faults is scoped.
use Rattle.std.proofs.Common.{◌≡◌, ℕ, ◌+◌, ◌≤◌, Bool, true, false, ◌&&◌, ◌||◌, List, [], ◌∷◌, ◌++◌, map, length, Option, Some, refl, sym, ap, subst, ◌∙◌, arith, codes}
use Rattle.std.specs.Prelude.{◌==◌, option_map, flat_map, slice_get}
use Rattle.std.specs.List.{list_any, count_by}
use Rattle.std.specs.Str.{bytes_eq}
use Rattle.std.specs.Cmp.Lexicographic.{bytes_decides}
use Rattle.std.proofs.lemmas.Bool.{and_parts, and_from, eq-eqb}
use Rattle.std.proofs.lemmas.List.{length-map}
use Rattle.std.proofs.lemmas.List.Folds.{list_any-append}
use Rattle.std.proofs.lemmas.Option.{slice_get-map}
use Rattle.mz_tree.specs.Programs.{Variety, Con, Sig, Fun, Clause, Program}
use Rattle.mz_scope.specs.Syntax.{Declaration, Data_declaration, Sig_declaration, Fun_declaration}
use Rattle.mz_scope.specs.Names.{Names, find, globals_of, TypeEntry, TypeName, Data_name, Sig_name, type_names, ConEntry, FunEntry}
use Rattle.mz_scope.specs.Making.{Came, Came_to, nothing_made}
use Rattle.mz_scope.specs.Flattening.{flattened, program_in, flat_program, faults_in, faults_of}
use Rattle.mz_tree.specs.Main.{has_main, has_no_param}
use Rattle.mz_tree.specs.Scoped.{Each, AreApart, IsConOf, adopting_body, all_adopting, AreClauses, Scoped}
use Rattle.mz_scoped.proofs.Proper.{AllOf, IsProper}
use Rattle.mz_scoped.proofs.Grounds.{Grounds, pairs_of}
use Rattle.mz_scoped.proofs.Goes.{value_in, made_in}
use Rattle.mz_scoped.proofs.InOrder.{EachFrom, each_at, numbered_each, each_then, each_append, each_mapped, each_shifted, few_members, same_place}
use Rattle.mz_scoped.proofs.FirstNames.{find_some, names_apart, numbers_apart}
use Rattle.mz_scoped.proofs.AnyMember.{any_at, any_weaker, count_one}
use Rattle.mz_scoped.proofs.ScopedCons.{con_pairs, con_first}
use Rattle.mz_scoped.proofs.ScopedSigs.{pairs_of_sig}
use Rattle.mz_scoped.proofs.ScopedFuns.{fun_first}
use Rattle.mz_scoped.proofs.ScopedDeclared.{any_in, HasAll, VarietyIn, ConIn, SigIn, FunIn, Declared, declarations_go}
use Rattle.mz_scoped.proofs.TopLevel.{grounds_of, variety_cons}

-- the names of types count both sorts in order
positions_from : (d s : ℕ) (rest : List Declaration) → EachFrom (λ n (one : List ℕ × TypeEntry). one.1.position ≡ n) (d + s) (type_names d s rest)
positions_from d s [] = tt
positions_from d s (Data_declaration x ∷ rest) =
    let next : d + 1 + s ≡ d + s + 1 = omega arith in
    (refl, subst (λ n. EachFrom (λ n (one : List ℕ × TypeEntry). one.1.position ≡ n) n (type_names (d + 1) s rest)) next (positions_from (d + 1) s rest))
positions_from d s (Sig_declaration x ∷ rest) =
    let next : d + (s + 1) ≡ d + s + 1 = omega arith in
    (refl, subst (λ n. EachFrom (λ n (one : List ℕ × TypeEntry). one.1.position ≡ n) n (type_names d (s + 1) rest)) next (positions_from d (s + 1) rest))
positions_from d s (Fun_declaration x ∷ rest) = positions_from d s rest

-- ---- what adopts

-- three in one order
or_together : (a b c : Bool) → ((a || b) || c) ≡ (a || (b || c))
or_together true b c = refl
or_together false b c = refl

-- a pair is among those of the program where it is among those of a sort
any_adopting : (test : ℕ × ℕ → Bool) (p : Program) → list_any test (all_adopting p) ≡ any_in test p
any_adopting test p =
    let cons : List (ℕ × ℕ) = con_pairs p.cons in
    let sigs : List (ℕ × ℕ) = flat_map pairs_of_sig p.sigs in
    let funs : List (ℕ × ℕ) = flat_map (λ (f : Fun). adopting_body f.body) p.funs in
    list_any-append test (cons ++ sigs) funs
    ∙ ap (λ b. b || list_any test funs) (list_any-append test cons sigs)
    ∙ or_together (list_any test cons) (list_any test sigs) (list_any test funs)

-- whether this is the pair
abbrev is_pair : ℕ → ℕ → ℕ × ℕ → Bool
is_pair con d one = (one.0 == con) && (one.1 == d)

same_pair : (con d : ℕ) → is_pair con d (con, d) ≡ true
same_pair con d = and_from (con == con) (d == d) (eq-eqb con con refl) (eq-eqb d d refl)

-- the clauses have just the pairs of the program
clauses_are : (p : Program) → ((test : ℕ × ℕ → Bool) → list_any test (pairs_of p.clauses) ≡ any_in test p) → AreClauses p
clauses_are p same = record {
  written = λ k c at.
      let there : list_any (is_pair c.con c.adopts) (pairs_of p.clauses) ≡ true = any_at (is_pair c.con c.adopts) (pairs_of p.clauses) k (c.con, c.adopts) (slice_get-map (λ (c : Clause). (c.con, c.adopts)) p.clauses k ∙ ap (option_map (λ (c : Clause). (c.con, c.adopts))) at) (same_pair c.con c.adopts) in
      any_adopting (is_pair c.con c.adopts) p ∙ sym (same (is_pair c.con c.adopts)) ∙ there;
  all = λ k one at.
      let there : list_any (is_pair one.0 one.1) (all_adopting p) ≡ true = any_at (is_pair one.0 one.1) (all_adopting p) k one at (same_pair one.0 one.1) in
      same (is_pair one.0 one.1) ∙ sym (any_adopting (is_pair one.0 one.1) p) ∙ there;
}

-- ---- the function that is `main`

abbrev is_main : Fun → Bool
is_main f = bytes_eq f.name (codes "main")

-- some function is
main_there : (p : Program) → has_main p ≡ true → list_any is_main p.funs ≡ true
main_there p main = any_weaker (λ (f : Fun). is_main f && has_no_param (slice_get p.sigs f.sig)) is_main (λ f so. (and_parts (is_main f) (has_no_param (slice_get p.sigs f.sig)) so).0) p.funs main

-- and no other, since names of functions are apart
one_main_of : (p : Program) → has_main p ≡ true → AreApart (λ (f : Fun). f.name) p.funs → count_by is_main p.funs ≡ 1
one_main_of p main apart = count_one is_main p.funs (main_there p main) (λ j k a b at_a at_b so_a so_b. apart j k a b at_a at_b ((bytes_decides a.name (codes "main")).0 so_a ∙ sym ((bytes_decides b.name (codes "main")).0 so_b)))

-- ---- data types and signatures are one sort of name

-- the place of a data type, or of a signature behind so many data types
abbrev place_of : ℕ → TypeName → ℕ
place_of count (Data_name d) = d
place_of count (Sig_name s) = count + s

module _ (tree : List Declaration) (p : Program) (grounds : Grounds p (globals_of tree)) (q : Program) (declared : Declared p (globals_of tree) grounds 0 0 0 0 tree q) where
  -- what a name stands for, by that place
  type_place : List ℕ → Option ℕ
  type_place name = option_map (λ (t : TypeEntry). place_of (length q.varieties) t.stands_for) (find (globals_of tree).types name)

  IsPlace : ℕ → List ℕ → Type 0
  IsPlace k name = type_place name ≡ Some k

  -- so they are apart
  types_are_apart : AreApart (λ name. name) (map (λ (v : Variety). v.name) q.varieties ++ map (λ (s : Sig). s.name) q.sigs)
  unfolding type_place IsPlace
  types_are_apart =
      let names : List (List ℕ) = map (λ (v : Variety). v.name) q.varieties in
      let first : EachFrom IsPlace 0 names = each_mapped IsPlace (λ (v : Variety). v.name) 0 q.varieties (each_then (VarietyIn p (globals_of tree) grounds) (λ k (v : Variety). IsPlace k v.name) (λ k v is. ap (option_map (λ (t : TypeEntry). place_of (length q.varieties) t.stands_for)) is.1.found) 0 q.varieties declared.varieties) in
      let behind : EachFrom (λ k (s : Sig). IsPlace k s.name) (length q.varieties + 0) q.sigs = each_shifted (λ k (s : Sig). IsPlace k s.name) (length q.varieties) 0 q.sigs (each_then (SigIn p (globals_of tree) grounds) (λ k (s : Sig). IsPlace (length q.varieties + k) s.name) (λ k s is. ap (option_map (λ (t : TypeEntry). place_of (length q.varieties) t.stands_for)) is.1.found) 0 q.sigs declared.sigs) in
      let long : length names ≡ length q.varieties = length-map q.varieties (λ (v : Variety). v.name) in
      let here : length q.varieties + 0 ≡ 0 + length names = omega (arith, long) in
      let later : EachFrom IsPlace (0 + length names) (map (λ (s : Sig). s.name) q.sigs) = each_mapped IsPlace (λ (s : Sig). s.name) (0 + length names) q.sigs (subst (λ n. EachFrom (λ k (s : Sig). IsPlace k s.name) n q.sigs) here behind) in
      let all : List (List ℕ) = names ++ map (λ (s : Sig). s.name) q.sigs in
      numbers_apart (λ name. name) type_place all (each_at IsPlace all (each_append IsPlace 0 names (map (λ (s : Sig). s.name) q.sigs) first later))

  -- ---- constructors, and functions

  cons_are_apart : AreApart (λ (c : Con). c.name) q.cons
  cons_are_apart = names_apart (λ (c : Con). c.name) (con_first (globals_of tree)) q.cons
      (λ k c at.
      let there : _ = same_place (λ (c : Con). c.name) (λ (one : List ℕ × ConEntry). one.0) q.cons (globals_of tree).cons declared.con_words k c at in
      let found : _ = find_some (globals_of tree).cons k there.0 there.1 in
      (found.0.number, ap (con_first (globals_of tree)) there.2 ∙ ap (option_map (λ (c : ConEntry). c.number)) found.1))
      (λ k c at. (each_at (ConIn p (globals_of tree) grounds) q.cons declared.cons k c at).1.0)

  funs_are_apart : AreApart (λ (f : Fun). f.name) q.funs
  funs_are_apart = names_apart (λ (f : Fun). f.name) (fun_first (globals_of tree)) q.funs
      (λ k f at.
      let there : _ = same_place (λ (f : Fun). f.name) (λ (one : List ℕ × FunEntry). one.0) q.funs (globals_of tree).funs declared.fun_words k f at in
      let found : _ = find_some (globals_of tree).funs k there.0 there.1 in
      (found.0.number, ap (fun_first (globals_of tree)) there.2 ∙ ap (option_map (λ (one : FunEntry). one.number)) found.1))
      (λ k f at. (each_at (FunIn p (globals_of tree) grounds) q.funs declared.funs k f at).1.0)

-- ---- the whole

-- all that a scoped program is
finish : (tree : List Declaration) (c : Came Program) (grounds : Grounds (program_in c) (globals_of tree))
    → ((d : ℕ) (v : Variety) → slice_get (program_in c).varieties d ≡ Some v → Each (λ _ con. IsConOf (program_in c) d con) v.cons × ((con : ℕ) → IsConOf (program_in c) d con → count_by (λ k. k == con) v.cons ≡ 1))
    → Declared (program_in c) (globals_of tree) grounds 0 0 0 0 tree (value_in c) → HasAll [] (value_in c) (made_in c) → has_main (program_in c) ≡ true → Scoped (program_in c)
finish tree (Came_to q made) grounds cons_of declared pairs main =
    let p : Program = record q { clauses = made.clauses } in
    let start : 0 + 0 ≤ 1000 = omega arith in
    let few : 0 + 0 + (length q.varieties + length q.sigs) ≤ 1000 = declared.few start in
    record {
      varieties = λ d v at.
          let is : _ = each_at (VarietyIn p (globals_of tree) grounds) q.varieties declared.varieties d v at in
          let cons : _ = cons_of d v at in
          record { name = is.0.name; adopts = is.0.adopts; some = is.0.some; only = cons.0; once = cons.1 };
      cons = λ k c at. (each_at (ConIn p (globals_of tree) grounds) q.cons declared.cons k c at).0;
      sigs = λ s one at. (each_at (SigIn p (globals_of tree) grounds) q.sigs declared.sigs s one at).0;
      funs = λ f one at. (each_at (FunIn p (globals_of tree) grounds) q.funs declared.funs f one at).0 declared.counts;
      clauses = clauses_are p pairs;
      types_apart = types_are_apart tree p grounds q declared;
      cons_apart = cons_are_apart tree p grounds q declared;
      one_main = one_main_of p main (funs_are_apart tree p grounds q declared);
      begins = main;
      few_types = omega (arith, few);
      few_cons = few_members (ConIn p (globals_of tree) grounds) 1000 (λ k c is. is.1.1) q.cons declared.cons;
      few_funs = few_members (FunIn p (globals_of tree) grounds) 1000 (λ k f is. is.1.1) q.funs declared.funs;
    }

-- no fault at the end
same_faults : (c : Came Program) → faults_in c ≡ [] → (made_in c).faults ≡ []
same_faults (Came_to p made) none = none

-- a proper tree without faults, that has a `main`
pub scoped_of : (tree : List Declaration) → AllOf IsProper tree → faults_of tree ≡ [] → has_main (flat_program tree) ≡ true → Scoped (flat_program tree)
scoped_of tree proper none main =
    let p : Program = flat_program tree in
    let grounds : Grounds p (globals_of tree) = grounds_of tree none in
    let types : Names TypeEntry = (globals_of tree).types in
    let positions : Each (λ n (one : List ℕ × TypeEntry). one.1.position ≡ n) types = each_at (λ n (one : List ℕ × TypeEntry). one.1.position ≡ n) types (positions_from 0 0 tree) in
    let in_order : EachFrom (λ k (one : List ℕ × TypeEntry). slice_get types k ≡ Some one) (0 + 0) types = numbered_each (λ k (one : List ℕ × TypeEntry). slice_get types k ≡ Some one) types (λ k one at. at) in
    let end : _ = (declarations_go p (globals_of tree) grounds positions 0 0 0 0 tree proper in_order []).leads nothing_made (same_faults (flattened tree) none) refl in
    finish tree (flattened tree) grounds (variety_cons tree) end.0 end.1 main
