-- Signatures that are declared without a fault.
use Rattle.std.proofs.Common.{◌≡◌, ℕ, suc, ◌+◌, ◌<◌, ◌≤◌, false, List, [], ◌∷◌, ◌++◌, map, length, Option, refl, sym, ap, ◌∙◌, arith, append_assoc}
use Rattle.std.proofs.lemmas.List.{append-nil, length-map}
use Rattle.std.proofs.lemmas.Grind.{flat_map-append}
use Rattle.std.specs.Prelude.{◌==◌, option_map, flat_map}
use Rattle.mz_tree.specs.Plain.{Atom}
use Rattle.mz_tree.specs.Programs.{Need, Sig, Program}
use Rattle.mz_scope.specs.Syntax.{Word, AtomTrees, ParamTree, NeedTree, SigTree}
use Rattle.mz_scope.specs.Names.{Names, find, Globals, TypeEntry}
use Rattle.mz_scope.specs.Types.{flat_typed, flat_atom, flat_atoms}
use Rattle.mz_scope.specs.Declarations.{is_other, params_of, all_of, params_from, needs_of, signature}
use Rattle.mz_tree.specs.Scoped.{names_below, IsAtomWithin, AreAtomsWithin, adopting_atom, adopting_atoms, IsSig}
use Rattle.mz_scoped.proofs.Proper.{AllOf, IsProperType, IsProperAtom, AreProperAtoms, IsProperSig}
use Rattle.mz_scoped.proofs.Grounds.{Grounds, AreIn}
use Rattle.mz_scoped.proofs.Goes.{Goes, first_then, first_and, weakened, framed, given, not_so}
use Rattle.mz_scoped.proofs.EachMember.{each_more}
use Rattle.mz_scoped.proofs.TopLists.{all_together, all_at}
use Rattle.mz_scoped.proofs.InOrder.{EachFrom, few_members, from_all}
use Rattle.mz_scoped.proofs.FirstNames.{IsNew, declares_goes}
use Rattle.mz_scoped.proofs.AddedPairs.{HasPairs, paired}
use Rattle.mz_scoped.proofs.BoundBelow.{bound_below, words_in, words_and_last}
use Rattle.mz_scoped.proofs.ScopedTypes.{typed_goes, atom_goes, atoms_goes}

-- what structural types adopt of what is needed
abbrev pub need_pairs : List Need → List (ℕ × ℕ)
need_pairs needs = flat_map (λ (n : Need). adopting_atom n.atom) needs

-- and of a signature
abbrev pub pairs_of_sig : Sig → List (ℕ × ℕ)
pairs_of_sig s = flat_map (λ (n : Need). adopting_atom n.atom) s.needs ++ adopting_atoms s.gives

-- the place, among those of data types and signatures, of what a name stands for
abbrev pub type_first : Globals → List ℕ → Option ℕ
type_first g name = option_map (λ (t : TypeEntry). t.position) (find g.types name)

-- what is needed, and what is given, in the order in which it is written
pairs_together : (some params needs first gives : List (ℕ × ℕ)) → some ++ params ++ needs ++ first ++ gives ≡ some ++ (params ++ needs ++ (first ++ gives))
pairs_together some params needs first gives =
    append_assoc (some ++ params ++ needs) first gives
    ∙ ap (λ l. l ++ (first ++ gives)) (append_assoc some params needs)
    ∙ append_assoc some (params ++ needs) (first ++ gives)

module _ (p : Program) (g : Globals) (grounds : Grounds p g) where
  -- what is needed for parameters, from number i on
  pub record ParamsDone (count i : ℕ) (rest : List ParamTree) (needs : List Need) : Type 0 where
    pub each : EachFrom (λ k (n : Need). IsAtomWithin p 200 (names_below count) n.atom × ((k == 32) ≡ false)) i needs
    pub long : length needs ≡ length rest

  -- parameters without a fault
  params_go : (count : ℕ) (scope : Names ℕ) → AreIn (names_below count) scope → (i : ℕ) (rest : List ParamTree) → AllOf (λ (x : ParamTree). IsProperType 200 x.ty) rest → i + length rest ≤ count → (some : List (ℕ × ℕ))
      → Goes (HasPairs some) (params_from g scope i rest) (λ needs m. ParamsDone count i rest needs × HasPairs (some ++ need_pairs needs) m)
  params_go count scope are i [] proper within some = given [] (λ m before. (record { each = tt; long = refl }, before ∙ sym (append-nil some)))
  params_go count scope are i (x ∷ rest) proper within some =
      let here : i < count = omega (arith, within) in
      let later : i + 1 + length rest ≤ count = omega (arith, within) in
      let new : Type 0 = IsNew (find scope x.name.text) i 32 in
      first_and _ _ (declares_goes (find scope x.name.text) i 32 x.name)
      (first_then _ _ (framed new (paired (flat_typed g scope i x.ty) some (typed_goes p g grounds scope (names_below count) are i (bound_below count i here) 200 x.ty proper.0)))
      (λ a. first_then _ _ (framed new (framed (IsAtomWithin p 200 (names_below count) a) (params_go count scope are (i + 1) rest proper.1 later (some ++ adopting_atom a))))
      (λ others. given (record { atom = a; consumed = x.consumed } ∷ others) (λ m q. (
        record {
          each = ((q.1.0, q.0.1), q.1.1.0.each);
          long = ap suc q.1.1.0.long;
        },
        q.1.1.1 ∙ append_assoc some (adopting_atom a) (need_pairs others),
      )))))

  -- what else is needed
  needs_go : (count : ℕ) (scope : Names ℕ) → AreIn (names_below count) scope → (rest : List NeedTree) → AllOf (λ (x : NeedTree). IsProperAtom 200 x.atom) rest → (some : List (ℕ × ℕ))
      → Goes (HasPairs some) (needs_of g scope rest) (λ needs m. AllOf (λ (n : Need). IsAtomWithin p 200 (names_below count) n.atom) needs × HasPairs (some ++ need_pairs needs) m)
  needs_go count scope are [] proper some = given [] (λ m before. (tt, before ∙ sym (append-nil some)))
  needs_go count scope are (x ∷ rest) proper some =
      first_then _ _ (paired (flat_atom g scope x.atom) some (atom_goes p g grounds scope (names_below count) are 200 x.atom proper.0))
      (λ a. first_then _ _ (framed (IsAtomWithin p 200 (names_below count) a) (needs_go count scope are rest proper.1 (some ++ adopting_atom a)))
      (λ others. given (record { atom = a; consumed = x.consumed } ∷ others) (λ m q. (
        (q.0, q.1.0),
        q.1.1 ∙ append_assoc some (adopting_atom a) (need_pairs others),
      ))))

  -- what is given
  gives_go : (count : ℕ) (scope : Names ℕ) → AreIn (names_below count) scope → (all : AtomTrees) → AreProperAtoms 200 all → (some : List (ℕ × ℕ))
      → Goes (HasPairs some) (flat_atoms g scope all) (λ atoms m. AreAtomsWithin p 200 (names_below count) atoms × HasPairs (some ++ adopting_atoms atoms) m)
  gives_go count scope are all proper some =
      paired (flat_atoms g scope all) some (λ old. weakened (λ m same. same) (λ atoms m q. (q.0, q.2)) (atoms_goes p g grounds scope (names_below count) are 200 all proper old))

  -- a signature that is the n-th of data types and signatures
  pub record SigDone (n : ℕ) (x : SigTree) (s : Sig) : Type 0 where
    pub is : IsSig p s
    pub new : IsNew (type_first g x.name.text) n 1000
    pub name : s.name ≡ x.name.text
    pub count : s.count ≡ length x.params

  -- its parts make a signature
  sig_is : (x : SigTree) → IsProperSig x → (of_params others : List Need) (a : Atom ℕ) (gives : List (Atom ℕ)) → ParamsDone (length x.params) 0 x.params of_params → AllOf (λ (n : Need). IsAtomWithin p 200 (names_below (length x.params)) n.atom) others
      → IsAtomWithin p 200 (names_below (length x.params + 1)) a → AreAtomsWithin p 200 (names_below (length x.params + 1)) gives → IsSig p (record { name = x.name.text; count = length x.params; needs = of_params ++ others; gives = a ∷ gives })
  sig_is x proper of_params others a gives params needs first more =
      let fits : Need → Type 0 = λ (n : Need). IsAtomWithin p 200 (names_below (length x.params)) n.atom in
      let with_number : ℕ → Need → Type 0 = λ k (n : Need). fits n × ((k == 32) ≡ false) in
      let few : length of_params ≤ 32 = few_members with_number 32 (λ k n is. is.1) of_params params.each in
      let long : length of_params ≡ length x.params = params.long in
      record {
        name = proper.0;
        needs = λ k n at. all_at fits (of_params ++ others) k n (all_together fits of_params others (from_all with_number fits (λ k n is. is.0) 0 of_params params.each) needs) at;
        gives = each_more (IsAtomWithin p 200 (names_below (length x.params + 1))) a gives first more;
        few = omega (arith, few, long);
      }

  -- a signature without a fault
  pub sig_goes : (n : ℕ) (x : SigTree) → IsProperSig x → (some : List (ℕ × ℕ)) → Goes (HasPairs some) (signature g n x) (λ s m. SigDone n x s × HasPairs (some ++ pairs_of_sig s) m)
  sig_goes n x proper some =
      let words : List Word = map (λ (q : ParamTree). q.name) x.params in
      let count : ℕ = length x.params in
      let few : length words ≤ count = omega (arith, length-map x.params (λ (q : ParamTree). q.name)) in
      let within : 0 + length x.params ≤ count = omega arith in
      let last : count < count + 1 = omega arith in
      let new : Type 0 = IsNew (type_first g x.name.text) n 1000 in
      let scope_in : AreIn (names_below count) (params_of x) = words_in count words few in
      let all_in : AreIn (names_below (count + 1)) (all_of x) = words_and_last count words x.result.text few in
      first_and _ _ (declares_goes (type_first g x.name.text) n 1000 x.name)
      (first_then _ _ (framed new (params_go count (params_of x) scope_in 0 x.params proper.1 within some))
      (λ of_params. first_then _ _ (framed new (framed (ParamsDone count 0 x.params of_params) (needs_go count (params_of x) scope_in x.needs proper.2 (some ++ need_pairs of_params))))
      (λ others.
      let before : Type 0 = AllOf (λ (n : Need). IsAtomWithin p 200 (names_below count) n.atom) others in
      let pairs : List (ℕ × ℕ) = some ++ need_pairs of_params ++ need_pairs others in
      first_and _ _ (weakened (λ m q. q) (λ _ m q. q.1) (not_so (is_other (find (all_of x) x.result.text) (length x.params)) _ x.result.place))
      (first_then _ _ (framed new (framed (ParamsDone count 0 x.params of_params) (framed before (paired (flat_typed g (all_of x) count x.ty) pairs (typed_goes p g grounds (all_of x) (names_below (count + 1)) all_in count (bound_below (count + 1) count last) 200 x.ty proper.3)))))
      (λ a. first_then _ _ (framed new (framed (ParamsDone count 0 x.params of_params) (framed before (framed (IsAtomWithin p 200 (names_below (count + 1)) a) (gives_go (count + 1) (all_of x) all_in x.gives proper.4 (pairs ++ adopting_atom a))))))
      (λ gives. given (record { name = x.name.text; count = length x.params; needs = of_params ++ others; gives = a ∷ gives }) (λ m q. (
        record { is = sig_is x proper of_params others a gives q.1.0 q.1.1.0 q.1.1.1.0 q.1.1.1.1.0; new = q.0; name = refl; count = refl },
        q.1.1.1.1.1
            ∙ pairs_together some (need_pairs of_params) (need_pairs others) (adopting_atom a) (adopting_atoms gives)
            ∙ ap (λ l. some ++ (l ++ (adopting_atom a ++ adopting_atoms gives))) (sym (flat_map-append (λ (n : Need). adopting_atom n.atom) of_params others)),
      ))))))))
