-- The cases of a match name each constructor of its data type once, and no other.
use Rattle.std.proofs.Common.{◌≡◌, ◌≢◌, ℕ, ◌==◌, ◌<◌, Bool, true, false, not, ◌&&◌, List, [], ◌∷◌, length, Option, Some, slice_get, option_map, refl, sym, ap, ◌∙◌, subst, arith}
use Rattle.std.proofs.lemmas.Bool.{not-false, or_parts}
use Rattle.std.proofs.lemmas.Bool.Decides.{Decides-eqb}
use Rattle.std.proofs.lemmas.Option.{slice_get_within}
use Rattle.mz_tree.specs.Programs.{Con, Program}
use Rattle.mz_scope.specs.Syntax.{Arms, No_arms, More_arms}
use Rattle.mz_scope.specs.Names.{find, Globals, ConEntry}
use Rattle.mz_scope.specs.Bodies.{is_number_among, lacks_one, with_number, match_data, arm_cons, is_misplaced, lacks_a_case}
use Rattle.mz_tree.specs.Scoped.{IsConOf, AreAll}
use Rattle.mz_scoped.proofs.Proper.{AllOf}
use Rattle.mz_scoped.proofs.Grounds.{IsEntry, Grounds}
use Rattle.mz_scoped.proofs.Numbers.{none_passes, IsOnce, once_more, just_once}
use Rattle.mz_scoped.proofs.TopLists.{all_at, stands}

-- a first test holds and both don't, so the second doesn't
second_fails : (a b : Bool) → a ≡ true → (a && not b) ≡ false → b ≡ true
second_fails true b holds both = not-false b both
second_fails false b holds both = cc

-- the constructor of a case that is well placed
well_placed : (d : ℕ) (earlier : List ℕ) (c : ConEntry) → is_misplaced (Some d) earlier (Some c) ≡ false → (d ≡ c.variety) × (is_number_among earlier c.number ≡ false)
well_placed d earlier c well =
    let parts = or_parts (not (d == c.variety)) (is_number_among earlier c.number) well in
    ((Decides-eqb d c.variety).0 (not-false (d == c.variety) parts.0), parts.1)

module _ (p : Program) (g : Globals) where
  -- each constructor is declared, of data type d and named by no case before
  abbrev pub AreWellPlaced : Option ℕ → List ℕ → Arms → Type 0
  AreWellPlaced d earlier No_arms = Unit {0}
  AreWellPlaced d earlier (More_arms name block rest) = (c : ConEntry) × (find g.cons name.text ≡ Some c) × IsEntry p c × (is_misplaced d earlier (Some c) ≡ false) × AreWellPlaced d (with_number earlier (Some c)) rest

  -- the cases name constructors of the data type alone
  all_of : (d : ℕ) (earlier : List ℕ) (arms : Arms) → AreWellPlaced (Some d) earlier arms → AllOf (IsConOf p d) (arm_cons g arms)
  all_of d earlier No_arms placed = tt
  all_of d earlier (More_arms name block rest) (c, found, entry, well, more) =
      let here : IsConOf p d c.number = subst (λ v. IsConOf p v c.number) (sym (well_placed d earlier c well).0) entry.variety in
      subst (λ o. AllOf (IsConOf p d) (with_number (arm_cons g rest) o)) (sym found) (here, all_of d (c.number ∷ earlier) rest more)

  -- and none twice
  once_in : (n d : ℕ) (earlier : List ℕ) (arms : Arms) → AreWellPlaced (Some d) earlier arms → IsOnce n earlier (arm_cons g arms)
  once_in n d earlier No_arms placed = (λ is. refl, omega arith)
  once_in n d earlier (More_arms name block rest) (c, found, entry, well, more) =
      subst (λ o. IsOnce n earlier (with_number (arm_cons g rest) o)) (sym found)
      (once_more n c.number earlier (arm_cons g rest) (well_placed d earlier c well).1 (once_in n d (c.number ∷ earlier) rest more))

module _ (p : Program) (g : Globals) (grounds : Grounds p g) where
  -- a constructor of the program that has this entry is of its data type
  variety_is : (d con : ℕ) (c : ConEntry) → c.number ≡ con → IsEntry p c → IsConOf p d con → c.variety ≡ d
  variety_is d con c number entry is =
      let found : Some entry.variety.found ≡ Some is.found = sym entry.variety.declared ∙ ap (slice_get p.cons) number ∙ is.declared in
      let same : entry.variety.found ≡ is.found = cc in
      sym entry.variety.same ∙ ap (λ (x : Con). x.variety) same ∙ is.same

  -- where none is lacking, each constructor of the data type is named
  none_lacks : (d : ℕ) (named : List ℕ) → lacks_one g (Some d) named ≡ false → (con : ℕ) → IsConOf p d con → is_number_among named con ≡ true
  none_lacks d named none con is =
      let within : con < length p.cons = slice_get_within p.cons con is.found is.declared in
      let at = stands g.cons con (omega (arith, within, grounds.all)) in
      let one = at.member in
      let own = grounds.cons con one at.there in
      let variety : one.1.variety ≡ d = variety_is d con one.1 own.0 own.1 is in
      let both = none_passes (λ (c : List ℕ × ConEntry). (c.1.variety == d) && not (is_number_among named c.1.number)) g.cons con one none at.there in
      subst (λ n. is_number_among named n ≡ true) own.0 (second_fails (one.1.variety == d) (is_number_among named one.1.number) ((Decides-eqb one.1.variety d).1 variety) both)

  cases_all : (d : ℕ) (arms : Arms) → lacks_one g (Some d) (arm_cons g arms) ≡ false → AreWellPlaced p g (Some d) [] arms → AreAll p d (arm_cons g arms)
  cases_all d arms none placed = record {
    only = λ k con at. all_at (IsConOf p d) (arm_cons g arms) k con (all_of p g d [] arms placed) at;
    once = λ con is. just_once con (arm_cons g arms) (none_lacks d (arm_cons g arms) none con is) (once_in p g con d [] arms placed).1;
  }

  -- the cases of a match without a fault
  pub arms_all : (arms : Arms) → arms ≢ No_arms → lacks_a_case g arms ≡ false → AreWellPlaced p g (match_data g arms) [] arms → (d : ℕ) × (match_data g arms ≡ Some d) × (d < length p.varieties) × AreAll p d (arm_cons g arms)
  arms_all No_arms some none placed = absurd (some refl)
  arms_all (More_arms name block rest) some none placed =
      let c : ConEntry = placed.0 in
      let arms : Arms = More_arms name block rest in
      let d_is : match_data g arms ≡ Some c.variety = ap (option_map (λ (e : ConEntry). e.variety)) placed.1 in
      (c.variety, d_is, placed.2.within, cases_all c.variety arms (subst (λ o. lacks_one g o (arm_cons g arms) ≡ false) d_is none) (subst (λ o. AreWellPlaced p g o [] arms) d_is placed))
