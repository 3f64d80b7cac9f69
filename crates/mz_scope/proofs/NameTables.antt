-- Maps from names, by the bytes of the names.
use Rattle.std.proofs.Common.{◌≡◌, ℕ, Bool, true, false, if◌then◌else◌, List, Option, Some, None, refl, sym, ap, subst, ◌∙◌, is_some, true≢false}
use Rattle.std.specs.Prelude.{Vec}
use Rattle.std.specs.Ordering.{nat_cmp, is_eq}
use Rattle.std.specs.Cmp.{eq_by_cmp_equiv}
use Rattle.std.specs.Cmp.Lexicographic.{slice_cmp, bytes_decides, nat_list_cmp_total, nat_list_eq_equiv}
use Rattle.std.specs.Str.{bytes_eq}
use Rattle.std.specs.Option.{option_or}
use Rattle.std.specs.BTreeMap.{BTreeMap, UpdatesBy}
use Rattle.std.specs.Map.{lookup, IsKeyTest, AreApart, KeepsOthers}
use Rattle.std.proofs.lemmas.Map.Text.{is_eq-slice_cmp}
use Rattle.mz_scope.specs.NameMaps.{found, Adds, Sets}

-- what an update keeps for other queries
kept : {K X : Type 0} (eq : K → K → Bool) (test : K → Bool) (old new : List (K × X)) → KeepsOthers eq test old new → (other : K → Bool) → IsKeyTest eq other → AreApart test other → lookup other new ≡ lookup other old
unfolding KeepsOthers
kept eq test old new h = h

-- what is in order with one text isn't with another
apart_in_order : (one other text : List ℕ) → bytes_eq one other ≡ false → is_eq (slice_cmp nat_cmp one text) ≡ true → is_eq (slice_cmp nat_cmp other text) ≡ false
apart_in_order one other text differs same =
    is_eq-slice_cmp other text ∙ nat_list_eq_equiv.symm other text ∙ sym (nat_list_eq_equiv.congr one text other (sym (is_eq-slice_cmp one text) ∙ same)) ∙ differs

-- what isn't there
pub none_is : {A : Type 0} (o : Option A) → is_some o ≡ false → o ≡ None
none_is None h = refl
none_is (Some a) h = absurd (true≢false h)

-- the first of two, where there is no second
or_none : {A : Type 0} (o : Option A) → o ≡ option_or o None
or_none None = refl
or_none (Some a) = refl

module _ {A Y : Type 0} where
  module _ (old new : BTreeMap (Vec ℕ Y) A) (name : List ℕ) (value : A) where
    -- a name gets this, and the others keep what they have
    pub sets : UpdatesBy (λ x y. slice_cmp nat_cmp x.items y.items) (λ key. slice_cmp nat_cmp name key.items) old new (Some value) → Sets old name value new
    sets updates other = by (bytes_eq name other) refl
      where
        by : (b : Bool) → bytes_eq name other ≡ b → found new other ≡ (if b then Some value else found old other)
        by true same = subst (λ n. found new n ≡ Some value) ((bytes_decides name other).0 same) updates.1
        by false differs = kept _ _ _ _ updates.3 _ (λ x y. (eq_by_cmp_equiv nat_list_cmp_total).congr other x.items y.items) (λ k. apart_in_order name other k.items differs)

    -- a name that had nothing gets this
    pub adds_new : found old name ≡ None → UpdatesBy (λ x y. slice_cmp nat_cmp x.items y.items) (λ key. slice_cmp nat_cmp name key.items) old new (Some value) → Adds old name value new
    adds_new none updates other = by (bytes_eq name other) refl
      where
        by : (b : Bool) → bytes_eq name other ≡ b → found new other ≡ option_or (found old other) (if b then Some value else None)
        by true same = subst (λ n. found new n ≡ option_or (found old n) (Some value)) ((bytes_decides name other).0 same) (updates.1 ∙ ap (λ o. option_or o (Some value)) (sym none))
        by false differs = kept _ _ _ _ updates.3 _ (λ x y. (eq_by_cmp_equiv nat_list_cmp_total).congr other x.items y.items) (λ k. apart_in_order name other k.items differs) ∙ or_none (found old other)

    -- a name that has something keeps it, as the others do
    pub adds_nothing : (a : A) → found old name ≡ Some a → Adds old name value old
    adds_nothing a some other = by (bytes_eq name other) refl
      where
        by : (b : Bool) → bytes_eq name other ≡ b → found old other ≡ option_or (found old other) (if b then Some value else None)
        by true same = subst (λ n. found old n ≡ option_or (found old n) (Some value)) ((bytes_decides name other).0 same) (some ∙ ap (λ o. option_or o (Some value)) (sym some))
        by false differs = or_none (found old other)

-- what isn't anything isn't there
pub none_some : {A : Type 0} (o : Option A) → ((a : A) → o ≡ Some a → ⊥) → o ≡ None
none_some None other = refl
none_some (Some a) other = absurd (other a refl)
