-- Two readers that read inside a bracket what both of them read: brackets in brackets, each layer reads what it should.
use Rattle.std.proofs.Common.{◌≡◌, ℕ, zero, suc, List, Option, sym, subst}
use Rattle.mz_grammar.specs.Reading.{Read}
use Rattle.mz_grammar.specs.Brackets.{Turn}
use Rattle.mz_grammar.specs.Readers.{Reads}

module _ {T A B : Type 0} (turn : T → Turn) (U : List T → A → Type 0) (V : List T → B → Type 0) (F G : Option T → Type 0) where
  -- how what stands inside a bracket is read, where one of these brackets is counted
  abbrev pub ReadsInside : ℕ → (List T → Read T A) × (List T → Read T B) → Type 0
  ReadsInside d inner = ((e : ℕ) → d ≡ suc e → Reads turn inner.0 U F e e) × ((e : ℕ) → d ≡ suc e → Reads turn inner.1 V G e e)

  module _ (one : ℕ → (List T → Read T A) × (List T → Read T B) → List T → Read T A) (other : ℕ → (List T → Read T A) × (List T → Read T B) → List T → Read T B)
      (K : (d : ℕ) (inner : (List T → Read T A) × (List T → Read T B)) → ReadsInside d inner → Reads turn (one d inner) U F d d)
      (L : (d : ℕ) (inner : (List T → Read T A) × (List T → Read T B)) → ReadsInside d inner → Reads turn (other d inner) V G d d)
      (within : ℕ → (List T → Read T A) × (List T → Read T B)) (next : (d : ℕ) → within (suc d) ≡ (one d (within d), other d (within d))) where
    -- one bracket more
    reads_next : (d : ℕ) → ReadsInside d (within d) → ReadsInside (suc d) (one d (within d), other d (within d))
    reads_next d I = (
      (λ e h. let same : e ≡ d = cc in subst (λ (n : ℕ). Reads turn (one d (within d)) U F n n) (sym same) (K d (within d) I)),
      (λ e h. let same : e ≡ d = cc in subst (λ (n : ℕ). Reads turn (other d (within d)) V G n n) (sym same) (L d (within d) I)),
    )

    -- without a bracket nothing is asked, and else the layers inside have one less
    pub reads_inside : (d : ℕ) → ReadsInside d (within d)
    reads_inside zero = ((λ e h. cc), (λ e h. cc))
    reads_inside (suc d) = subst (ReadsInside (suc d)) (sym (next d)) (reads_next d (reads_inside d))
