-- One cell of the heap changes: what that does to what is seen.
use Rattle.std.proofs.Common.{◌≡◌, ◌≢◌, inl, inr, ℕ, ◌<◌, Bool, true, false, List, Option, Some, None, sym, ◌∙◌, subst}
use Rattle.std.proofs.lemmas.Bool.{cases_eq}
use Rattle.mz_tree.specs.Plain.{Atoms}
use Rattle.mz_decl.specs.Declarations.{Decls}
use Rattle.mz_modes.specs.Affine.{IsMutableCon}
use Rattle.mz_named.specs.Configurations.{Value, Cell, Block_cell, Lock_cell}
use Rattle.mz_named.specs.Bodies.{Puts}
use Rattle.mz_named.specs.Operations.{IsBlock}
use Rattle.mz_resource.specs.Meaning.{Owned, Sight}
use Rattle.mz_resource.proofs.Facts.{none_some}
use Rattle.mz_resource.proofs.Meaning.Staying.{Stays}

pub block_lock : {o : Option Cell} {c : ℕ} {a : Option ℕ} {vs : List Value} {t : Bool} → o ≡ Some (Block_cell c a vs) → o ≡ Some (Lock_cell t) → ⊥
block_lock e f = absurd (cc)

pub lock_lock : {o : Option Cell} → o ≡ Some (Lock_cell true) → o ≡ Some (Lock_cell false) → ⊥
lock_lock e f = absurd (cc)

pub block_some : {o : Option Cell} {c d : ℕ} {y : ℕ} {vs us : List Value} → o ≡ Some (Block_cell c None vs) → o ≡ Some (Block_cell d (Some y) us) → ⊥
block_some e f = absurd (cc)

-- what happens to the cell that changes, for an owner of these
pub record PutStays (D : Decls) (S S' : Sight) (b : ℕ) (f : Owned) : Type 0 where
  pub fixed : (con : ℕ) (vs : List Value) → (IsMutableCon D con → ⊥) → IsBlock S.at b con vs → IsBlock S'.at b con vs
  pub made : (con : ℕ) (vs : List Value) → IsBlock S.at b con vs → (con' : ℕ) × (vs' : List Value) × IsBlock S'.at b con' vs'
  pub owned : (con : ℕ) (vs : List Value) → 0 < f b → IsBlock S.at b con vs → IsBlock S'.at b con vs × (S'.clause b ≡ S.clause b)
  pub locked : 0 < f b → S.at b ≡ Some (Lock_cell true) → S'.at b ≡ Some (Lock_cell true)

module _ (D : Decls) (S S' : Sight) (b : ℕ) (cell : Cell) (puts : Puts S.at b cell S'.at) (clauses : (m : ℕ) → m ≢ b → S'.clause m ≡ S.clause m) (hides : (l : ℕ) (p : Atoms Value) → S.hides l ≡ Some p → S'.hides l ≡ Some p) where
  pub block_on : (c con : ℕ) (vs : List Value) → (c ≡ b → ⊥) → IsBlock S.at c con vs → IsBlock S'.at c con vs
  block_on c con vs n m = record { adopter = m.adopter; made = puts.others c n ∙ m.made }

  pub put_stays : (f : Owned) → PutStays D S S' b f → Stays D S S' f
  put_stays f k = record {
    fixed = λ c con vs i m. elim (cases_eq c b) [
      | inl e ↦ subst (λ n. IsBlock S'.at n con vs) (sym e) (k.fixed con vs i (subst (λ n. IsBlock S.at n con vs) e m))
      | inr n ↦ block_on c con vs n m
    ];
    made = λ c con vs m. elim (cases_eq c b) [
      | inl e ↦ (let r = k.made con vs (subst (λ n. IsBlock S.at n con vs) e m) in (r.0, r.1, subst (λ n. IsBlock S'.at n r.0 r.1) (sym e) r.2))
      | inr n ↦ (con, vs, block_on c con vs n m)
    ];
    owned = λ c con vs l m. elim (cases_eq c b) [
      | inl e ↦ subst (λ n. IsBlock S'.at n con vs × (S'.clause n ≡ S.clause n)) (sym e) (k.owned con vs (subst (λ n. 0 < f n) e l) (subst (λ n. IsBlock S.at n con vs) e m))
      | inr n ↦ (block_on c con vs n m, clauses c n)
    ];
    locked = λ c l h. elim (cases_eq c b) [
      | inl e ↦ subst (λ n. S'.at n ≡ Some (Lock_cell true)) (sym e) (k.locked (subst (λ n. 0 < f n) e l) (subst (λ n. S.at n ≡ Some (Lock_cell true)) e h))
      | inr n ↦ puts.others c n ∙ h
    ];
    hides = hides;
  }

  -- a cell where nothing stood
  pub fresh_stays : (f : Owned) → S.at b ≡ None → Stays D S S' f
  fresh_stays f was = put_stays f (record {
    fixed = λ con vs i m. absurd (none_some was m.made);
    made = λ con vs m. absurd (none_some was m.made);
    owned = λ con vs l m. absurd (none_some was m.made);
    locked = λ l e. absurd (none_some was e);
  })
