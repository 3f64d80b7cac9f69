-- The names that an operation accesses are those that races count, by cases on the operation.
use Rattle.std.proofs.Common.{◌≡◌, ◌⊎◌, inl, inr, ◌↔◌, ℕ, zero, suc, List, [], ◌∷◌, ◌++◌, refl, sym, ap, subst}
use Rattle.mz_tree.specs.Code.{Int_op, Unit_op, Fun_op, Copy_op, Arith_op, New_op, Read_op, Write_op, Retag_op, If_op, Match_op, Call_op, Give_op, Take_op, New_lock_op, Acquire_op, Release_op, Spawn_op, Print_op}
use Rattle.mz_named.specs.Machine.{Value, Int_value, Block_value, Fun_value}
use Rattle.mz_named.specs.Accessing.{name_of}
use Rattle.mz_named.specs.Laws.{IsAmong, AccessesAreCounted}

no_among : (b : ℕ) → IsAmong [] b → ⊥
no_among b m = absurd (let e = m.1 in cc)

nothing : (b : ℕ) → IsAmong [] b ↔ ⊥
nothing b = (no_among b, λ h. absurd h)

-- a value's name
is_block : (v : Value) (b : ℕ) → IsAmong (name_of v) b → v ≡ Block_value b
is_block (Int_value n) b m = absurd (no_among b m)
is_block (Fun_value f) b m = absurd (no_among b m)
is_block (Block_value c) b (zero, e) = let same : c ≡ b = cc in ap Block_value same
is_block (Block_value c) b (suc i, e) = absurd (no_among b (i, e))

among : (v : Value) (b : ℕ) → v ≡ Block_value b → IsAmong (name_of v) b
among v b e = subst (λ u. IsAmong (name_of u) b) (sym e) (0, refl)

one_name : (v : Value) (b : ℕ) → IsAmong (name_of v) b ↔ (v ≡ Block_value b)
one_name v b = (is_block v b, among v b)

-- names of two lists
either : (xs ys : List ℕ) (b : ℕ) → IsAmong (xs ++ ys) b → IsAmong xs b ⊎ IsAmong ys b
either [] ys b m = inr m
either (x ∷ xs) ys b (zero, e) = inl (0, e)
either (x ∷ xs) ys b (suc i, e) = on (either xs ys b (i, e))
  where
    on : IsAmong xs b ⊎ IsAmong ys b → IsAmong (x ∷ xs) b ⊎ IsAmong ys b
    on (inl m) = inl (suc m.0, m.1)
    on (inr m) = inr m

first : (xs ys : List ℕ) (b : ℕ) → IsAmong xs b → IsAmong (xs ++ ys) b
first [] ys b m = absurd (no_among b m)
first (x ∷ xs) ys b (zero, e) = (0, e)
first (x ∷ xs) ys b (suc i, e) = let m = first xs ys b (i, e) in (suc m.0, m.1)

second : (xs ys : List ℕ) (b : ℕ) → IsAmong ys b → IsAmong (xs ++ ys) b
second [] ys b m = m
second (x ∷ xs) ys b m = let n = second xs ys b m in (suc n.0, n.1)

two_names : (v u : Value) (b : ℕ) → IsAmong (name_of v ++ name_of u) b ↔ ((v ≡ Block_value b) ⊎ (u ≡ Block_value b))
two_names v u b = (λ m. from (either (name_of v) (name_of u) b m), back)
  where
    from : IsAmong (name_of v) b ⊎ IsAmong (name_of u) b → (v ≡ Block_value b) ⊎ (u ≡ Block_value b)
    from (inl m) = inl (is_block v b m)
    from (inr m) = inr (is_block u b m)

    back : (v ≡ Block_value b) ⊎ (u ≡ Block_value b) → IsAmong (name_of v ++ name_of u) b
    back (inl e) = first (name_of v) (name_of u) b (among v b e)
    back (inr e) = second (name_of v) (name_of u) b (among u b e)

-- a name alone, with no other list before it or behind it
before_none : (v : Value) (b : ℕ) → IsAmong (name_of v ++ []) b ↔ (v ≡ Block_value b)
before_none v b = (λ m. from (either (name_of v) [] b m), λ e. first (name_of v) [] b (among v b e))
  where
    from : IsAmong (name_of v) b ⊎ IsAmong [] b → v ≡ Block_value b
    from (inl m) = is_block v b m
    from (inr m) = absurd (no_among b m)

pub counted : AccessesAreCounted
counted e (Read_op y con field) b = (nothing b, before_none (e y) b)
counted e (Match_op y d cases giving) b = (nothing b, before_none (e y) b)
counted e (Write_op y con field z) b = (one_name (e y) b, one_name (e y) b)
counted e (Retag_op y old new) b = (one_name (e y) b, one_name (e y) b)
counted e (Give_op x y) b = (two_names (e x) (e y) b, two_names (e x) (e y) b)
counted e (Take_op x y) b = (one_name (e y) b, one_name (e y) b)
counted e (Int_op n) b = (nothing b, nothing b)
counted e Unit_op b = (nothing b, nothing b)
counted e (Fun_op f) b = (nothing b, nothing b)
counted e (Copy_op x) b = (nothing b, nothing b)
counted e (Arith_op operator x y) b = (nothing b, nothing b)
counted e (New_op con ys) b = (nothing b, nothing b)
counted e (If_op y one two giving) b = (nothing b, nothing b)
counted e (Call_op callee args) b = (nothing b, nothing b)
counted e (New_lock_op p) b = (nothing b, nothing b)
counted e (Acquire_op l) b = (nothing b, nothing b)
counted e (Release_op l) b = (nothing b, nothing b)
counted e (Spawn_op callee arg) b = (nothing b, nothing b)
counted e (Print_op x) b = (nothing b, nothing b)
