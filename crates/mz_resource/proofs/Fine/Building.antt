-- Configurations that a step leads to.
use Rattle.std.proofs.Common.{◌≡◌, ◌≢◌, ℕ, zero, suc, ◌+◌, List, [], ◌∷◌, ◌++◌, length, Some, slice_get, slice_set, append-nil, refl, sym, ap, ◌∙◌, subst, arith}
use Rattle.mz_named.specs.Configurations.{Value, Cell, Environment, Thread, Config}
use Rattle.mz_named.specs.Bodies.{Puts, Binds}
use Rattle.mz_named.specs.Steps.{Moves}
use Rattle.mz_resource.proofs.Facts.{none_some}
use Rattle.mz_resource.proofs.Threads.Quiet.{at_only, at_it, at_others}

some_get : {A : Type 0} {a : A} (k : ℕ) → slice_get [] k ≡ Some a → ⊥
some_get k e = none_some refl e

pub puts_in : {A : Type 0} (xs : List A) (k : ℕ) (x y : A) → slice_get xs k ≡ Some y → Puts (slice_get xs) k x (slice_get (slice_set xs k x))
puts_in [] k x y e = absurd (some_get k e)
puts_in (z ∷ xs) zero x y e = record { put = refl; others = λ m n. other m n }
  where
    other : (m : ℕ) → m ≢ 0 → slice_get (x ∷ xs) m ≡ slice_get (z ∷ xs) m
    other zero n = absurd (n refl)
    other (suc m) n = refl
puts_in (z ∷ xs) (suc k) x y e = let r = puts_in xs k x y e in record { put = r.put; others = λ m n. other r m n }
  where
    other : Puts (slice_get xs) k x (slice_get (slice_set xs k x)) → (m : ℕ) → m ≢ suc k → slice_get (z ∷ slice_set xs k x) m ≡ slice_get (z ∷ xs) m
    other r zero n = refl
    other r (suc m) n = r.others m (λ q. n (ap suc q))

set_length : {A : Type 0} (xs : List A) (k : ℕ) (x : A) → length (slice_set xs k x) ≡ length xs
set_length [] k x = refl
set_length (y ∷ xs) zero x = refl
set_length (y ∷ xs) (suc k) x = ap suc (set_length xs k x)

end_put : {A : Type 0} (xs : List A) (x : A) (n : ℕ) → n ≡ length xs → slice_get (xs ++ x ∷ []) n ≡ Some x
end_put [] x n e = subst (λ m. slice_get (x ∷ []) m ≡ Some x) (sym e) refl
end_put (y ∷ xs) x zero e = absurd (omega arith)
end_put (y ∷ xs) x (suc n) e = end_put xs x n (omega arith)

end_others : {A : Type 0} (xs : List A) (x : A) (m : ℕ) → m ≢ length xs → slice_get (xs ++ x ∷ []) m ≡ slice_get xs m
end_others [] x zero n = absurd (n refl)
end_others [] x (suc m) n = refl
end_others (y ∷ xs) x zero n = refl
end_others (y ∷ xs) x (suc m) n = end_others xs x m (λ e. n (ap suc e))

pub puts_end : (ts : List Thread) (k : ℕ) (t x : Thread) → Puts (slice_get (slice_set ts k t)) (length ts) x (slice_get (slice_set ts k t ++ x ∷ []))
puts_end ts k t x = record { put = end_put (slice_set ts k t) x (length ts) (sym (set_length ts k t)); others = λ m n. end_others (slice_set ts k t) x m (λ e. n (e ∙ set_length ts k t)) }

pub binds_at : (e : Environment) (to : ℕ) (v : Value) → Binds e to v (at_only to v e)
binds_at e to v = record { bound = at_it to v e; others = λ m n. at_others to m v e (λ q. n (sym q)) }

-- another list of threads and more prints
abbrev pub with_threads : Config → List Thread → List ℕ → Config
with_threads w ts out = record { heap = w.heap; threads = ts; prints = out }

-- and another cell
abbrev pub with_cell : Config → ℕ → Cell → List Thread → Config
with_cell w b c ts = record {
  heap = record { at = at_only b (Some c) w.heap.at; limit = w.heap.limit + (b + 1); beyond = λ n l. at_others b n (Some c) w.heap.at (λ q. omega (arith, q, l)) ∙ w.heap.beyond n (omega (arith, l)) };
  threads = ts;
  prints = w.prints;
}

pub puts_cell : (w : Config) (b : ℕ) (c : Cell) → Puts w.heap.at b c (at_only b (Some c) w.heap.at)
puts_cell w b c = record { put = at_it b (Some c) w.heap.at; others = λ m n. at_others b m (Some c) w.heap.at (λ q. n (sym q)) }

pub no_print : (w : Config) → w.prints ≡ w.prints ++ []
no_print w = sym (append-nil w.prints)

pub moves_to : (w : Config) (k : ℕ) (t y : Thread) → slice_get w.threads k ≡ Some y → Moves w k t (with_threads w (slice_set w.threads k t) w.prints)
moves_to w k t y e = record { heap = λ n. refl; prints = refl; threads = puts_in w.threads k t y e }
