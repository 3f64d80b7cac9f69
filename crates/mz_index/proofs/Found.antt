-- What a question finds, in the words of the code.
use Rattle.std.proofs.Common.{◌≡◌, ◌⊎◌, inl, inr, ℕ, zero, suc, ◌+◌, ◌<◌, ◌≤◌, Bool, true, false, Result, Ok, Err, IfOk, List, [], ◌∷◌, ◌++◌, length, map, take, get_or, Some, slice_get, refl, sym, ap, ◌∙◌, subst, arith}
use Rattle.mz_tree.specs.Plain.{Ty, Atom, Has_atom}
use Rattle.mz_tree.specs.Saying.{Says}
use Rattle.mz_tree.specs.View.{plain_atom, plain_atoms}
use Rattle.mz_tree.specs.declared.types.Atom.{Atom as CodeAtom}
use Rattle.mz_tree.specs.declared.alike.Memory.{Memory}
use Rattle.mz_perm.specs.Joining.{Joined}
use Rattle.mz_index.specs.Finding.{InClass}
use Rattle.mz_index.specs.Tests.{Test, Passes}
use Rattle.mz_index.specs.Questions.{IsFrom}
use Rattle.mz_index.proofs.Edits.{map_end, map_at}
use Rattle.mz_index.proofs.Labelling.{next_plain}

-- one permission more has been mapped
pub next_mapped : (g : Atom ℕ → Atom ℕ) (xs done more : List CodeAtom) (i : ℕ) (x y : CodeAtom) → i < length xs → x ≡ get_or xs i x → more ≡ done ++ y ∷ [] → plain_atom y ≡ g (plain_atom x) → plain_atoms done ≡ map g (plain_atoms (take i xs)) → plain_atoms more ≡ map g (plain_atoms (take (i + 1) xs))
next_mapped g xs done more i x y h at m e inv =
    ap plain_atoms m ∙ map_end plain_atom done y ∙ ap (λ l. l ++ plain_atom y ∷ []) inv ∙ ap (λ a. map g (plain_atoms (take i xs)) ++ a ∷ []) e
    ∙ sym (map_end g (plain_atoms (take i xs)) (plain_atom x)) ∙ sym (ap (map g) (next_plain xs i x x h at refl))

-- a permission of a joined name is one to look for where its type is
same_type : (x y : ℕ) (t u : Ty ℕ) → Has_atom x t ≡ Has_atom y u → u ≡ t
same_type x y t u e = cc

pub says_in_class : (b : Bool) (R : List (Atom ℕ)) (x y : ℕ) (t : Ty ℕ) (a : Atom ℕ) (P : Ty ℕ → Type 0) → a ≡ Has_atom y t → Joined R x y → Says b (P t) → Says b (InClass R x P a)
says_in_class true R x y t a P is j p = record { name = y; ty = t; is = is; joined = j; fits = p }
says_in_class false R x y t a P is j n = λ (m : InClass R x P a). n (subst P (same_type y m.name t m.ty (sym is ∙ m.is)) m.fits)

pub says_if_ok : (r : Result Bool Memory) (R : List (Atom ℕ)) (x y : ℕ) (t : Ty ℕ) (a : Atom ℕ) (P : Ty ℕ → Type 0) → a ≡ Has_atom y t → Joined R x y → IfOk r (λ b. Says b (P t)) → IfOk r (λ b. Says b (InClass R x P a))
says_if_ok (Ok b) R x y t a P is j p = says_in_class b R x y t a P is j p
says_if_ok (Err e) R x y t a P is j p = tt

-- from one place up to another there is nothing to find
abbrev pub NoneBetween : List (Atom ℕ) → ℕ → ℕ → Test → ℕ → Type 0
NoneBetween R x from test n = (k : ℕ) (b : Atom ℕ) → from ≤ k → k < n → slice_get R k ≡ Some b → InClass R x (Passes R test) b → ⊥

some_is : {A : Type 0} (a b : A) → Some a ≡ Some b → a ≡ b
some_is a b e = cc

last_or_below : (k n : ℕ) → k < n + 1 → (k < n) ⊎ (k ≡ n)
last_or_below zero zero h = inr refl
last_or_below zero (suc n) h = inl (omega arith)
last_or_below (suc k) zero h = absurd (omega arith)
last_or_below (suc k) (suc n) h = elim (last_or_below k n (omega arith)) [
  | inl l ↦ inl (omega arith)
  | inr e ↦ inr (ap suc e)
]

-- the place at hand isn't one either
pub none_next : (xs : List CodeAtom) (x from i : ℕ) (test : Test) (a : CodeAtom) → i < length xs → a ≡ get_or xs i a → (InClass (plain_atoms xs) x (Passes (plain_atoms xs) test) (plain_atom a) → ⊥) → NoneBetween (plain_atoms xs) x from test i → NoneBetween (plain_atoms xs) x from test (i + 1)
none_next xs x from i test a h at n below k b f l g m = elim (last_or_below k i l) [
  | inl q ↦ below k b f q g m
  | inr e ↦ n (subst (InClass (plain_atoms xs) x (Passes (plain_atoms xs) test)) (some_is b (plain_atom a) (sym g ∙ ap (slice_get (plain_atoms xs)) e ∙ map_at plain_atom xs i a h at)) m)
]

-- the place at hand is the one
pub is_from : (xs : List CodeAtom) (x from i : ℕ) (test : Test) (a : CodeAtom) → from ≤ i → i < length xs → a ≡ get_or xs i a → InClass (plain_atoms xs) x (Passes (plain_atoms xs) test) (plain_atom a) → NoneBetween (plain_atoms xs) x from test i → IsFrom (plain_atoms xs) x from test i
is_from xs x from i test a f h at m below = record { at_least = f; one = plain_atom a; stands = map_at plain_atom xs i a h at; fits = m; before = below }

below_end : {A : Type 0} (xs : List A) (k : ℕ) (b : A) → slice_get xs k ≡ Some b → k < length xs
below_end [] k b e = absurd (cc)
below_end (x ∷ xs) zero b e = omega arith
below_end (x ∷ xs) (suc k) b e = omega (arith, below_end xs k b e)

long_plain : (xs : List CodeAtom) → length (plain_atoms xs) ≡ length xs
long_plain [] = refl
long_plain (x ∷ xs) = ap suc (long_plain xs)

-- none is the one
pub none_from : (xs : List CodeAtom) (x from i : ℕ) (test : Test) → length xs ≤ i → NoneBetween (plain_atoms xs) x from test i → (k : ℕ) (b : Atom ℕ) → from ≤ k → slice_get (plain_atoms xs) k ≡ Some b → InClass (plain_atoms xs) x (Passes (plain_atoms xs) test) b → ⊥
none_from xs x from i test h below k b f g m = below k b f (omega (arith, below_end (plain_atoms xs) k b g, long_plain xs)) g m
