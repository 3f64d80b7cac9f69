-- A permission that a rule names, seen by its parts.
use Rattle.std.proofs.Common.{◌≡◌, ℕ, List, Option, refl, sym, subst}
use Rattle.mz_tree.specs.Plain.{Atom, Atoms, Int_type, Unknown_type, Dynamic_type, Locked_type, Named_type, Function_type, Block_type, Lock_type, Has_atom, Same_atom}
use Rattle.mz_view.specs.Rules.{OnBlock, OnLock}

-- a structural permission with what holds of its parts
pub record Block (a : Atom ℕ) (P : ℕ → ℕ → List ℕ → Option ℕ → Type 0) : Type 0 where
  pub x : ℕ
  pub con : ℕ
  pub ys : List ℕ
  pub clause : Option ℕ
  pub is : a ≡ Has_atom x (Block_type con ys clause)
  pub holds : P x con ys clause

pub on_block : (a : Atom ℕ) (P : ℕ → ℕ → List ℕ → Option ℕ → Type 0) → OnBlock a P → Block a P
on_block (Has_atom x (Block_type con ys clause)) P h = record { x = x; con = con; ys = ys; clause = clause; is = refl; holds = h }
on_block (Has_atom x Int_type) P h = absurd h
on_block (Has_atom x Unknown_type) P h = absurd h
on_block (Has_atom x Dynamic_type) P h = absurd h
on_block (Has_atom x Locked_type) P h = absurd h
on_block (Has_atom x (Named_type d)) P h = absurd h
on_block (Has_atom x (Function_type s)) P h = absurd h
on_block (Has_atom x (Lock_type p)) P h = absurd h
on_block (Same_atom x y) P h = absurd h

pub of_block : (a : Atom ℕ) (x con : ℕ) (ys : List ℕ) (clause : Option ℕ) (P : ℕ → ℕ → List ℕ → Option ℕ → Type 0) → a ≡ Has_atom x (Block_type con ys clause) → P x con ys clause → OnBlock a P
of_block a x con ys clause P e h = subst (λ b. OnBlock b P) (sym e) h

-- a lock's permission with what holds of its parts
pub record Lock (a : Atom ℕ) (P : ℕ → Atoms ℕ → Type 0) : Type 0 where
  pub l : ℕ
  pub p : Atoms ℕ
  pub is : a ≡ Has_atom l (Lock_type p)
  pub holds : P l p

pub on_lock : (a : Atom ℕ) (P : ℕ → Atoms ℕ → Type 0) → OnLock a P → Lock a P
on_lock (Has_atom l (Lock_type p)) P h = record { l = l; p = p; is = refl; holds = h }
on_lock (Has_atom x Int_type) P h = absurd h
on_lock (Has_atom x Unknown_type) P h = absurd h
on_lock (Has_atom x Dynamic_type) P h = absurd h
on_lock (Has_atom x Locked_type) P h = absurd h
on_lock (Has_atom x (Named_type d)) P h = absurd h
on_lock (Has_atom x (Function_type s)) P h = absurd h
on_lock (Has_atom x (Block_type con ys clause)) P h = absurd h
on_lock (Same_atom x y) P h = absurd h
