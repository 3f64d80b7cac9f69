-- Who owns what, and what has to be so of the heap.
--
-- A block or lock is owned by a thread (by a frame's share, or by what a frame keeps while it waits), by the place where an
-- adopted block is kept, or by a free lock, for what it guards; or by no one, once its permission was dropped. Never by two.
use Rattle.std.specs.Prelude.{◌≡◌, ◌≢◌, ℕ, ◌<◌, ◌≤◌, Bool, false, List, Some, None}
use Rattle.mz_tree.specs.Plain.{Atoms, Named_type, Has_atom, list_of}
use Rattle.mz_decl.specs.Declarations.{Decls}
use Rattle.mz_modes.specs.Affine.{IsMutable, IsMutableCon}
use Rattle.mz_named.specs.Configurations.{Value, Block_value, Cell, Block_cell, Lock_cell}
use Rattle.mz_named.specs.Operations.{IsBlock}
use Rattle.mz_resource.specs.Meaning.{Owned, Sight, Means, MeansAll}

-- who may own: a thread, the place where an adopted block is kept, a free lock
pub data Owner : Type 0 where
  Of_thread : (k : ℕ) → Owner
  Of_adopted : (x : ℕ) → Owner
  Of_lock : (l : ℕ) → Owner

-- each has one owner, which owns it once
pub record IsFair (own : Owner → Owned) : Type 0 where
  pub once : (o : Owner) (t : ℕ) → own o t ≤ 1
  pub apart : (o p : Owner) (t : ℕ) → 0 < own o t → 0 < own p t → o ≡ p

-- x is adopted by y, a mutable block whose clause is data type u
pub record IsAdopted (D : Decls) (S : Sight) (x y u : ℕ) : Type 0 where
  pub con : ℕ
  pub fields : List Value
  pub adopted : S.at x ≡ Some (Block_cell con (Some y) fields)
  pub other : ℕ
  pub more : List Value
  pub pool : IsBlock S.at y other more
  pub mutable : IsMutableCon D other
  pub adopts : S.clause y ≡ Some u

-- an adopter is a block, and while it is mutable it has a clause. A frozen one gives nothing back any more
pub record IsPool (D : Decls) (S : Sight) (y : ℕ) : Type 0 where
  pub con : ℕ
  pub fields : List Value
  pub made : IsBlock S.at y con fields
  pub adopts : IsMutableCon D con → S.clause y ≢ None

-- the heap is held: all of the invariant but what the threads hold
pub record HeapIsHeld (D : Decls) (S : Sight) (own : Owner → Owned) : Type 0 where
  -- nobody owns what another owns
  pub fair : IsFair own
  -- what is owned is there: so a new block is nobody's
  pub real : (o : Owner) (t : ℕ) → 0 < own o t → (c : Cell) × (S.at t ≡ Some c)
  -- what is adopted is a whole value of the adopter's clause, and what a free lock guards means what it says
  pub adoptees : (x y u : ℕ) → IsAdopted D S x y u → Means D S (Has_atom (Block_value x) (Named_type u)) (own (Of_adopted x))
  pub locks : (l : ℕ) (p : Atoms Value) → S.at l ≡ Some (Lock_cell false) → S.hides l ≡ Some p → MeansAll D S (list_of p) (own (Of_lock l))
  -- a free lock is held by no one
  pub tokens : (o : Owner) (l : ℕ) → S.at l ≡ Some (Lock_cell false) → own o l ≡ 0
  -- a block that is owned otherwise than as adopted has no adopter: so what a take gives back nobody owns
  pub free : (o : Owner) (b con y : ℕ) (vs : List Value) → 0 < own o b → (o ≡ Of_adopted b → ⊥) → S.at b ≡ Some (Block_cell con (Some y) vs) → ⊥
  pub adopters : (x y con : ℕ) (vs : List Value) → S.at x ≡ Some (Block_cell con (Some y) vs) → IsPool D S y
  -- only locks guard, and only mutable data types are adopted
  pub hidden : (l : ℕ) (p : Atoms Value) → S.hides l ≡ Some p → (held : Bool) × (S.at l ≡ Some (Lock_cell held))
  pub clauses : (b u : ℕ) → S.clause b ≡ Some u → IsMutable D u
