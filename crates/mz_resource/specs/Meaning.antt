-- What a permission means of a configuration, and what it owns there.
--
-- Permissions speak of values here: a thread's share, which speaks of names, is read with the names' values put in. What
-- can be owned are blocks and locks, each by its name in the heap. To own a mutable block is to be the only one who may
-- read or write it; to own a lock is to be the one who holds it. What is duplicable owns nothing, so it may be copied.
use Rattle.std.specs.Prelude.{◌≡◌, ℕ, ◌+◌, true, List, [], ◌∷◌, length, map, Option, Some, None, slice_get, nat_eq, if◌then◌else◌}
use Rattle.mz_tree.specs.Plain.{Atom, Atoms, Int_type, Unknown_type, Dynamic_type, Locked_type, Named_type, Function_type, Block_type, Lock_type, Has_atom, Same_atom, map_atom}
use Rattle.mz_tree.specs.Programs.{Con, Field}
use Rattle.mz_decl.specs.Declarations.{Decls, clause_of}
use Rattle.mz_modes.specs.Affine.{IsMutableCon}
use Rattle.mz_named.specs.Configurations.{Value, Int_value, Block_value, Fun_value, Cell, Lock_cell}
use Rattle.mz_named.specs.Operations.{IsBlock}
use Rattle.mz_named.specs.Bodies.{value_at}

-- ---- what is owned: how often each block or lock is

abbrev pub Owned : Type 0
Owned = ℕ → ℕ

-- nothing is owned
abbrev pub OwnsNothing : Owned → Type 0
OwnsNothing f = (t : ℕ) → f t ≡ 0

-- 1 at b, else 0
abbrev pub one_at : ℕ → Owned
one_at b t = if nat_eq b t then 1 else 0

-- just b is
abbrev pub OwnsOnly : ℕ → Owned → Type 0
OwnsOnly b f = (t : ℕ) → f t ≡ one_at b t

-- the third is the two together
abbrev pub OwnsBoth : Owned → Owned → Owned → Type 0
OwnsBoth g h f = (t : ℕ) → f t ≡ g t + h t

-- ---- what permissions mean

-- what permissions are about: blocks and locks, the data type that each block adopts (its clause), and what each lock guards,
-- over values
pub record Sight : Type 0 where
  pub at : ℕ → Option Cell
  pub clause : ℕ → Option ℕ
  pub hides : ℕ → Option (Atoms Value)

-- a field's content, over the values of the fields
abbrev pub value_content : List Value → Field → Atom Value
value_content vs field = map_atom (value_at vs) field.content

abbrev pub value_contents : List Value → List Field → List (Atom Value)
value_contents vs fields = map (value_content vs) fields

-- a block of a declared constructor of data type d, with a value for each field
pub record IsMade (D : Decls) (S : Sight) (b con d : ℕ) (made : Con) (vs : List Value) : Type 0 where
  pub block : IsBlock S.at b con vs
  pub is_con : slice_get D.cons con ≡ Some made
  pub of_type : made.variety ≡ d
  pub long : length vs ≡ length made.fields

-- what a permission over values means, and what it owns
mutual
  pub data Means (D : Decls) (S : Sight) : Atom Value → Owned → Type 0 where
    -- these own nothing: an equation, an integer, anything, a function of that signature, a block that may be asked for,
    -- a lock that guards just these
    Means_same : {v w : Value} {f : Owned} → v ≡ w → OwnsNothing f → Means D S (Same_atom v w) f
    Means_int : {v : Value} {f : Owned} (n : ℕ) → v ≡ Int_value n → OwnsNothing f → Means D S (Has_atom v Int_type) f
    Means_unknown : {v : Value} {f : Owned} → OwnsNothing f → Means D S (Has_atom v Unknown_type) f
    Means_function : {v : Value} {s : ℕ} {f : Owned} (n : ℕ) → v ≡ Fun_value n → slice_get D.fun_sigs n ≡ Some s → OwnsNothing f → Means D S (Has_atom v (Function_type s)) f
    Means_dynamic : {v : Value} {f : Owned} {con : ℕ} {vs : List Value} (b : ℕ) → v ≡ Block_value b → IsBlock S.at b con vs → OwnsNothing f → Means D S (Has_atom v Dynamic_type) f
    Means_lock : {v : Value} {p : Atoms Value} {f : Owned} (l : ℕ) → v ≡ Block_value l → S.hides l ≡ Some p → OwnsNothing f → Means D S (Has_atom v (Lock_type p)) f
    -- a held lock, and its token
    Means_locked : {v : Value} {f : Owned} (l : ℕ) → v ≡ Block_value l → S.at l ≡ Some (Lock_cell true) → OwnsOnly l f → Means D S (Has_atom v Locked_type) f
    -- an immutable block: its constructor and its values are known for ever, so it needs no owner. It adopts nothing
    Means_fixed : {v : Value} {con : ℕ} {vs : List Value} {c : Option ℕ} {f : Owned} (b : ℕ) → v ≡ Block_value b → IsBlock S.at b con vs → (IsMutableCon D con → ⊥) → c ≡ None → OwnsNothing f → Means D S (Has_atom v (Block_type con vs c)) f
    -- a mutable block, which is owned: no one else changes its constructor, its values and its clause
    Means_block : {v : Value} {con : ℕ} {vs : List Value} {c : Option ℕ} {f : Owned} (b : ℕ) → v ≡ Block_value b → IsBlock S.at b con vs → IsMutableCon D con → S.clause b ≡ c → OwnsOnly b f → Means D S (Has_atom v (Block_type con vs c)) f
    -- a whole value of a data type: some block of it, with what its fields hold. Where it is mutable it is owned too, and
    -- adopts what its data type does
    Means_data : {v : Value} {d : ℕ} {f : Owned} {con : ℕ} {made : Con} {vs : List Value} (b : ℕ) → v ≡ Block_value b → IsMade D S b con d made vs → (IsMutableCon D con → ⊥) → MeansAll D S (value_contents vs made.fields) f → Means D S (Has_atom v (Named_type d)) f
    Means_mutable : {v : Value} {d : ℕ} {f g h : Owned} {con : ℕ} {made : Con} {vs : List Value} (b : ℕ) → v ≡ Block_value b → IsMade D S b con d made vs → IsMutableCon D con → S.clause b ≡ clause_of D d → OwnsOnly b g → MeansAll D S (value_contents vs made.fields) h → OwnsBoth g h f → Means D S (Has_atom v (Named_type d)) f

  -- several permissions, each with its own part
  pub data MeansAll (D : Decls) (S : Sight) : List (Atom Value) → Owned → Type 0 where
    All_none : {f : Owned} → OwnsNothing f → MeansAll D S [] f
    All_more : {a : Atom Value} {p : List (Atom Value)} {f g h : Owned} → Means D S a g → MeansAll D S p h → OwnsBoth g h f → MeansAll D S (a ∷ p) f
