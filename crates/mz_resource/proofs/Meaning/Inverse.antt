-- What a permission of each kind says of its value, and of what it owns: one lemma for each kind.
use Rattle.std.proofs.Common.{◌≡◌, ◌⊎◌, inl, inr, ℕ, List, Option, Some, true, slice_get}
use Rattle.mz_tree.specs.Plain.{Ty, Atoms, Int_type, Unknown_type, Dynamic_type, Locked_type, Named_type, Function_type, Block_type, Lock_type, Has_atom, Same_atom, map_ty}
use Rattle.mz_tree.specs.Programs.{Con}
use Rattle.mz_decl.specs.Declarations.{Decls, clause_of}
use Rattle.mz_modes.specs.Affine.{IsMutableCon, ExclusiveTy}
use Rattle.mz_named.specs.Configurations.{Value, Int_value, Block_value, Fun_value, Cell, Block_cell, Lock_cell}
use Rattle.mz_named.specs.Operations.{IsBlock}
use Rattle.mz_resource.specs.Meaning.{Owned, OwnsNothing, OwnsOnly, Sight, value_contents, IsMade, Means, Means_same, Means_int, Means_function, Means_dynamic, Means_lock, Means_locked, Means_fixed, Means_block, Means_data, Means_mutable, MeansAll}
use Rattle.mz_resource.proofs.Meaning.Owning.{Split}

pub block_is : {b c : ℕ} {v : Value} → v ≡ Block_value b → v ≡ Block_value c → b ≡ c
block_is e f = cc

pub cell_con : {o : Option Cell} {c d : ℕ} {a b : Option ℕ} {vs us : List Value} → o ≡ Some (Block_cell c a vs) → o ≡ Some (Block_cell d b us) → c ≡ d
cell_con e f = cc

pub cell_fields : {o : Option Cell} {c d : ℕ} {a b : Option ℕ} {vs us : List Value} → o ≡ Some (Block_cell c a vs) → o ≡ Some (Block_cell d b us) → vs ≡ us
cell_fields e f = cc

pub cell_adopter : {o : Option Cell} {c d : ℕ} {a b : Option ℕ} {vs us : List Value} → o ≡ Some (Block_cell c a vs) → o ≡ Some (Block_cell d b us) → a ≡ b
cell_adopter e f = cc

module _ (D : Decls) (S : Sight) where
  pub same_inv : {v w : Value} {f : Owned} → Means D S (Same_atom v w) f → v ≡ w
  same_inv (Means_same e n) = e

  pub int_inv : {v : Value} {f : Owned} → Means D S (Has_atom v Int_type) f → (n : ℕ) × (v ≡ Int_value n)
  int_inv (Means_int n e z) = (n, e)

  pub function_inv : {v : Value} {s : ℕ} {f : Owned} → Means D S (Has_atom v (Function_type s)) f → (n : ℕ) × (v ≡ Fun_value n) × (slice_get D.fun_sigs n ≡ Some s)
  function_inv (Means_function n e s z) = (n, e, s)

  pub dynamic_inv : {v : Value} {f : Owned} → Means D S (Has_atom v Dynamic_type) f → (b con : ℕ) × (vs : List Value) × (v ≡ Block_value b) × IsBlock S.at b con vs
  dynamic_inv (Means_dynamic b e m z) = (b, _, _, e, m)

  pub lock_inv : {v : Value} {p : Atoms Value} {f : Owned} → Means D S (Has_atom v (Lock_type p)) f → (l : ℕ) × (v ≡ Block_value l) × (S.hides l ≡ Some p)
  lock_inv (Means_lock l e h z) = (l, e, h)

  pub locked_inv : {v : Value} {f : Owned} → Means D S (Has_atom v Locked_type) f → (l : ℕ) × (v ≡ Block_value l) × (S.at l ≡ Some (Lock_cell true)) × OwnsOnly l f
  locked_inv (Means_locked l e h o) = (l, e, h, o)

  -- a structural permission, whatever its constructor
  pub block_inv : {v : Value} {con : ℕ} {vs : List Value} {c : Option ℕ} {f : Owned} → Means D S (Has_atom v (Block_type con vs c)) f → (b : ℕ) × (v ≡ Block_value b) × IsBlock S.at b con vs
  block_inv (Means_fixed b e m i c n) = (b, e, m)
  block_inv (Means_block b e m i c o) = (b, e, m)

  -- one of a mutable constructor
  pub record OwnsBlock (v : Value) (con : ℕ) (vs : List Value) (c : Option ℕ) (f : Owned) : Type 0 where
    pub block : ℕ
    pub is : v ≡ Block_value block
    pub made : IsBlock S.at block con vs
    pub clause_is : S.clause block ≡ c
    pub only : OwnsOnly block f

  pub owned_inv : {v : Value} {con : ℕ} {vs : List Value} {c : Option ℕ} {f : Owned} → IsMutableCon D con → Means D S (Has_atom v (Block_type con vs c)) f → OwnsBlock v con vs c f
  owned_inv m (Means_fixed b e k i c n) = absurd (i m)
  owned_inv m (Means_block b e k i c o) = record { block = b; is = e; made = k; clause_is = c; only = o }

  pub fixed_inv : {v : Value} {con : ℕ} {vs : List Value} {c : Option ℕ} {f : Owned} → (IsMutableCon D con → ⊥) → Means D S (Has_atom v (Block_type con vs c)) f → OwnsNothing f
  fixed_inv m (Means_fixed b e k i c n) = n
  fixed_inv m (Means_block b e k i c o) = absurd (m i)

  -- what a block of a constructor and its fields own
  abbrev pub BlockOwns : ℕ → ℕ → ℕ → Con → List Value → Owned → Type 0
  BlockOwns b con d made vs f = ((IsMutableCon D con → ⊥) × MeansAll D S (value_contents vs made.fields) f) ⊎ (IsMutableCon D con × (S.clause b ≡ clause_of D d) × Split (OwnsOnly b) (MeansAll D S (value_contents vs made.fields)) f)

  pub record OwnsData (v : Value) (d : ℕ) (f : Owned) : Type 0 where
    pub block : ℕ
    pub con : ℕ
    pub con_is : Con
    pub fields : List Value
    pub is : v ≡ Block_value block
    pub made : IsMade D S block con d con_is fields
    pub kind : BlockOwns block con d con_is fields f

  pub data_inv : {v : Value} {d : ℕ} {f : Owned} → Means D S (Has_atom v (Named_type d)) f → OwnsData v d f
  data_inv (Means_data b e m i p) = record { block = b; con = _; con_is = _; fields = _; is = e; made = m; kind = inl (i, p) }
  data_inv (Means_mutable b e m i c o p j) = record { block = b; con = _; con_is = _; fields = _; is = e; made = m; kind = inr (i, c, record { one = _; two = _; first_part = o; second_part = p; join = j }) }

  -- what is held at an exclusive type is a block
  pub exclusive_block : (v : Value) (names : ℕ → Value) (t : Ty ℕ) (f : Owned) → ExclusiveTy D t → Means D S (Has_atom v (map_ty names t)) f → (b con : ℕ) × (vs : List Value) × (v ≡ Block_value b) × IsBlock S.at b con vs
  exclusive_block v names Int_type f x m = absurd x
  exclusive_block v names Unknown_type f x m = absurd x
  exclusive_block v names Dynamic_type f x m = absurd x
  exclusive_block v names Locked_type f x m = absurd x
  exclusive_block v names (Named_type d) f x m = let o = data_inv m in (o.block, o.con, o.fields, o.is, o.made.block)
  exclusive_block v names (Function_type s) f x m = absurd x
  exclusive_block v names (Block_type con ys u) f x m = let o = block_inv m in (o.0, con, _, o.1, o.2)
  exclusive_block v names (Lock_type p) f x m = absurd x
