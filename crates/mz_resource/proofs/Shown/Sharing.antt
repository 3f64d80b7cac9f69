-- The program `sharing`, with a lock and a second thread, was read and has a derivation. So it is safe.
use Rattle.std.specs.Prelude.{count_by}
use Rattle.std.specs.Str.{bytes_eq}
use Rattle.std.proofs.lemmas.Slice.Eq.{bytes_eq-Decides}
use Rattle.std.proofs.Common.{map, ◌≡◌, inl, inr, ◌==◌, ℕ, zero, suc, ◌+◌, ◌^◌, ◌<◌, ◌≤◌, true, false, List, [], ◌∷◌, ◌++◌, length, Option, Some, None, slice_get, codes, refl, sym, ap, ◌∙◌, subst, arith}
use Rattle.mz_tree.specs.declared.types.Place.{Place}
use Rattle.mz_tree.specs.Plain.{Atom, Int_type, Unknown_type, Locked_type, Named_type, Function_type, Block_type, Has_atom, Same_atom}
use Rattle.mz_tree.specs.Programs.{Variety, Con, Field, Fun}
use Rattle.mz_tree.specs.Code.{commands_in}
use Rattle.mz_tree.specs.Scoped.{Each, AreApart, Bound, Scope, IsConOf, HasFields, HasField, IsUpperName, IsVariety, IsField, IsCon, IsSig, IsFun, Takes, FitsBound, Scoped}
use Rattle.mz_tree.specs.Shapes.{shape_of, Upper_shape}
use Rattle.mz_decl.specs.Declarations.{decls_of, IsImmutableAdopter, At_declaration as On_declaration, At_structure as On_structure}
use Rattle.mz_perm.specs.Lists.{In, TakesOne}
use Rattle.mz_perm.specs.Using.{UsesUp}
use Rattle.mz_modes.specs.Affine.{IsMutable, IsMutableCon, Affine, Is_mutable, Holds_named, Holds_block, Holds_locked, HasContent, AffineAtom}
use Rattle.mz_modes.specs.Adopted.{IsNotExclusive, At_declaration as Adopted_declaration, At_structure as Adopted_structure}
use Rattle.mz_modes.specs.Opening.{AreFresh, IsFresh}
use Rattle.mz_deriv.specs.Scripts.{Item}
use Rattle.mz_deriv.specs.Spelled.{IsWritable, Spelled, Spelled_end, Spelled_step, Spelled_do}
use Rattle.mz_deriv.specs.Walks.{Walk_ends, Walk_step, Walk_does}
use Rattle.mz_deriv.specs.Derivable.{Derivable, FunDerives, FunWalks}
use Rattle.mz_named.specs.Safety.{NamedSafe}
use Rattle.mz_resource.specs.Examples.{no_arguments, cell, shared, lock_of, cell_con, shared_con, work, bump, shares, sharing, s_opened, c_opened, c_written, bump_script, shares_script, sharing_scripts}
use Rattle.mz_resource.proofs.Facts.{some_inj, none_some, no_get}
use Rattle.mz_resource.proofs.Meaning.Spending.{true_false}
use Rattle.mz_resource.proofs.Soundness.{sound}
use Rattle.mz_resource.proofs.Shown.Doubling.{lower_name, each_none, each_more}

-- ---- by place in a list

in_at : (a : Atom ℕ) (n : ℕ) (R : List (Atom ℕ)) → slice_get R n ≡ Some a → In a R
in_at a n [] e = absurd (no_get n e)
in_at a zero (x ∷ R) e = inl (sym (some_inj e))
in_at a (suc n) (x ∷ R) e = inr (in_at a n R e)

-- all but the one in that place
abbrev without : {A : Type 0} → ℕ → List A → List A
without n [] = []
without zero (x ∷ xs) = xs
without (suc n) (x ∷ xs) = x ∷ without n xs

takes_at : {A : Type 0} {a : A} (n : ℕ) (xs : List A) → slice_get xs n ≡ Some a → TakesOne a xs (without n xs)
takes_at n [] e = absurd (no_get n e)
takes_at zero (x ∷ xs) e = inl (sym (some_inj e), refl)
takes_at (suc n) (x ∷ xs) e = inr (without n xs, refl, takes_at n xs e)

-- ---- what is affine here

cell_is_mutable : IsMutable (decls_of sharing) 0
cell_is_mutable = record { variety = cell; declared = refl; mutable = refl }

cell_con_is_mutable : IsMutableCon (decls_of sharing) 0
cell_con_is_mutable = record { con = cell_con; made = refl; mutable = cell_is_mutable }

shared_is_not_mutable : (d : ℕ) → d ≡ 1 → IsMutable (decls_of sharing) d → ⊥
shared_is_not_mutable d e m = true_false m.mutable (ap (λ (v : Variety). v.mutable) (sym (some_inj (subst (λ n. slice_get (cell ∷ shared ∷ []) n ≡ Some m.variety) e m.declared))))

clash : (n : ℕ) → n ≡ 0 → n ≡ 1 → ⊥
clash n a b = omega arith

-- the contents of the second constructor are neither at a data type nor structural, nor that a lock is held
second_con : (k : ℕ) (c : Con) → slice_get (cell_con ∷ shared_con ∷ []) k ≡ Some c → c.variety ≡ 1 → shared_con ≡ c
second_con zero c e v = absurd (clash c.variety (sym (ap (λ (z : Con). z.variety) (some_inj e))) v)
second_con (suc zero) c e v = some_inj e
second_con (suc (suc k)) c e v = absurd (no_get k e)

shared_not_affine : (d : ℕ) → d ≡ 1 → Affine (decls_of sharing) d → ⊥
shared_not_affine d e (Is_mutable n m) = shared_is_not_mutable n e m
shared_not_affine d e (Holds_named k x n c g i h) = named x n (subst (λ (z : Con). HasContent (Has_atom x (Named_type n)) z.fields) (sym (second_con k c g e)) i)
  where
    named : (x n : ℕ) → HasContent (Has_atom x (Named_type n)) shared_con.fields → ⊥
    named x n (inl q) = absurd (cc)
    named x n (inr (inl q)) = absurd (cc)
    named x n (inr (inr q)) = absurd q
shared_not_affine d e (Holds_block k x con ys u c g i h) = block (subst (λ (z : Con). HasContent (Has_atom x (Block_type con ys u)) z.fields) (sym (second_con k c g e)) i)
  where
    block : HasContent (Has_atom x (Block_type con ys u)) shared_con.fields → ⊥
    block (inl q) = absurd (cc)
    block (inr (inl q)) = absurd (cc)
    block (inr (inr q)) = absurd q
shared_not_affine d e (Holds_locked k x c g i) = locked (subst (λ (z : Con). HasContent (Has_atom x Locked_type) z.fields) (sym (second_con k c g e)) i)
  where
    locked : HasContent (Has_atom x Locked_type) shared_con.fields → ⊥
    locked (inl q) = absurd (cc)
    locked (inr (inl q)) = absurd (cc)
    locked (inr (inr q)) = absurd q

shared_con_is_fixed : IsMutableCon (decls_of sharing) 1 → ⊥
shared_con_is_fixed m = shared_is_not_mutable m.con.variety (ap (λ (z : Con). z.variety) (sym (some_inj m.made))) m.mutable

-- a permission that is used goes, or stays
goes : (a : Atom ℕ) (n : ℕ) (R : List (Atom ℕ)) → AffineAtom (decls_of sharing) a → slice_get R n ≡ Some a → UsesUp (AffineAtom (decls_of sharing)) a R (without n R)
goes a n R h e = inl (h, takes_at n R e)

stays : (a : Atom ℕ) (n : ℕ) (R : List (Atom ℕ)) → (AffineAtom (decls_of sharing) a → ⊥) → slice_get R n ≡ Some a → UsesUp (AffineAtom (decls_of sharing)) a R R
stays a n R h e = inr (h, in_at a n R e, refl)

one_fresh : (R : List (Atom ℕ)) (n : ℕ) → IsFresh R n → AreFresh R n 1
one_fresh R n f zero l = subst (λ m. IsFresh R m) (omega arith) f
one_fresh R n f (suc m) l = absurd (omega (arith, l))

two_fresh : (R : List (Atom ℕ)) (n : ℕ) → IsFresh R n → IsFresh R (n + 1) → AreFresh R n 2
two_fresh R n f g zero l = subst (λ m. IsFresh R m) (omega arith) f
two_fresh R n f g (suc zero) l = g
two_fresh R n f g (suc (suc m)) l = absurd (omega (arith, l))

-- ---- the body of bump

abbrev after_unfold : List (Atom ℕ)
after_unfold = Has_atom 0 (Named_type 1) ∷ s_opened ∷ Has_atom 256 Unknown_type ∷ Has_atom 257 (lock_of 256) ∷ []

abbrev lock_read : List (Atom ℕ)
lock_read = after_unfold ++ Same_atom 1 257 ∷ []

abbrev lock_named : List (Atom ℕ)
lock_named = lock_read ++ Same_atom 257 1 ∷ []

abbrev before_acquire : List (Atom ℕ)
before_acquire = lock_named ++ Has_atom 1 (lock_of 256) ∷ []

abbrev after_acquire : List (Atom ℕ)
after_acquire = before_acquire ++ Has_atom 256 (Named_type 0) ∷ Has_atom 1 Locked_type ∷ Has_atom 2 Unknown_type ∷ []

abbrev cell_read : List (Atom ℕ)
cell_read = after_acquire ++ Same_atom 3 256 ∷ []

abbrev cell_named : List (Atom ℕ)
cell_named = cell_read ++ Same_atom 256 3 ∷ []

-- what is known but for the cell
abbrev acquired : List (Atom ℕ)
acquired = before_acquire ++ Has_atom 1 Locked_type ∷ Has_atom 2 Unknown_type ∷ Same_atom 3 256 ∷ Same_atom 256 3 ∷ []

abbrev cell_known : List (Atom ℕ)
cell_known = acquired ++ Has_atom 3 (Named_type 0) ∷ []

abbrev cell_opened : List (Atom ℕ)
cell_opened = acquired ++ c_opened ∷ Has_atom 258 Int_type ∷ []

abbrev value_read : List (Atom ℕ)
value_read = cell_opened ++ Same_atom 4 258 ∷ []

abbrev value_named : List (Atom ℕ)
value_named = value_read ++ Same_atom 258 4 ∷ []

abbrev before_sum : List (Atom ℕ)
before_sum = value_named ++ Has_atom 4 Int_type ∷ Has_atom 5 Int_type ∷ []

abbrev before_write : List (Atom ℕ)
before_write = before_sum ++ Has_atom 6 Int_type ∷ []

abbrev numbers : List (Atom ℕ)
numbers = acquired ++ Has_atom 258 Int_type ∷ Same_atom 4 258 ∷ Same_atom 258 4 ∷ Has_atom 4 Int_type ∷ Has_atom 5 Int_type ∷ Has_atom 6 Int_type ∷ []

abbrev written : List (Atom ℕ)
written = numbers ++ c_written ∷ Has_atom 7 Unknown_type ∷ []

-- what is known but for the cell
abbrev kept : List (Atom ℕ)
kept = numbers ++ Has_atom 7 Unknown_type ∷ []

abbrev folded : List (Atom ℕ)
folded = kept ++ Has_atom 3 (Named_type 0) ∷ []

abbrev before_release : List (Atom ℕ)
before_release = kept ++ Has_atom 256 (Named_type 0) ∷ []

abbrev bump_last : List (Atom ℕ)
bump_last = without 7 kept ++ Has_atom 8 Unknown_type ∷ []

-- in order: s opened; its lock read, named and acquired; its cell read, named and opened; the value read and named; the number
-- and the sum; the write; the cell folded and named as before; the lock released
bump_walks : FunWalks (decls_of sharing) bump bump_script
bump_walks = record {
  sig = work;
  signed = refl;
  last = bump_last;
  walks = Walk_step {S = after_unfold} (record { con = 1; only = refl; opens = record { made = shared_con; is_con = refl; fresh = two_fresh (Has_atom 0 (Named_type 1) ∷ []) 256 (record { not_core = omega arith; fits = omega arith; unused = refl }) (record { not_core = omega arith; fits = omega arith; unused = refl }); rest = Has_atom 0 (Named_type 1) ∷ []; used = stays (Has_atom 0 (Named_type 1)) 0 (Has_atom 0 (Named_type 1) ∷ []) (shared_not_affine 1 refl) refl; new = refl } })
      (Walk_does {S = lock_read} (record { new = refl; rule = record { fields = 256 ∷ 257 ∷ []; adopts = None; block = refl; held = in_at s_opened 1 after_unfold refl; name = 257; at_field = refl; new = refl } })
      (Walk_step {S = lock_named} (record { equal = inr (in_at (Same_atom 1 257) 4 lock_read refl); new = refl })
      (Walk_step {S = before_acquire} (record { equal = in_at (Same_atom 257 1) 5 lock_named refl; changes = record { rest = lock_named; used = stays (Has_atom 257 (lock_of 256)) 3 lock_named (λ h. h) refl; new = refl } })
      (Walk_does {S = after_acquire} (record { new = refl; rule = record { guarded = Has_atom 256 (Named_type 0) ∷ []; lock = (refl, refl); held = in_at (Has_atom 1 (lock_of 256)) 6 before_acquire refl; new = refl } })
      (Walk_does {S = cell_read} (record { new = refl; rule = record { fields = 256 ∷ 257 ∷ []; adopts = None; block = refl; held = in_at s_opened 1 after_acquire refl; name = 256; at_field = refl; new = refl } })
      (Walk_step {S = cell_named} (record { equal = inr (in_at (Same_atom 3 256) 10 cell_read refl); new = refl })
      (Walk_step {S = cell_known} (record { equal = in_at (Same_atom 256 3) 11 cell_named refl; changes = record { rest = acquired; used = goes (Has_atom 256 (Named_type 0)) 7 cell_named (Is_mutable 0 cell_is_mutable) refl; new = refl } })
      (Walk_step {S = cell_opened} (record { con = 0; only = refl; opens = record { made = cell_con; is_con = refl; fresh = one_fresh cell_known 258 (record { not_core = omega arith; fits = omega arith; unused = refl }); rest = acquired; used = goes (Has_atom 3 (Named_type 0)) 11 cell_known (Is_mutable 0 cell_is_mutable) refl; new = refl } })
      (Walk_does {S = value_read} (record { new = refl; rule = record { fields = 258 ∷ []; adopts = None; block = refl; held = in_at c_opened 11 cell_opened refl; name = 258; at_field = refl; new = refl } })
      (Walk_step {S = value_named} (record { equal = inr (in_at (Same_atom 4 258) 13 value_read refl); new = refl })
      (Walk_step {S = value_named ++ Has_atom 4 Int_type ∷ []} (record { equal = in_at (Same_atom 258 4) 14 value_named refl; changes = record { rest = value_named; used = stays (Has_atom 258 Int_type) 12 value_named (λ h. h) refl; new = refl } })
      (Walk_does {S = before_sum} (record { new = refl; rule = refl })
      (Walk_does {S = before_write} (record { new = refl; rule = record { left = in_at (Has_atom 4 Int_type) 15 before_sum refl; right = in_at (Has_atom 5 Int_type) 16 before_sum refl; new = refl } })
      (Walk_does {S = written} (record { new = refl; rule = record { fields = 258 ∷ []; adopts = None; block = refl; mutable = cell_con_is_mutable; within = omega arith; changed = record { rest = numbers; taken = takes_at {a = c_opened} 11 before_write refl; new = refl } } })
      (Walk_step {S = folded} (record { made = cell_con; is_con = refl; each = refl; adopts = inl refl; rest = kept; used = (kept, goes c_written 17 written cell_con_is_mutable refl, (kept, stays (Has_atom 6 Int_type) 16 kept (λ h. h) refl, refl)); new = refl })
      (Walk_step {S = before_release} (record { equal = in_at (Same_atom 3 256) 9 folded refl; changes = record { rest = kept; used = goes (Has_atom 3 (Named_type 0)) 18 folded (Is_mutable 0 cell_is_mutable) refl; new = refl } })
      (Walk_does {S = bump_last} (record { new = refl; rule = record { guarded = Has_atom 256 (Named_type 0) ∷ []; lock = (refl, refl); held = in_at (Has_atom 1 (lock_of 256)) 6 before_release refl; rest = without 7 kept; used = (kept, goes (Has_atom 256 (Named_type 0)) 18 before_release (Is_mutable 0 cell_is_mutable) refl, (without 7 kept, goes (Has_atom 1 Locked_type) 7 kept tt refl, refl)); new = refl } })
      Walk_ends)))))))))))))))));
  rest = bump_last;
  ends = (bump_last, stays (Has_atom 0 (Named_type 1)) 0 bump_last (shared_not_affine 1 refl) refl, (bump_last, stays (Has_atom 8 Unknown_type) 17 bump_last (λ h. h) refl, refl));
}

-- ---- the body of main

abbrev made_cell : List (Atom ℕ)
made_cell = Has_atom 0 Int_type ∷ Has_atom 1 (Block_type 0 (0 ∷ []) None) ∷ []

abbrev before_fold : List (Atom ℕ)
before_fold = Has_atom 0 Int_type ∷ Has_atom 2 (lock_of 1) ∷ Has_atom 3 (Block_type 1 (1 ∷ 2 ∷ []) None) ∷ Has_atom 1 Unknown_type ∷ []

abbrev before_spawn : List (Atom ℕ)
before_spawn = before_fold ++ Has_atom 3 (Named_type 1) ∷ Has_atom 4 (Function_type 1) ∷ []

abbrev before_call : List (Atom ℕ)
before_call = before_spawn ++ Has_atom 5 Unknown_type ∷ Has_atom 6 (Function_type 1) ∷ []

abbrev shares_last : List (Atom ℕ)
shares_last = before_call ++ Has_atom 7 Unknown_type ∷ []

-- in order: the cell made and folded; the lock, which takes it; s made and folded; the spawn; the call
shares_walks : FunWalks (decls_of sharing) shares shares_script
shares_walks = record {
  sig = no_arguments;
  signed = refl;
  last = shares_last;
  walks = Walk_does (record { new = refl; rule = refl })
      (Walk_does {S = made_cell} (record { new = refl; rule = refl })
      (Walk_step {S = Has_atom 0 Int_type ∷ Has_atom 1 (Named_type 0) ∷ []} (record { made = cell_con; is_con = refl; each = refl; adopts = inl refl; rest = Has_atom 0 Int_type ∷ []; used = (Has_atom 0 Int_type ∷ [], goes (Has_atom 1 (Block_type 0 (0 ∷ []) None)) 1 made_cell cell_con_is_mutable refl, (Has_atom 0 Int_type ∷ [], stays (Has_atom 0 Int_type) 0 (Has_atom 0 Int_type ∷ []) (λ h. h) refl, refl)); new = refl })
      (Walk_does {S = Has_atom 0 Int_type ∷ Has_atom 2 (lock_of 1) ∷ []} (record { new = refl; rule = record { rest = Has_atom 0 Int_type ∷ []; used = (Has_atom 0 Int_type ∷ [], goes (Has_atom 1 (Named_type 0)) 1 (Has_atom 0 Int_type ∷ Has_atom 1 (Named_type 0) ∷ []) (Is_mutable 0 cell_is_mutable) refl, refl); new = refl } })
      (Walk_does (record { new = refl; rule = refl })
      (Walk_step {S = before_fold} refl
      (Walk_step {S = before_fold ++ Has_atom 3 (Named_type 1) ∷ []} (record { made = shared_con; is_con = refl; each = refl; adopts = inl refl; rest = before_fold; used = (before_fold, stays (Has_atom 3 (Block_type 1 (1 ∷ 2 ∷ []) None)) 2 before_fold shared_con_is_fixed refl, (before_fold, stays (Has_atom 1 Unknown_type) 3 before_fold (λ h. h) refl, (before_fold, stays (Has_atom 2 (lock_of 1)) 1 before_fold (λ h. h) refl, refl))); new = refl })
      (Walk_does {S = before_spawn} (record { new = refl; rule = record { sig = 1; declared = refl; new = refl } })
      (Walk_does {S = before_spawn ++ Has_atom 5 Unknown_type ∷ []} (record { new = refl; rule = record { callee = record { number = 1; function = refl; held = in_at (Has_atom 4 (Function_type 1)) 5 before_spawn refl; sig = work; declared = refl; many = refl }; rest = before_spawn; used = (before_spawn, stays (Has_atom 3 (Named_type 1)) 4 before_spawn (shared_not_affine 1 refl) refl, refl); new = refl } })
      (Walk_does {S = before_call} (record { new = refl; rule = record { sig = 1; declared = refl; new = refl } })
      (Walk_does {S = shares_last} (record { new = refl; rule = record { callee = record { number = 1; function = refl; held = in_at (Has_atom 6 (Function_type 1)) 7 before_call refl; sig = work; declared = refl; many = refl }; rest = before_call; used = (before_call, stays (Has_atom 3 (Named_type 1)) 4 before_call (shared_not_affine 1 refl) refl, refl); back = []; gives_back = inr (λ r. shared_not_affine 1 refl r.1, refl); new = refl } })
      Walk_ends))))))))));
  rest = shares_last;
  ends = (shares_last, stays (Has_atom 7 Unknown_type) 8 shares_last (λ h. h) refl, refl);
}

-- ---- what the scripts name can be written

number : (n : ℕ) → n < 1000 → n < 2 ^ 32
number n l = omega arith

is_cell : HasFields sharing 0 1
is_cell = record { found = cell_con; declared = refl; fields = refl }

is_shared : HasFields sharing 1 2
is_shared = record { found = shared_con; declared = refl; fields = refl }

names_one : (x : ℕ) → x < 1000 → Each (λ k name. name < 2 ^ 32) (x ∷ [])
names_one x l = each_more _ x [] (number x l) (each_none _)

names_two : (x y : ℕ) → x < 1000 → y < 1000 → Each (λ k name. name < 2 ^ 32) (x ∷ y ∷ [])
names_two x y l m = each_more _ x (y ∷ []) (number x l) (names_one y m)

at_data : (x d : ℕ) → x < 1000 → d < 2 → IsWritable sharing (Has_atom x (Named_type d))
at_data x d l m = ((number x l, m), omega arith)

at_lock : (x c : ℕ) → x < 1000 → c < 1000 → IsWritable sharing (Has_atom x (lock_of c))
at_lock x c l m = ((number x l, (λ e. absurd (cc), ((number c m, omega arith), tt))), omega arith)

s_written : IsWritable sharing s_opened
s_written = ((number 0 (omega arith), (is_shared, names_two 256 257 (omega arith) (omega arith), tt)), omega arith)

cell_written : (x y : ℕ) → x < 1000 → y < 1000 → IsWritable sharing (Has_atom x (Block_type 0 (y ∷ []) None))
cell_written x y l m = ((number x l, (is_cell, names_one y m, tt)), omega arith)

bump_spelled : Spelled sharing (commands_in bump.body) bump_script
bump_spelled = Spelled_step (number 0 (omega arith), omega arith, number 256 (omega arith))
    (Spelled_do refl s_written
    (Spelled_step (number 1 (omega arith), number 257 (omega arith))
    (Spelled_step (at_lock 257 256 (omega arith) (omega arith), number 1 (omega arith))
    (Spelled_do refl (at_lock 1 256 (omega arith) (omega arith))
    (Spelled_do refl s_written
    (Spelled_step (number 3 (omega arith), number 256 (omega arith))
    (Spelled_step (at_data 256 0 (omega arith) (omega arith), number 3 (omega arith))
    (Spelled_step (number 3 (omega arith), omega arith, number 258 (omega arith))
    (Spelled_do refl (cell_written 3 258 (omega arith) (omega arith))
    (Spelled_step (number 4 (omega arith), number 258 (omega arith))
    (Spelled_step (((number 258 (omega arith), tt), omega arith), number 4 (omega arith))
    (Spelled_do refl tt
    (Spelled_do refl tt
    (Spelled_do refl (cell_written 3 258 (omega arith) (omega arith))
    (Spelled_step (cell_written 3 6 (omega arith) (omega arith))
    (Spelled_step (at_data 3 0 (omega arith) (omega arith), number 256 (omega arith))
    (Spelled_do refl (at_lock 1 256 (omega arith) (omega arith)) Spelled_end)))))))))))))))))

shares_spelled : Spelled sharing (commands_in shares.body) shares_script
shares_spelled = Spelled_do refl tt
    (Spelled_do refl tt
    (Spelled_step (cell_written 1 0 (omega arith) (omega arith))
    (Spelled_do refl tt
    (Spelled_do refl tt
    (Spelled_step (number 1 (omega arith))
    (Spelled_step ((number 3 (omega arith), (is_shared, names_two 1 2 (omega arith) (omega arith), tt)), omega arith)
    (Spelled_do refl tt
    (Spelled_do refl ((number 4 (omega arith), omega arith), omega arith)
    (Spelled_do refl tt
    (Spelled_do refl ((number 6 (omega arith), omega arith), omega arith) Spelled_end))))))))))

pub derivable : Derivable sharing sharing_scripts
derivable = record { declared = record { on_mutable = no_adopter; exclusive = no_exclusive }; one_each = refl; derives = derives }
  where
    no_clause : (k : ℕ) (v : Variety) (u : ℕ) → slice_get (cell ∷ shared ∷ []) k ≡ Some v → v.adopts ≡ Some u → ⊥
    no_clause zero v u e a = none_some refl (ap (λ (z : Variety). z.adopts) (some_inj e) ∙ a)
    no_clause (suc zero) v u e a = none_some refl (ap (λ (z : Variety). z.adopts) (some_inj e) ∙ a)
    no_clause (suc (suc k)) v u e a = no_get k e

    no_adopter : (place : Place) → IsImmutableAdopter sharing place → ⊥
    no_adopter place (On_declaration k r) = no_clause k r.variety r.adopted r.declared r.adopts
    no_adopter place (On_structure k r) = no_get k r.written

    no_exclusive : (place : Place) → IsNotExclusive (decls_of sharing) place → ⊥
    no_exclusive place (Adopted_declaration k r) = no_clause k r.variety r.adopted r.declared r.adopts
    no_exclusive place (Adopted_structure k r) = no_get k r.written

    derives : (k : ℕ) (f : Fun) (script : List Item) → slice_get sharing.funs k ≡ Some f → slice_get sharing_scripts k ≡ Some script → FunDerives sharing f script
    derives zero f script e g = subst (λ z. FunDerives sharing z script) (some_inj e) (subst (λ z. FunDerives sharing bump z) (some_inj g) (record { spelled = bump_spelled; walks = bump_walks }))
    derives (suc zero) f script e g = subst (λ z. FunDerives sharing z script) (some_inj e) (subst (λ z. FunDerives sharing shares z) (some_inj g) (record { spelled = shares_spelled; walks = shares_walks }))
    derives (suc (suc k)) f script e g = absurd (no_get k e)

-- ---- it is as it is read

upper_name : {name : List ℕ} → shape_of name ≡ Some Upper_shape → length name ≤ 64 → IsUpperName name
upper_name upper short = record { upper = upper; short = short }

-- a name is none of these
abbrev IsNew : List ℕ → List (List ℕ) → Type 0
IsNew name [] = Unit {0}
IsNew name (x ∷ xs) = (bytes_eq name x ≡ false) × IsNew name xs

abbrev AreNew : List (List ℕ) → Type 0
AreNew [] = Unit {0}
AreNew (x ∷ xs) = IsNew x xs × AreNew xs

new_differs : (name : List ℕ) (xs : List (List ℕ)) (k : ℕ) → IsNew name xs → slice_get xs k ≡ Some name → ⊥
new_differs name [] k n e = no_get k e
new_differs name (x ∷ xs) zero n e = true_false (subst (λ y. bytes_eq name y ≡ true) (sym (some_inj e)) ((bytes_eq-Decides name name).1 refl)) n.0
new_differs name (x ∷ xs) (suc k) n e = new_differs name xs k n.1 e

-- the place of a member is that of its name
named : {A : Type 0} {b : A} (name : A → List ℕ) (k : ℕ) (all : List A) → slice_get all k ≡ Some b → slice_get (map name all) k ≡ Some (name b)
named name k [] e = absurd (no_get k e)
named name zero (x ∷ xs) e = ap Some (ap name (some_inj e))
named name (suc k) (x ∷ xs) e = named name k xs e

-- names that differ in turn have one place each
apart : {A : Type 0} (name : A → List ℕ) (all : List A) → AreNew (map name all) → AreApart name all
apart name [] n j k a b e g q = absurd (no_get j e)
apart name (x ∷ all) n zero zero a b e g q = refl
apart name (x ∷ all) n zero (suc k) a b e g q = absurd (new_differs (name x) (map name all) k n.0 (named name k all g ∙ ap Some (sym q ∙ ap name (sym (some_inj e)))))
apart name (x ∷ all) n (suc j) zero a b e g q = absurd (new_differs (name x) (map name all) j n.0 (named name j all e ∙ ap Some (q ∙ ap name (sym (some_inj g)))))
apart name (x ∷ all) n (suc j) (suc k) a b e g q = ap suc (apart name all n.1 j k a b e g q)

-- of each member, one after the other
abbrev AllOf : {A : Type 0} → (A → Type 0) → List A → Type 0
AllOf P [] = Unit {0}
AllOf P (x ∷ xs) = P x × AllOf P xs

each_of : {A : Type 0} (P : A → Type 0) (xs : List A) → AllOf P xs → Each (λ k a. P a) xs
each_of P [] all k a e = absurd (no_get k e)
each_of P (x ∷ xs) all zero a e = subst P (some_inj e) all.0
each_of P (x ∷ xs) all (suc k) a e = each_of P xs all.1 k a e

cell_once : (con : ℕ) → IsConOf sharing 0 con → count_by (λ k. k == con) (0 ∷ []) ≡ 1
cell_once zero i = refl
cell_once (suc zero) i = absurd (clash i.found.variety i.same (sym (ap (λ (z : Con). z.variety) (some_inj i.declared))))
cell_once (suc (suc k)) i = absurd (no_get k i.declared)

shared_once : (con : ℕ) → IsConOf sharing 1 con → count_by (λ k. k == con) (1 ∷ []) ≡ 1
shared_once zero i = absurd (clash i.found.variety (sym (ap (λ (z : Con). z.variety) (some_inj i.declared))) i.same)
shared_once (suc zero) i = refl
shared_once (suc (suc k)) i = absurd (no_get k i.declared)

cell_is : IsVariety sharing 0 cell
cell_is = record { name = lower_name refl refl (omega arith); adopts = tt; some = omega arith; only = each_more _ 0 [] (record { found = cell_con; declared = refl; same = refl }) (each_none _); once = cell_once }

shared_is : IsVariety sharing 1 shared
shared_is = record { name = lower_name refl refl (omega arith); adopts = tt; some = omega arith; only = each_more _ 1 [] (record { found = shared_con; declared = refl; same = refl }) (each_none _); once = shared_once }

cell_con_is : IsCon sharing cell_con
cell_con_is = record {
  name = upper_name refl (omega arith);
  variety = omega arith;
  fields = each_of (λ (f : Field). IsField sharing 1 f) cell_con.fields (record { name = lower_name refl refl (omega arith); content = ((refl, tt), omega arith) }, tt);
  apart = apart (λ (f : Field). f.name) cell_con.fields (tt, tt);
  few = omega arith;
}

shared_con_is : IsCon sharing shared_con
shared_con_is = record {
  name = upper_name refl (omega arith);
  variety = omega arith;
  fields = each_of (λ (f : Field). IsField sharing 2 f) shared_con.fields (
    record { name = lower_name refl refl (omega arith); content = ((refl, tt), omega arith) },
    (record { name = lower_name refl refl (omega arith); content = ((refl, (λ e. absurd (cc), ((refl, omega arith), tt))), omega arith) }, tt),
  );
  apart = apart (λ (f : Field). f.name) shared_con.fields ((refl, tt), (tt, tt));
  few = omega arith;
}

start_is : IsSig sharing no_arguments
start_is = record { name = lower_name refl refl (omega arith); needs = each_none _; gives = each_more _ (Has_atom 0 Unknown_type) [] ((refl, tt), omega arith) (each_none _); few = omega arith }

work_is : IsSig sharing work
work_is = record {
  name = lower_name refl refl (omega arith);
  needs = each_more _ (record { atom = Has_atom 0 (Named_type 1); consumed = false }) [] ((refl, omega arith), omega arith) (each_none _);
  gives = each_more _ (Has_atom 1 Unknown_type) [] ((refl, tt), omega arith) (each_none _);
  few = omega arith;
}

field_of_cell : HasField sharing 0 0
field_of_cell = record { found = cell_con; declared = refl; within = omega arith }

field_of_shared : (field : ℕ) → field < 2 → HasField sharing 1 field
field_of_shared field l = record { found = shared_con; declared = refl; within = l }

bump_is : IsFun sharing bump
bump_is = record {
  name = lower_name refl refl (omega arith);
  sig = work;
  signed = refl;
  body = (
    (refl, (refl, field_of_shared 1 (omega arith))),
    ((refl, refl), ((refl, (refl, field_of_shared 0 (omega arith))), ((refl, (refl, field_of_cell)), ((refl, omega arith), ((refl, (refl, refl)), ((refl, (refl, field_of_cell, refl)), ((refl, refl), refl))))))),
  );
  spelled = refl;
  few = omega arith;
}

-- the function's own name is called with one argument
bump_takes : Takes sharing 0 1
bump_takes = record { fun = bump; declared = refl; sig = work; signed = refl; same = refl }

-- the names in scope at the spawn, and at the call
abbrev bound : ℕ → Option ℕ → Bound
bound n f = record { name = n; function = f }

abbrev at_spawn : Scope
at_spawn = bound 4 (Some 0) ∷ bound 3 None ∷ bound 2 None ∷ bound 1 None ∷ bound 0 None ∷ []

abbrev at_call : Scope
at_call = bound 6 (Some 0) ∷ bound 5 None ∷ at_spawn

shares_is : IsFun sharing shares
shares_is = record {
  name = lower_name refl refl (omega arith);
  sig = no_arguments;
  signed = refl;
  body = (
    (refl, omega arith),
    (
      (refl, (is_cell, each_more _ 0 [] refl (each_none _))),
      (
        (refl, (λ e. absurd (cc), each_more _ (Has_atom 1 (Named_type 0)) [] ((refl, omega arith), omega arith) (each_none _))),
        (
          (refl, (is_shared, each_more _ 1 (2 ∷ []) refl (each_more _ 2 [] refl (each_none _)))),
          (
            (refl, omega arith),
            (
              (refl, (refl, refl, each_of (λ (b : Bound). b.name ≡ 4 → FitsBound sharing b 1) at_spawn (λ e. bump_takes, (λ e. tt, (λ e. tt, (λ e. tt, (λ e. tt, tt))))))),
              (
                (refl, omega arith),
                ((refl, (refl, each_more _ 3 [] refl (each_none _), each_of (λ (b : Bound). b.name ≡ 6 → FitsBound sharing b 1) at_call (λ e. bump_takes, (λ e. tt, (λ e. bump_takes, (λ e. tt, (λ e. tt, (λ e. tt, (λ e. tt, tt))))))))), refl),
              ),
            ),
          ),
        ),
      ),
    ),
  );
  spelled = refl;
  few = omega arith;
}

pub scoped : Scoped sharing
scoped = record {
  varieties = each_more _ cell (shared ∷ []) cell_is (each_more _ shared [] shared_is (each_none _));
  cons = each_more _ cell_con (shared_con ∷ []) cell_con_is (each_more _ shared_con [] shared_con_is (each_none _));
  sigs = each_more _ no_arguments (work ∷ []) start_is (each_more _ work [] work_is (each_none _));
  funs = each_more _ bump (shares ∷ []) bump_is (each_more _ shares [] shares_is (each_none _));
  clauses = record { written = each_none _; all = each_none _ };
  types_apart = apart (λ name. name) (codes "cell" ∷ codes "shared" ∷ codes "start" ∷ codes "work" ∷ []) ((refl, (refl, (refl, tt))), ((refl, (refl, tt)), ((refl, tt), (tt, tt))));
  cons_apart = apart (λ (c : Con). c.name) (cell_con ∷ shared_con ∷ []) ((refl, tt), (tt, tt));
  one_main = refl;
  begins = refl;
  few_types = omega arith;
  few_cons = omega arith;
  few_funs = omega arith;
}

pub sharing_is_safe : NamedSafe sharing
sharing_is_safe = sound sharing sharing_scripts scoped derivable
