-- A block is given to its adopter: what the thread owned of it goes to the place of the adopted block. And it is taken back, where the
-- adopter is that one.
use Rattle.std.proofs.Common.{◌≡◌, ◌≢◌, ◌⊎◌, inl, inr, ℕ, ◌+◌, ◌<◌, ◌≤◌, Bool, true, false, List, [], ◌∷◌, ◌++◌, map, Option, Some, None, slice_get, refl, sym, ap, ◌∙◌, subst, arith}
use Rattle.std.proofs.lemmas.Bool.{cases_eq}
use Rattle.mz_tree.specs.Plain.{Atom, Int_type, Unknown_type, Dynamic_type, Locked_type, Named_type, Function_type, Block_type, Lock_type, Has_atom, Same_atom, map_atom}
use Rattle.mz_tree.specs.Programs.{Program}
use Rattle.mz_tree.specs.Code.{Command, The_command, Give_op, Take_op}
use Rattle.mz_decl.specs.Declarations.{Decls, decls_of, clause_of}
use Rattle.mz_perm.specs.Occurrence.{occurs}
use Rattle.mz_perm.specs.Lists.{Any_copy}
use Rattle.mz_modes.specs.Affine.{IsMutable, IsMutableCon}
use Rattle.mz_adopt.specs.Adopting.{IsAdopter, Gives, Takes}
use Rattle.mz_deriv.specs.Rules.{Rule}
use Rattle.mz_named.specs.Configurations.{Value, Int_value, Block_value, Cell, Block_cell, Lock_cell, Environment, Frame, Suspended, Running, Config}
use Rattle.mz_named.specs.Bodies.{Binds, Puts}
use Rattle.mz_named.specs.Operations.{IsBlock, GivesBlock, TakesBlock}
use Rattle.mz_named.specs.Steps.{next}
use Rattle.mz_resource.specs.Meaning.{Owned, Sight, Means, Means_unknown, Means_dynamic, Means_fixed, Means_block, MeansAll}
use Rattle.mz_resource.specs.Frames.{StackIsHeld}
use Rattle.mz_resource.specs.Held.{Holding, sight, Held}
use Rattle.mz_resource.specs.Owners.{Owner, Of_thread, Of_adopted, Of_lock, IsAdopted, IsPool}
use Rattle.mz_resource.proofs.Facts.{some_inj, zero_by}
use Rattle.mz_resource.proofs.Programs.Proper.{ProperDecls}
use Rattle.mz_perm.proofs.Orders.{in_of}
use Rattle.mz_resource.proofs.Meaning.Owning.{Split, take_out, look_up, all_end}
use Rattle.mz_resource.proofs.Meaning.Staying.{Stays, means_stays, all_stay, one_at_self}
use Rattle.mz_resource.proofs.Meaning.Spending.{in_occurs, take_occurs, where_occurs, not_true, true_false}
use Rattle.mz_resource.proofs.Meaning.Inverse.{OwnsData, data_inv, cell_con, cell_adopter, cell_fields, block_is}
use Rattle.mz_resource.proofs.Threads.Quiet.{at_only, adopted_not, lock_not, Onward}
use Rattle.mz_resource.proofs.Threads.Standing.{bound_share}
use Rattle.mz_resource.proofs.Owners.Handing.{two_fair, with_two, two_second}
use Rattle.mz_resource.proofs.Owners.Changing.{Change, change_held, who_has, threads_else, none_else}
use Rattle.mz_resource.proofs.Owners.Heaps.{block_lock, block_some}
use Rattle.mz_resource.proofs.Commands.Locking.{append_occurs}
use Rattle.mz_resource.proofs.Commands.Ruled.{AtRule, then_part, then_stack}

pub thread_pool : {x k : ℕ} → Of_thread k ≡ Of_adopted x → ⊥
thread_pool e = cc

pool_is : {x y : ℕ} → Of_adopted x ≡ Of_adopted y → x ≡ y
pool_is e = cc

lock_adopted : {x l : ℕ} → Of_lock l ≡ Of_adopted x → ⊥
lock_adopted e = cc

none_not : {u : ℕ} {c : Option ℕ} → c ≡ None → c ≡ Some u → ⊥
none_not e f = absurd (cc)

-- an adopter: a mutable block that adopts u, and that is owned
pub record Adopts (D : Decls) (S : Sight) (v : Value) (u : ℕ) (g : Owned) : Type 0 where
  pub block : ℕ
  pub is : v ≡ Block_value block
  pub con : ℕ
  pub fields : List Value
  pub made : IsBlock S.at block con fields
  pub mutable : IsMutableCon D con
  pub clause_is : S.clause block ≡ Some u
  pub owned : 0 < g block

module _ (D : Decls) (L : ProperDecls D) (S : Sight) (names : ℕ → Value) where
  by_block : (v : Value) (con : ℕ) (vs : List Value) (c : Option ℕ) (u : ℕ) (g : Owned) → c ≡ Some u → Means D S (Has_atom v (Block_type con vs c)) g → Adopts D S v u g
  by_block v con vs c u g e (Means_fixed b is m i n z) = absurd (none_not n e)
  by_block v con vs c u g e (Means_block b is m i n o) = record { block = b; is = is; con = con; fields = vs; made = m; mutable = i; clause_is = n ∙ e; owned = omega (arith, o b, one_at_self b) }

  by_data : (v : Value) (d u : ℕ) (g : Owned) → clause_of D d ≡ Some u → OwnsData D S v d g → Adopts D S v u g
  by_data v d u g e o = elim o.kind [
    | inl z ↦ absurd (z.0 (record { con = o.con_is; made = o.made.is_con; mutable = subst (λ n. IsMutable D n) (sym o.made.of_type) (L.adopts d u e).0 }))
    | inr z ↦ record { block = o.block; is = o.is; con = o.con; fields = o.fields; made = o.made.block; mutable = z.0; clause_is = z.1 ∙ e; owned = (let j = z.2.join o.block in let s = z.2.first_part o.block in let q = one_at_self o.block in omega arith) }
  ]

  pub adopts_inv : (y u : ℕ) (a : Atom ℕ) (g : Owned) → IsAdopter D y u a → Means D S (map_atom names a) g → Adopts D S (names y) u g
  adopts_inv y u (Same_atom x z) g k m = absurd k
  adopts_inv y u (Has_atom x Int_type) g k m = absurd k.1
  adopts_inv y u (Has_atom x Unknown_type) g k m = absurd k.1
  adopts_inv y u (Has_atom x Dynamic_type) g k m = absurd k.1
  adopts_inv y u (Has_atom x Locked_type) g k m = absurd k.1
  adopts_inv y u (Has_atom x (Function_type s)) g k m = absurd k.1
  adopts_inv y u (Has_atom x (Lock_type q)) g k m = absurd k.1
  adopts_inv y u (Has_atom x (Block_type con ys c)) g k m = subst (λ n. Adopts D S (names n) u g) k.0 (by_block (names x) con (map names ys) c u g k.1 m)
  adopts_inv y u (Has_atom x (Named_type d)) g k m = subst (λ n. Adopts D S (names n) u g) k.0 (by_data (names x) d u g k.1 (data_inv D S m))

  -- a value of a mutable data type is an owned block
  pub mutable_owned : (v : Value) (u : ℕ) (g : Owned) → IsMutable D u → Means D S (Has_atom v (Named_type u)) g → (b : ℕ) × (v ≡ Block_value b) × (0 < g b)
  mutable_owned v u g k m = let o = data_inv D S m in
      elim o.kind [
        | inl z ↦ absurd (z.0 (record { con = o.con_is; made = o.made.is_con; mutable = subst (λ n. IsMutable D n) (sym o.made.of_type) k }))
        | inr z ↦ (o.block, o.is, let j = z.2.join o.block in let s = z.2.first_part o.block in let q = one_at_self o.block in omega arith)
      ]

give_rule : (D : Decls) (R : List (Atom ℕ)) (c x y : ℕ) (uses : Option (Atom ℕ)) (T : List (Atom ℕ)) → Rule D R c (Give_op x y) uses T → (a : Atom ℕ) × Gives Any_copy D R c x y a T
give_rule D R c x y None T r = absurd r
give_rule D R c x y (Some a) T r = (a, r)

take_rule : (D : Decls) (R : List (Atom ℕ)) (c x y : ℕ) (uses : Option (Atom ℕ)) (T : List (Atom ℕ)) → Rule D R c (Take_op x y) uses T → (a : Atom ℕ) × Takes D R c x y a T
take_rule D R c x y None T r = absurd r
take_rule D R c x y (Some a) T r = (a, r)

-- a block's adopter changes
module _ (D : Decls) (S : Sight) (at' : ℕ → Option Cell) (b con : ℕ) (o o' : Option ℕ) (vs : List Value) (was : S.at b ≡ Some (Block_cell con o vs)) (cells : Puts S.at b (Block_cell con o' vs) at') where
  abbrev S' : Sight
  S' = record { at = at'; clause = S.clause; hides = S.hides }

  pub block_on : (c d : ℕ) (xs : List Value) → IsBlock S.at c d xs → IsBlock at' c d xs
  block_on c d xs m = elim (cases_eq c b) [
    | inl e ↦ subst (λ n. IsBlock at' n d xs) (sym e) (let k : S.at b ≡ Some (Block_cell d m.adopter xs) = subst (λ n. S.at n ≡ Some (Block_cell d m.adopter xs)) e m.made in
        subst (λ n. IsBlock at' b n xs) (cell_con was k) (subst (λ l. IsBlock at' b con l) (cell_fields was k) (record { adopter = o'; made = cells.put })))
    | inr n ↦ record { adopter = m.adopter; made = cells.others c n ∙ m.made }
  ]

  pub block_back : (c d : ℕ) (xs : List Value) → IsBlock at' c d xs → IsBlock S.at c d xs
  block_back c d xs m = elim (cases_eq c b) [
    | inl e ↦ subst (λ n. IsBlock S.at n d xs) (sym e) (let k : at' b ≡ Some (Block_cell d m.adopter xs) = subst (λ n. at' n ≡ Some (Block_cell d m.adopter xs)) e m.made in
        subst (λ n. IsBlock S.at b n xs) (cell_con cells.put k) (subst (λ l. IsBlock S.at b con l) (cell_fields cells.put k) (record { adopter = o; made = was })))
    | inr n ↦ record { adopter = m.adopter; made = sym (cells.others c n) ∙ m.made }
  ]

  pub held_stays : (f : Owned) → Stays D S S' f
  held_stays f = record {
    fixed = λ c d xs i m. block_on c d xs m;
    made = λ c d xs m. (d, xs, block_on c d xs m);
    owned = λ c d xs l m. (block_on c d xs m, refl);
    locked = λ l i e. cells.others l (λ z. block_lock was (subst (λ n. S.at n ≡ Some (Lock_cell true)) z e)) ∙ e;
    hides = λ l q e. e;
  }

  pub lock_back : (l : ℕ) (t : Bool) → at' l ≡ Some (Lock_cell t) → S.at l ≡ Some (Lock_cell t)
  lock_back l t e = sym (cells.others l (λ z. block_lock cells.put (subst (λ n. at' n ≡ Some (Lock_cell t)) z e))) ∙ e

  pub lock_on : (l : ℕ) (t : Bool) → S.at l ≡ Some (Lock_cell t) → at' l ≡ Some (Lock_cell t)
  lock_on l t e = cells.others l (λ z. block_lock was (subst (λ n. S.at n ≡ Some (Lock_cell t)) z e)) ∙ e

  pub there : (t : ℕ) (c : Cell) → S.at t ≡ Some c → (d : Cell) × (at' t ≡ Some d)
  there t c e = elim (cases_eq t b) [ inl z ↦ (Block_cell con o' vs, subst (λ n. at' n ≡ Some (Block_cell con o' vs)) (sym z) cells.put) | inr n ↦ (c, cells.others t n ∙ e) ]

  pub pool_on : (y : ℕ) → IsPool D S y → IsPool D S' y
  pool_on y r = record { con = r.con; fields = r.fields; made = block_on y r.con r.fields r.made; adopts = r.adopts }

module _ (p : Program) (w w' : Config) (h : Holding) (H : Held p w h) (k : ℕ) (L : ProperDecls (decls_of p)) (f : Frame) (below : List Suspended) (to : ℕ) (rest : List Command) (e' : Environment) where
  abbrev S : Sight
  S = sight w h

  abbrev names : ℕ → Value
  names = (h.thread k).top.values

  pub give_keeps : (x y : ℕ) (place : _) → (point : AtRule p w h H k f below (The_command to (Give_op x y) place) rest) → GivesBlock w.heap.at (f.env x) (f.env y) w'.heap.at → (binds : Binds f.env to (Int_value 0) e') → Puts (slice_get w.threads) k (Running (next f e' rest) below) (slice_get w'.threads) → Onward p w' h k (then_part p w w' h H k f below (The_command to (Give_op x y) place) rest point (Int_value 0) e' binds)
  give_keeps x y place point gives binds puts = (h', change_held p w w' h H h' (Of_thread k) (Of_adopted b) mine used.one change, λ m. refl)
    where
      b : ℕ
      b = gives.both.block

      a : ℕ
      a = gives.both.adopter

      R : List (Atom ℕ)
      R = point.st.top.state

      rule : (z : Atom ℕ) × Gives Any_copy (decls_of p) R to x y z point.d.state
      rule = give_rule (decls_of p) R to x y point.d.uses point.d.state point.d.does.rule

      u : ℕ
      u = rule.1.adopted

      used : Split (Means (decls_of p) S (Has_atom (names x) (Named_type u))) (MeansAll (decls_of p) S (map (map_atom names) rule.1.rest)) point.st.top_owns
      used = take_out (decls_of p) S (map_atom names) (Has_atom x (Named_type u)) R rule.1.rest point.st.top_owns rule.1.taken point.means

      pool : (g : Owned) × Means (decls_of p) S (map_atom names rule.0) g × ((t : ℕ) → g t ≤ used.two t)
      pool = look_up (decls_of p) S (map_atom names) rule.0 rule.1.rest used.two rule.1.held used.second_part

      ad : Adopts (decls_of p) S (names y) u pool.0
      ad = adopts_inv (decls_of p) L S names y u rule.0 pool.0 rule.1.adopter pool.1

      a_is : ad.block ≡ a
      a_is = block_is ad.is (point.st.top.env y point.core.1.0 ∙ gives.both.is_adopter)

      clause_a : h.clause a ≡ Some u
      clause_a = subst (λ n. h.clause n ≡ Some u) a_is ad.clause_is

      x_is : names x ≡ Block_value b
      x_is = point.st.top.env x point.core.0.0 ∙ gives.both.is_block

      own_b : 0 < used.one b
      own_b = (let m = mutable_owned (decls_of p) L S names (names x) u used.one (H.heap.clauses a u clause_a) used.first_part in subst (λ n. 0 < used.one n) (block_is m.1 x_is) m.2)

      was : w.heap.at b ≡ Some (Block_cell gives.both.con None gives.both.fields)
      was = gives.both.made ∙ ap (λ o. Some (Block_cell gives.both.con o gives.both.fields)) gives.free

      h' : Holding
      h' = record { clause = h.clause; hides = h.hides; thread = at_only k (then_part p w w' h H k f below (The_command to (Give_op x y) place) rest point (Int_value 0) e' binds) h.thread }

      stays : (o : Owned) → Stays (decls_of p) S (sight w' h') o
      stays o = held_stays (decls_of p) S w'.heap.at b gives.both.con None (Some a) gives.both.fields was gives.puts o

      mine : Owned
      mine t = used.two t + point.st.below_owns t

      mine_b : mine b ≡ 0
      mine_b = let i = point.st.join b in let j = used.join b in let o = own_b in let q = H.heap.fair.once (Of_thread k) b in omega arith

      others_b : (o : Owner) → (o ≡ Of_thread k → ⊥) → H.own o b ≡ 0
      others_b o n = zero_by (H.own o b) (λ z. n (H.heap.fair.apart o (Of_thread k) b z (let i = point.st.join b in let j = used.join b in let o = own_b in omega arith)))

      fresh : occurs to (rule.1.rest ++ Has_atom x Dynamic_type ∷ []) ≡ false
      fresh = not_true (λ o. elim (append_occurs to rule.1.rest (Has_atom x Dynamic_type ∷ []) o) [
        | inl q ↦ true_false (take_occurs to (Has_atom x (Named_type u)) R rule.1.rest rule.1.taken q) point.d.does.new
        | inr q ↦ elim (where_occurs to (Has_atom x Dynamic_type) [] q) [
          | inl z ↦ true_false (in_occurs to (Has_atom x (Named_type u)) R (in_of (Has_atom x (Named_type u)) R rule.1.rest rule.1.taken) z) point.d.does.new
          | inr z ↦ true_false z refl
        ]
      ])

      state : MeansAll (decls_of p) (sight w' h') (map (map_atom (at_only to (Int_value 0) names)) point.d.state) used.two
      state = subst (λ q. MeansAll (decls_of p) (sight w' h') (map (map_atom (at_only to (Int_value 0) names)) q) used.two) (sym rule.1.new)
          (all_end (decls_of p) (sight w' h') (map_atom (at_only to (Int_value 0) names)) (rule.1.rest ++ Has_atom x Dynamic_type ∷ []) (Has_atom to Unknown_type) used.two used.two (λ t. 0)
          (subst (λ q. MeansAll (decls_of p) (sight w' h') q used.two) (sym (bound_share names to (Int_value 0) (rule.1.rest ++ Has_atom x Dynamic_type ∷ []) fresh))
          (all_end (decls_of p) (sight w' h') (map_atom names) rule.1.rest (Has_atom x Dynamic_type) used.two used.two (λ t. 0) (all_stay (decls_of p) S (sight w' h') used.second_part (stays used.two)) (Means_dynamic b x_is (record { adopter = Some a; made = gives.puts.put }) (λ t. refl)) (λ t. omega arith)))
          (Means_unknown (λ t. refl)) (λ t. omega arith))

      stack : StackIsHeld (decls_of p) (sight w' h') (next f e' rest) below (then_part p w w' h H k f below (The_command to (Give_op x y) place) rest point (Int_value 0) e' binds) mine
      stack = then_stack p w w' h H k f below (The_command to (Give_op x y) place) rest point (Int_value 0) e' binds (sight w' h') used.two state (stays point.st.below_owns)

      had : (o : Owner) (t : ℕ) → 0 < with_two (Of_thread k) mine (Of_adopted b) used.one H.own o t → (0 < H.own (Of_thread k) t × ((b ≡ t → ⊥) ⊎ (o ≡ Of_adopted b))) ⊎ ((b ≡ t → ⊥) × (0 < H.own o t))
      had = who_has H.own (Of_thread k) (Of_adopted b) mine used.one (λ o t. (0 < H.own (Of_thread k) t × ((b ≡ t → ⊥) ⊎ (o ≡ Of_adopted b))) ⊎ ((b ≡ t → ⊥) × (0 < H.own o t)))
          (λ t z. inl (let i = point.st.join t in let j = used.join t in omega arith, inl (λ e. (let q = subst (λ n. mine n ≡ 0) e mine_b in omega (arith, q, z)))))
          (λ t z. inl (let i = point.st.join t in let j = used.join t in omega arith, inr refl))
          (λ o t n m z. inr (λ e. (let q = subst (λ n. H.own o n ≡ 0) e (others_b o n) in omega (arith, q, z)), z)) thread_pool

      lock_no : (t : ℕ) → Of_lock t ≡ Of_adopted b → ⊥
      lock_no t e = lock_adopted e

      change : Change p w w' h H h' (Of_thread k) (Of_adopted b) mine used.one
      change = record {
        fair = two_fair H.own (Of_thread k) (Of_adopted b) mine used.one H.heap.fair thread_pool (λ t. inl (let i = point.st.join t in let j = used.join t in omega arith));
        real = λ o t z. (let r : (c : Cell) × (w.heap.at t ≡ Some c) = elim (had o t z) [ inl q ↦ H.heap.real (Of_thread k) t q.0 | inr q ↦ H.heap.real o t q.1 ] in there (decls_of p) S w'.heap.at b gives.both.con None (Some a) gives.both.fields was gives.puts t r.0 r.1);
        stays = λ o n m. stays (H.own o);
        adoptees = λ z s v i. elim (cases_eq z b) [
          | inl e ↦ inr (subst (λ n. Means (decls_of p) (sight w' h') (Has_atom (Block_value n) (Named_type v)) (with_two (Of_thread k) mine (Of_adopted b) used.one H.own (Of_adopted n))) (sym e)
              (subst (λ o. Means (decls_of p) (sight w' h') (Has_atom (Block_value b) (Named_type v)) o) (sym (two_second (Of_thread k) (Of_adopted b) mine used.one H.own thread_pool))
              (subst (λ n. Means (decls_of p) (sight w' h') (Has_atom (Block_value b) (Named_type n)) used.one) (some_inj (sym clause_a ∙ subst (λ n. h.clause n ≡ Some v) (some_inj (cell_adopter (subst (λ n. w'.heap.at n ≡ Some (Block_cell i.con (Some s) i.fields)) e i.adopted) gives.puts.put)) i.adopts))
              (subst (λ q. Means (decls_of p) (sight w' h') (Has_atom q (Named_type u)) used.one) x_is (means_stays (decls_of p) S (sight w' h') used.first_part (stays used.one))))))
          | inr n ↦ inl (adopted_not, λ q. n (pool_is q), record { con = i.con; fields = i.fields; adopted = sym (gives.puts.others z n) ∙ i.adopted; other = i.other; more = i.more; pool = block_back (decls_of p) S w'.heap.at b gives.both.con None (Some a) gives.both.fields was gives.puts s i.other i.more i.pool; mutable = i.mutable; adopts = i.adopts })
        ];
        locks = λ l q e i. inl (lock_not, lock_adopted, lock_back (decls_of p) S w'.heap.at b gives.both.con None (Some a) gives.both.fields was gives.puts l false e, i);
        tokens = λ o l e. zero_by (with_two (Of_thread k) mine (Of_adopted b) used.one H.own o l) (λ z. (let free = lock_back (decls_of p) S w'.heap.at b gives.both.con None (Some a) gives.both.fields was gives.puts l false e in
            elim (had o l z) [ inl q ↦ (let c = H.heap.tokens (Of_thread k) l free in let d = q.0 in omega (arith, c, d)) | inr q ↦ (let c = H.heap.tokens o l free in let d = q.1 in omega (arith, c, d)) ]));
        free = λ o t c s vs z i e. elim (had o t z) [
          | inl q ↦ elim (cases_eq b t) [
            | inl m ↦ elim q.1 [ inl n ↦ n m | inr n ↦ i (n ∙ ap Of_adopted m) ]
            | inr m ↦ H.heap.free (Of_thread k) t c s vs q.0 thread_pool (sym (gives.puts.others t (λ r. m (sym r))) ∙ e)
          ]
          | inr q ↦ H.heap.free o t c s vs q.1 i (sym (gives.puts.others t (λ r. q.0 (sym r))) ∙ e)
        ];
        adopters = λ z s c vs e. pool_on (decls_of p) S w'.heap.at b gives.both.con None (Some a) gives.both.fields was gives.puts s (elim (cases_eq z b) [
          | inl m ↦ subst (λ n. IsPool (decls_of p) S n) (some_inj (cell_adopter gives.puts.put (subst (λ n. w'.heap.at n ≡ Some (Block_cell c (Some s) vs)) m e))) (record { con = ad.con; fields = ad.fields; made = subst (λ n. IsBlock w.heap.at n ad.con ad.fields) a_is ad.made; adopts = λ i q. none_not q clause_a })
          | inr n ↦ H.heap.adopters z s c vs (sym (gives.puts.others z n) ∙ e)
        ]);
        hidden = λ l q e. let r = H.heap.hidden l q e in (r.0, lock_on (decls_of p) S w'.heap.at b gives.both.con None (Some a) gives.both.fields was gives.puts l r.0 r.1);
        clauses = H.heap.clauses;
        threads = threads_else p w w' h H k (Running (next f e' rest) below) (then_part p w w' h H k f below (The_command to (Give_op x y) place) rest point (Int_value 0) e' binds) (sight w' h') (Of_adopted b) mine used.one (λ j. thread_pool) puts stack;
        none = none_else p w w' h H k (Running (next f e' rest) below) (then_part p w w' h H k f below (The_command to (Give_op x y) place) rest point (Int_value 0) e' binds) (sight w' h') (Of_adopted b) mine used.one (λ j. thread_pool) puts stack;
      }

  pub take_keeps : (x y : ℕ) (place : _) → (point : AtRule p w h H k f below (The_command to (Take_op x y) place) rest) → TakesBlock w.heap.at (f.env x) (f.env y) w'.heap.at → (binds : Binds f.env to (Int_value 0) e') → Puts (slice_get w.threads) k (Running (next f e' rest) below) (slice_get w'.threads) → Onward p w' h k (then_part p w w' h H k f below (The_command to (Take_op x y) place) rest point (Int_value 0) e' binds)
  take_keeps x y place point takes binds puts = (h', change_held p w w' h H h' (Of_thread k) (Of_adopted b) mine none change, λ m. refl)
    where
      b : ℕ
      b = takes.both.block

      a : ℕ
      a = takes.both.adopter

      R : List (Atom ℕ)
      R = point.st.top.state

      rule : (z : Atom ℕ) × Takes (decls_of p) R to x y z point.d.state
      rule = take_rule (decls_of p) R to x y point.d.uses point.d.state point.d.does.rule

      u : ℕ
      u = rule.1.adopted

      pool : (g : Owned) × Means (decls_of p) S (map_atom names rule.0) g × ((t : ℕ) → g t ≤ point.st.top_owns t)
      pool = look_up (decls_of p) S (map_atom names) rule.0 R point.st.top_owns rule.1.held point.means

      ad : Adopts (decls_of p) S (names y) u pool.0
      ad = adopts_inv (decls_of p) L S names y u rule.0 pool.0 rule.1.adopter pool.1

      a_is : ad.block ≡ a
      a_is = block_is ad.is (point.st.top.env y point.core.1.0 ∙ takes.both.is_adopter)

      x_is : names x ≡ Block_value b
      x_is = point.st.top.env x point.core.0.0 ∙ takes.both.is_block

      was : w.heap.at b ≡ Some (Block_cell takes.both.con (Some a) takes.both.fields)
      was = takes.both.made ∙ ap (λ o. Some (Block_cell takes.both.con o takes.both.fields)) takes.its

      its : IsAdopted (decls_of p) S b a u
      its = record { con = takes.both.con; fields = takes.both.fields; adopted = was; other = ad.con; more = ad.fields; pool = subst (λ n. IsBlock w.heap.at n ad.con ad.fields) a_is ad.made; mutable = ad.mutable; adopts = subst (λ n. h.clause n ≡ Some u) a_is ad.clause_is }

      got : Owned
      got = H.own (Of_adopted b)

      h' : Holding
      h' = record { clause = h.clause; hides = h.hides; thread = at_only k (then_part p w w' h H k f below (The_command to (Take_op x y) place) rest point (Int_value 0) e' binds) h.thread }

      stays : (o : Owned) → Stays (decls_of p) S (sight w' h') o
      stays o = held_stays (decls_of p) S w'.heap.at b takes.both.con (Some a) None takes.both.fields was takes.puts o

      none : Owned
      none t = 0

      top : Owned
      top t = point.st.top_owns t + got t

      mine : Owned
      mine t = top t + point.st.below_owns t

      fresh : occurs to (R ++ Has_atom x (Named_type u) ∷ []) ≡ false
      fresh = not_true (λ o. elim (append_occurs to R (Has_atom x (Named_type u) ∷ []) o) [
        | inl q ↦ true_false q point.d.does.new
        | inr q ↦ elim (where_occurs to (Has_atom x (Named_type u)) [] q) [ inl z ↦ true_false (in_occurs to (Has_atom x Dynamic_type) R rule.1.may_ask z) point.d.does.new | inr z ↦ true_false z refl ]
      ])

      state : MeansAll (decls_of p) (sight w' h') (map (map_atom (at_only to (Int_value 0) names)) point.d.state) top
      state = subst (λ q. MeansAll (decls_of p) (sight w' h') (map (map_atom (at_only to (Int_value 0) names)) q) top) (sym rule.1.new)
          (all_end (decls_of p) (sight w' h') (map_atom (at_only to (Int_value 0) names)) (R ++ Has_atom x (Named_type u) ∷ []) (Has_atom to Unknown_type) top top (λ t. 0)
          (subst (λ q. MeansAll (decls_of p) (sight w' h') q top) (sym (bound_share names to (Int_value 0) (R ++ Has_atom x (Named_type u) ∷ []) fresh))
          (all_end (decls_of p) (sight w' h') (map_atom names) R (Has_atom x (Named_type u)) top point.st.top_owns got (all_stay (decls_of p) S (sight w' h') point.means (stays point.st.top_owns))
          (subst (λ q. Means (decls_of p) (sight w' h') (Has_atom q (Named_type u)) got) (sym x_is) (means_stays (decls_of p) S (sight w' h') (H.heap.adoptees b a u its) (stays got))) (λ t. refl)))
          (Means_unknown (λ t. refl)) (λ t. omega arith))

      stack : StackIsHeld (decls_of p) (sight w' h') (next f e' rest) below (then_part p w w' h H k f below (The_command to (Take_op x y) place) rest point (Int_value 0) e' binds) mine
      stack = then_stack p w w' h H k f below (The_command to (Take_op x y) place) rest point (Int_value 0) e' binds (sight w' h') top state (stays point.st.below_owns)

      had : (o : Owner) (t : ℕ) → 0 < with_two (Of_thread k) mine (Of_adopted b) none H.own o t → (0 < H.own o t) ⊎ (0 < H.own (Of_adopted b) t)
      had = who_has H.own (Of_thread k) (Of_adopted b) mine none (λ o t. (0 < H.own o t) ⊎ (0 < H.own (Of_adopted b) t))
          (λ t z. elim (cases_eq (H.own (Of_adopted b) t) 0) [ inl e ↦ inl (let i = point.st.join t in omega arith) | inr e ↦ inr (omega arith) ])
          (λ t z. absurd (omega (arith, z))) (λ o t n m z. inl z) thread_pool

      change : Change p w w' h H h' (Of_thread k) (Of_adopted b) mine none
      change = record {
        fair = two_fair H.own (Of_thread k) (Of_adopted b) mine none H.heap.fair thread_pool (λ t. inl (let i = point.st.join t in omega arith));
        real = λ o t z. (let r : (c : Cell) × (w.heap.at t ≡ Some c) = elim (had o t z) [ inl q ↦ H.heap.real o t q | inr q ↦ H.heap.real (Of_adopted b) t q ] in there (decls_of p) S w'.heap.at b takes.both.con (Some a) None takes.both.fields was takes.puts t r.0 r.1);
        stays = λ o n m. stays (H.own o);
        adoptees = λ z s v i. (let n : z ≢ b = λ e. block_some takes.puts.put (subst (λ n. w'.heap.at n ≡ Some (Block_cell i.con (Some s) i.fields)) e i.adopted) in
            inl (adopted_not, λ q. n (pool_is q), record { con = i.con; fields = i.fields; adopted = sym (takes.puts.others z n) ∙ i.adopted; other = i.other; more = i.more; pool = block_back (decls_of p) S w'.heap.at b takes.both.con (Some a) None takes.both.fields was takes.puts s i.other i.more i.pool; mutable = i.mutable; adopts = i.adopts }));
        locks = λ l q e i. inl (lock_not, lock_adopted, lock_back (decls_of p) S w'.heap.at b takes.both.con (Some a) None takes.both.fields was takes.puts l false e, i);
        tokens = λ o l e. zero_by (with_two (Of_thread k) mine (Of_adopted b) none H.own o l) (λ z. (let free = lock_back (decls_of p) S w'.heap.at b takes.both.con (Some a) None takes.both.fields was takes.puts l false e in
            elim (had o l z) [ inl q ↦ (let c = H.heap.tokens o l free in omega (arith, c, q)) | inr q ↦ (let c = H.heap.tokens (Of_adopted b) l free in omega (arith, c, q)) ]));
        free = λ o t c s vs z i e. (let n : t ≢ b = λ m. block_some takes.puts.put (subst (λ n. w'.heap.at n ≡ Some (Block_cell c (Some s) vs)) m e) in
            let e2 = sym (takes.puts.others t n) ∙ e in
            elim (had o t z) [ inl q ↦ H.heap.free o t c s vs q i e2 | inr q ↦ H.heap.free (Of_adopted b) t c s vs q (λ m. n (sym (pool_is m))) e2 ]);
        adopters = λ z s c vs e. (let n : z ≢ b = λ m. block_some takes.puts.put (subst (λ n. w'.heap.at n ≡ Some (Block_cell c (Some s) vs)) m e) in
            pool_on (decls_of p) S w'.heap.at b takes.both.con (Some a) None takes.both.fields was takes.puts s (H.heap.adopters z s c vs (sym (takes.puts.others z n) ∙ e)));
        hidden = λ l q e. let r = H.heap.hidden l q e in (r.0, lock_on (decls_of p) S w'.heap.at b takes.both.con (Some a) None takes.both.fields was takes.puts l r.0 r.1);
        clauses = H.heap.clauses;
        threads = threads_else p w w' h H k (Running (next f e' rest) below) (then_part p w w' h H k f below (The_command to (Take_op x y) place) rest point (Int_value 0) e' binds) (sight w' h') (Of_adopted b) mine none (λ j. thread_pool) puts stack;
        none = none_else p w w' h H k (Running (next f e' rest) below) (then_part p w w' h H k f below (The_command to (Take_op x y) place) rest point (Int_value 0) e' binds) (sight w' h') (Of_adopted b) mine none (λ j. thread_pool) puts stack;
      }
