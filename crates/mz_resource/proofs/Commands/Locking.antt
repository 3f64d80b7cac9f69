-- A new lock: what it guards goes from the thread to the lock.
use Rattle.std.proofs.Common.{◌≡◌, ◌⊎◌, inl, inr, ◌||◌, ℕ, ◌+◌, ◌<◌, Bool, true, false, List, [], ◌∷◌, ◌++◌, map, Option, Some, None, slice_get, refl, sym, ap, ◌∙◌, subst, arith}
use Rattle.std.proofs.lemmas.Bool.{cases_eq}
use Rattle.mz_tree.specs.Plain.{Atom, Atoms, Int_type, Unknown_type, Dynamic_type, Locked_type, Named_type, Function_type, Block_type, Lock_type, Has_atom, Same_atom, No_atoms, More_atoms, map_atom, map_atoms, list_of, atoms_of}
use Rattle.mz_tree.specs.Programs.{Program}
use Rattle.mz_tree.specs.Code.{Command, The_command, New_lock_op, Acquire_op, Release_op}
use Rattle.mz_decl.specs.Declarations.{Decls, decls_of}
use Rattle.mz_perm.specs.Using.{UsesUpAll}
use Rattle.mz_perm.specs.Occurrence.{in_atom, in_guarded, occurs}
use Rattle.mz_perm.specs.Lists.{Any_copy}
use Rattle.mz_modes.specs.Affine.{AffineAtom}
use Rattle.mz_lockrule.specs.Locking.{Locks, Acquires, Releases, IsLock}
use Rattle.mz_deriv.specs.Rules.{Rule}
use Rattle.mz_named.specs.Configurations.{Value, Cell, Block_cell, Lock_cell, Environment, Frame, Suspended, Running, Config}
use Rattle.mz_named.specs.Bodies.{Binds, Puts}
use Rattle.mz_named.specs.Operations.{IsBlock, Fresh}
use Rattle.mz_named.specs.Steps.{next}
use Rattle.mz_resource.specs.Meaning.{Owned, Sight, Means, Means_lock, MeansAll}
use Rattle.mz_resource.specs.Frames.{ThreadHolding, StackIsHeld}
use Rattle.mz_resource.specs.Held.{Holding, sight, Held}
use Rattle.mz_resource.specs.Owners.{Owner, Of_thread, Of_adopted, Of_lock, IsAdopted, IsPool}
use Rattle.mz_resource.proofs.Facts.{some_is, none_some, zero_by}
use Rattle.mz_resource.proofs.Meaning.Names.{atoms_agree, atoms_back, list_named}
use Rattle.mz_perm.proofs.Orders.{used_in}
use Rattle.mz_resource.proofs.Meaning.Owning.{Split, all_end}
use Rattle.mz_resource.proofs.Meaning.Staying.{Stays, all_stay}
use Rattle.mz_resource.proofs.Meaning.Spending.{use_all, use_occurs, fresh_after, in_occurs, where_occurs, head_occurs, tail_occurs, true_false}
use Rattle.mz_resource.proofs.Threads.Quiet.{at_only, at_it, at_others, adopted_not, lock_not, Onward}
use Rattle.mz_resource.proofs.Threads.Standing.{bound_share}
use Rattle.mz_resource.proofs.Owners.Handing.{two_fair, with_two, two_second}
use Rattle.mz_resource.proofs.Owners.Changing.{Change, change_held, who_has, threads_else, none_else}
use Rattle.mz_resource.proofs.Owners.Heaps.{block_lock, fresh_stays}
use Rattle.mz_resource.proofs.Commands.Ruled.{AtRule, then_part, then_stack}

-- what occurs in what a lock guards
pub guarded_list : (y : ℕ) (p : Atoms ℕ) → in_guarded y p ≡ occurs y (list_of p)
guarded_list y No_atoms = refl
guarded_list y (More_atoms a p) = ap (λ b. in_atom y a || b) (guarded_list y p)

pub uses_in : (D : Decls) (y : ℕ) (p R T : List (Atom ℕ)) → UsesUpAll (AffineAtom D) p R T → occurs y p ≡ true → occurs y R ≡ true
uses_in D y [] R T u o = absurd (true_false o refl)
uses_in D y (a ∷ p) R T u o = elim (where_occurs y a p o) [
  | inl q ↦ in_occurs y a R (used_in (AffineAtom D) a R u.0 u.1) q
  | inr q ↦ use_occurs D y a R u.0 u.1 (uses_in D y p u.0 T u.2 q)
]

pub append_occurs : (y : ℕ) (R T : List (Atom ℕ)) → occurs y (R ++ T) ≡ true → (occurs y R ≡ true) ⊎ (occurs y T ≡ true)
append_occurs y [] T o = inr o
append_occurs y (a ∷ R) T o = elim (where_occurs y a (R ++ T) o) [
  | inl q ↦ inl (head_occurs y a R q)
  | inr q ↦ elim (append_occurs y R T q) [ inl z ↦ inl (tail_occurs y a R z) | inr z ↦ inr z ]
]

pub lock_thread : {l k : ℕ} → Of_thread k ≡ Of_lock l → ⊥
lock_thread e = cc

pub lock_adopted : {l x : ℕ} → Of_adopted x ≡ Of_lock l → ⊥
lock_adopted e = cc

pub lock_is : {l x : ℕ} → Of_lock x ≡ Of_lock l → x ≡ l
lock_is e = cc

-- a permission for a lock
pub lock_atom : (l : ℕ) (a : Atom ℕ) (all : List (Atom ℕ)) → IsLock l a all → (p : Atoms ℕ) × (a ≡ Has_atom l (Lock_type p)) × (all ≡ list_of p)
lock_atom l (Has_atom x (Lock_type p)) all k = (p, ap (λ n. Has_atom n (Lock_type p)) k.0, k.1)
lock_atom l (Has_atom x Int_type) all k = absurd k.1
lock_atom l (Has_atom x Unknown_type) all k = absurd k.1
lock_atom l (Has_atom x Dynamic_type) all k = absurd k.1
lock_atom l (Has_atom x Locked_type) all k = absurd k.1
lock_atom l (Has_atom x (Named_type d)) all k = absurd k.1
lock_atom l (Has_atom x (Function_type d)) all k = absurd k.1
lock_atom l (Has_atom x (Block_type con ys c)) all k = absurd k.1
lock_atom l (Same_atom x y) all k = absurd k

-- adoption where a lock's cell changes
module _ (D : Decls) (S S' : Sight) (l : ℕ) (held : Bool) (puts : Puts S.at l (Lock_cell held) S'.at) (no_block : (con : ℕ) (vs : List Value) → IsBlock S.at l con vs → ⊥) (clauses : (m : ℕ) → S'.clause m ≡ S.clause m) where
  not_here : (x con : ℕ) (o : Option ℕ) (vs : List Value) → S'.at x ≡ Some (Block_cell con o vs) → x ≡ l → ⊥
  not_here x con o vs e q = block_lock (subst (λ n. S'.at n ≡ Some (Block_cell con o vs)) q e) puts.put

  pub cell_back : (x con : ℕ) (o : Option ℕ) (vs : List Value) → S'.at x ≡ Some (Block_cell con o vs) → S.at x ≡ Some (Block_cell con o vs)
  cell_back x con o vs e = sym (puts.others x (not_here x con o vs e)) ∙ e

  pub adopted_back : (x y u : ℕ) → IsAdopted D S' x y u → IsAdopted D S x y u
  adopted_back x y u a = record { con = a.con; fields = a.fields; adopted = cell_back x a.con (Some y) a.fields a.adopted; other = a.other; more = a.more; pool = record { adopter = a.pool.adopter; made = cell_back y a.other a.pool.adopter a.more a.pool.made }; mutable = a.mutable; adopts = sym (clauses y) ∙ a.adopts }

  pub pool_on : (y : ℕ) → IsPool D S y → IsPool D S' y
  pool_on y r = record { con = r.con; fields = r.fields; made = record { adopter = r.made.adopter; made = puts.others y (λ e. no_block r.con r.fields (subst (λ n. IsBlock S.at n r.con r.fields) e r.made)) ∙ r.made.made }; adopts = λ m z. r.adopts m (sym (clauses y) ∙ z) }

new_lock_rule : (D : Decls) (R : List (Atom ℕ)) (c : ℕ) (g : List (Atom ℕ)) (uses : Option (Atom ℕ)) (T : List (Atom ℕ)) → Rule D R c (New_lock_op g) uses T → Locks Any_copy D R c g T
new_lock_rule D R c g None T r = r
new_lock_rule D R c g (Some a) T r = absurd r

pub release_rule : (D : Decls) (R : List (Atom ℕ)) (c l : ℕ) (uses : Option (Atom ℕ)) (T : List (Atom ℕ)) → Rule D R c (Release_op l) uses T → (a : Atom ℕ) × Releases Any_copy D R c l a T
release_rule D R c l None T r = absurd r
release_rule D R c l (Some a) T r = (a, r)

pub acquire_rule : (D : Decls) (R : List (Atom ℕ)) (c l : ℕ) (uses : Option (Atom ℕ)) (T : List (Atom ℕ)) → Rule D R c (Acquire_op l) uses T → (a : Atom ℕ) × Acquires R c l a T
acquire_rule D R c l None T r = absurd r
acquire_rule D R c l (Some a) T r = (a, r)

module _ (p : Program) (w w' : Config) (h : Holding) (H : Held p w h) (k : ℕ) (f : Frame) (below : List Suspended) (to : ℕ) (rest : List Command) (e' : Environment) where
  pub new_lock_keeps : (guarded : List (Atom ℕ)) (place : _) (v : Value) → (point : AtRule p w h H k f below (The_command to (New_lock_op guarded) place) rest) → Fresh w.heap.at (Lock_cell false) v w'.heap.at → (binds : Binds f.env to v e') → Puts (slice_get w.threads) k (Running (next f e' rest) below) (slice_get w'.threads) → Onward p w' h k (then_part p w w' h H k f below (The_command to (New_lock_op guarded) place) rest point v e' binds)
  new_lock_keeps guarded place v point new binds puts = (h', change_held p w w' h H h' (Of_thread k) (Of_lock l) mine used.one change, λ m. refl)
    where
      S : Sight
      S = sight w h

      names : ℕ → Value
      names = (h.thread k).top.values

      R : List (Atom ℕ)
      R = point.st.top.state

      l : ℕ
      l = new.name

      rule : Locks Any_copy (decls_of p) R to guarded point.d.state
      rule = new_lock_rule (decls_of p) R to guarded point.d.uses point.d.state point.d.does.rule

      used : Split (MeansAll (decls_of p) S (map (map_atom names) guarded)) (MeansAll (decls_of p) S (map (map_atom names) rule.rest)) point.st.top_owns
      used = use_all (decls_of p) S names guarded R rule.rest point.st.top_owns rule.used point.means

      hidden : Atoms Value
      hidden = map_atoms names (atoms_of guarded)

      names' : ℕ → Value
      names' = at_only to v names

      q' : ThreadHolding
      q' = then_part p w w' h H k f below (The_command to (New_lock_op guarded) place) rest point v e' binds

      h' : Holding
      h' = record { clause = h.clause; hides = at_only l (Some hidden) h.hides; thread = at_only k q' h.thread }

      S' : Sight
      S' = sight w' h'

      hides_on : (m : ℕ) (q : Atoms Value) → h.hides m ≡ Some q → at_only l (Some hidden) h.hides m ≡ Some q
      hides_on m q e = at_others l m (Some hidden) h.hides (λ z. none_some (subst (λ n. w.heap.at n ≡ None) z new.free) (H.heap.hidden m q e).1) ∙ e

      stays : (o : Owned) → Stays (decls_of p) S S' o
      stays o = fresh_stays (decls_of p) S S' l (Lock_cell false) new.puts (λ m n. refl) hides_on o new.free

      -- the lock's own name isn't among what it guards
      apart : (x : ℕ) → in_guarded x (atoms_of guarded) ≡ true → names x ≡ names' x
      apart x o = sym (at_others to x v names (λ e. true_false (uses_in (decls_of p) to guarded R rule.rest rule.used (subst (λ n. occurs n guarded ≡ true) (sym e) (sym (ap (λ q. occurs x q) (atoms_back guarded)) ∙ sym (guarded_list x (atoms_of guarded)) ∙ o))) point.d.does.new))

      lock : Means (decls_of p) S' (map_atom names' (Has_atom to (Lock_type (atoms_of guarded)))) (λ t. 0)
      lock = Means_lock l (at_it to v names ∙ new.is) (at_it l (Some hidden) h.hides ∙ ap Some (atoms_agree names names' (atoms_of guarded) apart)) (λ t. refl)

      state : MeansAll (decls_of p) S' (map (map_atom names') point.d.state) used.two
      state = subst (λ q. MeansAll (decls_of p) S' (map (map_atom names') q) used.two) (sym rule.new)
          (all_end (decls_of p) S' (map_atom names') rule.rest (Has_atom to (Lock_type (atoms_of guarded))) used.two used.two (λ t. 0)
          (subst (λ q. MeansAll (decls_of p) S' q used.two) (sym (bound_share names to v rule.rest (fresh_after (decls_of p) to guarded R rule.rest rule.used point.d.does.new))) (all_stay (decls_of p) S S' used.second_part (stays used.two)))
          lock (λ t. omega arith))

      mine : Owned
      mine t = used.two t + point.st.below_owns t

      stack : StackIsHeld (decls_of p) S' (next f e' rest) below q' mine
      stack = then_stack p w w' h H k f below (The_command to (New_lock_op guarded) place) rest point v e' binds S' used.two state (stays point.st.below_owns)

      had : (o : Owner) (t : ℕ) → 0 < with_two (Of_thread k) mine (Of_lock l) used.one H.own o t → (0 < H.own o t) ⊎ (0 < H.own (Of_thread k) t)
      had = who_has H.own (Of_thread k) (Of_lock l) mine used.one (λ o t. (0 < H.own o t) ⊎ (0 < H.own (Of_thread k) t))
          (λ t z. inl (let a = point.st.join t in let b = used.join t in omega arith)) (λ t z. inr (let a = point.st.join t in let b = used.join t in omega arith)) (λ o t a b z. inl z) lock_thread

      was : (o : Owner) (t : ℕ) → 0 < with_two (Of_thread k) mine (Of_lock l) used.one H.own o t → (c : Cell) × (w.heap.at t ≡ Some c)
      was o t z = elim (had o t z) [ inl a ↦ H.heap.real o t a | inr a ↦ H.heap.real (Of_thread k) t a ]

      there : (t : ℕ) (c : Cell) → w.heap.at t ≡ Some c → w'.heap.at t ≡ Some c
      there t c e = new.puts.others t (λ z. none_some (subst (λ n. w.heap.at n ≡ None) (sym z) new.free) e) ∙ e

      no_block : (con : ℕ) (vs : List Value) → IsBlock w.heap.at l con vs → ⊥
      no_block con vs m = none_some new.free m.made

      change : Change p w w' h H h' (Of_thread k) (Of_lock l) mine used.one
      change = record {
        fair = two_fair H.own (Of_thread k) (Of_lock l) mine used.one H.heap.fair lock_thread (λ t. inl (let a = point.st.join t in let b = used.join t in omega arith));
        real = λ o t z. let r = was o t z in (r.0, there t r.0 r.1);
        stays = λ o a b. stays (H.own o);
        adoptees = λ x y u a. inl (adopted_not, lock_adopted, adopted_back (decls_of p) S S' l false new.puts no_block (λ m. refl) x y u a);
        locks = λ m q e i. elim (cases_eq l m) [
          | inl z ↦ inr (subst (λ n. MeansAll (decls_of p) S' (list_of q) (with_two (Of_thread k) mine (Of_lock l) used.one H.own (Of_lock n))) z
              (subst (λ o. MeansAll (decls_of p) S' (list_of q) o) (sym (two_second (Of_thread k) (Of_lock l) mine used.one H.own lock_thread))
              (subst (λ r. MeansAll (decls_of p) S' r used.one) (sym (list_named names (atoms_of guarded) ∙ ap (map (map_atom names)) (atoms_back guarded)) ∙ ap list_of (some_is (at_it l (Some hidden) h.hides) (subst (λ n. at_only l (Some hidden) h.hides n ≡ Some q) (sym z) i)))
              (all_stay (decls_of p) S S' used.first_part (stays used.one)))))
          | inr z ↦ inl (lock_not, λ y. z (sym (lock_is y)), sym (new.puts.others m (λ y. z (sym y))) ∙ e, sym (at_others l m (Some hidden) h.hides z) ∙ i)
        ];
        tokens = λ o m e. zero_by (with_two (Of_thread k) mine (Of_lock l) used.one H.own o m) (λ z. let r = was o m z in
            let free : w.heap.at m ≡ Some (Lock_cell false) = same_cell r.0 (there m r.0 r.1) r.1 e in
            elim (had o m z) [ inl a ↦ (let b = H.heap.tokens o m free in omega (arith, a, b)) | inr a ↦ (let b = H.heap.tokens (Of_thread k) m free in omega (arith, a, b)) ]);
        free = λ o t con y vs z i e. let r = was o t z in
            let free : w.heap.at t ≡ Some (Block_cell con (Some y) vs) = same_cell r.0 (there t r.0 r.1) r.1 e in
            elim (had o t z) [ inl a ↦ H.heap.free o t con y vs a i free | inr a ↦ H.heap.free (Of_thread k) t con y vs a (λ y. adopted_not (sym y)) free ];
        adopters = λ x y con vs e. pool_on (decls_of p) S S' l false new.puts no_block (λ m. refl) y (H.heap.adopters x y con vs (cell_back (decls_of p) S S' l false new.puts no_block (λ m. refl) x con (Some y) vs e));
        hidden = λ m q e. elim (cases_eq l m) [
          | inl z ↦ (false, subst (λ n. w'.heap.at n ≡ Some (Lock_cell false)) z new.puts.put)
          | inr z ↦ (let r = H.heap.hidden m q (sym (at_others l m (Some hidden) h.hides z) ∙ e) in (r.0, there m (Lock_cell r.0) r.1))
        ];
        clauses = H.heap.clauses;
        threads = threads_else p w w' h H k (Running (next f e' rest) below) q' S' (Of_lock l) mine used.one (λ j. lock_thread) puts stack;
        none = none_else p w w' h H k (Running (next f e' rest) below) q' S' (Of_lock l) mine used.one (λ j. lock_thread) puts stack;
      }
        where
          same_cell : {x y : Option Cell} {b : Cell} (a : Cell) → x ≡ Some a → y ≡ Some a → x ≡ Some b → y ≡ Some b
          same_cell a e g i = cc
