-- A lock is freed: what it guards goes from the thread to the lock, and the token is nobody's. And it is taken: the thread gets both.
use Rattle.std.specs.Prelude.{nat_eq}
use Rattle.std.proofs.Common.{◌≡◌, ◌≢◌, ◌⊎◌, inl, inr, ◌||◌, ℕ, ◌+◌, ◌<◌, ◌≤◌, Bool, true, false, List, [], ◌∷◌, ◌++◌, map, Option, Some, slice_get, refl, sym, ap, ◌∙◌, subst, arith}
use Rattle.std.proofs.lemmas.Bool.{cases_eq}
use Rattle.std.proofs.lemmas.List.{map-append}
use Rattle.mz_tree.specs.Plain.{Atom, Atoms, Unknown_type, Locked_type, Lock_type, Has_atom, map_atom, map_atoms, list_of}
use Rattle.mz_tree.specs.Programs.{Program}
use Rattle.mz_tree.specs.Code.{Command, The_command, Acquire_op, Release_op}
use Rattle.mz_decl.specs.Declarations.{decls_of}
use Rattle.mz_perm.specs.Lists.{In, Any_copy}
use Rattle.mz_perm.specs.Occurrence.{in_guarded, occurs}
use Rattle.mz_lockrule.specs.Locking.{Acquires, Releases}
use Rattle.mz_named.specs.Configurations.{Value, Int_value, Block_value, Cell, Block_cell, Lock_cell, Environment, Frame, Suspended, Running, Config}
use Rattle.mz_named.specs.Bodies.{Binds, Puts}
use Rattle.mz_named.specs.Operations.{IsBlock, TurnsLock}
use Rattle.mz_named.specs.Steps.{next}
use Rattle.mz_resource.specs.Meaning.{Owned, OwnsOnly, one_at, Sight, Means_unknown, Means_locked, MeansAll}
use Rattle.mz_resource.specs.Frames.{StackIsHeld}
use Rattle.mz_resource.specs.Held.{Holding, sight, Held}
use Rattle.mz_resource.specs.Owners.{Owner, Of_thread, Of_lock}
use Rattle.mz_resource.proofs.Facts.{zero_by}
use Rattle.mz_resource.proofs.Meaning.Names.{list_named, or_right}
use Rattle.mz_resource.proofs.Meaning.Owning.{Split, head_of, nothing_of, look_up, all_split, all_both, all_end}
use Rattle.mz_resource.proofs.Meaning.Staying.{Stays, all_stay, one_at_self, one_other}
use Rattle.mz_resource.proofs.Meaning.Spending.{use_all, fresh_after, in_occurs, where_occurs, not_true, true_false}
use Rattle.mz_resource.proofs.Meaning.Inverse.{lock_inv, locked_inv, block_is}
use Rattle.mz_resource.proofs.Threads.Quiet.{at_only, adopted_not, lock_not, Onward}
use Rattle.mz_resource.proofs.Threads.Standing.{bound_share}
use Rattle.mz_resource.proofs.Owners.Handing.{two_fair, with_two, two_second}
use Rattle.mz_resource.proofs.Owners.Changing.{Change, change_held, who_has, threads_else, none_else}
use Rattle.mz_resource.proofs.Owners.Heaps.{block_lock, lock_lock, put_stays}
use Rattle.mz_resource.proofs.Commands.Locking.{guarded_list, append_occurs, lock_thread, lock_adopted, lock_is, lock_atom, cell_back, adopted_back, pool_on, release_rule, acquire_rule}
use Rattle.mz_resource.proofs.Commands.Ruled.{AtRule, then_part, then_stack}

same_atoms : {o : Option (Atoms Value)} {a b : Atoms Value} → o ≡ Some a → o ≡ Some b → a ≡ b
same_atoms e f = cc

module _ (p : Program) (w w' : Config) (h : Holding) (H : Held p w h) (k : ℕ) (f : Frame) (below : List Suspended) (to : ℕ) (rest : List Command) (e' : Environment) where
  abbrev S : Sight
  S = sight w h

  abbrev names : ℕ → Value
  names = (h.thread k).top.values

  pub release_keeps : (lock : ℕ) (place : _) → (point : AtRule p w h H k f below (The_command to (Release_op lock) place) rest) → TurnsLock w.heap.at (f.env lock) true false w'.heap.at → (binds : Binds f.env to (Int_value 0) e') → Puts (slice_get w.threads) k (Running (next f e' rest) below) (slice_get w'.threads) → Onward p w' h k (then_part p w w' h H k f below (The_command to (Release_op lock) place) rest point (Int_value 0) e' binds)
  release_keeps lock place point turns binds puts = (h', change_held p w w' h H h' (Of_thread k) (Of_lock l) mine one change, λ m. refl)
    where
      l : ℕ
      l = turns.name

      R : List (Atom ℕ)
      R = point.st.top.state

      rule : (a : Atom ℕ) × Releases Any_copy (decls_of p) R to lock a point.d.state
      rule = release_rule (decls_of p) R to lock point.d.uses point.d.state point.d.does.rule

      atom : (q : Atoms ℕ) × (rule.0 ≡ Has_atom lock (Lock_type q)) × (rule.1.guarded ≡ list_of q)
      atom = lock_atom lock rule.0 rule.1.guarded rule.1.lock

      value : names lock ≡ Block_value l
      value = point.st.top.env lock point.core.0 ∙ turns.is

      hides : h.hides l ≡ Some (map_atoms names atom.0)
      hides = (let b = lock_inv (decls_of p) S (look_up (decls_of p) S (map_atom names) (Has_atom lock (Lock_type atom.0)) R point.st.top_owns (subst (λ a. In a R) atom.1 rule.1.held) point.means).1 in
          subst (λ n. h.hides n ≡ Some (map_atoms names atom.0)) (block_is b.1 value) b.2)

      used : Split (MeansAll (decls_of p) S (map (map_atom names) (rule.1.guarded ++ Has_atom lock Locked_type ∷ []))) (MeansAll (decls_of p) S (map (map_atom names) rule.1.rest)) point.st.top_owns
      used = use_all (decls_of p) S names (rule.1.guarded ++ Has_atom lock Locked_type ∷ []) R rule.1.rest point.st.top_owns rule.1.used point.means

      both : Split (MeansAll (decls_of p) S (map (map_atom names) rule.1.guarded)) (MeansAll (decls_of p) S (map (map_atom names) (Has_atom lock Locked_type ∷ []))) used.one
      both = all_split (decls_of p) S _ _ used.one (subst (λ q. MeansAll (decls_of p) S q used.one) (map-append (map_atom names) rule.1.guarded (Has_atom lock Locked_type ∷ [])) used.first_part)

      one : Owned
      one = both.one

      token : OwnsOnly l both.two
      token = (let r = head_of (decls_of p) S both.two both.second_part in
          let b = locked_inv (decls_of p) S r.first_part in
          let z = nothing_of (decls_of p) S r.two r.second_part in
          let o = subst (λ n. OwnsOnly n r.one) (block_is b.1 value) b.3 in
          λ t. (let j = r.join t in let y = z t in let x = o t in omega arith))

      h' : Holding
      h' = record { clause = h.clause; hides = h.hides; thread = at_only k (then_part p w w' h H k f below (The_command to (Release_op lock) place) rest point (Int_value 0) e' binds) h.thread }

      S' : Sight
      S' = sight w' h'

      no_block : (con : ℕ) (vs : List Value) → IsBlock w.heap.at l con vs → ⊥
      no_block con vs m = block_lock m.made turns.stood

      stays : (o : Owned) → o l ≡ 0 → Stays (decls_of p) S S' o
      stays o z = put_stays (decls_of p) S S' l (Lock_cell false) turns.puts (λ m n. refl) (λ m q e. e) o (record {
        fixed = λ con vs i m. absurd (no_block con vs m);
        made = λ con vs m. absurd (no_block con vs m);
        owned = λ con vs y m. absurd (no_block con vs m);
        locked = λ y e. absurd (omega (arith, y, z));
      })

      -- thread k has the lock's token once, and no other
      all_of : H.own (Of_thread k) l ≡ 1
      all_of = let a = point.st.join l in let b = used.join l in let c = both.join l in let d = token l in let e = one_at_self l in let z = H.heap.fair.once (Of_thread k) l in omega arith

      one_l : one l ≡ 0
      one_l = let a = point.st.join l in let b = used.join l in let c = both.join l in let d = token l in let e = one_at_self l in let z = all_of in omega arith

      two_l : used.two l ≡ 0
      two_l = let a = point.st.join l in let b = used.join l in let c = both.join l in let d = token l in let e = one_at_self l in let z = all_of in omega arith

      below_l : point.st.below_owns l ≡ 0
      below_l = let a = point.st.join l in let b = used.join l in let c = both.join l in let d = token l in let e = one_at_self l in let z = all_of in omega arith

      others_l : (o : Owner) → (o ≡ Of_thread k → ⊥) → H.own o l ≡ 0
      others_l o n = zero_by (H.own o l) (λ z. n (H.heap.fair.apart o (Of_thread k) l z (let a = all_of in omega arith)))

      mine : Owned
      mine t = used.two t + point.st.below_owns t

      state : MeansAll (decls_of p) S' (map (map_atom (at_only to (Int_value 0) names)) point.d.state) used.two
      state = subst (λ q. MeansAll (decls_of p) S' (map (map_atom (at_only to (Int_value 0) names)) q) used.two) (sym rule.1.new)
          (all_end (decls_of p) S' (map_atom (at_only to (Int_value 0) names)) rule.1.rest (Has_atom to Unknown_type) used.two used.two (λ t. 0)
          (subst (λ q. MeansAll (decls_of p) S' q used.two) (sym (bound_share names to (Int_value 0) rule.1.rest (fresh_after (decls_of p) to (rule.1.guarded ++ Has_atom lock Locked_type ∷ []) R rule.1.rest rule.1.used point.d.does.new))) (all_stay (decls_of p) S S' used.second_part (stays used.two two_l)))
          (Means_unknown (λ t. refl)) (λ t. omega arith))

      stack : StackIsHeld (decls_of p) S' (next f e' rest) below (then_part p w w' h H k f below (The_command to (Release_op lock) place) rest point (Int_value 0) e' binds) mine
      stack = then_stack p w w' h H k f below (The_command to (Release_op lock) place) rest point (Int_value 0) e' binds S' used.two state (stays point.st.below_owns below_l)

      had : (o : Owner) (t : ℕ) → 0 < with_two (Of_thread k) mine (Of_lock l) one H.own o t → (l ≢ t) × ((0 < H.own o t) ⊎ (0 < H.own (Of_thread k) t))
      had = who_has H.own (Of_thread k) (Of_lock l) mine one (λ o t. (l ≢ t) × ((0 < H.own o t) ⊎ (0 < H.own (Of_thread k) t)))
          (λ t z. (λ e. (let a = subst (λ n. used.two n ≡ 0) e two_l in let b = subst (λ n. point.st.below_owns n ≡ 0) e below_l in omega (arith, a, b, z)), inl (let a = point.st.join t in let b = used.join t in omega arith)))
          (λ t z. (λ e. (let a = subst (λ n. one n ≡ 0) e one_l in omega (arith, a, z)), inr (let a = point.st.join t in let b = used.join t in let c = both.join t in omega arith)))
          (λ o t a b z. (λ e. (let c = subst (λ n. H.own o n ≡ 0) e (others_l o a) in omega (arith, c, z)), inl z)) lock_thread

      was : (o : Owner) (t : ℕ) → 0 < with_two (Of_thread k) mine (Of_lock l) one H.own o t → (c : Cell) × (w.heap.at t ≡ Some c)
      was o t z = elim (had o t z).1 [ inl a ↦ H.heap.real o t a | inr a ↦ H.heap.real (Of_thread k) t a ]

      change : Change p w w' h H h' (Of_thread k) (Of_lock l) mine one
      change = record {
        fair = two_fair H.own (Of_thread k) (Of_lock l) mine one H.heap.fair lock_thread (λ t. inl (let a = point.st.join t in let b = used.join t in let c = both.join t in omega arith));
        real = λ o t z. let r = was o t z in (r.0, turns.puts.others t (λ e. (had o t z).0 (sym e)) ∙ r.1);
        stays = λ o a b. stays (H.own o) (others_l o a);
        adoptees = λ x y u a. inl (adopted_not, lock_adopted, adopted_back (decls_of p) S S' l false turns.puts no_block (λ m. refl) x y u a);
        locks = λ m q e i. elim (cases_eq l m) [
          | inl z ↦ inr (subst (λ n. MeansAll (decls_of p) S' (list_of q) (with_two (Of_thread k) mine (Of_lock l) one H.own (Of_lock n))) z
              (subst (λ o. MeansAll (decls_of p) S' (list_of q) o) (sym (two_second (Of_thread k) (Of_lock l) mine one H.own lock_thread))
              (subst (λ r. MeansAll (decls_of p) S' r one) (ap (map (map_atom names)) atom.2 ∙ sym (list_named names atom.0) ∙ ap list_of (same_atoms hides (subst (λ n. h.hides n ≡ Some q) (sym z) i)))
              (all_stay (decls_of p) S S' both.first_part (stays one one_l)))))
          | inr z ↦ inl (lock_not, λ y. z (sym (lock_is y)), sym (turns.puts.others m (λ y. z (sym y))) ∙ e, i)
        ];
        tokens = λ o m e. zero_by (with_two (Of_thread k) mine (Of_lock l) one H.own o m) (λ z. let n = had o m z in
            let free : w.heap.at m ≡ Some (Lock_cell false) = sym (turns.puts.others m (λ y. n.0 (sym y))) ∙ e in
            elim n.1 [ inl a ↦ (let b = H.heap.tokens o m free in omega (arith, a, b)) | inr a ↦ (let b = H.heap.tokens (Of_thread k) m free in omega (arith, a, b)) ]);
        free = λ o t con y vs z i e. let n = had o t z in
            let free : w.heap.at t ≡ Some (Block_cell con (Some y) vs) = sym (turns.puts.others t (λ y. n.0 (sym y))) ∙ e in
            elim n.1 [ inl a ↦ H.heap.free o t con y vs a i free | inr a ↦ H.heap.free (Of_thread k) t con y vs a (λ y. adopted_not (sym y)) free ];
        adopters = λ x y con vs e. pool_on (decls_of p) S S' l false turns.puts no_block (λ m. refl) y (H.heap.adopters x y con vs (cell_back (decls_of p) S S' l false turns.puts no_block (λ m. refl) x con (Some y) vs e));
        hidden = λ m q e. elim (cases_eq l m) [
          | inl z ↦ (false, subst (λ n. w'.heap.at n ≡ Some (Lock_cell false)) z turns.puts.put)
          | inr z ↦ (let r = H.heap.hidden m q e in (r.0, turns.puts.others m (λ y. z (sym y)) ∙ r.1))
        ];
        clauses = H.heap.clauses;
        threads = threads_else p w w' h H k (Running (next f e' rest) below) (then_part p w w' h H k f below (The_command to (Release_op lock) place) rest point (Int_value 0) e' binds) S' (Of_lock l) mine one (λ j. lock_thread) puts stack;
        none = none_else p w w' h H k (Running (next f e' rest) below) (then_part p w w' h H k f below (The_command to (Release_op lock) place) rest point (Int_value 0) e' binds) S' (Of_lock l) mine one (λ j. lock_thread) puts stack;
      }

  pub acquire_keeps : (lock : ℕ) (place : _) → (point : AtRule p w h H k f below (The_command to (Acquire_op lock) place) rest) → TurnsLock w.heap.at (f.env lock) false true w'.heap.at → (binds : Binds f.env to (Int_value 0) e') → Puts (slice_get w.threads) k (Running (next f e' rest) below) (slice_get w'.threads) → Onward p w' h k (then_part p w w' h H k f below (The_command to (Acquire_op lock) place) rest point (Int_value 0) e' binds)
  acquire_keeps lock place point turns binds puts = (h', change_held p w w' h H h' (Of_thread k) (Of_lock l) mine none change, λ m. refl)
    where
      l : ℕ
      l = turns.name

      R : List (Atom ℕ)
      R = point.st.top.state

      rule : (a : Atom ℕ) × Acquires R to lock a point.d.state
      rule = acquire_rule (decls_of p) R to lock point.d.uses point.d.state point.d.does.rule

      atom : (q : Atoms ℕ) × (rule.0 ≡ Has_atom lock (Lock_type q)) × (rule.1.guarded ≡ list_of q)
      atom = lock_atom lock rule.0 rule.1.guarded rule.1.lock

      held : In (Has_atom lock (Lock_type atom.0)) R
      held = subst (λ a. In a R) atom.1 rule.1.held

      value : names lock ≡ Block_value l
      value = point.st.top.env lock point.core.0 ∙ turns.is

      hides : h.hides l ≡ Some (map_atoms names atom.0)
      hides = (let b = lock_inv (decls_of p) S (look_up (decls_of p) S (map_atom names) (Has_atom lock (Lock_type atom.0)) R point.st.top_owns held point.means).1 in
          subst (λ n. h.hides n ≡ Some (map_atoms names atom.0)) (block_is b.1 value) b.2)

      h' : Holding
      h' = record { clause = h.clause; hides = h.hides; thread = at_only k (then_part p w w' h H k f below (The_command to (Acquire_op lock) place) rest point (Int_value 0) e' binds) h.thread }

      S' : Sight
      S' = sight w' h'

      no_block : (con : ℕ) (vs : List Value) → IsBlock w.heap.at l con vs → ⊥
      no_block con vs m = block_lock m.made turns.stood

      stays : (o : Owned) → Stays (decls_of p) S S' o
      stays o = put_stays (decls_of p) S S' l (Lock_cell true) turns.puts (λ m n. refl) (λ m q e. e) o (record {
        fixed = λ con vs i m. absurd (no_block con vs m);
        made = λ con vs m. absurd (no_block con vs m);
        owned = λ con vs y m. absurd (no_block con vs m);
        locked = λ y e. absurd (lock_lock e turns.stood);
      })

      none : Owned
      none t = 0

      got : Owned
      got t = H.own (Of_lock l) t + one_at l t

      top : Owned
      top t = point.st.top_owns t + got t

      mine : Owned
      mine t = top t + point.st.below_owns t

      guarded : MeansAll (decls_of p) S' (map (map_atom names) rule.1.guarded) (H.own (Of_lock l))
      guarded = subst (λ q. MeansAll (decls_of p) S' q (H.own (Of_lock l))) (list_named names atom.0 ∙ ap (map (map_atom names)) (sym atom.2)) (all_stay (decls_of p) S S' (H.heap.locks l (map_atoms names atom.0) turns.stood hides) (stays (H.own (Of_lock l))))

      new : MeansAll (decls_of p) S' (map (map_atom names) (rule.1.guarded ++ Has_atom lock Locked_type ∷ [])) got
      new = all_end (decls_of p) S' (map_atom names) rule.1.guarded (Has_atom lock Locked_type) got (H.own (Of_lock l)) (one_at l) guarded (Means_locked l value turns.puts.put (λ t. refl)) (λ t. refl)

      whole : MeansAll (decls_of p) S' (map (map_atom names) (R ++ (rule.1.guarded ++ Has_atom lock Locked_type ∷ []))) top
      whole = all_both (decls_of p) S' (map_atom names) R (rule.1.guarded ++ Has_atom lock Locked_type ∷ []) top point.st.top_owns got (all_stay (decls_of p) S S' point.means (stays point.st.top_owns)) new (λ t. refl)

      -- the command's name occurs in none of it
      fresh : occurs to (R ++ (rule.1.guarded ++ Has_atom lock Locked_type ∷ [])) ≡ false
      fresh = not_true (λ o. elim (append_occurs to R (rule.1.guarded ++ Has_atom lock Locked_type ∷ []) o) [
        | inl q ↦ true_false q point.d.does.new
        | inr q ↦ elim (append_occurs to rule.1.guarded (Has_atom lock Locked_type ∷ []) q) [
          | inl z ↦ true_false (in_occurs to (Has_atom lock (Lock_type atom.0)) R held (or_right (nat_eq lock to) (in_guarded to atom.0) (guarded_list to atom.0 ∙ ap (occurs to) (sym atom.2) ∙ z))) point.d.does.new
          | inr z ↦ elim (where_occurs to (Has_atom lock Locked_type) [] z) [
            | inl y ↦ true_false (in_occurs to (Has_atom lock (Lock_type atom.0)) R held (either (nat_eq lock to) (in_guarded to atom.0) y)) point.d.does.new
            | inr y ↦ true_false y refl
          ]
        ]
      ])
        where
          either : (a b : Bool) → (a || false) ≡ true → (a || b) ≡ true
          either true b e = refl
          either false b e = absurd (true_false e refl)

      state : MeansAll (decls_of p) S' (map (map_atom (at_only to (Int_value 0) names)) point.d.state) top
      state = subst (λ q. MeansAll (decls_of p) S' (map (map_atom (at_only to (Int_value 0) names)) q) top) (sym rule.1.new)
          (all_end (decls_of p) S' (map_atom (at_only to (Int_value 0) names)) (R ++ (rule.1.guarded ++ Has_atom lock Locked_type ∷ [])) (Has_atom to Unknown_type) top top (λ t. 0)
          (subst (λ q. MeansAll (decls_of p) S' q top) (sym (bound_share names to (Int_value 0) (R ++ (rule.1.guarded ++ Has_atom lock Locked_type ∷ [])) fresh)) whole)
          (Means_unknown (λ t. refl)) (λ t. omega arith))

      stack : StackIsHeld (decls_of p) S' (next f e' rest) below (then_part p w w' h H k f below (The_command to (Acquire_op lock) place) rest point (Int_value 0) e' binds) mine
      stack = then_stack p w w' h H k f below (The_command to (Acquire_op lock) place) rest point (Int_value 0) e' binds S' top state (stays point.st.below_owns)

      free_l : (o : Owner) → H.own o l ≡ 0
      free_l o = H.heap.tokens o l turns.stood

      had : (o : Owner) (t : ℕ) → 0 < with_two (Of_thread k) mine (Of_lock l) none H.own o t → ((l ≡ t) × (o ≡ Of_thread k)) ⊎ ((l ≡ t → ⊥) × ((0 < H.own o t) ⊎ ((0 < H.own (Of_lock l) t) × (o ≡ Of_thread k))))
      had = who_has H.own (Of_thread k) (Of_lock l) mine none (λ o t. ((l ≡ t) × (o ≡ Of_thread k)) ⊎ ((l ≡ t → ⊥) × ((0 < H.own o t) ⊎ ((0 < H.own (Of_lock l) t) × (o ≡ Of_thread k)))))
          (λ t z. elim (cases_eq l t) [
            | inl e ↦ inl (e, refl)
            | inr n ↦ inr (
              n,
              elim (cases_eq (H.own (Of_lock l) t) 0) [
                | inl q ↦ inl (let a = point.st.join t in let b = one_other l t n in omega arith)
                | inr q ↦ inr (omega arith, refl)
              ],
            )
          ])
          (λ t z. absurd (omega (arith, z)))
          (λ o t a b z. inr (λ e. (let c = subst (λ n. H.own o n ≡ 0) e (free_l o) in omega (arith, c, z)), inl z)) lock_thread

      change : Change p w w' h H h' (Of_thread k) (Of_lock l) mine none
      change = record {
        fair = two_fair H.own (Of_thread k) (Of_lock l) mine none H.heap.fair lock_thread (λ t. elim (cases_eq l t) [
          | inl e ↦ inr (subst (λ n. mine n + none n ≤ 1) e (let a = point.st.join l in let b = free_l (Of_thread k) in let c = free_l (Of_lock l) in let d = one_at_self l in omega arith), λ o. subst (λ n. H.own o n ≡ 0) e (free_l o))
          | inr n ↦ inl (let a = point.st.join t in let b = one_other l t n in omega arith)
        ]);
        real = λ o t z. elim (had o t z) [
          | inl a ↦ (Lock_cell true, subst (λ n. w'.heap.at n ≡ Some (Lock_cell true)) a.0 turns.puts.put)
          | inr a ↦ (let r : (c : Cell) × (w.heap.at t ≡ Some c) = elim a.1 [ inl b ↦ H.heap.real o t b | inr b ↦ H.heap.real (Of_lock l) t b.0 ] in (r.0, turns.puts.others t (λ e. a.0 (sym e)) ∙ r.1))
        ];
        stays = λ o a b. stays (H.own o);
        adoptees = λ x y u a. inl (adopted_not, lock_adopted, adopted_back (decls_of p) S S' l true turns.puts no_block (λ m. refl) x y u a);
        locks = λ m q e i. elim (cases_eq l m) [
          | inl z ↦ absurd (lock_lock (subst (λ n. w'.heap.at n ≡ Some (Lock_cell true)) z turns.puts.put) e)
          | inr z ↦ inl (lock_not, λ y. z (sym (lock_is y)), sym (turns.puts.others m (λ y. z (sym y))) ∙ e, i)
        ];
        tokens = λ o m e. zero_by (with_two (Of_thread k) mine (Of_lock l) none H.own o m) (λ z. elim (had o m z) [
          | inl a ↦ absurd (lock_lock (subst (λ n. w'.heap.at n ≡ Some (Lock_cell true)) a.0 turns.puts.put) e)
          | inr a ↦ (let free : w.heap.at m ≡ Some (Lock_cell false) = sym (turns.puts.others m (λ y. a.0 (sym y))) ∙ e in
              elim a.1 [ inl b ↦ (let c = H.heap.tokens o m free in omega (arith, b, c)) | inr b ↦ (let c = H.heap.tokens (Of_lock l) m free in let d = b.0 in omega (arith, d, c)) ])
        ]);
        free = λ o t con y vs z i e. elim (had o t z) [
          | inl a ↦ absurd (block_lock e (subst (λ n. w'.heap.at n ≡ Some (Lock_cell true)) a.0 turns.puts.put))
          | inr a ↦ (let free : w.heap.at t ≡ Some (Block_cell con (Some y) vs) = sym (turns.puts.others t (λ y. a.0 (sym y))) ∙ e in
              elim a.1 [ inl b ↦ H.heap.free o t con y vs b i free | inr b ↦ H.heap.free (Of_lock l) t con y vs b.0 (λ y. lock_adopted (sym y)) free ])
        ];
        adopters = λ x y con vs e. pool_on (decls_of p) S S' l true turns.puts no_block (λ m. refl) y (H.heap.adopters x y con vs (cell_back (decls_of p) S S' l true turns.puts no_block (λ m. refl) x con (Some y) vs e));
        hidden = λ m q e. elim (cases_eq l m) [
          | inl z ↦ (true, subst (λ n. w'.heap.at n ≡ Some (Lock_cell true)) z turns.puts.put)
          | inr z ↦ (let r = H.heap.hidden m q e in (r.0, turns.puts.others m (λ y. z (sym y)) ∙ r.1))
        ];
        clauses = H.heap.clauses;
        threads = threads_else p w w' h H k (Running (next f e' rest) below) (then_part p w w' h H k f below (The_command to (Acquire_op lock) place) rest point (Int_value 0) e' binds) S' (Of_lock l) mine none (λ j. lock_thread) puts stack;
        none = none_else p w w' h H k (Running (next f e' rest) below) (then_part p w w' h H k f below (The_command to (Acquire_op lock) place) rest point (Int_value 0) e' binds) S' (Of_lock l) mine none (λ j. lock_thread) puts stack;
      }
