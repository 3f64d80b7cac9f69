-- A new block. Its name was nobody's, since what is owned is there; where it is mutable the thread owns it.
use Rattle.std.proofs.Common.{◌≡◌, ◌≢◌, ◌⊎◌, inl, inr, ℕ, ◌+◌, ◌<◌, ◌≤◌, false, List, [], ◌∷◌, map, Option, Some, None, slice_get, refl, sym, ◌∙◌, subst, arith}
use Rattle.std.proofs.lemmas.Bool.{cases_eq}
use Rattle.mz_tree.specs.Plain.{Atom, Block_type, Has_atom, map_atom}
use Rattle.mz_tree.specs.Programs.{Program}
use Rattle.mz_tree.specs.Code.{Command, The_command, New_op}
use Rattle.mz_decl.specs.Declarations.{Decls, decls_of}
use Rattle.mz_flow.specs.Commands.{Adds}
use Rattle.mz_deriv.specs.Rules.{Rule}
use Rattle.mz_named.specs.Configurations.{Value, Block_value, Cell, Block_cell, Lock_cell, Environment, Frame, Suspended, Running, Config}
use Rattle.mz_named.specs.Bodies.{Binds, Puts}
use Rattle.mz_named.specs.Operations.{IsBlock, Fresh}
use Rattle.mz_named.specs.Steps.{next}
use Rattle.mz_resource.specs.Meaning.{Owned, one_at, Sight, Means, Means_fixed, Means_block, MeansAll}
use Rattle.mz_resource.specs.Names.{AreArgs}
use Rattle.mz_resource.specs.Frames.{ThreadHolding, StackIsHeld}
use Rattle.mz_resource.specs.Held.{Holding, sight, Held}
use Rattle.mz_resource.specs.Owners.{Owner, Of_thread, Of_lock, IsPool}
use Rattle.mz_resource.proofs.Facts.{none_some, zero_by}
use Rattle.mz_resource.proofs.Meaning.Names.{cons_is}
use Rattle.mz_resource.proofs.Meaning.Owning.{all_end}
use Rattle.mz_resource.proofs.Meaning.Staying.{Stays, all_stay, one_at_self, one_other, mutable_or_not}
use Rattle.mz_resource.proofs.Views.Opening.{clause_at, at_same, at_other}
use Rattle.mz_resource.proofs.Threads.Quiet.{at_only, at_it, adopted_not, lock_not, Onward}
use Rattle.mz_resource.proofs.Owners.Handing.{two_fair, with_two}
use Rattle.mz_resource.proofs.Owners.Changing.{Change, change_held, who_has, threads_else, none_else}
use Rattle.mz_resource.proofs.Owners.Heaps.{block_lock, block_some, fresh_stays}
use Rattle.mz_resource.proofs.Commands.Locking.{lock_thread, lock_adopted, lock_is}
use Rattle.mz_resource.proofs.Commands.Ruled.{AtRule, then_part, then_stack, still, arg_is}

new_rule : (D : Decls) (R : List (Atom ℕ)) (c con : ℕ) (ys : List ℕ) (uses : Option (Atom ℕ)) (T : List (Atom ℕ)) → Rule D R c (New_op con ys) uses T → Adds (Has_atom c (Block_type con ys None)) R T
new_rule D R c con ys None T r = r
new_rule D R c con ys (Some a) T r = absurd r

pub args_named : (names : ℕ → Value) (e : Environment) (to : ℕ) (ys : List ℕ) → ((x : ℕ) → (x < 256) × (x ≢ to) → names x ≡ e x) → AreArgs to ys → map names ys ≡ map e ys
args_named names e to [] same a = refl
args_named names e to (y ∷ ys) same a = cons_is (same y a.0) (args_named names e to ys same a.1)

no_clause : {o : Option ℕ} {u : ℕ} → o ≡ None → o ≡ Some u → ⊥
no_clause e f = absurd (cc)

-- what a new block owns: itself, where it is mutable
record Extra (D : Decls) (S' : Sight) (b con : ℕ) (vs : List Value) : Type 0 where
  extra : Owned
  few : (t : ℕ) → extra t ≤ one_at b t
  means : Means D S' (Has_atom (Block_value b) (Block_type con vs None)) extra

module _ (p : Program) (w w' : Config) (h : Holding) (H : Held p w h) (k : ℕ) (f : Frame) (below : List Suspended) (to : ℕ) (rest : List Command) (e' : Environment) where
  pub new_keeps : (con : ℕ) (ys : List ℕ) (place : _) (v : Value) → (point : AtRule p w h H k f below (The_command to (New_op con ys) place) rest) → Fresh w.heap.at (Block_cell con None (map f.env ys)) v w'.heap.at → (binds : Binds f.env to v e') → Puts (slice_get w.threads) k (Running (next f e' rest) below) (slice_get w'.threads) → Onward p w' h k (then_part p w w' h H k f below (The_command to (New_op con ys) place) rest point v e' binds)
  new_keeps con ys place v point new binds puts = (h', change_held p w w' h H h' (Of_thread k) (Of_lock b) mine none change, λ m. refl)
    where
      S : Sight
      S = sight w h

      names : ℕ → Value
      names = (h.thread k).top.values

      names' : ℕ → Value
      names' = at_only to v names

      R : List (Atom ℕ)
      R = point.st.top.state

      b : ℕ
      b = new.name

      cell : Cell
      cell = Block_cell con None (map f.env ys)

      q' : ThreadHolding
      q' = then_part p w w' h H k f below (The_command to (New_op con ys) place) rest point v e' binds

      h' : Holding
      h' = record { clause = clause_at b None h.clause; hides = h.hides; thread = at_only k q' h.thread }

      S' : Sight
      S' = sight w' h'

      clauses : (m : ℕ) → m ≢ b → clause_at b None h.clause m ≡ h.clause m
      clauses m n = at_other b m None h.clause (λ e. n (sym e))

      stays : (o : Owned) → Stays (decls_of p) S S' o
      stays o = fresh_stays (decls_of p) S S' b cell new.puts clauses (λ m q e. e) o new.free

      made : IsBlock w'.heap.at b con (map f.env ys)
      made = record { adopter = None; made = new.puts.put }

      ex : Extra (decls_of p) S' b con (map f.env ys)
      ex = elim (mutable_or_not (decls_of p) con) [
        | inl m ↦ record { extra = one_at b; few = λ t. omega arith; means = Means_block b refl made m (at_same b None h.clause) (λ t. refl) }
        | inr n ↦ record { extra = λ t. 0; few = λ t. omega arith; means = Means_fixed b refl made n refl (λ t. refl) }
      ]

      none : Owned
      none t = 0

      top : Owned
      top t = point.st.top_owns t + ex.extra t

      mine : Owned
      mine t = top t + point.st.below_owns t

      atom : Means (decls_of p) S' (map_atom names' (Has_atom to (Block_type con ys None))) ex.extra
      atom = subst (λ a. Means (decls_of p) S' a ex.extra) (both (sym (at_it to v names ∙ new.is)) (sym (args_named names' f.env to ys (arg_is p w w' h H k f below (The_command to (New_op con ys) place) rest point v e' binds) point.core))) ex.means
        where
          both : {x y : Value} {us vs : List Value} → x ≡ y → us ≡ vs → Has_atom x (Block_type con us None) ≡ Has_atom y (Block_type con vs None)
          both d e = cc

      state : MeansAll (decls_of p) S' (map (map_atom names') point.d.state) top
      state = subst (λ q. MeansAll (decls_of p) S' (map (map_atom names') q) top) (sym (new_rule (decls_of p) R to con ys point.d.uses point.d.state point.d.does.rule))
          (all_end (decls_of p) S' (map_atom names') R (Has_atom to (Block_type con ys None)) top point.st.top_owns ex.extra
          (subst (λ q. MeansAll (decls_of p) S' q point.st.top_owns) (sym (still p w w' h H k f below (The_command to (New_op con ys) place) rest point v e' binds)) (all_stay (decls_of p) S S' point.means (stays point.st.top_owns)))
          atom (λ t. refl))

      stack : StackIsHeld (decls_of p) S' (next f e' rest) below q' mine
      stack = then_stack p w w' h H k f below (The_command to (New_op con ys) place) rest point v e' binds S' top state (stays point.st.below_owns)

      free_b : (o : Owner) → H.own o b ≡ 0
      free_b o = zero_by (H.own o b) (λ l. none_some new.free (H.heap.real o b l).1)

      had : (o : Owner) (t : ℕ) → 0 < with_two (Of_thread k) mine (Of_lock b) none H.own o t → (b ≡ t) ⊎ ((b ≡ t → ⊥) × (0 < H.own o t))
      had = who_has H.own (Of_thread k) (Of_lock b) mine none (λ o t. (b ≡ t) ⊎ ((b ≡ t → ⊥) × (0 < H.own o t)))
          (λ t z. elim (cases_eq b t) [ inl e ↦ inl e | inr n ↦ inr (n, let a = point.st.join t in let c = one_other b t n in let d = ex.few t in omega arith) ])
          (λ t z. absurd (omega (arith, z)))
          (λ o t x y z. inr (λ e. (let c = subst (λ n. H.own o n ≡ 0) e (free_b o) in omega (arith, c, z)), z)) lock_thread

      there : (t : ℕ) (c : Cell) → w.heap.at t ≡ Some c → w'.heap.at t ≡ Some c
      there t c e = new.puts.others t (λ z. none_some (subst (λ n. w.heap.at n ≡ None) (sym z) new.free) e) ∙ e

      -- what has an adopter stood before, and so did the adopter
      back : (x c y : ℕ) (vs : List Value) → w'.heap.at x ≡ Some (Block_cell c (Some y) vs) → w.heap.at x ≡ Some (Block_cell c (Some y) vs)
      back x c y vs e = sym (new.puts.others x (λ z. block_some new.puts.put (subst (λ n. w'.heap.at n ≡ Some (Block_cell c (Some y) vs)) z e))) ∙ e

      not_new : (y : ℕ) → IsPool (decls_of p) S y → y ≢ b
      not_new y r e = none_some (subst (λ n. w.heap.at n ≡ None) (sym e) new.free) r.made.made

      change : Change p w w' h H h' (Of_thread k) (Of_lock b) mine none
      change = record {
        fair = two_fair H.own (Of_thread k) (Of_lock b) mine none H.heap.fair lock_thread (λ t. elim (cases_eq b t) [
          | inl e ↦ inr (subst (λ n. mine n + none n ≤ 1) e (let a = point.st.join b in let c = free_b (Of_thread k) in let d = ex.few b in let g = one_at_self b in omega arith), λ o. subst (λ n. H.own o n ≡ 0) e (free_b o))
          | inr n ↦ inl (let a = point.st.join t in let c = one_other b t n in let d = ex.few t in omega arith)
        ]);
        real = λ o t z. elim (had o t z) [
          | inl a ↦ (cell, subst (λ n. w'.heap.at n ≡ Some cell) a new.puts.put)
          | inr a ↦ (let r = H.heap.real o t a.1 in (r.0, there t r.0 r.1))
        ];
        stays = λ o x y. stays (H.own o);
        adoptees = λ x y u a. (let was = back x a.con y a.fields a.adopted in
            let n = not_new y (H.heap.adopters x y a.con a.fields was) in
            inl (adopted_not, lock_adopted, record { con = a.con; fields = a.fields; adopted = was; other = a.other; more = a.more; pool = record { adopter = a.pool.adopter; made = sym (new.puts.others y n) ∙ a.pool.made }; mutable = a.mutable; adopts = sym (clauses y n) ∙ a.adopts }));
        locks = λ m q e i. (let n : m ≢ b = λ z. block_lock new.puts.put (subst (λ x. w'.heap.at x ≡ Some (Lock_cell false)) z e) in inl (lock_not, λ y. n (lock_is y), sym (new.puts.others m n) ∙ e, i));
        tokens = λ o m e. zero_by (with_two (Of_thread k) mine (Of_lock b) none H.own o m) (λ z. elim (had o m z) [
          | inl a ↦ block_lock (subst (λ n. w'.heap.at n ≡ Some cell) a new.puts.put) e
          | inr a ↦ (let c = H.heap.tokens o m (sym (new.puts.others m (λ y. a.0 (sym y))) ∙ e) in let d = a.1 in omega (arith, c, d))
        ]);
        free = λ o t c y vs z i e. elim (had o t z) [
          | inl a ↦ block_some (subst (λ n. w'.heap.at n ≡ Some cell) a new.puts.put) e
          | inr a ↦ H.heap.free o t c y vs a.1 i (back t c y vs e)
        ];
        adopters = λ x y c vs e. (let r = H.heap.adopters x y c vs (back x c y vs e) in
            let n = not_new y r in
            record { con = r.con; fields = r.fields; made = record { adopter = r.made.adopter; made = new.puts.others y n ∙ r.made.made }; adopts = λ m z. r.adopts m (sym (clauses y n) ∙ z) });
        hidden = λ m q e. let r = H.heap.hidden m q e in (r.0, there m (Lock_cell r.0) r.1);
        clauses = λ t u e. elim (cases_eq b t) [
          | inl z ↦ absurd (no_clause (subst (λ n. clause_at b None h.clause n ≡ None) z (at_same b None h.clause)) e)
          | inr z ↦ H.heap.clauses t u (sym (at_other b t None h.clause z) ∙ e)
        ];
        threads = threads_else p w w' h H k (Running (next f e' rest) below) q' S' (Of_lock b) mine none (λ j. lock_thread) puts stack;
        none = none_else p w w' h H k (Running (next f e' rest) below) q' S' (Of_lock b) mine none (λ j. lock_thread) puts stack;
      }
