-- A new thread gets what its function needs from the thread that spawns it. And a thread that ends or stops keeps what it has.
use Rattle.std.proofs.Common.{◌≡◌, ◌≢◌, ◌⊎◌, inl, inr, ℕ, ◌+◌, ◌<◌, ◌≤◌, List, [], ◌∷◌, length, map, Option, Some, None, slice_get, refl, sym, ap, ◌∙◌, subst, arith}
use Rattle.std.proofs.lemmas.Bool.{cases_eq}
use Rattle.std.proofs.lemmas.Option.{slice_get_past}
use Rattle.mz_tree.specs.Plain.{Atom, Unknown_type, Function_type, Has_atom, map_atom}
use Rattle.mz_tree.specs.Programs.{Sig, Program}
use Rattle.mz_tree.specs.Code.{Command, Spawn_op, to_of, op_of, op_branches}
use Rattle.mz_decl.specs.Declarations.{Decls, decls_of}
use Rattle.mz_decl.specs.Signatures.{needed, at_args}
use Rattle.mz_perm.specs.Lists.{In, Any_copy}
use Rattle.mz_lockrule.specs.Locking.{Spawns}
use Rattle.mz_deriv.specs.Rules.{Rule}
use Rattle.mz_deriv.specs.Scripts.{Item}
use Rattle.mz_deriv.specs.Derivable.{Derivable}
use Rattle.mz_named.specs.Configurations.{Value, Int_value, Fun_value, Environment, Frame, Suspended, Thread, Running, Config}
use Rattle.mz_named.specs.Bodies.{Binds, Puts, Keeps, start, value_at}
use Rattle.mz_named.specs.Steps.{Moves, IsAt, next}
use Rattle.mz_named.specs.Operations.{IsFunction}
use Rattle.mz_resource.specs.Meaning.{Owned, Sight, Means_unknown, MeansAll}
use Rattle.mz_resource.specs.Names.{CoreOp}
use Rattle.mz_resource.specs.Frames.{ThreadHolding, Nothing_below, ThreadIsHeld, StackIsHeld}
use Rattle.mz_resource.specs.Held.{Holding, sight, Held}
use Rattle.mz_resource.specs.Owners.{Owner, Of_thread}
use Rattle.mz_resource.proofs.Facts.{some_is, none_some, zero_by}
use Rattle.mz_resource.proofs.Programs.Proper.{ProperDecls, IsSigClosed, ProperBodies}
use Rattle.mz_resource.specs.Following.{AtCommand, FollowsRule, BeginsFunction, OthersStay}
use Rattle.mz_perm.proofs.Orders.{perm_refl}
use Rattle.mz_resource.proofs.Meaning.Owning.{Split, look_up, all_end}
use Rattle.mz_resource.proofs.Meaning.Staying.{Stays, all_stay}
use Rattle.mz_resource.proofs.Meaning.Spending.{use_all, fresh_after}
use Rattle.mz_resource.proofs.Meaning.Inverse.{function_inv}
use Rattle.mz_resource.proofs.Threads.Quiet.{at_only, at_it, at_others, thread_is, adopted_not, lock_not, clauses_stay, sight_stays, after, quiet_held}
use Rattle.mz_resource.proofs.Threads.Standing.{bound_share}
use Rattle.mz_resource.proofs.Commands.Calling.{needs_closed, needs_named, fun_sig, function_is, IsStart, starts}
use Rattle.mz_resource.proofs.Owners.Handing.{two_fair, with_two, two_first, two_second}
use Rattle.mz_resource.proofs.Owners.Changing.{Change, change_held, who_has}
use Rattle.mz_resource.proofs.Commands.Ruled.{AtRule, at_rule, then_part, then_stack, by_rule}

-- a thread that ends or stops
pub gone_held : (p : Program) (w w' : Config) (h : Holding) (H : Held p w h) (k : ℕ) (t' : Thread) → ((S : Sight) (q : ThreadHolding) (g : Owned) → ThreadIsHeld (decls_of p) S t' q g) → Moves w k t' w' → (h' : Holding) × OthersStay k h h' × Held p w' h'
gone_held p w w' h H k t' any moves =
    let less : (t : ℕ) → H.own (Of_thread k) t ≤ H.own (Of_thread k) t = λ t. omega arith in (
      after p w w' h H k t' (h.thread k) (H.own (Of_thread k)) h.clause moves.heap moves.threads less (clauses_stay (decls_of p) h.clause (H.own (Of_thread k))),
      λ m n. at_others k m (h.thread k) h.thread (λ e. n (sym e)),
      quiet_held p w w' h H k t' (h.thread k) (H.own (Of_thread k)) h.clause moves.heap moves.threads less (clauses_stay (decls_of p) h.clause (H.own (Of_thread k))) (any _ _ _),
    )

spawn_rule : (D : Decls) (R : List (Atom ℕ)) (c g y : ℕ) (uses : Option (Atom ℕ)) (T : List (Atom ℕ)) → Rule D R c (Spawn_op g y) uses T → (a : Atom ℕ) × Spawns Any_copy D R c g y a T
spawn_rule D R c g y None T r = absurd r
spawn_rule D R c g y (Some a) T r = (a, r)

module _ (p : Program) (scripts : List (List Item)) (w w' : Config) (h : Holding) (H : Held p w h) (k : ℕ) (L : ProperDecls (decls_of p)) (C : ProperBodies p) (V : Derivable p scripts) (f : Frame) (below : List Suspended) (at : AtCommand (h.thread k).top.script) where
  -- what the two threads hold then
  abbrev Spawned : Command → ℕ → Sig → Holding → Type 0
  Spawned c number sig h' = FollowsRule (decls_of p) c (h.thread k) (h'.thread k) × BeginsFunction scripts number sig (h'.thread (length w.threads)).top × ((h'.thread (length w.threads)).below ≡ [])
      × ((m : ℕ) → m ≢ k → m ≢ length w.threads → h'.thread m ≡ h.thread m)

  pub spawn_keeps : (c : Command) (rest : List Command) (callee arg : ℕ) (e' : Environment) (mid : ℕ → Option Thread) → IsAt w k f below c rest → op_of c ≡ Spawn_op callee arg → (fn : IsFunction p (f.env callee) 1) → Binds f.env (to_of c) (Int_value 0) e' → Keeps w.heap.at w'.heap.at →
      Puts (slice_get w.threads) k (Running (next f e' rest) below) mid → Puts mid (length w.threads) (Running (start fn.fun (f.env arg ∷ [])) []) (slice_get w'.threads) → (h' : Holding) × Spawned c fn.number fn.sig h' × Held p w' h'
  spawn_keeps c rest callee arg e' mid here is fn binds same one two = go (at_rule p w h H k f below c rest at here (ap op_branches is))
    where
      go : AtRule p w h H k f below c rest → (h' : Holding) × Spawned c fn.number fn.sig h' × Held p w' h'
      go point = (h', spawned, change_held p w w' h H h' (Of_thread k) (Of_thread n) mine used.one change)
        where
          D : Decls
          D = decls_of p

          S : Sight
          S = sight w h

          n : ℕ
          n = length w.threads

          names : ℕ → Value
          names = (h.thread k).top.values

          R : List (Atom ℕ)
          R = point.st.top.state

          rule : (a : Atom ℕ) × Spawns Any_copy (decls_of p) R (to_of c) callee arg a point.d.state
          rule = spawn_rule (decls_of p) R (to_of c) callee arg point.d.uses point.d.state (subst (λ o. Rule (decls_of p) R (to_of c) o point.d.uses point.d.state) is point.d.does.rule)

          core : CoreOp (decls_of p) point.st.sig.count (to_of c) (Spawn_op callee arg)
          core = subst (λ o. CoreOp (decls_of p) point.st.sig.count (to_of c) o) is point.core

          sig : Sig
          sig = rule.1.callee.sig

          value : (m : ℕ) × (names callee ≡ Fun_value m) × (slice_get (decls_of p).fun_sigs m ≡ Some rule.1.callee.number)
          value = function_inv (decls_of p) S (look_up (decls_of p) S (map_atom names) (Has_atom callee (Function_type rule.1.callee.number)) R point.st.top_owns (subst (λ a. In a R) rule.1.callee.function rule.1.callee.held) point.means).1

          number_same : value.0 ≡ fn.number
          number_same = function_is value.1 (point.st.top.env callee core.0.0 ∙ fn.is)

          begin : IsStart p scripts fn.number rule.1.callee.number sig fn.fun
          begin = starts p scripts C V fn.number rule.1.callee.number fn.fun sig fn.declared (fun_sig p.funs fn.number rule.1.callee.number fn.fun fn.declared (subst (λ m. slice_get (decls_of p).fun_sigs m ≡ Some rule.1.callee.number) number_same value.2)) rule.1.callee.declared

          closed : IsSigClosed sig
          closed = L.sigs rule.1.callee.number sig rule.1.callee.declared

          ys : List ℕ
          ys = arg ∷ []

          args : List Value
          args = f.env arg ∷ []

          used : Split (MeansAll (decls_of p) S (map (map_atom names) (at_args ys (needed sig.needs)))) (MeansAll (decls_of p) S (map (map_atom names) rule.1.rest)) point.st.top_owns
          used = use_all (decls_of p) S names (at_args ys (needed sig.needs)) R rule.1.rest point.st.top_owns rule.1.used point.means

          names' : ℕ → Value
          names' = at_only (to_of c) (Int_value 0) names

          q' : ThreadHolding
          q' = then_part p w w' h H k f below c rest point (Int_value 0) e' binds

          q2 : ThreadHolding
          q2 = record { top = record { values = value_at args; share = needed sig.needs; script = begin.script; outer = [] }; below = [] }

          h' : Holding
          h' = record { clause = h.clause; hides = h.hides; thread = at_only n q2 (at_only k q' h.thread) }

          S' : Sight
          S' = sight w' h'

          stays : (o : Owned) → Stays (decls_of p) S S' o
          stays o = sight_stays (decls_of p) S w'.heap.at h.clause (λ t. 0) o same (λ m. inl refl) (λ m l. absurd (omega (arith, l)))

          state : MeansAll (decls_of p) S (map (map_atom names') point.d.state) used.two
          state = subst (λ l. MeansAll (decls_of p) S (map (map_atom names') l) used.two) (sym rule.1.new)
              (all_end (decls_of p) S (map_atom names') rule.1.rest (Has_atom (to_of c) Unknown_type) used.two used.two (λ t. 0)
              (subst (λ l. MeansAll (decls_of p) S l used.two) (sym (bound_share names (to_of c) (Int_value 0) rule.1.rest (fresh_after (decls_of p) (to_of c) (at_args ys (needed sig.needs)) R rule.1.rest rule.1.used point.d.does.new))) used.second_part)
              (Means_unknown (λ t. refl)) (λ t. omega arith))

          mine : Owned
          mine t = used.two t + point.st.below_owns t

          stack : StackIsHeld (decls_of p) S' (next f e' rest) below q' mine
          stack = then_stack p w w' h H k f below c rest point (Int_value 0) e' binds S' used.two (all_stay (decls_of p) S S' state (stays used.two)) (stays point.st.below_owns)

          stack2 : StackIsHeld (decls_of p) S' (start fn.fun args) [] q2 used.one
          stack2 = record {
            number = rule.1.callee.number;
            sig = sig;
            args = args;
            top_of = record { declared = rule.1.callee.declared; has_args = record { many = rule.1.callee.many; each = λ m l. refl }; core = (begin.core.0, begin.core.1, tt) };
            top_owns = used.one;
            below_owns = λ t. 0;
            top = record {
              means = all_stay (decls_of p) S S' (subst (λ l. MeansAll (decls_of p) S l used.one) (needs_named names args ys sig.count (needed sig.needs) (needs_closed sig.count sig.needs closed.needs) rule.1.callee.many (ap (λ v. v ∷ []) (point.st.top.env arg core.1.0))) used.first_part) (stays used.one);
              env = λ m l. refl;
              state = needed sig.needs;
              alike = perm_refl (needed sig.needs);
              walks = begin.walks;
            };
            under = Nothing_below (λ t. refl);
            join = λ t. omega arith;
          }

          past : slice_get w.threads n ≡ None
          past = slice_get_past w.threads n (omega arith)

          differ : Of_thread k ≡ Of_thread n → ⊥
          differ e = none_some past (subst (λ m. slice_get w.threads m ≡ Some (Running f below)) (thread_is e) here.here)

          k_n : n ≡ k → ⊥
          k_n e = differ (ap Of_thread (sym e))

          sig_same : sig ≡ fn.sig
          sig_same = some_is rule.1.callee.declared (subst (λ m. slice_get p.sigs m ≡ Some fn.sig) (fun_sig p.funs fn.number rule.1.callee.number fn.fun fn.declared (subst (λ m. slice_get (decls_of p).fun_sigs m ≡ Some rule.1.callee.number) number_same value.2)) fn.signed)

          mine_is : h'.thread k ≡ q'
          mine_is = at_others n k q2 (at_only k q' h.thread) k_n ∙ at_it k q' h.thread

          its_is : h'.thread n ≡ q2
          its_is = at_it n q2 (at_only k q' h.thread)

          spawned : Spawned c fn.number fn.sig h'
          spawned = (
            subst (λ q. FollowsRule (decls_of p) c (h.thread k) q) (sym mine_is) (by_rule p w w' h H k f below c rest point (Int_value 0) e' binds),
            subst (λ (q : ThreadHolding). BeginsFunction scripts fn.number fn.sig q.top) (sym its_is) (record { share = ap (λ (z : Sig). needed z.needs) sig_same; script = begin.script_is; outer = refl }),
            ap (λ (q : ThreadHolding). q.below) its_is,
            λ m a b. at_others n m q2 (at_only k q' h.thread) (λ e. b (sym e)) ∙ at_others k m q' h.thread (λ e. a (sym e)),
          )

          own' : Owner → Owned
          own' = with_two (Of_thread k) mine (Of_thread n) used.one H.own

          -- who has something had it, or had it from thread k
          had : (o : Owner) (t : ℕ) → 0 < with_two (Of_thread k) mine (Of_thread n) used.one H.own o t → (0 < H.own o t) ⊎ ((0 < H.own (Of_thread k) t) × ((j : ℕ) × (o ≡ Of_thread j)))
          had = who_has H.own (Of_thread k) (Of_thread n) mine used.one (λ o t. (0 < H.own o t) ⊎ ((0 < H.own (Of_thread k) t) × ((j : ℕ) × (o ≡ Of_thread j))))
              (λ t l. inl (let a = point.st.join t in let b = used.join t in omega arith)) (λ t l. inr (let a = point.st.join t in let b = used.join t in omega arith, (n, refl))) (λ o t a b l. inl l) differ

          change : Change p w w' h H h' (Of_thread k) (Of_thread n) mine used.one
          change = record {
            fair = two_fair H.own (Of_thread k) (Of_thread n) mine used.one H.heap.fair differ (λ t. inl (let a = point.st.join t in let b = used.join t in omega arith));
            real = λ o t l. elim (had o t l) [ inl a ↦ (let r = H.heap.real o t a in (r.0, same t ∙ r.1)) | inr a ↦ (let r = H.heap.real (Of_thread k) t a.0 in (r.0, same t ∙ r.1)) ];
            stays = λ o a b. stays (H.own o);
            adoptees = λ x y u a. inl (
              adopted_not,
              adopted_not,
              record { con = a.con; fields = a.fields; adopted = sym (same x) ∙ a.adopted; other = a.other; more = a.more; pool = record { adopter = a.pool.adopter; made = sym (same y) ∙ a.pool.made }; mutable = a.mutable; adopts = a.adopts },
            );
            locks = λ l q e i. inl (lock_not, lock_not, sym (same l) ∙ e, i);
            tokens = λ o l e. zero_by (own' o l) (λ z. elim (had o l z) [
              | inl a ↦ (let r = H.heap.tokens o l (sym (same l) ∙ e) in omega (arith, r, a))
              | inr a ↦ (let r = H.heap.tokens (Of_thread k) l (sym (same l) ∙ e) in let b = a.0 in omega (arith, r, b))
            ]);
            free = λ o t con y vs l i e. elim (had o t l) [
              | inl a ↦ H.heap.free o t con y vs a i (sym (same t) ∙ e)
              | inr a ↦ H.heap.free (Of_thread k) t con y vs a.0 (λ z. adopted_not (sym z)) (sym (same t) ∙ e)
            ];
            adopters = λ x y con vs e. (let r = H.heap.adopters x y con vs (sym (same x) ∙ e) in record { con = r.con; fields = r.fields; made = record { adopter = r.made.adopter; made = same y ∙ r.made.made }; adopts = r.adopts });
            hidden = λ l q e. let r = H.heap.hidden l q e in (r.0, same l ∙ r.1);
            clauses = H.heap.clauses;
            threads = threads;
            none = λ j e. elim (cases_eq j k) [
              | inl z ↦ absurd (none_some (subst (λ m. slice_get w'.threads m ≡ None) z e) (two.others k (λ y. k_n (sym y)) ∙ one.put))
              | inr z ↦ elim (cases_eq j n) [
                | inl y ↦ absurd (none_some (subst (λ m. slice_get w'.threads m ≡ None) y e) two.put)
                | inr y ↦ (λ x. z (thread_is x), λ x. y (thread_is x), sym (one.others j z) ∙ sym (two.others j y) ∙ e)
              ]
            ];
          }
            where
              threads : (j : ℕ) (t : Thread) → slice_get w'.threads j ≡ Some t → ((Of_thread j ≡ Of_thread k → ⊥) × (Of_thread j ≡ Of_thread n → ⊥) × (slice_get w.threads j ≡ Some t) × (h'.thread j ≡ h.thread j)) ⊎ ThreadIsHeld (decls_of p) S' t (h'.thread j) (with_two (Of_thread k) mine (Of_thread n) used.one H.own (Of_thread j))
              threads j t e = elim (cases_eq j n) [
                | inl y ↦ inr (subst (λ m. ThreadIsHeld (decls_of p) S' t (h'.thread m) (with_two (Of_thread k) mine (Of_thread n) used.one H.own (Of_thread m))) (sym y)
                    (subst (λ r. ThreadIsHeld (decls_of p) S' t r (with_two (Of_thread k) mine (Of_thread n) used.one H.own (Of_thread n))) (sym (at_it n q2 (at_only k q' h.thread)))
                    (subst (λ o. ThreadIsHeld (decls_of p) S' t q2 o) (sym (two_second (Of_thread k) (Of_thread n) mine used.one H.own differ))
                    (subst (λ z. ThreadIsHeld (decls_of p) S' z q2 used.one) (some_is two.put (subst (λ m. slice_get w'.threads m ≡ Some t) y e)) stack2))))
                | inr y ↦ elim (cases_eq j k) [
                  | inl z ↦ inr (subst (λ m. ThreadIsHeld (decls_of p) S' t (h'.thread m) (with_two (Of_thread k) mine (Of_thread n) used.one H.own (Of_thread m))) (sym z)
                      (subst (λ r. ThreadIsHeld (decls_of p) S' t r (with_two (Of_thread k) mine (Of_thread n) used.one H.own (Of_thread k))) (sym (at_others n k q2 (at_only k q' h.thread) k_n ∙ at_it k q' h.thread))
                      (subst (λ o. ThreadIsHeld (decls_of p) S' t q' o) (sym (two_first (Of_thread k) (Of_thread n) mine used.one H.own))
                      (subst (λ r. ThreadIsHeld (decls_of p) S' r q' mine) (some_is (two.others k (λ y. k_n (sym y)) ∙ one.put) (subst (λ m. slice_get w'.threads m ≡ Some t) z e)) stack))))
                  | inr z ↦ inl (λ x. z (thread_is x), λ x. y (thread_is x), sym (one.others j z) ∙ sym (two.others j y) ∙ e, at_others n j q2 (at_only k q' h.thread) (λ x. y (sym x)) ∙ at_others k j q' h.thread (λ x. z (sym x)))
                ]
              ]
