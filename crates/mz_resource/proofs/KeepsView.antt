-- A view step keeps the invariant: the new share means what it says, by the rule, and the rest of the script walks from it up to order.
use Rattle.std.proofs.Common.{◌≡◌, inl, inr, ℕ, ◌+◌, ◌≤◌, List, ◌∷◌, map, slice_get, refl, sym, ap, ◌∙◌, subst, arith, Some}
use Rattle.mz_tree.specs.Plain.{Atom, Int_type, Unknown_type, Dynamic_type, Locked_type, Named_type, Function_type, Block_type, Lock_type, Has_atom, Same_atom, map_atom}
use Rattle.mz_tree.specs.Code.{Command}
use Rattle.mz_tree.specs.Programs.{Program}
use Rattle.mz_decl.specs.Declarations.{Decls, decls_of}
use Rattle.mz_decl.specs.Signatures.{owed}
use Rattle.mz_perm.specs.Lists.{SameUpToOrder}
use Rattle.mz_view.specs.Steps.{Step, Drop_step, Copy_step, Unfold_step, Fold_step, Rename_step, Equal_step, Dynamic_step, Clause_step, Unknown_step, Meet_step, Field_step, Lock_step}
use Rattle.mz_view.specs.Rules.{View}
use Rattle.mz_deriv.specs.Scripts.{Item, See_item}
use Rattle.mz_deriv.specs.Walks.{Walk_step}
use Rattle.mz_named.specs.Configurations.{Value, Level, Running, Suspended, Config, Frame}
use Rattle.mz_named.specs.Bodies.{Puts}
use Rattle.mz_resource.specs.Meaning.{Owned, Sight, MeansAll}
use Rattle.mz_resource.specs.Frames.{ThreadHolding, FrameWalks, Last_walks, Level_walks, StackIsHeld, Behind}
use Rattle.mz_resource.specs.Held.{Holding, sight, Held}
use Rattle.mz_resource.specs.Owners.{Of_thread}
use Rattle.mz_resource.proofs.Programs.Proper.{ProperDecls}
use Rattle.mz_resource.specs.Following.{FollowsView}
use Rattle.mz_perm.proofs.Orders.{perm_trans}
use Rattle.mz_view.proofs.Orderless.{order_free, one_state}
use Rattle.mz_resource.proofs.Views.Viewing.{with_clauses, Viewed, view_drop, view_copy, view_rename, view_equal, view_dynamic, view_unknown, view_meet, view_field, view_lock}
use Rattle.mz_resource.proofs.Views.Opening.{view_clause, view_fold, view_opens}
use Rattle.mz_resource.proofs.Threads.Stacks.{below_stays}
use Rattle.mz_resource.proofs.Threads.Quiet.{at_it, at_others, ClausesChange, sight_stays, after, quiet_held}

-- every rule
viewed : (D : Decls) (L : ProperDecls D) (S : Sight) (names : ℕ → Value) (R : List (Atom ℕ)) (f : Owned) → ((t : ℕ) → f t ≤ 1) → MeansAll D S (map (map_atom names) R) f → (s : Step) (T : List (Atom ℕ)) → View D R s T → Viewed D S names T f
viewed D L S names R f few p (Drop_step a) T v = view_drop D S names R f p a T v
viewed D L S names R f few p (Copy_step a) T v = view_copy D S names R f p a T v
viewed D L S names R f few p (Unfold_step x d n) T v = view_opens D L S names R f p x d v.con n T v.opens (λ b k made vs is m. L.only d v.con k made v.only m.is_con m.of_type)
viewed D L S names R f few p (Fold_step (Has_atom x (Block_type con ys c))) T v = view_fold D L S names R f few p x con ys c T v
viewed D L S names R f few p (Fold_step (Has_atom x Int_type)) T v = absurd v
viewed D L S names R f few p (Fold_step (Has_atom x Unknown_type)) T v = absurd v
viewed D L S names R f few p (Fold_step (Has_atom x Dynamic_type)) T v = absurd v
viewed D L S names R f few p (Fold_step (Has_atom x Locked_type)) T v = absurd v
viewed D L S names R f few p (Fold_step (Has_atom x (Named_type d))) T v = absurd v
viewed D L S names R f few p (Fold_step (Has_atom x (Function_type d))) T v = absurd v
viewed D L S names R f few p (Fold_step (Has_atom x (Lock_type q))) T v = absurd v
viewed D L S names R f few p (Fold_step (Same_atom x y)) T v = absurd v
viewed D L S names R f few p (Rename_step a z) T v = view_rename D S names R f p a z T v
viewed D L S names R f few p (Equal_step x y) T v = view_equal D S names R f p x y T v
viewed D L S names R f few p (Dynamic_step x) T v = view_dynamic D S names R f p x T v
viewed D L S names R f few p (Clause_step (Has_atom x (Block_type con ys c)) u) T v = view_clause D L S names R f few p u x con ys c T v
viewed D L S names R f few p (Clause_step (Has_atom x Int_type) u) T v = absurd v
viewed D L S names R f few p (Clause_step (Has_atom x Unknown_type) u) T v = absurd v
viewed D L S names R f few p (Clause_step (Has_atom x Dynamic_type) u) T v = absurd v
viewed D L S names R f few p (Clause_step (Has_atom x Locked_type) u) T v = absurd v
viewed D L S names R f few p (Clause_step (Has_atom x (Named_type d)) u) T v = absurd v
viewed D L S names R f few p (Clause_step (Has_atom x (Function_type d)) u) T v = absurd v
viewed D L S names R f few p (Clause_step (Has_atom x (Lock_type q)) u) T v = absurd v
viewed D L S names R f few p (Clause_step (Same_atom x y) u) T v = absurd v
viewed D L S names R f few p (Unknown_step x) T v = view_unknown D S names R f p x T v
viewed D L S names R f few p (Meet_step (Has_atom x (Block_type con ys c)) b) T v = meets b v
  where
    meets : (b : Atom ℕ) → View D R (Meet_step (Has_atom x (Block_type con ys c)) b) T → Viewed D S names T f
    meets (Has_atom y (Block_type other zs d)) v = view_meet D S names R f p x con ys c y other zs d T v
    meets (Has_atom y Int_type) v = absurd v
    meets (Has_atom y Unknown_type) v = absurd v
    meets (Has_atom y Dynamic_type) v = absurd v
    meets (Has_atom y Locked_type) v = absurd v
    meets (Has_atom y (Named_type d)) v = absurd v
    meets (Has_atom y (Function_type d)) v = absurd v
    meets (Has_atom y (Lock_type q)) v = absurd v
    meets (Same_atom y z) v = absurd v
viewed D L S names R f few p (Meet_step (Has_atom x Int_type) b) T v = absurd v
viewed D L S names R f few p (Meet_step (Has_atom x Unknown_type) b) T v = absurd v
viewed D L S names R f few p (Meet_step (Has_atom x Dynamic_type) b) T v = absurd v
viewed D L S names R f few p (Meet_step (Has_atom x Locked_type) b) T v = absurd v
viewed D L S names R f few p (Meet_step (Has_atom x (Named_type d)) b) T v = absurd v
viewed D L S names R f few p (Meet_step (Has_atom x (Function_type d)) b) T v = absurd v
viewed D L S names R f few p (Meet_step (Has_atom x (Lock_type q)) b) T v = absurd v
viewed D L S names R f few p (Meet_step (Same_atom x y) b) T v = absurd v
viewed D L S names R f few p (Field_step (Has_atom x (Block_type con ys c)) i z) T v = view_field D S names R f p i z x con ys c T v
viewed D L S names R f few p (Field_step (Has_atom x Int_type) i z) T v = absurd v
viewed D L S names R f few p (Field_step (Has_atom x Unknown_type) i z) T v = absurd v
viewed D L S names R f few p (Field_step (Has_atom x Dynamic_type) i z) T v = absurd v
viewed D L S names R f few p (Field_step (Has_atom x Locked_type) i z) T v = absurd v
viewed D L S names R f few p (Field_step (Has_atom x (Named_type d)) i z) T v = absurd v
viewed D L S names R f few p (Field_step (Has_atom x (Function_type d)) i z) T v = absurd v
viewed D L S names R f few p (Field_step (Has_atom x (Lock_type q)) i z) T v = absurd v
viewed D L S names R f few p (Field_step (Same_atom x y) i z) T v = absurd v
viewed D L S names R f few p (Lock_step (Has_atom l (Lock_type q)) k z) T v = view_lock D S names R f p k z l q T v
viewed D L S names R f few p (Lock_step (Has_atom x Int_type) k z) T v = absurd v
viewed D L S names R f few p (Lock_step (Has_atom x Unknown_type) k z) T v = absurd v
viewed D L S names R f few p (Lock_step (Has_atom x Dynamic_type) k z) T v = absurd v
viewed D L S names R f few p (Lock_step (Has_atom x Locked_type) k z) T v = absurd v
viewed D L S names R f few p (Lock_step (Has_atom x (Named_type d)) k z) T v = absurd v
viewed D L S names R f few p (Lock_step (Has_atom x (Function_type d)) k z) T v = absurd v
viewed D L S names R f few p (Lock_step (Has_atom x (Block_type con ys c)) k z) T v = absurd v
viewed D L S names R f few p (Lock_step (Same_atom x y) k z) T v = absurd v

-- a walk whose next item is a view step
pub record Stepped (D : Decls) (owes : ℕ → List (Atom ℕ)) (R : List (Atom ℕ)) (s : Step) (commands : List Command) (value : ℕ) (outer : List Level) (items : List Item) (scripts : List Behind) : Type 0 where
  pub after : List (Atom ℕ)
  pub leads : View D R s after
  pub walks : FrameWalks D owes after commands value outer items scripts

pub stepped : {D : Decls} {owes : ℕ → List (Atom ℕ)} {R : List (Atom ℕ)} {s : Step} {commands : List Command} {value : ℕ} {outer : List Level} {items : List Item} {scripts : List Behind} → FrameWalks D owes R commands value outer (See_item s ∷ items) scripts → Stepped D owes R s commands value outer items scripts
stepped (Last_walks rest (Walk_step v k) u) = record { after = _; leads = v; walks = Last_walks rest k u }
stepped (Level_walks rest (Walk_step v k) u more) = record { after = _; leads = v; walks = Level_walks rest k u more }

pub view_keeps : (p : Program) (w : Config) (h : Holding) (k : ℕ) (f : Frame) (below : List Suspended) (s : Step) (items : List Item) (R : List (Atom ℕ)) →
    ProperDecls (decls_of p) → Held p w h → slice_get w.threads k ≡ Some (Running f below) → (h.thread k).top.script ≡ See_item s ∷ items →
    View (decls_of p) (h.thread k).top.share s R → (h' : Holding) × FollowsView k R items h h' × Held p w h'
view_keeps p w h k f below s items R L H here script view = go (H.threads k (Running f below) here)
  where
    D : Decls
    D = decls_of p

    go : StackIsHeld (decls_of p) (sight w h) f below (h.thread k) (H.own (Of_thread k)) → (h' : Holding) × FollowsView k R items h h' × Held p w h'
    go st = (after p w w h H k (Running f below) q g v.clause' same puts less change, sees, quiet_held p w w h H k (Running f below) q g v.clause' same puts less change stack)
      where
        few : (t : ℕ) → st.top_owns t ≤ 1
        few t = let a = st.join t in let b = H.heap.fair.once (Of_thread k) t in omega arith

        v : Viewed (decls_of p) (sight w h) (h.thread k).top.values R st.top_owns
        v = viewed (decls_of p) L (sight w h) (h.thread k).top.values (h.thread k).top.share st.top_owns few st.top.means s R view

        g : Owned
        g t = v.own' t + st.below_owns t

        q : ThreadHolding
        q = record { top = record { values = v.names'; share = R; script = items; outer = (h.thread k).top.outer }; below = (h.thread k).below }

        same : (n : ℕ) → w.heap.at n ≡ w.heap.at n
        same n = refl

        puts : Puts (slice_get w.threads) k (Running f below) (slice_get w.threads)
        puts = record { put = here; others = λ m n. refl }

        less : (t : ℕ) → g t ≤ H.own (Of_thread k) t
        less t = let a = st.join t in let b = v.less t in omega arith

        change : ClausesChange (decls_of p) h.clause v.clause' (H.own (Of_thread k))
        change b = elim (v.changed b) [ inl e ↦ inl e | inr c ↦ inr (let a = st.join b in let l = c.0 in omega arith, c.1, c.2) ]

        sees : FollowsView k R items h (after p w w h H k (Running f below) q g v.clause' same puts less change)
        sees = record {
          share = ap (λ (z : ThreadHolding). z.top.share) (at_it k q h.thread);
          script = ap (λ (z : ThreadHolding). z.top.script) (at_it k q h.thread);
          outer = ap (λ (z : ThreadHolding). z.top.outer) (at_it k q h.thread);
          below = ap (λ (z : ThreadHolding). z.below) (at_it k q h.thread);
          core = λ m l. ap (λ (z : ThreadHolding). z.top.values m) (at_it k q h.thread) ∙ v.low m l;
          others = λ m n. at_others k m q h.thread (λ e. n (sym e));
          hides = λ l. refl;
          clauses = λ b n. elim (v.changed b) [ inl e ↦ e | inr c ↦ absurd (n c.1) ];
        }

        walk : Stepped (decls_of p) (owed st.sig) st.top.state s f.rest.commands f.rest.value f.outer items (h.thread k).top.outer
        walk = stepped (subst (λ i. FrameWalks (decls_of p) (owed st.sig) st.top.state f.rest.commands f.rest.value f.outer i (h.thread k).top.outer) script st.top.walks)

        -- the state to which the walk goes is the same up to order
        alike : SameUpToOrder R walk.after
        alike = let l = order_free (decls_of p) (h.thread k).top.share st.top.state R s st.top.alike view in perm_trans R l.after walk.after l.alike (one_state (decls_of p) st.top.state l.after walk.after s l.leads walk.leads)

        stack : StackIsHeld (decls_of p) (with_clauses (sight w h) v.clause') f below q g
        stack = record {
          number = st.number;
          sig = st.sig;
          args = st.args;
          top_of = st.top_of;
          top_owns = v.own';
          below_owns = st.below_owns;
          top = record { means = v.means; env = λ m l. v.low m l ∙ st.top.env m l; state = walk.after; alike = alike; walks = walk.walks };
          under = below_stays (decls_of p) (sight w h) (with_clauses (sight w h) v.clause') st.under (sight_stays (decls_of p) (sight w h) w.heap.at v.clause' st.top_owns st.below_owns same v.changed (λ b l. let a = st.join b in let c = H.heap.fair.once (Of_thread k) b in omega arith));
          join = λ t. refl;
        }
