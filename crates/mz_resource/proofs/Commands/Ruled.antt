-- Where a thread stands at a command with a rule: what is known, what the thread holds then, and that this follows by the rule.
-- And the commands that bind a value and leave the heap as it is.
use Rattle.std.specs.Prelude.{nat_eq}
use Rattle.std.proofs.Common.{◌≡◌, ◌≢◌, inl, inr, ℕ, zero, suc, ◌+◌, ◌<◌, ◌≤◌, true, false, List, [], ◌∷◌, map, Option, Some, None, slice_get, refl, sym, ap, ◌∙◌, subst, arith}
use Rattle.std.specs.List.{list_any}
use Rattle.mz_tree.specs.Plain.{Atom, Block_type, Has_atom, map_atom}
use Rattle.mz_tree.specs.Programs.{Program}
use Rattle.mz_tree.specs.Code.{Op, Command, The_command, Int_op, Unit_op, Fun_op, Copy_op, Arith_op, New_op, Read_op, Write_op, Retag_op, If_op, Match_op, Call_op, Give_op, Take_op, New_lock_op, Acquire_op, Release_op, Spawn_op, Print_op, to_of, op_of, op_branches}
use Rattle.mz_decl.specs.Declarations.{decls_of}
use Rattle.mz_decl.specs.Signatures.{owed}
use Rattle.mz_perm.specs.Lists.{In}
use Rattle.mz_perm.specs.Occurrence.{in_atom}
use Rattle.mz_flow.specs.Commands.{Adds}
use Rattle.mz_deriv.specs.Rules.{Rule}
use Rattle.mz_named.specs.Configurations.{Value, Block_value, Environment, Frame, Suspended, Running, Config}
use Rattle.mz_named.specs.Bodies.{Binds, Puts, Keeps}
use Rattle.mz_named.specs.Steps.{IsAt, next}
use Rattle.mz_named.specs.Operations.{IsBlock, Acts}
use Rattle.mz_resource.proofs.Facts.{some_inj}
use Rattle.mz_resource.proofs.Threads.Entering.{straight_walks_none}
use Rattle.mz_resource.specs.Meaning.{Owned, Sight, Means, Means_same, Means_int, Means_unknown, Means_function, MeansAll}
use Rattle.mz_resource.specs.Names.{CoreOp, CoreCommands}
use Rattle.mz_resource.specs.Frames.{ThreadHolding, FrameWalks, StackIsHeld}
use Rattle.mz_resource.specs.Held.{Holding, sight, Held}
use Rattle.mz_resource.specs.Owners.{Of_thread}
use Rattle.mz_resource.specs.Following.{AtCommand, FollowsRule}
use Rattle.mz_resource.proofs.Meaning.Names.{or_left, or_right, eq_self}
use Rattle.mz_perm.proofs.Orders.{perm_refl}
use Rattle.mz_resource.proofs.Meaning.Owning.{means_perm, look_up, all_end}
use Rattle.mz_resource.proofs.Meaning.Staying.{Stays, all_stay}
use Rattle.mz_resource.proofs.Meaning.Spending.{in_occurs, true_false}
use Rattle.mz_resource.proofs.Meaning.Inverse.{block_inv, block_is, cell_fields}
use Rattle.mz_resource.proofs.Threads.Stacks.{below_stays}
use Rattle.mz_resource.proofs.Threads.Quiet.{at_only, at_it, at_others, clauses_stay, sight_stays, after, quiet_held, Onward}
use Rattle.mz_resource.proofs.Threads.Standing.{Doing, at_command, core_of, bound_share, bound_env, bound_args}

-- what is known where thread k makes the command c
pub record AtRule (p : Program) (w : Config) (h : Holding) (H : Held p w h) (k : ℕ) (f : Frame) (below : List Suspended) (c : Command) (rest : List Command) : Type 0 where
  pub st : StackIsHeld (decls_of p) (sight w h) f below (h.thread k) (H.own (Of_thread k))
  pub d : Doing (decls_of p) (owed st.sig) st.top.state c rest f.rest.value f.outer (h.thread k).top.script (h.thread k).top.outer
  pub means : MeansAll (decls_of p) (sight w h) (map (map_atom (h.thread k).top.values) st.top.state) st.top_owns
  pub core_rest : CoreCommands (decls_of p) st.sig.count rest
  pub low : st.sig.count ≤ to_of c
  pub core : CoreOp (decls_of p) st.sig.count (to_of c) (op_of c)

pub at_rule : (p : Program) (w : Config) (h : Holding) (H : Held p w h) (k : ℕ) (f : Frame) (below : List Suspended) (c : Command) (rest : List Command) → AtCommand (h.thread k).top.script → IsAt w k f below c rest → op_branches (op_of c) ≡ false → AtRule p w h H k f below c rest
at_rule p w h H k f below c rest at here plain = go (H.threads k (Running f below) here.here)
  where
    go : StackIsHeld (decls_of p) (sight w h) f below (h.thread k) (H.own (Of_thread k)) → AtRule p w h H k f below c rest
    go st = elim (at_command (decls_of p) (owed st.sig) at (subst (λ l. FrameWalks (decls_of p) (owed st.sig) st.top.state l f.rest.value f.outer (h.thread k).top.script (h.thread k).top.outer) here.first st.top.walks)) [
      | inl d ↦ (let core = subst (λ l. CoreCommands (decls_of p) st.sig.count l) here.first st.top_of.core.0 in
          let core_c = core_of (decls_of p) st.sig.count c core.0 in
          record {
            st = st;
            d = d;
            means = means_perm (decls_of p) (sight w h) (map_atom (h.thread k).top.values) (h.thread k).top.share st.top.state st.top_owns st.top.alike st.top.means;
            core_rest = core.1;
            low = core_c.0;
            core = core_c.2;
          })
      | inr b ↦ absurd (b.rule.some (straight_walks_none (op_of c) b.uses plain))
    ]

module _ (p : Program) (w w' : Config) (h : Holding) (H : Held p w h) (k : ℕ) (f : Frame) (below : List Suspended) (c : Command) (rest : List Command) (point : AtRule p w h H k f below c rest) (v : Value) (e' : Environment) (binds : Binds f.env (to_of c) v e') where
  -- names with the one that is bound
  abbrev pub with_to : ℕ → Value
  with_to = at_only (to_of c) v (h.thread k).top.values

  -- what the thread holds then
  abbrev pub then_part : ThreadHolding
  then_part = record { top = record { values = with_to; share = point.d.state; script = point.d.items; outer = (h.thread k).top.outer }; below = (h.thread k).below }

  -- it follows by the rule
  pub by_rule : FollowsRule (decls_of p) c (h.thread k) then_part
  by_rule = record { uses = point.d.uses; items = point.d.items; at_command = point.d.script_is; state = point.st.top.state; alike = point.st.top.alike; does = point.d.does; script = refl; outer = refl; below = refl }

  pub to_is : with_to (to_of c) ≡ v
  to_is = at_it (to_of c) v (h.thread k).top.values

  pub arg_is : (x : ℕ) → (x < 256) × (x ≢ to_of c) → with_to x ≡ f.env x
  arg_is x a = at_others (to_of c) x v (h.thread k).top.values (λ e. a.1 (sym e)) ∙ point.st.top.env x a.0

  -- what stood before under the new names
  pub still : map (map_atom with_to) point.st.top.state ≡ map (map_atom (h.thread k).top.values) point.st.top.state
  still = bound_share (h.thread k).top.values (to_of c) v point.st.top.state point.d.does.new

  -- the stack after the command, whatever the heap
  pub then_stack : (S' : Sight) (g : Owned) → MeansAll (decls_of p) S' (map (map_atom with_to) point.d.state) g → Stays (decls_of p) (sight w h) S' point.st.below_owns → StackIsHeld (decls_of p) S' (next f e' rest) below then_part (λ t. g t + point.st.below_owns t)
  then_stack S' g m stays = record {
    number = point.st.number;
    sig = point.st.sig;
    args = point.st.args;
    top_of = record { declared = point.st.top_of.declared; has_args = bound_args point.st.sig.count point.st.args f.env e' (to_of c) v point.low point.st.top_of.has_args binds; core = (point.core_rest, point.st.top_of.core.1, point.st.top_of.core.2) };
    top_owns = g;
    below_owns = point.st.below_owns;
    top = record { means = m; env = bound_env (h.thread k).top.values f.env e' (to_of c) v v refl point.st.top.env binds; state = point.d.state; alike = perm_refl point.d.state; walks = point.d.walks };
    under = below_stays (decls_of p) (sight w h) S' point.st.under stays;
    join = λ t. refl;
  }

  -- a command that leaves the heap as it is
  pub same_heap : (g : Owned) → ((t : ℕ) → g t ≤ point.st.top_owns t) → Keeps w.heap.at w'.heap.at → Puts (slice_get w.threads) k (Running (next f e' rest) below) (slice_get w'.threads) → MeansAll (decls_of p) (sight w h) (map (map_atom with_to) point.d.state) g → Onward p w' h k then_part
  same_heap g le same puts m =
      let stays : (o : Owned) → Stays (decls_of p) (sight w h) (record { at = w'.heap.at; clause = h.clause; hides = h.hides }) o = λ o. sight_stays (decls_of p) (sight w h) w'.heap.at h.clause (λ t. 0) o same (λ n. inl refl) (λ n l. absurd (omega (arith, l))) in
      let less : (t : ℕ) → g t + point.st.below_owns t ≤ H.own (Of_thread k) t = λ t. (let a = point.st.join t in let b = le t in omega arith) in (
        after p w w' h H k (Running (next f e' rest) below) then_part (λ t. g t + point.st.below_owns t) h.clause same puts less (clauses_stay (decls_of p) h.clause (H.own (Of_thread k))),
        quiet_held p w w' h H k (Running (next f e' rest) below) then_part (λ t. g t + point.st.below_owns t) h.clause same puts less (clauses_stay (decls_of p) h.clause (H.own (Of_thread k)))
            (then_stack (record { at = w'.heap.at; clause = h.clause; hides = h.hides }) g (all_stay (decls_of p) (sight w h) (record { at = w'.heap.at; clause = h.clause; hides = h.hides }) m (stays g)) (stays point.st.below_owns)),
        λ m. refl,
      )

  -- one that adds a permission that owns nothing
  pub one_more : (a : Atom ℕ) → Adds a point.st.top.state point.d.state → Means (decls_of p) (sight w h) (map_atom with_to a) (λ t. 0) → Keeps w.heap.at w'.heap.at → Puts (slice_get w.threads) k (Running (next f e' rest) below) (slice_get w'.threads) → Onward p w' h k then_part
  one_more a adds m same puts = same_heap point.st.top_owns (λ t. omega arith) same puts
      (subst (λ l. MeansAll (decls_of p) (sight w h) (map (map_atom with_to) l) point.st.top_owns) (sym adds)
      (all_end (decls_of p) (sight w h) (map_atom with_to) point.st.top.state a point.st.top_owns point.st.top_owns (λ t. 0) (subst (λ l. MeansAll (decls_of p) (sight w h) l point.st.top_owns) (sym still) point.means) m (λ t. omega arith)))

at_place : (f : ℕ → Value) (ys : List ℕ) (i y : ℕ) (v : Value) → slice_get ys i ≡ Some y → slice_get (map f ys) i ≡ Some v → v ≡ f y
at_place f [] i y v e q = absurd (cc)
at_place f (x ∷ ys) zero y v e q = sym (some_inj q) ∙ ap f (some_inj e)
at_place f (x ∷ ys) (suc i) y v e q = at_place f ys i y v e q

pub in_names : (ys : List ℕ) (i y : ℕ) → slice_get ys i ≡ Some y → list_any (λ n. nat_eq n y) ys ≡ true
in_names [] i y e = absurd (cc)
in_names (x ∷ ys) zero y e = or_left _ _ (subst (λ n. nat_eq x n ≡ true) (some_inj e) (eq_self x))
in_names (x ∷ ys) (suc i) y e = or_right _ _ (in_names ys i y e)

abbrev pub IsQuiet : Op → Type 0
IsQuiet (Int_op n) = Unit {0}
IsQuiet Unit_op = Unit {0}
IsQuiet (Fun_op g) = Unit {0}
IsQuiet (Copy_op x) = Unit {0}
IsQuiet (Arith_op o x y) = Unit {0}
IsQuiet (Read_op y con i) = Unit {0}
IsQuiet (Print_op x) = Unit {0}
IsQuiet _ = ⊥

-- commands that bind a value and leave the heap as it is
pub quiet_acts : (p : Program) (w w' : Config) (h : Holding) (H : Held p w h) (k : ℕ) (f : Frame) (below : List Suspended) (c : Command) (rest : List Command) (point : AtRule p w h H k f below c rest) (v : Value) (e' : Environment) (out : List ℕ) → (binds : Binds f.env (to_of c) v e') → Keeps w.heap.at w'.heap.at → Puts (slice_get w.threads) k (Running (next f e' rest) below) (slice_get w'.threads) →
    Acts w.heap.at f.env (op_of c) v w'.heap.at out → IsQuiet (op_of c) → Onward p w' h k (then_part p w w' h H k f below c rest point v e' binds)
quiet_acts p w w' h H k f below (The_command to (Int_op n) place) rest point v e' out binds same puts acts q = by point.d.uses point.d.does.rule
  where
    by : (uses : Option (Atom ℕ)) → Rule (decls_of p) point.st.top.state to (Int_op n) uses point.d.state → Onward p w' h k (then_part p w w' h H k f below (The_command to (Int_op n) place) rest point v e' binds)
    by (Some a) r = absurd r
    by None r = one_more p w w' h H k f below _ rest point v e' binds _ r (Means_int n (to_is p w w' h H k f below _ rest point v e' binds ∙ acts.0) (λ t. refl)) same puts
quiet_acts p w w' h H k f below (The_command to Unit_op place) rest point v e' out binds same puts acts q = by point.d.uses point.d.does.rule
  where
    by : (uses : Option (Atom ℕ)) → Rule (decls_of p) point.st.top.state to Unit_op uses point.d.state → Onward p w' h k (then_part p w w' h H k f below (The_command to Unit_op place) rest point v e' binds)
    by (Some a) r = absurd r
    by None r = one_more p w w' h H k f below _ rest point v e' binds _ r (Means_unknown (λ t. refl)) same puts
quiet_acts p w w' h H k f below (The_command to (Fun_op g) place) rest point v e' out binds same puts acts q = by point.d.uses point.d.does.rule
  where
    by : (uses : Option (Atom ℕ)) → Rule (decls_of p) point.st.top.state to (Fun_op g) uses point.d.state → Onward p w' h k (then_part p w w' h H k f below (The_command to (Fun_op g) place) rest point v e' binds)
    by (Some a) r = absurd r
    by None r = one_more p w w' h H k f below _ rest point v e' binds _ r.new (Means_function g (to_is p w w' h H k f below _ rest point v e' binds ∙ acts.0) r.declared (λ t. refl)) same puts
quiet_acts p w w' h H k f below (The_command to (Copy_op x) place) rest point v e' out binds same puts acts q = by point.d.uses point.d.does.rule
  where
    by : (uses : Option (Atom ℕ)) → Rule (decls_of p) point.st.top.state to (Copy_op x) uses point.d.state → Onward p w' h k (then_part p w w' h H k f below (The_command to (Copy_op x) place) rest point v e' binds)
    by (Some a) r = absurd r
    by None r = one_more p w w' h H k f below _ rest point v e' binds _ r (Means_same (to_is p w w' h H k f below _ rest point v e' binds ∙ acts.0 ∙ sym (arg_is p w w' h H k f below _ rest point v e' binds x point.core)) (λ t. refl)) same puts
quiet_acts p w w' h H k f below (The_command to (Arith_op o x y) place) rest point v e' out binds same puts acts q = by point.d.uses point.d.does.rule
  where
    by : (uses : Option (Atom ℕ)) → Rule (decls_of p) point.st.top.state to (Arith_op o x y) uses point.d.state → Onward p w' h k (then_part p w w' h H k f below (The_command to (Arith_op o x y) place) rest point v e' binds)
    by (Some a) r = absurd r
    by None r = one_more p w w' h H k f below _ rest point v e' binds _ r.new (Means_int acts.0.0 (to_is p w w' h H k f below _ rest point v e' binds ∙ acts.0.2) (λ t. refl)) same puts
quiet_acts p w w' h H k f below (The_command to (Print_op x) place) rest point v e' out binds same puts acts q = by point.d.uses point.d.does.rule
  where
    by : (uses : Option (Atom ℕ)) → Rule (decls_of p) point.st.top.state to (Print_op x) uses point.d.state → Onward p w' h k (then_part p w w' h H k f below (The_command to (Print_op x) place) rest point v e' binds)
    by (Some a) r = absurd r
    by None r = one_more p w w' h H k f below _ rest point v e' binds _ r.new (Means_unknown (λ t. refl)) same puts
quiet_acts p w w' h H k f below (The_command to (Read_op y con i) place) rest point v e' out binds same puts acts q = by point.d.uses point.d.does.rule
  where
    by : (uses : Option (Atom ℕ)) → Rule (decls_of p) point.st.top.state to (Read_op y con i) uses point.d.state → Onward p w' h k (then_part p w w' h H k f below (The_command to (Read_op y con i) place) rest point v e' binds)
    by None r = absurd r
    by (Some a) r = one_more p w w' h H k f below _ rest point v e' binds _ r.new (Means_same (to_is p w w' h H k f below _ rest point v e' binds ∙ value ∙ sym other) (λ t. refl)) same puts
      where
        names : ℕ → Value
        names = (h.thread k).top.values

        b : (b : ℕ) × (names y ≡ Block_value b) × IsBlock w.heap.at b con (map names r.fields)
        b = block_inv (decls_of p) (sight w h) (look_up (decls_of p) (sight w h) (map_atom names) (Has_atom y (Block_type con r.fields r.adopts)) point.st.top.state point.st.top_owns (subst (λ z. In z point.st.top.state) r.block r.held) point.means).1

        same_block : b.0 ≡ acts.0.name
        same_block = block_is b.1 (point.st.top.env y point.core.0 ∙ acts.0.is)

        here : IsBlock w.heap.at acts.0.name con (map names r.fields)
        here = subst (λ n. IsBlock w.heap.at n con (map names r.fields)) same_block b.2

        value : v ≡ names r.name
        value = at_place names r.fields i r.name v r.at_field (subst (λ l. slice_get l i ≡ Some v) (cell_fields acts.0.made.made here.made) acts.0.at_field)

        other : at_only to v names r.name ≡ names r.name
        other = at_others to r.name v names (λ e. true_false (in_occurs to a point.st.top.state r.held (subst (λ z. in_atom to z ≡ true) (sym r.block) (or_right _ _ (in_names r.fields i to (r.at_field ∙ ap Some (sym e)))))) point.d.does.new)
quiet_acts p w w' h H k f below (The_command to (New_op a1 b1) place) rest point v e' out binds same puts acts q = absurd q
quiet_acts p w w' h H k f below (The_command to (Write_op a1 b1 c1 d1) place) rest point v e' out binds same puts acts q = absurd q
quiet_acts p w w' h H k f below (The_command to (Retag_op a1 b1 c1) place) rest point v e' out binds same puts acts q = absurd q
quiet_acts p w w' h H k f below (The_command to (If_op a1 b1 c1 d1) place) rest point v e' out binds same puts acts q = absurd q
quiet_acts p w w' h H k f below (The_command to (Match_op a1 b1 c1 d1) place) rest point v e' out binds same puts acts q = absurd q
quiet_acts p w w' h H k f below (The_command to (Call_op a1 b1) place) rest point v e' out binds same puts acts q = absurd q
quiet_acts p w w' h H k f below (The_command to (Give_op a1 b1) place) rest point v e' out binds same puts acts q = absurd q
quiet_acts p w w' h H k f below (The_command to (Take_op a1 b1) place) rest point v e' out binds same puts acts q = absurd q
quiet_acts p w w' h H k f below (The_command to (New_lock_op a1) place) rest point v e' out binds same puts acts q = absurd q
quiet_acts p w w' h H k f below (The_command to (Acquire_op a1) place) rest point v e' out binds same puts acts q = absurd q
quiet_acts p w w' h H k f below (The_command to (Release_op a1) place) rest point v e' out binds same puts acts q = absurd q
quiet_acts p w w' h H k f below (The_command to (Spawn_op a1 b1) place) rest point v e' out binds same puts acts q = absurd q
