-- Into a call: the needs go from the caller's share to the callee's, and the rest waits. And back: what isn't consumed, and what the
-- signature gives, comes to what waited, with the callee's names for parameters changed for the caller's.
use Rattle.std.proofs.Common.{◌≡◌, ◌≢◌, inl, inr, ℕ, zero, suc, ◌+◌, ◌<◌, ◌≤◌, Bool, true, false, List, [], ◌∷◌, ◌++◌, length, map, slice_index_or, Option, Some, None, slice_get, refl, sym, ap, ◌∙◌, subst, arith}
use Rattle.std.proofs.lemmas.Bool.{cases_lt}
use Rattle.std.proofs.lemmas.List.{map-append, length-map}
use Rattle.std.proofs.lemmas.Option.{slice_get_within}
use Rattle.mz_tree.specs.Plain.{Atom, Function_type, Has_atom, map_atom}
use Rattle.mz_tree.specs.Programs.{Need, Sig, Fun, Program}
use Rattle.mz_tree.specs.Code.{op_branches, Command, Call_op, to_of, op_of, commands_in, result_of}
use Rattle.mz_tree.specs.Renaming.{name_at}
use Rattle.mz_decl.specs.Declarations.{Decls, decls_of}
use Rattle.mz_decl.specs.Contents.{names_from}
use Rattle.mz_decl.specs.Signatures.{unless_consumed, needed, at_args, given, owed, kept, parameters}
use Rattle.mz_perm.specs.Lists.{In, Any_copy}
use Rattle.mz_perm.specs.Using.{UsesUpAll}
use Rattle.mz_modes.specs.Affine.{AffineAtom}
use Rattle.mz_modes.specs.Calling.{GivesBack}
use Rattle.mz_flow.specs.Commands.{Calls}
use Rattle.mz_deriv.specs.Rules.{Rule, Does}
use Rattle.mz_deriv.specs.Scripts.{Item}
use Rattle.mz_deriv.specs.Derivable.{Derivable}
use Rattle.mz_named.specs.Configurations.{Value, Int_value, Fun_value, Environment, Frame, Suspended, Thread, Running, Config}
use Rattle.mz_named.specs.Bodies.{Binds, start, value_at}
use Rattle.mz_named.specs.Steps.{Moves, IsAt, IsDone, next}
use Rattle.mz_named.specs.Operations.{IsFunction}
use Rattle.mz_resource.proofs.Facts.{some_inj, some_is, member_at}
use Rattle.mz_resource.proofs.Threads.Entering.{straight_walks_none}
use Rattle.mz_resource.specs.Meaning.{Owned, OwnsBoth, Sight, MeansAll, All_more}
use Rattle.mz_resource.specs.Names.{AreArgs, CoreOp, CoreCommands}
use Rattle.mz_resource.specs.Frames.{ThreadHolding, FrameWalks, Last_walks, IsFrameOf, WaitingIsHeld, BelowIsHeld, Waits_below, StackIsHeld, Behind, WaitingHolding}
use Rattle.mz_resource.specs.Held.{Holding, sight, Held}
use Rattle.mz_resource.specs.Owners.{Of_thread}
use Rattle.mz_resource.proofs.Programs.Proper.{AreClosed, AreNeedsClosed, IsSigClosed, ProperDecls, ProperBodies}
use Rattle.mz_resource.specs.Following.{AtCommand, FollowsCall, FollowsReturn}
use Rattle.mz_resource.proofs.Meaning.Names.{share_twice, closed_agree, index_map}
use Rattle.mz_perm.proofs.Orders.{perm_refl}
use Rattle.mz_resource.proofs.Meaning.Owning.{Split, head_of, means_perm, look_up, all_split, all_both}
use Rattle.mz_resource.proofs.Meaning.Staying.{Stays, all_stay}
use Rattle.mz_resource.proofs.Meaning.Spending.{use_all, fresh_after}
use Rattle.mz_resource.proofs.Meaning.Inverse.{function_inv}
use Rattle.mz_resource.proofs.Views.Opening.{length_names}
use Rattle.mz_resource.proofs.Threads.Stacks.{below_stays}
use Rattle.mz_resource.proofs.Threads.Quiet.{at_only, at_it, at_others, clauses_stay, sight_stays, after, quiet_held, Onward}
use Rattle.mz_resource.proofs.Threads.Standing.{Doing, at_command, at_return, core_of, core_body, bound_share, bound_env, bound_args, args_values}

pub needs_closed : (n : ℕ) (needs : List Need) → AreNeedsClosed n needs → AreClosed n (needed needs)
needs_closed n [] c = tt
needs_closed n (x ∷ needs) c = (c.0, needs_closed n needs c.1)

back_closed : (D : Decls) (n : ℕ) (needs : List Need) (back : List (Atom ℕ)) → GivesBack D needs back → AreNeedsClosed n needs → AreClosed n back
back_closed D n [] back g c = subst (λ l. AreClosed n l) (sym g) tt
back_closed D n (x ∷ needs) back (inl g) c = subst (λ l. AreClosed n l) (sym g.1.1) (c.0, back_closed D n needs g.1.0 g.1.2 c.1)
back_closed D n (x ∷ needs) back (inr g) c = back_closed D n needs back g.1 c.1

-- what a call gives back is a part of what the callee kept
kept_back : (D : Decls) (S : Sight) (m : Atom ℕ → Atom Value) (needs : List Need) (back : List (Atom ℕ)) (f : Owned) → GivesBack D needs back → MeansAll D S (map m (kept needs)) f → (g : Owned) × MeansAll D S (map m back) g × ((t : ℕ) → g t ≤ f t)
kept_back D S m [] back f g p = (f, subst (λ l. MeansAll D S (map m l) f) (sym g) p, λ t. omega arith)
kept_back D S m (x ∷ needs) back f (inl g) p =
    let r = head_of D S f (subst (λ b. MeansAll D S (map m (unless_consumed b x.atom (kept needs))) f) g.0.0 p) in
    let s = kept_back D S m needs g.1.0 r.two g.1.2 r.second_part in
    (λ t. r.one t + s.0 t, subst (λ l. MeansAll D S (map m l) (λ t. r.one t + s.0 t)) (sym g.1.1) (All_more r.first_part s.1 (λ t. refl)), λ t. omega (arith, r.join t, s.2 t))
kept_back D S m (x ∷ needs) back f (inr g) p = by x.consumed p (λ h z. kept_back D S m needs back h g.1 z)
  where
    by : (b : Bool) → MeansAll D S (map m (unless_consumed b x.atom (kept needs))) f → ((h : Owned) → MeansAll D S (map m (kept needs)) h → (k : Owned) × MeansAll D S (map m back) k × ((t : ℕ) → k t ≤ h t)) → (k : Owned) × MeansAll D S (map m back) k × ((t : ℕ) → k t ≤ f t)
    by true p rec = rec f p
    by false p rec = let r = head_of D S f p in let s = rec r.two r.second_part in (s.0, s.1, λ t. omega (arith, r.join t, s.2 t))

-- ---- names of arguments and of the result

pub name_front : (ys zs : List ℕ) (n : ℕ) → n < length ys → name_at (ys ++ zs) n ≡ name_at ys n
name_front [] zs n l = absurd (omega arith)
name_front (y ∷ ys) zs zero l = refl
name_front (y ∷ ys) zs (suc n) l = name_front ys zs n (omega arith)

pub name_end : (ys : List ℕ) (z n : ℕ) → n ≡ length ys → name_at (ys ++ z ∷ []) n ≡ z
name_end [] z n e = subst (λ m. name_at (z ∷ []) m ≡ z) (sym e) refl
name_end (y ∷ ys) z zero e = absurd (omega arith)
name_end (y ∷ ys) z (suc n) e = name_end ys z n (omega arith)

params_at : (n k m : ℕ) → m < k → name_at (names_from n k) m ≡ n + m
params_at n zero m l = absurd (omega arith)
params_at n (suc k) zero l = omega arith
params_at n (suc k) (suc m) l = params_at (suc n) k m (omega arith) ∙ omega arith

arg_at : (to : ℕ) (ys : List ℕ) (n : ℕ) → n < length ys → AreArgs to ys → (name_at ys n < 256) × (name_at ys n ≢ to)
arg_at to [] n l a = absurd (omega arith)
arg_at to (y ∷ ys) zero l a = a.0
arg_at to (y ∷ ys) (suc n) l a = arg_at to ys n (omega arith) a.1

-- ---- a command that calls

call_rule : (D : Decls) (R : List (Atom ℕ)) (c g : ℕ) (ys : List ℕ) (uses : Option (Atom ℕ)) (T : List (Atom ℕ)) → Rule D R c (Call_op g ys) uses T → (a : Atom ℕ) × Calls Any_copy D R c g ys a T
call_rule D R c g ys None T r = absurd r
call_rule D R c g ys (Some a) T r = (a, r)

pub function_is : {v : Value} {n m : ℕ} → v ≡ Fun_value n → v ≡ Fun_value m → n ≡ m
function_is e f = cc

-- a function's script, and its signature, where a name of that signature is called
pub record IsStart (p : Program) (scripts : List (List Item)) (n s : ℕ) (sig : Sig) (f : Fun) : Type 0 where
  pub declared : slice_get p.sigs s ≡ Some sig
  pub script : List Item
  pub script_is : slice_get scripts n ≡ Some script
  pub walks : FrameWalks (decls_of p) (owed sig) (needed sig.needs) (commands_in f.body) (result_of f.body) [] script []
  pub core : CoreCommands (decls_of p) sig.count (commands_in f.body) × (result_of f.body < 256)

pub fun_sig : (funs : List Fun) (n s : ℕ) (f : Fun) → slice_get funs n ≡ Some f → slice_get (map (λ (g : Fun). g.sig) funs) n ≡ Some s → f.sig ≡ s
fun_sig [] n s f e q = absurd (cc)
fun_sig (x ∷ funs) zero s f e q = let z : x ≡ f = some_inj e in ap (λ (g : Fun). g.sig) (sym z) ∙ some_inj q
fun_sig (x ∷ funs) (suc n) s f e q = fun_sig funs n s f e q

pub starts : (p : Program) (scripts : List (List Item)) → ProperBodies p → Derivable p scripts → (n s : ℕ) (f : Fun) (sig : Sig) → slice_get p.funs n ≡ Some f → f.sig ≡ s → slice_get p.sigs s ≡ Some sig → IsStart p scripts n s sig f
starts p scripts core d n s f sig e q g =
    let z = member_at scripts n (subst (λ m. n < m) (sym d.one_each) (slice_get_within p.funs n f e)) in
    let k = (d.derives n f z.0 e z.1).walks in
    let signed : slice_get p.sigs f.sig ≡ Some sig = subst (λ m. slice_get p.sigs m ≡ Some sig) (sym q) g in
    let same : k.sig ≡ sig = some_is k.signed signed in
    record {
      declared = g;
      script = z.0;
      script_is = z.1;
      walks = subst (λ (x : Sig). FrameWalks (decls_of p) (owed x) (needed x.needs) (commands_in f.body) (result_of f.body) [] z.0 []) same (Last_walks k.rest k.walks k.ends);
      core = core_body (decls_of p) sig.count f.body (core n f sig e signed);
    }

-- the needs of a signature, with the values of the arguments
pub needs_named : (names : ℕ → Value) (args : List Value) (ys : List ℕ) (n : ℕ) (p : List (Atom ℕ)) → AreClosed n p → length ys ≡ n → map names ys ≡ args → map (map_atom names) (at_args ys p) ≡ map (map_atom (value_at args)) p
needs_named names args ys n p c long vals = share_twice names (name_at ys) p ∙ closed_agree _ _ n p c (λ x l. index_map names 0 (Int_value 0) ys x (omega (arith, long, l)) ∙ ap (λ vs. slice_index_or vs x (Int_value 0)) vals)

record UnderIs (D : Decls) (S : Sight) (called : Sig) (args : List Value) (w : Suspended) (below : List Suspended) (all : List WaitingHolding) (f : Owned) : Type 0 where
  q : WaitingHolding
  parts : List WaitingHolding
  all_are : all ≡ q ∷ parts
  args' : List Value
  g : Owned
  h : Owned
  s : ℕ
  sig : Sig
  of : IsFrameOf D s sig args' w.frame
  waiting : WaitingIsHeld D S called args sig w q g
  under : BelowIsHeld D S sig args' below parts h
  join : OwnsBoth g h f

under_is : {D : Decls} {S : Sight} {called : Sig} {args : List Value} {w : Suspended} {below : List Suspended} {all : List WaitingHolding} {f : Owned} → BelowIsHeld D S called args (w ∷ below) all f → UnderIs D S called args w below all f
under_is (Waits_below s sig of w under j) = record { q = _; parts = _; all_are = refl; args' = _; g = _; h = _; s = s; sig = sig; of = of; waiting = w; under = under; join = j }

module _ (p : Program) (scripts : List (List Item)) (w w' : Config) (h : Holding) (H : Held p w h) (k : ℕ) (L : ProperDecls (decls_of p)) (C : ProperBodies p) (V : Derivable p scripts) (f : Frame) (at : AtCommand (h.thread k).top.script) where
  abbrev S : Sight
  S = sight w h

  abbrev S' : Sight
  S' = record { at = w'.heap.at; clause = h.clause; hides = h.hides }

  -- the thread's holding goes on so, and the invariant is kept
  abbrev Goes : (ThreadHolding → ThreadHolding → Type 0) → Type 0
  Goes P = (q' : ThreadHolding) × P (h.thread k) q' × Onward p w' h k q'

  pub call_keeps : (below : List Suspended) (c : Command) (rest : List Command) (callee : ℕ) (ys : List ℕ) → IsAt w k f below c rest → op_of c ≡ Call_op callee ys → (fn : IsFunction p (f.env callee) (length ys)) →
      Moves w k (Running (start fn.fun (map f.env ys)) (record { to = to_of c; frame = next f f.env rest } ∷ below)) w' → Goes (FollowsCall (decls_of p) scripts c fn.number fn.sig)
  call_keeps below c rest callee ys here is fn moves = go (H.threads k (Running f below) here.here)
    where
      go : StackIsHeld (decls_of p) S f below (h.thread k) (H.own (Of_thread k)) → Goes (FollowsCall (decls_of p) scripts c fn.number fn.sig)
      go st = elim (at_command (decls_of p) (owed st.sig) at (subst (λ l. FrameWalks (decls_of p) (owed st.sig) st.top.state l f.rest.value f.outer (h.thread k).top.script (h.thread k).top.outer) here.first st.top.walks)) [
        | inl d ↦ by d
        | inr b ↦ absurd (b.rule.some (straight_walks_none (op_of c) b.uses (ap op_branches is)))
      ]
        where
          by : Doing (decls_of p) (owed st.sig) st.top.state c rest f.rest.value f.outer (h.thread k).top.script (h.thread k).top.outer → Goes (FollowsCall (decls_of p) scripts c fn.number fn.sig)
          by d = (q, follows, (after p w w' h H k t' q g h.clause moves.heap moves.threads less (clauses_stay (decls_of p) h.clause (H.own (Of_thread k))), quiet_held p w w' h H k t' q g h.clause moves.heap moves.threads less (clauses_stay (decls_of p) h.clause (H.own (Of_thread k))) stack, λ m. refl))
            where
              names : ℕ → Value
              names = (h.thread k).top.values

              means : MeansAll (decls_of p) S (map (map_atom names) st.top.state) st.top_owns
              means = means_perm (decls_of p) S (map_atom names) (h.thread k).top.share st.top.state st.top_owns st.top.alike st.top.means

              core : CoreCommands (decls_of p) st.sig.count (c ∷ rest)
              core = subst (λ l. CoreCommands (decls_of p) st.sig.count l) here.first st.top_of.core.0

              core_c : (st.sig.count ≤ to_of c) × (to_of c < 256) × CoreOp (decls_of p) st.sig.count (to_of c) (op_of c)
              core_c = core_of (decls_of p) st.sig.count c core.0

              core_args : CoreOp (decls_of p) st.sig.count (to_of c) (Call_op callee ys)
              core_args = subst (λ o. CoreOp (decls_of p) st.sig.count (to_of c) o) is core_c.2

              rule : (a : Atom ℕ) × Calls Any_copy (decls_of p) st.top.state (to_of c) callee ys a d.state
              rule = call_rule (decls_of p) st.top.state (to_of c) callee ys d.uses d.state (subst (λ o. Rule (decls_of p) st.top.state (to_of c) o d.uses d.state) is d.does.rule)

              sig : Sig
              sig = rule.1.callee.sig

              value : (n : ℕ) × (names callee ≡ Fun_value n) × (slice_get (decls_of p).fun_sigs n ≡ Some rule.1.callee.number)
              value = function_inv (decls_of p) S (look_up (decls_of p) S (map_atom names) (Has_atom callee (Function_type rule.1.callee.number)) st.top.state st.top_owns (subst (λ a. In a st.top.state) rule.1.callee.function rule.1.callee.held) means).1

              number_same : value.0 ≡ fn.number
              number_same = function_is value.1 (st.top.env callee core_args.0.0 ∙ fn.is)

              begin : IsStart p scripts fn.number rule.1.callee.number sig fn.fun
              begin = starts p scripts C V fn.number rule.1.callee.number fn.fun sig fn.declared (fun_sig p.funs fn.number rule.1.callee.number fn.fun fn.declared (subst (λ n. slice_get (decls_of p).fun_sigs n ≡ Some rule.1.callee.number) number_same value.2)) rule.1.callee.declared

              closed : IsSigClosed sig
              closed = L.sigs rule.1.callee.number sig rule.1.callee.declared

              used : Split (MeansAll (decls_of p) S (map (map_atom names) (at_args ys (needed sig.needs)))) (MeansAll (decls_of p) S (map (map_atom names) rule.1.rest)) st.top_owns
              used = use_all (decls_of p) S names (at_args ys (needed sig.needs)) st.top.state rule.1.rest st.top_owns rule.1.used means

              args : List Value
              args = map f.env ys

              vals : map names ys ≡ args
              vals = args_values names f.env (to_of c) ys st.top.env core_args.1

              many : length ys ≡ sig.count
              many = rule.1.callee.many

              t' : Thread
              t' = Running (start fn.fun args) (record { to = to_of c; frame = next f f.env rest } ∷ below)

              g : Owned
              g t = used.one t + (used.two t + st.below_owns t)

              wait : WaitingHolding
              wait = record { frame = record { values = names; share = rule.1.rest; script = d.items; outer = (h.thread k).top.outer }; gives = given ys (to_of c) rule.1.back sig.gives }

              q : ThreadHolding
              q = record {
                top = record { values = value_at args; share = needed sig.needs; script = begin.script; outer = [] };
                below = wait ∷ (h.thread k).below;
              }

              sig_same : sig ≡ fn.sig
              sig_same = some_is rule.1.callee.declared (subst (λ n. slice_get p.sigs n ≡ Some fn.sig) (fun_sig p.funs fn.number rule.1.callee.number fn.fun fn.declared (subst (λ n. slice_get (decls_of p).fun_sigs n ≡ Some rule.1.callee.number) number_same value.2)) fn.signed)

              follows : FollowsCall (decls_of p) scripts c fn.number fn.sig (h.thread k) q
              follows = record {
                uses = d.uses;
                items = d.items;
                at_command = d.script_is;
                state = st.top.state;
                alike = st.top.alike;
                waiting = wait;
                does = subst (λ l. Does (decls_of p) st.top.state c d.uses l) rule.1.new d.does;
                script = refl;
                outer = refl;
                below = refl;
                callee = record { share = ap (λ (z : Sig). needed z.needs) sig_same; script = begin.script_is; outer = refl };
              }

              less : (t : ℕ) → g t ≤ H.own (Of_thread k) t
              less t = let a = st.join t in let z = used.join t in omega arith

              stays : (o : Owned) → Stays (decls_of p) S S' o
              stays o = sight_stays (decls_of p) S w'.heap.at h.clause (λ t. 0) o moves.heap (λ n. inl refl) (λ n l. absurd (omega (arith, l)))

              waiting : WaitingIsHeld (decls_of p) S' sig args st.sig (record { to = to_of c; frame = next f f.env rest }) wait used.two
              waiting = record {
                names = ys;
                values = vals;
                many = many;
                apart = core_args.1;
                to_core = core_c.1;
                to_low = core_c.0;
                fresh = fresh_after (decls_of p) (to_of c) (at_args ys (needed sig.needs)) st.top.state rule.1.rest rule.1.used d.does.new;
                means = all_stay (decls_of p) S S' used.second_part (stays used.two);
                env = st.top.env;
                back = rule.1.back;
                gives_back = rule.1.gives_back;
                gives = refl;
                walks = subst (λ l. FrameWalks (decls_of p) (owed st.sig) l rest f.rest.value f.outer d.items (h.thread k).top.outer) rule.1.new d.walks;
              }

              stack : StackIsHeld (decls_of p) S' (start fn.fun args) (record { to = to_of c; frame = next f f.env rest } ∷ below) q g
              stack = record {
                number = rule.1.callee.number;
                sig = sig;
                args = args;
                top_of = record { declared = rule.1.callee.declared; has_args = record { many = length-map ys f.env ∙ many; each = λ m l. refl }; core = (begin.core.0, begin.core.1, tt) };
                top_owns = used.one;
                below_owns = λ t. used.two t + st.below_owns t;
                top = record {
                  means = all_stay (decls_of p) S S' (subst (λ l. MeansAll (decls_of p) S l used.one) (needs_named names args ys sig.count (needed sig.needs) (needs_closed sig.count sig.needs closed.needs) many vals) used.first_part) (stays used.one);
                  env = λ m l. refl;
                  state = needed sig.needs;
                  alike = perm_refl (needed sig.needs);
                  walks = begin.walks;
                };
                under = Waits_below st.number st.sig (record { declared = st.top_of.declared; has_args = record { many = st.top_of.has_args.many; each = st.top_of.has_args.each }; core = (core.1, st.top_of.core.1, st.top_of.core.2) }) waiting (below_stays (decls_of p) S S' st.under (stays st.below_owns)) (λ t. refl);
                join = λ t. refl;
              }

  pub return_keeps : (wt : Suspended) (below : List Suspended) (e' : Environment) → IsDone w k f (wt ∷ below) → f.outer ≡ [] → Binds wt.frame.env wt.to (f.env f.rest.value) e' →
      Moves w k (Running (next wt.frame e' wt.frame.rest.commands) below) w' → Goes FollowsReturn
  return_keeps wt below e' here out binds moves = go (H.threads k (Running f (wt ∷ below)) here.here)
    where
      go : StackIsHeld (decls_of p) S f (wt ∷ below) (h.thread k) (H.own (Of_thread k)) → Goes FollowsReturn
      go st = (q, follows, (after p w w' h H k t' q g h.clause moves.heap moves.threads less (clauses_stay (decls_of p) h.clause (H.own (Of_thread k))), quiet_held p w w' h H k t' q g h.clause moves.heap moves.threads less (clauses_stay (decls_of p) h.clause (H.own (Of_thread k))) stack, λ m. refl))
        where
          names : ℕ → Value
          names = (h.thread k).top.values

          means : MeansAll (decls_of p) S (map (map_atom names) st.top.state) st.top_owns
          means = means_perm (decls_of p) S (map_atom names) (h.thread k).top.share st.top.state st.top_owns st.top.alike st.top.means

          sig : Sig
          sig = st.sig

          r : (left : List (Atom ℕ)) × UsesUpAll (AffineAtom (decls_of p)) (owed st.sig f.rest.value) st.top.state left × ((h.thread k).top.script ≡ [])
          r = at_return (decls_of p) (owed st.sig) at (scripts_none (subst (λ l. FrameWalks (decls_of p) (owed st.sig) st.top.state [] f.rest.value l (h.thread k).top.script (h.thread k).top.outer) out (subst (λ l. FrameWalks (decls_of p) (owed st.sig) st.top.state l f.rest.value f.outer (h.thread k).top.script (h.thread k).top.outer) here.done st.top.walks)))
            where
              scripts_none : {items : List Item} {more : List Behind} → FrameWalks (decls_of p) (owed st.sig) st.top.state [] f.rest.value [] items more → FrameWalks (decls_of p) (owed st.sig) st.top.state [] f.rest.value [] items []
              scripts_none (Last_walks rest walk u) = Last_walks rest walk u

          u : UnderIs (decls_of p) S st.sig st.args wt below (h.thread k).below st.below_owns
          u = under_is st.under

          ys : List ℕ
          ys = u.waiting.names

          closed : IsSigClosed sig
          closed = L.sigs st.number sig st.top_of.declared

          used : Split (MeansAll (decls_of p) S (map (map_atom names) (owed sig f.rest.value))) (MeansAll (decls_of p) S (map (map_atom names) r.0)) st.top_owns
          used = use_all (decls_of p) S names (owed sig f.rest.value) st.top.state r.0 st.top_owns r.1 means

          given_names : ℕ → ℕ
          given_names = name_at (parameters sig ++ f.rest.value ∷ [])

          parts : Split (MeansAll (decls_of p) S (map (map_atom names) (kept sig.needs))) (MeansAll (decls_of p) S (map (map_atom names) (map (map_atom given_names) sig.gives))) used.one
          parts = all_split (decls_of p) S _ _ used.one (subst (λ l. MeansAll (decls_of p) S l used.one) (map-append (map_atom names) (kept sig.needs) (map (map_atom given_names) sig.gives)) used.first_part)

          back : (b : Owned) × MeansAll (decls_of p) S (map (map_atom names) u.waiting.back) b × ((t : ℕ) → b t ≤ parts.one t)
          back = kept_back (decls_of p) S (map_atom names) sig.needs u.waiting.back parts.one u.waiting.gives_back parts.first_part

          names' : ℕ → Value
          names' = at_only wt.to (names f.rest.value) u.q.frame.values

          many : length ys ≡ sig.count
          many = u.waiting.many

          -- a parameter of the callee has the value of the caller's argument
          param : (x : ℕ) → x < sig.count → names x ≡ names' (name_at ys x)
          param x l =
              let few = closed.few in
              let a = arg_at wt.to ys x (omega (arith, many, l)) u.waiting.apart in
              st.top.env x (omega (arith, few, l)) ∙ st.top_of.has_args.each x l ∙ ap (λ vs. value_at vs x) (sym u.waiting.values) ∙ sym (index_map u.q.frame.values 0 (Int_value 0) ys x (omega (arith, many, l))) ∙ sym (at_others wt.to (name_at ys x) (names f.rest.value) u.q.frame.values (λ e. a.1 (sym e)))

          backs : map (map_atom names) u.waiting.back ≡ map (map_atom names') (at_args ys u.waiting.back)
          backs = closed_agree _ _ sig.count u.waiting.back (back_closed (decls_of p) sig.count sig.needs u.waiting.back u.waiting.gives_back closed.needs) param ∙ sym (share_twice names' (name_at ys) u.waiting.back)

          params_many : length (parameters sig) ≡ sig.count
          params_many = length_names 0 sig.count

          gives_name : (x : ℕ) → x < sig.count + 1 → names (given_names x) ≡ names' (name_at (ys ++ wt.to ∷ []) x)
          gives_name x l = elim (cases_lt x sig.count) [
            | inl q ↦ ap names (name_front (parameters sig) (f.rest.value ∷ []) x (omega (arith, q, params_many)) ∙ params_at 0 sig.count x q ∙ omega arith) ∙ param x q ∙ ap names' (sym (name_front ys (wt.to ∷ []) x (omega (arith, q, many))))
            | inr q ↦ ap names (name_end (parameters sig) f.rest.value x (omega (arith, q, l, params_many))) ∙ sym (at_it wt.to (names f.rest.value) u.q.frame.values) ∙ ap names' (sym (name_end ys wt.to x (omega (arith, q, l, many))))
          ]

          gives : map (map_atom names) (map (map_atom given_names) sig.gives) ≡ map (map_atom names') (at_args (ys ++ wt.to ∷ []) sig.gives)
          gives = share_twice names given_names sig.gives ∙ closed_agree _ _ (sig.count + 1) sig.gives closed.gives gives_name ∙ sym (share_twice names' (name_at (ys ++ wt.to ∷ [])) sig.gives)

          share : List (Atom ℕ)
          share = u.q.frame.share ++ u.q.gives

          mine : Owned
          mine t = u.g t + (back.0 t + parts.two t)

          whole : MeansAll (decls_of p) S (map (map_atom names') share) mine
          whole = subst (λ l. MeansAll (decls_of p) S (map (map_atom names') (u.q.frame.share ++ l)) mine) (sym u.waiting.gives) (all_both (decls_of p) S (map_atom names') u.q.frame.share (given ys wt.to u.waiting.back sig.gives) mine u.g (λ t. back.0 t + parts.two t)
              (subst (λ l. MeansAll (decls_of p) S l u.g) (sym (bound_share u.q.frame.values wt.to (names f.rest.value) u.q.frame.share u.waiting.fresh)) u.waiting.means)
              (all_both (decls_of p) S (map_atom names') (at_args ys u.waiting.back) (at_args (ys ++ wt.to ∷ []) sig.gives) (λ t. back.0 t + parts.two t) back.0 parts.two
              (subst (λ l. MeansAll (decls_of p) S l back.0) backs back.1) (subst (λ l. MeansAll (decls_of p) S l parts.two) gives parts.second_part) (λ t. refl))
              (λ t. refl))

          t' : Thread
          t' = Running (next wt.frame e' wt.frame.rest.commands) below

          g : Owned
          g t = mine t + u.h t

          q : ThreadHolding
          q = record { top = record { values = names'; share = share; script = u.q.frame.script; outer = u.q.frame.outer }; below = u.parts }

          follows : FollowsReturn (h.thread k) q
          follows = record { waiting = u.q; others = u.parts; inside = u.all_are; done = r.2; share = refl; script = refl; outer = refl; below = refl }

          less : (t : ℕ) → g t ≤ H.own (Of_thread k) t
          less t = let a = st.join t in let b = used.join t in let c = parts.join t in let d = back.2 t in let e = u.join t in omega arith

          stays : (o : Owned) → Stays (decls_of p) S S' o
          stays o = sight_stays (decls_of p) S w'.heap.at h.clause (λ t. 0) o moves.heap (λ n. inl refl) (λ n l. absurd (omega (arith, l)))

          stack : StackIsHeld (decls_of p) S' (next wt.frame e' wt.frame.rest.commands) below q g
          stack = record {
            number = u.s;
            sig = u.sig;
            args = u.args';
            top_of = record { declared = u.of.declared; has_args = bound_args u.sig.count u.args' wt.frame.env e' wt.to (f.env f.rest.value) u.waiting.to_low u.of.has_args binds; core = u.of.core };
            top_owns = mine;
            below_owns = u.h;
            top = record {
              means = all_stay (decls_of p) S S' whole (stays mine);
              env = bound_env u.q.frame.values wt.frame.env e' wt.to (names f.rest.value) (f.env f.rest.value) (st.top.env f.rest.value st.top_of.core.1) u.waiting.env binds;
              state = share;
              alike = perm_refl share;
              walks = u.waiting.walks;
            };
            under = below_stays (decls_of p) S S' u.under (stays u.h);
            join = λ t. refl;
          }
