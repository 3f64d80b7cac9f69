-- Into a branch: the thread's share is then that with which the branch begins, the opened block among it. And out of one: the share is
-- the join, with the branch's value for the command's name.
use Rattle.std.proofs.Common.{◌≡◌, inl, inr, ◌==◌, ℕ, zero, suc, ◌+◌, ◌<◌, ◌≤◌, Bool, true, false, List, [], ◌∷◌, map, Option, Some, None, slice_get, refl, sym, ap, ◌∙◌, subst, arith}
use Rattle.std.proofs.lemmas.Bool.Decides.{nat_tests}
use Rattle.mz_tree.specs.Plain.{Atom, Int_type, Unknown_type, Dynamic_type, Locked_type, Named_type, Function_type, Block_type, Lock_type, Has_atom, Same_atom, map_atom}
use Rattle.mz_tree.specs.Programs.{Program, Con}
use Rattle.mz_tree.specs.Code.{Op, Command, Cases, Body, Int_op, Unit_op, Fun_op, Copy_op, Arith_op, New_op, Read_op, Write_op, Retag_op, If_op, Match_op, Call_op, Give_op, Take_op, New_lock_op, Acquire_op, Release_op, Spawn_op, Print_op, The_case, No_cases, More_cases, to_of, op_of, con_of, body_of, case_list, commands_in, result_of, The_command}
use Rattle.mz_tree.specs.declared.types.Place.{Place}
use Rattle.mz_decl.specs.Declarations.{Decls, decls_of}
use Rattle.mz_decl.specs.Signatures.{owed}
use Rattle.mz_perm.specs.Lists.{Any_copy}
use Rattle.mz_flow.specs.Branches.{StartsKnown, StartsOpened, walked_cases}
use Rattle.mz_deriv.specs.Rules.{Rule, Branch, Branches}
use Rattle.mz_deriv.specs.Scripts.{ScriptCases, item_list}
use Rattle.mz_deriv.specs.Walks.{in_place_of, BranchesWalk}
use Rattle.mz_named.specs.Bodies.{body_for, body_in, Binds}
use Rattle.mz_named.specs.Configurations.{Value, Int_value, Environment, Level, Frame, Suspended, Thread, Running, Config, Cells, Block_value}
use Rattle.mz_named.specs.Operations.{IsBlock, chosen, Chooses, ChoosesCase}
use Rattle.mz_named.specs.Steps.{Moves, IsAt, IsDone, inside}
use Rattle.mz_resource.specs.Meaning.{Owned, Sight, MeansAll, IsMade}
use Rattle.mz_resource.specs.Names.{CoreBody, CoreOp, CoreCases, CoreCommands, CoreLevels}
use Rattle.mz_resource.specs.Frames.{ThreadHolding, FrameWalks, StackIsHeld}
use Rattle.mz_resource.specs.Held.{Holding, sight, Held}
use Rattle.mz_resource.specs.Owners.{Of_thread}
use Rattle.mz_resource.proofs.Facts.{some_inj, some_is, none_some}
use Rattle.mz_resource.proofs.Programs.Proper.{ProperDecls}
use Rattle.mz_resource.specs.Following.{AtCommand, FollowsBranch, FollowsJoin}
use Rattle.mz_resource.proofs.Meaning.Names.{share_agree, share_twice}
use Rattle.mz_perm.proofs.Orders.{perm_refl}
use Rattle.mz_resource.proofs.Meaning.Owning.{Split, means_perm, look_up}
use Rattle.mz_resource.proofs.Meaning.Staying.{Stays, all_stay}
use Rattle.mz_resource.proofs.Meaning.Spending.{use_all}
use Rattle.mz_resource.proofs.Meaning.Inverse.{block_inv, block_is, cell_con}
use Rattle.mz_resource.proofs.Views.Viewing.{with_clauses, Viewed}
use Rattle.mz_resource.proofs.Views.Opening.{view_opens}
use Rattle.mz_resource.proofs.Threads.Stacks.{below_stays}
use Rattle.mz_resource.proofs.Threads.Quiet.{at_only, ClausesChange, clauses_stay, sight_stays, after, quiet_held, Onward}
use Rattle.mz_resource.proofs.Threads.Standing.{case_body, Branching, at_command, Joining, at_join, into_branch, core_of, core_body, bound_env, bound_args}
use Rattle.mz_resource.proofs.Threads.Entering.{entered, Entered, first_entered, CaseFound, case_found}

-- the branch that is gone into, and what is held where it begins
record Starts (D : Decls) (S : Sight) (names : ℕ → Value) (R : List (Atom ℕ)) (uses : Option (Atom ℕ)) (cases : ScriptCases) (bound : List ℕ) (c : Command) (join : List (Atom ℕ)) (body : Body) (f : Owned) : Type 0 where
  place : ℕ
  branch : Entered D R c uses cases bound join place place body
  view : Viewed D S names branch.start f

-- nothing changes
as_is : (D : Decls) (S : Sight) (names : ℕ → Value) (R : List (Atom ℕ)) (f : Owned) → MeansAll D S (map (map_atom names) R) f → Viewed D S names R f
as_is D S names R f p = record { names' = names; low = λ m l. refl; clause' = S.clause; own' = f; less = λ t. omega arith; means = p; changed = λ b. inl refl }

module _ (D : Decls) (L : ProperDecls D) (S : Sight) (names : ℕ → Value) (R : List (Atom ℕ)) (f : Owned) (p : MeansAll D S (map (map_atom names) R) f) (e : Environment) where
  -- a branch that begins with what is held
  begins_same : (c : Command) (uses : Option (Atom ℕ)) (cases : ScriptCases) (bound : List ℕ) (join : List (Atom ℕ)) (k : ℕ) (body : Body) (t : Entered D R c uses cases bound join k k body) → t.start ≡ R → Starts D S names R uses cases bound c join body f
  begins_same c uses cases bound join k body t same = record { place = k; branch = t; view = subst (λ l. Viewed D S names l f) (sym same) (as_is D S names R f p) }

  begins_if : (y n to : ℕ) (one two : Body) (giving : List (Atom ℕ)) (place : Place) (uses : Option (Atom ℕ)) (cases : ScriptCases) (branches : List Branch) (bound : List ℕ) (join : List (Atom ℕ)) →
      Branches D R (The_command to (If_op y one two giving) place) uses cases branches → BranchesWalk D bound (The_command to (If_op y one two giving) place) join branches →
      Starts D S names R uses cases bound (The_command to (If_op y one two giving) place) join (chosen n one two) f
  begins_if y n to one two giving place (Some a) cases branches bound join b walk =
      absurd (first_entered D R (The_command to (If_op y one two giving) place) (Some a) bound join cases branches b walk).1.begins.starts
  begins_if y zero to one two giving place None cases branches bound join b walk =
      let t = entered D R (The_command to (If_op y one two giving) place) None bound join 1 two (one ∷ two ∷ []) cases branches b.begin walk refl in
      begins_same (The_command to (If_op y one two giving) place) None cases bound join 1 two t t.begins.starts.same
  begins_if y (suc n) to one two giving place None cases branches bound join b walk =
      let t = entered D R (The_command to (If_op y one two giving) place) None bound join 0 one (one ∷ two ∷ []) cases branches b.begin walk refl in
      begins_same (The_command to (If_op y one two giving) place) None cases bound join 0 one t t.begins.starts.same

  -- a match whose constructor the permission tells: the machine takes the one case that is walked
  begins_known : (y d to x con : ℕ) (ys : List ℕ) (u : Option ℕ) (all : Cases) (giving : List (Atom ℕ)) (place : Place) (cases : ScriptCases) (bound : List ℕ) (join : List (Atom ℕ)) (body walked : Body) →
      names y ≡ e y → ChoosesCase S.at (e y) (case_list all) body →
      Entered D R (The_command to (Match_op y d all giving) place) (Some (Has_atom x (Block_type con ys u))) cases bound join 0 0 walked →
      Starts D S names R (Some (Has_atom x (Block_type con ys u))) cases bound (The_command to (Match_op y d all giving) place) join body f
  begins_known y d to x con ys u all giving place cases bound join body walked same ch t =
      subst (λ z. Starts D S names R (Some (Has_atom x (Block_type con ys u))) cases bound (The_command to (Match_op y d all giving) place) join z f) body_same (begins_same (The_command to (Match_op y d all giving) place) (Some (Has_atom x (Block_type con ys u))) cases bound join 0 walked t k.same)
    where
      k : StartsKnown D R d con (Has_atom x (Block_type con ys u)) (case_list all) t.fresh t.start
      k = t.begins.starts.1

      b : (b : ℕ) × (names x ≡ Block_value b) × IsBlock S.at b con (map names ys)
      b = block_inv D S (look_up D S (map_atom names) (Has_atom x (Block_type con ys u)) R f k.held p).1

      here : IsBlock S.at ch.name con (map names ys)
      here = subst (λ n. IsBlock S.at n con (map names ys)) (block_is (ap names (sym t.begins.starts.0) ∙ b.1) (same ∙ ch.is)) b.2

      con_same : ch.con ≡ con
      con_same = cell_con ch.made.made here.made

      walked_known : walked ≡ body_of k.known
      walked_known = some_inj (sym t.begins.walked ∙ ap (λ l. slice_get (map body_of (walked_cases (case_list all) l)) 0) k.one)

      body_same : walked ≡ body
      body_same = walked_known ∙ some_is (case_body con (case_list all) k.known k.one) (subst (λ n. body_for n (case_list all) ≡ Some body) con_same ch.chosen)

  -- a match that opens the block: the case that the machine takes is walked in its place
  begins_opened : (y d to x n : ℕ) (all : Cases) (giving : List (Atom ℕ)) (place : Place) (cases : ScriptCases) (branches : List Branch) (bound : List ℕ) (join : List (Atom ℕ)) (body : Body) →
      names y ≡ e y → ChoosesCase S.at (e y) (case_list all) body →
      Branches D R (The_command to (Match_op y d all giving) place) (Some (Has_atom x (Named_type n))) cases branches → BranchesWalk D bound (The_command to (Match_op y d all giving) place) join branches →
      Starts D S names R (Some (Has_atom x (Named_type n))) cases bound (The_command to (Match_op y d all giving) place) join body f
  begins_opened y d to x n all giving place cases branches bound join body same ch b walk =
      record { place = found.place; branch = t; view = view_opens D L S names R f p y d (con_of k.case) t.fresh t.start k.opens its }
    where
      found : CaseFound ch.con (case_list all) body
      found = case_found ch.con (case_list all) body ch.chosen

      t : Entered D R (The_command to (Match_op y d all giving) place) (Some (Has_atom x (Named_type n))) cases bound join found.place found.place body
      t = entered D R (The_command to (Match_op y d all giving) place) (Some (Has_atom x (Named_type n))) bound join found.place body (map body_of (case_list all)) cases branches b.begin walk found.walked

      k : StartsOpened Any_copy D R y d n (case_list all) found.place t.fresh t.start
      k = t.begins.starts.1

      con_is : con_of k.case ≡ ch.con
      con_is = ap con_of (some_is k.is_case found.is_case) ∙ found.con_is

      its : (block con : ℕ) (made : Con) (vs : List Value) → names y ≡ Block_value block → IsMade D S block con d made vs → con ≡ con_of k.case
      its block con made vs is m =
          let q : block ≡ ch.name = block_is is (same ∙ ch.is) in
          let here : IsBlock S.at ch.name con vs = subst (λ z. IsBlock S.at z con vs) q m.block in
          cell_con here.made ch.made.made ∙ sym con_is

  begins_match : (y d to : ℕ) (all : Cases) (giving : List (Atom ℕ)) (place : Place) (uses : Option (Atom ℕ)) (cases : ScriptCases) (branches : List Branch) (bound : List ℕ) (join : List (Atom ℕ)) (body : Body) →
      names y ≡ e y → ChoosesCase S.at (e y) (case_list all) body →
      Branches D R (The_command to (Match_op y d all giving) place) uses cases branches → BranchesWalk D bound (The_command to (Match_op y d all giving) place) join branches →
      Starts D S names R uses cases bound (The_command to (Match_op y d all giving) place) join body f
  begins_match y d to all giving place uses cases branches bound join body same ch b walk = by uses b (first_entered D R (The_command to (Match_op y d all giving) place) uses bound join cases branches b walk)
    where
      by : (uses : Option (Atom ℕ)) → Branches D R (The_command to (Match_op y d all giving) place) uses cases branches → (walked : Body) × Entered D R (The_command to (Match_op y d all giving) place) uses cases bound join 0 0 walked → Starts D S names R uses cases bound (The_command to (Match_op y d all giving) place) join body f
      by None b t = absurd t.1.begins.starts
      by (Some (Same_atom x z)) b t = absurd t.1.begins.starts
      by (Some (Has_atom x Int_type)) b t = absurd t.1.begins.starts.1
      by (Some (Has_atom x Unknown_type)) b t = absurd t.1.begins.starts.1
      by (Some (Has_atom x Dynamic_type)) b t = absurd t.1.begins.starts.1
      by (Some (Has_atom x Locked_type)) b t = absurd t.1.begins.starts.1
      by (Some (Has_atom x (Function_type s))) b t = absurd t.1.begins.starts.1
      by (Some (Has_atom x (Lock_type q))) b t = absurd t.1.begins.starts.1
      by (Some (Has_atom x (Block_type con ys u))) b t = begins_known y d to x con ys u all giving place cases bound join body t.0 same ch t.1
      by (Some (Has_atom x (Named_type n))) b t = begins_opened y d to x n all giving place cases branches bound join body same ch b walk

-- the body that is chosen is one of the command's
chosen_core : (D : Decls) (low : ℕ) (n : ℕ) (one two : Body) → CoreBody D low one → CoreBody D low two → CoreBody D low (chosen n one two)
chosen_core D low zero one two a b = b
chosen_core D low (suc n) one two a b = a

case_core : (D : Decls) (low con : ℕ) (body : Body) (cases : Cases) → CoreCases D low cases → body_for con (case_list cases) ≡ Some body → CoreBody D low body
case_core D low con body No_cases k e = absurd (none_some refl e)
case_core D low con body (More_cases (The_case m b) rest) k e = by (m == con) refl (λ q. case_core D low con body rest k.1 q)
  where
    by : (z : Bool) → (m == con) ≡ z → (body_for con (case_list rest) ≡ Some body → CoreBody D low body) → CoreBody D low body
    by true q again = subst (λ x. CoreBody D low x) (some_inj (ap (λ z. body_in z b (body_for con (case_list rest))) (sym q) ∙ e)) k.0
    by false q again = again (ap (λ z. body_in z b (body_for con (case_list rest))) (sym q) ∙ e)

branch_core : (D : Decls) (at : Cells) (e : Environment) (low to : ℕ) (op : Op) (body : Body) → Chooses at e op body → CoreOp D low to op → CoreBody D low body
branch_core D at e low to (If_op y one two giving) body ch k = subst (λ b. CoreBody D low b) (sym ch.2) (chosen_core D low ch.0 one two k.1 k.2)
branch_core D at e low to (Match_op y d cases giving) body ch k = case_core D low ch.con body cases k.2 ch.chosen
branch_core D at e low to (Int_op a1) body ch k = absurd ch
branch_core D at e low to Unit_op body ch k = absurd ch
branch_core D at e low to (Fun_op a1) body ch k = absurd ch
branch_core D at e low to (Copy_op a1) body ch k = absurd ch
branch_core D at e low to (Arith_op a1 b1 c1) body ch k = absurd ch
branch_core D at e low to (New_op a1 b1) body ch k = absurd ch
branch_core D at e low to (Read_op a1 b1 c1) body ch k = absurd ch
branch_core D at e low to (Write_op a1 b1 c1 d1) body ch k = absurd ch
branch_core D at e low to (Retag_op a1 b1 c1) body ch k = absurd ch
branch_core D at e low to (Call_op a1 b1) body ch k = absurd ch
branch_core D at e low to (Give_op a1 b1) body ch k = absurd ch
branch_core D at e low to (Take_op a1 b1) body ch k = absurd ch
branch_core D at e low to (New_lock_op a1) body ch k = absurd ch
branch_core D at e low to (Acquire_op a1) body ch k = absurd ch
branch_core D at e low to (Release_op a1) body ch k = absurd ch
branch_core D at e low to (Spawn_op a1 b1) body ch k = absurd ch
branch_core D at e low to (Print_op a1) body ch k = absurd ch

-- what a chosen branch begins with, whatever the command
begins : (D : Decls) (L : ProperDecls D) (S : Sight) (names : ℕ → Value) (R : List (Atom ℕ)) (f : Owned) → MeansAll D S (map (map_atom names) R) f → (e : Environment) → ((m : ℕ) → m < 256 → names m ≡ e m) → (low : ℕ) (c : Command) → CoreOp D low (to_of c) (op_of c) → (uses : Option (Atom ℕ)) (cases : ScriptCases) (branches : List Branch) (bound : List ℕ) (join : List (Atom ℕ)) (body : Body) →
    Chooses S.at e (op_of c) body → Branches D R c uses cases branches → BranchesWalk D bound c join branches → Starts D S names R uses cases bound c join body f
begins D L S names R f p e env low (The_command to (If_op y one two giving) place) core uses cases branches bound join body ch b walk =
    subst (λ z. Starts D S names R uses cases bound (The_command to (If_op y one two giving) place) join z f) (sym ch.2) (begins_if D L S names R f p e y ch.0 to one two giving place uses cases branches bound join b walk)
begins D L S names R f p e env low (The_command to (Match_op y d all giving) place) core uses cases branches bound join body ch b walk =
    begins_match D L S names R f p e y d to all giving place uses cases branches bound join body (env y core.0.0) ch b walk
begins D L S names R f p e env low (The_command to (Int_op a1) place) core uses cases branches bound join body ch b walk = absurd ch
begins D L S names R f p e env low (The_command to Unit_op place) core uses cases branches bound join body ch b walk = absurd ch
begins D L S names R f p e env low (The_command to (Fun_op a1) place) core uses cases branches bound join body ch b walk = absurd ch
begins D L S names R f p e env low (The_command to (Copy_op a1) place) core uses cases branches bound join body ch b walk = absurd ch
begins D L S names R f p e env low (The_command to (Arith_op a1 b1 c1) place) core uses cases branches bound join body ch b walk = absurd ch
begins D L S names R f p e env low (The_command to (New_op a1 b1) place) core uses cases branches bound join body ch b walk = absurd ch
begins D L S names R f p e env low (The_command to (Read_op a1 b1 c1) place) core uses cases branches bound join body ch b walk = absurd ch
begins D L S names R f p e env low (The_command to (Write_op a1 b1 c1 d1) place) core uses cases branches bound join body ch b walk = absurd ch
begins D L S names R f p e env low (The_command to (Retag_op a1 b1 c1) place) core uses cases branches bound join body ch b walk = absurd ch
begins D L S names R f p e env low (The_command to (Call_op a1 b1) place) core uses cases branches bound join body ch b walk = absurd ch
begins D L S names R f p e env low (The_command to (Give_op a1 b1) place) core uses cases branches bound join body ch b walk = absurd ch
begins D L S names R f p e env low (The_command to (Take_op a1 b1) place) core uses cases branches bound join body ch b walk = absurd ch
begins D L S names R f p e env low (The_command to (New_lock_op a1) place) core uses cases branches bound join body ch b walk = absurd ch
begins D L S names R f p e env low (The_command to (Acquire_op a1) place) core uses cases branches bound join body ch b walk = absurd ch
begins D L S names R f p e env low (The_command to (Release_op a1) place) core uses cases branches bound join body ch b walk = absurd ch
begins D L S names R f p e env low (The_command to (Spawn_op a1 b1) place) core uses cases branches bound join body ch b walk = absurd ch
begins D L S names R f p e env low (The_command to (Print_op a1) place) core uses cases branches bound join body ch b walk = absurd ch

-- a command that goes on in branches has no rule of its own
no_rule : (D : Decls) (R T : List (Atom ℕ)) (at : Cells) (e : Environment) (c : ℕ) (op : Op) (uses : Option (Atom ℕ)) (body : Body) → Chooses at e op body → Rule D R c op uses T → ⊥
no_rule D R T at e c (If_op y one two giving) None body ch r = absurd r
no_rule D R T at e c (If_op y one two giving) (Some a) body ch r = absurd r
no_rule D R T at e c (Match_op y d all giving) None body ch r = absurd r
no_rule D R T at e c (Match_op y d all giving) (Some a) body ch r = absurd r
no_rule D R T at e c (Int_op a1) uses body ch r = absurd ch
no_rule D R T at e c Unit_op uses body ch r = absurd ch
no_rule D R T at e c (Fun_op a1) uses body ch r = absurd ch
no_rule D R T at e c (Copy_op a1) uses body ch r = absurd ch
no_rule D R T at e c (Arith_op a1 b1 c1) uses body ch r = absurd ch
no_rule D R T at e c (New_op a1 b1) uses body ch r = absurd ch
no_rule D R T at e c (Read_op a1 b1 c1) uses body ch r = absurd ch
no_rule D R T at e c (Write_op a1 b1 c1 d1) uses body ch r = absurd ch
no_rule D R T at e c (Retag_op a1 b1 c1) uses body ch r = absurd ch
no_rule D R T at e c (Call_op a1 b1) uses body ch r = absurd ch
no_rule D R T at e c (Give_op a1 b1) uses body ch r = absurd ch
no_rule D R T at e c (Take_op a1 b1) uses body ch r = absurd ch
no_rule D R T at e c (New_lock_op a1) uses body ch r = absurd ch
no_rule D R T at e c (Acquire_op a1) uses body ch r = absurd ch
no_rule D R T at e c (Release_op a1) uses body ch r = absurd ch
no_rule D R T at e c (Spawn_op a1 b1) uses body ch r = absurd ch
no_rule D R T at e c (Print_op a1) uses body ch r = absurd ch

module _ (p : Program) (w w' : Config) (h : Holding) (H : Held p w h) (k : ℕ) (L : ProperDecls (decls_of p)) (f : Frame) (below : List Suspended) (at : AtCommand (h.thread k).top.script) where
  -- the thread's holding goes on so, and the invariant is kept
  abbrev Goes : (ThreadHolding → ThreadHolding → Type 0) → Type 0
  Goes P = (q' : ThreadHolding) × P (h.thread k) q' × Onward p w' h k q'

  pub branch_keeps : (c : Command) (rest : List Command) (body : Body) → IsAt w k f below c rest → Chooses w.heap.at f.env (op_of c) body → Moves w k (Running (inside f (to_of c) body rest) below) w' → Goes (FollowsBranch (decls_of p) c body)
  branch_keeps c rest body here ch moves = go (H.threads k (Running f below) here.here)
    where
      go : StackIsHeld (decls_of p) (sight w h) f below (h.thread k) (H.own (Of_thread k)) → Goes (FollowsBranch (decls_of p) c body)
      go st = elim (at_command (decls_of p) (owed st.sig) at (subst (λ l. FrameWalks (decls_of p) (owed st.sig) st.top.state l f.rest.value f.outer (h.thread k).top.script (h.thread k).top.outer) here.first st.top.walks)) [
        | inl d ↦ absurd (no_rule (decls_of p) st.top.state d.state w.heap.at f.env (to_of c) (op_of c) d.uses body ch d.does.rule)
        | inr b ↦ by b
      ]
        where
          S : Sight
          S = sight w h

          by : Branching (decls_of p) (owed st.sig) st.top.state c rest f.rest.value f.outer (h.thread k).top.script (h.thread k).top.outer → Goes (FollowsBranch (decls_of p) c body)
          by b = (q, follows, (after p w w' h H k t' q g v.clause' moves.heap moves.threads less change, quiet_held p w w' h H k t' q g v.clause' moves.heap moves.threads less change stack, λ m. refl))
            where
              names : ℕ → Value
              names = (h.thread k).top.values

              means : MeansAll (decls_of p) S (map (map_atom names) st.top.state) st.top_owns
              means = means_perm (decls_of p) S (map_atom names) (h.thread k).top.share st.top.state st.top_owns st.top.alike st.top.means

              core : CoreCommands (decls_of p) st.sig.count (c ∷ rest)
              core = subst (λ l. CoreCommands (decls_of p) st.sig.count l) here.first st.top_of.core.0

              core_c : (st.sig.count ≤ to_of c) × (to_of c < 256) × CoreOp (decls_of p) st.sig.count (to_of c) (op_of c)
              core_c = core_of (decls_of p) st.sig.count c core.0

              core_b : CoreCommands (decls_of p) st.sig.count (commands_in body) × (result_of body < 256)
              core_b = core_body (decls_of p) st.sig.count body (branch_core (decls_of p) w.heap.at f.env st.sig.count (to_of c) (op_of c) body ch core_c.2)

              go_in : Starts (decls_of p) S names st.top.state b.uses b.cases b.names c b.join body st.top_owns
              go_in = begins (decls_of p) L S names st.top.state st.top_owns means f.env st.top.env st.sig.count c core_c.2 b.uses b.cases b.branches b.names b.join body ch b.rule b.inside

              v : Viewed (decls_of p) S names go_in.branch.start st.top_owns
              v = go_in.view

              t' : Thread
              t' = Running (inside f (to_of c) body rest) below

              g : Owned
              g t = v.own' t + st.below_owns t

              q : ThreadHolding
              q = record { top = record { values = v.names'; share = go_in.branch.start; script = item_list go_in.branch.inside; outer = record { join = b.join; script = b.items } ∷ (h.thread k).top.outer }; below = (h.thread k).below }

              follows : FollowsBranch (decls_of p) c body (h.thread k) q
              follows = record {
                uses = b.uses;
                cases = b.cases;
                join = b.join;
                items = b.items;
                at_command = b.script_is;
                state = st.top.state;
                alike = st.top.alike;
                place = go_in.place;
                fresh = go_in.branch.fresh;
                inside = go_in.branch.inside;
                case = go_in.branch.case;
                begins = go_in.branch.begins;
                script = refl;
                outer = refl;
                below = refl;
              }

              less : (t : ℕ) → g t ≤ H.own (Of_thread k) t
              less t = let a = st.join t in let z = v.less t in omega arith

              change : ClausesChange (decls_of p) h.clause v.clause' (H.own (Of_thread k))
              change n = elim (v.changed n) [ inl e ↦ inl e | inr z ↦ inr (let a = st.join n in let l = z.0 in omega arith, z.1, z.2) ]

              S' : Sight
              S' = record { at = w'.heap.at; clause = v.clause'; hides = h.hides }

              stack : StackIsHeld (decls_of p) S' (inside f (to_of c) body rest) below q g
              stack = record {
                number = st.number;
                sig = st.sig;
                args = st.args;
                top_of = record { declared = st.top_of.declared; has_args = record { many = st.top_of.has_args.many; each = st.top_of.has_args.each }; core = (core_b.0, core_b.1, (core_c.0, core_c.1, core.1, st.top_of.core.1, st.top_of.core.2)) };
                top_owns = v.own';
                below_owns = st.below_owns;
                top = record {
                  means = all_stay (decls_of p) (with_clauses S v.clause') S' v.means (sight_stays (decls_of p) (with_clauses S v.clause') w'.heap.at v.clause' (λ t. 0) v.own' moves.heap (λ n. inl refl) (λ n l. absurd (omega (arith, l))));
                  env = λ m l. v.low m l ∙ st.top.env m l;
                  state = go_in.branch.start;
                  alike = perm_refl go_in.branch.start;
                  walks = into_branch (decls_of p) (owed st.sig) c body go_in.branch.left go_in.branch.walks go_in.branch.used b.walks;
                };
                under = below_stays (decls_of p) S S' st.under (sight_stays (decls_of p) S w'.heap.at v.clause' st.top_owns st.below_owns moves.heap v.changed (λ n l. let a = st.join n in let z = H.heap.fair.once (Of_thread k) n in omega arith));
                join = λ t. refl;
              }

  pub join_keeps : (level : Level) (outer : List Level) (e' : Environment) → IsDone w k f below → f.outer ≡ level ∷ outer → Binds f.env level.to (f.env f.rest.value) e' →
      Moves w k (Running (record { env = e'; rest = level.after; outer = outer }) below) w' → Goes FollowsJoin
  join_keeps level outer e' here out binds moves = go (H.threads k (Running f below) here.here)
    where
      go : StackIsHeld (decls_of p) (sight w h) f below (h.thread k) (H.own (Of_thread k)) → Goes FollowsJoin
      go st = (q, follows, (after p w w' h H k t' q g h.clause moves.heap moves.threads less (clauses_stay (decls_of p) h.clause (H.own (Of_thread k))), quiet_held p w w' h H k t' q g h.clause moves.heap moves.threads less (clauses_stay (decls_of p) h.clause (H.own (Of_thread k))) stack, λ m. refl))
        where
          S : Sight
          S = sight w h

          S' : Sight
          S' = record { at = w'.heap.at; clause = h.clause; hides = h.hides }

          names : ℕ → Value
          names = (h.thread k).top.values

          j : Joining (decls_of p) (owed st.sig) st.top.state f.rest.value level outer (h.thread k).top.script (h.thread k).top.outer
          j = at_join (decls_of p) (owed st.sig) at (subst (λ l. FrameWalks (decls_of p) (owed st.sig) st.top.state [] f.rest.value l (h.thread k).top.script (h.thread k).top.outer) out (subst (λ l. FrameWalks (decls_of p) (owed st.sig) st.top.state l f.rest.value f.outer (h.thread k).top.script (h.thread k).top.outer) here.done st.top.walks))

          means : MeansAll (decls_of p) S (map (map_atom names) st.top.state) st.top_owns
          means = means_perm (decls_of p) S (map_atom names) (h.thread k).top.share st.top.state st.top_owns st.top.alike st.top.means

          used : Split (MeansAll (decls_of p) S (map (map_atom names) (map (map_atom (in_place_of level.to f.rest.value)) j.behind.join))) (MeansAll (decls_of p) S (map (map_atom names) j.left)) st.top_owns
          used = use_all (decls_of p) S names (map (map_atom (in_place_of level.to f.rest.value)) j.behind.join) st.top.state j.left st.top_owns j.uses means

          names' : ℕ → Value
          names' = at_only level.to (names f.rest.value) names

          place : (x : ℕ) → names (in_place_of level.to f.rest.value x) ≡ names' x
          place x = grind (arith, nat_tests)

          same : map (map_atom names) (map (map_atom (in_place_of level.to f.rest.value)) j.behind.join) ≡ map (map_atom names') j.behind.join
          same = share_twice names (in_place_of level.to f.rest.value) j.behind.join ∙ share_agree _ _ j.behind.join (λ x o. place x)

          levels : CoreLevels (decls_of p) st.sig.count (level ∷ outer)
          levels = subst (λ l. CoreLevels (decls_of p) st.sig.count l) out st.top_of.core.2

          t' : Thread
          t' = Running (record { env = e'; rest = level.after; outer = outer }) below

          g : Owned
          g t = used.one t + st.below_owns t

          q : ThreadHolding
          q = record { top = record { values = names'; share = j.behind.join; script = j.behind.script; outer = j.others }; below = (h.thread k).below }

          follows : FollowsJoin (h.thread k) q
          follows = record { behind = j.behind; others = j.others; inside = j.scripts_are; done = j.done; share = refl; script = refl; outer = refl; below = refl }

          less : (t : ℕ) → g t ≤ H.own (Of_thread k) t
          less t = let a = st.join t in let z = used.join t in omega arith

          stays : (o : Owned) → Stays (decls_of p) S S' o
          stays o = sight_stays (decls_of p) S w'.heap.at h.clause (λ t. 0) o moves.heap (λ n. inl refl) (λ n l. absurd (omega (arith, l)))

          stack : StackIsHeld (decls_of p) S' (record { env = e'; rest = level.after; outer = outer }) below q g
          stack = record {
            number = st.number;
            sig = st.sig;
            args = st.args;
            top_of = record { declared = st.top_of.declared; has_args = bound_args st.sig.count st.args f.env e' level.to (f.env f.rest.value) levels.0 st.top_of.has_args binds; core = (levels.2, levels.3, levels.4) };
            top_owns = used.one;
            below_owns = st.below_owns;
            top = record {
              means = all_stay (decls_of p) S S' (subst (λ l. MeansAll (decls_of p) S l used.one) same used.first_part) (stays used.one);
              env = bound_env names f.env e' level.to (names f.rest.value) (f.env f.rest.value) (st.top.env f.rest.value st.top_of.core.1) st.top.env binds;
              state = j.behind.join;
              alike = perm_refl j.behind.join;
              walks = j.walks;
            };
            under = below_stays (decls_of p) S S' st.under (stays st.below_owns);
            join = λ t. refl;
          }
