-- View steps are made until a thread's script is at a command or at an end. They are no steps of the machine, so they may be made
-- where they are wanted.
use Rattle.std.specs.Prelude.{Option, None}
use Rattle.std.proofs.Common.{◌≡◌, ◌≢◌, inl, inr, ℕ, List, [], ◌∷◌, map, Some, slice_get, true, refl, sym, ◌∙◌, subst}
use Rattle.mz_tree.specs.Plain.{Atom, map_atom}
use Rattle.mz_tree.specs.Programs.{Program}
use Rattle.mz_tree.specs.Code.{Command, op_of, to_of, op_branches}
use Rattle.mz_tree.specs.Code.{Op, Int_op, Unit_op, Fun_op, Copy_op, Arith_op, New_op, Read_op, Write_op, Retag_op, If_op, Match_op, Call_op, Give_op, Take_op, New_lock_op, Acquire_op, Release_op, Spawn_op, Print_op}
use Rattle.mz_decl.specs.Declarations.{Decls, decls_of}
use Rattle.mz_decl.specs.Signatures.{owed}
use Rattle.mz_deriv.specs.Scripts.{Item, See_item, Do_item}
use Rattle.mz_deriv.specs.Rules.{Rule}
use Rattle.mz_named.specs.Configurations.{Frame, Suspended, Running, Config}
use Rattle.mz_named.specs.Steps.{IsAt}
use Rattle.mz_resource.specs.Meaning.{MeansAll}
use Rattle.mz_resource.specs.Names.{CoreOp, CoreCommands}
use Rattle.mz_resource.specs.Frames.{FrameWalks, StackIsHeld}
use Rattle.mz_resource.specs.Held.{Holding, sight, Held}
use Rattle.mz_resource.specs.Owners.{Of_thread}
use Rattle.mz_resource.proofs.Programs.Proper.{ProperDecls}
use Rattle.mz_resource.specs.Following.{AtCommand, ViewsMade, None_made, More_made}
use Rattle.mz_perm.proofs.Orders.{perm_sym}
use Rattle.mz_view.proofs.Orderless.{order_free}
use Rattle.mz_resource.proofs.Meaning.Owning.{means_perm}
use Rattle.mz_resource.proofs.Meaning.Spending.{true_false}
use Rattle.mz_resource.proofs.Threads.Standing.{Branching, at_command, core_of}
use Rattle.mz_resource.proofs.KeepsView.{stepped, view_keeps}

-- thread k has made its view steps, and the other threads' parts are as they were
pub record Ready (p : Program) (w : Config) (h : Holding) (k : ℕ) : Type 0 where
  pub then' : Holding
  pub held : Held p w then'
  pub views : ViewsMade (decls_of p) k h then'
  pub at : AtCommand (then'.thread k).top.script
  pub others : (m : ℕ) → m ≢ k → then'.thread m ≡ h.thread m

pub ready : (p : Program) (w : Config) (k : ℕ) (f : Frame) (below : List Suspended) → ProperDecls (decls_of p) → slice_get w.threads k ≡ Some (Running f below) → (script : List Item) (h : Holding) → Held p w h → (h.thread k).top.script ≡ script → Ready p w h k
ready p w k f below L here [] h H is = record { then' = h; held = H; views = None_made; at = subst (λ s. AtCommand s) (sym is) tt; others = λ m n. refl }
ready p w k f below L here (Do_item uses cases join ∷ items) h H is = record { then' = h; held = H; views = None_made; at = subst (λ s. AtCommand s) (sym is) tt; others = λ m n. refl }
ready p w k f below L here (See_item s ∷ items) h H is =
    let st : StackIsHeld (decls_of p) (sight w h) f below (h.thread k) (H.own (Of_thread k)) = H.threads k (Running f below) here in
    let v = stepped (subst (λ i. FrameWalks (decls_of p) (owed st.sig) st.top.state f.rest.commands f.rest.value f.outer i (h.thread k).top.outer) is st.top.walks) in
    let o = order_free (decls_of p) st.top.state (h.thread k).top.share v.after s (perm_sym (h.thread k).top.share st.top.state st.top.alike) v.leads in
    let n = view_keeps p w h k f below s items o.after L H here is o.leads in
    let r = ready p w k f below L here items n.0 n.2 (n.1.script) in
    record { then' = r.then'; held = r.held; views = More_made s items o.after is o.leads n.1 r.views; at = r.at; others = λ m q. r.others m q ∙ n.1.others m q }

-- where thread k is at a command that goes on in branches
pub record AtBranches (p : Program) (w : Config) (h : Holding) (H : Held p w h) (k : ℕ) (f : Frame) (below : List Suspended) (c : Command) (rest : List Command) : Type 0 where
  pub st : StackIsHeld (decls_of p) (sight w h) f below (h.thread k) (H.own (Of_thread k))
  pub b : Branching (decls_of p) (owed st.sig) st.top.state c rest f.rest.value f.outer (h.thread k).top.script (h.thread k).top.outer
  pub means : MeansAll (decls_of p) (sight w h) (map (map_atom (h.thread k).top.values) st.top.state) st.top_owns
  pub core : CoreOp (decls_of p) st.sig.count (to_of c) (op_of c)

branch_no_rule : (D : Decls) (R T : List (Atom ℕ)) (c : ℕ) (op : Op) (uses : Option (Atom ℕ)) → op_branches op ≡ true → Rule D R c op uses T → ⊥
branch_no_rule D R T c (If_op y one two giving) None e r = absurd r
branch_no_rule D R T c (If_op y one two giving) (Some a) e r = absurd r
branch_no_rule D R T c (Match_op y d all giving) None e r = absurd r
branch_no_rule D R T c (Match_op y d all giving) (Some a) e r = absurd r
branch_no_rule D R T c (Int_op n) uses e r = true_false e refl
branch_no_rule D R T c Unit_op uses e r = true_false e refl
branch_no_rule D R T c (Fun_op n) uses e r = true_false e refl
branch_no_rule D R T c (Copy_op n) uses e r = true_false e refl
branch_no_rule D R T c (Arith_op o x y) uses e r = true_false e refl
branch_no_rule D R T c (New_op con ys) uses e r = true_false e refl
branch_no_rule D R T c (Read_op y con i) uses e r = true_false e refl
branch_no_rule D R T c (Write_op y con i z) uses e r = true_false e refl
branch_no_rule D R T c (Retag_op y a b) uses e r = true_false e refl
branch_no_rule D R T c (Call_op g ys) uses e r = true_false e refl
branch_no_rule D R T c (Give_op x y) uses e r = true_false e refl
branch_no_rule D R T c (Take_op x y) uses e r = true_false e refl
branch_no_rule D R T c (New_lock_op g) uses e r = true_false e refl
branch_no_rule D R T c (Acquire_op l) uses e r = true_false e refl
branch_no_rule D R T c (Release_op l) uses e r = true_false e refl
branch_no_rule D R T c (Spawn_op g y) uses e r = true_false e refl
branch_no_rule D R T c (Print_op x) uses e r = true_false e refl

pub at_branches : (p : Program) (w : Config) (h : Holding) (H : Held p w h) (k : ℕ) (f : Frame) (below : List Suspended) (c : Command) (rest : List Command) → AtCommand (h.thread k).top.script → IsAt w k f below c rest → op_branches (op_of c) ≡ true → AtBranches p w h H k f below c rest
at_branches p w h H k f below c rest at here forks = go (H.threads k (Running f below) here.here)
  where
    go : StackIsHeld (decls_of p) (sight w h) f below (h.thread k) (H.own (Of_thread k)) → AtBranches p w h H k f below c rest
    go st = elim (at_command (decls_of p) (owed st.sig) at (subst (λ l. FrameWalks (decls_of p) (owed st.sig) st.top.state l f.rest.value f.outer (h.thread k).top.script (h.thread k).top.outer) here.first st.top.walks)) [
      | inl d ↦ absurd (branch_no_rule (decls_of p) st.top.state d.state (to_of c) (op_of c) d.uses forks d.does.rule)
      | inr b ↦ (let core = subst (λ l. CoreCommands (decls_of p) st.sig.count l) here.first st.top_of.core.0 in record {
        st = st;
        b = b;
        means = means_perm (decls_of p) (sight w h) (map_atom (h.thread k).top.values) (h.thread k).top.share st.top.state st.top_owns st.top.alike st.top.means;
        core = (core_of (decls_of p) st.sig.count c core.0).2;
      })
    ]
