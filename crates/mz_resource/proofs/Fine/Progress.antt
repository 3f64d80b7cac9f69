-- Each thread that runs has a step, or waits for a held lock: the rule of its next command asks for what the step needs.
use Rattle.std.proofs.Common.{◌≡◌, ◌⊎◌, inl, inr, ℕ, zero, suc, ◌<◌, ◌≤◌, Bool, true, false, List, [], ◌∷◌, ◌++◌, length, map, Option, Some, None, slice_get, slice_set, refl, sym, ap, ◌∙◌, subst, arith}
use Rattle.std.proofs.lemmas.Bool.{cases_eq}
use Rattle.std.proofs.lemmas.List.{length-map, map-append}
use Rattle.mz_tree.specs.Plain.{Atom, Atoms, Int_type, Unknown_type, Dynamic_type, Locked_type, Named_type, Function_type, Block_type, Lock_type, Has_atom, Same_atom, map_atom, map_atoms, list_of}
use Rattle.mz_tree.specs.Programs.{Fun, Program}
use Rattle.mz_tree.specs.Code.{Command, Body, The_command, Int_op, Unit_op, Fun_op, Copy_op, Arith_op, New_op, Read_op, Write_op, Retag_op, If_op, Match_op, Call_op, Give_op, Take_op, New_lock_op, Acquire_op, Release_op, Spawn_op, Print_op, op_of, to_of, body_of, case_list}
use Rattle.mz_tree.specs.Arithmetic.{computed}
use Rattle.mz_decl.specs.Declarations.{decls_of}
use Rattle.mz_perm.specs.Lists.{In}
use Rattle.mz_modes.specs.Calling.{IsCallee}
use Rattle.mz_modes.specs.Affine.{AffineAtom}
use Rattle.mz_deriv.specs.Rules.{Rule}
use Rattle.mz_named.specs.Configurations.{Value, Int_value, Block_value, Fun_value, Cell, Block_cell, Lock_cell, Environment, Level, Frame, Suspended, Thread, Running, Ended, Stopped, Config}
use Rattle.mz_named.specs.Operations.{IsBlock, IsFunction, TwoBlocks, ChoosesCase, Acts, Stops, chosen}
use Rattle.mz_named.specs.Steps.{IsAt, IsDone, NStep, Step_acts, Step_stops, Step_branches, Step_joins, Step_calls, Step_returns, Step_ends, Step_spawns, next, inside}
use Rattle.mz_named.specs.Safety.{Waits}
use Rattle.mz_named.specs.Bodies.{start}
use Rattle.mz_resource.specs.Meaning.{Owned, Sight, Means, MeansAll}
use Rattle.mz_resource.specs.Held.{Holding, sight, Held}
use Rattle.mz_resource.specs.Owners.{Of_thread}
use Rattle.mz_resource.proofs.Facts.{some_inj, none_some}
use Rattle.mz_resource.proofs.Programs.Proper.{ProperDecls}
use Rattle.mz_resource.specs.Following.{AtCommand}
use Rattle.mz_perm.proofs.Orders.{in_of, used_in}
use Rattle.mz_resource.proofs.Meaning.Owning.{Split, look_up, take_out, all_split, head_of}
use Rattle.mz_resource.proofs.Meaning.Spending.{use_all}
use Rattle.mz_resource.proofs.Meaning.Inverse.{OwnsData, int_inv, function_inv, dynamic_inv, lock_inv, locked_inv, block_inv, data_inv, block_is}
use Rattle.mz_resource.proofs.Threads.Quiet.{at_only}
use Rattle.mz_resource.proofs.Commands.Locking.{lock_atom}
use Rattle.mz_resource.proofs.Commands.Adopting.{Adopts, adopts_inv, mutable_owned, thread_pool}
use Rattle.mz_resource.proofs.Commands.Ruled.{AtRule, at_rule}
use Rattle.mz_resource.proofs.Threads.Standing.{case_body}
use Rattle.mz_resource.proofs.Threads.Ready.{AtBranches, at_branches}
use Rattle.mz_resource.proofs.Fine.Building.{puts_in, puts_end, binds_at, with_threads, with_cell, puts_cell, no_print, moves_to}
use Rattle.mz_resource.proofs.Threads.Entering.{Entered, first_entered}

map_get : (f : ℕ → Value) (ys : List ℕ) (i y : ℕ) → slice_get ys i ≡ Some y → slice_get (map f ys) i ≡ Some (f y)
map_get f [] i y e = absurd (none_some refl e)
map_get f (x ∷ ys) zero y e = let d : x ≡ y = some_inj e in ap (λ z. Some (f z)) d
map_get f (x ∷ ys) (suc i) y e = map_get f ys i y e

same_option : (a b : Option ℕ) → (a ≡ b) ⊎ (a ≡ b → ⊥)
same_option None None = inl refl
same_option None (Some y) = inr (λ e. absurd (cc))
same_option (Some x) None = inr (λ e. absurd (cc))
same_option (Some x) (Some y) = elim (cases_eq x y) [ inl e ↦ inl (ap Some e) | inr n ↦ inr (λ e. n (cc)) ]

-- the function of a number whose signature is known
fun_at : (funs : List Fun) (n s : ℕ) → slice_get (map (λ (g : Fun). g.sig) funs) n ≡ Some s → (f : Fun) × (slice_get funs n ≡ Some f) × (f.sig ≡ s)
fun_at [] n s e = absurd (none_some refl e)
fun_at (x ∷ funs) zero s e = (x, refl, some_inj e)
fun_at (x ∷ funs) (suc n) s e = fun_at funs n s e

module _ (p : Program) (L : ProperDecls (decls_of p)) (w : Config) (h : Holding) (H : Held p w h) (k : ℕ) (f : Frame) (below : List Suspended) (rest : List Command) (at : AtCommand (h.thread k).top.script) where
  abbrev GoesOn : Type 0
  GoesOn = ((w' : Config) × NStep p w k w') ⊎ Waits w k

  abbrev S : Sight
  S = sight w h

  abbrev names : ℕ → Value
  names = (h.thread k).top.values

  -- a command that leaves the heap
  quiet : (c : Command) (v : Value) (out : List ℕ) → IsAt w k f below c rest → Acts w.heap.at f.env (op_of c) v w.heap.at out → GoesOn
  quiet c v out here acts = inl (
    with_threads w (slice_set w.threads k (Running (next f (at_only (to_of c) v f.env) rest) below)) (w.prints ++ out),
    Step_acts f below c rest v (at_only (to_of c) v f.env) out here acts refl (binds_at f.env (to_of c) v) (puts_in w.threads k _ _ here.here),
  )

  -- one that changes a cell
  cell : (c : Command) (v : Value) (b : ℕ) (x : Cell) → IsAt w k f below c rest → Acts w.heap.at f.env (op_of c) v (at_only b (Some x) w.heap.at) [] → GoesOn
  cell c v b x here acts = inl (
    with_cell w b x (slice_set w.threads k (Running (next f (at_only (to_of c) v f.env) rest) below)),
    Step_acts f below c rest v (at_only (to_of c) v f.env) [] here acts (no_print w) (binds_at f.env (to_of c) v) (puts_in w.threads k _ _ here.here),
  )

  stops : (c : Command) → IsAt w k f below c rest → Stops w.heap.at f.env (op_of c) → GoesOn
  stops c here s = inl (with_threads w (slice_set w.threads k Stopped) w.prints, Step_stops f below c rest here s (moves_to w k Stopped _ here.here))

  -- an integer
  number : (top : Owned) (R : List (Atom ℕ)) → MeansAll (decls_of p) S (map (map_atom names) R) top → (x : ℕ) → In (Has_atom x Int_type) R → (n : ℕ) × (names x ≡ Int_value n)
  number top R m x i = int_inv (decls_of p) S (look_up (decls_of p) S (map_atom names) (Has_atom x Int_type) R top i m).1

  -- a block of a constructor
  block : (top : Owned) (R : List (Atom ℕ)) → MeansAll (decls_of p) S (map (map_atom names) R) top → (y con : ℕ) (ys : List ℕ) (c : Option ℕ) → In (Has_atom y (Block_type con ys c)) R → (b : ℕ) × (names y ≡ Block_value b) × IsBlock w.heap.at b con (map names ys)
  block top R m y con ys c i = block_inv (decls_of p) S (look_up (decls_of p) S (map_atom names) (Has_atom y (Block_type con ys c)) R top i m).1

  callee : (top : Owned) (R : List (Atom ℕ)) → MeansAll (decls_of p) S (map (map_atom names) R) top → (g count : ℕ) (a : Atom ℕ) → names g ≡ f.env g → IsCallee (decls_of p) R g count a → IsFunction p (f.env g) count
  callee top R m g count a same c =
      let v = function_inv (decls_of p) S (look_up (decls_of p) S (map_atom names) (Has_atom g (Function_type c.number)) R top (subst (λ x. In x R) c.function c.held) m).1 in
      let z = fun_at p.funs v.0 c.number v.2 in
      record { number = v.0; is = sym same ∙ v.1; fun = z.0; declared = z.1; sig = c.sig; signed = subst (λ n. slice_get p.sigs n ≡ Some c.sig) (sym z.2) c.declared; many = sym c.many }

  pub goes_on : (c : Command) → IsAt w k f below c rest → GoesOn
  goes_on (The_command to (Int_op n) place) here = quiet _ (Int_value n) [] here (refl, λ n. refl, refl)
  goes_on (The_command to Unit_op place) here = quiet _ (Int_value 0) [] here (refl, λ n. refl, refl)
  goes_on (The_command to (Fun_op g) place) here = quiet _ (Fun_value g) [] here (refl, λ n. refl, refl)
  goes_on (The_command to (Copy_op x) place) here = quiet _ (f.env x) [] here (refl, λ n. refl, refl)
  goes_on (The_command to (New_op con ys) place) here = cell _ (Block_value w.heap.limit) w.heap.limit (Block_cell con None (map f.env ys)) here (record { name = w.heap.limit; free = w.heap.beyond w.heap.limit (omega arith); puts = puts_cell w w.heap.limit (Block_cell con None (map f.env ys)); is = refl }, refl)
  goes_on (The_command to (New_lock_op g) place) here = cell _ (Block_value w.heap.limit) w.heap.limit (Lock_cell false) here (record { name = w.heap.limit; free = w.heap.beyond w.heap.limit (omega arith); puts = puts_cell w w.heap.limit (Lock_cell false); is = refl }, refl)
  goes_on (The_command to (Arith_op o x y) place) here = by (at_rule p w h H k f below _ rest at here refl)
    where
      by : AtRule p w h H k f below (The_command to (Arith_op o x y) place) rest → GoesOn
      by t = go t.d.uses t.d.does.rule
        where
          go : (uses : Option (Atom ℕ)) → Rule (decls_of p) t.st.top.state to (Arith_op o x y) uses t.d.state → GoesOn
          go (Some a) r = absurd r
          go None r =
              let a = number t.st.top_owns t.st.top.state t.means x r.left in
              let b = number t.st.top_owns t.st.top.state t.means y r.right in
              result (computed o a.0 b.0) a b (sym (t.st.top.env x t.core.0.0) ∙ a.1) (sym (t.st.top.env y t.core.1.0) ∙ b.1) refl
            where
              result : (n : Option ℕ) (a : (n : ℕ) × (names x ≡ Int_value n)) (b : (n : ℕ) × (names y ≡ Int_value n)) → f.env x ≡ Int_value a.0 → f.env y ≡ Int_value b.0 → computed o a.0 b.0 ≡ n → GoesOn
              result (Some n) a b ex ey e = quiet (The_command to (Arith_op o x y) place) (Int_value n) [] here ((n, record { left = a.0; right = b.0; is_left = ex; is_right = ey; gives = e }, refl), λ n. refl, refl)
              result None a b ex ey e = stops (The_command to (Arith_op o x y) place) here (record { left = a.0; right = b.0; is_left = ex; is_right = ey; gives = e })
  goes_on (The_command to (Print_op x) place) here = by (at_rule p w h H k f below _ rest at here refl)
    where
      by : AtRule p w h H k f below (The_command to (Print_op x) place) rest → GoesOn
      by t = go t.d.uses t.d.does.rule
        where
          go : (uses : Option (Atom ℕ)) → Rule (decls_of p) t.st.top.state to (Print_op x) uses t.d.state → GoesOn
          go (Some a) r = absurd r
          go None r =
              let a = number t.st.top_owns t.st.top.state t.means x r.held in
              quiet (The_command to (Print_op x) place) (Int_value 0) (a.0 ∷ []) here ((a.0, sym (t.st.top.env x t.core.0) ∙ a.1, refl), refl, λ n. refl)
  goes_on (The_command to (Read_op y con i) place) here = by (at_rule p w h H k f below _ rest at here refl)
    where
      by : AtRule p w h H k f below (The_command to (Read_op y con i) place) rest → GoesOn
      by t = go t.d.uses t.d.does.rule
        where
          go : (uses : Option (Atom ℕ)) → Rule (decls_of p) t.st.top.state to (Read_op y con i) uses t.d.state → GoesOn
          go None r = absurd r
          go (Some a) r =
              let b = block t.st.top_owns t.st.top.state t.means y con r.fields r.adopts (subst (λ z. In z t.st.top.state) r.block r.held) in
              quiet (The_command to (Read_op y con i) place) (names r.name) [] here (record { name = b.0; is = sym (t.st.top.env y t.core.0) ∙ b.1; fields = map names r.fields; made = b.2; at_field = map_get names r.fields i r.name r.at_field }, λ n. refl, refl)
  goes_on (The_command to (Write_op y con i z) place) here = by (at_rule p w h H k f below _ rest at here refl)
    where
      by : AtRule p w h H k f below (The_command to (Write_op y con i z) place) rest → GoesOn
      by t = go t.d.uses t.d.does.rule
        where
          go : (uses : Option (Atom ℕ)) → Rule (decls_of p) t.st.top.state to (Write_op y con i z) uses t.d.state → GoesOn
          go None r = absurd r
          go (Some a) r =
              let b = block t.st.top_owns t.st.top.state t.means y con r.fields r.adopts (subst (λ z. In z t.st.top.state) r.block (in_of a t.st.top.state r.changed.rest r.changed.taken)) in
              cell (The_command to (Write_op y con i z) place) (Int_value 0) b.0 (Block_cell con b.2.adopter (slice_set (map names r.fields) i (f.env z))) here (record { name = b.0; is = sym (t.st.top.env y t.core.0.0) ∙ b.1; fields = map names r.fields; made = b.2; within = subst (λ n. i < n) (sym (length-map r.fields names)) r.within; puts = puts_cell w b.0 (Block_cell con b.2.adopter (slice_set (map names r.fields) i (f.env z))) }, refl, refl)
  goes_on (The_command to (Retag_op y old new) place) here = by (at_rule p w h H k f below _ rest at here refl)
    where
      by : AtRule p w h H k f below (The_command to (Retag_op y old new) place) rest → GoesOn
      by t = go t.d.uses t.d.does.rule
        where
          go : (uses : Option (Atom ℕ)) → Rule (decls_of p) t.st.top.state to (Retag_op y old new) uses t.d.state → GoesOn
          go None r = absurd r
          go (Some a) r =
              let b = block t.st.top_owns t.st.top.state t.means y old r.fields r.adopts (subst (λ z. In z t.st.top.state) r.block (in_of a t.st.top.state r.changed.rest r.changed.taken)) in
              cell (The_command to (Retag_op y old new) place) (Int_value 0) b.0 (Block_cell new b.2.adopter (map names r.fields)) here (record { name = b.0; is = sym (t.st.top.env y t.core.0) ∙ b.1; fields = map names r.fields; made = b.2; puts = puts_cell w b.0 (Block_cell new b.2.adopter (map names r.fields)) }, refl, refl)
  goes_on (The_command to (Give_op x y) place) here = by (at_rule p w h H k f below _ rest at here refl)
    where
      by : AtRule p w h H k f below (The_command to (Give_op x y) place) rest → GoesOn
      by t = go t.d.uses t.d.does.rule
        where
          go : (uses : Option (Atom ℕ)) → Rule (decls_of p) t.st.top.state to (Give_op x y) uses t.d.state → GoesOn
          go None r = absurd r
          go (Some a) r =
              given x_block
            where
              used : Split (Means (decls_of p) S (Has_atom (names x) (Named_type r.adopted))) (MeansAll (decls_of p) S (map (map_atom names) r.rest)) t.st.top_owns
              used = take_out (decls_of p) S (map_atom names) (Has_atom x (Named_type r.adopted)) t.st.top.state r.rest t.st.top_owns r.taken t.means

              pool : (g : Owned) × Means (decls_of p) S (map_atom names a) g × ((t : ℕ) → g t ≤ used.two t)
              pool = look_up (decls_of p) S (map_atom names) a r.rest used.two r.held used.second_part

              ad : Adopts (decls_of p) S (names y) r.adopted pool.0
              ad = adopts_inv (decls_of p) L S names y r.adopted a pool.0 r.adopter pool.1

              x_block : OwnsData (decls_of p) S (names x) r.adopted used.one
              x_block = data_inv (decls_of p) S used.first_part

              own : (b : ℕ) → names x ≡ Block_value b → 0 < H.own (Of_thread k) b
              own b e = (let m = mutable_owned (decls_of p) L S names (names x) r.adopted used.one (H.heap.clauses ad.block r.adopted ad.clause_is) used.first_part in
                  subst (λ n. 0 < H.own (Of_thread k) n) (block_is m.1 e) (let i = t.st.join m.0 in let j = used.join m.0 in let z = m.2 in omega arith))

              given : OwnsData (decls_of p) S (names x) r.adopted used.one → GoesOn
              given o = by_adopter o.made.block.adopter refl
                where
                  both : (held : Option ℕ) → o.made.block.adopter ≡ held → TwoBlocks w.heap.at (f.env x) (f.env y)
                  both held e = record { block = o.block; adopter = ad.block; is_block = sym (t.st.top.env x t.core.0.0) ∙ o.is; is_adopter = sym (t.st.top.env y t.core.1.0) ∙ ad.is; con = o.con; other = ad.con; held_by = held; fields = o.fields; more = ad.fields; made = o.made.block.made ∙ ap (λ z. Some (Block_cell o.con z o.fields)) e; pool = ad.made }

                  by_adopter : (held : Option ℕ) → o.made.block.adopter ≡ held → GoesOn
                  by_adopter None e = cell (The_command to (Give_op x y) place) (Int_value 0) o.block (Block_cell o.con (Some ad.block) o.fields) here (record { both = both None e; free = refl; puts = puts_cell w o.block (Block_cell o.con (Some ad.block) o.fields) }, refl, refl)
                  by_adopter (Some z) e = absurd (H.heap.free (Of_thread k) o.block o.con z o.fields (own o.block o.is) thread_pool (o.made.block.made ∙ ap (λ z. Some (Block_cell o.con z o.fields)) e))
  goes_on (The_command to (Take_op x y) place) here = by (at_rule p w h H k f below _ rest at here refl)
    where
      by : AtRule p w h H k f below (The_command to (Take_op x y) place) rest → GoesOn
      by t = go t.d.uses t.d.does.rule
        where
          go : (uses : Option (Atom ℕ)) → Rule (decls_of p) t.st.top.state to (Take_op x y) uses t.d.state → GoesOn
          go None r = absurd r
          go (Some a) r =
              elim (same_option b.held_by (Some b.adopter)) [
                | inl e ↦ cell (The_command to (Take_op x y) place) (Int_value 0) b.block (Block_cell b.con None b.fields) here (record { both = b; its = e; puts = puts_cell w b.block (Block_cell b.con None b.fields) }, refl, refl)
                | inr n ↦ stops (The_command to (Take_op x y) place) here (record { both = b; not_its = n })
              ]
            where
              pool : (g : Owned) × Means (decls_of p) S (map_atom names a) g × ((n : ℕ) → g n ≤ t.st.top_owns n)
              pool = look_up (decls_of p) S (map_atom names) a t.st.top.state t.st.top_owns r.held t.means

              ad : Adopts (decls_of p) S (names y) r.adopted pool.0
              ad = adopts_inv (decls_of p) L S names y r.adopted a pool.0 r.adopter pool.1

              b : TwoBlocks w.heap.at (f.env x) (f.env y)
              b = (let d = dynamic_inv (decls_of p) S (look_up (decls_of p) S (map_atom names) (Has_atom x Dynamic_type) t.st.top.state t.st.top_owns r.may_ask t.means).1 in
                  record { block = d.0; adopter = ad.block; is_block = sym (t.st.top.env x t.core.0.0) ∙ d.3; is_adopter = sym (t.st.top.env y t.core.1.0) ∙ ad.is; con = d.1; other = ad.con; held_by = d.4.adopter; fields = d.2; more = ad.fields; made = d.4.made; pool = ad.made })
  goes_on (The_command to (Acquire_op l) place) here = by (at_rule p w h H k f below _ rest at here refl)
    where
      by : AtRule p w h H k f below (The_command to (Acquire_op l) place) rest → GoesOn
      by t = go t.d.uses t.d.does.rule
        where
          go : (uses : Option (Atom ℕ)) → Rule (decls_of p) t.st.top.state to (Acquire_op l) uses t.d.state → GoesOn
          go None r = absurd r
          go (Some a) r =
              state (H.heap.hidden lock.0 hidden lock.2)
            where
              atom : (q : Atoms ℕ) × (a ≡ Has_atom l (Lock_type q)) × (r.guarded ≡ list_of q)
              atom = lock_atom l a r.guarded r.lock

              lock : (b : ℕ) × (names l ≡ Block_value b) × (h.hides b ≡ Some (map_atoms names atom.0))
              lock = lock_inv (decls_of p) S (look_up (decls_of p) S (map_atom names) (Has_atom l (Lock_type atom.0)) t.st.top.state t.st.top_owns (subst (λ z. In z t.st.top.state) atom.1 r.held) t.means).1

              hidden : Atoms Value
              hidden = map_atoms names atom.0

              is : f.env l ≡ Block_value lock.0
              is = sym (t.st.top.env l t.core.0) ∙ lock.1

              state : (held : Bool) × (w.heap.at lock.0 ≡ Some (Lock_cell held)) → GoesOn
              state (true, e) = inr (record { frame = f; below = below; command = The_command to (Acquire_op l) place; rest = rest; stands = here; lock = l; acquires = refl; name = lock.0; is = is; held = e })
              state (false, e) = cell (The_command to (Acquire_op l) place) (Int_value 0) lock.0 (Lock_cell true) here (record { name = lock.0; is = is; stood = e; puts = puts_cell w lock.0 (Lock_cell true) }, refl, refl)
  goes_on (The_command to (Release_op l) place) here = by (at_rule p w h H k f below _ rest at here refl)
    where
      by : AtRule p w h H k f below (The_command to (Release_op l) place) rest → GoesOn
      by t = go t.d.uses t.d.does.rule
        where
          go : (uses : Option (Atom ℕ)) → Rule (decls_of p) t.st.top.state to (Release_op l) uses t.d.state → GoesOn
          go None r = absurd r
          go (Some a) r =
              let used = use_all (decls_of p) S names (r.guarded ++ Has_atom l Locked_type ∷ []) t.st.top.state r.rest t.st.top_owns r.used t.means in
              let both = all_split (decls_of p) S (map (map_atom names) r.guarded) (map (map_atom names) (Has_atom l Locked_type ∷ [])) used.one (subst (λ q. MeansAll (decls_of p) S q used.one) (map-append (map_atom names) r.guarded (Has_atom l Locked_type ∷ [])) used.first_part) in
              let b = locked_inv (decls_of p) S (head_of (decls_of p) S both.two both.second_part).first_part in
              cell (The_command to (Release_op l) place) (Int_value 0) b.0 (Lock_cell false) here (record { name = b.0; is = sym (t.st.top.env l t.core.0) ∙ b.1; stood = b.2; puts = puts_cell w b.0 (Lock_cell false) }, refl, refl)
  goes_on (The_command to (Call_op g ys) place) here = by (at_rule p w h H k f below _ rest at here refl)
    where
      by : AtRule p w h H k f below (The_command to (Call_op g ys) place) rest → GoesOn
      by t = go t.d.uses t.d.does.rule
        where
          go : (uses : Option (Atom ℕ)) → Rule (decls_of p) t.st.top.state to (Call_op g ys) uses t.d.state → GoesOn
          go None r = absurd r
          go (Some a) r =
              let fn = callee t.st.top_owns t.st.top.state t.means g (length ys) a (t.st.top.env g t.core.0.0) r.callee in
              inl (
                with_threads w (slice_set w.threads k (Running (start fn.fun (map f.env ys)) (record { to = to; frame = next f f.env rest } ∷ below))) w.prints,
                Step_calls f below (The_command to (Call_op g ys) place) rest g ys here refl fn (moves_to w k (Running (start fn.fun (map f.env ys)) (record { to = to; frame = next f f.env rest } ∷ below)) (Running f below) here.here),
              )
  goes_on (The_command to (Spawn_op g y) place) here = by (at_rule p w h H k f below _ rest at here refl)
    where
      by : AtRule p w h H k f below (The_command to (Spawn_op g y) place) rest → GoesOn
      by t = go t.d.uses t.d.does.rule
        where
          go : (uses : Option (Atom ℕ)) → Rule (decls_of p) t.st.top.state to (Spawn_op g y) uses t.d.state → GoesOn
          go None r = absurd r
          go (Some a) r =
              let fn = callee t.st.top_owns t.st.top.state t.means g 1 a (t.st.top.env g t.core.0.0) r.callee in
              let e = at_only to (Int_value 0) f.env in
              inl (
                with_threads w (slice_set w.threads k (Running (next f e rest) below) ++ Running (start fn.fun (f.env y ∷ [])) [] ∷ []) w.prints,
                Step_spawns f below (The_command to (Spawn_op g y) place) rest g y e (slice_get (slice_set w.threads k (Running (next f e rest) below))) here refl fn (binds_at f.env to (Int_value 0)) (λ n. refl) refl (puts_in w.threads k (Running (next f e rest) below) (Running f below) here.here) (puts_end w.threads k (Running (next f e rest) below) (Running (start fn.fun (f.env y ∷ [])) [])),
              )
  goes_on (The_command to (If_op y one two giving) place) here = by (at_branches p w h H k f below _ rest at here refl)
    where
      by : AtBranches p w h H k f below (The_command to (If_op y one two giving) place) rest → GoesOn
      by t = go t.b.uses (first_entered (decls_of p) t.st.top.state (The_command to (If_op y one two giving) place) t.b.uses t.b.names t.b.join t.b.cases t.b.branches t.b.rule t.b.inside)
        where
          go : (uses : Option (Atom ℕ)) → (walked : Body) × Entered (decls_of p) t.st.top.state (The_command to (If_op y one two giving) place) uses t.b.cases t.b.names t.b.join 0 0 walked → GoesOn
          go (Some a) r = absurd r.1.begins.starts
          go None r =
              let a = number t.st.top_owns t.st.top.state t.means y r.1.begins.starts.held in
              inl (
                with_threads w (slice_set w.threads k (Running (inside f to (chosen a.0 one two) rest) below)) w.prints,
                Step_branches f below (The_command to (If_op y one two giving) place) rest (chosen a.0 one two) here (a.0, sym (t.st.top.env y t.core.0.0) ∙ a.1, refl) (moves_to w k (Running (inside f to (chosen a.0 one two) rest) below) (Running f below) here.here),
              )
  goes_on (The_command to (Match_op y d all giving) place) here = by (at_branches p w h H k f below _ rest at here refl)
    where
      into : (body : Body) → ChoosesCase w.heap.at (f.env y) (case_list all) body → GoesOn
      into body ch = inl (
        with_threads w (slice_set w.threads k (Running (inside f to body rest) below)) w.prints,
        Step_branches f below (The_command to (Match_op y d all giving) place) rest body here ch (moves_to w k (Running (inside f to body rest) below) (Running f below) here.here),
      )

      by : AtBranches p w h H k f below (The_command to (Match_op y d all giving) place) rest → GoesOn
      by t = go t.b.uses (first_entered (decls_of p) t.st.top.state (The_command to (Match_op y d all giving) place) t.b.uses t.b.names t.b.join t.b.cases t.b.branches t.b.rule t.b.inside)
        where
          go : (uses : Option (Atom ℕ)) → (walked : Body) × Entered (decls_of p) t.st.top.state (The_command to (Match_op y d all giving) place) uses t.b.cases t.b.names t.b.join 0 0 walked → GoesOn
          go None r = absurd r.1.begins.starts
          go (Some (Same_atom x z)) r = absurd r.1.begins.starts
          go (Some (Has_atom x Int_type)) r = absurd r.1.begins.starts.1
          go (Some (Has_atom x Unknown_type)) r = absurd r.1.begins.starts.1
          go (Some (Has_atom x Dynamic_type)) r = absurd r.1.begins.starts.1
          go (Some (Has_atom x Locked_type)) r = absurd r.1.begins.starts.1
          go (Some (Has_atom x (Function_type s))) r = absurd r.1.begins.starts.1
          go (Some (Has_atom x (Lock_type q))) r = absurd r.1.begins.starts.1
          go (Some (Has_atom x (Block_type con ys c))) r =
              let known = r.1.begins.starts.1 in
              let b = block t.st.top_owns t.st.top.state t.means x con ys c known.held in
              into (body_of known.known) (record { name = b.0; is = sym (t.st.top.env y t.core.0.0) ∙ ap names (sym r.1.begins.starts.0) ∙ b.1; con = con; fields = map names ys; made = b.2; chosen = case_body con (case_list all) known.known known.one })
          go (Some (Has_atom x (Named_type n))) r =
              let opens = r.1.begins.starts.1.opens in
              let held = used_in (AffineAtom (decls_of p)) (Has_atom y (Named_type d)) t.st.top.state opens.rest opens.used in
              let o = data_inv (decls_of p) S (look_up (decls_of p) S (map_atom names) (Has_atom y (Named_type d)) t.st.top.state t.st.top_owns held t.means).1 in
              let z = t.core.1 o.con o.con_is o.made.is_con o.made.of_type in
              into z.0 (record { name = o.block; is = sym (t.st.top.env y t.core.0.0) ∙ o.is; con = o.con; fields = o.fields; made = o.made.block; chosen = z.1 })

-- the end of a body
pub ends_on : (p : Program) (w : Config) (k : ℕ) (f : Frame) (below : List Suspended) → IsDone w k f below → (w' : Config) × NStep p w k w'
ends_on p w k f below here = by f.outer refl below here
  where
    by : (outer : List Level) → f.outer ≡ outer → (under : List Suspended) → IsDone w k f under → (w' : Config) × NStep p w k w'
    by (level ∷ outer) e under d =
        let t : Thread = Running (record { env = at_only level.to (f.env f.rest.value) f.env; rest = level.after; outer = outer }) under in
        (with_threads w (slice_set w.threads k t) w.prints, Step_joins f under level outer (at_only level.to (f.env f.rest.value) f.env) d e (binds_at f.env level.to (f.env f.rest.value)) (moves_to w k t (Running f under) d.here))
    by [] e [] d = (with_threads w (slice_set w.threads k Ended) w.prints, Step_ends f d e (moves_to w k Ended (Running f []) d.here))
    by [] e (x ∷ under) d =
        let v : Environment = at_only x.to (f.env f.rest.value) x.frame.env in
        let t : Thread = Running (next x.frame v x.frame.rest.commands) under in
        (with_threads w (slice_set w.threads k t) w.prints, Step_returns f x under v d e (binds_at x.frame.env x.to (f.env f.rest.value)) (moves_to w k t (Running f (x ∷ under)) d.here))
