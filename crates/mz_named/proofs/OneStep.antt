-- A step of a thread leads to one configuration, but for the name of what is new.
use Rattle.std.proofs.Common.{◌≡◌, inl, inr, ℕ, suc, List, [], ◌∷◌, ◌++◌, length, map, Option, Some, refl, sym, ap, ◌∙◌, subst, slice_get}
use Rattle.std.proofs.lemmas.Bool.{cases_eq}
use Rattle.std.proofs.Math.Path.{fun_ext}
use Rattle.mz_tree.specs.Code.{Op, Command, Body, Call_op, Spawn_op, to_of, op_of}
use Rattle.mz_tree.specs.Programs.{Fun, Program}
use Rattle.mz_named.specs.Machine.{Value, Int_value, Fun_value, Environment, Level, Frame, Suspended, Thread, Running, Ended, Stopped, Config, Puts, Keeps, Binds, start, IsFunction, Acts, Stops, Chooses, next, inside, IsAt, IsDone, Moves, NStep, Step_acts, Step_stops, Step_branches, Step_joins, Step_calls, Step_returns, Step_ends, Step_spawns}
use Rattle.mz_named.specs.Laws.{SameNew, AreSame, LeadsToOne}
use Rattle.mz_named.proofs.Inverting.{nil_cons, heads, same_frame}
use Rattle.mz_named.proofs.OneAnswer.{acts_stops, chooses_stops, same_below}
use Rattle.mz_named.proofs.OneAct.{somes, same_puts, acts_once, chooses_once, acts_chooses}

-- lists that hold the same at each place
list_ext : {A : Type 0} (xs ys : List A) → ((n : ℕ) → slice_get xs n ≡ slice_get ys n) → xs ≡ ys
list_ext [] [] h = refl
list_ext [] (y ∷ ys) h = absurd (let e = h 0 in cc)
list_ext (x ∷ xs) [] h = absurd (let e = h 0 in cc)
list_ext (x ∷ xs) (y ∷ ys) h = let e = h 0 in let first : x ≡ y = cc in ap (λ z. z ∷ xs) first ∙ ap (λ l. y ∷ l) (list_ext xs ys (λ n. h (suc n)))

same_binds : {e e1 e2 : Environment} {c : ℕ} {v u : Value} → Binds e c v e1 → Binds e c u e2 → v ≡ u → e1 ≡ e2
same_binds {e1 = e1} {e2 = e2} {c = c} one two same = fun_ext (λ n. elim (cases_eq n c) [
  | inl q ↦ ap e1 q ∙ one.bound ∙ same ∙ sym two.bound ∙ ap e2 (sym q)
  | inr differ ↦ one.others n differ ∙ sym (two.others n differ)
])

tails : {A : Type 0} {a b : A} {l xs ys : List A} → l ≡ a ∷ xs → l ≡ b ∷ ys → xs ≡ ys
tails e f = cc

functions : {m n : ℕ} {v : Value} → v ≡ Fun_value m → v ≡ Fun_value n → m ≡ n
functions e f = cc

same_callee : {m n : ℕ} {xs ys : List ℕ} {o : Op} → o ≡ Call_op m xs → o ≡ Call_op n ys → m ≡ n
same_callee e f = cc

same_args : {m n : ℕ} {xs ys : List ℕ} {o : Op} → o ≡ Call_op m xs → o ≡ Call_op n ys → xs ≡ ys
same_args e f = cc

same_spawned : {m n x y : ℕ} {o : Op} → o ≡ Spawn_op m x → o ≡ Spawn_op n y → m ≡ n
same_spawned e f = cc

same_arg : {m n x y : ℕ} {o : Op} → o ≡ Spawn_op m x → o ≡ Spawn_op n y → x ≡ y
same_arg e f = cc

calls_spawns : {m n x : ℕ} {xs : List ℕ} {o : Op} → o ≡ Call_op m xs → o ≡ Spawn_op n x → ⊥
calls_spawns e f = cc

-- a value is one function
one_function : (p : Program) (v u : Value) (m n : ℕ) → v ≡ u → (g : IsFunction p v m) (h : IsFunction p u n) → g.fun ≡ h.fun
one_function p v u m n same g h = somes (subst (λ i. slice_get p.funs i ≡ Some g.fun) (functions (sym same ∙ g.is) h.is) g.declared) h.declared

module _ (p : Program) (w : Config) (k : ℕ) where
  same_moves : (w1 w2 : Config) (t u : Thread) → Moves w k t w1 → Moves w k u w2 → t ≡ u → AreSame w1 w2
  same_moves w1 w2 t u one two same = record {
    heap = λ n. two.heap n ∙ sym (one.heap n);
    threads = list_ext w1.threads w2.threads (λ n. sym (same_puts one.threads two.threads refl same n));
    prints = one.prints ∙ sym two.prints;
  }

  -- a step by a command that is known
  data From (f : Frame) (below : List Suspended) (c : Command) (rest : List Command) (w' : Config) : Type 0 where
    Acting : (v : Value) (e' : Environment) (out : List ℕ) → Acts w.heap.at f.env (op_of c) v w'.heap.at out → w'.prints ≡ w.prints ++ out → Binds f.env (to_of c) v e' →
        Puts (slice_get w.threads) k (Running (next f e' rest) below) (slice_get w'.threads) → From f below c rest w'
    Stopping : Stops w.heap.at f.env (op_of c) → Moves w k Stopped w' → From f below c rest w'
    Branching : (body : Body) → Chooses w.heap.at f.env (op_of c) body → Moves w k (Running (inside f (to_of c) body rest) below) w' → From f below c rest w'
    Calling : (callee : ℕ) (args : List ℕ) → op_of c ≡ Call_op callee args → (g : IsFunction p (f.env callee) (length args)) →
        Moves w k (Running (start g.fun (map f.env args)) (record { to = to_of c; frame = next f f.env rest } ∷ below)) w' → From f below c rest w'
    Spawning : (callee arg : ℕ) (e' : Environment) (mid : ℕ → Option Thread) → op_of c ≡ Spawn_op callee arg → (g : IsFunction p (f.env callee) 1) → Binds f.env (to_of c) (Int_value 0) e' →
        Keeps w.heap.at w'.heap.at → w'.prints ≡ w.prints → Puts (slice_get w.threads) k (Running (next f e' rest) below) mid →
        Puts mid (length w.threads) (Running (start g.fun (f.env arg ∷ [])) []) (slice_get w'.threads) → From f below c rest w'

  module _ (f : Frame) (below : List Suspended) (c : Command) (rest : List Command) (at : IsAt w k f below c rest) where
    as_is : (w' : Config) (g : Frame) (under : List Suspended) (d : Command) (more : List Command) → IsAt w k g under d more → From g under d more w' → From f below c rest w'
    as_is w' g under d more that from =
        let same : g ≡ f = same_frame that.here at.here in
        let frames : under ≡ below = same_below that.here at.here in
        let first : f.rest.commands ≡ d ∷ more = subst (λ (z : Frame). z.rest.commands ≡ d ∷ more) same that.first in
        let command : d ≡ c = heads first at.first in
        let tail : more ≡ rest = tails first at.first in
        subst (λ (x : Frame). From x below c rest w') same (subst (λ (x : List Suspended). From g x c rest w') frames (subst (λ (x : Command). From g under x rest w') command (subst (λ (x : List Command). From g under d x w') tail from)))

    not_done : (g : Frame) (under : List Suspended) → IsDone w k g under → ⊥
    not_done g under done = nil_cons (subst (λ (z : Frame). z.rest.commands ≡ []) (sym (same_frame at.here done.here)) done.done) at.first

    from_command : (w' : Config) → NStep p w k w' → From f below c rest w'
    from_command w' (Step_acts g under d more v e' out that acts prints binds puts) = as_is w' g under d more that (Acting v e' out acts prints binds puts)
    from_command w' (Step_stops g under d more that stops moves) = as_is w' g under d more that (Stopping stops moves)
    from_command w' (Step_branches g under d more body that chooses moves) = as_is w' g under d more that (Branching body chooses moves)
    from_command w' (Step_joins g under level outer e' done out binds moves) = absurd (not_done g under done)
    from_command w' (Step_calls g under d more callee args that is q moves) = as_is w' g under d more that (Calling callee args is q moves)
    from_command w' (Step_returns g waiting under e' done out binds moves) = absurd (not_done g (waiting ∷ under) done)
    from_command w' (Step_ends g done out moves) = absurd (not_done g [] done)
    from_command w' (Step_spawns g under d more callee arg e' mid that is q binds heap prints one two) = as_is w' g under d more that (Spawning callee arg e' mid is q binds heap prints one two)

    no_act : (w' : Config) (v : Value) (out : List ℕ) (callee : ℕ) (args : List ℕ) → Acts w.heap.at f.env (op_of c) v w'.heap.at out → op_of c ≡ Call_op callee args → ⊥
    no_act w' v out callee args acts is = subst (λ o. Acts w.heap.at f.env o v w'.heap.at out) is acts

    no_act_spawn : (w' : Config) (v : Value) (out : List ℕ) (callee arg : ℕ) → Acts w.heap.at f.env (op_of c) v w'.heap.at out → op_of c ≡ Spawn_op callee arg → ⊥
    no_act_spawn w' v out callee arg acts is = subst (λ o. Acts w.heap.at f.env o v w'.heap.at out) is acts

    no_stop : (callee : ℕ) (args : List ℕ) → Stops w.heap.at f.env (op_of c) → op_of c ≡ Call_op callee args → ⊥
    no_stop callee args stops is = subst (λ o. Stops w.heap.at f.env o) is stops

    no_stop_spawn : (callee arg : ℕ) → Stops w.heap.at f.env (op_of c) → op_of c ≡ Spawn_op callee arg → ⊥
    no_stop_spawn callee arg stops is = subst (λ o. Stops w.heap.at f.env o) is stops

    no_choice : (body : Body) (callee : ℕ) (args : List ℕ) → Chooses w.heap.at f.env (op_of c) body → op_of c ≡ Call_op callee args → ⊥
    no_choice body callee args chooses is = subst (λ o. Chooses w.heap.at f.env o body) is chooses

    no_choice_spawn : (body : Body) (callee arg : ℕ) → Chooses w.heap.at f.env (op_of c) body → op_of c ≡ Spawn_op callee arg → ⊥
    no_choice_spawn body callee arg chooses is = subst (λ o. Chooses w.heap.at f.env o body) is chooses

    abbrev called : Fun → List ℕ → Thread
    called h args = Running (start h (map f.env args)) (record { to = to_of c; frame = next f f.env rest } ∷ below)

    same_from : (w1 w2 : Config) → SameNew w.heap.at w1.heap.at w2.heap.at → From f below c rest w1 → From f below c rest w2 → AreSame w1 w2
    same_from w1 w2 new (Acting v e1 out1 acts1 prints1 binds1 puts1) (Acting u e2 out2 acts2 prints2 binds2 puts2) =
        let a = acts_once w.heap.at w1.heap.at w2.heap.at f.env v u out1 out2 (op_of c) new acts1 acts2 in
        record {
          heap = a.cells;
          threads = list_ext w1.threads w2.threads (λ n. sym (same_puts puts1 puts2 refl (ap (λ e. Running (next f e rest) below) (same_binds binds1 binds2 a.value)) n));
          prints = prints1 ∙ ap (λ l. w.prints ++ l) a.out ∙ sym prints2;
        }
    same_from w1 w2 new (Acting v e1 out1 acts prints1 binds1 puts1) (Stopping stops moves) = absurd (acts_stops w.heap.at w1.heap.at f.env (op_of c) v out1 acts stops)
    same_from w1 w2 new (Acting v e1 out1 acts prints1 binds1 puts1) (Branching body chooses moves) = absurd (acts_chooses w.heap.at w1.heap.at f.env (op_of c) v out1 body acts chooses)
    same_from w1 w2 new (Acting v e1 out1 acts prints1 binds1 puts1) (Calling callee args is g moves) = absurd (no_act w1 v out1 callee args acts is)
    same_from w1 w2 new (Acting v e1 out1 acts prints1 binds1 puts1) (Spawning callee arg e' mid is g binds heap prints one two) = absurd (no_act_spawn w1 v out1 callee arg acts is)
    same_from w1 w2 new (Stopping stops moves) (Acting v e2 out2 acts prints2 binds2 puts2) = absurd (acts_stops w.heap.at w2.heap.at f.env (op_of c) v out2 acts stops)
    same_from w1 w2 new (Stopping stops1 moves1) (Stopping stops2 moves2) = same_moves w1 w2 Stopped Stopped moves1 moves2 refl
    same_from w1 w2 new (Stopping stops moves1) (Branching body chooses moves2) = absurd (chooses_stops w.heap.at f.env (op_of c) body chooses stops)
    same_from w1 w2 new (Stopping stops moves1) (Calling callee args is g moves2) = absurd (no_stop callee args stops is)
    same_from w1 w2 new (Stopping stops moves1) (Spawning callee arg e' mid is g binds heap prints one two) = absurd (no_stop_spawn callee arg stops is)
    same_from w1 w2 new (Branching body chooses moves1) (Acting v e2 out2 acts prints2 binds2 puts2) = absurd (acts_chooses w.heap.at w2.heap.at f.env (op_of c) v out2 body acts chooses)
    same_from w1 w2 new (Branching body chooses moves1) (Stopping stops moves2) = absurd (chooses_stops w.heap.at f.env (op_of c) body chooses stops)
    same_from w1 w2 new (Branching body1 chooses1 moves1) (Branching body2 chooses2 moves2) =
        same_moves w1 w2 (Running (inside f (to_of c) body1 rest) below) (Running (inside f (to_of c) body2 rest) below) moves1 moves2
        (ap (λ b. Running (inside f (to_of c) b rest) below) (chooses_once w.heap.at f.env (op_of c) body1 body2 chooses1 chooses2))
    same_from w1 w2 new (Branching body chooses moves1) (Calling callee args is g moves2) = absurd (no_choice body callee args chooses is)
    same_from w1 w2 new (Branching body chooses moves1) (Spawning callee arg e' mid is g binds heap prints one two) = absurd (no_choice_spawn body callee arg chooses is)
    same_from w1 w2 new (Calling callee args is g moves1) (Acting v e2 out2 acts prints2 binds2 puts2) = absurd (no_act w2 v out2 callee args acts is)
    same_from w1 w2 new (Calling callee args is g moves1) (Stopping stops moves2) = absurd (no_stop callee args stops is)
    same_from w1 w2 new (Calling callee args is g moves1) (Branching body chooses moves2) = absurd (no_choice body callee args chooses is)
    same_from w1 w2 new (Calling callee1 args1 is1 g1 moves1) (Calling callee2 args2 is2 g2 moves2) =
        let function : g1.fun ≡ g2.fun = one_function p (f.env callee1) (f.env callee2) (length args1) (length args2) (ap f.env (same_callee is1 is2)) g1 g2 in
        same_moves w1 w2 (called g1.fun args1) (called g2.fun args2) moves1 moves2 (ap (λ h. called h args1) function ∙ ap (called g2.fun) (same_args is1 is2))
    same_from w1 w2 new (Calling callee args is1 g1 moves1) (Spawning callee2 arg e' mid is2 g2 binds heap prints one two) = absurd (calls_spawns is1 is2)
    same_from w1 w2 new (Spawning callee arg e' mid is g binds heap prints one two) (Acting v e2 out2 acts prints2 binds2 puts2) = absurd (no_act_spawn w2 v out2 callee arg acts is)
    same_from w1 w2 new (Spawning callee arg e' mid is g binds heap prints one two) (Stopping stops moves) = absurd (no_stop_spawn callee arg stops is)
    same_from w1 w2 new (Spawning callee arg e' mid is g binds heap prints one two) (Branching body chooses moves) = absurd (no_choice_spawn body callee arg chooses is)
    same_from w1 w2 new (Spawning callee arg e' mid is1 g1 binds heap prints one two) (Calling callee2 args is2 g2 moves) = absurd (calls_spawns is2 is1)
    same_from w1 w2 new (Spawning callee1 arg1 e1 mid1 is1 g1 binds1 heap1 prints1 one1 two1) (Spawning callee2 arg2 e2 mid2 is2 g2 binds2 heap2 prints2 one2 two2) =
        let function : g1.fun ≡ g2.fun = one_function p (f.env callee1) (f.env callee2) 1 1 (ap f.env (same_spawned is1 is2)) g1 g2 in
        let env : e1 ≡ e2 = same_binds binds1 binds2 refl in
        let mids : mid1 ≡ mid2 = fun_ext (λ n. sym (same_puts one1 one2 refl (ap (λ e. Running (next f e rest) below) env) n)) in
        let started : Running (start g1.fun (f.env arg1 ∷ [])) [] ≡ Running (start g2.fun (f.env arg2 ∷ [])) [] =
        ap (λ h. Running (start h (f.env arg1 ∷ [])) []) function ∙ ap (λ a. Running (start g2.fun (f.env a ∷ [])) []) (same_arg is1 is2) in
        record {
          heap = λ n. heap2 n ∙ sym (heap1 n);
          threads = list_ext w1.threads w2.threads (λ n. sym (same_puts (subst (λ (m : ℕ → Option Thread). Puts m (length w.threads) (Running (start g1.fun (f.env arg1 ∷ [])) []) (slice_get w1.threads)) mids two1) two2 refl started n));
          prints = prints1 ∙ sym prints2;
        }

  -- a step at the end of a body
  data Leaving (f : Frame) (under : List Suspended) (w' : Config) : Type 0 where
    Joining : (level : Level) (outer : List Level) (e' : Environment) → f.outer ≡ level ∷ outer → Binds f.env level.to (f.env f.rest.value) e' →
        Moves w k (Running (record { env = e'; rest = level.after; outer = outer }) under) w' → Leaving f under w'
    Returning : (waiting : Suspended) (below : List Suspended) (e' : Environment) → under ≡ waiting ∷ below → f.outer ≡ [] → Binds waiting.frame.env waiting.to (f.env f.rest.value) e' →
        Moves w k (Running (record waiting.frame { env = e' }) below) w' → Leaving f under w'
    Ending : under ≡ [] → f.outer ≡ [] → Moves w k Ended w' → Leaving f under w'

  module _ (f : Frame) (under : List Suspended) (done : IsDone w k f under) where
    end_as_is : (w' : Config) (g : Frame) (below : List Suspended) → IsDone w k g below → Leaving g below w' → Leaving f under w'
    end_as_is w' g below that leaving = subst (λ (x : Frame). Leaving x under w') (same_frame that.here done.here) (subst (λ (x : List Suspended). Leaving g x w') (same_below that.here done.here) leaving)

    not_at : (g : Frame) (below : List Suspended) (d : Command) (more : List Command) → IsAt w k g below d more → ⊥
    not_at g below d more at = nil_cons (subst (λ (z : Frame). z.rest.commands ≡ []) (same_frame done.here at.here) done.done) at.first

    from_end : (w' : Config) → NStep p w k w' → Leaving f under w'
    from_end w' (Step_acts g below d more v e' out that acts prints binds puts) = absurd (not_at g below d more that)
    from_end w' (Step_stops g below d more that stops moves) = absurd (not_at g below d more that)
    from_end w' (Step_branches g below d more body that chooses moves) = absurd (not_at g below d more that)
    from_end w' (Step_joins g below level outer e' that out binds moves) = end_as_is w' g below that (Joining level outer e' out binds moves)
    from_end w' (Step_calls g below d more callee args that is q moves) = absurd (not_at g below d more that)
    from_end w' (Step_returns g waiting below e' that out binds moves) = end_as_is w' g (waiting ∷ below) that (Returning waiting below e' refl out binds moves)
    from_end w' (Step_ends g that out moves) = end_as_is w' g [] that (Ending refl out moves)
    from_end w' (Step_spawns g below d more callee arg e' mid that is q binds heap prints one two) = absurd (not_at g below d more that)

    abbrev joined : Environment → Level → List Level → Thread
    joined e l outer = Running (record { env = e; rest = l.after; outer = outer }) under

    abbrev returned : Environment → Suspended → List Suspended → Thread
    returned e s below = Running (record s.frame { env = e }) below

    same_end : (w1 w2 : Config) → Leaving f under w1 → Leaving f under w2 → AreSame w1 w2
    same_end w1 w2 (Joining level1 outer1 e1 out1 binds1 moves1) (Joining level2 outer2 e2 out2 binds2 moves2) =
        let level : level1 ≡ level2 = heads out1 out2 in
        let outer : outer1 ≡ outer2 = tails out1 out2 in
        let env : e1 ≡ e2 = same_binds (subst (λ (l : Level). Binds f.env l.to (f.env f.rest.value) e1) level binds1) binds2 refl in
        same_moves w1 w2 (joined e1 level1 outer1) (joined e2 level2 outer2) moves1 moves2 (ap (λ e. joined e level1 outer1) env ∙ ap (λ l. joined e2 l outer1) level ∙ ap (joined e2 level2) outer)
    same_end w1 w2 (Joining level outer e' some binds moves1) (Returning waiting below e2 is none binds2 moves2) = absurd (nil_cons none some)
    same_end w1 w2 (Joining level outer e' some binds moves1) (Ending is none moves2) = absurd (nil_cons none some)
    same_end w1 w2 (Returning waiting below e2 is none binds2 moves1) (Joining level outer e' some binds moves2) = absurd (nil_cons none some)
    same_end w1 w2 (Returning waiting1 below1 e1 is1 none1 binds1 moves1) (Returning waiting2 below2 e2 is2 none2 binds2 moves2) =
        let waiting : waiting1 ≡ waiting2 = heads is1 is2 in
        let below : below1 ≡ below2 = tails is1 is2 in
        let env : e1 ≡ e2 = same_binds (subst (λ (s : Suspended). Binds s.frame.env s.to (f.env f.rest.value) e1) waiting binds1) binds2 refl in
        same_moves w1 w2 (returned e1 waiting1 below1) (returned e2 waiting2 below2) moves1 moves2 (ap (λ e. returned e waiting1 below1) env ∙ ap (λ s. returned e2 s below1) waiting ∙ ap (returned e2 waiting2) below)
    same_end w1 w2 (Returning waiting below e2 is none binds2 moves1) (Ending empty none2 moves2) = absurd (nil_cons empty is)
    same_end w1 w2 (Ending empty none moves1) (Joining level outer e' some binds moves2) = absurd (nil_cons none some)
    same_end w1 w2 (Ending empty none moves1) (Returning waiting below e2 is none2 binds2 moves2) = absurd (nil_cons empty is)
    same_end w1 w2 (Ending empty1 none1 moves1) (Ending empty2 none2 moves2) = same_moves w1 w2 Ended Ended moves1 moves2 refl

  by_command : (f : Frame) (below : List Suspended) (c : Command) (rest : List Command) → IsAt w k f below c rest → (w1 w2 : Config) → NStep p w k w1 → NStep p w k w2 → SameNew w.heap.at w1.heap.at w2.heap.at → AreSame w1 w2
  by_command f below c rest at w1 w2 one two new = same_from f below c rest at w1 w2 new (from_command f below c rest at w1 one) (from_command f below c rest at w2 two)

  by_end : (f : Frame) (under : List Suspended) → IsDone w k f under → (w1 w2 : Config) → NStep p w k w1 → NStep p w k w2 → AreSame w1 w2
  by_end f under done w1 w2 one two = same_end f under done w1 w2 (from_end f under done w1 one) (from_end f under done w2 two)

  -- where a step is made
  data Stands : Type 0 where
    At : (f : Frame) (below : List Suspended) (c : Command) (rest : List Command) → IsAt w k f below c rest → Stands
    Done : (f : Frame) (under : List Suspended) → IsDone w k f under → Stands

  stands : (w' : Config) → NStep p w k w' → Stands
  stands w' (Step_acts f below c rest v e' out at acts prints binds puts) = At f below c rest at
  stands w' (Step_stops f below c rest at stops moves) = At f below c rest at
  stands w' (Step_branches f below c rest body at chooses moves) = At f below c rest at
  stands w' (Step_joins f below level outer e' done out binds moves) = Done f below done
  stands w' (Step_calls f below c rest callee args at is g moves) = At f below c rest at
  stands w' (Step_returns f waiting below e' done out binds moves) = Done f (waiting ∷ below) done
  stands w' (Step_ends f done out moves) = Done f [] done
  stands w' (Step_spawns f below c rest callee arg e' mid at is g binds heap prints one two) = At f below c rest at

  by_stand : Stands → (w1 w2 : Config) → NStep p w k w1 → NStep p w k w2 → SameNew w.heap.at w1.heap.at w2.heap.at → AreSame w1 w2
  by_stand (At f below c rest at) w1 w2 one two new = by_command f below c rest at w1 w2 one two new
  by_stand (Done f under done) w1 w2 one two new = by_end f under done w1 w2 one two

pub one_step : LeadsToOne
one_step p w w1 w2 k one two new = by_stand p w k (stands p w k w1 one) w1 w2 one two new
