-- Bodies as the functions of the code read them: commands one by one.
use Rattle.std.proofs.Common.{◌≡◌, ℕ, zero, suc, ◌<◌, ◌≤◌, ◌+◌, Bool, List, [], ◌∷◌, ◌++◌, length, drop, get_or, Option, Result, Ok, Err, refl, sym, ap, subst, ◌∙◌, append_assoc, arith}
use Rattle.std.proofs.lemmas.List.{drop_more}
use Rattle.mz_tree.specs.View.{plain_command, plain_commands}
use Rattle.mz_tree.specs.declared.code.Command.{Command as CodeCommand}
use Rattle.mz_script.specs.Stops.{cause, Gives}
use Rattle.mz_script.specs.declared.read.stop.Stop.{Stop}
use Rattle.mz_grammar.specs.Reading.{Read, ◌>>=◌, token_at}
use Rattle.mz_grammar.specs.Answers.{Stopped, Unexpected, Too_deep, No_memory, Stops}
use Rattle.mz_grammar.proofs.Loops.{with_front}
use Rattle.mz_tree.specs.Plain.{Atom}
use Rattle.mz_tree.specs.declared.types.Place.{Place}
use Rattle.mz_tree.specs.Code.{Op, commands_of, Commands, The_command, No_commands, More_commands, The_body}
use Rattle.mz_view.specs.Steps.{Step}
use Rattle.mz_deriv.specs.Scripts.{Item, See_item, Do_item, ScriptCases, Script_case, items_of}
use Rattle.mz_script.specs.Pieces.{Piece}
use Rattle.mz_script.specs.Places.{ends, seen, line}
use Rattle.mz_script.specs.Reading.{steps_at, seen_at, do_at, case_at, end_at, point_by, op_by, case_by, commands_by}

-- what goes on after what stops stops there
pub stops_then : {T A B : Type 0} (s : Stopped) (r : Read T A) (f : A × List T → Read T B) → Stops s r → Stops s (r >>= f)
stops_then (Unexpected n) r f (rest, e, count) = (rest, ap (λ q. q >>= f) e, count)
stops_then (Too_deep n) r f (rest, e, count) = (rest, ap (λ q. q >>= f) e, count)
stops_then No_memory r f h = tt

-- the same reading stops alike
pub stops_same : {T A : Type 0} (s : Stopped) (r q : Read T A) → r ≡ q → Stops s r → Stops s q
stops_same (Unexpected n) r q e (rest, h, count) = (rest, sym e ∙ h, count)
stops_same (Too_deep n) r q e (rest, h, count) = (rest, sym e ∙ h, count)
stops_same No_memory r q e h = tt

seen_append : (ss : List Step) (i : Item) (items : List Item) → seen ss (i ∷ items) ≡ (seen ss [] ++ i ∷ []) ++ items
seen_append [] i items = refl
seen_append (s ∷ ss) i items = ap (λ l. See_item s ∷ l) (seen_append ss i items)

-- an error that is handed on stops where it did
pub hands_on : {T X A : Type 0} (view : X → A × List T) (r : Result X Stop) (e : Stop) (read : Read T A) → r ≡ Err e → Stops (cause e) read → Gives view r read
hands_on {T} {X} {A} view r e read same stop = subst (λ (q : Result X Stop). Gives view q read) (sym same) stop

-- the commands that are left begin with the next
pub next_commands : (commands : List CodeCommand) (i : ℕ) (command : CodeCommand) → i < length commands → command ≡ get_or commands i command →
    commands_of (plain_commands (drop i commands)) ≡ More_commands (plain_command command) (commands_of (plain_commands (drop (i + 1) commands)))
next_commands commands i command within here =
    ap (λ l. commands_of (plain_commands l)) (drop_more commands i command within)
    ∙ ap (λ c. More_commands (plain_command c) (commands_of (plain_commands (drop (i + 1) commands)))) (sym here)

pub no_commands : (commands : List CodeCommand) (i : ℕ) → length commands ≤ i → commands_of (plain_commands (drop i commands)) ≡ No_commands
no_commands [] i le = ap (λ l. commands_of (plain_commands l)) (drop_none i)
  where
    drop_none : (i : ℕ) → drop {A = CodeCommand} i [] ≡ []
    drop_none zero = refl
    drop_none (suc i) = refl
no_commands (c ∷ commands) zero le = absurd (omega arith)
no_commands (c ∷ commands) (suc i) le = no_commands commands i (omega arith)

module _ {T : Type 0} (piece : T → Piece) where
  -- a branch: its number, and then its commands
  pub case_done : (opens : Bool) (all : Commands) (value : ℕ) (place : Place) (ts r q : List T) (n : ℕ) (items : List Item) → case_at piece opens ts ≡ Ok (n, r) → commands_by piece all r ≡ Ok (items, q) →
      case_by piece opens (The_body all value place) ts ≡ Ok (Script_case n (items_of items), q)
  unfolding commands_by
  case_done opens all value place ts r q n items one two =
      ap (λ s. s >>= λ x. commands_by piece all x.1 >>= λ y. Ok (Script_case x.0 (items_of y.0), y.1)) one ∙ ap (λ s. s >>= λ y. Ok (Script_case n (items_of y.0), y.1)) two

  pub case_stops : (opens : Bool) (all : Commands) (value : ℕ) (place : Place) (s : Stopped) (ts r : List T) (n : ℕ) → case_at piece opens ts ≡ Ok (n, r) → Stops s (commands_by piece all r) → Stops s (case_by piece opens (The_body all value place) ts)
  unfolding commands_by
  case_stops opens all value place s ts r n one stop =
      stops_same s (commands_by piece all r >>= λ y. Ok (Script_case n (items_of y.0), y.1)) (case_by piece opens (The_body all value place) ts)
      (sym (ap (λ s. s >>= λ x. commands_by piece all x.1 >>= λ y. Ok (Script_case x.0 (items_of y.0), y.1)) one))
      (stops_then s (commands_by piece all r) (λ y. Ok (Script_case n (items_of y.0), y.1)) stop)

  -- one command after another: by what each part reads
  parts_join : (r : Read T (List Step)) (d : List T → Read T (Option (Atom ℕ))) (o : Option (Atom ℕ) → List T → Read T (ScriptCases × List (Atom ℕ))) (m : List T → Read T (List Item)) →
      (r >>= λ x. d x.1 >>= λ y. o y.0 y.1 >>= λ z. m z.1 >>= λ w. Ok (seen x.0 (Do_item y.0 z.0.0 z.0.1 ∷ w.0), w.1))
      ≡ (((r >>= λ x. Ok (seen x.0 [], x.1)) >>= λ x. d x.1 >>= λ y. o y.0 y.1 >>= λ z. Ok (x.0 ++ Do_item y.0 z.0.0 z.0.1 ∷ [], z.1)) >>= λ v. m v.1 >>= λ w. Ok (v.0 ++ w.0, w.1))
  parts_join (Err e) d o m = refl
  parts_join (Ok x) d o m = from_do (d x.1)
    where
      from_items : (y : Option (Atom ℕ) × List T) (z : (ScriptCases × List (Atom ℕ)) × List T) (q : Read T (List Item)) →
          (q >>= λ w. Ok (seen x.0 (Do_item y.0 z.0.0 z.0.1 ∷ w.0), w.1)) ≡ (q >>= λ w. Ok ((seen x.0 [] ++ Do_item y.0 z.0.0 z.0.1 ∷ []) ++ w.0, w.1))
      from_items y z (Err e) = refl
      from_items y z (Ok w) = ap (λ l. Ok (l, w.1)) (seen_append x.0 (Do_item y.0 z.0.0 z.0.1) w.0)

      from_op : (y : Option (Atom ℕ) × List T) (q : Read T (ScriptCases × List (Atom ℕ))) →
          (q >>= λ z. m z.1 >>= λ w. Ok (seen x.0 (Do_item y.0 z.0.0 z.0.1 ∷ w.0), w.1)) ≡ ((q >>= λ z. Ok (seen x.0 [] ++ Do_item y.0 z.0.0 z.0.1 ∷ [], z.1)) >>= λ v. m v.1 >>= λ w. Ok (v.0 ++ w.0, w.1))
      from_op y (Err e) = refl
      from_op y (Ok z) = from_items y z (m z.1)

      from_do : (q : Read T (Option (Atom ℕ))) →
          (q >>= λ y. o y.0 y.1 >>= λ z. m z.1 >>= λ w. Ok (seen x.0 (Do_item y.0 z.0.0 z.0.1 ∷ w.0), w.1)) ≡ ((q >>= λ y. o y.0 y.1 >>= λ z. Ok (seen x.0 [] ++ Do_item y.0 z.0.0 z.0.1 ∷ [], z.1)) >>= λ v. m v.1 >>= λ w. Ok (v.0 ++ w.0, w.1))
      from_do (Err e) = refl
      from_do (Ok y) = from_op y (o y.0 y.1)

  pub more_is : (to : ℕ) (op : Op) (place : Place) (rest : Commands) (ts : List T) → commands_by piece (More_commands (The_command to op place) rest) ts ≡ (point_by piece op ts >>= λ v. commands_by piece rest v.1 >>= λ w. Ok (v.0 ++ w.0, w.1))
  unfolding commands_by point_by seen_at
  more_is to op place rest ts = parts_join (steps_at piece ts) (do_at piece) (op_by piece op) (commands_by piece rest)

  front_moved : (front more : List Item) (r : Read T (List Item)) → with_front front (r >>= λ w. Ok (more ++ w.0, w.1)) ≡ with_front (front ++ more) r
  front_moved front more (Ok x) = ap (λ l. Ok (l, x.1)) (sym (append_assoc front more x.0))
  front_moved front more (Err e) = refl

  -- the loop goes on with the next command
  pub command_read : (to : ℕ) (op : Op) (place : Place) (rest : Commands) (front more : List Item) (ts q : List T) → point_by piece op ts ≡ Ok (more, q) →
      with_front front (commands_by piece (More_commands (The_command to op place) rest) ts) ≡ with_front (front ++ more) (commands_by piece rest q)
  command_read to op place rest front more ts q one =
      ap (with_front front) (more_is to op place rest ts ∙ ap (λ s. s >>= λ v. commands_by piece rest v.1 >>= λ w. Ok (v.0 ++ w.0, w.1)) one) ∙ front_moved front more (commands_by piece rest q)

  -- or stops in it
  pub command_stops : (to : ℕ) (op : Op) (place : Place) (rest : Commands) (front : List Item) (s : Stopped) (ts : List T) → Stops s (point_by piece op ts) → Stops s (with_front front (commands_by piece (More_commands (The_command to op place) rest) ts))
  command_stops to op place rest front s ts stop =
      stops_then s (commands_by piece (More_commands (The_command to op place) rest) ts) (λ x. Ok (front ++ x.0, x.1))
      (stops_same s (point_by piece op ts >>= λ v. commands_by piece rest v.1 >>= λ w. Ok (v.0 ++ w.0, w.1)) (commands_by piece (More_commands (The_command to op place) rest) ts) (sym (more_is to op place rest ts))
      (stops_then s (point_by piece op ts) (λ v. commands_by piece rest v.1 >>= λ w. Ok (v.0 ++ w.0, w.1)) stop))

  pub point_done : (op : Op) (ts r q w : List T) (front : List Item) (uses : Option (Atom ℕ)) (b : ScriptCases × List (Atom ℕ)) →
      seen_at piece ts ≡ Ok (front, r) → do_at piece r ≡ Ok (uses, q) → op_by piece op uses q ≡ Ok (b, w) → point_by piece op ts ≡ Ok (front ++ Do_item uses b.0 b.1 ∷ [], w)
  unfolding point_by
  point_done op ts r q w front uses b one two three =
      ap (λ s. s >>= λ x. do_at piece x.1 >>= λ y. op_by piece op y.0 y.1 >>= λ z. Ok (x.0 ++ Do_item y.0 z.0.0 z.0.1 ∷ [], z.1)) one
      ∙ ap (λ s. s >>= λ y. op_by piece op y.0 y.1 >>= λ z. Ok (front ++ Do_item y.0 z.0.0 z.0.1 ∷ [], z.1)) two
      ∙ ap (λ s. s >>= λ z. Ok (front ++ Do_item uses z.0.0 z.0.1 ∷ [], z.1)) three

  -- the steps of the end, and `end`
  last_is : (ts : List T) → commands_by piece No_commands ts ≡ (seen_at piece ts >>= λ x. end_at piece x.1 >>= λ y. Ok (x.0, y.1))
  unfolding commands_by seen_at end_at
  last_is ts = by_steps (steps_at piece ts)
    where
      by_end : (ss : List Step) (q : Read T T) → (q >>= λ y. Ok (seen ss [], y.1)) ≡ ((q >>= λ y. Ok (tt {0}, y.1)) >>= λ y. Ok (seen ss [], y.1))
      by_end ss (Err e) = refl
      by_end ss (Ok y) = refl

      by_steps : (r : Read T (List Step)) → (r >>= λ x. token_at (line piece ends) x.1 >>= λ y. Ok (seen x.0 [], y.1)) ≡ ((r >>= λ x. Ok (seen x.0 [], x.1)) >>= λ x. (token_at (line piece ends) x.1 >>= λ y. Ok (tt {0}, y.1)) >>= λ y. Ok (x.0, y.1))
      by_steps (Err e) = refl
      by_steps (Ok x) = by_end x.0 (token_at (line piece ends) x.1)

  pub last_done : (front more : List Item) (ts r q : List T) → seen_at piece ts ≡ Ok (more, r) → end_at piece r ≡ Ok (tt, q) → with_front front (commands_by piece No_commands ts) ≡ Ok (front ++ more, q)
  last_done front more ts r q one two = ap (with_front front) (last_is ts ∙ ap (λ s. s >>= λ x. end_at piece x.1 >>= λ y. Ok (x.0, y.1)) one ∙ ap (λ s. s >>= λ y. Ok (more, y.1)) two)

  pub last_unseen : (front : List Item) (s : Stopped) (ts : List T) → Stops s (seen_at piece ts) → Stops s (with_front front (commands_by piece No_commands ts))
  last_unseen front s ts stop = stops_then s (commands_by piece No_commands ts) (λ x. Ok (front ++ x.0, x.1))
      (stops_same s (seen_at piece ts >>= λ x. end_at piece x.1 >>= λ y. Ok (x.0, y.1)) (commands_by piece No_commands ts) (sym (last_is ts)) (stops_then s (seen_at piece ts) (λ x. end_at piece x.1 >>= λ y. Ok (x.0, y.1)) stop))

  pub last_unended : (front more : List Item) (s : Stopped) (ts r : List T) → seen_at piece ts ≡ Ok (more, r) → Stops s (end_at piece r) → Stops s (with_front front (commands_by piece No_commands ts))
  last_unended front more s ts r one stop = stops_then s (commands_by piece No_commands ts) (λ x. Ok (front ++ x.0, x.1))
      (stops_same s (end_at piece r >>= λ y. Ok (more, y.1)) (commands_by piece No_commands ts) (sym (last_is ts ∙ ap (λ s. s >>= λ x. end_at piece x.1 >>= λ y. Ok (x.0, y.1)) one)) (stops_then s (end_at piece r) (λ y. Ok (more, y.1)) stop))
