-- The scripts of functions as the code reads them, one by one.
use Rattle.std.proofs.Common.{◌≡◌, ℕ, zero, suc, ◌<◌, ◌≤◌, ◌+◌, List, [], ◌∷◌, ◌++◌, length, map, drop, get_or, Ok, Err, refl, sym, ap, ◌∙◌, append_assoc, append-nil, arith}
use Rattle.std.proofs.lemmas.List.{drop_more}
use Rattle.mz_grammar.specs.Reading.{Read, ◌>>=◌, token_at}
use Rattle.mz_grammar.specs.Answers.{Stopped, Stops}
use Rattle.mz_grammar.proofs.Loops.{with_front}
use Rattle.mz_tree.specs.Programs.{Fun}
use Rattle.mz_tree.specs.Code.{Commands}
use Rattle.mz_tree.specs.View.{plain_fun}
use Rattle.mz_tree.specs.declared.program.Fun.{Fun as CodeFun}
use Rattle.mz_deriv.specs.Scripts.{Item}
use Rattle.mz_script.specs.Pieces.{Piece}
use Rattle.mz_script.specs.Places.{begins_fun, body_commands, heads, line}
use Rattle.mz_script.specs.Reading.{commands_by, fun_at, fun_by, funs_by, head_at, script_by}
use Rattle.mz_script.proofs.Bodies.{stops_then, stops_same}

-- the functions that are left begin with the next
pub next_funs : (funs : List CodeFun) (i : ℕ) (f : CodeFun) → i < length funs → f ≡ get_or funs i f → map plain_fun (drop i funs) ≡ plain_fun f ∷ map plain_fun (drop (i + 1) funs)
next_funs funs i f within here = ap (map plain_fun) (drop_more funs i f within) ∙ ap (λ g. plain_fun g ∷ map plain_fun (drop (i + 1) funs)) (sym here)

pub no_funs : (funs : List CodeFun) (i : ℕ) → length funs ≤ i → map plain_fun (drop i funs) ≡ []
no_funs [] zero le = refl
no_funs [] (suc i) le = refl
no_funs (f ∷ funs) zero le = absurd (omega arith)
no_funs (f ∷ funs) (suc i) le = no_funs funs i (omega arith)

module _ {T : Type 0} (piece : T → Piece) where
  -- one function, and then the others
  funs_is : (f : Fun) (rest : List Fun) (ts : List T) → funs_by piece (f ∷ rest) ts ≡ (fun_by piece f ts >>= λ x. funs_by piece rest x.1 >>= λ y. Ok (x.0 ∷ y.0, y.1))
  unfolding funs_by fun_by fun_at
  funs_is f rest ts = by_line (token_at (line piece (begins_fun f.name)) ts)
    where
      by_line : (r : Read T T) → (r >>= λ t. commands_by piece (body_commands f.body) t.1 >>= λ x. funs_by piece rest x.1 >>= λ y. Ok (x.0 ∷ y.0, y.1)) ≡
          (((r >>= λ t. Ok (tt {0}, t.1)) >>= λ t. commands_by piece (body_commands f.body) t.1) >>= λ x. funs_by piece rest x.1 >>= λ y. Ok (x.0 ∷ y.0, y.1))
      by_line (Err e) = refl
      by_line (Ok t) = refl

  -- one function: its line, and its commands
  fun_is : (f : Fun) (ts : List T) → fun_by piece f ts ≡ (fun_at piece f.name ts >>= λ t. commands_by piece (body_commands f.body) t.1)
  unfolding fun_by
  fun_is f ts = refl

  behind_line : (f : Fun) (all : Commands) (ts r : List T) → body_commands f.body ≡ all → fun_at piece f.name ts ≡ Ok (tt {0}, r) → fun_by piece f ts ≡ commands_by piece all r
  behind_line f all ts r same one = fun_is f ts ∙ ap (λ s. s >>= λ t. commands_by piece (body_commands f.body) t.1) one ∙ ap (λ c. commands_by piece c r) same

  pub fun_done : (f : Fun) (all : Commands) (ts r q : List T) (items : List Item) → body_commands f.body ≡ all → fun_at piece f.name ts ≡ Ok (tt {0}, r) → commands_by piece all r ≡ Ok (items, q) → fun_by piece f ts ≡ Ok (items, q)
  fun_done f all ts r q items same one two = behind_line f all ts r same one ∙ two

  pub fun_ends : (f : Fun) (all : Commands) (s : Stopped) (ts r : List T) → body_commands f.body ≡ all → fun_at piece f.name ts ≡ Ok (tt {0}, r) → Stops s (commands_by piece all r) → Stops s (fun_by piece f ts)
  fun_ends f all s ts r same one stop = stops_same s (commands_by piece all r) (fun_by piece f ts) (sym (behind_line f all ts r same one)) stop

  moved : (front : List (List Item)) (one : List Item) (r : Read T (List (List Item))) → with_front front (r >>= λ y. Ok (one ∷ y.0, y.1)) ≡ with_front (front ++ one ∷ []) r
  moved front one (Ok x) = ap (λ l. Ok (l, x.1)) (sym (append_assoc front (one ∷ []) x.0))
  moved front one (Err e) = refl

  -- the loop goes on with the next function
  pub fun_read : (f : Fun) (rest : List Fun) (front : List (List Item)) (one : List Item) (ts q : List T) → fun_by piece f ts ≡ Ok (one, q) → with_front front (funs_by piece (f ∷ rest) ts) ≡ with_front (front ++ one ∷ []) (funs_by piece rest q)
  fun_read f rest front one ts q e = ap (with_front front) (funs_is f rest ts ∙ ap (λ r. r >>= λ x. funs_by piece rest x.1 >>= λ y. Ok (x.0 ∷ y.0, y.1)) e) ∙ moved front one (funs_by piece rest q)

  -- or stops in it
  pub fun_stops : (f : Fun) (rest : List Fun) (front : List (List Item)) (s : Stopped) (ts : List T) → Stops s (fun_by piece f ts) → Stops s (with_front front (funs_by piece (f ∷ rest) ts))
  fun_stops f rest front s ts stop =
      stops_then s (funs_by piece (f ∷ rest) ts) (λ x. Ok (front ++ x.0, x.1))
      (stops_same s (fun_by piece f ts >>= λ x. funs_by piece rest x.1 >>= λ y. Ok (x.0 ∷ y.0, y.1)) (funs_by piece (f ∷ rest) ts) (sym (funs_is f rest ts)) (stops_then s (fun_by piece f ts) (λ x. funs_by piece rest x.1 >>= λ y. Ok (x.0 ∷ y.0, y.1)) stop))

  -- no function is left
  pub funs_done : (front : List (List Item)) (ts : List T) → with_front front (funs_by piece [] ts) ≡ Ok (front, ts)
  unfolding funs_by
  funs_done front ts = ap (λ l. Ok (l, ts)) (append-nil front)

  -- the first line, and then the functions
  pub front_is : (funs : List Fun) (ts : List T) → script_by piece funs ts ≡ (head_at piece ts >>= λ t. funs_by piece funs t.1)
  unfolding head_at
  front_is funs ts = by_line (token_at (line piece heads) ts)
    where
      by_line : (r : Read T T) → (r >>= λ t. funs_by piece funs t.1) ≡ ((r >>= λ t. Ok (tt {0}, t.1)) >>= λ t. funs_by piece funs t.1)
      by_line (Err e) = refl
      by_line (Ok t) = refl
