-- The longest run of bytes that pass a test is the longest piece where the shape of a text is decided by that test.
use Rattle.std.proofs.Common.{ℕ, get_or, ◌+◌, ◌<◌, Bool, true, false, cond, ◌&&◌, List, [], ◌∷◌, ◌++◌, ◌≡◌, length, take, drop, Option, Some, None, refl, sym, ap, ◌∙◌, subst, one-add, append-nil, take-append-drop, arith}
use Rattle.std.proofs.lemmas.List.Folds.{list_all-append, length-prefix_len}
use Rattle.std.specs.List.{list_all, prefix_len}
use Rattle.mz_token.specs.declared.token.Kind.{Kind}
use Rattle.mz_token.specs.Shapes.{IsLongest, IsLawful, kind_of}
use Rattle.mz_tree.specs.Shapes.{Shape, begins, whole, shape_of}
use Rattle.mz_token.specs.Lexes.{Over}
use Rattle.mz_token.specs.Fronts.{BeginsWith}

-- the run at the front of a text
abbrev pub run : (ℕ → Bool) → List ℕ → List ℕ
run test bytes = take (prefix_len test bytes) bytes

-- what follows it
abbrev pub after_run : (ℕ → Bool) → List ℕ → List ℕ
after_run test bytes = drop (prefix_len test bytes) bytes

passes_by : (test : ℕ → Bool) (b n : ℕ) (bytes : List ℕ) (v : Bool) → test b ≡ v → list_all test (take n bytes) ≡ true → list_all test (take (cond v (1 + n) 0) (b ∷ bytes)) ≡ true
passes_by test b n bytes true h others = rw one-add (rw h others)
passes_by test b n bytes false h others = refl

-- each byte of the run passes, since the run stops before the first that doesn't
pub run_passes : (test : ℕ → Bool) (bytes : List ℕ) → list_all test (run test bytes) ≡ true
run_passes test [] = refl
run_passes test (b ∷ bytes) = passes_by test b (prefix_len test bytes) bytes (test b) refl (run_passes test bytes)

stops_by : (test : ℕ → Bool) (b n : ℕ) (bytes : List ℕ) (v : Bool) → test b ≡ v → begins test (drop n bytes) ≡ false → begins test (drop (cond v (1 + n) 0) (b ∷ bytes)) ≡ false
stops_by test b n bytes true h others = rw one-add others
stops_by test b n bytes false h others = h

-- and what follows the run doesn't begin with one that passes
pub run_stops : (test : ℕ → Bool) (bytes : List ℕ) → begins test (after_run test bytes) ≡ false
run_stops test [] = refl
run_stops test (b ∷ bytes) = stops_by test b (prefix_len test bytes) bytes (test b) refl (run_stops test bytes)

-- a run that isn't empty begins as the text does
pub run_begins : (p test : ℕ → Bool) (bytes more : List ℕ) → begins test bytes ≡ true → begins p (run test bytes ++ more) ≡ begins p bytes
run_begins p test [] more h = absurd (cc)
run_begins p test (b ∷ bytes) more h = rw (h, one-add)

-- a text whose bytes don't all pass has not this shape
broken : (test : ℕ → Bool) (shape : Shape) (text more others rest : List ℕ) → rest ≡ more ++ others → 0 < length more → begins test rest ≡ false → whole test shape (text ++ more) ≡ None
broken test shape text [] others rest split some stops = absurd (omega arith)
broken test shape text (c ∷ more) others rest split some stops =
    let c_fails : test c ≡ false = ap (begins test) (sym split) ∙ stops in
    rw (list_all-append, c_fails) (no_more (list_all test text))
  where
    no_more : (v : Bool) → cond (v && false) (Some shape) None ≡ None
    no_more true = refl
    no_more false = refl

-- the run is the longest where a front of the text, and more, has this shape just where all its bytes pass
pub run_longest : (test : ℕ → Bool) (shape : Shape) (bytes : List ℕ) → ((more : List ℕ) → shape_of (run test bytes ++ more) ≡ whole test shape (run test bytes ++ more)) → IsLongest shape (run test bytes) (after_run test bytes)
run_longest test shape bytes decided = record {
  shaped = subst (λ text. shape_of text ≡ Some shape) (append-nil (run test bytes)) (decided [] ∙ all_pass);
  longest = λ more others split some. decided more ∙ broken test shape (run test bytes) more others (after_run test bytes) split some (run_stops test bytes);
}
  where
    all_pass : whole test shape (run test bytes ++ []) ≡ Some shape
    all_pass = rw append-nil (rw (run_passes test bytes) refl)

-- so the text begins with it
pub run_found : (test : ℕ → Bool) (shape : Shape) (bytes : List ℕ) (kind : Option Kind) (size : ℕ) → ((more : List ℕ) → shape_of (run test bytes ++ more) ≡ whole test shape (run test bytes ++ more)) → IsLawful shape (run test bytes) → kind ≡ kind_of shape (run test bytes) → size ≡ prefix_len test bytes → BeginsWith bytes kind size
run_found test shape bytes kind size decided lawful same_kind same_size = record {
  piece = record { shape = shape; text = run test bytes };
  rest = after_run test bytes;
  split = sym (take-append-drop (prefix_len test bytes) bytes);
  stands = record { longest = run_longest test shape bytes decided; lawful = lawful };
  same_kind = same_kind;
  same_size = same_size ∙ sym (length-prefix_len test bytes);
}

-- or it is over a limit
pub run_over : (test : ℕ → Bool) (shape : Shape) (bytes : List ℕ) (IsOver : Shape → List ℕ → Type 0) → ((more : List ℕ) → shape_of (run test bytes ++ more) ≡ whole test shape (run test bytes ++ more)) → IsOver shape (run test bytes) → Over IsOver bytes
run_over test shape bytes IsOver decided over = record {
  shape = shape;
  text = run test bytes;
  others = after_run test bytes;
  split = sym (take-append-drop (prefix_len test bytes) bytes);
  longest = run_longest test shape bytes decided;
  over = over;
}

-- ---- what the code tells of its calls

-- the first byte of a text that has one
pub first_is : (test : ℕ → Bool) (bytes : List ℕ) (r v : Bool) → 0 < length bytes → r ≡ test (get_or bytes 0 0) → r ≡ v → begins test bytes ≡ v
first_is test [] r v some told is = absurd (omega arith)
first_is test (b ∷ bytes) r v some told is = sym told ∙ is

-- a front as long as the run is the run
pub front_is_run : (test : ℕ → Bool) (bytes : List ℕ) (size : ℕ) → size ≡ prefix_len test bytes → take size bytes ≡ run test bytes
front_is_run test bytes size same = ap (λ n. take n bytes) same
