-- How the parts of an input are found: line by line, up to the first head of a script.
use Rattle.std.proofs.Common.{◌≡◌, ◌==◌, ℕ, zero, suc, ◌+◌, ◌-◌, ◌<◌, ◌≤◌, Bool, true, false, List, [], ◌∷◌, ◌++◌, length, take, drop, slice_index_or, refl, sym, ap, subst, ◌∙◌, arith, append-nil, append_assoc, length-append, eqb-true, if◌then◌else◌}
use Rattle.std.specs.Str.{bytes_eq}
use Rattle.mz_script.proofs.Naming.{same_text, text_same, differ}
use Rattle.mz_script.specs.Cutting.{before_first, lines}
use Rattle.mz_script.proofs.Cuts.{NoEnd, cut_at}
use Rattle.mz_cli.specs.Inputs.{head_line, before_head, from_head, text_of, source_part, script_part}

-- ---- lines put together again

text_before : (b : ℕ) (ls : List (List ℕ)) → text_of (before_first b ls) ≡ b ∷ text_of ls
text_before b [] = refl
text_before b (line ∷ rest) = refl

text_lines : (bytes : List ℕ) → text_of (lines bytes) ≡ bytes
text_lines [] = refl
text_lines (b ∷ bytes) = by_end (b == 10) refl (text_lines bytes)
  where
    by_end : (t : Bool) → (b == 10) ≡ t → text_of (lines bytes) ≡ bytes → text_of (if t then (10 ∷ []) ∷ lines bytes else before_first b (lines bytes)) ≡ b ∷ bytes
    by_end true is rest = ap (λ (n : ℕ). n ∷ text_of (lines bytes)) (sym (eqb-true b 10 is)) ∙ ap (λ l. b ∷ l) rest
    by_end false is rest = text_before b (lines bytes) ∙ ap (λ l. b ∷ l) rest

-- ---- what one line comes to

-- a head
pub at_head : (bytes line rest : List ℕ) → lines bytes ≡ line ∷ lines rest → bytes_eq line head_line ≡ true → (source_part bytes ≡ []) × (script_part bytes ≡ bytes)
at_head bytes line rest cut head = (
  ap (λ ls. text_of (before_head ls)) cut ∙ ap (λ t. text_of (if t then [] else line ∷ before_head (lines rest))) head,
  ap (λ ls. text_of (from_head ls)) cut ∙ ap (λ t. text_of (if t then line ∷ lines rest else from_head (lines rest))) head ∙ ap text_of (sym cut) ∙ text_lines bytes,
)

-- another line
pub at_line : (bytes line rest : List ℕ) → lines bytes ≡ line ∷ lines rest → bytes_eq line head_line ≡ false → (source_part bytes ≡ line ++ source_part rest) × (script_part bytes ≡ script_part rest)
at_line bytes line rest cut other = (
  ap (λ ls. text_of (before_head ls)) cut ∙ ap (λ t. text_of (if t then [] else line ∷ before_head (lines rest))) other,
  ap (λ ls. text_of (from_head ls)) cut ∙ ap (λ t. text_of (if t then line ∷ lines rest else from_head (lines rest))) other,
)

-- a last line without its end, or none
one_line : (b : ℕ) (front : List ℕ) → NoEnd (b ∷ front) → lines (b ∷ front) ≡ (b ∷ front) ∷ []
one_line b [] (e, h) = ap (λ t. if t then (10 ∷ []) ∷ [] else (b ∷ []) ∷ []) e
one_line b (c ∷ front) (e, h) = ap (λ t. if t then (10 ∷ []) ∷ lines (c ∷ front) else before_first b (lines (c ∷ front))) e ∙ ap (before_first b) (one_line c front h)

-- the head ends a line
ends_none : (front : List ℕ) → NoEnd front → bytes_eq front head_line ≡ false
ends_none front h = not_true (bytes_eq front head_line) (λ same. clash (subst NoEnd (same_text front head_line same) h))
  where
    not_true : (t : Bool) → (t ≡ true → ⊥) → t ≡ false
    not_true true never = absurd (never refl)
    not_true false never = refl

    clash : NoEnd head_line → ⊥
    clash (a1, (a2, (a3, (a4, (a5, (a6, (a7, (a8, (a9, (a10, (a11, (a12, (a13, (last, done)))))))))))))) = let wrong : true ≡ false = last in absurd (cc)

pub at_last : (front : List ℕ) → NoEnd front → (source_part front ≡ front) × (script_part front ≡ [])
at_last [] h = (refl, refl)
at_last (b ∷ front) h = (
  ap (λ ls. text_of (before_head ls)) (one_line b front h) ∙ ap (λ t. text_of (if t then [] else (b ∷ front) ∷ [])) (ends_none (b ∷ front) h) ∙ append-nil (b ∷ front),
  ap (λ ls. text_of (from_head ls)) (one_line b front h) ∙ ap (λ t. text_of (if t then (b ∷ front) ∷ [] else [])) (ends_none (b ∷ front) h),
)

-- ---- the way through the bytes

-- the line that begins at `start` was read up to `at`, and none before it is a head
pub record Scanned (bytes : List ℕ) (start at : ℕ) : Type 0 where
  pub front : List ℕ
  pub split : drop start bytes ≡ front ++ drop at bytes
  pub none : NoEnd front
  pub long : start + length front ≡ at
  pub within : at ≤ length bytes
  pub source : source_part bytes ≡ take start bytes ++ source_part (drop start bytes)
  pub script : script_part bytes ≡ script_part (drop start bytes)

pub scanned_none : (bytes : List ℕ) → Scanned bytes 0 0
scanned_none bytes = record { front = []; split = refl; none = tt; long = refl; within = omega arith; source = refl; script = refl }

-- what stands at a place
here : (bytes : List ℕ) (at : ℕ) → at < length bytes → drop at bytes ≡ slice_index_or bytes at 0 ∷ drop (suc at) bytes
here [] at inside = absurd (omega (arith, inside))
here (b ∷ bytes) zero inside = refl
here (b ∷ bytes) (suc at) inside = here bytes at (omega (arith, inside))

-- a front is split off
taken : (front rest : List ℕ) → take (length front) (front ++ rest) ≡ front
taken [] rest = refl
taken (b ∷ front) rest = ap (λ l. b ∷ l) (taken front rest)

none_more : (front : List ℕ) (b : ℕ) → NoEnd front → (b == 10) ≡ false → NoEnd (front ++ b ∷ [])
none_more [] b h e = (e, tt)
none_more (c ∷ front) b (d, h) e = (d, none_more front b h e)

pub not_ten : (b : ℕ) → (b ≡ 10 → ⊥) → (b == 10) ≡ false
not_ten b never = by_test (b == 10) refl
  where
    by_test : (t : Bool) → (b == 10) ≡ t → (b == 10) ≡ false
    by_test true is = absurd (never (eqb-true b 10 is))
    by_test false is = is

-- a byte that ends no line
pub scanned_more : (bytes : List ℕ) (start at b : ℕ) → b ≡ slice_index_or bytes at 0 → at < length bytes → (b == 10) ≡ false → Scanned bytes start at → Scanned bytes start (suc at)
scanned_more bytes start at b is inside other s =
    let front = s.front in
    let long = s.long in
    let next : drop at bytes ≡ b ∷ drop (suc at) bytes = here bytes at inside ∙ ap (λ (c : ℕ). c ∷ drop (suc at) bytes) (sym is) in
    record {
      front = front ++ b ∷ [];
      split = s.split ∙ ap (λ l. front ++ l) next ∙ sym (append_assoc front (b ∷ []) (drop (suc at) bytes));
      none = none_more front b s.none other;
      long = omega (arith, long, length-append front (b ∷ []));
      within = omega (arith, inside);
      source = s.source;
      script = s.script;
    }

-- the line that ends there, and its lines
line_here : (bytes : List ℕ) (start at b : ℕ) → b ≡ slice_index_or bytes at 0 → at < length bytes → b ≡ 10 → (s : Scanned bytes start at) → drop start bytes ≡ s.front ++ 10 ∷ drop (suc at) bytes
line_here bytes start at b is inside ends s =
    let front = s.front in
    s.split ∙ ap (λ l. front ++ l) (here bytes at inside ∙ ap (λ (c : ℕ). c ∷ drop (suc at) bytes) (sym is ∙ ends))

pub the_line : (bytes : List ℕ) (start at b : ℕ) → b ≡ slice_index_or bytes at 0 → at < length bytes → b ≡ 10 → (s : Scanned bytes start at) → take (suc at - start) (drop start bytes) ≡ s.front ++ 10 ∷ []
the_line bytes start at b is inside ends s =
    let front = s.front in
    let long = s.long in
    let size : suc at - start ≡ length (front ++ 10 ∷ []) = omega (arith, long, length-append front (10 ∷ [])) in
    let split : drop start bytes ≡ (front ++ 10 ∷ []) ++ drop (suc at) bytes = line_here bytes start at b is inside ends s ∙ sym (append_assoc front (10 ∷ []) (drop (suc at) bytes)) in
    ap (λ (n : ℕ). take n (drop start bytes)) size ∙ ap (take (length (front ++ 10 ∷ []))) split ∙ taken (front ++ 10 ∷ []) (drop (suc at) bytes)

lines_here : (bytes : List ℕ) (start at b : ℕ) → b ≡ slice_index_or bytes at 0 → at < length bytes → b ≡ 10 → (s : Scanned bytes start at) → lines (drop start bytes) ≡ (s.front ++ 10 ∷ []) ∷ lines (drop (suc at) bytes)
lines_here bytes start at b is inside ends s = ap lines (line_here bytes start at b is inside ends s) ∙ cut_at s.front (drop (suc at) bytes) s.none

-- both parts, where the script begins at that place
pub record Begins (bytes : List ℕ) (at : ℕ) : Type 0 where
  pub within : at ≤ length bytes
  pub source : take at bytes ≡ source_part bytes
  pub script : drop at bytes ≡ script_part bytes

-- the line that ends there by its bytes
line_is : (bytes : List ℕ) (start at b : ℕ) → b ≡ slice_index_or bytes at 0 → at < length bytes → b ≡ 10 → (s : Scanned bytes start at) → take (at + 1 - start) (drop start bytes) ≡ s.front ++ 10 ∷ []
line_is bytes start at b is inside ends s =
    let size : at + 1 - start ≡ suc at - start = omega arith in
    ap (λ (n : ℕ). take n (drop start bytes)) size ∙ the_line bytes start at b is inside ends s

-- it is a head
pub begins_here : (bytes : List ℕ) (start at b : ℕ) → b ≡ slice_index_or bytes at 0 → at < length bytes → b ≡ 10 → take (at + 1 - start) (drop start bytes) ≡ head_line → Scanned bytes start at → Begins bytes start
begins_here bytes start at b is inside ends same s =
    let line = s.front ++ 10 ∷ [] in
    let long = s.long in
    let head : bytes_eq line head_line ≡ true = text_same line head_line (sym (line_is bytes start at b is inside ends s) ∙ same) in
    let both = at_head (drop start bytes) line (drop (suc at) bytes) (lines_here bytes start at b is inside ends s) head in
    record {
      within = omega (arith, inside, long);
      source = sym (s.source ∙ ap (λ l. take start bytes ++ l) both.0 ∙ append-nil (take start bytes));
      script = sym (s.script ∙ both.1);
    }

none_taken : (n : ℕ) → take {A = ℕ} n [] ≡ []
none_taken zero = refl
none_taken (suc n) = refl

-- what was read before, and a line
two_takes : (n m : ℕ) (xs : List ℕ) → take n xs ++ take m (drop n xs) ≡ take (n + m) xs
two_takes zero m xs = ap (λ (k : ℕ). take k xs) (omega arith)
two_takes (suc n) m [] = none_taken m ∙ sym (none_taken (suc n + m))
two_takes (suc n) m (x ∷ xs) =
    let size : suc (n + m) ≡ suc n + m = omega arith in
    ap (λ l. x ∷ l) (two_takes n m xs) ∙ ap (λ (k : ℕ). take k (x ∷ xs)) size

joined : (bytes : List ℕ) (start at : ℕ) (front : List ℕ) → start + length front ≡ at → take (suc at - start) (drop start bytes) ≡ front ++ 10 ∷ [] → take start bytes ++ (front ++ 10 ∷ []) ≡ take (suc at) bytes
joined bytes start at front long line =
    let size : start + (suc at - start) ≡ suc at = omega (arith, long) in
    ap (λ l. take start bytes ++ l) (sym line) ∙ two_takes start (suc at - start) bytes ∙ ap (λ (n : ℕ). take n bytes) size

-- it is another line
pub scanned_line : (bytes : List ℕ) (start at b : ℕ) → b ≡ slice_index_or bytes at 0 → at < length bytes → b ≡ 10 → (take (at + 1 - start) (drop start bytes) ≡ head_line → ⊥) → Scanned bytes start at → Scanned bytes (suc at) (suc at)
scanned_line bytes start at b is inside ends never s =
    let front = s.front in
    let line = front ++ 10 ∷ [] in
    let other : bytes_eq line head_line ≡ false = differ line head_line (λ same. never (line_is bytes start at b is inside ends s ∙ same)) in
    let both = at_line (drop start bytes) line (drop (suc at) bytes) (lines_here bytes start at b is inside ends s) other in
    record {
      front = [];
      split = refl;
      none = tt;
      long = omega arith;
      within = omega (arith, inside);
      source = s.source ∙ ap (λ l. take start bytes ++ l) both.0 ∙ sym (append_assoc (take start bytes) line (source_part (drop (suc at) bytes))) ∙ ap (λ l. l ++ source_part (drop (suc at) bytes)) (joined bytes start at front s.long (the_line bytes start at b is inside ends s));
      script = s.script ∙ both.1;
    }

nothing : (bytes : List ℕ) (at : ℕ) → at ≡ length bytes → drop at bytes ≡ []
nothing [] zero last = refl
nothing [] (suc at) last = absurd (omega (arith, last))
nothing (b ∷ bytes) zero last = absurd (omega (arith, last))
nothing (b ∷ bytes) (suc at) last = nothing bytes at (omega (arith, last))

all : (bytes : List ℕ) (at : ℕ) → at ≡ length bytes → take at bytes ≡ bytes
all [] zero last = refl
all [] (suc at) last = absurd (omega (arith, last))
all (b ∷ bytes) zero last = absurd (omega (arith, last))
all (b ∷ bytes) (suc at) last = ap (λ l. b ∷ l) (all bytes at (omega (arith, last)))

whole : (n : ℕ) (bytes : List ℕ) → take n bytes ++ drop n bytes ≡ bytes
whole zero bytes = refl
whole (suc n) [] = refl
whole (suc n) (b ∷ bytes) = ap (λ l. b ∷ l) (whole n bytes)

-- the same places
pub moved : (bytes : List ℕ) (start at begin next : ℕ) → start ≡ begin → at ≡ next → Scanned bytes start at → Scanned bytes begin next
moved bytes start at begin next same there s = subst (λ (b : ℕ). Scanned bytes b next) same (subst (λ (n : ℕ). Scanned bytes start n) there s)

-- no line is left
pub begins_never : (bytes : List ℕ) (start at : ℕ) → at ≡ length bytes → Scanned bytes start at → Begins bytes (length bytes)
begins_never bytes start at last s =
    let front = s.front in
    let left : drop start bytes ≡ front = s.split ∙ ap (λ l. front ++ l) (nothing bytes at last) ∙ append-nil front in
    let both = at_last front s.none in
    let source : source_part bytes ≡ bytes = s.source ∙ ap (λ l. take start bytes ++ l) (ap source_part left ∙ both.0 ∙ sym left) ∙ whole start bytes in
    let script : script_part bytes ≡ [] = s.script ∙ ap script_part left ∙ both.1 in
    record {
      within = omega arith;
      source = all bytes (length bytes) refl ∙ sym source;
      script = nothing bytes (length bytes) refl ∙ sym script;
    }

-- all behind a place
pub all_behind : (n : ℕ) (bytes : List ℕ) → take (length bytes - n) (drop n bytes) ≡ drop n bytes
all_behind zero bytes =
    let size : length bytes - 0 ≡ length bytes = omega arith in
    ap (λ (k : ℕ). take k bytes) size ∙ all bytes (length bytes) refl
all_behind (suc n) [] = none_taken (length {A = ℕ} [] - suc n)
all_behind (suc n) (b ∷ bytes) =
    let size : length (b ∷ bytes) - suc n ≡ length bytes - n = omega arith in
    ap (λ (k : ℕ). take k (drop n bytes)) size ∙ all_behind n bytes
