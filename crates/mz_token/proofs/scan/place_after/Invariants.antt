use Rattle.std.proofs.Common.{◌≡◌, ◌+◌, ◌≤◌, ◌++◌, ℕ, List, take}
use Rattle.mz_token.specs.Places.{place_of}
use Rattle.mz_token.proofs.scan.place_after.Given as goal

abbrev pub invariant-loop-byte : goal.invariant-loop-byte
invariant-loop-byte l = record {
  line : l.after.line ≤ l.fn.place.line + l.byte-index;
  col : l.after.col ≤ l.fn.place.col + l.byte-index;
  here : (before : List ℕ) → l.fn.place ≡ place_of before → l.after ≡ place_of (before ++ take l.byte-index l.text);
}
