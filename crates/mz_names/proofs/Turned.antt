-- The bits of a name.
use Rattle.std.proofs.Common.{◌≡◌, ℕ, ◌-◌, ◌/◌, ◌%◌, ◌^◌, ◌≤◌, false, List, length, get_or, nat_eq, ap, ◌∙◌}
use Rattle.std.proofs.lemmas.List.{get_or_past}
use Rattle.std.proofs.Math.Nat.{zero-div}
use Rattle.mz_names.specs.Turns.{turn}

-- behind a name's end the byte is 0, of which each bit is unset
pub unset_past : (left : ℕ) (name : List ℕ) → length name ≤ (512 - left) / 8 → turn left name ≡ false
unfolding turn
unset_past left name past =
    ap (λ (b : ℕ). nat_eq (b / 2 ^ ((512 - left) % 8) % 2) 1) (get_or_past name ((512 - left) / 8) 0 past) ∙ ap (λ (b : ℕ). nat_eq (b % 2) 1) (zero-div (2 ^ ((512 - left) % 8)))
