use Rattle.std.proofs.Common.{◌≡◌, ℕ, ◌-◌, ◌/◌, ◌%◌, ◌^◌, ◌≤◌, length, get_or, nat_eq, arith, ap, sym}
use Rattle.mz_names.specs.Turns.{turn}
use Rattle.mz_names.proofs.Turned.{unset_past}
use Rattle.mz_names.proofs.tree.turns.Goals as goal

pub returns-then-at-text : goal.returns-then-at-text
unfolding turn
returns-then-at-text c =
    let same : c.saturating_sub-fork.result ≡ 512 - c.args.left = c.saturating_sub-fork.ensures in
    ap (λ (s : ℕ). nat_eq (get_or c.args.text.now (s / 8) 0 / 2 ^ (s % 8) % 2) 1) same

pub returns-else-at-text : goal.returns-else-at-text
returns-else-at-text c =
    let same : c.saturating_sub-fork.result ≡ 512 - c.args.left = c.saturating_sub-fork.ensures in
    let past : length c.args.text.now ≤ (512 - c.args.left) / 8 = omega arith in
    sym (unset_past c.args.left c.args.text.now past)
