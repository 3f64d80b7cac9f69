use Rattle.std.proofs.Common.{◌≡◌, ◌==◌, ◌&&◌, not, ℕ, List, drop}
use Rattle.std.specs.List.{list_any}
use Rattle.mz_scope.specs.Names.{ConEntry as PlainCon}
use Rattle.mz_scope.specs.Bodies.{is_number_among}
use Rattle.mz_scope.specs.Tables.{cons_in}
use Rattle.mz_scope.proofs.look_ups.is_one_lacking.Given as goal

-- what is left has one exactly where all of them do
abbrev pub invariant-loop-i : goal.invariant-loop-i
invariant-loop-i l = list_any (λ (c : List ℕ × PlainCon). (c.1.variety == l.variety) && not (is_number_among l.named c.1.number)) (cons_in l.cons)
    ≡ list_any (λ (c : List ℕ × PlainCon). (c.1.variety == l.variety) && not (is_number_among l.named c.1.number)) (cons_in (drop l.i l.cons))
