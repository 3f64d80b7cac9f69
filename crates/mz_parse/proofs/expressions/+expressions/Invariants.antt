use Rattle.std.proofs.Common.{◌≡◌, length, suc, ◌-◌, ◌+◌, ◌*◌}
use Rattle.mz_grammar.specs.Reading.{many_at, rounds_at}
use Rattle.mz_grammar.proofs.Loops.{with_front, with_front2}
use Rattle.mz_types.specs.Words.{upper, mark}
use Rattle.mz_parse.specs.Grammar.{multiplying, adding}
use Rattle.mz_parse.specs.BodyReading.{next_at, argument_by, value_by, case_by, round_by, factor_by, term_by, within}
use Rattle.mz_parse.proofs.expressions.+expressions.Given as goal

-- each call enters a bracket, or goes on to a smaller part
abbrev pub decreases-call : goal.decreases-call
decreases-call l = 32 * l.depth + 1

abbrev pub decreases-group : goal.decreases-group
decreases-group l = 32 * l.depth + 1

abbrev pub decreases-construct : goal.decreases-construct
decreases-construct l = 32 * l.depth + 1

abbrev pub decreases-block : goal.decreases-block
decreases-block l = 32 * l.depth + 1

abbrev pub decreases-spawn : goal.decreases-spawn
decreases-spawn l = 32 * l.depth + 1

abbrev pub decreases-named : goal.decreases-named
decreases-named l = 32 * l.depth + 2

abbrev pub decreases-primary : goal.decreases-primary
decreases-primary l = 32 * l.depth + 3

abbrev pub decreases-postfix : goal.decreases-postfix
decreases-postfix l = 32 * l.depth + 4

abbrev pub decreases-factor : goal.decreases-factor
decreases-factor l = 32 * l.depth + 5

abbrev pub decreases-factors : goal.decreases-factors
decreases-factors l = 32 * l.depth + 6

abbrev pub decreases-product_rest : goal.decreases-product_rest
decreases-product_rest l = 32 * l.depth + 7

abbrev pub decreases-product : goal.decreases-product
decreases-product l = 32 * l.depth + 8

abbrev pub decreases-term : goal.decreases-term
decreases-term l = 32 * l.depth + 9

abbrev pub decreases-terms : goal.decreases-terms
decreases-terms l = 32 * l.depth + 10

abbrev pub decreases-sum_rest : goal.decreases-sum_rest
decreases-sum_rest l = 32 * l.depth + 11

abbrev pub decreases-sum : goal.decreases-sum
decreases-sum l = 32 * l.depth + 12

abbrev pub decreases-comparing_sum : goal.decreases-comparing_sum
decreases-comparing_sum l = 32 * l.depth + 13

abbrev pub decreases-maybe_comparing : goal.decreases-maybe_comparing
decreases-maybe_comparing l = 32 * l.depth + 14

abbrev pub decreases-comparison_rest : goal.decreases-comparison_rest
decreases-comparison_rest l = 32 * l.depth + 15

abbrev pub decreases-comparison : goal.decreases-comparison
decreases-comparison l = 32 * l.depth + 16

abbrev pub decreases-plain : goal.decreases-plain
decreases-plain l = 32 * l.depth + 16

abbrev pub decreases-write : goal.decreases-write
decreases-write l = 32 * l.depth + 17

abbrev pub decreases-simple : goal.decreases-simple
decreases-simple l = 32 * l.depth + 18

abbrev pub decreases-print : goal.decreases-print
decreases-print l = 32 * l.depth + 17

abbrev pub decreases-if_else : goal.decreases-if_else
decreases-if_else l = 32 * l.depth + 17

abbrev pub decreases-match_cases : goal.decreases-match_cases
decreases-match_cases l = 32 * l.depth + 1

abbrev pub decreases-expression : goal.decreases-expression
decreases-expression l = 32 * l.depth + 19

-- inside a bracket, which is counted already, what stands there whole comes next
abbrev pub decreases-argument : goal.decreases-argument
decreases-argument l = 32 * l.inside + 20

abbrev pub decreases-next_argument : goal.decreases-next_argument
decreases-next_argument l = 32 * l.inside + 21

abbrev pub decreases-next_arguments : goal.decreases-next_arguments
decreases-next_arguments l = 32 * l.inside + 22

abbrev pub decreases-arguments : goal.decreases-arguments
decreases-arguments l = 32 * l.inside + 23

abbrev pub decreases-grouped : goal.decreases-grouped
decreases-grouped l = 32 * l.inside + 21

abbrev pub decreases-value : goal.decreases-value
decreases-value l = 32 * l.inside + 21

abbrev pub decreases-next_value : goal.decreases-next_value
decreases-next_value l = 32 * l.inside + 22

abbrev pub decreases-next_values : goal.decreases-next_values
decreases-next_values l = 32 * l.inside + 23

abbrev pub decreases-values : goal.decreases-values
decreases-values l = 32 * l.inside + 24

abbrev pub decreases-let_item : goal.decreases-let_item
decreases-let_item l = 32 * l.inside + 21

abbrev pub decreases-item : goal.decreases-item
decreases-item l = 32 * l.inside + 22

abbrev pub decreases-item_round : goal.decreases-item_round
decreases-item_round l = 32 * l.inside + 23

abbrev pub decreases-items : goal.decreases-items
decreases-items l = 32 * l.inside + 24

abbrev pub decreases-case : goal.decreases-case
decreases-case l = 32 * l.inside + 20

abbrev pub decreases-next_cases : goal.decreases-next_cases
decreases-next_cases l = 32 * l.inside + 21

abbrev pub decreases-cases : goal.decreases-cases
decreases-cases l = 32 * l.inside + 22

-- what a loop has so far, before what the reader on lists still reads, is what it reads in all
abbrev pub invariant-next_arguments-loop-i : goal.invariant-next_arguments-loop-i
invariant-next_arguments-loop-i l = with_front l.items (many_at (mark 6) (next_at (mark 6) (argument_by (within (suc l.inside)))) (length l.tokens - l.i) l.rest) ≡ many_at (mark 6) (next_at (mark 6) (argument_by (within (suc l.inside)))) (length l.tokens) l.tokens

abbrev pub invariant-next_values-loop-i : goal.invariant-next_values-loop-i
invariant-next_values-loop-i l = with_front l.items (many_at (mark 4) (next_at (mark 4) (value_by (within (suc l.inside)))) (length l.tokens - l.i) l.rest) ≡ many_at (mark 4) (next_at (mark 4) (value_by (within (suc l.inside)))) (length l.tokens) l.tokens

abbrev pub invariant-factors-loop-i : goal.invariant-factors-loop-i
invariant-factors-loop-i l = with_front l.items (many_at multiplying (factor_by l.depth (within l.depth)) (length l.tokens - l.i) l.rest) ≡ many_at multiplying (factor_by l.depth (within l.depth)) (length l.tokens) l.tokens

abbrev pub invariant-terms-loop-i : goal.invariant-terms-loop-i
invariant-terms-loop-i l = with_front l.items (many_at adding (term_by l.depth (within l.depth)) (length l.tokens - l.i) l.rest) ≡ many_at adding (term_by l.depth (within l.depth)) (length l.tokens) l.tokens

abbrev pub invariant-next_cases-loop-i : goal.invariant-next_cases-loop-i
invariant-next_cases-loop-i l = with_front l.items (many_at upper (case_by (within (suc l.inside))) (length l.tokens - l.i) l.rest) ≡ many_at upper (case_by (within (suc l.inside))) (length l.tokens) l.tokens

abbrev pub invariant-items-loop-i : goal.invariant-items-loop-i
invariant-items-loop-i l = with_front2 l.items (rounds_at (round_by (within (suc l.inside))) (length l.tokens - l.i) l.rest) ≡ rounds_at (round_by (within (suc l.inside))) (length l.tokens) l.tokens
