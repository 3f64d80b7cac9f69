use Rattle.std.proofs.Common.{◌≡◌, ℕ, List, [], ◌∷◌, ◌++◌, map, length, option_map, refl, sym, ap, subst, ◌∙◌, arith}
use Rattle.mz_grammar.proofs.Loops.{with_front}
use Rattle.mz_view.specs.Steps.{plain_step}
use Rattle.mz_deriv.specs.Scripts.{See_item}
use Rattle.mz_script.specs.Cutting.{lines}
use Rattle.mz_deriv.specs.View.{plain_item}
use Rattle.mz_script.specs.Said.{Tells}
use Rattle.mz_script.specs.ReadLines.{piece_of}
use Rattle.mz_script.specs.Said.{plain_line}
use Rattle.mz_tree.specs.View.{plain_program}
use Rattle.mz_script.specs.Reading.{seen_at}
use Rattle.mz_script.proofs.Spelling.{map_append}
use Rattle.mz_script.proofs.Walking.{seen_more, stopped_at, none_left}
use Rattle.mz_script.proofs.read.bodies.steps.Goals as goal

pub returns-in-None : goal.returns-in-None
returns-in-None c =
    let none = subst (λ o. Tells (piece_of (plain_program c.args.program.now)) (option_map (λ x. (plain_line x.0, x.1.now)) o) c.loop.rest.now) c.in-None.is c.in_ok-next.ensures in
    none_left (piece_of (plain_program c.args.program.now)) (map plain_item c.loop.items) (lines c.loop.rest.now) _ (ap lines none) c.loop.invariant.all

pub returns-in-None-as_step : goal.returns-in-None-as_step
returns-in-None-as_step c =
    let it = subst (λ o. Tells (piece_of (plain_program c.args.program.now)) (option_map (λ x. (plain_line x.0, x.1.now)) o) c.loop.rest.now) c.in-Some.is c.in_ok-next.ensures in
    stopped_at (piece_of (plain_program c.args.program.now)) (map plain_item c.loop.items) (lines c.loop.rest.now) (lines c.in-Some.more.now) it.0 (plain_line c.in-Some.line) _ it.1 it.2 (sym c.in-None-as_step.ensures) c.loop.invariant.all

pub loop-preserved : goal.loop-preserved
loop-preserved c =
    let it = subst (λ o. Tells (piece_of (plain_program c.args.program.now)) (option_map (λ x. (plain_line x.0, x.1.now)) o) c.loop.rest.now) c.in-Some.is c.in_ok-next.ensures in
    let more = seen_more (piece_of (plain_program c.args.program.now)) (map plain_item c.loop.items) (lines c.loop.rest.now) (lines c.in-Some.more.now) it.0 (plain_line c.in-Some.line) (plain_step c.in-Some-as_step.step) it.1 it.2 (sym c.in-Some-as_step.ensures) in
    let pushed : map plain_item c.push.new.self ≡ map plain_item c.loop.items ++ See_item (plain_step c.in-Some-as_step.step) ∷ [] = ap (map plain_item) c.in_ok-push-in-Some-as_step.ensures.ok ∙ map_append plain_item c.loop.items _ in
    record {
      all = ap (λ l. with_front l (seen_at (piece_of (plain_program c.args.program.now)) (lines c.in-Some.more.now))) pushed ∙ sym more ∙ c.loop.invariant.all;
      fewer = omega (arith, it.3);
    }

pub returns : goal.returns
returns c = none_left (piece_of (plain_program c.args.program.now)) (map plain_item c.loop.items) (lines c.loop.rest.now) _ (ap lines (empty c.loop.rest.now (omega arith))) c.loop.invariant.all
  where
    empty : (l : List ℕ) → length l ≡ 0 → l ≡ []
    empty [] e = refl
    empty (b ∷ l) e = cc
