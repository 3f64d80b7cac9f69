use Rattle.std.proofs.Common.{◌+◌, length, drop, refl, sym, ap, ◌∙◌, subst, vec_len, replicate}
use Rattle.std.proofs.lemmas.List.{drop_all}
use Rattle.mz_words.specs.Tickets.{prints_among}
use Rattle.mz_print.specs.Prints.{all_entries}
use Rattle.mz_print.proofs.Placing.{placed, AreBelow, below_parts, placed_part, below_rest, placed_print, prints_placed}
use Rattle.mz_print.proofs.printing.prints.Goals as goal

pub loop-entry-init : goal.loop-entry-init
loop-entry-init c =
    let part = c.index-parts-k.result in
    let same = ap (λ it. it.entries.now) c.into_iter-entry-iterator.ensures.into_iter_gives ∙ c.iter-entry-items.ensures in
    let below = below_parts (vec_len c.in_ok-numbers.numbers) c.as_slice-parts.result.now c.loop-k.k part c.loop-k-test.true c.index-parts-k.is c.loop-k.invariant.within in
    record {
      long = refl;
      within = subst (λ n. AreBelow n (prints_among c.into_iter-entry-iterator.result.entries.now)) (sym c.loop-k.invariant.long)
          (subst (λ es. AreBelow (vec_len c.in_ok-numbers.numbers) (prints_among es)) (sym same) below.0);
      places = refl;
    }

pub loop-entry-preserved-then-is_print : goal.loop-entry-preserved-then-is_print
loop-entry-preserved-then-is_print c =
    let e = c.in-Some.entry.now in
    let left = c.loop-entry.entry-iterator.entries.now in
    let rest = c.next.new.self.entries.now in
    let here = c.in-Some.ensures.steps in
    let print = sym c.is_print.ensures ∙ c.if-is_print.true in
    record {
      long = c.loop-entry.invariant.long;
      within = below_rest (vec_len c.loop-k.numbers) left rest e here c.loop-entry.invariant.within;
      places = sym (placed_print left rest e c.loop-entry.numbers.items here print) ∙ c.loop-entry.invariant.places;
    }

pub loop-k-preserved : goal.loop-k-preserved
loop-k-preserved c =
    let part = c.index-parts-k.result in
    let parts = c.as_slice-parts.result.now in
    let same = ap (λ it. it.entries.now) c.into_iter-entry-iterator.ensures.into_iter_gives ∙ c.iter-entry-items.ensures in
    let below = below_parts (vec_len c.in_ok-numbers.numbers) parts c.loop-k.k part c.loop-k-test.true c.index-parts-k.is c.loop-k.invariant.within in
    let none = c.in-None.ensures.steps.0 in
    let done = ap (λ es. placed es c.loop-entry.numbers.items) (sym none) ∙ c.loop-entry.invariant.places ∙ ap (λ es. placed es c.loop-k.numbers.items) same in
    record {
      long = c.loop-entry.invariant.long ∙ c.loop-k.invariant.long;
      within = below.1;
      places = ap (placed (all_entries (drop (c.loop-k.k + 1) parts))) done ∙ sym (placed_part parts c.loop-k.k part c.loop-k-test.true c.index-parts-k.is c.loop-k.numbers.items) ∙ c.loop-k.invariant.places;
    }

pub returns : goal.returns
returns c =
    let parts = c.as_slice-parts.result.now in
    let n = c.in_ok-count_prints.field-0 in
    let zeros = c.in_ok-numbers.ensures.items_if_clones_equal (λ y e. e) in
    let many = c.in_ok-count_prints.ensures ∙ ap (λ x. length (prints_among (all_entries x))) c.as_slice-parts.ensures in
    let done = ap (λ x. placed (all_entries x) c.loop-k.numbers.items) (sym (drop_all c.loop-k.k parts c.loop-k-test.false)) ∙ c.loop-k.invariant.places in
    prints_placed c.args.report.now c.loop-k.numbers.items c.requires
    (done ∙ ap (λ x. placed (all_entries x) c.in_ok-numbers.numbers.items) c.as_slice-parts.ensures ∙ ap (placed (all_entries c.args.report.now.parts)) (zeros ∙ ap (λ m. replicate m 0) many))
