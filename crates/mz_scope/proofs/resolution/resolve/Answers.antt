use Rattle.std.proofs.Common.{sym, ◌∙◌}
use Rattle.mz_scope.specs.Trees.{tree_of}
use Rattle.mz_scope.proofs.WalkEnds.{first_walked, all_well, main_wanting}
use Rattle.mz_scope.proofs.resolution.resolve.Goals as goal

pub returns-in-Some : goal.returns-in-Some
returns-in-Some c =
    let tree = tree_of c.args.surface.now in
    c.answer.ensures tree (first_walked tree c.in-Ok.walked c.as_slice.result.now c.in-Some.fault c.in-Ok.ensures c.as_slice.ensures c.in-Some.ensures)

pub returns-then-has_main : goal.returns-then-has_main
returns-then-has_main c = all_well (tree_of c.args.surface.now) c.in-Ok.walked c.in-Ok.ensures (sym c.as_slice.ensures ∙ c.in-None.ensures) (sym c.has_main.ensures ∙ c.if-has_main.true)

pub returns-else-has_main : goal.returns-else-has_main
returns-else-has_main c = main_wanting (tree_of c.args.surface.now) c.in-Ok.walked c.in-Ok.ensures (sym c.as_slice.ensures ∙ c.in-None.ensures) (sym c.has_main.ensures ∙ c.if-has_main.false)
