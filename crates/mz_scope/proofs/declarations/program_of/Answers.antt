use Rattle.std.proofs.Common.{◌+◌, drop, map, ap, ◌∙◌, arith}
use Rattle.std.proofs.Math.ListN.{drop_of_length-le}
use Rattle.mz_tree.specs.View.{plain_program}
use Rattle.mz_scope.specs.Growing.{with_program, declarations_behind}
use Rattle.mz_scope.specs.Trees.{declaration_tree}
use Rattle.mz_scope.specs.View.{made_of}
use Rattle.mz_scope.proofs.Lists.{drop_here}
use Rattle.mz_scope.proofs.GrowSteps.{program_begins, program_ends}
use Rattle.mz_scope.proofs.declarations.program_of.Goals as goal

pub loop-i-init : goal.loop-i-init
loop-i-init c = program_begins (plain_program c.no_program-program.result) _ c.no_program-program.ensures

pub loop-i-preserved : goal.loop-i-preserved
loop-i-preserved c =
    let g = c.args.source.now.globals.now in
    let bytes = c.args.source.now.text.now in
    let all = c.args.all.now in
    let i = c.loop-i.i in
    c.loop-i.invariant
    ∙ ap (λ l. with_program (plain_program c.loop-i.program) (declarations_behind g c.loop-i.counts (map (declaration_tree bytes) l) (made_of c.loop-i.making))) (drop_here all i c.index-all-i.result (omega arith) c.index-all-i.is)
    ∙ c.in_ok-add.ensures (map (declaration_tree bytes) (drop (i + 1) all))

pub returns : goal.returns
returns c =
    let g = c.args.source.now.globals.now in
    let bytes = c.args.source.now.text.now in
    c.loop-i.invariant
    ∙ ap (λ l. with_program (plain_program c.loop-i.program) (declarations_behind g c.loop-i.counts (map (declaration_tree bytes) l) (made_of c.loop-i.making))) (drop_of_length-le c.args.all.now (omega arith))
    ∙ program_ends g c.loop-i.counts (plain_program c.loop-i.program) (made_of c.loop-i.making)
