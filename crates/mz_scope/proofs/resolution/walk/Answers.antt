use Rattle.std.proofs.Common.{◌≡◌, map, subst}
use Rattle.mz_tree.specs.View.{plain_program}
use Rattle.mz_scope.specs.Making.{Came_to}
use Rattle.mz_scope.specs.Declarations.{declarations}
use Rattle.mz_scope.specs.Trees.{declaration_tree, tree_of}
use Rattle.mz_scope.specs.View.{made_of}
use Rattle.mz_scope.proofs.WalkEnds.{walked_came}
use Rattle.mz_scope.proofs.resolution.walk.Goals as goal

pub returns : goal.returns
returns c =
    let surface = c.args.surface.now in
    let g = c.in_ok-globals.globals in
    let p = c.in_ok-program.program in
    let m = made_of c.new-making.result in
    let m1 = made_of c.program_of.new.making in
    walked_came (tree_of surface) g m p c.program_of.new.making c.in_ok-globals.ensures c.new-making.ensures
    (subst (λ l. declarations g 0 0 0 0 (map (declaration_tree surface.text) l) m ≡ Came_to (plain_program p) m1) c.as_slice-2.ensures
    (subst (λ text. declarations g 0 0 0 0 (map (declaration_tree text) c.as_slice-2.result.now) m ≡ Came_to (plain_program p) m1) c.as_slice.ensures c.in_ok-program.ensures))
