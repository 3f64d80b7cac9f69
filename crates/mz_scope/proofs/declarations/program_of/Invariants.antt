use Rattle.std.proofs.Common.{◌≡◌, drop, map}
use Rattle.mz_tree.specs.View.{plain_program}
use Rattle.mz_scope.specs.Declarations.{declarations}
use Rattle.mz_scope.specs.Growing.{with_program, declarations_behind}
use Rattle.mz_scope.specs.Trees.{declaration_tree}
use Rattle.mz_scope.specs.View.{made_of}
use Rattle.mz_scope.proofs.declarations.program_of.Given as goal

abbrev pub invariant-loop-i : goal.invariant-loop-i
invariant-loop-i l = declarations l.source.globals.now 0 0 0 0 (map (declaration_tree l.source.text.now) l.all) (made_of l.fn.making)
    ≡ with_program (plain_program l.program) (declarations_behind l.source.globals.now l.counts (map (declaration_tree l.source.text.now) (drop l.i l.all)) (made_of l.making))
