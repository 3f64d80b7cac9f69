use Rattle.std.proofs.Common.{◌≡◌, length, subst, arith}
use Rattle.mz_tree.specs.View.{plain_program}
use Rattle.mz_decl.specs.Places.{IsFirst, IsBelow}
use Rattle.mz_decl.specs.Declarations.{OnDeclaration}
use Rattle.mz_decl.proofs.Firsts.{first_below_next}
use Rattle.mz_decl.proofs.faults.first_declaration.Goals as goal

pub loop-k-preserved : goal.loop-k-preserved
loop-k-preserved c = first_below_next (OnDeclaration (plain_program c.args.program.now)) c.loop-k.k c.loop-k.first c.at_declaration.result c.earlier-first.result c.loop-k.invariant c.at_declaration.ensures c.earlier-first.ensures

pub returns : goal.returns
returns c =
    let end : c.loop-k.k ≡ length c.args.program.now.varieties = omega arith in
    subst (λ n. IsFirst (IsBelow (OnDeclaration (plain_program c.args.program.now)) n) c.loop-k.first) end c.loop-k.invariant
