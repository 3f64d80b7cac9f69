use Rattle.std.proofs.Common.{◌≡◌, length, subst, arith}
use Rattle.mz_decl.specs.Places.{IsFirst, IsBelow}
use Rattle.mz_decl.specs.View.{plain_decls}
use Rattle.mz_decl.proofs.Firsts.{first_below_next}
use Rattle.mz_modes.specs.Adopted.{DeclarationAdopts}
use Rattle.mz_modes.proofs.adopted.first_declaration.Goals as goal

pub loop-k-preserved : goal.loop-k-preserved
loop-k-preserved c = first_below_next (DeclarationAdopts (plain_decls c.args.decls.now)) c.loop-k.k c.loop-k.first c.at_declaration.result c.earlier-first.result c.loop-k.invariant c.at_declaration.ensures c.earlier-first.ensures

pub returns : goal.returns
returns c =
    let end : c.loop-k.k ≡ length (plain_decls c.args.decls.now).varieties = omega (arith) in
    subst (λ n. IsFirst (IsBelow (DeclarationAdopts (plain_decls c.args.decls.now)) n) c.loop-k.first) end c.loop-k.invariant
