use Rattle.std.proofs.Common.{◌≡◌, length, subst, ap, arith}
use Rattle.std.proofs.lemmas.List.{length-map}
use Rattle.mz_tree.specs.View.{plain_clause}
use Rattle.mz_decl.specs.Places.{IsFirst, IsBelow}
use Rattle.mz_decl.specs.View.{plain_decls}
use Rattle.mz_decl.proofs.Firsts.{first_below_next}
use Rattle.mz_modes.specs.Adopted.{StructureAdopts}
use Rattle.mz_modes.proofs.adopted.first_structure.Goals as goal

pub loop-k-preserved : goal.loop-k-preserved
loop-k-preserved c = first_below_next (StructureAdopts (plain_decls c.args.decls.now)) c.loop-k.k c.loop-k.first c.at_structure.result c.earlier-first.result c.loop-k.invariant c.at_structure.ensures c.earlier-first.ensures

pub returns : goal.returns
returns c =
    let end : c.loop-k.k ≡ length (plain_decls c.args.decls.now).written = omega (arith, c.len-k-end.ensures, ap length c.written.ensures, length-map c.written.result.now plain_clause) in
    subst (λ n. IsFirst (IsBelow (StructureAdopts (plain_decls c.args.decls.now)) n) c.loop-k.first) end c.loop-k.invariant
