use Rattle.std.proofs.Common.{[], ◌∷◌, sym, ap, ◌∙◌}
use Rattle.mz_tree.specs.Programs.{Sig}
use Rattle.mz_tree.specs.View.{plain_atom, plain_atoms}
use Rattle.mz_decl.specs.Signatures.{needed, at_args}
use Rattle.mz_decl.specs.View.{plain_decls}
use Rattle.mz_lockrule.proofs.Answering.{spawns_answer}
use Rattle.mz_lockrule.proofs.spawn.spawn.Goals as goal

pub returns : goal.returns
returns c =
    let found = c.in-Some.ensures in
    spawns_answer (plain_decls c.args.decls.now) c.args.state.now c.spend.new.state (plain_atoms c.in_ok-wanted.wanted) c.args.to c.args.callee c.args.arg (plain_atom c.args.atom.now) c.spend.result
    found.0 (c.in_ok-wanted.ensures ∙ ap (λ (s : Sig). at_args (c.args.arg ∷ []) (needed s.needs)) (sym found.1)) (c.spend.ensures (plain_decls c.args.decls.now) c.requires)
