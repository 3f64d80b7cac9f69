use Rattle.std.proofs.Common.{ap, ◌∙◌}
use Rattle.mz_tree.specs.Plain.{Has_atom, Lock_type, atoms_of}
use Rattle.mz_tree.specs.View.{plain_atoms}
use Rattle.mz_tree.proofs.Views.{plain_lock}
use Rattle.mz_decl.specs.View.{plain_decls}
use Rattle.mz_lockrule.proofs.Answering.{locks_answer}
use Rattle.mz_lockrule.proofs.new_lock.new_lock.Goals as goal

pub returns : goal.returns
returns c = locks_answer (plain_decls c.args.decls.now) c.args.state.now c.spend.new.state (plain_atoms c.args.guarded.now) c.args.to _ c.spend.result
    (ap (Has_atom c.args.to) (plain_lock c.in_ok-copy.field-0 ∙ ap (λ p. Lock_type (atoms_of (plain_atoms p))) c.in_ok-copy.ensures))
    (c.spend.ensures (plain_decls c.args.decls.now) c.requires)
