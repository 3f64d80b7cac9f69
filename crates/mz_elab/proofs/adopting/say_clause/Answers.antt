use Rattle.mz_tree.specs.View.{plain_atom}
use Rattle.mz_elab.proofs.Adopters.{clause_put}
use Rattle.mz_elab.proofs.adopting.say_clause.Goals as goal

pub returns : goal.returns
returns c = clause_put c.args.state.now c.take_at-old.new.self c.insert.new.self c.args.place c.args.adopted (plain_atom c.take_at-old.result) (plain_atom c.atom_clause.result) c.requires c.take_at-old.ensures.taken c.take_at-old.ensures.rest c.atom_clause.ensures c.in_ok-insert.ensures.inserted
