use Rattle.mz_decl.specs.View.{plain_decls}
use Rattle.mz_elab.proofs.Adopters.{has_adopter}
use Rattle.mz_elab.proofs.adopting.find_adopter.Goals as goal

pub returns : goal.returns
returns c = has_adopter (plain_decls c.args.decls.now) c.args.state.now c.args.name c.in_ok-at.at c.adopted_at-adopted.result c.say_clause.new.state c.in_ok-at.ensures c.adopted_at-adopted.ensures c.in_ok-say_clause.ensures
