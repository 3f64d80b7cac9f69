use Rattle.std.proofs.Common.{ap}
use Rattle.mz_tree.specs.Plain.{Same_atom}
use Rattle.mz_tree.specs.View.{plain_atom}
use Rattle.mz_decl.specs.View.{plain_decls}
use Rattle.mz_view.proofs.Changes.{renames}
use Rattle.mz_view.proofs.changing.rename.Goals as goal

pub returns : goal.returns
returns c = renames (plain_decls c.args.decls.now) c.args.state.now c.exchange.new.state (plain_atom c.args.atom.now) (plain_atom c.in_ok-new.new) (Same_atom c.subject.result c.args.to) c.args.to c.exchange.result
    (ap (λ x. Same_atom x c.args.to) c.subject.ensures) (c.has.ensures.0 c.if-not-has.false) c.in_ok-new.ensures c.exchange.ensures
