use Rattle.std.proofs.Common.{refl, IsTrue}
use Rattle.mz_tree.specs.View.{plain_atom}
use Rattle.mz_decl.specs.View.{plain_decls}
use Rattle.mz_view.proofs.Changes.{exchanged, not_exchanged}
use Rattle.mz_view.proofs.changing.exchange.Goals as goal

pub returns-then-not-has : goal.returns-then-not-has
returns-then-not-has c = (λ T. not_exchanged (plain_decls c.args.decls.now) c.args.state.now T (plain_atom c.args.atom.now) (plain_atom c.args.new) (λ i. let h : IsTrue c.has.result = c.has.ensures.1 i in cc), refl)

pub returns : goal.returns
returns c = exchanged (plain_decls c.args.decls.now) c.args.state.now c.add.new.self c.remove.new.self (plain_atom c.args.atom.now) (plain_atom c.args.new) c.remove.result (c.has.ensures.0 c.if-not-has.false) c.in_ok-add.ensures.added (c.if-duplicable.ensures (plain_decls c.args.decls.now) c.requires) c.remove.ensures
