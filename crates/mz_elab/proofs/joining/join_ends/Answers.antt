use Rattle.std.proofs.Common.{ap, sym, subst}
use Rattle.mz_tree.specs.View.{plain_atoms}
use Rattle.mz_decl.specs.View.{plain_decls}
use Rattle.mz_elab.specs.Standing.{IsKnown}
use Rattle.mz_elab.specs.Joining.{AreOuter}
use Rattle.mz_elab.proofs.Joined.{joined}
use Rattle.mz_elab.proofs.joining.join_ends.Goals as goal

pub returns : goal.returns
returns c = λ names s.
    let D = plain_decls c.args.decls.now in
    let outer = c.in_ok-outer.ensures names s in
    joined D (IsKnown c.args.bound.now c.args.next) names c.args.before.now c.args.to (plain_atoms c.args.giving.now) c.args.ends.now c.give_all.new.ends c.know_value.new.ends c.share.new.ends c.restore.new.ends c.in_ok-join.join c.know_value.new.join c.share.new.join c.restore.new.join c.in_ok-these.these
    c.in_ok-give_all.ensures (ap plain_atoms c.in_ok-join.ensures) (c.in_ok-know_value.ensures names c.args.before.now s outer) c.in_ok-these.ensures (c.in_ok-share.ensures D names c.args.before.now c.requires (subst (λ l. AreOuter l names c.args.before.now) (sym c.as_slice.ensures) outer)) c.in_ok-restore.ensures
