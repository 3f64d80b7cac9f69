use Rattle.std.proofs.Common.{sym, ap, ◌∙◌}
use Rattle.mz_tree.specs.View.{plain_ty, plain_atom}
use Rattle.mz_index.specs.Tests.{Passes}
use Rattle.mz_index.specs.Questions.{plain_test}
use Rattle.mz_index.proofs.Found.{says_if_ok}
use Rattle.mz_index.proofs.test.suits.Goals as goal

pub returns-else-label : goal.returns-else-label
returns-else-label c = λ R h. says_if_ok c.passes.result R c.args.name c.in-Has.subject (plain_ty c.in-Has.ty) (plain_atom c.args.atom.now) (Passes R (plain_test c.args.test.now)) (ap plain_atom c.in-Has.is) ((h c.args.name c.in-Has.subject).0 (sym c.label.ensures ∙ c.if-label.false ∙ c.label-in-Has.ensures)) (c.passes.ensures R h)
