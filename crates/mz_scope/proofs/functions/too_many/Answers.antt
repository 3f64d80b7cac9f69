use Rattle.std.proofs.Common.{sym, ap, subst, arith}
use Rattle.mz_scope.specs.declared.fault.Cause.TheVariants.{TooMany}
use Rattle.mz_scope.specs.declared.making.CoreName.{CoreName}
use Rattle.mz_scope.specs.Making.{add_fault}
use Rattle.mz_scope.specs.Declarations.{too_many}
use Rattle.mz_scope.specs.View.{made_of, Comes, as_is}
use Rattle.mz_scope.proofs.FunSteps.{few, many}
use Rattle.mz_scope.proofs.functions.too_many.Goals as goal

pub returns-then-names-le256 : goal.returns-then-names-le256
returns-then-names-le256 c = ap (λ o. too_many o (made_of c.args.making.now)) (few c.args.names.now (omega arith))

pub returns : goal.returns
returns c =
    subst (λ o. Comes as_is (too_many o) c.args.making.now c.fault.result c.fault.new.self) (sym (many c.args.names.now c.index-names-256.result (omega arith) c.index-names-256.is))
    (subst (λ (past : CoreName). Comes as_is (add_fault TooMany past.place) c.args.making.now c.fault.result c.fault.new.self) (sym c.index-names-256.is) c.fault.ensures)
