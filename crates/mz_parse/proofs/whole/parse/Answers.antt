use Rattle.std.proofs.Common.{Ok, Err, refl, sym, subst}
use Rattle.mz_grammar.specs.Contract.{IsRight}
use Rattle.mz_types.specs.Stops.{cause}
use Rattle.mz_types.specs.Words.{turn}
use Rattle.mz_parse.specs.declared.tree.SyntaxFault.{SyntaxFault}
use Rattle.mz_parse.specs.Grammar.{IsProgram}
use Rattle.mz_parse.specs.Parses.{limit, Faults, Refuses}
use Rattle.mz_parse.specs.Stops.{fault_at}
use Rattle.mz_parse.proofs.WholeSources.{cause_at, refuses_fault, tree_no_fault}
use Rattle.mz_parse.proofs.whole.parse.Goals as goal

-- where it stopped is the one fault
pub returns-in-Err-clause-refuses : goal.returns-in-Err-clause-refuses
returns-in-Err-clause-refuses c =
    let right : IsRight turn limit IsProgram cause c.args.tokens.now.items (Err c.in-Err.stop) = subst (λ ts. IsRight turn limit IsProgram cause ts (Err c.in-Err.stop)) c.as_slice.ensures c.in-Err.ensures.right in
    subst (λ named. (fault : SyntaxFault) → Faults c.args.tokens.now fault → Refuses (Err named) fault) (sym c.fault.ensures)
    (refuses_fault c.args.tokens.now (fault_at c.args.tokens.now c.in-Err.stop) (cause_at c.args.tokens.now c.in-Err.stop right))

-- a tree has no fault
pub returns-clause-refuses : goal.returns-clause-refuses
returns-clause-refuses c =
    let right : IsRight turn limit IsProgram cause c.args.tokens.now.items (Ok c.in-Ok.declarations) = subst (λ ts. IsRight turn limit IsProgram cause ts (Ok c.in-Ok.declarations)) c.as_slice.ensures c.in-Ok.ensures.right in
    λ fault faults. tree_no_fault c.args.tokens.now (record { text = c.args.tokens.now.text; declarations = c.in-Ok.declarations }) fault (record { text = refl; spelled = right.0 }) right.1 faults
