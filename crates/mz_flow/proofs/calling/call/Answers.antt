use Rattle.std.proofs.Common.{refl}
use Rattle.mz_tree.specs.View.{plain_atom, plain_sig}
use Rattle.mz_decl.specs.View.{plain_decls}
use Rattle.mz_flow.specs.Commands.{Calls}
use Rattle.mz_flow.specs.Spending.{Spends}
use Rattle.mz_flow.proofs.Answering.{answers_alike}
use Rattle.mz_flow.proofs.Calls.{calls_to, calls_from, not_called}
use Rattle.mz_flow.proofs.calling.call.Goals as goal

pub returns-in-None : goal.returns-in-None
returns-in-None c = (not_called (plain_decls c.args.decls.now) c.args.state.now c.args.to c.args.callee c.len.result c.args.args.now (plain_atom c.args.atom.now) c.len.ensures c.in-None.ensures, refl)

pub returns-in-Some : goal.returns-in-Some
returns-in-Some c =
    let D = plain_decls c.args.decls.now in
    let R = c.args.state.now in
    let a = plain_atom c.args.atom.now in
    let sig = plain_sig c.in-Some.sig.now in
    answers_alike (λ which. Spends which D R c.args.to sig c.args.args.now) (λ which. Calls which D R c.args.to c.args.callee c.args.args.now a) R c.spend.new.state c.spend.result
    (calls_to D R c.args.to c.args.callee c.len.result c.args.args.now a sig c.len.ensures c.in-Some.ensures.0 c.in-Some.ensures.1)
    (calls_from D R c.args.to c.args.callee c.len.result c.args.args.now a sig c.len.ensures c.in-Some.ensures.0 c.in-Some.ensures.1)
    (c.spend.ensures D c.requires)
