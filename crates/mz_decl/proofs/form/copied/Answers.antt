use Rattle.mz_decl.proofs.Made.{made}
use Rattle.mz_decl.proofs.form.copied.Goals as goal

pub returns : goal.returns
returns c = made c.args.program.now c.in_ok-varieties.varieties c.in_ok-cons.cons c.in_ok-sigs.sigs c.in_ok-fun_sigs.fun_sigs c.in_ok-written.written c.in_ok-varieties.ensures c.in_ok-cons.ensures c.in_ok-sigs.ensures c.in_ok-fun_sigs.ensures c.in_ok-written.ensures
